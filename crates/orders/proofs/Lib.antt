-- What is proved of the number of orders.
-- sums over a set
pub mod SumLaws
-- sets as masks
pub mod MaskLaws
-- the numbers of sets, each by those of lower ones
pub mod CountLaws
-- what the members of sets lead
pub mod BlockLaws
-- labels by their ranks, and arrows between them
pub mod RankLaws
