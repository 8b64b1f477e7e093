-- What is proved of sets of changes. Other crates cite a file X here as Rattle.sets.proofs.X.
-- walks over the members of a set, the lowest first
pub mod WalkLaws
-- four words as a set
pub mod Words
-- what callers want of the members
pub mod MemberLaws
-- the tests of whole words
pub mod TestLaws
-- a set as 32 bytes
pub mod Bytes
-- tests gathered byte by byte
pub mod GatherLaws
-- passes come to the closure of the rules
pub mod ClosureLaws
-- what spreads along rows in which ties are noted
pub mod SpreadLaws
