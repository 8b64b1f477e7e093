-- What is proved of locks in bytes. Other crates cite a file X here as Rattle.locks.proofs.X.
-- the lock section by its bits, and by its rows
pub mod BitLaws
pub mod SectionLaws
-- modes and the numbers that they stand for
pub mod ModeLaws
-- one row's locks as two sets
pub mod RowLaws
-- the locks changed by entries, and a walk over them
pub mod ChangeLaws
pub mod WalkLaws
-- a set of changes against the locks of one entry, by bytes
pub mod TouchLaws
