-- What is proved of rows. Other crates cite a file X here as Rattle.rows.proofs.X.
-- rows and their bytes
pub mod RowLaws
-- keys and their ranks, a row put behind, before or in place of another
pub mod OrderLaws
-- the place of a key: what a row put there makes of the rows, and whether one of its key stands
pub mod PlaceLaws
-- a gap filled; rows closed up
pub mod StoreLaws
pub mod CloseLaws
-- records of any width that a test lets stay
pub mod RetainLaws
-- the place of a key as std finds it
pub mod SearchLaws
-- what adding a row comes to
pub mod AddLaws
-- the same of tables of records that are rows, as permits and ties are
pub mod TableLaws
