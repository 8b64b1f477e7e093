-- Laws of sections with a fixed place for each number. Other crates cite a file X here as Rattle.places.proofs.X.
-- any section of places: a place read, a byte and a place stored
pub mod PlaceLaws
-- figures, values, statuses and parents, read and stored
pub mod TableLaws
-- statuses of a set of changes, and the changes of some statuses
pub mod StatusLaws
-- rows of bytes cut from a section
pub mod RowLaws
