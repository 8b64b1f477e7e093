-- Laws of parts, of numbers in bytes and of records that close up. Other crates cite a file X here as Rattle.cells.proofs.X.
-- a part read after a write; stores one by one are a patch; one element more
pub mod PartLaws
-- a table with a part replaced
pub mod TableLaws
-- a number's bytes, and the number of bytes
pub mod NumLaws
-- the digits of a number; those of a number in bytes
pub mod Digits
pub mod WordLaws
-- a range that is zero, by its elements; a table with zeros past it
pub mod ZeroLaws
-- records of any width closed up in place
pub mod CloseLaws
