-- Ties gone along: what a pass over them adds to a set, and the rows in which they are noted.
pub mod Passes
pub mod TieRows
