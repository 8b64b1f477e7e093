-- What is proved of an entry with few permits.
-- a test of each member of a set
pub mod EachLaws
pub mod NoteLaws
-- permits as rows and as bytes
pub mod RowLaws
