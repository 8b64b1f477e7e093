-- What is proved of the lines of a window in their section.
-- the first record of an entry or of a change
pub mod FoundLaws
-- a record found, entered, taken out
pub mod LineLaws
