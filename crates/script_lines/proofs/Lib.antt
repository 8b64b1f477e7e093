-- Laws of a script's lines.
-- a line taken apart at its commas
pub mod PartLaws
-- the search for a text among the names
pub mod NameLaws
-- the reply to a line
pub mod LineLaws
