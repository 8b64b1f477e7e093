-- What is proved of clashing pairs and their permits.
-- a part of a section of permits, and the order of entries
pub mod PlaceLaws
-- one entry: whether a writer has another holder beside it
pub mod ContestedLaws
-- what the code finds is what the rules say
pub mod ClashLaws
