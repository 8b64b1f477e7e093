-- What is proved of an entry with many permits.
-- permits one after the other, and block by block
pub mod BlockLaws
-- those to anybody, and those that name a writer
pub mod NamedLaws
