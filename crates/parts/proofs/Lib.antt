-- What is proved of sections taken together.
-- the bytes of the ties, as the code takes them
pub mod RelatedLaws
