-- What is proved of four words. Other crates cite a file X here as Rattle.words.proofs.X.
-- the bits of words
pub mod BitLaws
