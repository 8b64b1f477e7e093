-- What is proved of reading a sound window. Other crates cite a file X here as Rattle.reads.proofs.X.
pub mod ReadLaws
