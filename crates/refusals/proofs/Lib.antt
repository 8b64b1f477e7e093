-- What is proved of the refusals. Other crates cite a file X here as Rattle.refusals.proofs.X.
pub mod RefusalLaws
