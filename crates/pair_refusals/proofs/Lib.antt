-- What is proved of the refusals of calls that name two changes. Other crates cite a file X here as Rattle.pair_refusals.proofs.X.
pub mod PairLaws
