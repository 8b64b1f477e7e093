-- What is proved of replies. Other crates cite a file X here as Rattle.replies.proofs.X.
pub mod GiveLaws
pub mod RefusedLaws
