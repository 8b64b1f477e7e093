-- What is proved of passes over ties. Other crates cite a file X here as Rattle.passes.proofs.X.
-- what ties add to a set, one by one and in passes
pub mod PassLaws
-- ties noted in rows
pub mod NoteLaws
