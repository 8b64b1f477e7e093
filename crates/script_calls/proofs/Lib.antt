-- Laws of the calls that a script asks for. Other crates cite a file X here as Rattle.script_calls.proofs.X.
pub mod MakeLaws
