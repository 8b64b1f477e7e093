-- What is proved of what a delegate hands over. Other crates cite a file X here as Rattle.handed.proofs.X.
-- a draft put into the window
pub mod DraftLaws
-- a draft handed over, as it is judged
pub mod JudgeLaws
