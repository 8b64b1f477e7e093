-- Laws of text. Other crates cite a file X here as Rattle.text.proofs.X.
-- numbers in decimal, read and printed
pub mod DecimalLaws
pub mod ShownLaws
pub mod ReadBack
