-- What is proved of permits and of those whom they let stand beside a writer. Other crates cite a file X here as Rattle.beside.proofs.X.
-- permits by their places
pub mod PlaceLaws
-- the test for a clash
pub mod BlockerLaws
-- the writers of an entry one after the other
pub mod WriterLaws
