-- What is proved of the soundness check.
-- the sections of sound bytes together are the bytes of a sound window
pub mod Assembly
-- what each test says of sound bytes; memory that begins with a window
pub mod CheckLaws
pub mod MemoryLaws
