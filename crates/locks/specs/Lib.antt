-- Locks in the lent section: what the functions' contracts say.
pub mod Held
pub mod Modes
pub mod Entry
