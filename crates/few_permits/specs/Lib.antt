-- An entry with few permits: what the functions' contracts say.
pub mod Rows
pub mod Each
