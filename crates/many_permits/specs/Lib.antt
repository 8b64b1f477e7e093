-- An entry with many permits: what the functions' contracts say.
pub mod Named
