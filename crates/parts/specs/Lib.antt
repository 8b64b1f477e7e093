-- Sections of a sound window's bytes, taken together.
pub mod Parts
