-- Sorted rows of four bytes.
pub mod Rows
