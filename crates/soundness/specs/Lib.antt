-- The figures read from a window's header.
pub mod Read
