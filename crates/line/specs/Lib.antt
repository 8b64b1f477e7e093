-- A place in line as a row of four bytes, and who is found there.
pub mod Line
