-- Parts of a list of bytes, numbers in bytes, and the bits of bytes.
pub mod Part
pub mod Num
pub mod Bits
