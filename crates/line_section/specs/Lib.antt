-- What the line's section of a sound window is; and what is asked of its bytes.
pub mod Sections
pub mod Fits
