-- What each section of a sound window is, but for the line, permits and ties; and what is asked of its bytes.
pub mod Sections
pub mod Fits
