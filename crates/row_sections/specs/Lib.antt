-- What the sections of permits and of ties of a sound window are; and what is asked of their bytes.
pub mod Sections
pub mod Fits
