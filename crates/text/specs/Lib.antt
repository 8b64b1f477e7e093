-- Text as bytes: numbers in decimal, and parts of it.
pub mod Decimal
pub mod Parts
