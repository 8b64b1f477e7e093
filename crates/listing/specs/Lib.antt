-- What the script program prints.
pub mod Listing
pub mod Feed
pub mod Pieces
pub mod Stands
