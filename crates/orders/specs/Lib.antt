-- What the contracts of this crate cite.
-- how many orders there are, by the sets of what is left
pub mod Ways
-- labels by their ranks
pub mod Ranks
