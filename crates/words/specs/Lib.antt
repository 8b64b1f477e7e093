-- What four words say as a set.
pub mod Members
