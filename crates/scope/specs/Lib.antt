-- The entries that a delegate names, and what goes over on them.
pub mod Entries
