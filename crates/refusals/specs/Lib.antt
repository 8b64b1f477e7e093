-- Refusals that several calls share.
pub mod Shared
