-- Clashing pairs and their permits: what the functions' contracts say.
pub mod LocksAndPermits
pub mod Permits
pub mod Contested
