-- Sets of changes: what a set's words say, its 32 bytes, and its closure along ties.
pub mod Members
pub mod Closure
