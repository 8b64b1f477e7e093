-- The sections of sound windows: what the tests on bytes come to.
-- bytes joined to numbers
pub mod ByteLaws
-- the values, the header, the changes
pub mod PlaceLaws
pub mod HeadLaws
pub mod ChangeLaws
-- an entry's locks, all locks, and the log beside them
pub mod RowLaws
pub mod LockLaws
pub mod LogLaws
