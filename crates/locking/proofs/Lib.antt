-- What is proved of the lock on a window's bytes.
-- what is known of the arguments of a lock that is not refused
pub mod ArgumentLaws
-- who keeps a lock from being granted
pub mod LockLaws
-- covered, granted or blocked
pub mod OutcomeLaws
