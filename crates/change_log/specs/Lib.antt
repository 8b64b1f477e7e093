-- What undoing one log record comes to.
pub mod Undone
