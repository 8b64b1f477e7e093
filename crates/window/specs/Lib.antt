-- Lists of calls as a program makes them.
pub mod Seen
