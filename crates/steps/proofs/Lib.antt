-- What is proved of the calls on a sound window's bytes.
pub mod LookLaws
