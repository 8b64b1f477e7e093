-- What is proved of a delegate.
pub mod DelegateLaws
