-- The line's section of sound windows: what the tests on bytes come to.
pub mod LineLaws
