-- The sections of permits and of ties of sound windows: what the tests on bytes come to.
-- rows walked in rising order
pub mod RiseLaws
-- sound records in rising order, and zeros
pub mod TableLaws
