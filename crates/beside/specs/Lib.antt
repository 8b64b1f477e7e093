-- Whom permits let stand beside a writer: what the functions' contracts say.
pub mod Permits
pub mod Beside
