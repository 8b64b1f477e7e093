-- What the contracts of this crate cite.
-- arrows between labelled groups
pub mod Graph
-- arrows in lists, with counts
pub mod Links
