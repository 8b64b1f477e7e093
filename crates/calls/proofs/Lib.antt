-- What is proved of the calls on lent memory.
pub mod FreshLaws
pub mod OpenLaws
pub mod LentLaws
