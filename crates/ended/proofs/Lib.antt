-- What is proved of changes that end.
-- changes of a set ended, and their log records withdrawn
pub mod EndLaws
