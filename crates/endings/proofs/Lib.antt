-- What is proved of commit and abort.
-- what a commit and an abort give
pub mod CallLaws
