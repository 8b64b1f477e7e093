-- What is proved of the table of ties.
-- ties as rows; the ties left are the rules', and a tie that stands is not entered again
pub mod TieLaws
