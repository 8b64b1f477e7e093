-- What is proved of the listing.
-- of a line above 64 bytes the first 65 tell all
pub mod KeptLaws
-- the listing byte by byte, and in pieces
pub mod FeedLaws
-- single lines that are calls or broken
pub mod Corners
-- whole inputs
pub mod WholeCase
-- what the functions do: a printed line, and where a listing stands
pub mod LineLaws
pub mod StandLaws
