-- What is proved of the table of permits.
-- permits as rows; the permits left are the rules'
pub mod PermitLaws
-- the hand-over: rows given one after the other, and what that makes of the permits
pub mod GiveLaws
pub mod HandLaws
-- rows cut from the bytes
pub mod CutLaws
-- the walk over an entry's rows
pub mod GiverLaws
