-- What is proved of groups, end sets and leaders.
-- what is reached along the ties of a section; leaders of ties to a set
pub mod ReachLaws
-- paths along ties; when one tie more lets a path of arrows return
pub mod WayLaws
pub mod ReturnLaws
