-- What is proved of arrows between groups.
-- ties in rows of four bytes, and whether one of them is an arrow
pub mod RowLaws
-- two changes have one label just where they are of one group
pub mod LabelLaws
-- arrows close no cycle just where taking away what none comes to leaves nothing
pub mod CycleLaws
-- and that is what the rules call acyclic
pub mod TieGraph
-- how many arrows come to a label, and the last from one
pub mod CountLaws
-- arrows linked one by one, and those from a label removed
pub mod LinkLaws
pub mod RemovalLaws
-- labels taken away until each that is left is blocked
pub mod EliminationLaws
