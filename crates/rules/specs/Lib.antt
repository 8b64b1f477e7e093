-- The rules of the change window: what is to be believed, in the order of docs/RULES.md.
-- tests, lists, orders; sets and least closed sets
pub mod Base
pub mod Sets
-- "What a window holds"
pub mod Window
pub mod Locks
pub mod Ties
pub mod Line
pub mod Sound
-- orders of a set under a relation; a sheet of commit order, which no call gives yet
pub mod Orders
pub mod Sheet
-- "The calls"
pub mod Calls
pub mod Effects
-- "Turned back, in checking order"
pub mod Refusals
-- "Lists of calls": the words of demand 3, and the demand
pub mod Events
pub mod Lists
-- "What the lines are held to": who waits on an entry, and in which order they are granted
pub mod Waiting
