-- What is proved of the rules, by subject. Other crates cite a file X here as Rattle.rules.proofs.X.
-- the starred calls and others by computation; a sound window and single faults; the words of demand 3 and of the lines on three lists
pub mod Computing
pub mod Cases
pub mod SoundCases
pub mod ListCases
-- tests, numbers below a bound, walks that ask a test of one number after the other and what one test decides, lists, orders, sets, ties, lines and the order in them
pub mod BaseLaws
pub mod BoundLaws
pub mod TurnLaws
pub mod ListLaws
pub mod SortLaws
pub mod SetLaws
pub mod TieLaws
pub mod LineLaws
pub mod LineOrder
-- least closed sets and acyclic ties, by paths
pub mod PathLaws
pub mod SourceLaws
-- orders of a set: the listed ones, how many, the lowest first, and by which bounds and relations they are the same
pub mod OrderLaws
pub mod OrderLists
pub mod RankLaws
pub mod WaysLaws
pub mod AgreeLaws
-- a call turned back changes nothing, a blocked one its place in line at most; figures for any table size
pub mod RuleLaws
pub mod SizeLaws
-- the test for a clash, and the clashing pairs of a window
pub mod PairLaws
-- what a withdrawal makes of values and log, record by record and by places
pub mod UndoLaws
-- every call keeps a window sound (SoundStep.step-sound), one file for each kind of effect
pub mod SoundParts
pub mod SoundPlain
pub mod SoundLine
pub mod SoundLock
pub mod SoundPermit
pub mod SoundDelegate
pub mod SoundDepend
pub mod SoundEnd
pub mod SoundStep
-- groups, the set that an abort ends and arrows, by paths; demand 2: when a change commits, what a withdrawal puts back and strikes, when a lock is granted and whom a blocked one names, what a lock does to the lines
pub mod Promises
pub mod LockPromises
pub mod LineWords
-- demand 1: the first refusal that applies is the lowest (RefusalLaws), and which one a call gets, in words (RefusalWords.call_refused)
pub mod TellLaws
pub mod SaidLaws
pub mod RefusalLaws
pub mod RefusalWords
-- demand 2 in words of the window: the second numbers, and what a delegate moves
pub mod Numbers
pub mod DelegateLaws
-- a sheet of commit order, which no call gives yet: its places, and the number of orders
pub mod SheetLaws
pub mod SheetOrders
-- demand 3 of the rules (Demand.rules_kept); DemandAlike carries it to whatever answers alike
pub mod DemandMoves
pub mod DemandEnds
pub mod DemandTies
pub mod DemandBook
pub mod DemandWalks
pub mod Demand
pub mod DemandGroups
pub mod DemandAlike
-- what the lines are held to, of the rules (WaitingKept.rules_queued): no later comer is granted first, and the first in line is served
pub mod WaitingMoves
pub mod WaitingLaws
pub mod WaitingKept
