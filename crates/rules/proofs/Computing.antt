-- One name that opens the definitions on which a step of the rules, the answers of a list and the order of tables rest, for proofs by computation. Assumes nothing.
use Rattle.rules.specs.Base.{put, put2, exceeds, all_below, any_below, count_below, lowest_below, lowest_or_zero, table, all, any, keep, insert, rising, and_then, order, is_lt, by_order, outside, distinct}
use Rattle.rules.specs.Sets.{only, put_all, grow, times, closure, reach}
use Rattle.rules.specs.Window.{limits, fresh, permit_key, tie_key, with_value, with_status, with_held, with_log, with_permits, with_ties, with_line, running, live, no_entry, no_change}
use Rattle.rules.specs.Locks.{make_permit, add_permit, unite_permits, clashes_permitted, clashing, blocking, blocker_of, either_permits, permitted, clash, contains}
use Rattle.rules.specs.Ties.{is_wait, end_set, group_of, acyclic, leading, falling, grouped, is_group, is_fall, is_arrow, tied, add_tie, make_tie}
use Rattle.rules.specs.Line.{make_waiter, waits_elsewhere, first_in_line, other_first, enter_line, stays_in_line, line_left}
use Rattle.rules.specs.Calls.{unchanged, done, blocked}
use Rattle.rules.specs.Effects.{covers, lock_entry, add_record, write_entry, commit_change, abort_change, effect, add_change, put_held, hand_over, move_held, moved_record, move_log, permit_given, permit_moves, permit_kept, moved_permit, move_permits, entries_named, abort_all, commit_group, size, leads_to, leaders_of, commit_blockers, released, is_unowned, unowned, permit_stays, permits_left, tie_stays, ties_left, end_all, owned_on, undo, is_elsewhere, records_left, withdraw, lock_blocker, in_the_way, every, leave, complete_change, lock_granted, wait}
use Rattle.rules.specs.Refusals.{step, settle, checks, first_failed, ◌if◌}
use Rattle.rules.specs.Lists.{answers}

unfoldable pub rules : Unit {0}
unfolding put put2 exceeds all_below any_below count_below lowest_below table all any keep insert rising and_then order is_lt by_order fresh permit_key tie_key with_value with_status with_held with_log with_permits with_ties only grow times closure reach answers step settle effect covers lock_entry add_record write_entry commit_change abort_change checks first_failed ◌if◌ make_permit add_change put_held hand_over move_held moved_record move_log permit_given permit_moves permit_kept moved_permit move_permits entries_named abort_all commit_group size leads_to leaders_of commit_blockers put_all released is_unowned unowned permit_stays permits_left tie_stays ties_left end_all owned_on undo is_elsewhere records_left withdraw end_set group_of acyclic leading falling grouped is_wait is_group is_fall is_arrow tied add_tie make_tie add_permit unite_permits clashes_permitted lock_blocker in_the_way clashing blocking blocker_of either_permits lowest_or_zero permitted clash contains running live outside every no_entry no_change unchanged done limits distinct with_line make_waiter waits_elsewhere first_in_line other_first enter_line stays_in_line line_left blocked leave complete_change lock_granted wait
rules = tt
