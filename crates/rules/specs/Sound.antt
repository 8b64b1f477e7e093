-- docs/RULES.md, "A window is sound when", in its order. Assumes nothing.
use Rattle.std.specs.Prelude.{Bool, not, cond, ◌&&◌, ◌||◌, List, [], ◌∷◌, ℕ, suc, ◌^◌, leb, ltb, eqb, length}
use Rattle.rules.specs.Base.{exceeds, outside, all_below, all, rising, distinct}
use Rattle.rules.specs.Sets.{Set}
use Rattle.rules.specs.Window.{Limits, LogRecord, PermitRecord, TieRecord, LineRecord, Window, not_given, live, running, permit_key, tie_key}
use Rattle.rules.specs.Locks.{clashes_permitted}
use Rattle.rules.specs.Ties.{is_group, acyclic}

-- "Values are unsigned 32-bit numbers"; the place of no entry has 0
unfoldable pub value_sound : ℕ → (ℕ → ℕ) → ℕ → Bool
value_sound entries value e = ltb (value e) (2 ^ 32) && (ltb e entries || eqb (value e) 0)

-- "Status: 1 … 5"; the place of no change, 0 or above the highest given, has 0
unfoldable pub status_sound : ℕ → (ℕ → ℕ) → ℕ → Bool
status_sound given status c = cond (not_given given c) (eqb (status c) 0) (not (outside 1 5 (status c)))

-- "The parent is 0 or a change", "parents are lower than their children"; the place of no change has 0
unfoldable pub parent_sound : ℕ → (ℕ → ℕ) → ℕ → Bool
parent_sound given parent c = cond (not_given given c) (eqb (parent c) 0) (ltb (parent c) c)

-- "for each entry and change 0 none, 1 read or 2 write", "locks … are live"
unfoldable pub held_sound : ℕ → Set → (ℕ → ℕ → ℕ) → ℕ → ℕ → Bool
held_sound entries lives held e c = leb (held e c) 2 && (eqb (held e c) 0 || (ltb e entries && lives c))

-- "log owners … are live", "each log owner holds the write lock on that entry"
unfoldable pub record_sound : ℕ → Set → (ℕ → ℕ → ℕ) → LogRecord → Bool
record_sound entries lives held r = lives r.owner && ltb r.entry entries && ltb r.before (2 ^ 32) && eqb (held r.entry r.owner) 2

-- "permit givers, takers other than 0 … are live; giver and taker differ"
unfoldable pub permit_sound : ℕ → Set → PermitRecord → Bool
permit_sound entries lives p = lives p.giver && (eqb p.taker 0 || lives p.taker) && ltb p.entry entries && not (outside 1 3 p.ops) && not (eqb p.giver p.taker)

-- "both ends of ties are live", "leader and follower differ", "a group tie has its lower number as leader"
unfoldable pub tie_sound : Set → TieRecord → Bool
tie_sound lives t = not (outside 1 3 t.kind) && lives t.leader && lives t.follower && not (eqb t.leader t.follower) && (not (is_group t.kind) || ltb t.leader t.follower)

-- "who stands in line is running"; its entry and mode are in their ranges
unfoldable pub waiter_sound : ℕ → Set → LineRecord → Bool
waiter_sound entries runs r = runs r.change && ltb r.entry entries && not (outside 1 2 r.mode)

-- what is asked, each under the words it stands for. Bytes that hold no figure are the crate layout's, `sound_bytes`
unfoldable pub parts : Limits → Window → List Bool
parts L W =
    -- "every figure is in its range"; the unused places of values, statuses, parents and locks are 0
    ltb 0 W.entries ∷ not (exceeds W.entries L.entries) ∷ not (exceeds W.given L.changes)
    ∷ not (exceeds (length W.log) L.records) ∷ not (exceeds (length W.permits) L.permits) ∷ not (exceeds (length W.ties) L.ties)
    ∷ all_below L.entries (value_sound W.entries W.value)
    ∷ all_below (suc L.changes) (status_sound W.given W.status)
    -- "parents are lower than their children"
    ∷ all_below (suc L.changes) (parent_sound W.given W.parent)
    -- "locks, log owners, permit givers, takers other than 0 and both ends of ties are live; giver and taker differ;
    -- leader and follower differ; each log owner holds the write lock on that entry", "a group tie has its lower number as leader"
    ∷ all_below L.entries (λ e. all_below (suc L.changes) (held_sound W.entries (live W) W.held e))
    ∷ all (record_sound W.entries (live W) W.held) W.log
    ∷ all (permit_sound W.entries (live W)) W.permits
    ∷ all (tie_sound (live W)) W.ties
    -- "the orders above are kept"
    ∷ rising permit_key W.permits ∷ rising tie_key W.ties
    -- "no path of arrows returns to its group"
    ∷ acyclic (suc W.given) W.ties
    -- "each clashing pair has a permit …"
    ∷ clashes_permitted W
    -- "each change stands in one line at most, and who stands in line is running": so no more stand in line than there are changes
    ∷ not (exceeds (length W.line) L.changes)
    ∷ all (waiter_sound W.entries (running W)) W.line
    ∷ distinct (λ r. r.change) W.line
    ∷ []

-- "A window is sound when" (the invariant of its data)
unfoldable pub sound : Limits → Window → Bool
sound L W = all (λ b. b) (parts L W)
