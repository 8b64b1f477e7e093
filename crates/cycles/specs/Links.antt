-- Arrows in lists by the label that they go from (adjacency lists), with counts by the label that they come to. Assumes nothing.
use Rattle.std.specs.Prelude.{◌≡◌, Bool, true, not, cond, ◌||◌, List, ℕ, ◌+◌, ◌≤◌, ◌<◌, eqb, get_or, set, replicate}
use Rattle.rules.specs.Sets.{Set, everything, only}
use Rattle.sets.specs.Members.{members}
use Rattle.cycles.specs.declared.Arrows.{Arrows}
use Rattle.cycles.specs.Graph.{Graph, comes, leads, last_from}

-- the lists, and the sets of labels at the ends of arrows
pub record Lists : Type 0 where
  -- for each label the place after its last arrow; 0 where it has none
  pub heads : List ℕ
  -- for each place of an arrow the place after the last arrow before it from the same label; 0 where there is none
  pub next : List ℕ
  -- how many arrows come to each label
  pub incoming : List ℕ
  -- the labels that an arrow goes from
  pub leaders : Set
  -- the labels that an arrow comes to
  pub blocked : Set

-- those of the code, with its sets as sets
abbrev pub lists_of : Arrows → Lists
lists_of a = record { heads = a.heads; next = a.next; incoming = a.incoming; leaders = members a.left; blocked = members a.blocked }

-- lists that hold no arrow
pub record Blank (a : Arrows) : Type 0 where
  -- no list begun
  pub no_heads : a.heads ≡ replicate 256 0
  -- none counted
  pub no_counts : a.incoming ≡ replicate 256 0
  -- no label in either set
  pub no_leaders : a.left.words ≡ replicate 4 0
  pub no_blocked : a.blocked.words ≡ replicate 4 0

-- the arrow at place j put at the head of its list, and counted
unfoldable pub with_arrow : ℕ → ℕ → ℕ → Lists → Lists
with_arrow j from to s = record {
  heads = set s.heads from (j + 1);
  next = set s.next j (get_or s.heads from 0);
  incoming = set s.incoming to (get_or s.incoming to 0 + 1);
  leaders = λ k. eqb k from || s.leaders k;
  blocked = λ k. eqb k to || s.blocked k;
}

-- the tie at place j, an arrow or not
unfoldable pub with_tie : Bool → ℕ → ℕ → ℕ → Lists → Lists
with_tie arrow j from to s = cond arrow (with_arrow j from to s) s

-- the lists hold the first m arrows
pub record Linked (G : Graph) (m : ℕ) (s : Lists) : Type 0 where
  -- a label's list begins at its last arrow
  pub heads : (k : ℕ) → k < 256 → get_or s.heads k 0 ≡ last_from G k m
  -- and goes on from an arrow to the one before
  pub next : (j : ℕ) → j < m → G.arrow j ≡ true → get_or s.next j 0 ≡ last_from G (G.from j) j
  -- all that come to a label are counted
  pub incoming : (k : ℕ) → k < 256 → get_or s.incoming k 0 ≡ comes G everything m k
  -- the set of labels that an arrow goes from
  pub leaders : (k : ℕ) → s.leaders k ≡ leads G m k
  -- the set of those that one comes to
  pub blocked : (k : ℕ) → s.blocked k ≡ not (eqb (comes G everything m k) 0)

-- the lists by label, and what is left, are as they were
pub record Kept (before after : Arrows) : Type 0 where
  pub heads : after.heads ≡ before.heads
  pub next : after.next ≡ before.next
  pub left : after.left ≡ before.left

-- a set shows the counts
pub record Shows (incoming : List ℕ) (blocked : Set) : Type 0 where
  -- it holds the labels whose count is not 0
  pub counted : (k : ℕ) → k < 256 → blocked k ≡ not (eqb (get_or incoming k 0) 0)

-- the arrows from label k, in a list that begins at h, can be removed
pub record Removable (G : Graph) (k h : ℕ) (next incoming : List ℕ) (blocked : Set) : Type 0 where
  -- the place before h holds one of them, or h is 0
  pub starts : h ≡ last_from G k h
  -- the list goes on from an arrow to the one before
  pub follows : (j : ℕ) → j < h → G.arrow j ≡ true → get_or next j 0 ≡ last_from G (G.from j) j
  -- all of them are counted
  pub enough : (i : ℕ) → i < 256 → comes G (only k) h i ≤ get_or incoming i 0
  -- the set shows the counts
  pub shown : Shows incoming blocked

-- the arrows from label k, in a list that begins at h, are removed
pub record Removed (G : Graph) (k h : ℕ) (incoming after : List ℕ) (blocked : Set) : Type 0 where
  -- each count has fallen by those that came from the label
  pub fewer : (i : ℕ) → i < 256 → get_or after i 0 + comes G (only k) h i ≡ get_or incoming i 0
  -- the set shows the counts
  pub shown : Shows after blocked
