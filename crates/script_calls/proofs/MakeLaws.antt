-- From a call number with its fields to the call that is made. Assumes nothing.
use mathlib.Core.Path.{◌≡◌, refl}
use mathlib.Core.Logic.{◌≢◌}
use mathlib.Core.Bool.{Bool, true, false, cond, ◌&&◌, ◌||◌}
use mathlib.Core.List.{List, [], ◌∷◌}
use mathlib.Core.Option.{Option, none, some}
use Prim.Native.Nat.{ℕ, ◌+◌, ◌*◌, ◌-◌, ◌≤◌, ◌<◌}
use native.Mathlib.Omega.{arith}
use borrow.Author.Tests.{ltb-true, leb-true, le-ltb, lt-leb, le-leb, ne_eqb}
use lib.Dec.{eqb, ltb, leb}
use lib.ListN.{length, get_or, get_or-eq_default}
use Rattle.rules.specs.Calls.{Call, Read}
use Rattle.rules.specs.Base.{all_below}
use Rattle.rules.proofs.BaseLaws.{Below, under, over, below, all_below_at}
use Rattle.layout.specs.Memory.{perform}
use Rattle.replies.specs.declared.Reply.{Reply}
use Rattle.replies.specs.Gives.{Gives}
use Rattle.replies.proofs.GiveLaws.{handed_back}
use Rattle.script_calls.specs.Fields.{Reads, nothing, one, two, three, four, readings, placed, made, call_of, call_with, reply_of, last_field}
use Rattle.script_calls.specs.declared.Name.{Name}
use Rattle.script_calls.specs.declared.Name.TheVariants as name
use Rattle.script_calls.specs.Meant.{number_of}

-- a broken line does nothing
pub broken : (mem : List ℕ) (r : Reply) → (r.answer ≡ 30) × (r.number ≡ 0) → Gives (reply_of mem none) r mem
unfolding reply_of
broken mem r e = handed_back mem 30 r e

-- THE LAST FIELD IN USE
-- each test of unused fields is a bound on it; it is 1 to 4
bounds : (p q s : Bool) → let l : ℕ = cond s (cond q (cond p 1 2) 3) 4 in (p && q && s ≡ leb l 1) × (q && s ≡ leb l 2) × (s ≡ leb l 3) × (leb l 4 ≡ true) × (leb 1 l ≡ true)
bounds true true true = (refl, refl, refl, refl, refl)
bounds true true false = (refl, refl, refl, refl, refl)
bounds true false true = (refl, refl, refl, refl, refl)
bounds true false false = (refl, refl, refl, refl, refl)
bounds false true true = (refl, refl, refl, refl, refl)
bounds false true false = (refl, refl, refl, refl, refl)
bounds false false true = (refl, refl, refl, refl, refl)
bounds false false false = (refl, refl, refl, refl, refl)

pub last_most : (b c d : ℕ) → last_field b c d ≤ 4
unfolding last_field
last_most b c d = leb-true (last_field b c d) 4 (bounds (eqb b 0) (eqb c 0) (eqb d 0)).3

last-least : (b c d : ℕ) → 1 ≤ last_field b c d
unfolding last_field
last-least b c d = leb-true 1 (last_field b c d) (bounds (eqb b 0) (eqb c 0) (eqb d 0)).4

-- how many fields are read; 0 where there is no call
unfoldable pub fields_of : Reads → ℕ
fields_of nothing = 0
fields_of (one f) = 1
fields_of (two f) = 2
fields_of (three f) = 3
fields_of (four f) = 4

-- the call of the fields that are read, whatever the others hold
unfoldable pub asked : Reads → (a b c d : ℕ) → Option Call
asked nothing a b c d = none
asked (one f) a b c d = some (f a)
asked (two f) a b c d = some (f a b)
asked (three f) a b c d = some (f a b c)
asked (four f) a b c d = some (f a b c d)

-- it is made where no field past those is in use
made_asked : (r : Reads) (a b c d : ℕ) → made r a b c d ≡ cond (leb (last_field b c d) (fields_of r)) (asked r a b c d) none
unfolding made fields_of asked last_field
made_asked nothing a b c d = rw (lt-leb (last_field b c d) 0 (last-least b c d))
made_asked (one f) a b c d = rw (← (bounds (eqb b 0) (eqb c 0) (eqb d 0)).0)
made_asked (two f) a b c d = rw (← (bounds (eqb b 0) (eqb c 0) (eqb d 0)).1)
made_asked (three f) a b c d = rw (← (bounds (eqb b 0) (eqb c 0) (eqb d 0)).2)
made_asked (four f) a b c d = rw (le-leb (last_field b c d) 4 (last_most b c d))

-- HOW MANY FIELDS A CALL READS, BY ITS NUMBER
unfoldable pub fields_read : (call : ℕ) → ℕ
fields_read k = fields_of (placed k readings)

above_read : (k : ℕ) → 16 ≤ k → fields_read k ≡ 0
unfolding fields_read fields_of placed readings
above_read k h = rw (get_or-eq_default (nothing ∷ readings) nothing {n = k} h)

most_read : (k : ℕ) → fields_read k ≤ 4
unfolding fields_read fields_of
most_read k = go (placed k readings)
  where
    go : (r : Reads) → fields_of r ≤ 4
    go nothing = omega arith
    go (one f) = omega arith
    go (two f) = omega arith
    go (three f) = omega arith
    go (four f) = omega arith

-- THE DECISION, over the call number with one digit more, the last field in use
-- the numbers that stand alone in it
unfoldable pub alone : ℕ → Bool
alone x = eqb x 11 || eqb x 21 || eqb x 31 || eqb x 41 || eqb x 111 || eqb x 121 || eqb x 131 || eqb x 141 || eqb x 151

pub not_alone : (x : ℕ) → ((((((((Unit {0} × (x ≢ 11)) × (x ≢ 21)) × (x ≢ 31)) × (x ≢ 41)) × (x ≢ 111)) × (x ≢ 121)) × (x ≢ 131)) × (x ≢ 141)) × (x ≢ 151) → alone x ≡ false
unfolding alone
not_alone x n = simp (ne_eqb x 11 n.0.0.0.0.0.0.0.0.1, ne_eqb x 21 n.0.0.0.0.0.0.0.1, ne_eqb x 31 n.0.0.0.0.0.0.1, ne_eqb x 41 n.0.0.0.0.0.1, ne_eqb x 111 n.0.0.0.0.1, ne_eqb x 121 n.0.0.0.1, ne_eqb x 131 n.0.0.1, ne_eqb x 141 n.0.1, ne_eqb x 151 n.1)

-- the number, if it is from `from` to before `to`, stands alone or has more fields in use than the call reads
unfoldable pub unread : (from to k l : ℕ) → Bool
unread from to k l = ltb (k * 10 + l) from || leb to (k * 10 + l) || alone (k * 10 + l) || ltb (fields_read k) l

unfoldable pub all_unread : (from to : ℕ) → Bool
all_unread from to = all_below 16 (λ k. all_below 4 (λ i. unread from to k (1 + i)))

module _ (k a b c d l : ℕ) (e : l ≡ last_field b c d) where
  -- an arm: the numbers of one call, from one field in use to as many as it reads
  pub in_arm : (K : ℕ) → K * 10 + 1 ≤ k * 10 + l → k * 10 + l < K * 10 + 1 + fields_read K → call_of k a b c d ≡ asked (placed K readings) a b c d
  unfolding call_of fields_read
  in_arm K lo hi =
      let q : k ≡ K = omega (arith, most_read K, last-least b c d, last_most b c d) in
      let h : last_field b c d ≤ fields_read K = omega arith in
      rw (q, made_asked (placed K readings) a b c d, le-leb (last_field b c d) (fields_read K) h)

  module _ (from to : ℕ) (lo : from ≤ k * 10 + l) (hi : k < 16 → k * 10 + l < to) (n : alone (k * 10 + l) ≡ false) where
    more_used : unread from to k l ≡ true → k < 16 → fields_read k < l
    unfolding unread
    more_used t h = ltb-true (fields_read k) l (simp (le-ltb (k * 10 + l) from lo, lt-leb to (k * 10 + l) (hi h), n) at t)

    -- between the arms
    pub no_arm : all_unread from to ≡ true → call_of k a b c d ≡ none
    unfolding call_of fields_read all_unread
    no_arm t = rw (made_asked (placed k readings) a b c d, lt-leb (last_field b c d) (fields_read k) (go (below k 16)))
      where
        go : {u : Bool} → Below k 16 u → fields_read k < last_field b c d
        go (over h) = omega (arith, above_read k h, last-least b c d)
        go (under h) =
            let q : 1 + (l - 1) ≡ l = omega (arith, last-least b c d) in
            let row : all_below 4 (λ i. unread from to k (1 + i)) ≡ true = all_below_at 16 (λ j. all_below 4 (λ i. unread from to j (1 + i))) t k h in
            rw e at (more_used (rw q at (all_below_at 4 (λ i. unread from to k (1 + i)) row (l - 1) (omega (arith, last_most b c d)))) h)

-- THE FOUR FIELDS AS A LIST
with_four : (k : ℕ) (l : List ℕ) → length l ≡ 4 → call_with k l ≡ call_of k (get_or l 0 0) (get_or l 1 0) (get_or l 2 0) (get_or l 3 0)
unfolding call_with
with_four k (a ∷ b ∷ c ∷ d ∷ []) h = refl
with_four k [] h = absurd (omega arith)
with_four k (a ∷ []) h = absurd (omega arith)
with_four k (a ∷ b ∷ []) h = absurd (omega arith)
with_four k (a ∷ b ∷ c ∷ []) h = absurd (omega arith)
with_four k (a ∷ b ∷ c ∷ d ∷ e ∷ l) h = absurd (omega arith)

-- the last of them in use
abbrev pub used : List ℕ → ℕ
used l = last_field (get_or l 1 0) (get_or l 2 0) (get_or l 3 0)

pub used_most : (l : List ℕ) → used l ≤ 4
used_most l = last_most (get_or l 1 0) (get_or l 2 0) (get_or l 3 0)

-- the call of a reading of them
abbrev pub of_four : Reads → List ℕ → Option Call
of_four r l = asked r (get_or l 0 0) (get_or l 1 0) (get_or l 2 0) (get_or l 3 0)

-- a call number is at most 15
pub number_most : (n : Name) → number_of n ≤ 15
number_most name.Open = omega arith
number_most name.Initiate = omega arith
number_most name.Begin = omega arith
number_most name.Complete = omega arith
number_most name.Lock = omega arith
number_most name.Read = omega arith
number_most name.Write = omega arith
number_most name.Permit = omega arith
number_most name.Delegate = omega arith
number_most name.Depend = omega arith
number_most name.Commit = omega arith
number_most name.Abort = omega arith
number_most name.Status = omega arith
number_most name.Parent = omega arith
number_most name.Value = omega arith

-- THE REPLY, by where the number stands in the decision
module _ (mem : List ℕ) (k : ℕ) (l : List ℕ) (n : length l ≡ 4) {r : Reply} {after : List ℕ} where
  -- in an arm
  pub arm : (K : ℕ) → K * 10 + 1 ≤ k * 10 + used l → k * 10 + used l < K * 10 + 1 + fields_read K
      → Gives (reply_of mem (of_four (placed K readings) l)) r after → Gives (reply_of mem (call_with k l)) r after
  arm K lo hi g = rw (with_four k l n, in_arm k (get_or l 0 0) (get_or l 1 0) (get_or l 2 0) (get_or l 3 0) (used l) refl K lo hi) g

  -- in an arm of a call that reads one field
  pub single : (K : ℕ) → fields_read K ≡ 1 → k * 10 + used l ≡ K * 10 + 1
      → Gives (reply_of mem (of_four (placed K readings) l)) r after → Gives (reply_of mem (call_with k l)) r after
  single K e q = arm K (omega arith) (omega arith)

-- in the arm of read
pub read_made : (mem : List ℕ) (k : ℕ) (l : List ℕ) → length l ≡ 4 → 61 ≤ k * 10 + used l → k * 10 + used l < 63 → reply_of mem (call_with k l) ≡ perform mem (Read (get_or l 0 0) (get_or l 1 0))
unfolding fields_read fields_of asked placed readings reply_of
read_made mem k l n lo hi = rw (with_four k l n, in_arm k (get_or l 0 0) (get_or l 1 0) (get_or l 2 0) (get_or l 3 0) (used l) refl 6 lo hi)

-- in no arm
module _ (k a b c d : ℕ) where
  gap : (from to : ℕ) → all_unread from to ≡ true → alone (k * 10 + last_field b c d) ≡ false → from ≤ k * 10 + last_field b c d → (k < 16 → k * 10 + last_field b c d < to) → call_of k a b c d ≡ none
  gap from to t n lo hi = no_arm k a b c d (last_field b c d) refl from to lo hi n t

  pub no_call : (x : ℕ) → x ≡ k * 10 + last_field b c d → alone x ≡ false → (51 ≤ x → 54 ≤ x) → (61 ≤ x → 63 ≤ x) → (71 ≤ x → 74 ≤ x) → (81 ≤ x → 85 ≤ x) → (91 ≤ x → 94 ≤ x) → (101 ≤ x → 104 ≤ x)
      → call_of k a b c d ≡ none
  unfolding all_unread unread alone fields_read fields_of placed readings all_below
  no_call x e n h5 h6 h7 h8 h9 h10 = go (below x 51) (below x 61) (below x 71) (below x 81) (below x 91) (below x 101)
    where
      m : alone (k * 10 + last_field b c d) ≡ false
      m = rw e at n

      go : {p q s t u v : Bool} → Below x 51 p → Below x 61 q → Below x 71 s → Below x 81 t → Below x 91 u → Below x 101 v → call_of k a b c d ≡ none
      go (under h) _ _ _ _ _ = gap 0 51 refl m (omega arith) (λ _. omega arith)
      go (over g) (under h) _ _ _ _ = gap 54 61 refl m (omega (arith, h5 g)) (λ _. omega arith)
      go (over _) (over g) (under h) _ _ _ = gap 63 71 refl m (omega (arith, h6 g)) (λ _. omega arith)
      go (over _) (over _) (over g) (under h) _ _ = gap 74 81 refl m (omega (arith, h7 g)) (λ _. omega arith)
      go (over _) (over _) (over _) (over g) (under h) _ = gap 85 91 refl m (omega (arith, h8 g)) (λ _. omega arith)
      go (over _) (over _) (over _) (over _) (over g) (under h) = gap 94 101 refl m (omega (arith, h9 g)) (λ _. omega arith)
      go (over _) (over _) (over _) (over _) (over _) (over g) = gap 104 160 refl m (omega (arith, h10 g)) (λ h. omega (arith, last_most b c d))

-- the same, of the four as a list
pub none_made : (mem : List ℕ) (k : ℕ) (l : List ℕ) → length l ≡ 4 → call_of k (get_or l 0 0) (get_or l 1 0) (get_or l 2 0) (get_or l 3 0) ≡ none → (r : Reply) → (r.answer ≡ 30) × (r.number ≡ 0)
    → Gives (reply_of mem (call_with k l)) r mem
none_made mem k l n q r e = rw (with_four k l n, q) (broken mem r e)
