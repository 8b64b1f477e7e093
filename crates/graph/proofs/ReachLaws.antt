-- What is reached along the ties of a section, for any bound on their ends; and the leaders of ties to a set. Assumes nothing.
use mathlib.Core.Path.{◌≡◌, refl, sym, ap, fun_ext, ◌∙◌}
use mathlib.Core.Bool.{Bool, true, false, ◌&&◌, ◌||◌, or-false, and_assoc, and_comm}
use mathlib.Core.List.{List}
use Prim.Native.Nat.{ℕ, ◌+◌, ◌*◌, ◌/◌, ◌≤◌, ◌<◌}
use native.Mathlib.Omega.{arith}
use lib.Dec.{ltb, eqb}
use lib.ListN.{length, get_or, take}
use borrow.Author.Tests.{lt-ltb}
use Rattle.std.specs.Simd.{first_chunks}
use Rattle.rules.specs.Base.{any_below}
use Rattle.rules.specs.Sets.{Set, only, closure, reach}
use Rattle.rules.specs.Window.{TieRecord}
use Rattle.rules.specs.Ties.{is_arrow}
use Rattle.rules.specs.Effects.{leads_to, leaders_of}
use Rattle.rules.proofs.BaseLaws.{and_both, both_ways, any_intro, any_elim}
use Rattle.rules.proofs.ListLaws.{all_places, any_at, any_place}
use Rattle.rules.proofs.PathLaws.{Bounded, closure_bound, grouped_bounded, falling_bounded, leading_bounded}
use Rattle.layout.specs.Codec.{no_tie, tie_section}
use Rattle.layout.specs.Records.{ends_below, tie_at, tie_of}
use Rattle.layout.proofs.ReadLaws.{section_read, section_ends}
use Rattle.layout.proofs.SectionLaws.{Bytes}
use Rattle.sets.specs.declared.Along.{Along}
use Rattle.sets.specs.declared.Along.TheVariants.{Groups, Falls, Arrows}
use Rattle.sets.specs.Closure.{relation}
use Rattle.places.proofs.RowLaws.{row_byte}

-- the ends of ties in bytes are below 256
section_below : (bs : List ℕ) (ts : List TieRecord) (m : ℕ) → Bytes bs → 4 * m ≤ length bs → length ts ≡ m → bs ≡ tie_section ts → ends_below 256 ts ≡ true
unfolding ends_below
section_below bs ts m bytes room len e = all_places (λ t. ltb t.leader 256 && ltb t.follower 256) no_tie ts
    (λ j h. let q = section_ends bs ts m room e bytes j (omega arith) in and_both (ltb (get_or ts j no_tie).leader 256) _ (lt-ltb _ 256 q.0) (lt-ltb _ 256 q.1))

-- a bound on the ends bounds the relation
relation_bounded : (along : Along) (n : ℕ) (ts : List TieRecord) → ends_below n ts ≡ true → Bounded n (relation along ts)
unfolding relation ends_below
relation_bounded Groups n ts h = grouped_bounded ts n h
relation_bounded Falls n ts h = falling_bounded ts n h
relation_bounded Arrows n ts h = leading_bounded ts n h

-- the empty set with one added
pub one_added : (c : ℕ) (o s : Set) → ((k : ℕ) → o k ≡ false) → ((k : ℕ) → s k ≡ eqb k c || o k) → s ≡ only c
unfolding only
one_added c o s z h = fun_ext (λ k. h k ∙ ap (λ (b : Bool). eqb k c || b) (z k) ∙ or-false (eqb k c))

-- the closure of one along the ties of a section is what is reached from it, for any bound
pub reached_from : (along : Along) (bs : List ℕ) (ts : List TieRecord) (m n c : ℕ) (s r : Set) → s ≡ only c → Bytes bs → 4 * m ≤ length bs → length ts ≡ m → bs ≡ tie_section ts → ends_below n ts ≡ true
    → ((k : ℕ) → r k ≡ closure 256 (relation along ts) s k) → (k : ℕ) → r k ≡ reach n (relation along ts) c k
unfolding reach
reached_from along bs ts m n c s r o bytes room len e ends h k = h k ∙ rw o (ap (λ (u : Set). u k) (closure_bound 256 n (relation along ts)
    (relation_bounded along 256 ts (section_below bs ts m bytes room len e)) (relation_bounded along n ts ends) (only c)))

-- LEADERS
-- the first m ties of a section, tested one by one, are the list
pub leaders_of_lem : (bs : List ℕ) (ts : List TieRecord) (m : ℕ) (s : Set) (k : ℕ) → 4 * m ≤ length bs → length ts ≡ m → bs ≡ tie_section ts
    → any_below m (λ j. leads_to s k (tie_at bs j)) ≡ leaders_of ts s k
unfolding leaders_of
leaders_of_lem bs ts m s k room len e = both_ways _ _
    (λ q. let a = any_elim m (λ j. leads_to s k (tie_at bs j)) q in
    any_at (leads_to s k) no_tie ts a.0 (omega (arith, a.1)) (rw (← section_read bs ts m room e a.0 a.1) a.2))
    (λ q. let a = any_place (leads_to s k) no_tie ts q in
    any_intro m (λ j. leads_to s k (tie_at bs j)) a.0 (omega (arith, a.1)) (rw (section_read bs ts m room e a.0 (omega (arith, a.1))) a.2))

-- a tie in the first m rows of a section is that of its place
pub row_tie : (bs : List ℕ) (m : ℕ) (rows : List (List ℕ)) → 4 * m ≤ length bs → rows ≡ first_chunks 4 (length (take (m * 4) bs) / 4) (take (m * 4) bs)
    → (j : ℕ) (d : List ℕ) → j < length rows → tie_of (get_or (get_or rows j d) 0 0) (get_or (get_or rows j d) 1 0) (get_or (get_or rows j d) 2 0) ≡ tie_at bs j
unfolding tie_at
row_tie bs m rows room cut j d h =
    rw (row_byte m bs rows room cut j 0 (j * 4) d h (omega arith) (omega arith), row_byte m bs rows room cut j 1 (j * 4 + 1) d h (omega arith) refl, row_byte m bs rows room cut j 2 (j * 4 + 2) d h (omega arith) refl)

-- a tie's leader, where it is an arrow to a member
pub leads_where : (t : TieRecord) (f : Set) (k : ℕ) → eqb t.leader k && (is_arrow t.kind && f t.follower) ≡ leads_to f k t
unfolding leads_to
leads_where t f k = sym (and_assoc (eqb t.leader k) (is_arrow t.kind) (f t.follower)) ∙ ap (λ b. b && f t.follower) (and_comm (eqb t.leader k) (is_arrow t.kind))
