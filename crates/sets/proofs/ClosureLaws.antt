-- The least set that none of the ties adds to is the closure of the rules. Assumes nothing.
use mathlib.Core.Path.{◌≡◌, refl, sym, ◌∙◌}
use mathlib.Core.Bool.{Bool, true, false, false≢true}
use mathlib.Core.List.{List}
use mathlib.Core.Logic.{◌⊎◌, inl, inr, ⊎_elim}
use Prim.Native.Nat.{ℕ, ◌-◌, ◌*◌, ◌≤◌, ◌<◌}
use native.Mathlib.Omega.{arith}
use lib.Dec.{eqb}
use lib.ListN.{length, get_or}
use borrow.Author.Tests.{eqb-true}
use Rattle.rules.specs.Base.{count_below, all_below}
use Rattle.rules.specs.Sets.{Set, closure}
use Rattle.rules.specs.Window.{TieRecord}
use Rattle.rules.specs.Ties.{is_wait, is_fall, is_group, is_arrow, tied, grouped, falling, leading}
use Rattle.rules.proofs.BaseLaws.{or_left, or_right, or_cases, both_ways, count_same, count-le, Below, under, over, below, Same, same, other, same?}
use Rattle.rules.proofs.SetLaws.{closure-holds, closure-closed, closure-to}
use Rattle.rules.proofs.TieLaws.{tied_kinds}
use Rattle.layout.specs.Codec.{no_tie, tie_section}
use Rattle.layout.specs.Records.{tie_at}
use Rattle.layout.proofs.ReadLaws.{Stands, tied-place, tied_at, section_read, section_ends}
use Rattle.layout.proofs.SectionLaws.{Bytes}
use Rattle.passes.specs.Passes.{follows, place_from, tie_from, passed}
use Rattle.passes.proofs.PassLaws.{follows_of, follows_low, follows_high, Inside, passed_keeps, pulled-follower, pulled-leader, pulled-within, Stable, Growing, place_below, growing_on, growing_end}
use Rattle.sets.specs.declared.Along.{Along}
use Rattle.sets.specs.declared.Along.TheVariants.{Groups, Falls, Arrows}
use Rattle.sets.specs.Members.{agree}
use Rattle.sets.specs.Closure.{relation, low_kind}
use Rattle.sets.proofs.MemberLaws.{agree-all}

-- KINDS
-- the lowest kind is 1 to 3
pub low_most : (along : Along) → low_kind along ≤ 3
low_most Groups = omega arith
low_most Falls = omega arith
low_most Arrows = omega arith

low_least : (along : Along) → 1 ≤ low_kind along
low_least Groups = omega arith
low_least Falls = omega arith
low_least Arrows = omega arith

-- a group tie is gone along whichever others are
group_follows : (along : Along) (k : ℕ) → is_group k ≡ true → follows (low_kind along) k ≡ true
unfolding is_group
group_follows along k e = rw (eqb-true k 3 e) (follows_of (low_kind along) 3 (low_most along) (omega arith))

-- a fall tie is, with falls
fall_follows : (k : ℕ) → is_fall k ≡ true → follows 2 k ≡ true
unfolding is_fall
fall_follows k e = rw (eqb-true k 2 e) (follows_of 2 2 (omega arith) (omega arith))

-- an arrow is, with arrows
arrow-follows : (k : ℕ) → is_arrow k ≡ true → follows 1 k ≡ true
unfolding is_arrow is_wait is_fall
arrow-follows k e = ⊎_elim (λ q. rw (eqb-true k 1 q) (follows_of 1 1 (omega arith) (omega arith))) (λ q. rw (eqb-true k 2 q) (follows_of 1 2 (omega arith) (omega arith))) (or_cases (eqb k 1) (eqb k 2) e)

-- what a kind that is gone along can be
kind_cases : (along : Along) (k : ℕ) → follows (low_kind along) k ≡ true → (is_group k ≡ true) ⊎ (((low_kind along ≤ 2) × (is_fall k ≡ true)) ⊎ ((low_kind along ≤ 1) × (is_wait k ≡ true)))
unfolding is_group is_fall is_wait
kind_cases along k e = go (same? k 3) (same? k 2) (follows_low (low_kind along) k e) (follows_high (low_kind along) k e)
  where
    go : {x y : Bool} → Same k 3 x → Same k 2 y → low_kind along ≤ k → k ≤ 3 → (eqb k 3 ≡ true) ⊎ (((low_kind along ≤ 2) × (eqb k 2 ≡ true)) ⊎ ((low_kind along ≤ 1) × (eqb k 1 ≡ true)))
    go (same q) s l h = inl (rw q)
    go (other u) (same q) l h = inr (inl (omega arith, rw q))
    go (other u) (other v) l h = let q : k ≡ 1 = omega (arith, low_least along) in inr (inr (omega arith, rw q))

-- THE RELATION, TIE BY TIE
module _ (ts : List TieRecord) where
  by_group : (along : Along) (a b : ℕ) → grouped ts a b ≡ true → relation along ts a b ≡ true
  unfolding relation falling leading
  by_group Groups a b e = e
  by_group Falls a b e = or_left (grouped ts a b) (tied ts is_fall a b) e
  by_group Arrows a b e = or_left (grouped ts a b) (tied ts is_arrow a b) e

  -- a fall tie's step
  by_fall : (along : Along) → low_kind along ≤ 2 → (j : ℕ) → j < length ts → is_fall (get_or ts j no_tie).kind ≡ true → relation along ts (get_or ts j no_tie).leader (get_or ts j no_tie).follower ≡ true
  unfolding relation falling leading is_arrow
  by_fall Groups l j h e = absurd (omega arith)
  by_fall Falls l j h e = or_right (grouped ts (get_or ts j no_tie).leader (get_or ts j no_tie).follower) _ (tied_at ts is_fall j h e)
  by_fall Arrows l j h e = or_right (grouped ts (get_or ts j no_tie).leader (get_or ts j no_tie).follower) _ (tied_at ts is_arrow j h (or_right (is_wait (get_or ts j no_tie).kind) (is_fall (get_or ts j no_tie).kind) e))

  -- a wait tie's step
  by_wait : (along : Along) → low_kind along ≤ 1 → (j : ℕ) → j < length ts → is_wait (get_or ts j no_tie).kind ≡ true → relation along ts (get_or ts j no_tie).leader (get_or ts j no_tie).follower ≡ true
  unfolding relation falling leading is_arrow
  by_wait Groups l j h e = absurd (omega arith)
  by_wait Falls l j h e = absurd (omega arith)
  by_wait Arrows l j h e = or_right (grouped ts (get_or ts j no_tie).leader (get_or ts j no_tie).follower) _ (tied_at ts is_arrow j h (or_left (is_wait (get_or ts j no_tie).kind) (is_fall (get_or ts j no_tie).kind) e))

  -- a tie that is gone along
  relation_on : (along : Along) (j : ℕ) → j < length ts → follows (low_kind along) (get_or ts j no_tie).kind ≡ true → relation along ts (get_or ts j no_tie).leader (get_or ts j no_tie).follower ≡ true
  unfolding grouped
  relation_on along j h e = ⊎_elim (λ g. by_group along _ _ (or_left (tied ts is_group (get_or ts j no_tie).leader (get_or ts j no_tie).follower) _ (tied_at ts is_group j h g)))
      (⊎_elim (λ m. by_fall along m.0 j h m.1) (λ m. by_wait along m.0 j h m.1)) (kind_cases along (get_or ts j no_tie).kind e)

  -- a group tie back
  relation_back : (along : Along) (j : ℕ) → j < length ts → is_group (get_or ts j no_tie).kind ≡ true → relation along ts (get_or ts j no_tie).follower (get_or ts j no_tie).leader ≡ true
  unfolding grouped
  relation_back along j h e = by_group along _ _ (or_right (tied ts is_group (get_or ts j no_tie).follower (get_or ts j no_tie).leader) _ (tied_at ts is_group j h e))

  -- a step of the relation, by the place of its tie
  abbrev Step : Along → ℕ → ℕ → Type 0
  Step along a b = Stands ts (follows (low_kind along)) a b ⊎ Stands ts is_group b a

  group_step : (along : Along) (a b : ℕ) → grouped ts a b ≡ true → Step along a b
  unfolding grouped
  group_step along a b e = ⊎_elim (λ q. inl (tied-place ts _ a b (tied_kinds is_group _ (group_follows along) ts a b q))) (λ q. inr (tied-place ts is_group b a q)) (or_cases (tied ts is_group a b) (tied ts is_group b a) e)

  -- each step of the relation is one
  relation-step : (along : Along) (a b : ℕ) → relation along ts a b ≡ true → Step along a b
  unfolding relation falling leading
  relation-step Groups a b e = group_step Groups a b e
  relation-step Falls a b e = ⊎_elim (group_step Falls a b) (λ q. inl (tied-place ts _ a b (tied_kinds is_fall _ fall_follows ts a b q))) (or_cases (grouped ts a b) (tied ts is_fall a b) e)
  relation-step Arrows a b e = ⊎_elim (group_step Arrows a b) (λ q. inl (tied-place ts _ a b (tied_kinds is_arrow _ arrow-follows ts a b q))) (or_cases (grouped ts a b) (tied ts is_arrow a b) e)

  -- the least stable set that holds the seed is the closure, where the ends are below the bound
  module _ (m : ℕ) (along : Along) (ends : (j : ℕ) → j < length ts → ((get_or ts j no_tie).leader < m) × ((get_or ts j no_tie).follower < m)) (seed r : Set)
      (g : Growing (low_kind along) (λ j. get_or ts j no_tie) (length ts) seed r) (z : Stable (low_kind along) (λ j. get_or ts j no_tie) (length ts) r) where
    onward : (a b : ℕ) → r a ≡ true → relation along ts a b ≡ true → r b ≡ true
    onward a b e q = ⊎_elim
        (λ (s : Stands ts (follows (low_kind along)) a b). rw s.follow at (z s.place s.below _ (pulled-follower (low_kind along) (get_or ts s.place no_tie) r s.has (rw s.leads e))))
        (λ (s : Stands ts is_group b a). rw s.leads at (z s.place s.below _ (pulled-leader (low_kind along) (get_or ts s.place no_tie) r s.has (rw s.follow e))))
        (relation-step along a b q)

    -- none of the ties adds to the closure
    stable : Stable (low_kind along) (λ j. get_or ts j no_tie) (length ts) (closure m (relation along ts) seed)
    stable j h = pulled-within (low_kind along) (get_or ts j no_tie) (closure m (relation along ts) seed) (closure m (relation along ts) seed) (λ k e. e)
        (λ f e. closure-closed m (relation along ts) seed _ _ (ends j h).0 (ends j h).1 e (relation_on along j h f))
        (λ f e. closure-closed m (relation along ts) seed _ _ (ends j h).1 (ends j h).0 e (relation_back along j h f))

    -- so the two are the same set
    stable_closure : (k : ℕ) → r k ≡ closure m (relation along ts) seed k
    stable_closure k = both_ways (r k) (closure m (relation along ts) seed k)
        (g.least (closure m (relation along ts) seed) stable (closure-holds m (relation along ts) seed) k)
        (closure-to m (relation along ts) (λ d. r d ≡ true) (λ a b h. onward a b) seed g.holds k)

-- OVER THE BYTES
-- ties that are the same add the same
stable_same : (low n : ℕ) (t v : ℕ → TieRecord) (u : Set) → ((j : ℕ) → j < n → t j ≡ v j) → Stable low t n u → Stable low v n u
stable_same low n t v u e z j h k q = z j h k (rw (e j h) q)

-- the least stable set is the closure along the ties that a section holds
pub section_closure : (along : Along) (bs : List ℕ) (ts : List TieRecord) (n : ℕ) (seed r : Set) → Bytes bs → 4 * n ≤ length bs → length ts ≡ n → bs ≡ tie_section ts
    → Growing (low_kind along) (tie_at bs) n seed r → Stable (low_kind along) (tie_at bs) n r → (k : ℕ) → r k ≡ closure 256 (relation along ts) seed k
section_closure along bs ts n seed r bytes room len e g z = stable_closure ts 256 along (λ j h. section_ends bs ts n room e bytes j (omega arith)) seed r
    (record { holds = g.holds; least = λ u w. g.least u (stable_same (low_kind along) n (λ j. get_or ts j no_tie) (tie_at bs) u (λ j h. sym (section_read bs ts n room e j h)) (rw len at w)) })
    (rw len (stable_same (low_kind along) n (tie_at bs) (λ j. get_or ts j no_tie) r (section_read bs ts n room e) z))

-- A PASS OVER THE BYTES, from the first tie on or from the last back: from s to r
-- the other way round and back again
place_again : (back : Bool) (n i : ℕ) → i < n → place_from back n (place_from back n i) ≡ i
unfolding place_from
place_again true n i h = omega arith
place_again false n i h = refl

module _ (low : ℕ) (bs : List ℕ) (n : ℕ) (back : Bool) (s r : Set) (p : r ≡ passed low (tie_from back bs n) n s) where
  -- the members stay
  pass_keeps : Inside s r
  pass_keeps k e = rw p (passed_keeps low (tie_from back bs n) n s k e)

  -- where the two do not agree r has more, which leaves fewer to add
  pub pass_less : (b : Bool) → b ≡ all_below 256 (agree r s) → b ≡ false → 256 - count_below 256 r < 256 - count_below 256 s
  pass_less b eb q = go (below (count_below 256 s) (count_below 256 r))
    where
      go : {x : Bool} → Below (count_below 256 s) (count_below 256 r) x → 256 - count_below 256 r < 256 - count_below 256 s
      go (under l) = omega (arith, count-le 256 r)
      go (over l) = absurd (false≢true (sym q ∙ eb ∙ agree-all 256 r s (λ k h. both_ways (r k) (s k) (count_same 256 s r (λ k h. pass_keeps k) l k h) (pass_keeps k))))

  -- what grew from a seed still grows from it
  pub pass_grows : (seed : Set) → Growing low (tie_at bs) n seed s → Growing low (tie_at bs) n seed r
  unfolding tie_from
  pass_grows seed g = growing_on low (tie_at bs) n back seed s r p g

  -- where it adds nothing, none of the ties does
  pass_stable : ((k : ℕ) → r k ≡ s k) → Stable low (tie_at bs) n r
  unfolding tie_from
  pass_stable h i l = rw (place_again back n i l) at (growing_end low (tie_from back bs n) n s r (λ k w. rw p w) h (place_from back n i) (place_below back n i l))

  -- so it has come to the closure
  pub closed_section : (along : Along) (ts : List TieRecord) (seed : Set) → low ≡ low_kind along → Bytes bs → 4 * n ≤ length bs → length ts ≡ n → bs ≡ tie_section ts
      → Growing low (tie_at bs) n seed s → ((k : ℕ) → r k ≡ s k) → (k : ℕ) → r k ≡ closure 256 (relation along ts) seed k
  closed_section along ts seed e bytes room len eb g h = section_closure along bs ts n seed r bytes room len eb (rw e at (pass_grows seed g)) (rw e at (pass_stable h))
