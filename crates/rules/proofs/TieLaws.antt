-- Ties: their kinds, who is at their ends, and groups. Assumes nothing.
use mathlib.Core.Path.{◌≡◌, ◌∙◌}
use mathlib.Core.Logic.{⊎_elim}
use mathlib.Core.Bool.{Bool, true, false, ◌&&◌, ◌||◌, false≢true, or_comm}
use mathlib.Core.List.{List, Memᴰ}
use Prim.Native.Nat.{ℕ, suc, ◌≤◌, ◌<◌}
use native.Mathlib.Omega.{arith}
use lib.Dec.{eqb}
use borrow.Author.Tests.{eqb-true, ne_eqb}
use Rattle.rules.specs.Base.{all}
use Rattle.rules.specs.Sets.{Set}
use Rattle.rules.specs.Window.{TieRecord, Window}
use Rattle.rules.specs.Ties.{is_group, is_arrow, is_wait, is_fall, tied, grouped, falling, leading, group_of}
use Rattle.rules.proofs.BaseLaws.{and_eqs, Same, same, other, same?, or_cases, and_left, and_right, and_map, eqb_same}
use Rattle.rules.proofs.ListLaws.{any_member, any_weaken, find}
use Rattle.rules.proofs.SetLaws.{reach_seed}

-- a group tie is no arrow
pub arrow_not_group : (k : ℕ) → is_arrow k ≡ true → is_group k ≡ false
unfolding is_arrow is_wait is_fall is_group
arrow_not_group k e = ne_eqb k 3 (λ q. false≢true (rw q at e))

-- kinds 1 and 2 are arrows
pub arrow_of : (k : ℕ) → 0 < k → k ≤ 2 → is_arrow k ≡ true
unfolding is_arrow is_wait is_fall
arrow_of k h l = go (same? k 1)
  where
    go : {b : Bool} → Same k 1 b → eqb k 1 || eqb k 2 ≡ true
    go (same e) = rw e
    go (other u) = let e : k ≡ 2 = omega arith in rw e

-- kind 3 is the group's
pub group_is : (k : ℕ) → k ≡ 3 → is_group k ≡ true
unfolding is_group
group_is k e = rw e

pub is_group_lem : (k : ℕ) → is_group k ≡ true → k ≡ 3
unfolding is_group
is_group_lem k e = eqb-true k 3 e

-- a tie of some kinds is one of more kinds
pub tied_kinds : (j k : ℕ → Bool) → ((x : ℕ) → j x ≡ true → k x ≡ true) → (ts : List TieRecord) (a b : ℕ) → tied ts j a b ≡ true → tied ts k a b ≡ true
unfolding tied
tied_kinds j k h ts a b = any_weaken _ _ (λ t. and_map (j t.kind && eqb t.leader a) _ _ _ (and_map (j t.kind) _ _ _ (h t.kind) (λ e. e)) (λ e. e)) ts

-- group ties go both ways
pub grouped_both : (ts : List TieRecord) (a b : ℕ) → grouped ts a b ≡ true → grouped ts b a ≡ true
unfolding grouped
grouped_both ts a b e = or_comm (tied ts is_group b a) (tied ts is_group a b) ∙ e

-- what holds of the ends of all ties holds of two that are tied
module _ (p : Set) (ts : List TieRecord) (ends : all (λ t. p t.leader && p t.follower) ts ≡ true) where
  pub tied-ends : (k : ℕ → Bool) (a b : ℕ) → tied ts k a b ≡ true → (p a ≡ true) × (p b ≡ true)
  unfolding tied
  tied-ends k a b e = let m = find _ (λ t. p t.leader && p t.follower) ts e ends in go m.0 m.1 m.2
    where
      go : (t : TieRecord) → k t.kind && eqb t.leader a && eqb t.follower b ≡ true → p t.leader && p t.follower ≡ true → (p a ≡ true) × (p b ≡ true)
      go t x y = let q = and_eqs (k t.kind) t.leader a t.follower b x in (rw q.1 at (and_left (p t.leader) (p t.follower) y), rw q.2 at (and_right (p t.leader) (p t.follower) y))

  pub grouped-ends : (a b : ℕ) → grouped ts a b ≡ true → (p a ≡ true) × (p b ≡ true)
  unfolding grouped
  grouped-ends a b e = ⊎_elim (tied-ends is_group a b) (λ q. let m = tied-ends is_group b a q in (m.1, m.0)) (or_cases (tied ts is_group a b) (tied ts is_group b a) e)

  pub falling-ends : (a b : ℕ) → falling ts a b ≡ true → (p a ≡ true) × (p b ≡ true)
  unfolding falling
  falling-ends a b e = ⊎_elim (grouped-ends a b) (tied-ends is_fall a b) (or_cases (grouped ts a b) (tied ts is_fall a b) e)

  pub leading-ends : (a b : ℕ) → leading ts a b ≡ true → (p a ≡ true) × (p b ≡ true)
  unfolding leading
  leading-ends a b e = ⊎_elim (grouped-ends a b) (tied-ends is_arrow a b) (or_cases (grouped ts a b) (tied ts is_arrow a b) e)

-- a tie that stands ties its leader to its follower
pub stands_tied : (k : ℕ → Bool) {t : TieRecord} {ts : List TieRecord} → Memᴰ t ts → k t.kind ≡ true → tied ts k t.leader t.follower ≡ true
unfolding tied
stands_tied k {t} m e = any_member (λ u. k u.kind && eqb u.leader t.leader && eqb u.follower t.follower) m (rw (e, eqb_same t.leader, eqb_same t.follower))

-- a change is in its group
pub group_seed : (W : Window) (c : ℕ) → group_of W c c ≡ true
unfolding group_of
group_seed W c = reach_seed (suc W.given) (grouped W.ties) c
