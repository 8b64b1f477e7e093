-- Of members that are blocked only by members that lead to them and to which they do not lead, one is not blocked: what lets a commit go on,
-- and what ends taking away from a graph without cycles. Assumes nothing.
use mathlib.Core.Path.{◌≡◌, refl}
use mathlib.Core.Bool.{Bool, true, false}
use Prim.Native.Nat.{ℕ, zero, suc, ◌+◌, ◌<◌}
use native.Mathlib.Omega.{arith}
use Rattle.rules.specs.Base.{count_below}
use Rattle.rules.specs.Sets.{Set, Rel, reach}
use Rattle.rules.proofs.BaseLaws.{no_true, count-le}
use Rattle.rules.proofs.BoundLaws.{count-more}
use Rattle.rules.proofs.PathLaws.{Way, stay, way_join, Bounded, reach_ways}

module _ (n : ℕ) (r : Rel) (ends : Bounded n r) where
  -- who leads to another that does not lead back reaches more
  reach-more : (y x : ℕ) → y < n → Way r y x → (Way r x y → ⊥) → count_below n (reach n r x) < count_below n (reach n r y)
  reach-more y x h p none = count-more n (reach n r x) (reach n r y) (λ d l e. (reach_ways n r ends y d).1 (way_join p ((reach_ways n r ends x d).0 e)))
      y h (no_true (reach n r x y) (λ e. none ((reach_ways n r ends x y).0 e))) ((reach_ways n r ends y y).1 stay)

  module _ (member blocked : Set) (by : (x : ℕ) → x < n → member x ≡ true → blocked x ≡ true → (y : ℕ) × (y < n) × (member y ≡ true) × Way r y x × (Way r x y → ⊥)) where
    -- going back from a member reaches ever more, and there are n
    climb : (k c : ℕ) → c < n → member c ≡ true → n < k + count_below n (reach n r c) → (d : ℕ) × (d < n) × (member d ≡ true) × (blocked d ≡ false)
    climb zero c h e l = absurd (omega (arith, count-le n (reach n r c)))
    climb (suc k) c h e l = go (blocked c) refl (climb k)
      where
        go : (b : Bool) → blocked c ≡ b → ((x : ℕ) → x < n → member x ≡ true → n < k + count_below n (reach n r x) → (d : ℕ) × (d < n) × (member d ≡ true) × (blocked d ≡ false)) → (d : ℕ) × (d < n) × (member d ≡ true) × (blocked d ≡ false)
        go false q ih = (c, h, e, q)
        go true q ih = let u = by c h e q in ih u.0 u.1 u.2 (omega (arith, reach-more u.0 c u.1 u.3 u.4))

    pub source : (c : ℕ) → c < n → member c ≡ true → (d : ℕ) × (d < n) × (member d ≡ true) × (blocked d ≡ false)
    source c h e = climb (suc n) c h e (omega arith)
