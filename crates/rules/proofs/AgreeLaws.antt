-- The order that takes the lowest first, and how many orders there are, are the same by any bound above a set, and by any two relations that agree on it. Assumes nothing.
use mathlib.Core.Path.{◌≡◌, refl, sym, ap, ap₂, ◌∙◌}
use mathlib.Core.Bool.{Bool, true, false, cond, not, ◌&&◌}
use mathlib.Core.List.{◌∷◌}
use Prim.Native.Nat.{ℕ, zero, suc, ◌+◌, ◌-◌, ◌≤◌, ◌<◌}
use native.Mathlib.Nat.{add-zero, add-suc}
use native.Mathlib.Omega.{arith}
use Rattle.rules.specs.Base.{any_below, count_below, lowest_below}
use Rattle.rules.specs.Sets.{Set, Rel}
use Rattle.rules.specs.Orders.{sum_below, without, free, ways, lowest_first}
use Rattle.rules.proofs.BaseLaws.{both_ways, any_intro, any_elim, and_left, and_right, and_both, no_true}
use Rattle.rules.proofs.BoundLaws.{lowest_ext, lowest_bound}
use Rattle.rules.proofs.OrderLaws.{Sourced, sourced_part, next, rest_count, free_in, without_in}
use Rattle.rules.proofs.OrderLists.{sum_ext}

-- a sum past which there is nothing
sum_from : (n i : ℕ) (f : ℕ → ℕ) → ((k : ℕ) → n ≤ k → f k ≡ 0) → sum_below (n + i) f ≡ sum_below n f
unfolding sum_below
sum_from n zero f past = ap (λ (x : ℕ). sum_below x f) (add-zero n)
sum_from n (suc i) f past = ap (λ (x : ℕ). sum_below x f) (add-suc n i) ∙ ap (λ (x : ℕ). sum_below (n + i) f + x) (past (n + i) (omega arith)) ∙ add-zero _ ∙ sum_from n i f past

sum_bound : (n m : ℕ) (f : ℕ → ℕ) → n ≤ m → ((k : ℕ) → n ≤ k → f k ≡ 0) → sum_below m f ≡ sum_below n f
sum_bound n m f le past = let e : n + (m - n) ≡ m = omega arith in ap (λ (x : ℕ). sum_below x f) (sym e) ∙ sum_from n (m - n) f past

module _ (n m : ℕ) (le : n ≤ m) (b b' : Rel) where
  -- the set lies below n, and the relations agree on it
  pub record Agree (s : Set) : Type 0 where
    pub under : (k : ℕ) → s k ≡ true → k < n
    pub same : (h g : ℕ) → s h ≡ true → s g ≡ true → b h g ≡ b' h g

  agree_less : (s : Set) (v : ℕ) → Agree s → Agree (without s v)
  agree_less s v a = record { under = λ k e. a.under k (without_in s v k e).0; same = λ h g p q. a.same h g (without_in s v h p).0 (without_in s v g q).0 }

  -- the same are free
  free_same : (s : Set) → Agree s → (g : ℕ) → free n b s g ≡ free m b' s g
  unfolding free
  free_same s a g = go (s g) refl
    where
      go : (x : Bool) → s g ≡ x → x && not (any_below n (λ h. s h && b h g)) ≡ x && not (any_below m (λ h. s h && b' h g))
      go false e = refl
      go true e = ap not (both_ways (any_below n (λ h. s h && b h g)) (any_below m (λ h. s h && b' h g))
          (λ q. let w = any_elim n (λ h. s h && b h g) q in let l = and_left (s w.0) (b w.0 g) w.2 in
          any_intro m (λ h. s h && b' h g) w.0 (omega (arith, w.1)) (and_both (s w.0) (b' w.0 g) l (sym (a.same w.0 g l e) ∙ and_right (s w.0) (b w.0 g) w.2)))
          (λ q. let w = any_elim m (λ h. s h && b' h g) q in let l = and_left (s w.0) (b' w.0 g) w.2 in
          any_intro n (λ h. s h && b h g) w.0 (a.under w.0 l) (and_both (s w.0) (b w.0 g) l (a.same w.0 g l e ∙ and_right (s w.0) (b' w.0 g) w.2))))

  -- so are as many orders
  pub ways_alike : (k : ℕ) (s : Set) → Agree s → ways n b k s ≡ ways m b' k s
  unfolding ways
  ways_alike zero s a = refl
  ways_alike (suc k) s a =
      sum_ext n _ _ (λ g h. ap₂ (λ (x : Bool) (y : ℕ). cond x y 0) (free_same s a g) (ways_alike k (without s g) (agree_less s g a)))
      ∙ sym (sum_bound n m (λ g. cond (free m b' s g) (ways m b' k (without s g)) 0) le (λ g h. ap (λ (x : Bool). cond x (ways m b' k (without s g)) 0)
      (no_true (free m b' s g) (λ e. let l = a.under g (free_in m b' s g e) in omega arith))))

  -- and the lowest first is the same order
  pub lowest_alike : (k : ℕ) (s : Set) → Agree s → Sourced n b s → count_below n s ≡ k → lowest_first n b k s ≡ lowest_first m b' k s
  unfolding lowest_first
  lowest_alike zero s a f e = refl
  lowest_alike (suc k) s a f e =
      let g = lowest_below n (free n b s) in
      let x = next n b k s f e in
      let q = sym (lowest_bound (free n b s) n m le (any_intro n (free n b s) g x.0 x.1)) ∙ lowest_ext (free n b s) (free m b' s) m (λ i h. free_same s a i) in
      ap (λ l. g ∷ l) (lowest_alike k (without s g) (agree_less s g a) (sourced_part n b s g f) (rest_count n b k s g x.0 x.1 e)) ∙ ap (λ v. v ∷ lowest_first m b' k (without s v)) q
