-- How many arrows come to a label from a set, and the last that goes from one. Assumes nothing.
use mathlib.Core.Path.{◌≡◌, refl, sym, ◌∙◌}
use mathlib.Core.Bool.{Bool, true, false, cond, not, ◌&&◌, and-false}
use mathlib.Core.Logic.{◌≢◌}
use Prim.Native.Nat.{ℕ, zero, suc, ◌+◌, ◌≤◌}
use native.Mathlib.Omega.{arith}
use lib.Dec.{eqb}
use borrow.Author.Tests.{eqb-true, ne_eqb}
use Rattle.rules.specs.Base.{count_below}
use Rattle.rules.specs.Sets.{Set, only}
use Rattle.rules.proofs.BaseLaws.{and_map, count-within, eqb_same, Same, same, other, same?}
use Rattle.cycles.specs.Graph.{Graph, comes, last_from}

-- of no arrows none comes
pub comes_zero : (G : Graph) (s : Set) (k : ℕ) → comes G s 0 k ≡ 0
unfolding comes count_below
comes_zero G s k = refl

-- ONE ARROW MORE
module _ (G : Graph) (s : Set) (m k : ℕ) where
  -- no arrow stands at m
  pub comes_none : G.arrow m ≡ false → comes G s (suc m) k ≡ comes G s m k
  unfolding comes count_below
  comes_none e = rw e

  -- it goes from outside the set
  comes-out : s (G.from m) ≡ false → comes G s (suc m) k ≡ comes G s m k
  unfolding comes count_below
  comes-out e = rw (e, and-false (G.arrow m))

  -- it comes to another label
  pub comes_other : G.to m ≢ k → comes G s (suc m) k ≡ comes G s m k
  unfolding comes count_below
  comes_other h = rw (ne_eqb (G.to m) k h, and-false (G.arrow m && s (G.from m)))

  -- it is counted
  pub comes-one : G.arrow m ≡ true → s (G.from m) ≡ true → G.to m ≡ k → comes G s (suc m) k ≡ suc (comes G s m k)
  unfolding comes count_below
  comes-one a e q = rw (a, e, q, eqb_same k)

module _ (G : Graph) (m k : ℕ) where
  -- no arrow stands at m
  pub last_none : G.arrow m ≡ false → last_from G k (suc m) ≡ last_from G k m
  unfolding last_from
  last_none e = rw e

  -- it goes from another label
  pub last_other : G.from m ≢ k → last_from G k (suc m) ≡ last_from G k m
  unfolding last_from only
  last_other h = rw (ne_eqb (G.from m) k h, and-false (G.arrow m))

  -- it is the last from k
  pub last_one : G.arrow m ≡ true → G.from m ≡ k → last_from G k (suc m) ≡ suc m
  unfolding last_from only
  last_one a q = rw (a, q, eqb_same k)

-- THE LAST ARROW FROM A LABEL
module _ (G : Graph) (k : ℕ) where
  -- the arrow at m goes from k, or none from k is counted there
  data Hit (m : ℕ) : ℕ → Type 0 where
    hit : G.arrow m ≡ true → G.from m ≡ k → Hit m (suc m)
    miss : ((s : ℕ) → comes G (only k) (suc m) s ≡ comes G (only k) m s) → Hit m (last_from G k m)

  -- one or the other
  hits : (m : ℕ) → Hit m (last_from G k (suc m))
  unfolding last_from only
  hits m = go (G.arrow m) (eqb (G.from m) k) refl refl
    where
      go : (a b : Bool) → G.arrow m ≡ a → eqb (G.from m) k ≡ b → Hit m (cond (a && b) (suc m) (last_from G k m))
      go true true p q = hit p (eqb-true (G.from m) k q)
      go true false p q = miss (λ i. comes-out G (only k) m i q)
      go false b p q = miss (λ i. comes_none G (only k) m i p)

  -- there is none at first
  last_zero : last_from G k 0 ≡ 0
  unfolding last_from
  last_zero = refl

  -- it is at most the number of places
  pub last_most : (m : ℕ) → last_from G k m ≤ m
  last_most zero = omega (arith, last_zero)
  last_most (suc m) = go (hits m) (last_most m)
    where
      go : {x : ℕ} → Hit m x → last_from G k m ≤ m → x ≤ suc m
      go (hit p q) h = omega arith
      go (miss q) h = omega arith

  -- no arrow from k stands after it
  pub comes-last : (m i : ℕ) → comes G (only k) (last_from G k m) i ≡ comes G (only k) m i
  comes-last zero i = rw last_zero
  comes-last (suc m) i = go (hits m) (comes-last m i)
    where
      go : {x : ℕ} → Hit m x → comes G (only k) (last_from G k m) i ≡ comes G (only k) m i → comes G (only k) x i ≡ comes G (only k) (suc m) i
      go (hit p q) h = refl
      go (miss q) h = h ∙ sym (q i)

  -- it is its own last
  pub last_again : (m : ℕ) → last_from G k m ≡ last_from G k (last_from G k m)
  last_again zero = rw (last_zero, last_zero)
  last_again (suc m) = go (hits m) (last_again m)
    where
      go : {x : ℕ} → Hit m x → last_from G k m ≡ last_from G k (last_from G k m) → x ≡ last_from G k x
      go (hit p q) h = sym (last_one G m k p q)
      go (miss q) h = h

  -- it stands at an arrow from k
  pub last_hit : (j : ℕ) → suc j ≡ last_from G k (suc j) → (G.arrow j ≡ true) × (G.from j ≡ k)
  last_hit j e = go (hits j) e (last_most j)
    where
      go : {x : ℕ} → Hit j x → suc j ≡ x → last_from G k j ≤ j → (G.arrow j ≡ true) × (G.from j ≡ k)
      go (hit p q) e h = (p, q)
      go (miss q) e h = absurd (omega arith)

-- COUNTS
-- from a larger set no fewer come
pub comes-within : (G : Graph) (s t : Set) (m k : ℕ) → ((i : ℕ) → s i ≡ true → t i ≡ true) → comes G s m k ≤ comes G t m k
unfolding comes
comes-within G s t m k h = count-within m _ _ (λ j l. and_map (G.arrow j && s (G.from j)) _ (G.arrow j && t (G.from j)) _ (and_map (G.arrow j) _ (G.arrow j) _ (λ e. e) (h (G.from j))) (λ e. e))

-- those from a set are those from one member and from the rest
pub comes-parts : (G : Graph) (left rest : Set) (v m i : ℕ) → left v ≡ true → ((k : ℕ) → rest k ≡ not (eqb k v) && left k) → comes G left m i ≡ comes G rest m i + comes G (only v) m i
unfolding comes count_below only
comes-parts G left rest v zero i e h = refl
comes-parts G left rest v (suc m) i e h = go (G.arrow m) (same? (G.from m) v) (eqb (G.to m) i) (comes-parts G left rest v m i e h)
  where
    L : ℕ
    L = count_below m (λ j. G.arrow j && left (G.from j) && eqb (G.to j) i)

    R : ℕ
    R = count_below m (λ j. G.arrow j && rest (G.from j) && eqb (G.to j) i)

    O : ℕ
    O = count_below m (λ j. G.arrow j && eqb (G.from j) v && eqb (G.to j) i)

    -- counted with the member, with the rest, or not at all
    one : (b : Bool) → L ≡ R + O → cond b (suc L) L ≡ R + cond b (suc O) O
    one true ih = omega arith
    one false ih = ih

    another : (b : Bool) → L ≡ R + O → cond b (suc L) L ≡ cond b (suc R) R + O
    another true ih = omega arith
    another false ih = ih

    go : (a : Bool) {b : Bool} → Same (G.from m) v b → (c : Bool) → L ≡ R + O
        → cond (a && left (G.from m) && c) (suc L) L ≡ cond (a && rest (G.from m) && c) (suc R) R + cond (a && b && c) (suc O) O
    go false q c ih = ih
    go true (same q) c ih = rw (h (G.from m), q, e, eqb_same v) (one c ih)
    go true (other q) c ih = rw (h (G.from m), ne_eqb (G.from m) v q) (another (left (G.from m) && c) ih)
