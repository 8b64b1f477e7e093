-- Those whom permits let stand beside a writer, noted one permit after the other. Assumes nothing.
use mathlib.Core.Path.{◌≡◌, refl, sym, ◌∙◌, ap, fun_ext}
use mathlib.Core.Logic.{◌≢◌}
use mathlib.Core.Bool.{Bool, false, not, ◌&&◌, ◌||◌, or-false, or-true, or_assoc}
use Prim.Native.Nat.{ℕ, ◌+◌}
use native.Mathlib.Numerals.{add-one}
use lib.Dec.{eqb}
use borrow.Author.Tests.{ne_eqb}
use Rattle.rules.specs.Base.{any_below, lowest_or_zero}
use Rattle.rules.specs.Sets.{Set}
use Rattle.rules.specs.Window.{PermitRecord}
use Rattle.rules.specs.Locks.{contains, make_permit, blocking}
use Rattle.rules.proofs.BaseLaws.{Same, same, other, same?, eqb_same}
use Rattle.beside.specs.Permits.{any_of}
use Rattle.beside.specs.Beside.{contains_held, beside, holder, stands_beside, writer_blocker}

-- one permit g, t, e, o, beside the writer a: another change k is noted just where the permit lets it stand there
module _ (r x : Set) (a k g t e o : ℕ) (s s' : Bool) where
  -- the writer gives it to anybody
  pub anybody_noted : k ≢ a → g ≡ a → t ≡ 0 → (read write m : Bool) → read ≡ contains o 1 → write ≡ contains o 2
      → m ≡ s || r k && read → s' ≡ m || x k && write → s' ≡ s || beside r x a k (make_permit g t e o)
  unfolding beside contains_held make_permit
  anybody_noted others eg et read write m er ew em es = es ∙ rw (em, er, ew, eg, et, eqb_same a, or-true (eqb 0 k), ne_eqb a k (λ q. others (sym q)), or-false (r k && contains o 1 || x k && contains o 2))
      (or_assoc s (r k && contains o 1) (x k && contains o 2))

  -- it gives it to one
  pub taker_noted : k ≢ a → g ≡ a → t ≢ 0 → (sv : Bool) → sv ≡ contains_held o (r t) (x t) → s' ≡ s || eqb t k && sv → s' ≡ s || beside r x a k (make_permit g t e o)
  unfolding beside make_permit
  taker_noted others eg et sv ev es = es ∙ rw (ev, eg, eqb_same a, ne_eqb t 0 et, ne_eqb a k (λ q. others (sym q))) (go (same? t k))
    where
      go : {b : Bool} → Same t k b → s || b && contains_held o (r t) (x t) ≡ s || ((b || false) && contains_held o (r k) (x k) || false)
      go (same q) = rw (q, or-false (contains_held o (r k) (x k)))
      go (other n) = refl

  -- another gives it
  pub giver_noted : g ≢ a → (write : Bool) → write ≡ contains o 2 → s' ≡ s || eqb g k && ((eqb t a || eqb t 0) && write) → s' ≡ s || beside r x a k (make_permit g t e o)
  unfolding beside make_permit
  giver_noted n write ew es = es ∙ rw (ew, ne_eqb g a n)

-- ALL PERMITS
module _ (t : ℕ → PermitRecord) (p : PermitRecord → Bool) where
  -- noted where one of them passes: none yet, and one more
  pub noted_none : (s : Bool) → s ≡ s || any_of 0 t p
  unfolding any_of any_below
  noted_none s = sym (or-false s)

  pub noted_next : (j : ℕ) (s₀ s s' : Bool) → s ≡ s₀ || any_of j t p → s' ≡ s || p (t j) → s' ≡ s₀ || any_of (j + 1) t p
  unfolding any_of any_below
  noted_next j s₀ s s' h e = e ∙ rw (h, add-one) (or_assoc s₀ (any_of j t p) (p (t j)))

-- one writer at once: `noted` are those whom the permits let stand beside it
pub blocker_noted : (n : ℕ) (t : ℕ → PermitRecord) (r x : Set) (a : ℕ) (holders noted : Set) (found : ℕ) → ((k : ℕ) → holders k ≡ r k || x k)
    → ((k : ℕ) → k ≢ a → noted k ≡ any_of n t (beside r x a k)) → found ≡ lowest_or_zero 256 (blocking holders noted a) → found ≡ writer_blocker n t r x a
unfolding writer_blocker blocking holder stands_beside
blocker_noted n t r x a holders noted found eh en e = e ∙ ap (lowest_or_zero 256) (fun_ext (λ k. go k (same? k a)))
  where
    go : (k : ℕ) {i : Bool} → Same k a i → not i && holders k && not (noted k) ≡ not i && (r k || x k) && not (any_of n t (beside r x a k))
    go k (same q) = refl
    go k (other m) = rw (eh k, en k m)
