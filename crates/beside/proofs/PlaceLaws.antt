-- Permits by their places: one of the first n passes, and the first that passes. Assumes nothing.
use mathlib.Core.Path.{◌≡◌}
use mathlib.Core.Bool.{Bool, true, false}
use mathlib.Core.List.{List}
use Prim.Native.Nat.{ℕ, ◌+◌, ◌≤◌, ◌<◌}
use native.Mathlib.Decide.{dec_lt}
use native.Mathlib.Omega.{arith}
use Rattle.rules.specs.Window.{PermitRecord}
use Rattle.layout.specs.Records.{permit_at}
use Rattle.rules.proofs.BoundLaws.{any_ext}
use Rattle.beside.specs.Permits.{any_of, NoneBefore, FirstOf}

-- other permits, or another test, that say the same
pub any_same : (n : ℕ) (t u : ℕ → PermitRecord) (p q : PermitRecord → Bool) → ((j : ℕ) → j < n → p (t j) ≡ q (u j)) → any_of n t p ≡ any_of n u q
unfolding any_of
any_same n t u p q h = any_ext (λ j. p (t j)) (λ j. q (u j)) n h

-- THE FIRST THAT PASSES
module _ (p : PermitRecord → Bool) (bs : List ℕ) (start : ℕ) where
  -- passed over on the way
  abbrev pub Skipped : ℕ → Type 0
  Skipped j = (k : ℕ) → start ≤ k → k < j → p (permit_at bs k) ≡ false

  pub skipped_none : Skipped start
  skipped_none k h l = absurd (omega arith)

  pub skipped_run : (j n : ℕ) → Skipped j → ((k : ℕ) → j ≤ k → k < j + n → p (permit_at bs k) ≡ false) → Skipped (j + n)
  skipped_run j n before none k h l = go (dec_lt k j)
    where
      go : Dec (k < j) → p (permit_at bs k) ≡ false
      go (yes m) = before k h m
      go (no m) = none k (omega arith) l

  pub skipped-more : (j : ℕ) → Skipped j → p (permit_at bs j) ≡ false → Skipped (j + 1)
  skipped-more j before e = skipped_run j 1 before (λ k h l. let here : k ≡ j = omega arith in rw here e)

  pub none_before : (count j : ℕ) → start ≤ j → j ≤ count → Skipped j → NoneBefore p bs count start j
  none_before count j h l before = record { from = h; to = l; skipped = before }

  pub first_found : (count j : ℕ) → start ≤ j → j < count → Skipped j → p (permit_at bs j) ≡ true → FirstOf p bs count start j
  first_found count j h l before e = record { before = none_before count j h (omega arith) before; found = λ _. e }

  pub first-nothing : (count j : ℕ) → start ≤ j → j ≡ count → Skipped j → FirstOf p bs count start j
  first-nothing count j h l before = record { before = none_before count j h (omega arith) before; found = λ m. absurd (omega arith) }
