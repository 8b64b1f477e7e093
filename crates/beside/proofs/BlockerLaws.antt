-- The lowest of those who are in the way of a change, from the sets of code. Assumes nothing.
use mathlib.Core.Path.{◌≡◌, refl, sym, ◌∙◌, ap, fun_ext}
use mathlib.Core.Bool.{Bool, true, false, not, ◌&&◌, ◌||◌, and-false, false≢true}
use Prim.Native.Nat.{ℕ, ◌<◌}
use native.Mathlib.Omega.{arith}
use lib.Dec.{eqb}
use borrow.Author.Tests.{not-true, not-false, eqb-true}
use Rattle.std.specs.Prelude.{Option, Some, None}
use Rattle.std.specs.Bool.{then_some}
use Rattle.std.specs.Option.{unwrap_or, IfSome, MatchOption}
use Rattle.rules.specs.Base.{any_below, lowest_below, lowest_or_zero}
use Rattle.rules.specs.Sets.{Set}
use Rattle.rules.specs.Locks.{blocking}
use Rattle.rules.proofs.BaseLaws.{any_below_none, none_below}
use Rattle.rules.proofs.BoundLaws.{zero_lowest, lowest_found, lowest_below_lem}

-- c with those that permit, and the clashing without all of them
module _ (clashes permits with rest : Set) (c : ℕ) (insert : (k : ℕ) → with k ≡ eqb k c || permits k) (minus : (k : ℕ) → rest k ≡ clashes k && not (with k)) where
  in_way : lowest_or_zero 256 rest ≡ lowest_or_zero 256 (blocking clashes permits c)
  unfolding blocking
  in_way = ap (lowest_or_zero 256) (fun_ext (λ k. minus k ∙ rw (insert k) (go (eqb k c) (clashes k) (permits k))))
    where
      go : (o h p : Bool) → h && not (o || p) ≡ not o && h && not p
      go true h p = and-false h
      go false h p = refl

  -- nobody is left
  pub nobody_left : (none : Bool) → none ≡ not (any_below 256 rest) → none ≡ true → 0 ≡ lowest_or_zero 256 (blocking clashes permits c)
  nobody_left none e f = sym (zero_lowest 256 rest (not-true _ (sym e ∙ f))) ∙ in_way

  -- 0 is nobody's number: the lowest of them by an Option, where Q is what is asked of it
  pub lowest_numbered : (Q : ℕ → Bool → Type 0) → ((x : ℕ) (b : Bool) → Q x b → b ≡ not (eqb x 0)) → (o r : Option ℕ) → unwrap_or o 256 ≡ lowest_below 256 rest → IfSome o (λ x. x < 256)
      → MatchOption o (r ≡ None) (λ x. (b : Bool) × Q x b × (r ≡ then_some b x)) → unwrap_or r 0 ≡ lowest_or_zero 256 (blocking clashes permits c)
  unfolding lowest_or_zero
  lowest_numbered Q says None r e f m =
      ap (λ (t : Option ℕ). unwrap_or t 0) m ∙ sym (zero_lowest 256 rest (none_below 256 rest (λ k h q. false≢true (sym (lowest_below_lem rest 256 k (rw (← e) h)) ∙ q)))) ∙ in_way
  lowest_numbered Q says (Some x) r e f m = ap (λ (t : Option ℕ). unwrap_or t 0) m.2 ∙ kept m.0 (says x m.0 m.1) ∙ e ∙ here (any_below 256 rest) refl ∙ in_way
    where
      kept : (b : Bool) → b ≡ not (eqb x 0) → unwrap_or (then_some b x) 0 ≡ x
      kept true q = refl
      kept false q = sym (eqb-true x 0 (not-false (eqb x 0) (sym q)))

      here : (b : Bool) → any_below 256 rest ≡ b → lowest_below 256 rest ≡ lowest_or_zero 256 rest
      here true q = rw q refl
      here false q = absurd (false≢true (sym (any_below_none 256 rest q (lowest_below 256 rest) (omega (arith, e))) ∙ lowest_found rest 256 (omega (arith, e))))
