-- The search for a text among the names. Assumes nothing.
use mathlib.Core.Path.{◌≡◌, refl, sym, ap, ◌∙◌}
use mathlib.Core.Bool.{true, false, cond}
use mathlib.Core.List.{List, map}
use Prim.Native.Nat.{ℕ, suc, ◌+◌, ◌<◌}
use native.Mathlib.Numerals.{add-one}
use lib.Dec.{eqb}
use lib.ListN.{get_or, drop}
use lib.Seq.{drop-cons}
use borrow.Author.Tests.{eqb-true}
use Rattle.rules.specs.Base.{all_below}
use Rattle.rules.proofs.BaseLaws.{all_below_at}
use Rattle.layout.specs.Memory.{same_bytes}
use Rattle.text.specs.Decimal.{ascii}
use Rattle.script_calls.specs.declared.Name.{Name}
use Rattle.script_calls.specs.Meant.{number_of}
use Rattle.script_lines.specs.declared.TheConstants.{NAMES}
use Rattle.script_lines.specs.Lines.{names, place_among, call_number}
use Rattle.script_lines.specs.Texts.{text_of}

-- the place of a text among the names from place i on
abbrev pub place_from : ℕ → List ℕ → ℕ
place_from i l = place_among (suc i) (map text_of (drop i NAMES)) l

pub from_first : (l : List ℕ) → place_from 0 l ≡ call_number l
unfolding names ascii call_number
from_first l = refl

pub past_last : (l : List ℕ) → place_from 15 l ≡ 0
unfolding place_among
past_last l = refl

-- the names are numbered from 1
number_at : (i : ℕ) (d : Name) → i < 15 → number_of (get_or NAMES i d) ≡ suc i
unfolding all_below
number_at i d h = eqb-true (number_of (get_or NAMES i d)) (suc i) (all_below_at 15 (λ k. eqb (number_of (get_or NAMES k d)) (suc k)) refl i h)

module _ (i : ℕ) (d : Name) (l : List ℕ) (h : i < 15) where
  at_name : place_from i l ≡ cond (same_bytes l (text_of (get_or NAMES i d))) (suc i) (place_from (suc i) l)
  unfolding place_among
  at_name = ap (λ (ns : List Name). place_among (suc i) (map text_of ns) l) (drop-cons NAMES i d h)

  -- it is this one
  pub name_here : same_bytes l (text_of (get_or NAMES i d)) ≡ true → number_of (get_or NAMES i d) ≡ place_from i l
  name_here e = number_at i d h ∙ sym (at_name ∙ rw e)

  -- it is not
  pub name_further : same_bytes l (text_of (get_or NAMES i d)) ≡ false → place_from (i + 1) l ≡ place_from i l
  name_further e = rw (add-one i) (sym (at_name ∙ rw e))
