-- What a lock does to the lines, in words: a blocked one takes or keeps its change's place in line and changes nothing else, one answered 0 takes its change out. Assumes nothing.
use mathlib.Core.Path.{◌≡◌, refl, sym, ◌∙◌, ap}
use mathlib.Core.Bool.{Bool, true, false, not, cond, ◌&&◌}
use mathlib.Core.List.{List, [], ◌∷◌, ◌++◌}
use Prim.Native.Nat.{ℕ}
use native.Mathlib.Omega.{arith}
use lib.Dec.{eqb}
use borrow.Author.Tests.{not-false, eqb-true}
use Rattle.rules.specs.Base.{any, keep}
use Rattle.rules.specs.Sets.{only}
use Rattle.rules.specs.Window.{Limits, LineRecord, Window, with_held, with_line}
use Rattle.rules.specs.Line.{make_waiter, waits_elsewhere, enter_line, stays_in_line, line_left}
use Rattle.rules.specs.Calls.{Lock, done, blocked}
use Rattle.rules.specs.Effects.{effect, leave, covers, put_held, in_the_way, lock_granted, wait, lock_entry}
use Rattle.rules.specs.Refusals.{checks, ◌if◌, step}
use Rattle.rules.specs.Events.{action_of}
use Rattle.rules.proofs.BaseLaws.{or_none, Same, same, other, same?}
use Rattle.rules.proofs.RuleLaws.{blocked_window, quiet, unrefused_by, done_unrefused}
use Rattle.rules.proofs.SoundStep.{passed, codes}

-- a line before and after w has its place: "at the end of that entry's line, with its mode", or "A repeated call keeps its place and takes the newer mode"
pub data PlaceTaken (w : LineRecord) : List LineRecord → List LineRecord → Type 0 where
  last : (l : List LineRecord) → any (λ r. eqb r.change w.change) l ≡ false → PlaceTaken w l (l ++ (w ∷ []))
  again : (r : LineRecord) (l n : List LineRecord) → r.change ≡ w.change → r.entry ≡ w.entry → PlaceTaken w (l ++ (r ∷ n)) (l ++ (w ∷ n))

-- behind another's record
place_behind : (w r : LineRecord) {l k : List LineRecord} → eqb r.change w.change ≡ false → PlaceTaken w l k → PlaceTaken w (r ∷ l) (r ∷ k)
unfolding any
place_behind w r n (last l h) = last (r ∷ l) (rw (n, h))
place_behind w r n (again q l m i j) = again q (r ∷ l) m i j

enter-place : (w : LineRecord) (l : List LineRecord) → waits_elsewhere l w.change w.entry ≡ false → PlaceTaken w l (enter_line w l)
unfolding enter_line waits_elsewhere any
enter-place w [] h = last [] refl
enter-place w (r ∷ l) h = let n = or_none (eqb r.change w.change && not (eqb r.entry w.entry)) _ h in go (same? r.change w.change) refl n.0 (enter-place w l n.1)
  where
    go : {b : Bool} → Same r.change w.change b → eqb r.change w.change ≡ b → eqb r.change w.change && not (eqb r.entry w.entry) ≡ false → PlaceTaken w l (enter_line w l)
        → PlaceTaken w (r ∷ l) (cond b (w ∷ l) (r ∷ enter_line w l))
    go (same q) i h ih = again r [] l q (eqb-true r.entry w.entry (not-false _ (rw i at h)))
    go (other n) i h ih = place_behind w r i ih

module _ (L : Limits) (W : Window) (c e m : ℕ) where
  -- "A lock answered 20 alters the window by its place in line, with the mode, and by nothing else"
  pub blocked-place : (step L W (Lock c e m)).answer ≡ 20 → (k : List LineRecord) × ((step L W (Lock c e m)).after ≡ with_line W k) × PlaceTaken (make_waiter c e m) W.line k
  unfolding action_of blocked_window wait make_waiter checks ◌if◌
  blocked-place a = (enter_line w W.line, (quiet L W (Lock c e m)).blocks a, enter-place w W.line (passed (checks L W (Lock c e m)) (codes L W (Lock c e m)) (unrefused_by L W (Lock c e m) 20 (λ h. omega arith) a).0).1.1.1.1.0)
    where
      w : LineRecord
      w = make_waiter c e m

  -- "a grant leaves the line", a mode already covered "takes the change out of that entry's line": everybody else stays, in order
  pub done_leaves : (step L W (Lock c e m)).answer ≡ 0 → (step L W (Lock c e m)).after.line ≡ keep (λ r. not (eqb r.change c)) W.line
  unfolding effect lock_entry done blocked leave put_held with_held with_line line_left stays_in_line only
  done_leaves a = let u = (done_unrefused L W (Lock c e m) a).1 in ap (λ o. o.after.line) u ∙ go (covers (W.held e c) m) (lock_granted W c e m) (ap (λ o. o.answer) (sym u) ∙ a)
    where
      go : (b d : Bool) → let o = cond b (done 0 (leave W c)) (cond d (done 0 (leave (put_held W e c m) c)) (blocked (in_the_way W c e m) (wait W c e m))) in o.answer ≡ 0 → o.after.line ≡ keep (λ r. not (eqb r.change c)) W.line
      go true d h = refl
      go false true h = refl
      go false false h = absurd (omega arith)
