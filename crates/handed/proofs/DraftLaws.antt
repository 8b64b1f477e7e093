-- A draft's locks and permits put in the place of a window's, its log handed over and its figure of permits stored: the window handed over. Assumes nothing.
use mathlib.Core.Path.{◌≡◌, sym, ◌∙◌, ap₂}
use mathlib.Core.List.{List}
use Prim.Native.Nat.{ℕ}
use native.Mathlib.Omega.{arith}
use lib.ListN.{length, take, drop, set, length-map}
use Rattle.rules.specs.Sets.{Set}
use Rattle.rules.specs.Window.{Window, with_held, with_log, with_permits}
use Rattle.rules.specs.Effects.{move_log, hand_over}
use Rattle.layout.specs.Codec.{locks_at, locks_size, permits_at, permits_size, log_at, log_size, figures, lock_section, permit_section, log_section, lay, encode}
use Rattle.layout.proofs.PutLaws.{laid_at, locks-put, permits-put}
use Rattle.layout.proofs.LentLaws.{head_laid, FigureStored, log_lent, figure_stored}

-- the figures of the window handed over: only the permits may be fewer
figures-handed : (W : Window) (from to : ℕ) (on : Set) (n : ℕ) → n ≡ length (hand_over W from to on).permits → set (figures W) 3 n ≡ figures (hand_over W from to on)
unfolding figures hand_over move_log
figures-handed W from to on n e = rw (e, length-map)

-- PUT IN PLACE: log and head are what the hand-over of the log and the store of the figure leave
module _ (W : Window) (from to : ℕ) (on : Set) (bs locks permits : List ℕ) (is : encode W ≡ bs)
    (held : locks ≡ lock_section (hand_over W from to on).held) (given : permits ≡ permit_section (hand_over W from to on).permits) where
  -- the window with the locks and permits that were handed over
  moved : Window
  moved = with_permits (with_held W (hand_over W from to on).held) (hand_over W from to on).permits

  -- the bytes with them
  abbrev with_tables : List ℕ
  with_tables = laid_at (laid_at bs locks_at locks_size locks) permits_at permits_size permits

  tables_put : with_tables ≡ lay (figures W) moved
  unfolding moved encode
  tables_put =
      ap₂ (λ l p. laid_at l permits_at permits_size p) (ap₂ (λ l h. laid_at l locks_at locks_size h) (sym is) held ∙ locks-put (figures W) W (hand_over W from to on).held) given
      ∙ permits-put (figures W) (with_held W (hand_over W from to on).held) (hand_over W from to on).permits

  pub put_in_place : (n : ℕ) (log head : List ℕ) → n ≡ length (hand_over W from to on).permits
      → (take log_size (drop log_at with_tables) ≡ log_section W.log → log ≡ log_section (move_log from to on W.log))
      → FigureStored (laid_at with_tables log_at log_size log) 3 n head → head_laid (laid_at with_tables log_at log_size log) head ≡ encode (hand_over W from to on)
  unfolding moved with_held with_permits with_log hand_over
  put_in_place n log head count f g =
      figure_stored W (hand_over W from to on) (log_lent (figures W) moved tables_put (move_log from to on W.log) f) 3 n (omega arith) g (figures-handed W from to on n count)
