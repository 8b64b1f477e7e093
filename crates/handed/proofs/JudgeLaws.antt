-- A draft of a sound window, handed over, as the judgement of clashes takes it. Assumes nothing.
use mathlib.Core.Path.{◌≡◌, sym}
use mathlib.Core.Bool.{true}
use Prim.Native.Nat.{ℕ}
use native.Mathlib.Omega.{arith}
use Rattle.rules.specs.Sets.{Set}
use Rattle.rules.specs.Window.{limits, Window, live}
use Rattle.rules.specs.Sound.{held_sound}
use Rattle.rules.specs.Effects.{hand_over}
use Rattle.rules.proofs.SoundParts.{Sound, held_most, held-no_change, held-nobody}
use Rattle.rules.proofs.SoundDelegate.{hand_held, hand_order}
use Rattle.layout.proofs.SoundCodec.{given_most}
use Rattle.locks.specs.Held.{Modes}
use Rattle.clashes.specs.LocksAndPermits.{LocksAndPermits}
use Rattle.handed.specs.declared.Draft.{Draft}
use Rattle.handed.specs.Draft.{HasTables}

-- HANDED OVER: in range and in order, whether or not each clashing pair has its permit
module _ (W : Window) (from to : ℕ) (on : Set) (k : Sound limits W) (lives : live W to ≡ true) where
  handed_helds : (e c : ℕ) → held_sound (hand_over W from to on).entries (live (hand_over W from to on)) (hand_over W from to on).held e c ≡ true
  unfolding hand_over live
  handed_helds = hand_held limits W from to on k lives

  pub to_judge : (d : Draft) → HasTables (hand_over W from to on) d → LocksAndPermits d.locks d.permits d.entries d.count (hand_over W from to on)
  unfolding hand_over Modes
  to_judge d h = record {
    lock_bytes = h.lock_bytes;
    permits_stored = h.permit_bytes;
    entry-count = sym h.entry-count;
    permit_count = sym h.permit_count;
    modes = held_most (hand_over W from to on) handed_helds;
    given = omega (arith, given_most W k);
    none_above = held-no_change (hand_over W from to on) handed_helds;
    nobody = held-nobody (hand_over W from to on) handed_helds (k.statuses 0);
    in_order = hand_order from to on W.permits k.permit_order;
  }
