-- A lock on the bytes of a sound window, from what is left of them: covered, blocked or granted. Assumes nothing.
use mathlib.Core.Path.{◌≡◌, sym, ◌∙◌}
use mathlib.Core.Logic.{◌≢◌}
use mathlib.Core.Bool.{Bool}
use mathlib.Core.List.{List}
use Prim.Native.Nat.{ℕ, ◌≤◌, ◌<◌}
use native.Mathlib.Omega.{arith}
use borrow.Author.Tests.{ne_eqb, lt-leb, le-leb}
use lib.ListN.{take, drop}
use Rattle.rules.specs.Base.{put2}
use Rattle.rules.specs.Window.{Window, with_held, with_line}
use Rattle.rules.specs.Line.{first_in_line, other_first}
use Rattle.rules.specs.Calls.{Lock}
use Rattle.rules.specs.Effects.{effect, leave, wait, covers, lock_blocker, in_the_way, lock_granted, put_held, lock_entry}
use Rattle.rules.proofs.BaseLaws.{eqb_same, Same, same, other, same?}
use Rattle.layout.specs.Codec.{locks_at, locks_size, lock_section, encode}
use Rattle.layout.proofs.PutLaws.{laid_at}
use Rattle.layout.proofs.LentLaws.{locks_back}
use Rattle.replies.specs.declared.Reply.{Reply}
use Rattle.replies.specs.Gives.{Gives, written}
use Rattle.replies.proofs.GiveLaws.{given-done, given-blocked}

-- who is in the way: a holder, nobody but the change itself, or who is first in line
module _ (W : Window) (c e m holder : ℕ) (q : holder ≡ lock_blocker W c e m) where
  pub way_held : holder ≢ 0 → holder ≡ in_the_way W c e m
  unfolding in_the_way
  way_held n = rw (← q, ne_eqb holder 0 n)

  module _ (z : holder ≡ 0) (first : ℕ) (f : first ≡ first_in_line W.line e) where
    pub way_own : first ≡ c → 0 ≡ in_the_way W c e m
    unfolding in_the_way other_first
    way_own o = rw (← q, z, ← f, o, eqb_same c)

    pub way_first : first ≢ c → first ≡ in_the_way W c e m
    unfolding in_the_way other_first
    way_first n = rw (← q, z, ← f, ne_eqb first c n)

    -- nobody is
    pub way_none : first ≡ 0 → 0 ≡ in_the_way W c e m
    way_none n = go (same? first c)
      where
        go : {b : Bool} → Same first c b → 0 ≡ in_the_way W c e m
        go (same o) = way_own o
        go (other d) = sym n ∙ way_first d

module _ (W : Window) (c e m h : ℕ) (q : h ≡ W.held e c) (r : Reply) (out : List ℕ) where
  pub lock_covered : m ≤ h → out ≡ encode (leave W c) → (r.answer ≡ 0) × (r.number ≡ 0) → Gives (written (effect W (Lock c e m))) r out
  unfolding effect lock_entry covers
  lock_covered l o a = rw (le-leb m (W.held e c) (omega arith)) (given-done 0 _ r out a o)

  module _ (l : h < m) (k : ℕ) (g : k ≡ in_the_way W c e m) where
    pub lock_blocked : k ≢ 0 → out ≡ encode (wait W c e m) → (r.answer ≡ 20) × (r.number ≡ k) → Gives (written (effect W (Lock c e m))) r out
    unfolding effect lock_entry lock_granted covers
    lock_blocked n o a = rw (lt-leb m (W.held e c) (omega arith), ← g, ne_eqb k 0 n) (given-blocked k _ r out a o)

    -- out of its line, the lock is stored
    pub lock_taken : k ≡ 0 → out ≡ encode (leave W c) → (locks : List ℕ)
        → ((held : ℕ → ℕ → ℕ) → take locks_size (drop locks_at out) ≡ lock_section held → locks ≡ lock_section (put2 held e c m))
        → (r.answer ≡ 0) × (r.number ≡ 0) → Gives (written (effect W (Lock c e m))) r (laid_at out locks_at locks_size locks)
    unfolding effect lock_entry lock_granted covers put_held leave with_held with_line
    lock_taken t o locks f a = rw (lt-leb m (W.held e c) (omega arith), sym g ∙ t) (given-done 0 _ r _ a (locks_back (leave W c) o _ (f W.held)))
