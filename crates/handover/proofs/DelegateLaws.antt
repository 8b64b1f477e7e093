-- The call delegate: its last refusal after the others, and what it gives. Assumes nothing.
use mathlib.Core.Logic.{◌≢◌}
use mathlib.Core.Path.{◌≡◌, refl, sym, ◌∙◌, ap}
use mathlib.Core.Bool.{Bool, true, false, not, cond}
use mathlib.Core.List.{List, [], ◌∷◌}
use Prim.Native.Nat.{ℕ, ◌<◌}
use native.Mathlib.Omega.{arith}
use lib.ListN.{take}
use borrow.Author.Tests.{not-false, ne_eqb}
use Rattle.rules.specs.Base.{all}
use Rattle.rules.specs.Sets.{Set}
use Rattle.rules.specs.Window.{limits, Window, live}
use Rattle.rules.specs.Locks.{clashes_permitted}
use Rattle.rules.specs.Calls.{Delegate}
use Rattle.rules.specs.Effects.{every, entries_named, hand_over, effect}
use Rattle.rules.specs.Refusals.{◌if◌, checks, first_failed, step}
use Rattle.rules.proofs.BaseLaws.{and_right}
use Rattle.rules.proofs.SoundParts.{Sound}
use Rattle.layout.specs.Codec.{decode, encode}
use Rattle.layout.specs.Memory.{sound_bytes}
use Rattle.layout.proofs.MemoryLaws.{bytes-sound}
use Rattle.std.specs.Prelude.{Err}
use Rattle.replies.specs.declared.Reply.{Reply}
use Rattle.replies.specs.declared.Refusal.{Refusal}
use Rattle.replies.specs.Refused.{code, reply_of}
use Rattle.replies.proofs.RefusedLaws.{code_some}
use Rattle.replies.specs.Gives.{Gives, written}
use Rattle.replies.proofs.GiveLaws.{refused_back, let_through, given-done}
use Rattle.reads.proofs.ReadLaws.{change_fits_lem, entry_fits_lem}
use Rattle.refusals.proofs.RefusalLaws.{Checked, all-passed, fails, passes, stopped, went_on}
use Rattle.pair_refusals.proofs.PairLaws.{delegate_passed}

module _ (W : Window) (f t e : ℕ) (none : first_failed (take 5 (checks limits W (Delegate f t e))) ≡ 0) where
  -- WHAT IS LEFT is the last check
  last_decides : (b : Bool) → b ≡ clashes_permitted (hand_over W f t (entries_named e)) → cond b 0 10 ≡ first_failed (checks limits W (Delegate f t e))
  unfolding checks all ◌if◌
  last_decides b q = went_on 5 (checks limits W (Delegate f t e)) refl (sym none) (go b q)
    where
      go : (b : Bool) {x : Bool} → b ≡ x → Checked (10 if not x ∷ []) (cond b 0 10)
      go true q = passes (ap not q) refl all-passed
      go false q = fails (ap not q) refl

  -- who receives is live
  pub to-live : live W t ≡ true
  unfolding checks ◌if◌
  to-live = and_right (live W f) (live W t) (not-false _ (delegate_passed W f t e none).1.1.1.1.0)

  -- THE NUMBERS fit a byte
  module _ (k : Sound limits W) where
    pub from-fits : f < 256
    unfolding checks ◌if◌
    from-fits = change_fits_lem W k f (delegate_passed W f t e none).0

    pub to-fits : t < 256
    unfolding checks ◌if◌
    to-fits = change_fits_lem W k t (delegate_passed W f t e none).1.0

    -- as does the entry, if it is not every entry
    pub entry-fits : e ≢ every → e < 256
    unfolding checks ◌if◌ every
    entry-fits q = entry_fits_lem W k e (rw (ne_eqb e 65535 q) at (delegate_passed W f t e none).1.1.0)

-- by the refusal of a hand-over: whether each clashing pair has its permit
permitted : (b : Bool) → ◌≡◌ {A = ℕ} 0 (cond b 0 10) → b ≡ true
permitted true e = refl
permitted false e = absurd (omega (arith, e))

not_permitted : (b : Bool) (r : Refusal) → code r ≡ cond b 0 10 → b ≡ false
not_permitted true r e = absurd (code_some r e)
not_permitted false r e = refl

-- WHAT IT GIVES
module _ (bs : List ℕ) (s : sound_bytes bs ≡ true) (f t e : ℕ) where
  pub refused_first : (r : Refusal) → code r ≡ first_failed (take 5 (checks limits (decode bs) (Delegate f t e))) → Gives (written (step limits (decode bs) (Delegate f t e))) (reply_of (Err r)) bs
  refused_first r is = refused_back bs s (Delegate f t e) r (stopped 5 (checks limits (decode bs) (Delegate f t e)) r is)

  -- the hand-over was judged, and done or not
  module _ (none : 0 ≡ first_failed (take 5 (checks limits (decode bs) (Delegate f t e)))) (on : Set) (named : on ≡ entries_named e) where
    decided : cond (clashes_permitted (hand_over (decode bs) f t on)) 0 10 ≡ first_failed (checks limits (decode bs) (Delegate f t e))
    decided = last_decides (decode bs) f t e (sym none) (clashes_permitted (hand_over (decode bs) f t on)) (ap (λ o. clashes_permitted (hand_over (decode bs) f t o)) named)

    module _ (after : List ℕ) (left : after ≡ cond (clashes_permitted (hand_over (decode bs) f t on)) (encode (hand_over (decode bs) f t on)) bs) where
      pub refused_last : (r : Refusal) → code r ≡ cond (clashes_permitted (hand_over (decode bs) f t on)) 0 10 → Gives (written (step limits (decode bs) (Delegate f t e))) (reply_of (Err r)) after
      refused_last r q = let l : after ≡ bs = left ∙ ap (λ b. cond b (encode (hand_over (decode bs) f t on)) bs) (not_permitted _ r q) in
          rw l (refused_back bs s (Delegate f t e) r (q ∙ decided))

      pub handed-over : ◌≡◌ {A = ℕ} 0 (cond (clashes_permitted (hand_over (decode bs) f t on)) 0 10) → (r : Reply) → (r.answer ≡ 0) × (r.number ≡ 0) → Gives (written (step limits (decode bs) (Delegate f t e))) r after
      unfolding effect
      handed-over q r a = let_through (decode bs) (Delegate f t e) (q ∙ decided)
          (given-done 0 _ r after a (left ∙ ap (λ b. cond b (encode (hand_over (decode bs) f t on)) bs) (permitted _ q) ∙ ap (λ o. encode (hand_over (decode bs) f t o)) named))
