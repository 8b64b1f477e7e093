-- The effect of initiate, begin and complete on the bytes of a sound window, from what the tables' functions leave of their sections. Assumes nothing.
use mathlib.Core.Path.{◌≡◌, refl, sym, ◌∙◌}
use mathlib.Core.Bool.{true, false}
use mathlib.Core.List.{List}
use Prim.Native.Nat.{ℕ, suc, ◌+◌}
use native.Mathlib.Omega.{arith}
use lib.ListN.{take, drop, set}
use Rattle.rules.specs.Base.{put}
use Rattle.rules.specs.Window.{limits, Window, with_status, with_line, no_change}
use Rattle.rules.specs.Calls.{Initiate, Complete, done}
use Rattle.rules.specs.Effects.{effect, leave, complete_change, add_change}
use Rattle.rules.proofs.SoundLine.{leave-sound}
use Rattle.rules.proofs.SoundParts.{Sound}
use Rattle.layout.specs.Codec.{changes_at, changes_size, figures, change_section, lay, decode, encode}
use Rattle.layout.specs.Memory.{sound_bytes}
use Rattle.layout.proofs.PutLaws.{laid_at, with_changes}
use Rattle.layout.proofs.LentLaws.{head_laid, FigureStored, changes_lent, statuses_back, figure_stored}
use Rattle.layout.proofs.MemoryLaws.{bytes_again, bytes-sound, encode-sound, laid_known}
use Rattle.layout.proofs.SoundCodec.{sound_again}
use Rattle.replies.specs.declared.Reply.{Reply}
use Rattle.replies.specs.Gives.{Gives, written}
use Rattle.replies.proofs.GiveLaws.{given-done}

-- A CHANGE MORE, whose parts were put in place one by one
module _ (W : Window) where
  with_change : (n p : ℕ) → n ≡ suc W.given → lay (figures W) (with_changes (with_changes W (put W.status n 1) W.parent) (put W.status n 1) (put W.parent n p)) ≡ lay (figures W) (add_change W p)
  unfolding lay with_changes add_change
  with_change n p e = rw e refl

  one-given : (n p : ℕ) → n ≡ suc W.given → set (figures W) 1 n ≡ figures (add_change W p)
  unfolding figures add_change
  one-given n p e = rw e refl

-- A CHANGE OUT OF ITS LINE: the bytes are sound again, so that the next function may work on them
module _ (bs : List ℕ) (s : sound_bytes bs ≡ true) (c : ℕ) (out : List ℕ) (e : out ≡ encode (leave (decode bs) c)) where
  left_sound : Sound limits (leave (decode bs) c)
  left_sound = leave-sound limits (decode bs) (bytes-sound bs s) c

  pub left_bytes : sound_bytes out ≡ true
  left_bytes = rw e (encode-sound _ left_sound)

  left_window : decode out ≡ leave (decode bs) c
  left_window = rw e (sound_again _ left_sound)

  pub left_given : no_change (decode bs) c ≡ false → no_change (decode out) c ≡ false
  unfolding no_change leave with_line
  left_given h = rw left_window h

  -- the status after it is the rules' step
  pub complete_given : (r : Reply) (final : List ℕ) → Gives (written (done 0 (with_status (decode out) (put (decode out).status c 3)))) r final → Gives (written (effect (decode bs) (Complete c))) r final
  unfolding effect complete_change leave with_line
  complete_given r final g = rw left_window at g

module _ (bs : List ℕ) (s : sound_bytes bs ≡ true) (r : Reply) where
  pub status-given : (c x : ℕ) (out : List ℕ) → ((st pa : ℕ → ℕ) → take changes_size (drop changes_at bs) ≡ change_section st pa → out ≡ change_section (put st c x) pa)
      → (r.answer ≡ 0) × (r.number ≡ 0) → Gives (written (done 0 (with_status (decode bs) (put (decode bs).status c x)))) r (laid_at bs changes_at changes_size out)
  status-given c x out f q = given-done 0 _ r _ q (statuses_back (decode bs) (sym (bytes_again bs s)) _ (f (decode bs).status (decode bs).parent))

  pub initiate_given : (g p : ℕ) → g ≡ (decode bs).given → (o1 o2 o3 : List ℕ)
      → ((st pa : ℕ → ℕ) → take changes_size (drop changes_at bs) ≡ change_section st pa → o1 ≡ change_section (put st (g + 1) 1) pa)
      → ((st pa : ℕ → ℕ) → take changes_size (drop changes_at (laid_at bs changes_at changes_size o1)) ≡ change_section st pa → o2 ≡ change_section st (put pa (g + 1) p))
      → FigureStored (laid_at (laid_at bs changes_at changes_size o1) changes_at changes_size o2) 1 (g + 1) o3
      → (r.answer ≡ 0) × (r.number ≡ g + 1) → Gives (written (effect (decode bs) (Initiate p))) r (head_laid (laid_at (laid_at bs changes_at changes_size o1) changes_at changes_size o2) o3)
  unfolding effect with_changes
  initiate_given g p q o1 o2 o3 f h i a =
      let W = decode bs in
      let e : g + 1 ≡ suc W.given = omega arith in
      let b1 = changes_lent (figures W) W (laid_known bs s) _ _ (f W.status W.parent) in
      let b2 = changes_lent (figures W) (with_changes W (put W.status (g + 1) 1) W.parent) b1 _ _ (h (put W.status (g + 1) 1) W.parent) in
      given-done (suc W.given) (add_change W p) r _ (a.0, a.1 ∙ e) (figure_stored W (add_change W p) (b2 ∙ with_change W (g + 1) p e) 1 (g + 1) (omega arith) i (one-given W (g + 1) p e))
