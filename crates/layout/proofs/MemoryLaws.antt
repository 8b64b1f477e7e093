-- Sound bytes and their sections; the calls on lent memory: what each does to sound memory, to other memory, and to what lies past the window. Assumes nothing.
use mathlib.Core.Path.{◌≡◌, refl, sym, ◌∙◌, ap}
use mathlib.Core.Logic.{◌≢◌, ◌↔◌}
use mathlib.Core.Bool.{Bool, true, false, not, cond, false≢true, and-false}
use mathlib.Core.List.{List, [], ◌∷◌, ◌++◌}
use Prim.Native.Nat.{ℕ}
use native.Mathlib.Omega.{arith}
use lib.Dec.{leb, eqb}
use lib.ListN.{length, take, drop, take-append-drop, length-append, length-drop}
use lib.Seq.{take_at, drop_at}
use borrow.Author.Tests.{eqb-true, leb-true, le-leb}
use Rattle.rules.specs.Window.{limits, Window, fresh}
use Rattle.rules.specs.Sound.{sound}
use Rattle.rules.specs.Calls.{Call, Open, fits, Reply, Outcome}
use Rattle.rules.specs.Refusals.{step}
use Rattle.rules.specs.Events.{action_of, is_opening, is_open}
use Rattle.rules.proofs.BaseLaws.{and_left, and_right, and_both, eqb_same, Same, same, other, same?}
use Rattle.rules.proofs.RuleLaws.{blocked_window, quiet, open_answer, open_number}
use Rattle.rules.proofs.SoundParts.{Sound, sound-parts, parts-sound}
use Rattle.rules.proofs.SoundStep.{step-sound, opened_sound, opened_fresh}
use Rattle.layout.specs.Codec.{head_at, head_size, values_at, values_size, changes_at, changes_size, line_at, line_size, locks_at, locks_size, permits_at, permits_size, ties_at, ties_size, log_at, log_size, window_size, figures, head_section, value_section, change_section, line_section, lock_section, permit_section, tie_section, log_section, lay, decode, encode}
use Rattle.layout.specs.Memory.{same_bytes, sound_bytes, long, sound_memory, window_of, lay_into, hand_back, anew, memory_refused, perform}
use Rattle.layout.proofs.CodecLaws.{length-encode}
use Rattle.layout.proofs.PartLaws.{head_part, values-part, changes-part, line-part, locks-part, permits-part, ties_part, log-part}
use Rattle.layout.proofs.SoundCodec.{sound_again, decode_blank}

pub same_bytes_eq : (k l : List ℕ) → same_bytes k l ≡ true → k ≡ l
unfolding same_bytes
same_bytes_eq [] [] e = refl
same_bytes_eq [] (y ∷ l) e = absurd (false≢true e)
same_bytes_eq (x ∷ k) [] e = absurd (false≢true e)
same_bytes_eq (x ∷ k) (y ∷ l) e = λ i. eqb-true x y (and_left (eqb x y) (same_bytes k l) e) i ∷ same_bytes_eq k l (and_right (eqb x y) (same_bytes k l) e) i

pub same_bytes_refl : (l : List ℕ) → same_bytes l l ≡ true
unfolding same_bytes
same_bytes_refl [] = refl
same_bytes_refl (x ∷ l) = and_both (eqb x x) (same_bytes l l) (eqb_same x) (same_bytes_refl l)

-- SOUND BYTES are exactly the encodings of sound windows
pub encode-sound : (W : Window) → Sound limits W → sound_bytes (encode W) ≡ true
unfolding sound_bytes
encode-sound W k = rw (sound_again W k, same_bytes_refl (encode W)) (parts-sound limits W k)

pub bytes_again : (bs : List ℕ) → sound_bytes bs ≡ true → encode (decode bs) ≡ bs
unfolding sound_bytes
bytes_again bs h = same_bytes_eq (encode (decode bs)) bs (and_left (same_bytes (encode (decode bs)) bs) (sound limits (decode bs)) h)

pub bytes-sound : (bs : List ℕ) → sound_bytes bs ≡ true → Sound limits (decode bs)
unfolding sound_bytes
bytes-sound bs h = sound-parts limits (decode bs) (and_right (same_bytes (encode (decode bs)) bs) (sound limits (decode bs)) h) (decode_blank bs)

pub sound_encodings : (bs : List ℕ) → sound_bytes bs ≡ true ↔ ((W : Window) × Sound limits W × (encode W ≡ bs))
sound_encodings bs = (λ h. (decode bs, bytes-sound bs h, bytes_again bs h), λ m. rw m.2 at (encode-sound m.0 m.1))

-- the sections that sound bytes have are their window's
module _ (bs : List ℕ) (s : sound_bytes bs ≡ true) where
  pub laid_known : bs ≡ lay (figures (decode bs)) (decode bs)
  unfolding encode
  laid_known = sym (bytes_again bs s)

  part_known : (at n : ℕ) {x : List ℕ} → take n (drop at (lay (figures (decode bs)) (decode bs))) ≡ x → take n (drop at bs) ≡ x
  part_known at n e = ap (λ l. take n (drop at l)) laid_known ∙ e

  pub head_known : take head_size (drop head_at bs) ≡ head_section (figures (decode bs))
  head_known = part_known head_at head_size (head_part _ _)

  pub values_known : take values_size (drop values_at bs) ≡ value_section (decode bs).value
  values_known = part_known values_at values_size (values-part _ _)

  pub changes_known : take changes_size (drop changes_at bs) ≡ change_section (decode bs).status (decode bs).parent
  changes_known = part_known changes_at changes_size (changes-part _ _)

  pub line_known : take line_size (drop line_at bs) ≡ line_section (decode bs).line
  line_known = part_known line_at line_size (line-part _ _)

  pub locks_known : take locks_size (drop locks_at bs) ≡ lock_section (decode bs).held
  locks_known = part_known locks_at locks_size (locks-part _ _)

  pub permits_known : take permits_size (drop permits_at bs) ≡ permit_section (decode bs).permits
  permits_known = part_known permits_at permits_size (permits-part _ _)

  pub ties_known : take ties_size (drop ties_at bs) ≡ tie_section (decode bs).ties
  ties_known = part_known ties_at ties_size (ties_part _ _)

  pub log_known : take log_size (drop log_at bs) ≡ log_section (decode bs).log
  log_known = part_known log_at log_size (log-part _ _)

-- MEMORY
module _ (mem : List ℕ) where
  pub sound-long : sound_memory mem ≡ true → long mem ≡ true
  unfolding sound_memory
  sound-long h = and_left (long mem) _ h

  pub sound_front : sound_memory mem ≡ true → sound_bytes (take window_size mem) ≡ true
  unfolding sound_memory
  sound_front h = and_right (long mem) _ h

  -- sound memory is its window's bytes and the rest
  pub memory_again : sound_memory mem ≡ true → encode (window_of mem) ++ drop window_size mem ≡ mem
  memory_again h = rw (bytes_again (take window_size mem) (sound_front h)) (take-append-drop window_size mem)

  pub memory-sound : sound_memory mem ≡ true → Sound limits (window_of mem)
  memory-sound h = bytes-sound (take window_size mem) (sound_front h)

-- memory that begins with the bytes of W, which is sound
pub record Holds (mem : List ℕ) (W : Window) : Type 0 where
  pub sound : sound_memory mem ≡ true
  pub window : window_of mem ≡ W

laid : (W : Window) → Sound limits W → (tail : List ℕ) → Holds (encode W ++ tail) W
unfolding sound_memory long
laid W k tail = let t : take window_size (encode W ++ tail) ≡ encode W = take_at (encode W) tail window_size (length-encode W) in record {
  sound = and_both (leb window_size (length (encode W ++ tail))) _ (le-leb window_size (length (encode W ++ tail)) (omega (arith, length-append (encode W) tail, length-encode W))) (rw t (encode-sound W k));
  window = ap decode t ∙ sound_again W k;
}

module _ (mem : List ℕ) where
  -- WHAT A CALL COMES TO
  -- answer 1, with the memory as it was: too short, or for every call but open no sound window
  pub perform_short : (c : Call) → long mem ≡ false → perform mem c ≡ hand_back mem 1
  unfolding perform memory_refused
  perform_short c h = rw h

  pub perform_unsound : (c : Call) → sound_memory mem ≡ false → is_open c ≡ false → perform mem c ≡ hand_back mem 1
  perform_unsound c h o = go (long mem) refl
    where
      go : (b : Bool) → long mem ≡ b → perform mem c ≡ hand_back mem 1
      go true l = unfold perform memory_refused in rw (l, h, o)
      go false l = perform_short c l

  -- an open where there is no sound window begins anew
  perform-anew : (c : Call) → long mem ≡ true → sound_memory mem ≡ false → is_open c ≡ true → perform mem c ≡ anew mem (step limits (fresh 0) c)
  unfolding perform memory_refused
  perform-anew c l h o = rw (l, h, o)

  -- on a sound window a call is the rules' step, whatever it answers
  pub perform-sound : (c : Call) → sound_memory mem ≡ true → perform mem c ≡ lay_into mem (step limits (window_of mem) c)
  unfolding perform memory_refused
  perform-sound c h = rw (sound-long mem h, h, and-false (not (is_open c)))

  -- so of any call and any memory; an open on memory with no sound window is laid in where it is done, else the memory is kept
  pub data Performed (c : Call) : Reply (List ℕ) → Type 0 where
    refused : Performed c (hand_back mem 1)
    ruled : sound_memory mem ≡ true → Performed c (lay_into mem (step limits (window_of mem) c))
    begun : long mem ≡ true → is_open c ≡ true → (step limits (fresh 0) c).answer ≡ 0 → Performed c (lay_into mem (step limits (fresh 0) c))
    kept : (step limits (fresh 0) c).answer ≢ 0 → Performed c (hand_back mem (step limits (fresh 0) c).answer)

  pub performed : (c : Call) → Performed c (perform mem c)
  performed c = go (long mem) refl (sound_memory mem) refl (is_open c) refl
    where
      opened : {b : Bool} → long mem ≡ true → is_open c ≡ true → Same (step limits (fresh 0) c).answer 0 b
          → Performed c (cond b (lay_into mem (step limits (fresh 0) c)) (hand_back mem (step limits (fresh 0) c).answer))
      opened l e (same z) = begun l e z
      opened l e (other n) = kept n

      go : (l : Bool) → long mem ≡ l → (s : Bool) → sound_memory mem ≡ s → (o : Bool) → is_open c ≡ o → Performed c (perform mem c)
      go false l s h o e = rw (perform_short c l) refused
      go true l true h o e = rw (perform-sound c h) (ruled h)
      go true l false h true e = rw (perform-anew c l h e) (unfold anew in opened l e (same? (step limits (fresh 0) c).answer 0))
      go true l false h false e = rw (perform_unsound c h e) refused

  pub perform-answer : (c : Call) → sound_memory mem ≡ true → (perform mem c).answer ≡ (step limits (window_of mem) c).answer
  unfolding lay_into
  perform-answer c h = ap (λ r. r.answer) (perform-sound c h)

  pub perform-number : (c : Call) → sound_memory mem ≡ true → (perform mem c).number ≡ (step limits (window_of mem) c).number
  unfolding lay_into
  perform-number c h = ap (λ r. r.number) (perform-sound c h)

  perform-after : (c : Call) → sound_memory mem ≡ true → (perform mem c).after ≡ encode (step limits (window_of mem) c).after ++ drop window_size mem
  unfolding lay_into
  perform-after c h = ap (λ r. r.after) (perform-sound c h)

  -- after any call sound memory is sound again, and decodes to the window that the rules give
  pub perform-holds : (c : Call) → fits c ≡ true → sound_memory mem ≡ true → Holds (perform mem c).after (step limits (window_of mem) c).after
  perform-holds c a h = rw (perform-after c h) (laid (step limits (window_of mem) c).after (step-sound limits (window_of mem) c a (memory-sound mem h)) (drop window_size mem))

  -- OPEN
  -- what it answers on memory that is long enough is what the rules answer, of whatever window
  pub open_answered : (W : Window) (n : ℕ) → long mem ≡ true → (perform mem (Open n)).answer ≡ (step limits W (Open n)).answer
  unfolding perform memory_refused anew is_open action_of is_opening
  open_answered W n l = rw l (go (sound_memory mem))
    where
      either : (o : Outcome) (b : Bool) → (cond b (lay_into mem o) (hand_back mem o.answer)).answer ≡ o.answer
      either o true = unfold lay_into in refl
      either o false = unfold hand_back in refl

      go : (b : Bool) → (cond b (lay_into mem (step limits (window_of mem) (Open n))) (anew mem (step limits (fresh 0) (Open n)))).answer ≡ (step limits W (Open n)).answer
      go true = unfold lay_into in open_answer limits (window_of mem) W n
      go false = either (step limits (fresh 0) (Open n)) (eqb (step limits (fresh 0) (Open n)).answer 0) ∙ open_answer limits (fresh 0) W n

  -- its second number is 0
  pub open_numbered : (n : ℕ) → (perform mem (Open n)).number ≡ 0
  open_numbered n = go (performed (Open n))
    where
      go : {r : Reply (List ℕ)} → Performed (Open n) r → r.number ≡ 0
      go refused = unfold hand_back in refl
      go (ruled h) = unfold lay_into in open_number limits (window_of mem) n
      go (begun l o e) = unfold lay_into in open_number limits (fresh 0) n
      go (kept m) = unfold hand_back in refl

  -- answered 0, it had room, and it leaves a fresh window's bytes and the untouched tail: nothing of what the memory held
  pub record Opened (n : ℕ) (r : Reply (List ℕ)) : Type 0 where
    pub room : long mem ≡ true
    pub bytes : r.after ≡ encode (fresh n) ++ drop window_size mem

  pub opened_bytes : (n : ℕ) → (perform mem (Open n)).answer ≡ 0 → Opened n (perform mem (Open n))
  opened_bytes n = go (performed (Open n))
    where
      one : ◌≡◌ {A = ℕ} 1 0 → ⊥
      one q = omega arith

      lay : (o : Outcome) → long mem ≡ true → o.after ≡ fresh n → Opened n (lay_into mem o)
      lay o l e = record { room = l; bytes = unfold lay_into in ap (λ X. encode X ++ drop window_size mem) e }

      go : {r : Reply (List ℕ)} → Performed (Open n) r → r.answer ≡ 0 → Opened n r
      go refused h = absurd (one (unfold hand_back in h))
      go (ruled q) h = lay (step limits (window_of mem) (Open n)) (sound-long mem q) (opened_fresh limits (window_of mem) n (unfold lay_into in h))
      go (begun l o e) h = lay (step limits (fresh 0) (Open n)) l (opened_fresh limits (fresh 0) n e)
      go (kept m) h = absurd (m (unfold hand_back in h))

  pub opened_holds : (n : ℕ) → (perform mem (Open n)).answer ≡ 0 → Holds (perform mem (Open n)).after (fresh n)
  opened_holds n h = let o = opened_bytes n h in
      let a : (step limits (fresh 0) (Open n)).answer ≡ 0 = sym (open_answered (fresh 0) n o.room) ∙ h in
      rw o.bytes (laid (fresh n) (rw (opened_fresh limits (fresh 0) n a) at (opened_sound limits (fresh 0) n a)) (drop window_size mem))

  -- REFUSED: no byte changes, and the second number is 0
  pub record Still (r : Reply (List ℕ)) : Type 0 where
    pub same : r.answer ≢ 0 → r.answer ≢ 20 → r.after ≡ mem
    pub number : r.answer ≢ 0 → r.answer ≢ 20 → r.number ≡ 0

  pub perform_still : (c : Call) → Still (perform mem c)
  perform_still c = go (performed c)
    where
      back : (a : ℕ) → Still (hand_back mem a)
      back a = unfold hand_back in record { same = λ h k. refl; number = λ h k. refl }

      go : {r : Reply (List ℕ)} → Performed c r → Still r
      go refused = back 1
      go (ruled q) = unfold lay_into in record {
        same = λ h k. ap (λ X. encode X ++ drop window_size mem) ((quiet limits (window_of mem) c).same h k) ∙ memory_again mem q;
        number = (quiet limits (window_of mem) c).number;
      }
      go (begun l o e) = unfold lay_into in record { same = λ h k. absurd (h e); number = (quiet limits (fresh 0) c).number }
      go (kept n) = back _

  -- BLOCKED: a lock's place in line is stored, and a commit changes no byte
  pub perform-blocked : (c : Call) → sound_memory mem ≡ true → (perform mem c).answer ≡ 20 → (perform mem c).after ≡ encode (blocked_window (window_of mem) (action_of c)) ++ drop window_size mem
  perform-blocked c h b = perform-after c h ∙ ap (λ X. encode X ++ drop window_size mem) ((quiet limits (window_of mem) c).blocks (sym (perform-answer c h) ∙ b))

  -- PAST THE WINDOW: what lies there is as it was, and the memory is as long
  pub record Tail (bytes : List ℕ) : Type 0 where
    pub same : drop window_size bytes ≡ drop window_size mem
    pub size : length bytes ≡ length mem

  pub perform_tail : (c : Call) → Tail (perform mem c).after
  perform_tail c = go (performed c)
    where
      lay : (o : Outcome) → long mem ≡ true → Tail (lay_into mem o).after
      lay o l = unfold lay_into long in record {
        same = drop_at (encode o.after) (drop window_size mem) window_size (length-encode o.after);
        size = omega (arith, length-append (encode o.after) (drop window_size mem), length-encode o.after, length-drop window_size mem, leb-true window_size (length mem) (unfold long in l));
      }

      back : (a : ℕ) → Tail (hand_back mem a).after
      back a = unfold hand_back in record { same = refl; size = refl }

      go : {r : Reply (List ℕ)} → Performed c r → Tail r.after
      go refused = back 1
      go (ruled q) = lay (step limits (window_of mem) c) (sound-long mem q)
      go (begun l o e) = lay (step limits (fresh 0) c) l
      go (kept n) = back (step limits (fresh 0) c).answer
