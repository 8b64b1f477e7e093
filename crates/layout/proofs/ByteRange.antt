-- The bytes of a sound window are bytes, and a call leaves bytes where bytes were. Assumes nothing.
use mathlib.Core.Path.{◌≡◌, refl}
use mathlib.Core.Bool.{Bool, true, false}
use mathlib.Core.Logic.{⊎_elim}
use mathlib.Core.List.{List, [], ◌∷◌}
use Prim.Native.Nat.{ℕ, zero, suc, ◌+◌, ◌*◌, ◌^◌, ◌/◌, ◌%◌}
use native.Mathlib.Omega.{arith}
use native.Mathlib.Nat.{mod-lt}
use lib.Dec.{ltb, eqb}
use lib.ListN.{get_or, drop}
use borrow.Author.Tests.{ltb-true, lt-ltb, eqb-true, not-true}
use Rattle.rules.specs.Base.{all, table}
use Rattle.rules.specs.Window.{limits, fresh, LogRecord, PermitRecord, TieRecord, LineRecord, Window, live, running, no_change}
use Rattle.rules.specs.Calls.{Call, fits, Reply, Outcome}
use Rattle.rules.specs.Refusals.{step}
use Rattle.rules.specs.Sound.{status_sound, parent_sound, record_sound, permit_sound, tie_sound, waiter_sound}
use Rattle.rules.proofs.BaseLaws.{and_right, or_cases}
use Rattle.rules.proofs.ListLaws.{all_weaken, all_join, all_get_d, all-table}
use Rattle.rules.proofs.RuleLaws.{is_open_lem}
use Rattle.rules.proofs.SoundStep.{step-sound, opened_sound}
use Rattle.rules.proofs.LineLaws.{waiter_parts}
use Rattle.rules.proofs.SoundLine.{running-given}
use Rattle.rules.proofs.SoundParts.{Sound, live_below, record_parts, permit_parts, tie_parts, inside_of, status_range, numbered}
use Rattle.layout.specs.Codec.{waiter_bytes, line_byte, head_size, values_size, changes_size, line_size, locks_size, permits_size, ties_size, log_size, byte, no_record, no_permit, no_tie, no_waiter, head_byte, value_byte, change_byte, lock_byte, record_bytes, log_byte, permit_bytes, permit_byte, tie_bytes, tie_byte, figures, encode, window_size}
use Rattle.layout.specs.Memory.{window_of, hand_back, lay_into, perform}
use Rattle.layout.proofs.CodecLaws.{pack_most}
use Rattle.layout.proofs.SoundCodec.{entries_most, given_most}
use Rattle.layout.proofs.MemoryLaws.{Performed, refused, ruled, begun, kept, performed, memory-sound}
use Rattle.layout.proofs.SectionLaws.{Section, section, sections, lay_out, encode_sections}

abbrev pub small : ℕ → Bool
small x = ltb x 256

byte_small : (k v : ℕ) → small (byte k v) ≡ true
unfolding byte
byte_small k v = lt-ltb (v / 256 ^ k % 256) 256 (mod-lt (v / 256 ^ k) (omega arith))

all_none : (p : ℕ → Bool) → all p (lay_out []) ≡ true
unfolding all lay_out
all_none p = refl

-- sections whose bytes all pass
all_section : (p : ℕ → Bool) (n : ℕ) (f : ℕ → ℕ) (l : List Section) → ((i : ℕ) → p (f i) ≡ true) → all p (lay_out l) ≡ true → all p (lay_out (section n f ∷ l)) ≡ true
unfolding lay_out section
all_section p n f l h e = all_join p (table n 0 f) (lay_out l) (all-table p f n 0 (λ i _. h i)) e

-- a byte of a place of a table, used or not
place_small {ℓ} : {A : Type ℓ} (bytes : A → List ℕ) (l : List A) (none : A) (p : A → Bool) → ((x : A) → p x ≡ true → all small (bytes x) ≡ true) → all p l ≡ true
    → all small (bytes none) ≡ true → (j i : ℕ) → small (get_or (bytes (get_or l j none)) i 0) ≡ true
place_small bytes l none p f h z j i = all_get_d small (bytes (get_or l j none)) i 0 (all_get_d (λ x. all small (bytes x)) l j none (all_weaken p _ f l h) z) refl

module _ (W : Window) (k : Sound limits W) where
  live_small : (c : ℕ) → live W c ≡ true → small c ≡ true
  live_small c h = lt-ltb c 256 (omega (arith, live_below W c h, given_most W k))

  entry_small : (e : ℕ) → ltb e W.entries ≡ true → small e ≡ true
  entry_small e h = lt-ltb e 256 (omega (arith, ltb-true e W.entries h, entries_most W k))

  -- who runs has a number
  run_small : (c : ℕ) → running W c ≡ true → small c ≡ true
  run_small c h = lt-ltb c 256 (omega (arith, (running-given limits W k c h).1, given_most W k))

  head_small : (i : ℕ) → small (head_byte (figures W) i) ≡ true
  unfolding head_byte
  head_small i = byte_small (i % 2) _

  status_small : (c : ℕ) → small (W.status c) ≡ true
  unfolding status_sound no_change
  status_small c = go (no_change W c) refl
    where
      go : (b : Bool) → no_change W c ≡ b → small (W.status c) ≡ true
      go true h = rw (eqb-true (W.status c) 0 (rw h at (k.statuses c)))
      go false h = lt-ltb (W.status c) 256 (omega (arith, (status_range limits W k c h).1))

  parent_small : (c : ℕ) → small (W.parent c) ≡ true
  unfolding parent_sound no_change
  parent_small c = go (no_change W c) refl
    where
      go : (b : Bool) → no_change W c ≡ b → small (W.parent c) ≡ true
      go true h = rw (eqb-true (W.parent c) 0 (rw h at (k.parents c)))
      go false h = lt-ltb (W.parent c) 256 (omega (arith, ltb-true (W.parent c) c (rw h at (k.parents c)), numbered W c h, given_most W k))

  change_small : (i : ℕ) → small (change_byte W.status W.parent i) ≡ true
  unfolding change_byte all
  change_small i = all_get_d small (W.status (i / 4) ∷ W.parent (i / 4) ∷ []) (i % 4) 0 (rw (status_small (i / 4), parent_small (i / 4))) refl

  lock_small : (i : ℕ) → small (lock_byte W.held i) ≡ true
  unfolding lock_byte
  lock_small i = lt-ltb _ 256 (pack_most 8 (λ b. eqb (W.held (i / 64) (i % 32 * 8 + b)) (suc (i % 64 / 32))))

  sound_record : (r : LogRecord) → record_sound W.entries (live W) W.held r ≡ true → all small (record_bytes r) ≡ true
  unfolding record_bytes all
  sound_record r h = let p = record_parts W.entries (live W) W.held r h in
      rw (live_small r.owner p.0, entry_small r.entry p.1, byte_small 0 r.before, byte_small 1 r.before, byte_small 2 r.before, byte_small 3 r.before)

  log_small : (i : ℕ) → small (log_byte W.log i) ≡ true
  unfolding log_byte
  log_small i = place_small record_bytes W.log no_record (record_sound W.entries (live W) W.held) sound_record k.records (unfold record_bytes all byte in refl) (i / 6) (i % 6)

  sound_permit : (p : PermitRecord) → permit_sound W.entries (live W) p ≡ true → all small (permit_bytes p) ≡ true
  unfolding permit_bytes all
  sound_permit p h = let x = permit_parts W.entries (live W) p h in
      let t : small p.taker ≡ true = ⊎_elim (λ q. rw (eqb-true p.taker 0 q)) (live_small p.taker) (or_cases (eqb p.taker 0) (live W p.taker) x.1) in
      rw (entry_small p.entry x.2, live_small p.giver x.0, t, lt-ltb p.ops 256 (omega (arith, (inside_of 1 3 p.ops (not-true _ x.3)).1)))

  permit_small : (i : ℕ) → small (permit_byte W.permits i) ≡ true
  unfolding permit_byte
  permit_small i = place_small permit_bytes W.permits no_permit (permit_sound W.entries (live W)) sound_permit k.permits (unfold permit_bytes all in refl) (i / 4) (i % 4)

  sound_tie : (t : TieRecord) → tie_sound (live W) t ≡ true → all small (tie_bytes t) ≡ true
  unfolding tie_bytes all
  sound_tie t h = let x = tie_parts (live W) t h in
      rw (lt-ltb t.kind 256 (omega (arith, (inside_of 1 3 t.kind (not-true _ x.0)).1)), live_small t.leader x.1, live_small t.follower x.2)

  tie_small : (i : ℕ) → small (tie_byte W.ties i) ≡ true
  unfolding tie_byte
  tie_small i = place_small tie_bytes W.ties no_tie (tie_sound (live W)) sound_tie k.ties (unfold tie_bytes all in refl) (i / 4) (i % 4)

  sound_waiter : (r : LineRecord) → waiter_sound W.entries (running W) r ≡ true → all small (waiter_bytes r) ≡ true
  unfolding waiter_bytes all
  sound_waiter r h = let x = waiter_parts W.entries (running W) r h in
      rw (run_small r.change x.0, entry_small r.entry x.1, lt-ltb r.mode 256 (omega (arith, (inside_of 1 2 r.mode (not-true _ x.2)).1)))

  line_small : (i : ℕ) → small (line_byte W.line i) ≡ true
  unfolding line_byte
  line_small i = place_small waiter_bytes W.line no_waiter (waiter_sound W.entries (running W)) sound_waiter k.line (unfold waiter_bytes all in refl) (i / 4) (i % 4)

  encode_small : all small (encode W) ≡ true
  unfolding sections value_byte
  encode_small = rw (encode_sections W) (all_section small head_size (head_byte (figures W)) _ head_small
      (all_section small values_size (value_byte W.value) _ (λ i. byte_small (i % 4) (W.value (i / 4)))
      (all_section small changes_size (change_byte W.status W.parent) _ change_small
      (all_section small line_size (line_byte W.line) _ line_small
      (all_section small locks_size (lock_byte W.held) _ lock_small
      (all_section small permits_size (permit_byte W.permits) _ permit_small
      (all_section small ties_size (tie_byte W.ties) _ tie_small
      (all_section small log_size (log_byte W.log) [] log_small (all_none small)))))))))

all_drop : (p : ℕ → Bool) (n : ℕ) (l : List ℕ) → all p l ≡ true → all p (drop n l) ≡ true
unfolding all
all_drop p zero l e = e
all_drop p (suc n) [] e = e
all_drop p (suc n) (x ∷ l) e = all_drop p n l (and_right (p x) (all p l) e)

-- memory of bytes is memory of bytes after any call
pub perform_small : (mem : List ℕ) (c : Call) → fits c ≡ true → all small mem ≡ true → all small (perform mem c).after ≡ true
perform_small mem c f h = go (performed mem c)
  where
    lay : (o : Outcome) → Sound limits o.after → all small (lay_into mem o).after ≡ true
    lay o k = unfold lay_into in all_join small (encode o.after) (drop window_size mem) (encode_small o.after k) (all_drop small window_size mem h)

    go : {r : Reply (List ℕ)} → Performed mem c r → all small r.after ≡ true
    go refused = unfold hand_back in h
    go (ruled q) = lay (step limits (window_of mem) c) (step-sound limits (window_of mem) c f (memory-sound mem q))
    go (begun l o e) = let m = is_open_lem c o in lay (step limits (fresh 0) c) (rw m.1 (opened_sound limits (fresh 0) m.0 (rw m.1 at e)))
    go (kept n) = unfold hand_back in h
