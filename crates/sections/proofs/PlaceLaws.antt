-- The values, each in its fixed place. Assumes nothing.
use mathlib.Core.Path.{◌≡◌, refl, sym, ◌∙◌, ap}
use mathlib.Core.Logic.{◌↔◌}
use mathlib.Core.Bool.{Bool, true, cond, ◌&&◌, ◌||◌}
use mathlib.Core.List.{List}
use Prim.Native.Nat.{ℕ, ◌+◌, ◌-◌, ◌*◌, ◌/◌, ◌%◌, ◌^◌, ◌≤◌, ◌<◌}
use native.Mathlib.Omega.{arith}
use lib.Dec.{ltb, eqb}
use lib.ListN.{get_or, length}
use borrow.Author.Tests.{lt-ltb}
use Rattle.rules.specs.Base.{all_below}
use Rattle.rules.specs.Sound.{value_sound}
use Rattle.rules.proofs.BaseLaws.{Below, under, over, below}
use Rattle.rules.proofs.SoundParts.{no_value}
use Rattle.layout.specs.Codec.{byte, join4, value_byte, value_section}
use Rattle.layout.proofs.CodecLaws.{byte_zero, join4_same}
use Rattle.layout.proofs.RecordLaws.{by_cells}
use Rattle.layout.proofs.SectionLaws.{Bytes, get_or_table0}
use Rattle.cells.specs.Part.{byte_is}
use Rattle.cells.specs.Num.{le}
use Rattle.cells.proofs.NumLaws.{le-byte}
use Rattle.cells.proofs.ZeroLaws.{zeros_at, zeros_all}
use Rattle.places.proofs.TableLaws.{value_places}
use Rattle.sections.specs.Sections.{ValuesSound}
use Rattle.sections.proofs.ByteLaws.{join4_below, byte-join4}

-- VALUES
module _ (bs : List ℕ) (b : Bytes bs) (size : length bs ≡ 1024) (entries : ℕ) where
  value_at : ℕ → ℕ
  value_at e = cond (ltb e 256) (join4 (λ k. get_or bs (e * 4 + k) 0)) 0

  values-bytes : bs ≡ value_section value_at
  unfolding value_at
  values-bytes = by_cells 4 256 (omega arith) bs (λ e. le 4 (value_at e)) size
      (λ e k h t. sym (le-byte 4 k (value_at e) t ∙ rw (lt-ltb e 256 h) (byte-join4 (λ j. get_or bs (e * 4 + j) 0) (λ j. b (e * 4 + j)) k t))) ∙ sym (value_places value_at)

  values-fine : all_below (1024 - entries * 4) (byte_is bs (entries * 4) 0) ≡ true → (e : ℕ) → value_sound entries value_at e ≡ true
  unfolding value_sound value_at
  values-fine z e = go (below e 256) (below e entries)
    where
      rest : (x : ℕ) → entries ≤ x → x < 256 → join4 (λ k. get_or bs (x * 4 + k) 0) ≡ 0
      rest x h t = unfold join4 in join4_same (λ k. get_or bs (x * 4 + k) 0) (λ _. 0) (λ k u. zeros_at bs (entries * 4) 1024 z (x * 4 + k) (omega arith) (omega arith))

      go : {p q : Bool} → Below e 256 p → Below e entries q
          → ltb (cond p (join4 (λ k. get_or bs (e * 4 + k) 0)) 0) (2 ^ 32) && (q || eqb (cond p (join4 (λ k. get_or bs (e * 4 + k) 0)) 0) 0) ≡ true
      go (over h) (under t) = refl
      go (over h) (over t) = refl
      go (under h) (under t) = rw (lt-ltb (join4 (λ k. get_or bs (e * 4 + k) 0)) 4294967296 (join4_below (λ k. get_or bs (e * 4 + k) 0) (λ k. b (e * 4 + k))))
      go (under h) (over t) = rw (rest e t h)

  values_zero : ValuesSound bs entries → all_below (1024 - entries * 4) (byte_is bs (entries * 4) 0) ≡ true
  unfolding value_section value_byte
  values_zero s = zeros_all bs (entries * 4) 1024 (λ i h t. ap (λ l. get_or l i 0) s.bytes ∙ get_or_table0 1024 (value_byte s.value) i 0 t ∙ ap (byte (i % 4)) (no_value entries s.value (i / 4) (s.fine (i / 4)) (omega arith)) ∙ byte_zero (i % 4))

  pub values-sound : all_below (1024 - entries * 4) (byte_is bs (entries * 4) 0) ≡ true ↔ ValuesSound bs entries
  values-sound = (λ z. record { value = value_at; bytes = values-bytes; fine = values-fine z }, values_zero)
