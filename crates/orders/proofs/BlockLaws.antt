-- What the members of sets lead: a list for the sets of the first groups is extended by one group. Assumes nothing.
use mathlib.Core.Path.{◌≡◌, refl, sym, ap, ap₂, ◌∙◌}
use mathlib.Core.Bool.{Bool, true, ◌&&◌, ◌||◌, or_comm, and-or_distrib_right, false≢true}
use mathlib.Core.List.{List}
use Prim.Native.Nat.{ℕ, ◌+◌, ◌-◌, ◌*◌, ◌^◌, ◌≤◌, ◌<◌}
use native.Mathlib.Numerals.{add-one}
use native.Mathlib.Omega.{arith}
use borrow.Author.Tests.{eqb-true}
use lib.Bits.{bit_or}
use lib.Dec.{eqb}
use lib.ListN.{length, get_or, set, length-set}
use lib.Seq.{get_or-set_same, get_or-set_other}
use Rattle.rules.specs.Base.{any_below}
use Rattle.rules.specs.Sets.{Rel}
use Rattle.rules.proofs.BaseLaws.{Same, same, other, same?, Below, under, over, below, none_below, any_intro, any_elim, both_ways, and_left, and_right, and_both, eqb_same}
use Rattle.rules.proofs.BoundLaws.{any_ext, any_or}
use Rattle.layout.specs.Codec.{unpack}
use Rattle.cells.proofs.Digits.{unpack_zero, unpack_or}
use Rattle.orders.specs.Ways.{Blocks, Extended}
use Rattle.orders.proofs.MaskLaws.{with_bits}

-- nothing copied yet
pub extended_none : (size mask : ℕ) (old : List ℕ) → Extended size 0 mask old old
extended_none size mask old = record { long = refl; low = λ m h. refl; high = λ m h. absurd (omega arith) }

-- one place more
pub extended_next : (size r mask : ℕ) (old new : List ℕ) → r < size → 2 * size ≤ length old → Extended size r mask old new → Extended size (r + 1) mask old (set new (size + r) (bit_or (get_or new r 0) mask))
extended_next size r mask old new h l x = record {
  long = length-set new (size + r) (bit_or (get_or new r 0) mask) ∙ x.long;
  low = λ m i. get_or-set_other new (size + r) m (bit_or (get_or new r 0) mask) 0 (λ e. omega arith) ∙ x.low m i;
  high = λ m i. go m i (same? m r);
}
  where
    go : (m : ℕ) → m < r + 1 → {b : Bool} → Same m r b → get_or (set new (size + r) (bit_or (get_or new r 0) mask)) (size + m) 0 ≡ bit_or (get_or old m 0) mask
    go m i (same q) = rw q (get_or-set_same new (size + r) (bit_or (get_or new r 0) mask) 0 (omega (arith, x.long)) ∙ ap (λ (y : ℕ). bit_or y mask) (x.low r h))
    go m i (other q) = get_or-set_other new (size + r) (size + m) (bit_or (get_or new r 0) mask) 0 (λ e. q (omega arith)) ∙ x.high m (omega arith)

module _ (before : Rel) where
  -- the empty set has no member
  pub blocks_first : (list : List ℕ) → 0 < length list → Blocks before (set list 0 0) (2 ^ 0)
  blocks_first list long = record {
    lower = λ m g h. let e : m ≡ 0 = omega arith in rw e
        (ap (λ (x : ℕ). unpack x g) (get_or-set_same list 0 0 0 long) ∙ unpack_zero g ∙ sym (none_below 64 (λ h. unpack 0 h && before h g) (λ d l q. never d (and_left (unpack 0 d) (before d g) q))));
  }
    where
      never : (d : ℕ) → unpack 0 d ≡ true → ⊥
      never d q = false≢true (sym (unpack_zero d) ∙ q)

  -- one member's followers
  one-leads : (h g : ℕ) → h < 64 → any_below 64 (λ d. eqb d h && before d g) ≡ before h g
  one-leads h g l = both_ways _ (before h g)
      (λ e. let w = any_elim 64 (λ d. eqb d h && before d g) e in ap (λ (d : ℕ). before d g) (sym (eqb-true w.0 h (and_left (eqb w.0 h) (before w.0 g) w.2))) ∙ and_right (eqb w.0 h) (before w.0 g) w.2)
      (λ e. any_intro 64 (λ d. eqb d h && before d g) h l (and_both (eqb h h) (before h g) (eqb_same h) e))

  -- the sets with one group more
  pub blocks_next : (old new : List ℕ) (h mask : ℕ) → h < 64 → ((g : ℕ) → unpack mask g ≡ before h g) → Blocks before old (2 ^ h) → Extended (2 ^ h) (2 ^ h) mask old new → Blocks before new (2 ^ (h + 1))
  blocks_next old new h mask l e old-blocks x = record { lower = λ m g i. go m g i (below m (2 ^ h)) }
    where
      -- with h among the members
      added : (r g : ℕ) → r < 2 ^ h → before h g || any_below 64 (λ d. unpack r d && before d g) ≡ any_below 64 (λ d. unpack (2 ^ h + r) d && before d g)
      added r g i = sym (any_ext _ (λ d. eqb d h && before d g || unpack r d && before d g) 64 (λ d j. ap (λ (b : Bool). b && before d g) (with_bits h r d i) ∙ and-or_distrib_right (eqb d h) (unpack r d) (before d g))
          ∙ any_or 64 (λ d. eqb d h && before d g) (λ d. unpack r d && before d g) ∙ ap (λ (b : Bool). b || any_below 64 (λ d. unpack r d && before d g)) (one-leads h g l))

      go : (m g : ℕ) → m < 2 ^ (h + 1) → {b : Bool} → Below m (2 ^ h) b → unpack (get_or new m 0) g ≡ any_below 64 (λ d. unpack m d && before d g)
      go m g i (under j) = ap (λ (y : ℕ). unpack y g) (x.low m j) ∙ old-blocks.lower m g j
      go m g i (over j) =
          let r = m - 2 ^ h in
          let q : 2 ^ h + r ≡ m = omega arith in
          let k : r < 2 ^ h = omega (arith, rw (add-one h) at i) in
          rw q at (ap (λ (y : ℕ). unpack y g) (x.high r k) ∙ unpack_or (get_or old r 0) mask g ∙ or_comm (unpack (get_or old r 0) g) (unpack mask g) ∙ ap₂ ◌||◌ (e g) (old-blocks.lower r g k) ∙ added r g k)
