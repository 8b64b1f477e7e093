-- The number of orders of a set, from those of lower sets in a list. Assumes nothing.
use mathlib.Core.Path.{◌≡◌, refl, sym, ap, ◌∙◌}
use mathlib.Core.Bool.{Bool, true, false, not, cond, ◌&&◌, false≢true}
use mathlib.Core.List.{List}
use Prim.Native.Nat.{ℕ, zero, suc, ◌+◌, ◌-◌, ◌^◌, ◌≤◌, ◌<◌}
use native.Mathlib.Nat.{le_trans, le_of_eq, sub-zero}
use native.Mathlib.Omega.{arith}
use lib.ListN.{length, get_or, set}
use lib.Pow.{pow_pos, ones_lt}
use lib.Seq.{get_or-set_same, get_or-set_other}
use Rattle.rules.specs.Base.{any_below, count_below}
use Rattle.rules.specs.Sets.{Set, Rel, everything}
use Rattle.rules.specs.Orders.{without, free, ways}
use Rattle.rules.proofs.BaseLaws.{Same, same, other, same?, Below, under, over, below, count-le}
use Rattle.rules.proofs.BoundLaws.{count_ext, count_bound}
use Rattle.rules.proofs.AgreeLaws.{ways_alike}
use Rattle.rules.proofs.OrderLists.{sum_ext}
use Rattle.rules.proofs.WaysLaws.{ways_ext, ways-none, ways-some, ways-most, factorial_up, factorial_12}
use Rattle.layout.specs.Codec.{unpack}
use Rattle.cells.proofs.Digits.{unpack_not, unpack_zero, unpack_above}
use Rattle.orders.specs.Ways.{ways_of, lowered, free_of, part_of, sum_of, Blocks, Counted}
use Rattle.orders.proofs.SumLaws.{sum_none, sum_without}
use Rattle.orders.proofs.MaskLaws.{lowered_bits, lowered_less, free_bits, some_left}

-- none is free
pub part_none : (known : List ℕ) (left : ℕ) → sum_of known left 0 ≡ 0
unfolding sum_of part_of
part_none known left = sum_none 64 (part_of known left 0) (λ g h. ap (λ (b : Bool). cond b (get_or known (lowered left g) 0) 0) (unpack_zero g))

-- one that is free taken out
pub part-next : (known : List ℕ) (left free g : ℕ) → g < 64 → unpack free g ≡ true → get_or known (lowered left g) 0 + sum_of known left (lowered free g) ≡ sum_of known left free
unfolding sum_of part_of
part-next known left free g h e =
    ap (λ (x : ℕ). get_or known (lowered left g) 0 + x) (sum_ext 64 (part_of known left (lowered free g)) (λ k. cond (without (unpack free) g k) (get_or known (lowered left k) 0) 0) (λ k l. ap (λ (b : Bool). cond b (get_or known (lowered left k) 0) 0) (lowered_bits free g k e l)))
    ∙ sum_without 64 (unpack free) (λ k. get_or known (lowered left k) 0) g h e

module _ (before : Rel) where
  -- what is not below 64 plays no part
  ways_same : (s t : Set) → ((g : ℕ) → g < 64 → s g ≡ t g) → ways_of before s ≡ ways_of before t
  unfolding ways_of
  ways_same s t e = ap (λ (k : ℕ). ways 64 before k s) (count_ext s t 64 e) ∙ ways_ext 64 before (count_below 64 t) s t e

  -- 12 have at most 479,001,600
  pub ways_fit : (left : ℕ) → left < 4096 → ways_of before (unpack left) ≤ 479001600
  unfolding ways_of
  ways_fit left fits =
      let few : count_below 64 (unpack left) ≤ 12 = omega (arith, count_bound (unpack left) 12 64 (omega arith) (λ k h. unpack_above left 12 k fits h), count-le 12 (unpack left)) in
      le_trans (ways-most 64 before (count_below 64 (unpack left)) (unpack left) refl) (le_trans (factorial_up (count_below 64 (unpack left)) 12 few) (le_of_eq factorial_12))

  -- where one is left: by what comes first
  pub ways_sum : (known blocked : List ℕ) (left mask : ℕ) → 0 < left → left < mask → mask ≤ 4096 → Counted before known left → Blocks before blocked mask → get_or blocked left 0 < 2 ^ 64
      → sum_of known left (free_of left (get_or blocked left 0)) ≡ ways_of before (unpack left)
  unfolding ways_of sum_of part_of free
  ways_sum known blocked left mask some fits few counted blocks small = sum_ext 64 _ _ each ∙ sym (ways-some 64 before (unpack left) (λ e. omega (arith, e, some_left 64 left some (omega arith))))
    where
      each : (g : ℕ) → g < 64 → part_of known left (free_of left (get_or blocked left 0)) g ≡ cond (free 64 before (unpack left) g) (ways_of before (without (unpack left) g)) 0
      each g l =
          ap (λ (b : Bool). cond b (get_or known (lowered left g) 0) 0) (free_bits left (get_or blocked left 0) g small l ∙ ap (λ (b : Bool). unpack left g && not b) (blocks.lower left g fits))
          ∙ go (unpack left g) refl (not (any_below 64 (λ h. unpack left h && before h g)))
        where
          go : (b : Bool) → unpack left g ≡ b → (a : Bool) → cond (b && a) (get_or known (lowered left g) 0) 0 ≡ cond (b && a) (ways_of before (without (unpack left) g)) 0
          go true e a = ap (λ (x : ℕ). cond a x 0)
              (counted.lower (lowered left g) (lowered_less left g l e) ∙ ways_same (unpack (lowered left g)) (without (unpack left) g) (λ k i. lowered_bits left g k e i))
          go false e a = refl

  -- the number of the empty set
  pub counted-first : (known : List ℕ) → 0 < length known → Counted before (set known 0 1) 1
  counted-first known long = record { lower = λ m h. let e : m ≡ 0 = omega arith in rw e (get_or-set_same known 0 1 0 long ∙ sym (none (unpack 0) count_zero)) }
    where
      none : (s : Set) → count_below 64 s ≡ 0 → ways_of before s ≡ 1
      none s e = unfold ways_of in ways-none 64 before s e

      count_zero : count_below 64 (unpack 0) ≡ 0
      count_zero = unfold count_below in count_bound (unpack 0) 0 64 (omega arith) (λ k h. unpack_zero k)

  -- and of one more
  pub counted_next : (known : List ℕ) (left x : ℕ) → left < length known → Counted before known left → x ≡ ways_of before (unpack left) → Counted before (set known left x) (left + 1)
  counted_next known left x long counted e = record { lower = λ m h. go m h (same? m left) }
    where
      go : (m : ℕ) → m < left + 1 → {b : Bool} → Same m left b → get_or (set known left x) m 0 ≡ ways_of before (unpack m)
      go m h (same q) = rw q (get_or-set_same known left x 0 long ∙ e)
      go m h (other q) = get_or-set_other known left m x 0 q ∙ counted.lower m (omega arith)

-- every number below a bound
count-every : (n : ℕ) → count_below n everything ≡ n
unfolding count_below everything
count-every zero = refl
count-every (suc n) = ap suc (count-every n)

-- the number of the set of all is that of the orders
pub counted-all : (n : ℕ) → n ≤ 64 → (before : Rel) (known : List ℕ) → Counted before known (2 ^ n) → get_or known (2 ^ n - 1) 0 ≡ ways n before n everything
unfolding ways_of
counted-all n few before known counted =
    counted.lower (2 ^ n - 1) (ones_lt n)
    ∙ ap (λ (k : ℕ). ways 64 before k all) (count_bound all n 64 few past ∙ count_ext all everything n each ∙ count-every n)
    ∙ sym (ways_alike n 64 few before before n all (record { under = low; same = λ h g p q. refl }))
    ∙ ways_ext n before n all everything each
  where
    all : Set
    all = unpack (2 ^ n - 1)

    past : (k : ℕ) → n ≤ k → all k ≡ false
    past k h = unpack_above (2 ^ n - 1) n k (ones_lt n) h

    each : (k : ℕ) → k < n → all k ≡ everything k
    each k h = unfold everything in (ap (λ (x : ℕ). unpack x k) (sym (sub-zero (2 ^ n - 1))) ∙ unpack_not n 0 k (pow_pos n) h ∙ ap not (unpack_zero k))

    low : (k : ℕ) → all k ≡ true → k < n
    low k e = go (below k n)
      where
        go : {b : Bool} → Below k n b → k < n
        go (under h) = h
        go (over h) = absurd (false≢true (sym (past k h) ∙ e))
