-- Laws of tests, bounded quantifiers, largest figures and functions changed at a place. Assumes nothing.
use mathlib.Core.Path.{◌≡◌, refl, sym, ◌∙◌, ap}
use mathlib.Core.Logic.{◌⊎◌, inl, inr, ⊎_elim, ◌≢◌}
use mathlib.Core.Bool.{Bool, true, false, not, cond, ◌&&◌, ◌||◌, false≢true, and-eq-true_iff, not-eq-not}
use Prim.Native.Nat.{ℕ, zero, suc, ◌≤◌, ◌<◌, zero-le}
use native.Mathlib.Nat.{eq-or-lt_of_le, le_of_suc-le-suc, not-suc-le-zero}
use native.Mathlib.Omega.{arith}
use lib.Dec.{ltb, eqb, T, ltb→lt, nltb→le, leb-suc-suc}
use borrow.Author.Tests.{not-true, eqb-true, eq-eqb, lt-ltb, le-ltb, ltb-false}
use Rattle.rules.specs.Base.{put, all_below, any_below, count_below, exceeds}

pub or_left : (a b : Bool) → a ≡ true → a || b ≡ true
or_left a b e = rw e

pub or_right : (a b : Bool) → b ≡ true → a || b ≡ true
or_right true b e = refl
or_right false b e = e

pub or_cases : (a b : Bool) → a || b ≡ true → (a ≡ true) ⊎ (b ≡ true)
or_cases true b e = inl refl
or_cases false b e = inr e

-- the inner two of four exchanged; with false first, the first two of three
pub or_swap : (a b c d : Bool) → (a || b) || (c || d) ≡ (a || c) || (b || d)
or_swap true b c d = refl
or_swap false true true d = refl
or_swap false true false d = refl
or_swap false false c d = refl

pub and_both : (a b : Bool) → a ≡ true → b ≡ true → a && b ≡ true
and_both a b p q = (and-eq-true_iff a b).1 (p, q)

pub and_left : (a b : Bool) → a && b ≡ true → a ≡ true
and_left a b e = ((and-eq-true_iff a b).0 e).0

pub and_right : (a b : Bool) → a && b ≡ true → b ≡ true
and_right a b e = ((and-eq-true_iff a b).0 e).1

-- each side taken on
pub or_map : (a b c d : Bool) → (a ≡ true → c ≡ true) → (b ≡ true → d ≡ true) → a || b ≡ true → c || d ≡ true
or_map a b c d f g e = ⊎_elim (λ x. or_left c d (f x)) (λ x. or_right c d (g x)) (or_cases a b e)

pub and_map : (a b c d : Bool) → (a ≡ true → c ≡ true) → (b ≡ true → d ≡ true) → a && b ≡ true → c && d ≡ true
and_map a b c d f g e = and_both c d (f (and_left a b e)) (g (and_right a b e))

pub and_eqs : (p : Bool) (x a y b : ℕ) → p && eqb x a && eqb y b ≡ true → (p ≡ true) × (x ≡ a) × (y ≡ b)
and_eqs p x a y b e = let u = and_left (p && eqb x a) (eqb y b) e in (and_left p (eqb x a) u, eqb-true x a (and_right p (eqb x a) u), eqb-true y b (and_right (p && eqb x a) (eqb y b) e))

pub and_four : (a b c d : Bool) → a && b && c && d ≡ true → (a ≡ true) × (b ≡ true) × (c ≡ true) × (d ≡ true)
and_four a b c d e = let f = and_left (a && b && c) d e in let g = and_left (a && b) c f in (and_left a b g, and_right a b g, and_right (a && b) c f, and_right (a && b && c) d e)

pub and_five : (a b c d x : Bool) → a && b && c && d && x ≡ true → (a ≡ true) × (b ≡ true) × (c ≡ true) × (d ≡ true) × (x ≡ true)
and_five a b c d x e = let f = and_four a b c d (and_left (a && b && c && d) x e) in (f.0, f.1, f.2, f.3, and_right (a && b && c && d) x e)

-- of one test or two: what cannot be, and when two are the same
pub never : (b : Bool) → b ≡ true → not b ≡ true → ⊥
never b p q = false≢true (rw p at q)

pub or_none : (a b : Bool) → a || b ≡ false → (a ≡ false) × (b ≡ false)
or_none true b e = absurd (false≢true (sym e))
or_none false b e = (refl, e)

pub no_true : (b : Bool) → (b ≡ true → ⊥) → b ≡ false
no_true b = (not-eq-not {a = b} {b = false}).0

pub both_ways : (a b : Bool) → (a ≡ true → b ≡ true) → (b ≡ true → a ≡ true) → a ≡ b
both_ways true true f g = refl
both_ways true false f g = sym (f refl)
both_ways false true f g = g refl
both_ways false false f g = refl

pub eqb_same : (c : ℕ) → eqb c c ≡ true
eqb_same c = eq-eqb c c refl

-- a test against a bound
pub data Below (e n : ℕ) : Bool → Type 0 where
  under : e < n → Below e n true
  over : n ≤ e → Below e n false

pub below : (e n : ℕ) → Below e n (ltb e n)
below e n = go (ltb e n) (ltb→lt e n) (nltb→le e n)
  where
    go : (b : Bool) → (T b → e < n) → (T (not b) → n ≤ e) → Below e n b
    go true f g = under (f tt)
    go false f g = over (g tt)

-- two numbers are the same, or not
pub data Same (a b : ℕ) : Bool → Type 0 where
  same : a ≡ b → Same a b true
  other : a ≢ b → Same a b false

pub same? : (a b : ℕ) → Same a b (eqb a b)
same? a b = go (eqb a b) refl
  where
    go : (x : Bool) → eqb a b ≡ x → Same a b x
    go true e = same (eqb-true a b e)
    go false e = other (λ q. false≢true (sym e ∙ (rw q (eqb_same b))))

-- numbers that are equal just where two others are
pub eqb_iff : (a b c d : ℕ) → (a ≡ b → c ≡ d) → (c ≡ d → a ≡ b) → eqb a b ≡ eqb c d
eqb_iff a b c d f g = both_ways _ _ (λ e. eq-eqb c d (f (eqb-true a b e))) (λ e. eq-eqb a b (g (eqb-true c d e)))

pub eqb_sym : (a b : ℕ) → eqb a b ≡ eqb b a
eqb_sym a b = eqb_iff a b b a sym sym

-- for all below a bound
pub all_below_intro : (n : ℕ) (p : ℕ → Bool) → ((c : ℕ) → c < n → p c ≡ true) → all_below n p ≡ true
unfolding all_below
all_below_intro zero p f = refl
all_below_intro (suc n) p f = and_both (all_below n p) (p n) (all_below_intro n p (λ c h. f c (omega arith))) (f n (omega arith))

pub all_below_at : (n : ℕ) (p : ℕ → Bool) → all_below n p ≡ true → (c : ℕ) → c < n → p c ≡ true
unfolding all_below
all_below_at zero p e c h = absurd (not-suc-le-zero h)
all_below_at (suc n) p e c h = go (same? c n) (all_below_at n p (and_left (all_below n p) (p n) e) c)
  where
    go : {b : Bool} → Same c n b → (c < n → p c ≡ true) → p c ≡ true
    go (same q) ih = rw q (and_right (all_below n p) (p n) e)
    go (other q) ih = ih (omega arith)

pub all_below-fails : (n : ℕ) (p : ℕ → Bool) → all_below n p ≡ false → (c : ℕ) × (p c ≡ false)
unfolding all_below
all_below-fails zero p e = absurd (false≢true (sym e))
all_below-fails (suc n) p e = go (all_below n p) e (all_below-fails n p)
  where
    go : (b : Bool) → b && p n ≡ false → (b ≡ false → (c : ℕ) × (p c ≡ false)) → (c : ℕ) × (p c ≡ false)
    go true q ih = (n, q)
    go false q ih = ih refl

-- both cases alike
pub cond_same : (b : Bool) (a : ℕ) → cond b a a ≡ a
cond_same true a = refl
cond_same false a = refl

-- a largest figure
pub exceeds_ltb : (m n : ℕ) → exceeds m n ≡ ltb n m
unfolding exceeds
exceeds_ltb zero n = sym (le-ltb n 0 zero-le)
exceeds_ltb (suc m) zero = sym (lt-ltb 0 (suc m) (omega arith))
exceeds_ltb (suc m) (suc n) = exceeds_ltb m n ∙ sym (leb-suc-suc (suc n) m)

pub over_false : (m n : ℕ) → m ≤ n → exceeds m n ≡ false
over_false m n h = exceeds_ltb m n ∙ le-ltb n m h

pub over_true : (m n : ℕ) → n < m → exceeds m n ≡ true
over_true m n h = exceeds_ltb m n ∙ lt-ltb n m h

pub within_of : (m n : ℕ) → not (exceeds m n) ≡ true → m ≤ n
within_of m n e = ltb-false n m (sym (exceeds_ltb m n) ∙ not-true _ e)

pub over_less : (m k n : ℕ) → k ≤ m → not (exceeds m n) ≡ true → not (exceeds k n) ≡ true
over_less m k n h e = ap not (over_false k n (omega (arith, within_of m n e)))

-- the last number below a bound, and the others
below_suc : (d n : ℕ) → d < suc n → (d ≡ n) ⊎ (d < n)
below_suc d n h = eq-or-lt_of_le (le_of_suc-le-suc h)

pub any_intro : (n : ℕ) (p : ℕ → Bool) (d : ℕ) → d < n → p d ≡ true → any_below n p ≡ true
unfolding any_below
any_intro zero p d h e = absurd (not-suc-le-zero h)
any_intro (suc n) p d h e =
    ⊎_elim (λ q. or_right (any_below n p) (p n) (rw q at e)) (λ l. or_left (any_below n p) (p n) (any_intro n p d l e)) (below_suc d n h)

pub any_elim : (n : ℕ) (p : ℕ → Bool) → any_below n p ≡ true → (d : ℕ) × (d < n) × (p d ≡ true)
unfolding any_below
any_elim zero p e = absurd (false≢true e)
any_elim (suc n) p e =
    ⊎_elim (λ q. let r = any_elim n p q in (r.0, omega arith, r.2)) (λ q. (n, omega arith, q)) (or_cases (any_below n p) (p n) e)

-- one set within another, below a bound
abbrev pub Within : ℕ → (ℕ → Bool) → (ℕ → Bool) → Type 0
Within n s t = (c : ℕ) → c < n → s c ≡ true → t c ≡ true

within_pred : {n : ℕ} {s t : ℕ → Bool} → Within (suc n) s t → Within n s t
within_pred w c h e = w c (omega arith) e

-- how many
pub count-le : (n : ℕ) (s : ℕ → Bool) → count_below n s ≤ n
unfolding count_below
count-le zero s = zero-le
count-le (suc n) s = go (s n) (count-le n s)
  where
    go : (b : Bool) → count_below n s ≤ n → cond b (suc (count_below n s)) (count_below n s) ≤ suc n
    go true h = omega arith
    go false h = omega arith

-- sets and their counts
pub count-within : (n : ℕ) (s t : ℕ → Bool) → Within n s t → count_below n s ≤ count_below n t
unfolding count_below
count-within zero s t w = zero-le
count-within (suc n) s t w = go (s n) (t n) (w n (omega arith)) (count-within n s t (within_pred {s = s} {t = t} w))
  where
    go : (a b : Bool) → (a ≡ true → b ≡ true) → count_below n s ≤ count_below n t
        → cond a (suc (count_below n s)) (count_below n s) ≤ cond b (suc (count_below n t)) (count_below n t)
    go true true f h = omega arith
    go true false f h = absurd (false≢true (f refl))
    go false true f h = omega arith
    go false false f h = h

-- a set within another that has as many members has the same
pub count_same : (n : ℕ) (s t : ℕ → Bool) → Within n s t → count_below n t ≤ count_below n s → Within n t s
unfolding count_below
count_same zero s t w h c l e = absurd (not-suc-le-zero l)
count_same (suc n) s t w h c l e =
    let w' : Within n s t = within_pred {s = s} {t = t} w in
    let k = go (s n) (t n) (w n (omega arith)) (count-within n s t w') h in
    ⊎_elim (λ q. rw q (k.1 (rw q at e))) (λ m. count_same n s t w' k.0 c m e) (below_suc c n l)
  where
    go : (a b : Bool) → (a ≡ true → b ≡ true) → count_below n s ≤ count_below n t
        → cond b (suc (count_below n t)) (count_below n t) ≤ cond a (suc (count_below n s)) (count_below n s)
        → (count_below n t ≤ count_below n s) × (b ≡ true → a ≡ true)
    go true true f i h' = (omega arith, λ x. refl)
    go true false f i h' = absurd (false≢true (f refl))
    go false true f i h' = absurd (omega arith)
    go false false f i h' = (h', λ x. x)

-- none below a bound
pub any_below_none : (n : ℕ) (p : ℕ → Bool) → any_below n p ≡ false → (c : ℕ) → c < n → p c ≡ false
any_below_none n p e c h = no_true (p c) (λ q. false≢true (sym e ∙ any_intro n p c h q))

pub none_below : (n : ℕ) (p : ℕ → Bool) → ((d : ℕ) → d < n → p d ≡ true → ⊥) → any_below n p ≡ false
none_below n p f = no_true (any_below n p) (λ e. let a = any_elim n p e in f a.0 a.1 a.2)

-- functions changed at a place
module _ {ℓ} {A : Type ℓ} where
  pub put_same : (f : ℕ → A) (i : ℕ) (v : A) → put f i v i ≡ v
  unfolding put
  put_same f i v = rw eqb_same

  pub put_other : (f : ℕ → A) (i : ℕ) (v : A) (j : ℕ) → j ≢ i → put f i v j ≡ f j
  unfolding put
  put_other f i v j h = go (same? j i)
    where
      go : {b : Bool} → Same j i b → cond b v (f j) ≡ f j
      go (same e) = absurd (h e)
      go (other n) = refl
