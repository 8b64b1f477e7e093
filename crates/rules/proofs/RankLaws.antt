-- The members of a set of numbers in rising order: how many are below each, the list of them, sums and tests over them. Assumes nothing.
use mathlib.Core.Path.{◌≡◌, refl, sym, ◌∙◌, ap}
use mathlib.Core.Bool.{Bool, true, false, cond, ◌&&◌, ◌||◌, false≢true, or-false}
use mathlib.Core.List.{List, [], ◌∷◌, ◌++◌}
use Prim.Native.Nat.{ℕ, zero, suc, ◌+◌, ◌-◌, ◌≤◌, ◌<◌}
use native.Mathlib.Nat.{not-suc-le-zero, add-zero}
use native.Mathlib.Omega.{arith}
use lib.ListN.{length, get_or, length-append, get_or-append}
use lib.Seq.{get_or-append_seam}
use Rattle.rules.specs.Base.{any_below, count_below, table, keep}
use Rattle.rules.specs.Sets.{Set}
use Rattle.rules.specs.Orders.{sum_below}
use Rattle.rules.proofs.BaseLaws.{Same, same, other, same?, Below, under, over, below}
use Rattle.rules.proofs.BoundLaws.{count_add}
use Rattle.rules.proofs.ListLaws.{length-append-one}

-- fewer below a lower bound
pub count_up : (j n : ℕ) (s : Set) → j ≤ n → count_below j s ≤ count_below n s
count_up j n s h = let e : j + (n - j) ≡ n = omega arith in rw (sym e) (omega (arith, count_add s j (n - j)))

-- the members of s numbered anew, from 0 in rising order: the number of g is how many are below it
module _ (s : Set) where
  pub sum_rank : (n : ℕ) (f : ℕ → ℕ) → sum_below n (λ g. cond (s g) (f (count_below g s)) 0) ≡ sum_below (count_below n s) f
  unfolding sum_below count_below
  sum_rank zero f = refl
  sum_rank (suc n) f = go (s n) (sum_rank n f)
    where
      go : (b : Bool) → sum_below n (λ g. cond (s g) (f (count_below g s)) 0) ≡ sum_below (count_below n s) f
          → sum_below n (λ g. cond (s g) (f (count_below g s)) 0) + cond b (f (count_below n s)) 0 ≡ sum_below (cond b (suc (count_below n s)) (count_below n s)) f
      go true e = rw e
      go false e = add-zero _ ∙ e

  pub any-rank : (n : ℕ) (p : ℕ → Bool) → any_below n (λ g. s g && p (count_below g s)) ≡ any_below (count_below n s) p
  unfolding any_below count_below
  any-rank zero p = refl
  any-rank (suc n) p = go (s n) (any-rank n p)
    where
      go : (b : Bool) → any_below n (λ g. s g && p (count_below g s)) ≡ any_below (count_below n s) p
          → any_below n (λ g. s g && p (count_below g s)) || (b && p (count_below n s)) ≡ any_below (cond b (suc (count_below n s)) (count_below n s)) p
      go true e = rw e
      go false e = or-false _ ∙ e

  -- no two members have the same
  rank_less : (d g : ℕ) → s d ≡ true → d < g → count_below d s < count_below g s
  unfolding count_below
  rank_less d g e h = let u = count_up (suc d) g s h in omega (arith, go (s d) e u)
    where
      go : (b : Bool) → b ≡ true → cond b (suc (count_below d s)) (count_below d s) ≤ count_below g s → suc (count_below d s) ≤ count_below g s
      go true q i = i
      go false q i = absurd (false≢true q)

  pub rank_same : (d g : ℕ) → s d ≡ true → s g ≡ true → count_below d s ≡ count_below g s → d ≡ g
  rank_same d g e f q = go (below d g) (below g d)
    where
      go : {a b : Bool} → Below d g a → Below g d b → d ≡ g
      go (under h) i = absurd (omega (arith, rank_less d g e h))
      go (over h) (under i) = absurd (omega (arith, rank_less g d f i))
      go (over h) (over i) = omega arith

  pub rank_most : (n g : ℕ) → s g ≡ true → g < n → count_below g s < count_below n s
  rank_most n g e h = rank_less g n e h

-- the last of a table, and of what is kept of two lists
table-last {ℓ} : {A : Type ℓ} (n i : ℕ) (f : ℕ → A) → table (suc n) i f ≡ table n i f ++ (f (i + n) ∷ [])
unfolding table
table-last zero i f = rw (add-zero i)
table-last (suc n) i f = ap (λ l. f i ∷ l) (table-last n (suc i) f ∙ ap (λ x. table n (suc i) f ++ (f x ∷ [])) (let e : suc i + n ≡ i + suc n = omega arith in e))

keep_join {ℓ} : {A : Type ℓ} (p : A → Bool) (l m : List A) → keep p (l ++ m) ≡ keep p l ++ keep p m
unfolding keep
keep_join p [] m = refl
keep_join {A = A} p (x ∷ l) m = go (p x) (keep_join p l m)
  where
    go : (b : Bool) → keep p (l ++ m) ≡ keep p l ++ keep p m → cond b (x ∷ keep p (l ++ m)) (keep p (l ++ m)) ≡ cond b (x ∷ keep p l) (keep p l) ++ keep p m
    go true e = ap (λ k. x ∷ k) e
    go false e = e

-- the members of a set below n, in rising order: how many, and where each stands
module _ (p : Set) where
  unfoldable pub members_below : ℕ → List ℕ
  members_below n = keep p (table n 0 (λ c. c))

  pub members_suc : (n : ℕ) → members_below (suc n) ≡ members_below n ++ cond (p n) (n ∷ []) []
  unfolding members_below keep
  members_suc n = ap (keep p) (table-last n 0 (λ c. c)) ∙ keep_join p (table n 0 (λ c. c)) _ ∙ (let e : 0 + n ≡ n = omega arith in rw e)

  pub members-length : (n : ℕ) → length (members_below n) ≡ count_below n p
  unfolding members_below keep table count_below
  members-length zero = refl
  members-length (suc n) = ap length (members_suc n) ∙ go (p n) (members-length n)
    where
      go : (b : Bool) → length (members_below n) ≡ count_below n p → length (members_below n ++ cond b (n ∷ []) []) ≡ cond b (suc (count_below n p)) (count_below n p)
      go true e = length-append-one (members_below n) n ∙ ap suc e
      go false e = length-append (members_below n) [] ∙ add-zero _ ∙ e

  pub members_at : (n c d : ℕ) → c < n → p c ≡ true → get_or (members_below n) (count_below c p) d ≡ c
  members_at zero c d h e = absurd (not-suc-le-zero h)
  members_at (suc n) c d h e = ap (λ l. get_or l (count_below c p) d) (members_suc n) ∙ go (same? c n) (members_at n c d)
    where
      go : {b : Bool} → Same c n b → (c < n → p c ≡ true → get_or (members_below n) (count_below c p) d ≡ c) → get_or (members_below n ++ cond (p n) (n ∷ []) []) (count_below c p) d ≡ c
      go (same q) ih = let f : p n ≡ true = rw q at e in rw (f, q) (ap (λ i. get_or (members_below n ++ (n ∷ [])) i d) (sym (members-length n)) ∙ get_or-append_seam (members_below n) n [] d)
      go (other q) ih = get_or-append (members_below n) _ d (count_below c p) (rw (members-length n) (rank_less p c n e (omega arith))) ∙ ih (omega arith) e
