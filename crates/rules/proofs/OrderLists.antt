-- The listed orders of a set are its orders, each listed once; how many they are, by recursion over sets. Assumes nothing.
use mathlib.Core.Path.{◌≡◌, refl, sym, ◌∙◌, ap}
use mathlib.Core.Logic.{⊎_elim}
use mathlib.Core.Bool.{Bool, true, false, cond, false≢true}
use mathlib.Core.List.Memᴰ
use mathlib.Core.List.{List, [], ◌∷◌, ◌++◌, map, Memᴰ}
use Prim.Native.Nat.{ℕ, zero, suc, ◌+◌, ◌<◌}
use native.Mathlib.Nat.{not-suc-le-zero}
use native.Mathlib.Omega.{arith}
use lib.ListN.{length, get_or, drop, length-append, length-map}
use Rattle.rules.specs.Base.{count_below}
use Rattle.rules.specs.Sets.{Set, Rel}
use Rattle.rules.specs.Orders.{sum_below, join_below, occurs, without, Order, free, orders, ways}
use Rattle.rules.proofs.BaseLaws.{Same, same, other, same?}
use Rattle.rules.proofs.BoundLaws.{count_none, count-some}
use Rattle.rules.proofs.OrderLaws.{free_in, order-none, order-next, order_rest, order_has, rest_count}

-- none twice
abbrev pub Distinct {ℓ} : {A : Type ℓ} → List A → Type ℓ
Distinct [] = Unit
Distinct (x ∷ l) = (Memᴰ x l → ⊥) × Distinct l

module _ {ℓ} {A : Type ℓ} where
  distinct_append : (l m : List A) → Distinct l → Distinct m → ((x : A) → Memᴰ x l → Memᴰ x m → ⊥) → Distinct (l ++ m)
  distinct_append [] m d e f = e
  distinct_append (x ∷ l) m d e f = (λ i. ⊎_elim d.0 (f x (Memᴰ.head refl)) (Memᴰ.append_cases l i), distinct_append l m d.1 e (λ y i j. f y (Memᴰ.tail i) j))

  -- one list after the other
  pub joined : (n : ℕ) (f : ℕ → List A) {x : A} → Memᴰ x (join_below n f) → (g : ℕ) × (g < n) × Memᴰ x (f g)
  unfolding join_below
  joined zero f m = absurd (Memᴰ.not-nil m)
  joined (suc n) f m = ⊎_elim (λ i. let r = joined n f i in (r.0, omega (arith, r.1), r.2)) (λ i. (n, omega arith, i)) (Memᴰ.append_cases (join_below n f) m)

  pub join_in : (n : ℕ) (f : ℕ → List A) {x : A} (g : ℕ) → g < n → Memᴰ x (f g) → Memᴰ x (join_below n f)
  unfolding join_below
  join_in zero f g h m = absurd (not-suc-le-zero h)
  join_in (suc n) f {x} g h m = go (same? g n) (join_in n f g)
    where
      go : {b : Bool} → Same g n b → (g < n → Memᴰ x (f g) → Memᴰ x (join_below n f)) → Memᴰ x (join_below n f ++ f n)
      go (same q) ih = Memᴰ.append_right (join_below n f) (rw q at m)
      go (other q) ih = Memᴰ.append_left (f n) (ih (omega arith) m)

  -- lists whose members show which list they are of
  distinct_join : (n : ℕ) (f : ℕ → List A) (tag : A → ℕ) → ((g : ℕ) (x : A) → Memᴰ x (f g) → tag x ≡ g) → ((g : ℕ) → Distinct (f g)) → Distinct (join_below n f)
  unfolding join_below
  distinct_join zero f tag t d = tt
  distinct_join (suc n) f tag t d = distinct_append (join_below n f) (f n) (distinct_join n f tag t d) (d n) (λ x i j. let r = joined n f i in omega (arith, r.1, t r.0 x r.2, t n x j))

  length_join : (n : ℕ) (f : ℕ → List A) → length (join_below n f) ≡ sum_below n (λ g. length (f g))
  unfolding join_below sum_below
  length_join zero f = refl
  length_join (suc n) f = length-append (join_below n f) (f n) ∙ ap (λ x. x + length (f n)) (length_join n f)

-- a list or none, by a test
module _ {ℓ} {A : Type ℓ} (l : List A) where
  chosen : (b : Bool) {x : A} → Memᴰ x (cond b l []) → (b ≡ true) × Memᴰ x l
  chosen true m = (refl, m)
  chosen false m = absurd (Memᴰ.not-nil m)

  choose : (b : Bool) {x : A} → b ≡ true → Memᴰ x l → Memᴰ x (cond b l [])
  choose b e m = rw e m

  distinct_cond : (b : Bool) → Distinct l → Distinct (cond b l [])
  distinct_cond true d = d
  distinct_cond false d = tt

distinct_fronts : (g : ℕ) (ls : List (List ℕ)) → Distinct ls → Distinct (map (λ l. g ∷ l) ls)
distinct_fronts g [] d = tt
distinct_fronts g (l ∷ ls) d = (λ m. let r = Memᴰ.of_map (λ k. g ∷ k) ls m in d.0 (Memᴰ.cast (ap (drop 1) (sym r.2)) r.1), distinct_fronts g ls d.1)

-- sums
pub sum_ext : (n : ℕ) (f h : ℕ → ℕ) → ((g : ℕ) → g < n → f g ≡ h g) → sum_below n f ≡ sum_below n h
unfolding sum_below
sum_ext zero f h e = refl
sum_ext (suc n) f h e = rw (sum_ext n f h (λ g l. e g (omega arith)), e n (omega arith))

-- what a list of orders is to be: the orders of the set, each of them, none twice
pub record Listed (n : ℕ) (r : Rel) (s : Set) (ls : List (List ℕ)) : Type 0 where
  pub right : (l : List ℕ) → Memᴰ l ls → Order n r s l
  pub each : (l : List ℕ) → Order n r s l → Memᴰ l ls
  pub distinct : Distinct ls

module _ (n : ℕ) (r : Rel) where
  -- the orders that begin with g
  abbrev begun : ℕ → Set → ℕ → List (List ℕ)
  begun k s g = cond (free n r s g) (map (λ l. g ∷ l) (orders n r k (without s g))) []

  right : (k : ℕ) (s : Set) → count_below n s ≡ k → (l : List ℕ) → Memᴰ l (orders n r k s) → Order n r s l
  unfolding orders
  right zero s e l m = rw (Memᴰ.eq_of_singleton m) (order-none n r s e)
  right (suc k) s e l m =
      let a = joined n (begun k s) m in
      let b = chosen _ (free n r s a.0) a.2 in
      let c = Memᴰ.of_map (λ i. a.0 ∷ i) (orders n r k (without s a.0)) b.1 in
      rw (sym c.2) (order-next n r s a.0 c.0 a.1 b.0 (right k (without s a.0) (rest_count n r k s a.0 a.1 b.0 e) c.0 c.1))

  each : (k : ℕ) (s : Set) → count_below n s ≡ k → (l : List ℕ) → Order n r s l → Memᴰ l (orders n r k s)
  unfolding orders
  each zero s e [] o = Memᴰ.head refl
  each zero s e (g ∷ l) o = let a = order_rest n r s g l o in absurd (false≢true (sym (count_none n s e g a.0) ∙ free_in n r s g a.1))
  each (suc k) s e [] o = let a = count-some n s (λ q. omega arith) in let p = order_has n r s [] o a.0 a.1 a.2 in absurd (unfold occurs in omega arith)
  each (suc k) s e (g ∷ l) o = let a = order_rest n r s g l o in
      join_in n (begun k s) g a.0 (choose _ (free n r s g) a.1 (Memᴰ.map (λ i. g ∷ i) (each k (without s g) (rest_count n r k s g a.0 a.1 e) l a.2)))

  distinct : (k : ℕ) (s : Set) → Distinct (orders n r k s)
  unfolding orders
  distinct zero s = (λ m. Memᴰ.not-nil m, tt)
  distinct (suc k) s = distinct_join n (begun k s) (λ l. get_or l 0 0)
      (λ g x m. let b = chosen _ (free n r s g) m in let c = Memᴰ.of_map (λ i. g ∷ i) (orders n r k (without s g)) b.1 in ap (λ l. get_or l 0 0) (sym c.2))
      (λ g. distinct_cond _ (free n r s g) (distinct_fronts g (orders n r k (without s g)) (distinct k (without s g))))

  pub listed : (k : ℕ) (s : Set) → count_below n s ≡ k → Listed n r s (orders n r k s)
  listed k s e = record { right = right k s e; each = each k s e; distinct = distinct k s }

  -- the recursion over sets counts them
  pub ways-orders : (k : ℕ) (s : Set) → length (orders n r k s) ≡ ways n r k s
  unfolding orders ways
  ways-orders zero s = refl
  ways-orders (suc k) s = length_join n (begun k s) ∙ sum_ext n _ _ (λ g h. go g (free n r s g) (ways-orders k (without s g)))
    where
      go : (g : ℕ) (b : Bool) → length (orders n r k (without s g)) ≡ ways n r k (without s g) → length (cond b (map (λ l. g ∷ l) (orders n r k (without s g))) []) ≡ cond b (ways n r k (without s g)) 0
      go g true e = length-map (orders n r k (without s g)) (λ l. g ∷ l) ∙ e
      go g false e = refl
