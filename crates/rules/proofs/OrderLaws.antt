-- Orders of a set under a relation: those that are listed are the orders, each listed once; the one that takes the lowest first. Assumes nothing.
use mathlib.Core.Path.{◌≡◌, refl, sym, ◌∙◌, ap}
use mathlib.Core.Logic.{◌⊎◌, inl, inr, ⊎_elim, ◌≢◌}
use mathlib.Core.Bool.{Bool, true, false, not, cond, ◌&&◌, false≢true}
use mathlib.Core.List.{List, [], ◌∷◌}
use Prim.Native.Nat.{ℕ, zero, suc, ◌≤◌, ◌<◌}
use native.Mathlib.Nat.{not-suc-le-zero, le_of_suc-le-suc}
use native.Mathlib.Omega.{arith}
use lib.Dec.{ltb, eqb}
use lib.ListN.{length, get_or}
use borrow.Author.Tests.{not-true, eqb-false, lt-ltb, ltb-true, ne_eqb}
use Rattle.rules.specs.Base.{any_below, count_below, lowest_below}
use Rattle.rules.specs.Sets.{Set, Rel}
use Rattle.rules.specs.Orders.{occurs, place_in, without, Order, free, lowest_first}
use Rattle.rules.proofs.BaseLaws.{and_both, and_left, and_right, eqb_same, Same, same, other, same?, Below, under, over, below, any_intro, any_elim, none_below, Within}
use Rattle.rules.proofs.BoundLaws.{count_ext, count_none, count-some, lowest_hit, lowest_below_lem}

-- a set without one
module _ (s : Set) (g : ℕ) where
  pub without_self : without s g g ≡ false
  unfolding without
  without_self = go (s g) (eqb_same g)
    where
      go : (b : Bool) {x : Bool} → x ≡ true → b && not x ≡ false
      go true e = rw e
      go false e = refl

  pub without_other : (d : ℕ) → d ≢ g → without s g d ≡ s d
  unfolding without
  without_other d n = go (s d) (ne_eqb d g n)
    where
      go : (b : Bool) {x : Bool} → x ≡ false → b && not x ≡ b
      go true e = rw e
      go false e = refl

  pub without_in : (d : ℕ) → without s g d ≡ true → (s d ≡ true) × (d ≢ g)
  unfolding without
  without_in d e = (and_left (s d) _ e, eqb-false d g (not-true _ (and_right (s d) _ e)))

-- has one member fewer
pub count-without : (n : ℕ) (s : Set) (g : ℕ) → g < n → s g ≡ true → count_below n s ≡ suc (count_below n (without s g))
unfolding count_below
count-without zero s g h e = absurd (not-suc-le-zero h)
count-without (suc n) s g h e = go (same? g n) (count-without n s g)
  where
    put_in : (b x : Bool) → b ≡ x → count_below n s ≡ suc (count_below n (without s g))
        → cond b (suc (count_below n s)) (count_below n s) ≡ suc (cond x (suc (count_below n (without s g))) (count_below n (without s g)))
    put_in true true q i = ap suc i
    put_in true false q i = absurd (false≢true (sym q))
    put_in false true q i = absurd (false≢true q)
    put_in false false q i = i

    go : {b : Bool} → Same g n b → (g < n → s g ≡ true → count_below n s ≡ suc (count_below n (without s g)))
        → cond (s n) (suc (count_below n s)) (count_below n s) ≡ suc (cond (without s g n) (suc (count_below n (without s g))) (count_below n (without s g)))
    go (same q) ih = let a = ap s (sym q) ∙ e in let b = ap (without s g) (sym q) ∙ without_self s g in
        let c = count_ext s (without s g) n (λ k l. sym (without_other s g k (λ x. omega (arith, x)))) in rw (a, b) (ap suc c)
    go (other q) ih = put_in (s n) (without s g n) (sym (without_other s g n (λ x. q (sym x)))) (ih (omega arith) e)

-- places in a list
pub place_head : (g : ℕ) (l : List ℕ) → place_in (g ∷ l) g ≡ 0
unfolding place_in
place_head g l = rw eqb_same

pub place_tail : (x g : ℕ) (l : List ℕ) → g ≢ x → place_in (x ∷ l) g ≡ suc (place_in l g)
unfolding place_in
place_tail x g l n = rw (ne_eqb g x n)

pub occurs_head : (g : ℕ) (l : List ℕ) → occurs g (g ∷ l) ≡ suc (occurs g l)
unfolding occurs
occurs_head g l = rw eqb_same

pub occurs_tail : (x g : ℕ) (l : List ℕ) → g ≢ x → occurs g (x ∷ l) ≡ occurs g l
unfolding occurs
occurs_tail x g l n = rw (ne_eqb g x n)

-- the words of the rule: whoever stands later has a higher number, or a leader that does not stand before
abbrev pub ByRule : ℕ → Rel → Set → List ℕ → Type 0
ByRule n r s l = (g h : ℕ) → g < n → h < n → s g ≡ true → s h ≡ true → place_in l g < place_in l h → (g < h) ⊎ ((d : ℕ) × (d < n) × (s d ≡ true) × (r d h ≡ true) × (place_in l g ≤ place_in l d))

module _ (n : ℕ) (r : Rel) where
  -- who is free is a member that no member leads
  pub free_in : (s : Set) (g : ℕ) → free n r s g ≡ true → s g ≡ true
  unfolding free
  free_in s g e = and_left (s g) _ e

  pub free-led : (s : Set) (g h : ℕ) → free n r s g ≡ true → h < n → s h ≡ true → r h g ≡ true → ⊥
  unfolding free
  free-led s g h e l m q = false≢true (sym (not-true _ (and_right (s g) _ e)) ∙ any_intro n (λ d. s d && r d g) h l (and_both (s h) (r h g) m q))

  pub free_of : (s : Set) (g : ℕ) → s g ≡ true → ((h : ℕ) → h < n → s h ≡ true → r h g ≡ true → ⊥) → free n r s g ≡ true
  unfolding free
  free_of s g e f = and_both (s g) _ e (ap not (none_below n (λ d. s d && r d g) (λ d l q. f d l (and_left (s d) _ q) (and_right (s d) _ q))))

  -- who is a member and not free is led by a member
  pub led_by : (s : Set) (g : ℕ) → s g ≡ true → free n r s g ≡ false → (d : ℕ) × (d < n) × (s d ≡ true) × (r d g ≡ true)
  unfolding free
  led_by s g e q = go (any_below n (λ d. s d && r d g)) refl q
    where
      go : (b : Bool) → any_below n (λ d. s d && r d g) ≡ b → s g && not b ≡ false → (d : ℕ) × (d < n) × (s d ≡ true) × (r d g ≡ true)
      go true x y = let a = any_elim n (λ d. s d && r d g) x in (a.0, a.1, and_left (s a.0) _ a.2, and_right (s a.0) _ a.2)
      go false x y = absurd (false≢true (sym y ∙ and_both (s g) true e refl))

  -- the order of no members, an order with one more at its front, and the rest of an order
  pub order-none : (s : Set) → count_below n s ≡ 0 → Order n r s []
  unfolding occurs
  order-none s e = record { once = λ g. go g (ltb g n) refl; after = λ h g l k m q x. absurd (false≢true (sym (count_none n s e h l) ∙ m)) }
    where
      go : (g : ℕ) (b : Bool) → ltb g n ≡ b → zero ≡ cond (b && s g) 1 0
      go g true q = rw (count_none n s e g (ltb-true g n q))
      go g false q = refl

  pub order-next : (s : Set) (g : ℕ) (l : List ℕ) → g < n → free n r s g ≡ true → Order n r (without s g) l → Order n r s (g ∷ l)
  order-next s g l h f o = record { once = λ d. once d (same? d g); after = λ c d i j m q x. after c d i j m q x (same? c g) (same? d g) }
    where
      once : (d : ℕ) {b : Bool} → Same d g b → occurs d (g ∷ l) ≡ cond (ltb d n && s d) 1 0
      once d (same q) = rw q (occurs_head g l ∙ (rw (o.once g, without_self s g, lt-ltb g n h, free_in s g f)))
      once d (other q) = occurs_tail g d l q ∙ o.once d ∙ ap (λ b. cond (ltb d n && b) 1 0) (without_other s g d q)

      after : (c d : ℕ) → c < n → d < n → s c ≡ true → s d ≡ true → r c d ≡ true → {a b : Bool} → Same c g a → Same d g b → place_in (g ∷ l) c < place_in (g ∷ l) d
      after c d i j m q x u (same v) = absurd (free-led s g c f i m (rw v at x))
      after c d i j m q x (same u) (other v) = rw (u, place_head g l, place_tail g d l v) (omega arith)
      after c d i j m q x (other u) (other v) = rw (place_tail g c l u, place_tail g d l v)
          (omega (arith, o.after c d i j (without_other s g c u ∙ m) (without_other s g d v ∙ q) x))

  pub order_rest : (s : Set) (g : ℕ) (l : List ℕ) → Order n r s (g ∷ l) → (g < n) × (free n r s g ≡ true) × Order n r (without s g) l
  order_rest s g l o = (ltb-true g n (and_left (ltb g n) _ member), free_of s g (and_right (ltb g n) _ member) first, record { once = λ d. once d (same? d g); after = after })
    where
      here : (b : Bool) → suc (occurs g l) ≡ cond b 1 0 → (b ≡ true) × (occurs g l ≡ 0)
      here true e = (refl, omega arith)
      here false e = absurd (omega arith)

      found : (ltb g n && s g ≡ true) × (occurs g l ≡ 0)
      found = here (ltb g n && s g) (sym (occurs_head g l) ∙ o.once g)

      member : ltb g n && s g ≡ true
      member = found.0

      first : (h : ℕ) → h < n → s h ≡ true → r h g ≡ true → ⊥
      first h i m q = omega (arith, place_head g l, o.after h g i (ltb-true g n (and_left (ltb g n) _ member)) m (and_right (ltb g n) _ member) q)

      once : (d : ℕ) {b : Bool} → Same d g b → occurs d l ≡ cond (ltb d n && without s g d) 1 0
      once d (same q) = rw (q, found.1, without_self s g, lt-ltb g n (ltb-true g n (and_left (ltb g n) _ member)))
      once d (other q) = sym (occurs_tail g d l q) ∙ o.once d ∙ ap (λ b. cond (ltb d n && b) 1 0) (sym (without_other s g d q))

      after : (c d : ℕ) → c < n → d < n → without s g c ≡ true → without s g d ≡ true → r c d ≡ true → place_in l c < place_in l d
      after c d i j m q x = let u = without_in s g c m in let v = without_in s g d q in
          omega (arith, place_tail g c l u.1, place_tail g d l v.1, o.after c d i j u.0 v.0 x)

  -- every part of a set with a member has one that is free: what a relation without cycles gives
  abbrev pub Sourced : Set → Type 0
  Sourced s = (t : Set) → Within n t s → any_below n t ≡ true → any_below n (free n r t) ≡ true

  pub sourced_part : (s : Set) (g : ℕ) → Sourced s → Sourced (without s g)
  sourced_part s g f t w = f t (λ c h e. (without_in s g c (w c h e)).0)

  -- the next one, where there is one
  pub next : (k : ℕ) (s : Set) → Sourced s → count_below n s ≡ suc k → (lowest_below n (free n r s) < n) × (free n r s (lowest_below n (free n r s)) ≡ true)
  next k s f e = lowest_hit (free n r s) n (f s (λ c h q. q) (let m = count-some n s (λ z. omega arith) in any_intro n s m.0 m.1 m.2))

  pub rest_count : (k : ℕ) (s : Set) (g : ℕ) → g < n → free n r s g ≡ true → count_below n s ≡ suc k → count_below n (without s g) ≡ k
  rest_count k s g h f e = omega (arith, count-without n s g h (free_in s g f))

  -- taking the lowest first gives an order
  pub lowest_order : (k : ℕ) (s : Set) → Sourced s → count_below n s ≡ k → Order n r s (lowest_first n r k s)
  unfolding lowest_first
  lowest_order zero s f e = order-none s e
  lowest_order (suc k) s f e = let g = lowest_below n (free n r s) in let m = next k s f e in
      order-next s g _ m.0 m.1 (lowest_order k (without s g) (sourced_part s g f) (rest_count k s g m.0 m.1 e))

  -- by the words of the rule
  pub lowest_rule : (k : ℕ) (s : Set) → Sourced s → count_below n s ≡ k → ByRule n r s (lowest_first n r k s)
  unfolding lowest_first
  lowest_rule zero s f e g h i j p q l = absurd (false≢true (sym (count_none n s e g i) ∙ p))
  lowest_rule (suc k) s f e g h i j p q l = go (same? g x) (same? h x) (lowest_rule k (without s x) (sourced_part s x f) (rest_count k s x (next k s f e).0 (next k s f e).1 e) g h i j)
    where
      x : ℕ
      x = lowest_below n (free n r s)

      tail : List ℕ
      tail = lowest_first n r k (without s x)

      Wanted : Type 0
      Wanted = (g < h) ⊎ ((d : ℕ) × (d < n) × (s d ≡ true) × (r d h ≡ true) × (place_in (x ∷ tail) g ≤ place_in (x ∷ tail) d))

      go : {a b : Bool} → Same g x a → Same h x b → (without s x g ≡ true → without s x h ≡ true → place_in tail g < place_in tail h
          → (g < h) ⊎ ((d : ℕ) × (d < n) × (without s x d ≡ true) × (r d h ≡ true) × (place_in tail g ≤ place_in tail d))) → Wanted
      go u (same v) ih = absurd (omega (arith, l, place_head x tail, ap (place_in (x ∷ tail)) v))
      go (same u) (other v) ih = first (free n r s h) refl
        where
          first : (b : Bool) → free n r s h ≡ b → Wanted
          first true z = inl (above (below h x))
            where
              above : {b : Bool} → Below h x b → g < h
              above (under y) = absurd (false≢true (sym (lowest_below_lem (free n r s) n h y) ∙ z))
              above (over y) = omega (arith, u, v)
          first false z = let m = led_by s h q z in inr (m.0, m.1, m.2, m.3, omega (arith, ap (place_in (x ∷ tail)) u, place_head x tail))
      go (other u) (other v) ih =
          let a = place_tail x g tail u in let b = place_tail x h tail v in
          ⊎_elim inl (λ m. let w = without_in s x m.0 m.2 in inr (m.0, m.1, w.0, m.3, omega (arith, m.4, a, place_tail x m.0 tail w.1)))
          (ih (without_other s x g u ∙ p) (without_other s x h v ∙ q) (omega (arith, l, a, b)))

  pub lowest_length : (k : ℕ) (s : Set) → length (lowest_first n r k s) ≡ k
  unfolding lowest_first
  lowest_length zero s = refl
  lowest_length (suc k) s = ap suc (lowest_length k _)

  -- who is in the set stands in an order of it
  pub order_has : (s : Set) (l : List ℕ) → Order n r s l → (g : ℕ) → g < n → s g ≡ true → 0 < occurs g l
  order_has s l o g h e = rw (o.once g, lt-ltb g n h, e) (omega arith)

-- who stands in a list has a place in it, of its own
pub place-most : (l : List ℕ) (g : ℕ) → 0 < occurs g l → place_in l g < length l
unfolding occurs place_in
place-most [] g h = absurd (not-suc-le-zero h)
place-most (x ∷ l) g h = go (eqb g x) h (place-most l g)
  where
    go : (b : Bool) → 0 < cond b (suc (occurs g l)) (occurs g l) → (0 < occurs g l → place_in l g < length l) → cond b 0 (suc (place_in l g)) < suc (length l)
    go true q ih = omega arith
    go false q ih = omega (arith, ih q)

pub place_same : (l : List ℕ) (g h : ℕ) → 0 < occurs g l → 0 < occurs h l → place_in l g ≡ place_in l h → g ≡ h
unfolding occurs place_in
place_same [] g h p q e = absurd (not-suc-le-zero p)
place_same (x ∷ l) g h p q e = go (same? g x) (same? h x) p q e (place_same l g h)
  where
    go : {a b : Bool} → Same g x a → Same h x b → 0 < cond a (suc (occurs g l)) (occurs g l) → 0 < cond b (suc (occurs h l)) (occurs h l)
        → cond a 0 (suc (place_in l g)) ≡ cond b 0 (suc (place_in l h)) → (0 < occurs g l → 0 < occurs h l → place_in l g ≡ place_in l h → g ≡ h) → g ≡ h
    go (same u) (same v) i j y ih = u ∙ sym v
    go (same u) (other v) i j y ih = absurd (omega arith)
    go (other u) (same v) i j y ih = absurd (omega arith)
    go (other u) (other v) i j y ih = ih i j (omega arith)

-- where each number stands once at most, the one at a place has that place
pub place_at : (l : List ℕ) → ((g : ℕ) → occurs g l ≤ 1) → (j : ℕ) → j < length l → (0 < occurs (get_or l j 0) l) × (place_in l (get_or l j 0) ≡ j)
place_at [] f j h = absurd (not-suc-le-zero h)
place_at (x ∷ l) f zero h = (rw (occurs_head x l) (omega arith), place_head x l)
place_at (x ∷ l) f (suc j) h = go (place_at l rest j (le_of_suc-le-suc h)) (same? (get_or l j 0) x)
  where
    rest : (g : ℕ) → occurs g l ≤ 1
    rest g = unfold occurs in go (eqb g x) (f g)
      where
        go : (b : Bool) → cond b (suc (occurs g l)) (occurs g l) ≤ 1 → occurs g l ≤ 1
        go true i = omega arith
        go false i = i

    go : (0 < occurs (get_or l j 0) l) × (place_in l (get_or l j 0) ≡ j) → {b : Bool} → Same (get_or l j 0) x b → (0 < occurs (get_or l j 0) (x ∷ l)) × (place_in (x ∷ l) (get_or l j 0) ≡ suc j)
    go m (same q) = absurd (omega (arith, m.0, f x, occurs_head x l, ap (λ y. occurs y l) q))
    go m (other q) = (omega (arith, m.0, occurs_tail x (get_or l j 0) l q), place_tail x (get_or l j 0) l q ∙ ap suc m.1)

pub order-once : (n : ℕ) (r : Rel) (s : Set) (l : List ℕ) → Order n r s l → (g : ℕ) → occurs g l ≤ 1
order-once n r s l o g = rw (o.once g) (go (ltb g n && s g))
  where
    go : (b : Bool) → cond b 1 0 ≤ 1
    go true = omega arith
    go false = omega arith

-- every place of an order has a member of the set
pub order_at : (n : ℕ) (r : Rel) (s : Set) (l : List ℕ) → Order n r s l → (j : ℕ) → j < length l → (s (get_or l j 0) ≡ true) × (place_in l (get_or l j 0) ≡ j)
order_at n r s l o j h = let m = place_at l (order-once n r s l o) j h in (and_right (ltb (get_or l j 0) n) _ (has (ltb (get_or l j 0) n && s (get_or l j 0)) (rw (o.once (get_or l j 0)) at m.0)), m.1)
  where
    has : (b : Bool) → 0 < cond b 1 0 → b ≡ true
    has true i = refl
    has false i = absurd (omega arith)

-- no other order keeps it
pub lowest_only : (n : ℕ) (r : Rel) (k : ℕ) (s : Set) → count_below n s ≡ k → (l : List ℕ) → Order n r s l → ByRule n r s l → l ≡ lowest_first n r k s
unfolding lowest_first
lowest_only n r zero s e [] o w = refl
lowest_only n r zero s e (x ∷ l) o w = let a = order_rest n r s x l o in absurd (false≢true (sym (count_none n s e x a.0) ∙ free_in n r s x a.1))
lowest_only n r (suc k) s e [] o w = let a = count-some n s (λ q. omega arith) in let p = order_has n r s [] o a.0 a.1 a.2 in absurd (unfold occurs in omega arith)
lowest_only n r (suc k) s e (x ∷ l) o w = let a = order_rest n r s x l o in
    ap (λ y. y ∷ l) (first a.0 a.1) ∙ ap (λ m. lowest_below n (free n r s) ∷ m) (lowest_only n r k (without s x) (rest_count n r k s x a.0 a.1 e) l a.2 rest ∙ ap (λ y. lowest_first n r k (without s y)) (first a.0 a.1))
  where
    first : x < n → free n r s x ≡ true → x ≡ lowest_below n (free n r s)
    first h f = go (same? (lowest_below n (free n r s)) x)
      where
        m : (lowest_below n (free n r s) < n) × (free n r s (lowest_below n (free n r s)) ≡ true)
        m = lowest_hit (free n r s) n (any_intro n (free n r s) x h f)

        go : {b : Bool} → Same (lowest_below n (free n r s)) x b → x ≡ lowest_below n (free n r s)
        go (same q) = sym q
        go (other q) = ⊎_elim (λ i. absurd (false≢true (sym (lowest_below_lem (free n r s) n x i) ∙ f))) (λ d. absurd (free-led n r s (lowest_below n (free n r s)) d.0 m.1 d.1 d.2 d.3))
            (w x (lowest_below n (free n r s)) h m.0 (free_in n r s x f) (free_in n r s (lowest_below n (free n r s)) m.1) (omega (arith, place_head x l, place_tail x (lowest_below n (free n r s)) l q)))

    rest : ByRule n r (without s x) l
    rest g h i j p q t =
        let u = without_in s x g p in let v = without_in s x h q in let a = place_tail x g l u.1 in
        ⊎_elim inl (λ d. inr (later g h d.0 d.1 d.2 d.3 d.4 a)) (w g h i j u.0 v.0 (omega (arith, t, a, place_tail x h l v.1)))
      where
        later : (g h d : ℕ) → d < n → s d ≡ true → r d h ≡ true → place_in (x ∷ l) g ≤ place_in (x ∷ l) d → place_in (x ∷ l) g ≡ suc (place_in l g) → (d : ℕ) × (d < n) × (without s x d ≡ true) × (r d h ≡ true) × (place_in l g ≤ place_in l d)
        later g h d i p q t a = at (same? d x)
          where
            at : {b : Bool} → Same d x b → (d : ℕ) × (d < n) × (without s x d ≡ true) × (r d h ≡ true) × (place_in l g ≤ place_in l d)
            at (same u) = absurd (omega (arith, t, a, ap (place_in (x ∷ l)) u, place_head x l))
            at (other u) = (d, i, without_other s x d u ∙ p, q, omega (arith, t, a, place_tail x d l u))
