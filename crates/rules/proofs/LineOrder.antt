-- Lines in order of coming: since when each waits is after all before it. Assumes nothing.
use mathlib.Core.Path.{◌≡◌, refl, sym, ◌∙◌, ap}
use mathlib.Core.Logic.{◌⊎◌, inl, inr, ◌≢◌}
use mathlib.Core.Bool.{Bool, true, false, not, cond, ◌&&◌, false≢true, true≢false}
use mathlib.Core.List.{List, [], ◌∷◌, Memᴰ}
use Prim.Native.Nat.{ℕ, ◌<◌}
use lib.Dec.{ltb, eqb}
use borrow.Author.Tests.{eqb-true, eqb-false, eq-eqb, ne_eqb, ltb-true, not-true}
use Rattle.rules.specs.Base.{all, any, keep, distinct}
use Rattle.rules.specs.Window.{LineRecord}
use Rattle.rules.specs.Line.{make_waiter, waits_elsewhere, first_in_line, enter_line}
use Rattle.rules.proofs.BaseLaws.{and_both, and_left, and_right, or_left, or_right, or_cases, no_true, eqb_same, Same, same, other, same?}
use Rattle.rules.proofs.LineLaws.{distinct-one, enter-all}
use Rattle.rules.proofs.ListLaws.{all_keep, all_member, all-members, any_find, any_member, any_weaken, any-keep_up}

module _ {A : Type 0} where
  unfoldable pub is_in_order : (A → ℕ) → List A → Bool
  is_in_order f [] = true
  is_in_order f (x ∷ l) = all (λ y. ltb (f x) (f y)) l && is_in_order f l

  pub order-keep : (f : A → ℕ) (q : A → Bool) (l : List A) → is_in_order f l ≡ true → is_in_order f (keep q l) ≡ true
  unfolding is_in_order keep
  order-keep f q [] e = refl
  order-keep f q (x ∷ l) e = go (q x) (order-keep f q l (and_right (all (λ y. ltb (f x) (f y)) l) (is_in_order f l) e))
    where
      go : (b : Bool) → is_in_order f (keep q l) ≡ true → is_in_order f (cond b (x ∷ keep q l) (keep q l)) ≡ true
      go true ih = and_both (all (λ y. ltb (f x) (f y)) (keep q l)) (is_in_order f (keep q l)) (all_keep (λ y. ltb (f x) (f y)) q (λ y. ltb (f x) (f y)) (λ y a b. a) l (and_left (all (λ y. ltb (f x) (f y)) l) (is_in_order f l) e)) ih
      go false ih = ih

  -- numbers that are the same of all
  pub order_same : (f g : A → ℕ) (l : List A) → ((x : A) → Memᴰ x l → f x ≡ g x) → is_in_order f l ≡ true → is_in_order g l ≡ true
  unfolding is_in_order
  order_same f g [] h e = refl
  order_same f g (x ∷ l) h e = and_both (all (λ y. ltb (g x) (g y)) l) (is_in_order g l)
      (all-members (λ y. ltb (g x) (g y)) l (λ y m. rw (h x (Memᴰ.head refl), h y (Memᴰ.tail m)) at (all_member (λ z. ltb (f x) (f z)) m (and_left (all (λ z. ltb (f x) (f z)) l) (is_in_order f l) e))))
      (order_same f g l (λ y m. h y (Memᴰ.tail m)) (and_right (all (λ y. ltb (f x) (f y)) l) (is_in_order f l) e))

-- the change has a place in the entry's line
unfoldable pub stands_in : List LineRecord → ℕ → ℕ → Bool
stands_in l c e = any (λ r. eqb r.change c && eqb r.entry e) l

pub stands_record : (l : List LineRecord) (c e : ℕ) → stands_in l c e ≡ true → (r : LineRecord) × Memᴰ r l × (r.change ≡ c) × (r.entry ≡ e)
unfolding stands_in
stands_record l c e h = let m = any_find _ l h in
    (m.0, m.1, eqb-true m.0.change c (and_left (eqb m.0.change c) _ m.2), eqb-true m.0.entry e (and_right (eqb m.0.change c) _ m.2))

pub record_stands : {r : LineRecord} {l : List LineRecord} → Memᴰ r l → stands_in l r.change r.entry ≡ true
unfolding stands_in
record_stands {r} m = any_member _ m (rw (eqb_same r.change, eqb_same r.entry))

-- who stands in no other line stands in this one or in none
pub not_elsewhere : (l : List LineRecord) (c e x : ℕ) → waits_elsewhere l c e ≡ false → stands_in l c x ≡ true → x ≡ e
unfolding stands_in waits_elsewhere
not_elsewhere l c e x n h = go (same? x e)
  where
    go : {b : Bool} → Same x e b → x ≡ e
    go (same q) = q
    go (other o) = absurd (true≢false (sym (any_weaken _ (λ r. eqb r.change c && not (eqb r.entry e)) (λ r q. and_both (eqb r.change c) _ (and_left (eqb r.change c) _ q)
        (ap not (ne_eqb r.entry e (λ i. o (sym (eqb-true r.entry x (and_right (eqb r.change c) _ q)) ∙ i))))) l h) ∙ n))

-- who stands once stands in no other line
pub one_line : {r : LineRecord} {l : List LineRecord} → Memᴰ r l → distinct (λ q. q.change) l ≡ true → waits_elsewhere l r.change r.entry ≡ false
unfolding waits_elsewhere
one_line {r} {l} m d = no_true _ (λ h. let o = any_find (λ q. eqb q.change r.change && not (eqb q.entry r.entry)) l h in
    let i = distinct-one (λ q. q.change) o.1 m d (eqb-true o.0.change r.change (and_left (eqb o.0.change r.change) _ o.2)) in
    eqb-false o.0.entry r.entry (not-true _ (and_right (eqb o.0.change r.change) _ o.2)) (ap (λ q. q.entry) i))

-- who is kept stands there still
pub keep_stands : (q : LineRecord → Bool) (l : List LineRecord) (c e : ℕ) → ((r : LineRecord) → r.change ≡ c → q r ≡ true) → stands_in l c e ≡ true → stands_in (keep q l) c e ≡ true
unfolding stands_in
keep_stands q l c e f = any-keep_up _ q (λ r h. f r (eqb-true r.change c (and_left (eqb r.change c) _ h))) l

pub enter_self : (c e m : ℕ) (l : List LineRecord) → stands_in (enter_line (make_waiter c e m) l) c e ≡ true
unfolding stands_in enter_line any make_waiter
enter_self c e m [] = rw (eqb_same c, eqb_same e)
enter_self c e m (r ∷ l) = go (eqb r.change c) (enter_self c e m l)
  where
    go : (b : Bool) → stands_in (enter_line (make_waiter c e m) l) c e ≡ true → stands_in (cond b (make_waiter c e m ∷ l) (r ∷ enter_line (make_waiter c e m) l)) c e ≡ true
    go true ih = rw (eqb_same c, eqb_same e)
    go false ih = or_right (eqb r.change c && eqb r.entry e) _ ih

pub enter_others : (w : LineRecord) (d e : ℕ) → d ≢ w.change → (l : List LineRecord) → stands_in l d e ≡ true → stands_in (enter_line w l) d e ≡ true
unfolding stands_in enter_line any
enter_others w d e n [] h = absurd (false≢true h)
enter_others w d e n (r ∷ l) h = go (same? r.change w.change) (or_cases (eqb r.change d && eqb r.entry e) _ h) (enter_others w d e n l)
  where
    go : {b : Bool} → Same r.change w.change b → (eqb r.change d && eqb r.entry e ≡ true) ⊎ (stands_in l d e ≡ true) → (stands_in l d e ≡ true → stands_in (enter_line w l) d e ≡ true)
        → stands_in (cond b (w ∷ l) (r ∷ enter_line w l)) d e ≡ true
    go (same q) (inl k) ih = absurd (n (sym (eqb-true r.change d (and_left (eqb r.change d) _ k)) ∙ q))
    go (same q) (inr k) ih = or_right (eqb w.change d && eqb w.entry e) _ k
    go (other o) (inl k) ih = or_left (eqb r.change d && eqb r.entry e) _ k
    go (other o) (inr k) ih = or_right (eqb r.change d && eqb r.entry e) _ (ih k)

-- who enters has the number of the record in whose place it comes, or comes last
pub order-enter : (f : LineRecord → ℕ) (w : LineRecord) (l : List LineRecord) → ((r : LineRecord) → Memᴰ r l → r.change ≡ w.change → f w ≡ f r)
    → (any (λ r. eqb r.change w.change) l ≡ false → all (λ r. ltb (f r) (f w)) l ≡ true) → is_in_order f l ≡ true → is_in_order f (enter_line w l) ≡ true
unfolding is_in_order enter_line all any
order-enter f w [] h k e = refl
order-enter f w (r ∷ l) h k e = go (same? r.change w.change) refl (λ g. order-enter f w l (λ q m. h q (Memᴰ.tail m)) g (and_right (all (λ q. ltb (f r) (f q)) l) (is_in_order f l) e))
  where
    rest : all (λ q. ltb (f r) (f q)) l ≡ true
    rest = and_left (all (λ q. ltb (f r) (f q)) l) (is_in_order f l) e

    last : eqb r.change w.change ≡ false → (b : Bool) → any (λ q. eqb q.change w.change) l ≡ b → ltb (f r) (f w) ≡ true
    last n true i = let m = any_find _ l i in rw (h m.0 (Memᴰ.tail m.1) (eqb-true m.0.change w.change m.2)) (all_member (λ q. ltb (f r) (f q)) m.1 rest)
    last n false i = and_left (ltb (f r) (f w)) _ (k (rw (n, i)))

    go : {b : Bool} → Same r.change w.change b → eqb r.change w.change ≡ b → ((any (λ q. eqb q.change w.change) l ≡ false → all (λ q. ltb (f q) (f w)) l ≡ true) → is_in_order f (enter_line w l) ≡ true)
        → is_in_order f (cond b (w ∷ l) (r ∷ enter_line w l)) ≡ true
    go (same q) i ih = and_both (all (λ q. ltb (f w) (f q)) l) (is_in_order f l) (rw (h r (Memᴰ.head refl) q) rest) (and_right (all (λ q. ltb (f r) (f q)) l) (is_in_order f l) e)
    go (other n) i ih = and_both (all (λ q. ltb (f r) (f q)) (enter_line w l)) (is_in_order f (enter_line w l)) (enter-all (λ q. ltb (f r) (f q)) w (last i (any (λ q. eqb q.change w.change) l) refl) l rest)
        (ih (λ j. and_right (ltb (f r) (f w)) _ (k (rw (i, j)))))

-- the first of an entry's line comes before every other in it
pub first-before : (f : LineRecord → ℕ) (e : ℕ) {r : LineRecord} {l : List LineRecord} → Memᴰ r l → r.entry ≡ e → is_in_order f l ≡ true
    → (q : LineRecord) × Memᴰ q l × (q.entry ≡ e) × (q.change ≡ first_in_line l e) × ((q ≡ r) ⊎ (f q < f r))
unfolding is_in_order first_in_line
first-before f e {r} (Memᴰ.head {x = y} {xs = l} i) h o = let q : y.entry ≡ e = ap (λ q. q.entry) (sym i) ∙ h in (y, Memᴰ.head refl, q, rw (eq-eqb y.entry e q), inl (sym i))
first-before f e {r} (Memᴰ.tail {x = y} {xs = l} m) h o = go (same? y.entry e) (first-before f e m h (and_right (all (λ q. ltb (f y) (f q)) l) (is_in_order f l) o))
  where
    go : {b : Bool} → Same y.entry e b → (q : LineRecord) × Memᴰ q l × (q.entry ≡ e) × (q.change ≡ first_in_line l e) × ((q ≡ r) ⊎ (f q < f r))
        → (q : LineRecord) × Memᴰ q (y ∷ l) × (q.entry ≡ e) × (q.change ≡ cond b y.change (first_in_line l e)) × ((q ≡ r) ⊎ (f q < f r))
    go (same q) ih = (y, Memᴰ.head refl, q, refl, inr (ltb-true (f y) (f r) (all_member (λ z. ltb (f y) (f z)) m (and_left (all (λ z. ltb (f y) (f z)) l) (is_in_order f l) o))))
    go (other n) ih = (ih.0, Memᴰ.tail ih.1, ih.2, ih.3, ih.4)
