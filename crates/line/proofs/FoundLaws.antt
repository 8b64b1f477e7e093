-- The first record of an entry or of a change in a list of lines: what the rules make of it, by its place. Assumes nothing.
use mathlib.Core.Path.{◌≡◌, refl, sym, ap, subst, ◌∙◌}
use mathlib.Core.Logic.{◌≢◌}
use mathlib.Core.Bool.{true, false, not, or-false}
use mathlib.Core.List.{List, [], ◌∷◌, ◌++◌}
use Prim.Native.Nat.{ℕ, zero, suc, ◌<◌}
use native.Mathlib.Nat.{not-suc-le-zero, le_of_suc-le-suc}
use native.Mathlib.Omega.{arith}
use lib.Dec.{eqb}
use lib.ListN.{length, get_or, set}
use borrow.Author.Tests.{eq-eqb, ne_eqb, eqb-false, not-true}
use Rattle.rules.specs.Base.{all, any, distinct}
use Rattle.rules.specs.Window.{LineRecord}
use Rattle.rules.specs.Line.{waits_elsewhere, first_in_line, enter_line}
use Rattle.rules.proofs.BaseLaws.{and_left, and_right}
use Rattle.rules.proofs.ListLaws.{all_at, all_places}
use Rattle.layout.specs.Codec.{no_waiter}

-- FIRST IN LINE
pub first_at : (e : ℕ) (l : List LineRecord) (i : ℕ) → i < length l → ((j : ℕ) → j < i → (get_or l j no_waiter).entry ≢ e) → (get_or l i no_waiter).entry ≡ e → first_in_line l e ≡ (get_or l i no_waiter).change
unfolding first_in_line
first_at e [] i h f is = absurd (not-suc-le-zero h)
first_at e (r ∷ l) zero h f is = rw (eq-eqb r.entry e is)
first_at e (r ∷ l) (suc i) h f is = rw (ne_eqb r.entry e (f 0 (omega arith))) (first_at e l i (le_of_suc-le-suc h) (λ j t. f (suc j) (omega arith)) is)

pub first_none : (e : ℕ) (l : List LineRecord) → ((j : ℕ) → j < length l → (get_or l j no_waiter).entry ≢ e) → first_in_line l e ≡ 0
unfolding first_in_line
first_none e [] f = refl
first_none e (r ∷ l) f = rw (ne_eqb r.entry e (f 0 (omega arith))) (first_none e l (λ j t. f (suc j) (omega arith)))

-- ANOTHER ENTRY'S LINE: nobody's record, or the one record of a change
pub nowhere : (c e : ℕ) (l : List LineRecord) → all (λ r. not (eqb r.change c)) l ≡ true → waits_elsewhere l c e ≡ false
unfolding waits_elsewhere any all
nowhere c e [] a = refl
nowhere c e (r ∷ l) a = rw (not-true (eqb r.change c) (and_left (not (eqb r.change c)) (all (λ q. not (eqb q.change c)) l) a)) (nowhere c e l (and_right (not (eqb r.change c)) (all (λ q. not (eqb q.change c)) l) a))

pub elsewhere_none : (c e : ℕ) (l : List LineRecord) → ((j : ℕ) → j < length l → (get_or l j no_waiter).change ≢ c) → waits_elsewhere l c e ≡ false
elsewhere_none c e l f = nowhere c e l (all_places (λ r. not (eqb r.change c)) no_waiter l (λ j h. ap not (ne_eqb _ c (f j h))))

pub elsewhere_at : (c e : ℕ) (l : List LineRecord) (i : ℕ) → i < length l → distinct (λ r. r.change) l ≡ true → (get_or l i no_waiter).change ≡ c → waits_elsewhere l c e ≡ not (eqb (get_or l i no_waiter).entry e)
unfolding waits_elsewhere any distinct
elsewhere_at c e [] i h d is = absurd (not-suc-le-zero h)
elsewhere_at c e (r ∷ l) zero h d is =
    let n : waits_elsewhere l c e ≡ false = subst (λ (x : ℕ). waits_elsewhere l x e ≡ false) is (nowhere r.change e l (and_left (all (λ q. not (eqb q.change r.change)) l) (distinct (λ q. q.change) l) d)) in
    rw (eq-eqb r.change c is, n) (or-false (not (eqb r.entry e)))
elsewhere_at c e (r ∷ l) (suc i) h d is =
    let n = eqb-false _ r.change (not-true _ (all_at (λ q. not (eqb q.change r.change)) no_waiter l (and_left (all (λ q. not (eqb q.change r.change)) l) (distinct (λ q. q.change) l) d) i (le_of_suc-le-suc h))) in
    rw (ne_eqb r.change c (λ z. n (is ∙ sym z))) (elsewhere_at c e l i (le_of_suc-le-suc h) (and_right (all (λ q. not (eqb q.change r.change)) l) (distinct (λ q. q.change) l) d) is)

-- ENTERED: in the place of its own record, or at the end
pub enter_at : (w : LineRecord) (l : List LineRecord) (i : ℕ) → i < length l → ((j : ℕ) → j < i → (get_or l j no_waiter).change ≢ w.change) → (get_or l i no_waiter).change ≡ w.change → enter_line w l ≡ set l i w
unfolding enter_line
enter_at w [] i h f is = absurd (not-suc-le-zero h)
enter_at w (r ∷ l) zero h f is = rw (eq-eqb r.change w.change is)
enter_at w (r ∷ l) (suc i) h f is = rw (ne_eqb r.change w.change (f 0 (omega arith))) (ap (λ (t : List LineRecord). r ∷ t) (enter_at w l i (le_of_suc-le-suc h) (λ j t. f (suc j) (omega arith)) is))

pub enter_end : (w : LineRecord) (l : List LineRecord) → ((j : ℕ) → j < length l → (get_or l j no_waiter).change ≢ w.change) → enter_line w l ≡ l ++ (w ∷ [])
unfolding enter_line
enter_end w [] f = refl
enter_end w (r ∷ l) f = rw (ne_eqb r.change w.change (f 0 (omega arith))) (ap (λ (t : List LineRecord). r ∷ t) (enter_end w l (λ j t. f (suc j) (omega arith))))
