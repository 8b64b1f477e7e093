-- Whom the permits of an entry let stand beside a writer: those to anybody and those that name the two. Assumes nothing.
use mathlib.Core.Path.{◌≡◌, refl, sym, ◌∙◌, ap, ap₂, fun_ext}
use mathlib.Core.Bool.{Bool, true, false, not, ◌&&◌, ◌||◌, and-true, and-false, or-false, or_assoc, or_comm, or-true, and-or_distrib_right, false≢true}
use Prim.Native.Nat.{ℕ}
use lib.Dec.{eqb}
use borrow.Author.Tests.{not-true}
use Rattle.rules.specs.Base.{any_below, lowest_or_zero}
use Rattle.rules.specs.Sets.{Set}
use Rattle.rules.specs.Window.{PermitRecord}
use Rattle.rules.specs.Locks.{contains, make_permit, blocking}
use Rattle.rules.proofs.BaseLaws.{none_below, Same, same, other, same?, any_below_none}
use Rattle.rules.proofs.BoundLaws.{all_ext, any_or, any_and, zero_lowest}
use Rattle.rules.proofs.PairLaws.{blocking-parts}
use Rattle.beside.specs.Permits.{any_of}
use Rattle.beside.specs.Beside.{contains_held, beside, holder, other_holder, stands_beside, writer_blocker, entry_fits}
use Rattle.beside.proofs.PlaceLaws.{any_same}
use Rattle.many_permits.specs.Named.{involves, permits_anybody, names, unserved, is_named, blocker_left, writers_fit}

-- whom a permit g, t, o names beside the writer a
pub named_added : (r x : Set) (a k g t e o : ℕ) (s sv write : Bool) → sv ≡ contains_held o (r t) (x t) → write ≡ contains o 2
    → s || eqb t k && (eqb g a && sv) || eqb g k && (eqb t a && write) ≡ s || names r x a k (make_permit g t e o)
unfolding names make_permit
named_added r x a k g t e o s sv write h w = rw (h, w) (go (same? t k))
  where
    rest : Bool
    rest = eqb g k && (eqb t a && contains o 2)

    go : {b : Bool} → Same t k b → s || b && (eqb g a && contains_held o (r t) (x t)) || rest ≡ s || (eqb g a && (b && contains_held o (r k) (x k)) || rest)
    go (same q) = or_assoc s (eqb g a && contains_held o (r t) (x t)) rest ∙ ap (λ c. s || (eqb g a && contains_held o (r c) (x c) || rest)) q
    go (other n) = rw (or-false s, and-false (eqb g a))

-- a permit with which a change has nothing to do names no two of which it is one
pub names_none : (r x : Set) (a b : ℕ) (p : PermitRecord) → involves a p ≡ false → names r x a b p ≡ false
unfolding names involves
names_none r x a b p e = go (eqb p.giver a) (eqb p.taker a) e
  where
    go : (g t : Bool) → g || t ≡ false → g && (eqb p.taker b && contains_held p.ops (r b) (x b)) || eqb p.giver b && (t && contains p.ops 2) ≡ false
    go true t q = absurd (false≢true (sym q))
    go false true q = absurd (false≢true (sym q))
    go false false q = and-false (eqb p.giver b)

-- TO ANYBODY, OR TO ONE OF THE TWO
either_taker : (g z t c : Bool) → g && ((t || z) && c) ≡ g && (z && c) || g && (t && c)
either_taker true z t c = rw (or_comm t z) (and-or_distrib_right z t c)
either_taker false z t c = refl

either_mode : (g z r x c d : Bool) → g && (z && (r && c || x && d)) ≡ r && (g && (z && c)) || x && (g && (z && d))
either_mode true true r x c d = refl
either_mode true false r x c d = rw (and-false r, and-false x)
either_mode false z r x c d = rw (and-false r, and-false x)

sorted : (v o q n m : Bool) → o || q || n || (v || m) ≡ v || o || q || (n || m)
sorted true o q n m = or-true (o || q || n)
sorted false o q n m = or_assoc (o || q) n m

module _ (r x : Set) (a b : ℕ) where
  -- one permit
  split_permit : (p : PermitRecord) → beside r x a b p ≡ permits_anybody 2 b p || r b && permits_anybody 1 a p || x b && permits_anybody 2 a p || names r x a b p
  unfolding beside permits_anybody names contains_held
  split_permit p =
      ap₂ ◌||◌ (either_taker g z (eqb p.taker b) m ∙ ap (λ w. w || g && (eqb p.taker b && m)) (either_mode g z (r b) (x b) (contains p.ops 1) (contains p.ops 2)))
      (either_taker (eqb p.giver b) z (eqb p.taker a) (contains p.ops 2))
      ∙ sorted (eqb p.giver b && (z && contains p.ops 2)) (r b && (g && (z && contains p.ops 1))) (x b && (g && (z && contains p.ops 2))) (g && (eqb p.taker b && m)) (eqb p.giver b && (eqb p.taker a && contains p.ops 2))
    where
      g : Bool
      g = eqb p.giver a

      z : Bool
      z = eqb p.taker 0

      m : Bool
      m = r b && contains p.ops 1 || x b && contains p.ops 2

  -- so of all
  split_any : (n : ℕ) (t : ℕ → PermitRecord)
      → any_of n t (beside r x a b) ≡ any_of n t (permits_anybody 2 b) || r b && any_of n t (permits_anybody 1 a) || x b && any_of n t (permits_anybody 2 a) || any_of n t (names r x a b)
  unfolding any_of
  split_any n t =
      any_same n t t (beside r x a b) (λ p. permits_anybody 2 b p || r b && permits_anybody 1 a p || x b && permits_anybody 2 a p || names r x a b p) (λ j h. split_permit (t j))
      ∙ any_or n (λ j. permits_anybody 2 b (t j) || r b && permits_anybody 1 a (t j) || x b && permits_anybody 2 a (t j)) (λ j. names r x a b (t j))
      ∙ ap (λ u. u || any_below n (λ j. names r x a b (t j)))
      (any_or n (λ j. permits_anybody 2 b (t j) || r b && permits_anybody 1 a (t j)) (λ j. x b && permits_anybody 2 a (t j))
      ∙ ap₂ ◌||◌ (any_or n (λ j. permits_anybody 2 b (t j)) (λ j. r b && permits_anybody 1 a (t j)) ∙ ap (λ u. any_below n (λ j. permits_anybody 2 b (t j)) || u) (any_and n (r b) (λ j. permits_anybody 1 a (t j)))) (any_and n (x b) (λ j. permits_anybody 2 a (t j))))

-- THE HOLDERS OF AN ENTRY
-- the others without those whom permits to anybody serve; g and h: the writer a gives one that contains read, one that contains write
pub left_unserved : (r x u v : Set) (a k : ℕ) (g h reading served holders others left : Bool) → g ≡ u a → h ≡ v a → reading ≡ v k || r k && g → served ≡ reading || x k && h
    → holders ≡ r k || x k → others ≡ not (eqb k a) && holders → left ≡ others && not served → left ≡ unserved r x u v a k
unfolding unserved other_holder holder
left_unserved r x u v a k g h reading served holders others left eg eh er es ea eo el = el ∙ rw (eo, ea, es, er, eg, eh)

-- one writer: `left` are those whom no permit to anybody serves
module _ (n : ℕ) (t : ℕ → PermitRecord) (r x u v : Set) (a : ℕ) (left : Set) (known : (k : ℕ) → left k ≡ unserved r x u v a k) where
  -- there are none
  pub none_left : (none : Bool) → none ≡ not (any_below 256 left) → none ≡ true → 0 ≡ blocker_left n t r x u v a
  unfolding blocker_left
  none_left none e f = sym (zero_lowest 256 (blocking (unserved r x u v a) (is_named n t r x a) a) (none_below 256 (blocking (unserved r x u v a) (is_named n t r x a) a)
      (λ b h q. false≢true (sym (any_below_none 256 left (not-true _ (sym e ∙ f)) b h) ∙ known b ∙ (blocking-parts (unserved r x u v a) (is_named n t r x a) a b q).1))))

  -- the lowest of those that are not named either
  pub lowest_unnamed : (named : Set) → ((k : ℕ) → named k ≡ any_of n t (names r x a k)) → (found : ℕ) → found ≡ lowest_or_zero 256 (blocking left named a) → found ≡ blocker_left n t r x u v a
  unfolding blocker_left blocking is_named
  lowest_unnamed named h found e = e ∙ ap (lowest_or_zero 256) (fun_ext (λ k. rw (known k, h k)))

-- the writers looked at with the permits to anybody set apart, and at once
pub writers-entry : (n : ℕ) (t : ℕ → PermitRecord) (r x u v : Set) → ((k : ℕ) → u k ≡ any_of n t (permits_anybody 1 k)) → ((k : ℕ) → v k ≡ any_of n t (permits_anybody 2 k))
    → (found : Bool) → found ≡ writers_fit n t r x u v → found ≡ entry_fits n t r x
unfolding writers_fit entry_fits
writers-entry n t r x u v hu hv found e = e ∙ all_ext _ _ 256 (λ a ha. ap (λ w. not (x a) || eqb w 0) (at a))
  where
    cell : (o h w m : Bool) → not o && (not o && h && not w) && not m ≡ not o && h && not (w || m)
    cell true h w m = refl
    cell false h true m = rw (and-false h)
    cell false h false m = rw (and-true h)

    at : (a : ℕ) → blocker_left n t r x u v a ≡ writer_blocker n t r x a
    at a = unfold blocker_left writer_blocker blocking unserved other_holder is_named stands_beside in ap (lowest_or_zero 256) (fun_ext (λ b. rw (split_any r x a b n t, hu a, hv a, hv b)
        (cell (eqb b a) (holder r x b) (any_of n t (permits_anybody 2 b) || r b && any_of n t (permits_anybody 1 a) || x b && any_of n t (permits_anybody 2 a)) (any_of n t (names r x a b)))))
