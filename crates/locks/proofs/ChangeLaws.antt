-- The locks changed by entries: the rules' changes as changes of rows. Assumes nothing.
use mathlib.Core.Path.{◌≡◌, refl, sym, ◌∙◌, ap, fun_ext}
use mathlib.Core.Bool.{Bool, true, false, cond, ◌&&◌}
use Prim.Native.Nat.{ℕ, ◌≤◌, max}
use native.Mathlib.Omega.{arith}
use lib.Dec.{eqb}
use Rattle.rules.specs.Base.{put, put2}
use Rattle.rules.specs.Sets.{Set, only, put_all}
use Rattle.rules.proofs.BaseLaws.{cond_same, Same, same, other, same?}
use Rattle.locks.specs.Held.{Modes, changed_on}

-- one change's lock on one entry
pub put2-row : (held : ℕ → ℕ → ℕ) (e c m : ℕ) → put held e (put (held e) c m) ≡ put2 held e c m
unfolding put put2
put2-row held e c m = fun_ext λ x. fun_ext λ y. go x y (same? x e)
  where
    go : (x y : ℕ) {b : Bool} → Same x e b → cond b (λ z. cond (eqb z c) m (held e z)) (held x) y ≡ cond (b && eqb y c) m (held x y)
    go x y (same p) = rw p
    go x y (other p) = refl

-- one entry's row by a rule
pub on_entry : (rule : (ℕ → ℕ) → ℕ → ℕ) (held : ℕ → ℕ → ℕ) (e : ℕ) → put held e (rule (held e)) ≡ changed_on (only e) rule held
unfolding put only changed_on
on_entry rule held e = fun_ext λ x. fun_ext λ y. go x y (same? x e)
  where
    go : (x y : ℕ) {b : Bool} → Same x e b → cond b (rule (held e)) (held x) y ≡ cond b (rule (held x) y) (held x y)
    go x y (same p) = rw p
    go x y (other p) = refl

-- a change's lock given to another: a row's two locks set
unfoldable pub moved : ℕ → ℕ → (ℕ → ℕ) → ℕ → ℕ
moved from to row = put (put row from 0) to (max (row from) (row to))

-- a change that holds nothing gives nothing
pub moved_none : (from to : ℕ) (row : ℕ → ℕ) → row from ≡ 0 → moved from to row ≡ row
unfolding moved put
moved_none from to row e = fun_ext λ c. go c (same? c to) (same? c from)
  where
    go : (c : ℕ) {a b : Bool} → Same c to a → Same c from b → cond a (max (row from) (row to)) (cond b 0 (row c)) ≡ row c
    go c (same p) q = rw (e, p) (omega arith)
    go c (other p) (same q) = rw q (sym e)
    go c (other p) (other q) = refl

-- rows where nobody holds anything stay so
pub without_empty : (s : Set) (row : ℕ → ℕ) → ((c : ℕ) → row c ≡ 0) → (c : ℕ) → put_all s 0 row c ≡ 0
unfolding put_all
without_empty s row h c = rw (h c) (cond_same (s c) 0)

pub moved_empty : (from to : ℕ) (row : ℕ → ℕ) → ((c : ℕ) → row c ≡ 0) → (c : ℕ) → moved from to row c ≡ 0
moved_empty from to row h c = ap (λ r. r c) (moved_none from to row (h from)) ∙ h c

-- a move keeps modes: in a row, and on a set of entries
moved_modes : (from to : ℕ) (row : ℕ → ℕ) → ((c : ℕ) → row c ≤ 2) → (c : ℕ) → moved from to row c ≤ 2
unfolding moved put
moved_modes from to row h c = go (eqb c to) (eqb c from)
  where
    go : (a b : Bool) → cond a (max (row from) (row to)) (cond b 0 (row c)) ≤ 2
    go true b = omega (arith, h from, h to)
    go false true = omega arith
    go false false = h c

pub moved_keeps : (from to : ℕ) (on : Set) (held : ℕ → ℕ → ℕ) → Modes held → Modes (changed_on on (moved from to) held)
unfolding changed_on Modes
moved_keeps from to on held modes e c = go (on e)
  where
    go : (b : Bool) → cond b (moved from to (held e) c) (held e c) ≤ 2
    go true = moved_modes from to (held e) (modes e) c
    go false = modes e c
