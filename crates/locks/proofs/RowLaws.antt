-- One row's locks as two sets: its holders, those that clash, a change's lock set, a set of changes' locks taken away. Assumes nothing.
use mathlib.Core.Path.{◌≡◌, refl, sym, ◌∙◌}
use mathlib.Core.Logic.{◌≢◌}
use mathlib.Core.Bool.{Bool, true, false, not, cond, ◌&&◌, ◌||◌, and-true, and-false, and_assoc, and-or_distrib_left}
use Prim.Native.Nat.{ℕ, zero, suc, ◌≤◌, ◌<◌}
use native.Mathlib.Omega.{arith}
use lib.Dec.{ltb, eqb}
use borrow.Author.Tests.{lt-ltb, ne_eqb}
use Rattle.rules.specs.Base.{put, any_below}
use Rattle.rules.specs.Sets.{Set, put_all}
use Rattle.rules.specs.Locks.{clash}
use Rattle.rules.proofs.BaseLaws.{Same, same, other, same?, any_below_none, eqb_same, or_none}
use Rattle.layout.proofs.CodecLaws.{each_mode}
use Rattle.locks.specs.Held.{in_mode, holding, clashes_with}

-- TESTS OF A MODE
-- a lock that is not none is read or write
held_cases : (x : ℕ) → x ≤ 2 → eqb x 1 || eqb x 2 ≡ ltb 0 x
held_cases = each_mode (λ x. eqb x 1 || eqb x 2 ≡ ltb 0 x) refl refl refl

-- a lock clashes with write where it is held, and with any other mode where it is write
clash_write : (x : ℕ) → x ≤ 2 → clash x 2 ≡ ltb 0 x
unfolding clash
clash_write = each_mode (λ x. clash x 2 ≡ ltb 0 x) refl refl refl

clash_other : (x m : ℕ) → x ≤ 2 → 0 < m → m ≢ 2 → clash x m ≡ eqb x 2
unfolding clash
clash_other x m h p n = each_mode (λ y. clash y m ≡ eqb y 2) refl (rw (lt-ltb 0 m p, ne_eqb m 2 n)) (rw (lt-ltb 0 m p)) x h

-- SETS OF A ROW
module _ (row : ℕ → ℕ) (modes : (c : ℕ) → row c ≤ 2) where
  -- its readers and its writers are its holders
  pub row_holders : (k : ℕ) → in_mode 1 row k || in_mode 2 row k ≡ holding row k
  unfolding in_mode holding
  row_holders k = sym (and-or_distrib_left (ltb k 256) (eqb (row k) 1) (eqb (row k) 2)) ∙ rw (held_cases (row k) (modes k))

  -- which of them clash with a mode
  pub row-clashing_write : (k : ℕ) → holding row k ≡ clashes_with 2 row k
  unfolding holding clashes_with
  row-clashing_write k = rw (clash_write (row k) (modes k))

  pub row-clashing_other : (m : ℕ) → 0 < m → m ≢ 2 → (k : ℕ) → in_mode 2 row k ≡ clashes_with m row k
  unfolding in_mode clashes_with
  row-clashing_other m p n k = rw (clash_other (row k) m (modes k) p n)

-- a change's lock set to a mode: the sets without the change, and the one that it joins
module _ (row : ℕ → ℕ) (c v m : ℕ) (hc : c < 256) where
  -- what a set says of it, and of the others
  set_lock : (k : ℕ) → in_mode m (put row c v) k ≡ cond (eqb k c) (eqb v m) (in_mode m row k)
  unfolding in_mode put
  set_lock k = go (same? k c)
    where
      go : {b : Bool} → Same k c b → ltb k 256 && eqb (cond b v (row k)) m ≡ cond b (eqb v m) (ltb k 256 && eqb (row k) m)
      go (same p) = rw (p, lt-ltb c 256 hc)
      go (other p) = refl

  module _ (s t : Set) (old : (k : ℕ) → s k ≡ in_mode m row k) (without : (k : ℕ) → t k ≡ not (eqb k c) && s k) where
    -- a set that it is not to be in
    pub lock_left : v ≢ m → (k : ℕ) → t k ≡ in_mode m (put row c v) k
    lock_left n k = without k ∙ rw (old k, set_lock k) (go (eqb k c) (eqb v m) (ne_eqb v m n))
      where
        go : (b x : Bool) → x ≡ false → not b && in_mode m row k ≡ cond b x (in_mode m row k)
        go true x q = sym q
        go false x q = refl

    -- the set that it is to be in
    pub lock_joined : (u : Set) → ((k : ℕ) → u k ≡ eqb k c || t k) → v ≡ m → (k : ℕ) → u k ≡ in_mode m (put row c v) k
    lock_joined u joined e k = joined k ∙ rw (without k, old k, set_lock k) (go (eqb k c) (eqb v m) (rw e (eqb_same m)))
      where
        go : (b x : Bool) → x ≡ true → b || not b && in_mode m row k ≡ cond b x (in_mode m row k)
        go true x q = sym q
        go false x q = refl

-- a lock taken away or left
without_mode : (b : Bool) (x m : ℕ) → eqb (cond b 0 x) (suc m) ≡ eqb x (suc m) && not b
without_mode true x m = ne_eqb 0 (suc m) (omega arith) ∙ sym (and-false (eqb x (suc m)))
without_mode false x m = sym (and-true (eqb x (suc m)))

-- a row's readers or writers without a set
pub row_without : (row : ℕ → ℕ) (s t u : Set) (m : ℕ) → ((k : ℕ) → t k ≡ in_mode (suc m) row k) → ((k : ℕ) → u k ≡ t k && not (s k)) → (k : ℕ) → u k ≡ in_mode (suc m) (put_all s 0 row) k
unfolding in_mode put_all
row_without row s t u m old minus k = minus k ∙ rw (old k, without_mode (s k) (row k) m) (and_assoc (ltb k 256) (eqb (row k) (suc m)) (not (s k)))

-- where no reader or writer is in the set, the row says the same without it
pub row_without_none : (row : ℕ → ℕ) (s readers writers taken : Set) → ((k : ℕ) → readers k ≡ in_mode 1 row k) → ((k : ℕ) → writers k ≡ in_mode 2 row k)
    → ((k : ℕ) → k < 256 → taken k ≡ (readers k || writers k) && s k) → any_below 256 taken ≡ false
    → (m c : ℕ) → m < 2 → c < 256 → eqb (row c) (suc m) ≡ eqb (put_all s 0 row c) (suc m)
unfolding in_mode put_all
row_without_none row s readers writers taken r w common none m c hm h =
    let e : taken c ≡ (eqb (row c) 1 || eqb (row c) 2) && s c = common c h ∙ rw (r c, w c, lt-ltb c 256 h) in
    go m hm (s c) (sym e ∙ any_below_none 256 taken none c h)
  where
    go : (m : ℕ) → m < 2 → (d : Bool) → (eqb (row c) 1 || eqb (row c) 2) && d ≡ false → eqb (row c) (suc m) ≡ eqb (cond d 0 (row c)) (suc m)
    go m l false t = refl
    go zero l true t = (or_none (eqb (row c) 1) (eqb (row c) 2) (sym (and-true (eqb (row c) 1 || eqb (row c) 2)) ∙ t)).0
    go (suc zero) l true t = (or_none (eqb (row c) 1) (eqb (row c) 2) (sym (and-true (eqb (row c) 1 || eqb (row c) 2)) ∙ t)).1
    go (suc (suc m)) l true t = absurd (omega arith)
