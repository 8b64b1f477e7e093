-- "the first refusal that applies": the numbers of a call's checks never fall, so a refused call is answered with the lowest that applies;
-- a call to which none applies does what its rule says. Assumes nothing.
use mathlib.Core.Path.{◌≡◌, refl, sym, ◌∙◌}
use mathlib.Core.Logic.{◌⊎◌, inl, inr, ⊎_elim}
use mathlib.Core.Bool.{Bool, true, false, cond, ◌&&◌, false≢true, true≢false}
use mathlib.Core.List.{List, [], ◌∷◌}
use Prim.Native.Nat.{ℕ, ◌<◌, ◌≤◌}
use native.Mathlib.Omega.{arith}
use lib.Dec.{leb, ltb, eqb}
use borrow.Author.Tests.{eqb-true, ltb-true, leb-true}
use Rattle.rules.specs.Base.{all, any}
use Rattle.rules.specs.Window.{Limits, Window}
use Rattle.rules.specs.Calls.{Call, Open, Initiate, Begin, Complete, Lock, Read, Write, Permit, Delegate, Depend, Commit, Abort, Status, Parent, Value}
use Rattle.rules.specs.Effects.{effect}
use Rattle.rules.specs.Refusals.{Check, first_failed, ◌if◌, checks, settle, step}
use Rattle.rules.proofs.BaseLaws.{or_left, or_right, or_cases, and_both, and_left, and_right, or_none, eqb_same}
use Rattle.rules.proofs.ListLaws.{find}
use Rattle.rules.proofs.SoundStep.{codes, settle-answer}

-- no number is below one before it
unfoldable pub never_fall : List Check → Bool
never_fall [] = true
never_fall (k ∷ l) = all (λ j. leb k.code j.code) l && never_fall l

-- a refusal of this number applies
unfoldable pub applies : List Check → ℕ → Bool
applies l n = any (λ k. eqb k.code n && k.fails) l

pub never_fall_lem : (L : Limits) (W : Window) (c : Call) → never_fall (checks L W c) ≡ true
unfolding never_fall all checks ◌if◌
never_fall_lem L W (Open n) = refl
never_fall_lem L W (Initiate p) = refl
never_fall_lem L W (Begin c) = refl
never_fall_lem L W (Complete c) = refl
never_fall_lem L W (Lock c e m) = refl
never_fall_lem L W (Read c e) = refl
never_fall_lem L W (Write c e v) = refl
never_fall_lem L W (Permit g t e o) = refl
never_fall_lem L W (Delegate f t e) = refl
never_fall_lem L W (Depend k l f) = refl
never_fall_lem L W (Commit c) = refl
never_fall_lem L W (Abort c) = refl
never_fall_lem L W (Status c) = refl
never_fall_lem L W (Parent c) = refl
never_fall_lem L W (Value e) = refl

-- the first that fails applies, and is the lowest that does
first_lowest : (l : List Check) (n : ℕ) → never_fall l ≡ true → applies l n ≡ true → (applies l (first_failed l) ≡ true) × (first_failed l ≤ n)
unfolding never_fall applies first_failed any
first_lowest [] n r a = absurd (false≢true a)
first_lowest (k ∷ l) n r a = go k.fails refl (or_cases (eqb k.code n && k.fails) _ a) (first_lowest l n (and_right (all (λ j. leb k.code j.code) l) _ r))
  where
    later : (x : List Check) → all (λ j. leb k.code j.code) x ≡ true → any (λ j. eqb j.code n && j.fails) x ≡ true → k.code ≤ n
    later x h q = let m = find _ _ x q h in omega (arith, eqb-true m.0.code n (and_left (eqb m.0.code n) _ m.1), leb-true k.code m.0.code m.2)

    go : (b : Bool) → k.fails ≡ b → (eqb k.code n && k.fails ≡ true) ⊎ (any (λ j. eqb j.code n && j.fails) l ≡ true)
        → (applies l n ≡ true → (applies l (first_failed l) ≡ true) × (first_failed l ≤ n)) → (applies (k ∷ l) (cond b k.code (first_failed l)) ≡ true) × (cond b k.code (first_failed l) ≤ n)
    go true e q ih = (or_left (eqb k.code k.code && k.fails) _ (and_both (eqb k.code k.code) k.fails (eqb_same k.code) e), ⊎_elim (λ p. omega (arith, eqb-true k.code n (and_left (eqb k.code n) _ p))) (later l (and_left _ (never_fall l) r)) q)
    go false e (inl p) ih = absurd (false≢true (sym e ∙ and_right (eqb k.code n) k.fails p))
    go false e (inr p) ih = (or_right (eqb k.code (first_failed l) && k.fails) _ (ih p).0, (ih p).1)

-- a refusal that applies has a number
code_above : (l : List Check) (n : ℕ) → all (λ k. ltb 0 k.code) l ≡ true → applies l n ≡ true → 0 < n
unfolding applies
code_above l n c a = let m = find _ _ l a c in omega (arith, eqb-true m.0.code n (and_left (eqb m.0.code n) _ m.1), ltb-true 0 m.0.code m.2)

-- demand 1: a call to which a refusal applies is answered with one that applies, and with none that is higher
pub refused_lowest : (L : Limits) (W : Window) (c : Call) (n : ℕ) → applies (checks L W c) n ≡ true
    → (applies (checks L W c) (step L W c).answer ≡ true) × ((step L W c).answer ≤ n)
unfolding step
refused_lowest L W c n a =
    let l = checks L W c in
    let m = first_lowest l n (never_fall_lem L W c) a in
    let e = settle-answer (first_failed l) W (effect W c) (code_above l (first_failed l) (codes L W c) m.0) in
    rw e m

-- none applies: none fails
none_fails : (l : List Check) → ((n : ℕ) → applies l n ≡ false) → first_failed l ≡ 0
unfolding applies first_failed any
none_fails [] h = refl
none_fails (k ∷ l) h = go k.fails refl (none_fails l (λ n. (or_none (eqb k.code n && k.fails) _ (h n)).1))
  where
    go : (b : Bool) → k.fails ≡ b → first_failed l ≡ 0 → cond b k.code (first_failed l) ≡ 0
    go true e ih = absurd (true≢false (sym (and_both (eqb k.code k.code) k.fails (eqb_same k.code) e) ∙ (or_none (eqb k.code k.code && k.fails) _ (h k.code)).0))
    go false e ih = ih

-- "Nothing else is refused": a call to which none applies does what its rule says
pub unrefused : (L : Limits) (W : Window) (c : Call) → ((n : ℕ) → applies (checks L W c) n ≡ false) → step L W c ≡ effect W c
unfolding step settle
unrefused L W c h = rw (none_fails (checks L W c) h)
