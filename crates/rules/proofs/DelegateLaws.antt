-- What a delegate moves, in words: on the entries named the giver has no lock, log record and given permit left, the receiver has the
-- greater lock, the records and what either of the two had permitted; all else is as before. Assumes nothing.
use mathlib.Core.Path.{◌≡◌, refl, sym, ◌∙◌, ap, fun_ext}
use mathlib.Core.Logic.{◌⊎◌, ◌↔◌, ◌≢◌}
use mathlib.Core.Bool.{Bool, true, false, not, cond, ◌&&◌, ◌||◌, beq, false≢true, or-false, and-false, and-or_distrib_left}
use mathlib.Core.List.{List, map}
use Prim.Native.Nat.{ℕ, zero, suc, ◌≤◌, max}
use native.Mathlib.Omega.{arith}
use lib.Dec.{eqb}
use borrow.Author.Tests.{not-true, eqb-false, eqb-true, eq-eqb, ne_eqb}
use Rattle.rules.specs.Base.{outside, all_below, all, any, keep}
use Rattle.rules.specs.Sets.{Set}
use Rattle.rules.specs.Window.{Limits, LogRecord, PermitRecord, Window, permit_key, live}
use Rattle.rules.specs.Locks.{contains, unite_permits, add_permit}
use Rattle.rules.specs.Sound.{permit_sound}
use Rattle.rules.specs.Calls.{Delegate, done}
use Rattle.rules.specs.Effects.{every, entries_named, move_held, moved_record, move_log, hand_over, effect, permit_given, permit_moves, permit_kept, moved_permit, move_permits}
use Rattle.rules.specs.Refusals.{checks, first_failed, ◌if◌, step}
use Rattle.rules.proofs.BaseLaws.{cond_same, and_both, and_left, eqb_same, Same, same, other, same?, all_below_at}
use Rattle.rules.proofs.ListLaws.{any-map, any-kept, any_either, any_false, all_map, all_keep, all_weaken}
use Rattle.rules.proofs.RuleLaws.{done_unrefused}
use Rattle.rules.proofs.SortLaws.{any_puts}
use Rattle.rules.proofs.SoundParts.{Sound, permit_parts, inside_of}
use Rattle.rules.proofs.SoundStep.{passed, codes}
use Rattle.rules.proofs.TellLaws.{tells_equal, tells_or}

-- a mode
abbrev pub Mode : ℕ → Type 0
Mode m = (1 ≤ m) × (m ≤ 2)

-- a permit for a mode stands, from this giver to this very taker (0: to anybody), on this entry
unfoldable pub allows : ℕ → ℕ → ℕ → ℕ → PermitRecord → Bool
allows g t e m p = eqb p.giver g && eqb p.taker t && eqb p.entry e && contains p.ops m

unfoldable pub stands : List PermitRecord → ℕ → ℕ → ℕ → ℕ → Bool
stands ps g t e m = any (allows g t e m) ps

-- OPERATIONS UNITED
-- tests that come out alike are equal
alike : (a b : Bool) → beq a b ≡ true → a ≡ b
alike true true e = refl
alike true false e = absurd (false≢true e)
alike false true e = absurd (false≢true e)
alike false false e = refl

-- the united operations contain a mode where either do: for operations from 1 to 3 and modes 1 and 2
unites : ℕ → ℕ → ℕ → Bool
unites i j k = beq (contains (cond (contains (suc j) (suc i)) (suc j) 3) (suc k)) (contains (suc i) (suc k) || contains (suc j) (suc k))

united_table : all_below 3 (λ i. all_below 3 (λ j. all_below 2 (unites i j))) ≡ true
unfolding unites all_below contains
united_table = refl

united : (a b m : ℕ) → (1 ≤ a) × (a ≤ 3) → (1 ≤ b) × (b ≤ 3) → Mode m → contains (cond (contains b a) b 3) m ≡ contains a m || contains b m
unfolding unites
united zero b m x y z = absurd (omega (arith, x.0))
united (suc i) zero m x y z = absurd (omega (arith, y.0))
united (suc i) (suc j) zero x y z = absurd (omega (arith, z.0))
united (suc i) (suc j) (suc k) x y z = alike _ _ (all_below_at 2 _ (all_below_at 3 _ (all_below_at 3 _ united_table i (omega (arith, x.1))) j (omega (arith, y.1))) k (omega (arith, z.1)))

-- operations from 1 to 3
operations : PermitRecord → Bool
operations p = not (outside 1 3 p.ops)

operations_of : (p : PermitRecord) → operations p ≡ true → (1 ≤ p.ops) × (p.ops ≤ 3)
unfolding operations
operations_of p h = inside_of 1 3 p.ops (not-true _ h)

-- WHAT STANDS AFTER
module _ (g t e m : ℕ) (mode : Mode m) where
  -- two permits of one key, united
  allows_united : (p q : PermitRecord) → operations p ≡ true → operations q ≡ true → permit_key p ≡ permit_key q → allows g t e m (unite_permits p q) ≡ allows g t e m p || allows g t e m q
  unfolding allows unite_permits permit_key
  allows_united p q hp hq k = rw (ap (λ x. x.k1) k, ap (λ x. x.k2) k, ap (λ x. x.k3) k)
      (ap (λ b. eqb q.giver g && eqb q.taker t && eqb q.entry e && b) (united p.ops q.ops m (operations_of p hp) (operations_of q hq) mode)
      ∙ and-or_distrib_left (eqb q.giver g && eqb q.taker t && eqb q.entry e) (contains p.ops m) (contains q.ops m))

-- a permit of another entry, and of another giver
not_here : (g t e m : ℕ) (p : PermitRecord) → p.entry ≢ e → allows g t e m p ≡ false
unfolding allows
not_here g t e m p n = rw (ne_eqb p.entry e n, and-false (eqb p.giver g && eqb p.taker t))

not_given_lem : (g t e m : ℕ) (p : PermitRecord) → p.giver ≢ g → allows g t e m p ≡ false
unfolding allows
not_given_lem g t e m p n = rw (ne_eqb p.giver g n)

-- a delegate of the entries `on`
module _ (from to : ℕ) (on : Set) where
  -- what becomes of one permit
  becomes : ℕ → ℕ → ℕ → ℕ → PermitRecord → Bool
  becomes g t e m p = permit_moves from to on p && allows g t e m (moved_permit to p) || permit_kept from on p && allows g t e m p

  -- it moves, unless to itself, where it is one of those handed over; else it stays
  becomes_is : (g t e m : ℕ) (p : PermitRecord) (b : Bool) → permit_given from on p ≡ b → becomes g t e m p ≡ cond b (not (eqb p.taker to) && allows g t e m (moved_permit to p)) (allows g t e m p)
  unfolding becomes permit_moves permit_kept
  becomes_is g t e m p b h = rw h (go b (not (eqb p.taker to)) (allows g t e m (moved_permit to p)) (allows g t e m p))
    where
      go : (b x y z : Bool) → (b && x) && y || not b && z ≡ cond b (x && y) z
      go true x y z = or-false (x && y)
      go false x y z = refl

  given_there : (p : PermitRecord) → p.giver ≡ from → on p.entry ≡ true → permit_given from on p ≡ true
  unfolding permit_given
  given_there p j o = and_both (eqb p.giver from) _ (eq-eqb p.giver from j) o

  giver_of : (p : PermitRecord) → permit_given from on p ≡ true → p.giver ≡ from
  unfolding permit_given
  giver_of p h = eqb-true p.giver from (and_left (eqb p.giver from) _ h)

  of_another : (p : PermitRecord) → p.giver ≢ from → permit_given from on p ≡ false
  unfolding permit_given
  of_another p n = rw (ne_eqb p.giver from n)

  given_elsewhere : (p : PermitRecord) → on p.entry ≡ false → permit_given from on p ≡ false
  unfolding permit_given
  given_elsewhere p o = rw o (and-false (eqb p.giver from))

  -- on another entry than e it says nothing of e
  silent : (g t e m : ℕ) (p : PermitRecord) → p.entry ≢ e → becomes g t e m p ≡ false
  unfolding moved_permit
  silent g t e m p n = becomes_is g t e m p (permit_given from on p) refl ∙ go (permit_given from on p)
    where
      go : (b : Bool) → cond b (not (eqb p.taker to) && allows g t e m (moved_permit to p)) (allows g t e m p) ≡ false
      go true = ap (λ x. not (eqb p.taker to) && x) (not_here g t e m (moved_permit to p) n) ∙ and-false (not (eqb p.taker to))
      go false = not_here g t e m p n

  -- what is handed over does not stand as another's
  not_theirs : (g t e m : ℕ) (p : PermitRecord) → g ≢ to → not (eqb p.taker to) && allows g t e m (moved_permit to p) ≡ false
  unfolding moved_permit
  not_theirs g t e m p n = ap (λ x. not (eqb p.taker to) && x) (not_given_lem g t e m (moved_permit to p) (λ q. n (sym q))) ∙ and-false (not (eqb p.taker to))

  -- it stands as the receiver's, to all but the receiver
  now_theirs : (t e m : ℕ) (p : PermitRecord) → p.giver ≡ from → t ≢ to → not (eqb p.taker to) && allows to t e m (moved_permit to p) ≡ allows from t e m p
  unfolding moved_permit allows
  now_theirs t e m p j n = go (same? p.taker t)
    where
      go : {b : Bool} → Same p.taker t b → not (eqb p.taker to) && (eqb to to && b && eqb p.entry e && contains p.ops m) ≡ eqb p.giver from && b && eqb p.entry e && contains p.ops m
      go (same k) = rw (j, k, ne_eqb t to n, eqb_same to, eqb_same from)
      go (other k) = rw (and-false (eqb to to), and-false (eqb p.giver from), and-false (not (eqb p.taker to)))

  -- of the giver, of the receiver, of others
  none_left : (t e m : ℕ) → from ≢ to → on e ≡ true → (p : PermitRecord) → becomes from t e m p ≡ false
  none_left t e m apart o p = go (same? p.entry e) (same? p.giver from)
    where
      go : {x y : Bool} → Same p.entry e x → Same p.giver from y → becomes from t e m p ≡ false
      go (other n) y = silent from t e m p n
      go (same i) (same j) = becomes_is from t e m p true (given_there p j (ap on i ∙ o)) ∙ not_theirs from t e m p apart
      go (same i) (other n) = becomes_is from t e m p false (of_another p n) ∙ not_given_lem from t e m p n

  all_moved : (t e m : ℕ) → from ≢ to → t ≢ to → on e ≡ true → (p : PermitRecord) → becomes to t e m p ≡ allows from t e m p || allows to t e m p
  all_moved t e m apart n o p = go (same? p.entry e) (same? p.giver from)
    where
      go : {x y : Bool} → Same p.entry e x → Same p.giver from y → becomes to t e m p ≡ allows from t e m p || allows to t e m p
      go (other k) y = rw (silent to t e m p k, not_here from t e m p k, not_here to t e m p k)
      go (same i) (same j) = becomes_is to t e m p true (given_there p j (ap on i ∙ o)) ∙ now_theirs t e m p j n
          ∙ sym (ap (λ x. allows from t e m p || x) (not_given_lem to t e m p (λ q. apart (sym j ∙ q))) ∙ or-false (allows from t e m p))
      go (same i) (other k) = becomes_is to t e m p false (of_another p k) ∙ sym (ap (λ x. x || allows to t e m p) (not_given_lem from t e m p k))

  others_stay : (g t e m : ℕ) → g ≢ from → g ≢ to → (p : PermitRecord) → becomes g t e m p ≡ allows g t e m p
  others_stay g t e m f n p = becomes_is g t e m p (permit_given from on p) refl ∙ go (permit_given from on p) refl
    where
      go : (b : Bool) → permit_given from on p ≡ b → cond b (not (eqb p.taker to) && allows g t e m (moved_permit to p)) (allows g t e m p) ≡ allows g t e m p
      go true h = not_theirs g t e m p n ∙ sym (not_given_lem g t e m p (λ q. f (sym q ∙ giver_of p h)))
      go false h = refl

  -- "A permit that would be from *to* to itself is dropped"
  none_itself : (e m : ℕ) → from ≢ to → (p : PermitRecord) → becomes to to e m p ≡ allows to to e m p
  unfolding moved_permit allows
  none_itself e m apart p = becomes_is to to e m p (permit_given from on p) refl ∙ go (permit_given from on p) refl
    where
      dropped : (b : Bool) → not b && (eqb to to && b && eqb p.entry e && contains p.ops m) ≡ false
      dropped true = refl
      dropped false = rw (and-false (eqb to to))

      go : (b : Bool) → permit_given from on p ≡ b → cond b (not (eqb p.taker to) && allows to to e m (moved_permit to p)) (allows to to e m p) ≡ allows to to e m p
      go true h = dropped (eqb p.taker to) ∙ sym (not_given_lem to to e m p (λ q. apart (sym (giver_of p h) ∙ q)))
      go false h = refl

  elsewhere_stay : (g t e m : ℕ) → on e ≡ false → (p : PermitRecord) → becomes g t e m p ≡ allows g t e m p
  elsewhere_stay g t e m o p = go (same? p.entry e)
    where
      go : {x : Bool} → Same p.entry e x → becomes g t e m p ≡ allows g t e m p
      go (other n) = silent g t e m p n ∙ sym (not_here g t e m p n)
      go (same i) = becomes_is g t e m p false (given_elsewhere p (ap on i ∙ o))

  -- what stands after it, of permits whose operations are from 1 to 3
  module _ (ps : List PermitRecord) (known : all operations ps ≡ true) where
    moved_known : (p : PermitRecord) → operations p ≡ true → permit_moves from to on p ≡ true → operations (moved_permit to p) ≡ true
    unfolding operations moved_permit
    moved_known p h q = h

    unite_known : (p q : PermitRecord) → operations q ≡ true → operations (unite_permits p q) ≡ true
    unfolding operations unite_permits outside
    unite_known p q h = go (contains q.ops p.ops)
      where
        go : (b : Bool) → not (outside 1 3 (cond b q.ops 3)) ≡ true
        go true = h
        go false = refl

    stands_after : (g t e m : ℕ) → Mode m → (r : PermitRecord → Bool) → ((p : PermitRecord) → becomes g t e m p ≡ r p) → stands (move_permits from to on ps) g t e m ≡ any r ps
    unfolding stands move_permits add_permit becomes
    stands_after g t e m mode r h =
        any_puts permit_key unite_permits (allows g t e m) operations (allows_united g t e m mode) unite_known (map (moved_permit to) (keep (permit_moves from to on) ps)) (keep (permit_kept from on) ps)
        (all_map operations (λ p. operations (moved_permit to p)) (moved_permit to) (λ p q. q) _ (all_keep operations (permit_moves from to on) _ moved_known ps known))
        (all_keep operations (permit_kept from on) operations (λ p a b. a) ps known)
        ∙ ap (λ b. b || any (allows g t e m) (keep (permit_kept from on) ps)) (any-map (allows g t e m) (moved_permit to) _ ∙ any-kept _ (permit_moves from to on) ps)
        ∙ ap (λ b. any (λ p. permit_moves from to on p && allows g t e m (moved_permit to p)) ps || b) (any-kept (allows g t e m) (permit_kept from on) ps)
        ∙ any_either _ _ ps
        ∙ ap (λ f. any f ps) (fun_ext h)

-- IN WORDS
-- W before and X after the permits that *from* has given on the entries `on` became those of *to*
pub record PermitsMoved (W X : Window) (from to : ℕ) (on : Set) : Type 0 where
  -- who hands over has none left there
  pub giver : (k e m : ℕ) → Mode m → on e ≡ true → stands X.permits from k e m ≡ false
  -- who receives has given what either of the two had, but to itself
  pub receiver : (k e m : ℕ) → Mode m → on e ≡ true → k ≢ to → stands X.permits to k e m ≡ stands W.permits from k e m || stands W.permits to k e m
  -- "A permit that would be from *to* to itself is dropped": none comes about
  pub itself : (e m : ℕ) → Mode m → stands X.permits to to e m ≡ stands W.permits to to e m
  -- "Permits received do not move", nor those that others have given
  pub others : (g k e m : ℕ) → Mode m → g ≢ from → g ≢ to → stands X.permits g k e m ≡ stands W.permits g k e m
  pub elsewhere : (g k e m : ℕ) → Mode m → on e ≡ false → stands X.permits g k e m ≡ stands W.permits g k e m

moves_permits : (W X : Window) (from to : ℕ) (on : Set) → X.permits ≡ move_permits from to on W.permits → all operations W.permits ≡ true → from ≢ to → PermitsMoved W X from to on
unfolding stands
moves_permits W X from to on e known apart = rw e (record {
  giver = λ k e m w o. stands_after from to on W.permits known from k e m w _ (none_left from to on k e m apart o) ∙ any_false W.permits;
  receiver = λ k e m w o n. stands_after from to on W.permits known to k e m w _ (all_moved from to on k e m apart n o) ∙ sym (any_either _ _ W.permits);
  itself = λ e m w. stands_after from to on W.permits known to to e m w _ (none_itself from to on e m apart);
  others = λ g k e m w f n. stands_after from to on W.permits known g k e m w _ (others_stay from to on g k e m f n);
  elsewhere = λ g k e m w o. stands_after from to on W.permits known g k e m w _ (elsewhere_stay from to on g k e m o);
})

-- the entries that it names: one, or "65,535 is every entry"
pub named_entries : (e x : ℕ) → entries_named e x ≡ true ↔ ((e ≡ 65535) ⊎ (x ≡ e))
unfolding entries_named every
named_entries e x = tells_or (eqb e 65535) (eqb x e) _ _ (tells_equal e 65535) (tells_equal x e)

-- W before and X after the locks of *from* on the entries `on` became those of *to*
pub record LocksMoved (W X : Window) (from to : ℕ) (on : Set) : Type 0 where
  pub giver : (e : ℕ) → on e ≡ true → X.held e from ≡ 0
  -- "A lock meets one already held as the greater"
  pub receiver : (e : ℕ) → on e ≡ true → X.held e to ≡ max (W.held e from) (W.held e to)
  pub others : (e c : ℕ) → c ≢ from → c ≢ to → X.held e c ≡ W.held e c
  pub elsewhere : (e c : ℕ) → on e ≡ false → X.held e c ≡ W.held e c

moves_locks : (W X : Window) (from to : ℕ) (on : Set) → X.held ≡ move_held from to on W.held → from ≢ to → LocksMoved W X from to on
unfolding move_held
moves_locks W X from to on e apart = rw e (record {
  giver = λ x o. rw (o, ne_eqb from to apart, eqb_same from);
  receiver = λ x o. rw (o, eqb_same to);
  others = λ x c f t. rw (ne_eqb c to t, ne_eqb c from f) (cond_same (on x) (W.held x c));
  elsewhere = λ x c o. rw o;
})

-- a log record r and what became of it, q
pub record OwnerMoved (from to : ℕ) (on : Set) (r q : LogRecord) : Type 0 where
  pub place : (q.entry ≡ r.entry) × (q.before ≡ r.before)
  pub handed : r.owner ≡ from → on r.entry ≡ true → q.owner ≡ to
  pub others : r.owner ≢ from → q.owner ≡ r.owner
  pub elsewhere : on r.entry ≡ false → q.owner ≡ r.owner

moves_owner : (from to : ℕ) (on : Set) (r : LogRecord) → OwnerMoved from to on r (moved_record from to on r)
unfolding moved_record
moves_owner from to on r = record {
  place = go (eqb r.owner from && on r.entry);
  handed = λ i o. rw (eq-eqb r.owner from i, o);
  others = λ n. rw (ne_eqb r.owner from n);
  elsewhere = λ o. rw (o, and-false (eqb r.owner from));
}
  where
    go : (b : Bool) → let q = cond b (record { owner = to; entry = r.entry; before = r.before }) r in (q.entry ≡ r.entry) × (q.before ≡ r.before)
    go true = (refl, refl)
    go false = (refl, refl)

-- "moves log ownership, locks and the permits that *from* has given": W before and X after it, on the entries `on`
pub record HandedOver (W X : Window) (from to : ℕ) (on : Set) : Type 0 where
  pub log : (becomes : LogRecord → LogRecord) × (X.log ≡ map becomes W.log) × ((r : LogRecord) → OwnerMoved from to on r (becomes r))
  pub locks : LocksMoved W X from to on
  pub permits : PermitsMoved W X from to on
  -- and nothing else
  pub rest : (X.entries ≡ W.entries) × (X.value ≡ W.value) × (X.given ≡ W.given) × (X.status ≡ W.status) × (X.parent ≡ W.parent) × (X.ties ≡ W.ties) × (X.line ≡ W.line)

pub delegate_moves : (L : Limits) (W : Window) → Sound L W → (f t e : ℕ) → (step L W (Delegate f t e)).answer ≡ 0 → HandedOver W (step L W (Delegate f t e)).after f t (entries_named e)
unfolding effect done hand_over move_log checks ◌if◌ operations
delegate_moves L W z f t e a = record {
  log = (moved_record f t on, ap (λ o. o.after.log) u.1, moves_owner f t on);
  locks = moves_locks W X f t on (ap (λ o. o.after.held) u.1) apart;
  permits = moves_permits W X f t on (ap (λ o. o.after.permits) u.1) known apart;
  rest = rw u.1 (refl, refl, refl, refl, refl, refl, refl);
}
  where
    on : Set
    on = entries_named e

    X : Window
    X = (step L W (Delegate f t e)).after

    u : (first_failed (checks L W (Delegate f t e)) ≡ 0) × (step L W (Delegate f t e) ≡ effect W (Delegate f t e))
    u = done_unrefused L W (Delegate f t e) a

    apart : f ≢ t
    apart = eqb-false f t (passed (checks L W (Delegate f t e)) (codes L W (Delegate f t e)) u.0).1.1.1.0

    known : all operations W.permits ≡ true
    known = all_weaken (permit_sound W.entries (live W)) operations (λ q h. (permit_parts W.entries (live W) q h).3) W.permits z.permits
