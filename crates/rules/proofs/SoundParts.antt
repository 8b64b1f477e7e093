-- Soundness part by part, with no bound on the places: the form in which calls are seen to keep it. Assumes nothing.
use mathlib.Core.Path.{◌≡◌, refl, sym, ◌∙◌, ap}
use mathlib.Core.Logic.{⊎_elim}
use mathlib.Core.Bool.{Bool, true, false, not, cond, ◌&&◌, ◌||◌, false≢true, or-true, and-false}
use mathlib.Core.List.{List, [], ◌∷◌}
use Prim.Native.Nat.{ℕ, suc, ◌<◌, ◌≤◌, ◌^◌}
use native.Mathlib.Omega.{arith}
use lib.Dec.{leb, ltb, eqb}
use lib.ListN.{length}
use borrow.Author.Tests.{eqb-true, leb-true, ltb-true, lt-ltb, le-ltb, ltb-false, eqb-false, not-true, ne_eqb}
use Rattle.rules.specs.Base.{all_below, all, rising, distinct, exceeds, outside}
use Rattle.rules.specs.Sets.{Set}
use Rattle.rules.specs.Window.{Limits, LogRecord, PermitRecord, TieRecord, Window, permit_key, tie_key, with_permits, is_live, live, running, no_change}
use Rattle.rules.specs.Locks.{clash, clashes_permitted, permitted}
use Rattle.rules.specs.Ties.{is_group, acyclic}
use Rattle.rules.specs.Sound.{sound, parts, value_sound, status_sound, parent_sound, held_sound, record_sound, permit_sound, tie_sound, waiter_sound}
use Rattle.rules.proofs.BaseLaws.{Below, under, over as beyond, below, and_left, and_right, and_both, or_left, or_right, or_cases, or_map, all_below_at, all_below_intro, within_of, or_none, and_four, and_five}
use Rattle.rules.proofs.ListLaws.{all_weaken}
use Rattle.rules.proofs.PairLaws.{pair_permitted, entry_permitted, by_pairs}

pub record Sound (L : Limits) (W : Window) : Type 0 where
  pub some : ltb 0 W.entries ≡ true
  pub entries : not (exceeds W.entries L.entries) ≡ true
  pub changes : not (exceeds W.given L.changes) ≡ true
  pub room_log : not (exceeds (length W.log) L.records) ≡ true
  pub room_permits : not (exceeds (length W.permits) L.permits) ≡ true
  pub room_ties : not (exceeds (length W.ties) L.ties) ≡ true
  pub values : (e : ℕ) → value_sound W.entries W.value e ≡ true
  pub statuses : (c : ℕ) → status_sound W.given W.status c ≡ true
  pub parents : (c : ℕ) → parent_sound W.given W.parent c ≡ true
  pub helds : (e c : ℕ) → held_sound W.entries (live W) W.held e c ≡ true
  pub records : all (record_sound W.entries (live W) W.held) W.log ≡ true
  pub permits : all (permit_sound W.entries (live W)) W.permits ≡ true
  pub ties : all (tie_sound (live W)) W.ties ≡ true
  pub permit_order : rising permit_key W.permits ≡ true
  pub tie_order : rising tie_key W.ties ≡ true
  pub no_cycle_lem : acyclic (suc W.given) W.ties ≡ true
  pub locks : (e a b : ℕ) → pair_permitted W e a b ≡ true
  pub room_line : not (exceeds (length W.line) L.changes) ≡ true
  pub line : all (waiter_sound W.entries (running W)) W.line ≡ true
  pub line-once : distinct (λ r. r.change) W.line ≡ true

-- what no place of a window of these largest figures can hold: a window read from bytes has 0 there
pub record Blank (L : Limits) (W : Window) : Type 0 where
  pub value : (e : ℕ) → L.entries ≤ e → W.value e ≡ 0
  pub status : (c : ℕ) → L.changes < c → W.status c ≡ 0
  pub parent : (c : ℕ) → L.changes < c → W.parent c ≡ 0
  pub held-entry : (e c : ℕ) → L.entries ≤ e → W.held e c ≡ 0
  pub held-change : (e c : ℕ) → L.changes < c → W.held e c ≡ 0

-- tests that all pass, one by one
abbrev Each : List Bool → Type 0
Each [] = Unit {0}
Each (b ∷ l) = (b ≡ true) × Each l

each : (l : List Bool) → all (λ b. b) l ≡ true → Each l
unfolding all
each [] e = tt
each (b ∷ l) e = (and_left b (all (λ x. x) l) e, each l (and_right b (all (λ x. x) l) e))

-- a figure in its range
pub inside_of : (low high x : ℕ) → outside low high x ≡ false → (low ≤ x) × (x ≤ high)
unfolding outside
inside_of low high x e = let o = or_none (ltb x low) (ltb high x) e in (ltb-false x low o.0, ltb-false high x o.1)

outside_false : (low high x : ℕ) → low ≤ x → x ≤ high → outside low high x ≡ false
unfolding outside
outside_false low high x h l = rw (le-ltb x low h, le-ltb high x l)

-- what a sound record, permit, tie says
pub record_parts : (m : ℕ) (lives : Set) (held : ℕ → ℕ → ℕ) (r : LogRecord) → record_sound m lives held r ≡ true
    → (lives r.owner ≡ true) × (ltb r.entry m ≡ true) × (ltb r.before (2 ^ 32) ≡ true) × (eqb (held r.entry r.owner) 2 ≡ true)
unfolding record_sound
record_parts m lives held r = and_four (lives r.owner) (ltb r.entry m) (ltb r.before (2 ^ 32)) (eqb (held r.entry r.owner) 2)

pub permit_parts : (m : ℕ) (lives : Set) (p : PermitRecord) → permit_sound m lives p ≡ true
    → (lives p.giver ≡ true) × (eqb p.taker 0 || lives p.taker ≡ true) × (ltb p.entry m ≡ true) × (not (outside 1 3 p.ops) ≡ true) × (not (eqb p.giver p.taker) ≡ true)
unfolding permit_sound
permit_parts m lives p = and_five (lives p.giver) (eqb p.taker 0 || lives p.taker) (ltb p.entry m) (not (outside 1 3 p.ops)) (not (eqb p.giver p.taker))

pub tie_parts : (lives : Set) (t : TieRecord) → tie_sound lives t ≡ true
    → (not (outside 1 3 t.kind) ≡ true) × (lives t.leader ≡ true) × (lives t.follower ≡ true) × (not (eqb t.leader t.follower) ≡ true) × (not (is_group t.kind) || ltb t.leader t.follower ≡ true)
unfolding tie_sound
tie_parts lives t = and_five (not (outside 1 3 t.kind)) (lives t.leader) (lives t.follower) (not (eqb t.leader t.follower)) (not (is_group t.kind) || ltb t.leader t.follower)

-- no lock clashes with none
pub clash_left : (m : ℕ) → clash 0 m ≡ false
unfolding clash
clash_left m = refl

pub clash_right : (m : ℕ) → clash m 0 ≡ false
unfolding clash
clash_right m = rw and-false

-- who lives has a number
pub live_below : (W : Window) (c : ℕ) → live W c ≡ true → c < suc W.given
unfolding live
live_below W c h = ltb-true c (suc W.given) (and_left (ltb c (suc W.given)) _ h)

-- so have the ends of ties
pub ends_below_lem : (W : Window) → all (tie_sound (live W)) W.ties ≡ true → all (λ t. ltb t.leader (suc W.given) && ltb t.follower (suc W.given)) W.ties ≡ true
ends_below_lem W = all_weaken (tie_sound (live W)) (λ t. ltb t.leader (suc W.given) && ltb t.follower (suc W.given))
    (λ t h. let m = tie_parts (live W) t h in and_both (ltb t.leader (suc W.given)) _ (lt-ltb t.leader (suc W.given) (live_below W t.leader m.1)) (lt-ltb t.follower (suc W.given) (live_below W t.follower m.2))) W.ties

-- a change that there is has a number given
pub numbered : (W : Window) (c : ℕ) → no_change W c ≡ false → c ≤ W.given
unfolding no_change
numbered W c h = ltb-false W.given c (or_none (eqb c 0) (ltb W.given c) h).1

-- who has a number and a live status lives
pub given-live : (W : Window) (c : ℕ) → no_change W c ≡ false → is_live (W.status c) ≡ true → live W c ≡ true
unfolding live
given-live W c h l = rw (lt-ltb c (suc W.given) (omega (arith, numbered W c h))) l

-- the same of a status that was tested
pub live_at : (W : Window) (c s : ℕ) → no_change W c ≡ false → eqb (W.status c) s ≡ true → is_live s ≡ true → live W c ≡ true
live_at W c s h e l = given-live W c h (rw (eqb-true (W.status c) s e) l)

-- change 0 is nobody
nobody : (W : Window) → status_sound W.given W.status 0 ≡ true → live W 0 ≡ false
unfolding live status_sound outside
nobody W s = let h : W.status 0 ≡ 0 = eqb-true (W.status 0) 0 s in rw (h, and-false)

-- a lock is 2 at most, and only who lives holds one, on an entry that there is
module _ (W : Window) (helds : (e c : ℕ) → held_sound W.entries (live W) W.held e c ≡ true) where
  pub held_most : (e c : ℕ) → W.held e c ≤ 2
  unfolding held_sound
  held_most e c = leb-true (W.held e c) 2 (and_left (leb (W.held e c) 2) _ (helds e c))

  pub held_zero : (e c : ℕ) → (ltb e W.entries && live W c ≡ true → ⊥) → W.held e c ≡ 0
  unfolding held_sound
  held_zero e c f = ⊎_elim (λ q. eqb-true (W.held e c) 0 q) (λ q. absurd (f q)) (or_cases (eqb (W.held e c) 0) _ (and_right (leb (W.held e c) 2) _ (helds e c)))

  pub held-no_entry : (e c : ℕ) → W.entries ≤ e → W.held e c ≡ 0
  held-no_entry e c h = held_zero e c (λ q. let l = ltb-true e W.entries (and_left (ltb e W.entries) (live W c) q) in omega arith)

  pub held-no_change : (e c : ℕ) → W.given < c → W.held e c ≡ 0
  held-no_change e c h = held_zero e c (λ q. let l = live_below W c (and_right (ltb e W.entries) (live W c) q) in omega arith)

  pub held-nobody : status_sound W.given W.status 0 ≡ true → (e : ℕ) → W.held e 0 ≡ 0
  held-nobody s e = held_zero e 0 (λ q. false≢true (sym (nobody W s) ∙ and_right (ltb e W.entries) (live W 0) q))

  -- a pair of which one holds nothing fits
  fits_left : (e a b : ℕ) → W.held e a ≡ 0 → pair_permitted W e a b ≡ true
  unfolding pair_permitted
  fits_left e a b h = or_left _ _ (or_left _ _ (or_right (eqb a b) _ (rw (h, clash_left))))

  fits_right : (e a b : ℕ) → W.held e b ≡ 0 → pair_permitted W e a b ≡ true
  unfolding pair_permitted
  fits_right e a b h = or_left _ _ (or_left _ _ (or_right (eqb a b) _ (rw (h, clash_right))))

  pub fits_all : clashes_permitted W ≡ true → (e a b : ℕ) → pair_permitted W e a b ≡ true
  unfolding entry_permitted
  fits_all f e a b = go (below e W.entries) (below a (suc W.given)) (below b (suc W.given))
    where
      go : {x y z : Bool} → Below e W.entries x → Below a (suc W.given) y → Below b (suc W.given) z → pair_permitted W e a b ≡ true
      go (beyond h) p q = fits_left e a b (held-no_entry e a h)
      go (under h) (beyond p) q = fits_left e a b (held-no_change e a p)
      go (under h) (under p) (beyond q) = fits_right e a b (held-no_change e b q)
      go (under h) (under p) (under q) = all_below_at (suc W.given) _ (all_below_at (suc W.given) _ (all_below_at W.entries _ (sym (by_pairs W) ∙ f) e h) a p) b q

-- a pair fits on where its permits stay
pub fits_on : (W : Window) (ps : List PermitRecord) (e a b : ℕ) → (permitted W.permits a b e (W.held e b) ≡ true → permitted ps a b e (W.held e b) ≡ true)
    → (permitted W.permits b a e (W.held e a) ≡ true → permitted ps b a e (W.held e a) ≡ true) → pair_permitted W e a b ≡ true → pair_permitted (with_permits W ps) e a b ≡ true
unfolding pair_permitted with_permits
fits_on W ps e a b f g = or_map (eqb a b || not (clash (W.held e a) (W.held e b)) || permitted W.permits a b e (W.held e b)) _ _ _ (or_map (eqb a b || not (clash (W.held e a) (W.held e b))) _ _ _ (λ z. z) f) g

pub fit_locks : (W : Window) → ((e a b : ℕ) → pair_permitted W e a b ≡ true) → clashes_permitted W ≡ true
unfolding entry_permitted
fit_locks W f = by_pairs W ∙ all_below_intro W.entries _ (λ e h. all_below_intro (suc W.given) _ (λ a p. all_below_intro (suc W.given) _ (λ b q. f e a b)))

-- an entry that there is not has value 0
pub no_value : (m : ℕ) (value : ℕ → ℕ) (e : ℕ) → value_sound m value e ≡ true → m ≤ e → value e ≡ 0
unfolding value_sound
no_value m value e s h = ⊎_elim (λ q. let l = ltb-true e m q in absurd (omega arith)) (eqb-true (value e) 0) (or_cases (ltb e m) _ (and_right (ltb (value e) (2 ^ 32)) _ s))

-- the definition and this form say the same of a window that is blank beyond the largest figures
module _ (L : Limits) (W : Window) where
  unused : (n m c : ℕ) (t : Bool) (x : ℕ) → n ≤ m → m < c → x ≡ 0 → cond (eqb c 0 || ltb n c) (eqb x 0) t ≡ true
  unused n m c t x h l e = rw (or_right (eqb c 0) (ltb n c) (lt-ltb n c (omega arith)), e)

  pub sound-parts : sound L W ≡ true → Blank L W → Sound L W
  unfolding sound parts value_sound status_sound parent_sound held_sound
  sound-parts s b = record {
    some = k.0;
    entries = k.1.0;
    changes = k.1.1.0;
    room_log = k.1.1.1.0;
    room_permits = k.1.1.1.1.0;
    room_ties = k.1.1.1.1.1.0;
    values = λ e. value e (below e L.entries);
    statuses = λ c. status c (below c (suc L.changes));
    parents = λ c. parent c (below c (suc L.changes));
    helds = lock;
    records = k.1.1.1.1.1.1.1.1.1.1.0;
    permits = k.1.1.1.1.1.1.1.1.1.1.1.0;
    ties = k.1.1.1.1.1.1.1.1.1.1.1.1.0;
    permit_order = k.1.1.1.1.1.1.1.1.1.1.1.1.1.0;
    tie_order = k.1.1.1.1.1.1.1.1.1.1.1.1.1.1.0;
    no_cycle_lem = k.1.1.1.1.1.1.1.1.1.1.1.1.1.1.1.0;
    locks = fits_all W lock k.1.1.1.1.1.1.1.1.1.1.1.1.1.1.1.1.0;
    room_line = k.1.1.1.1.1.1.1.1.1.1.1.1.1.1.1.1.1.0;
    line = k.1.1.1.1.1.1.1.1.1.1.1.1.1.1.1.1.1.1.0;
    line-once = k.1.1.1.1.1.1.1.1.1.1.1.1.1.1.1.1.1.1.1.0;
  }
    where
      k : Each (parts L W)
      k = each (parts L W) s

      given_most : W.given ≤ L.changes
      given_most = within_of W.given L.changes k.1.1.0

      value : (e : ℕ) {x : Bool} → Below e L.entries x → value_sound W.entries W.value e ≡ true
      value e (under h) = all_below_at L.entries _ k.1.1.1.1.1.1.0 e h
      value e (beyond h) = rw (b.value e h, or-true)

      status : (c : ℕ) {x : Bool} → Below c (suc L.changes) x → status_sound W.given W.status c ≡ true
      status c (under h) = all_below_at (suc L.changes) _ k.1.1.1.1.1.1.1.0 c h
      status c (beyond h) = unused W.given L.changes c _ (W.status c) given_most h (b.status c h)

      parent : (c : ℕ) {x : Bool} → Below c (suc L.changes) x → parent_sound W.given W.parent c ≡ true
      parent c (under h) = all_below_at (suc L.changes) _ k.1.1.1.1.1.1.1.1.0 c h
      parent c (beyond h) = unused W.given L.changes c _ (W.parent c) given_most h (b.parent c h)

      held : (e c : ℕ) {x y : Bool} → Below e L.entries x → Below c (suc L.changes) y → held_sound W.entries (live W) W.held e c ≡ true
      held e c (beyond h) q = rw (b.held-entry e c h)
      held e c (under h) (beyond q) = rw (b.held-change e c q)
      held e c (under h) (under q) = all_below_at (suc L.changes) _ (all_below_at L.entries _ k.1.1.1.1.1.1.1.1.1.0 e h) c q

      lock : (e c : ℕ) → held_sound W.entries (live W) W.held e c ≡ true
      lock e c = held e c (below e L.entries) (below c (suc L.changes))

  pub parts-sound : Sound L W → sound L W ≡ true
  unfolding sound parts all
  parts-sound k = rw (
    k.some,
    k.entries,
    k.changes,
    k.room_log,
    k.room_permits,
    k.room_ties,
    all_below_intro L.entries (value_sound W.entries W.value) (λ e h. k.values e),
    all_below_intro (suc L.changes) (status_sound W.given W.status) (λ c h. k.statuses c),
    all_below_intro (suc L.changes) (parent_sound W.given W.parent) (λ c h. k.parents c),
    all_below_intro L.entries (λ e. all_below (suc L.changes) (held_sound W.entries (live W) W.held e)) (λ e h. all_below_intro (suc L.changes) (held_sound W.entries (live W) W.held e) (λ c q. k.helds e c)),
    k.records,
    k.permits,
    k.ties,
    k.permit_order,
    k.tie_order,
    k.no_cycle_lem,
    fit_locks W k.locks,
    k.room_line,
    k.line,
    k.line-once,
  )

  no_place : (n c x : ℕ) (t : Bool) → n < c → cond (eqb c 0 || ltb n c) (eqb x 0) t ≡ true → x ≡ 0
  no_place n c x t h e = eqb-true x 0 (rw (or_right (eqb c 0) (ltb n c) (lt-ltb n c h)) at e)

  pub value_most : Sound L W → (e : ℕ) → ltb (W.value e) (2 ^ 32) ≡ true
  unfolding value_sound
  value_most k e = and_left (ltb (W.value e) (2 ^ 32)) _ (k.values e)

  pub status_none : Sound L W → (c : ℕ) → W.given < c → W.status c ≡ 0
  unfolding status_sound
  status_none k c h = no_place W.given c (W.status c) _ h (k.statuses c)

  parent_none : Sound L W → (c : ℕ) → W.given < c → W.parent c ≡ 0
  unfolding parent_sound
  parent_none k c h = no_place W.given c (W.parent c) _ h (k.parents c)

  pub sound_blank : Sound L W → Blank L W
  sound_blank k =
      let m : W.entries ≤ L.entries = within_of W.entries L.entries k.entries in
      let n : W.given ≤ L.changes = within_of W.given L.changes k.changes in
      record {
        value = λ e h. no_value W.entries W.value e (k.values e) (omega arith);
        status = λ c h. status_none k c (omega arith);
        parent = λ c h. parent_none k c (omega arith);
        held-entry = λ e c h. held-no_entry W k.helds e c (omega arith);
        held-change = λ e c h. held-no_change W k.helds e c (omega arith);
      }

  pub live_zero : Sound L W → live W 0 ≡ false
  live_zero k = nobody W (k.statuses 0)

  -- a change has one of the five statuses; one that has not ended lives
  pub status_range : Sound L W → (c : ℕ) → no_change W c ≡ false → (1 ≤ W.status c) × (W.status c ≤ 5)
  unfolding status_sound no_change
  status_range k c h = inside_of 1 5 (W.status c) (not-true _ (rw h at (k.statuses c)))

  pub live_of : Sound L W → (c : ℕ) → no_change W c ≡ false → eqb (W.status c) 4 ≡ false → eqb (W.status c) 5 ≡ false → live W c ≡ true
  live_of k c h p q = let r = status_range k c h in given-live W c h (ap not (outside_false 1 3 (W.status c) r.0 (omega (arith, r.1, eqb-false (W.status c) 4 p, eqb-false (W.status c) 5 q))))

  pub live-change : Sound L W → (c : ℕ) → live W c ≡ true → no_change W c ≡ false
  unfolding no_change
  live-change k c h = rw (ne_eqb c 0 (λ q. false≢true (sym (live_zero k) ∙ (rw q at h))), le-ltb W.given c (omega (arith, live_below W c h)))

  -- the ends of ties live
  pub ends-live : Sound L W → all (λ t. live W t.leader && live W t.follower) W.ties ≡ true
  ends-live k = all_weaken (tie_sound (live W)) (λ t. live W t.leader && live W t.follower)
      (λ t h. let m = tie_parts (live W) t h in and_both (live W t.leader) (live W t.follower) m.1 m.2) W.ties k.ties
