-- What the sheet of commit order says of a sound window. Assumes nothing.
use mathlib.Core.Path.{◌≡◌, refl, sym, ◌∙◌, ap, fun_ext}
use mathlib.Core.Logic.{◌⊎◌, inl, inr, ⊎_elim}
use mathlib.Core.Bool.{Bool, true, not, ◌&&◌, false≢true}
use Prim.Native.Nat.{ℕ, suc, ◌-◌, ◌≤◌, ◌<◌}
use native.Mathlib.Omega.{arith}
use lib.ListN.{get_or}
use borrow.Author.Tests.{not-true, not-false, eqb-true, eq-eqb}
use Rattle.rules.specs.Base.{lowest_below}
use Rattle.rules.specs.Window.{Limits, Window, live}
use Rattle.rules.specs.Ties.{is_arrow, tied, leading, group_of}
use Rattle.rules.specs.Orders.{occurs, place_in, Order, free}
use Rattle.rules.specs.Sheet.{group_lowest, is_lowest, group_total, leads_by, leads_group, groups_placed, place_of}
use Rattle.rules.proofs.BaseLaws.{Below, under, over, below, and_both, and_left, and_right, and_eqs, both_ways, any_intro, any_elim}
use Rattle.rules.proofs.BoundLaws.{lowest_hit, lowest_below_lem}
use Rattle.rules.proofs.ListLaws.{any_find, any_member}
use Rattle.rules.proofs.OrderLaws.{Sourced, led_by, lowest_order, lowest_rule, lowest_length, order_has, order_at, place-most, place_same}
use Rattle.rules.proofs.PathLaws.{Way, on, way_join, way_map, way_back, by_group, by_arrow, leading_bounded, acyclic_clear}
use Rattle.rules.proofs.Promises.{group_ways}
use Rattle.rules.proofs.SoundParts.{Sound, live_below, ends-live, ends_below_lem}
use Rattle.rules.proofs.SoundStep.{group_live}
use Rattle.rules.proofs.SourceLaws.{source}
use Rattle.rules.proofs.TieLaws.{tied-ends, grouped_both, group_seed, stands_tied}

-- what a sheet's places are: 'Places count from 1; members of a group share one. Among the groups whose leader groups are all placed, the one with the lowest change number comes next'
pub record Placed (W : Window) : Type 0 where
  pub range : (c : ℕ) → live W c ≡ true → (1 ≤ place_of W c) × (place_of W c ≤ group_total W)
  pub shared : (c d : ℕ) → live W c ≡ true → group_of W c d ≡ true → place_of W d ≡ place_of W c
  pub apart : (c d : ℕ) → live W c ≡ true → live W d ≡ true → place_of W c ≡ place_of W d → group_of W c d ≡ true
  -- no place is left out
  pub used : (i : ℕ) → 1 ≤ i → i ≤ group_total W → (c : ℕ) × (live W c ≡ true) × (place_of W c ≡ i)
  -- each leader group is placed before
  pub led : (l f : ℕ) → tied W.ties is_arrow l f ≡ true → place_of W l < place_of W f
  -- whoever is placed later has a higher lowest number, or a leader that was not placed yet
  pub lowest : (c d : ℕ) → live W c ≡ true → live W d ≡ true → place_of W c < place_of W d
      → (group_lowest W c < group_lowest W d) ⊎ ((l f : ℕ) × (tied W.ties is_arrow l f ≡ true) × (group_of W d f ≡ true) × (place_of W c ≤ place_of W l))

module _ (L : Limits) (W : Window) (z : Sound L W) where
  -- members of a group have the same group
  pub group_back : (c d : ℕ) → group_of W c d ≡ true → group_of W d c ≡ true
  group_back c d e = (group_ways L W z d c).1 (way_back (grouped_both W.ties) ((group_ways L W z c d).0 e))

  group_on : (c d x : ℕ) → group_of W c d ≡ true → group_of W d x ≡ true → group_of W c x ≡ true
  group_on c d x p q = (group_ways L W z c x).1 (way_join ((group_ways L W z c d).0 p) ((group_ways L W z d x).0 q))

  group_same : (c d : ℕ) → group_of W c d ≡ true → group_of W d ≡ group_of W c
  group_same c d e = fun_ext (λ x. both_ways _ _ (group_on c d x e) (group_on d c x (group_back c d e)))

  pub lowest_shared : (c d : ℕ) → group_of W c d ≡ true → group_lowest W d ≡ group_lowest W c
  unfolding group_lowest
  lowest_shared c d e = ap (lowest_below (suc W.given)) (group_same c d e)

  -- the lowest number of a group is one of its members
  pub lowest_in : (c : ℕ) → live W c ≡ true → group_of W c (group_lowest W c) ≡ true
  unfolding group_lowest
  lowest_in c l = (lowest_hit (group_of W c) (suc W.given) (any_intro (suc W.given) (group_of W c) c (live_below W c l) (group_seed W c))).1

  -- and no member is lower
  pub none_lower : (c d : ℕ) → group_of W c d ≡ true → group_lowest W c ≤ d
  unfolding group_lowest
  none_lower c d e = go (below d (lowest_below (suc W.given) (group_of W c)))
    where
      go : {b : Bool} → Below d (lowest_below (suc W.given) (group_of W c)) b → lowest_below (suc W.given) (group_of W c) ≤ d
      go (under h) = absurd (false≢true (sym (lowest_below_lem (group_of W c) (suc W.given) d h) ∙ e))
      go (over h) = h

  pub lowest_live : (c : ℕ) → live W c ≡ true → live W (group_lowest W c) ≡ true
  lowest_live c l = group_live L W z c l (group_lowest W c) (lowest_in c l)

  pub lowest_is_lowest : (c : ℕ) → live W c ≡ true → is_lowest W (group_lowest W c) ≡ true
  unfolding is_lowest
  lowest_is_lowest c l = and_both _ _ (lowest_live c l) (eq-eqb _ _ (lowest_shared c (group_lowest W c) (lowest_in c l)))

  -- groups with the same lowest number are one
  lowest_one : (c d : ℕ) → live W c ≡ true → live W d ≡ true → group_lowest W c ≡ group_lowest W d → group_of W c d ≡ true
  lowest_one c d l m e = group_on c (group_lowest W c) d (lowest_in c l) (rw e (group_back d (group_lowest W d) (lowest_in d m)))

  -- a leader group has an arrow from a member to a member
  pub leads-arrow : (a b : ℕ) → leads_group W a b ≡ true → (l f : ℕ) × (tied W.ties is_arrow l f ≡ true) × (group_of W a l ≡ true) × (group_of W b f ≡ true)
  unfolding leads_group leads_by
  leads-arrow a b e =
      let m = any_find (leads_by W a b) W.ties e in let t = m.0 in let u = and_left (is_arrow t.kind && group_of W a t.leader) (group_of W b t.follower) m.2 in
      (t.leader, t.follower, stands_tied is_arrow m.1 (and_left (is_arrow t.kind) _ u), and_right (is_arrow t.kind) _ u, and_right (is_arrow t.kind && group_of W a t.leader) (group_of W b t.follower) m.2)

  pub arrow-leads : (a b l f : ℕ) → tied W.ties is_arrow l f ≡ true → group_of W a l ≡ true → group_of W b f ≡ true → leads_group W a b ≡ true
  unfolding leads_group leads_by tied
  arrow-leads a b l f e p q = let m = any_find _ W.ties e in let t = m.0 in let u = and_eqs (is_arrow t.kind) t.leader l t.follower f m.2 in
      any_member (leads_by W a b) m.1 (rw (u.0, u.1, u.2, p, q))

  -- of any live groups one has no leader among them
  pub sourced : Sourced (suc W.given) (leads_group W) (is_lowest W)
  unfolding is_lowest
  sourced t w e =
      let a = any_elim (suc W.given) t e in
      let r = source (suc W.given) (leading W.ties) (leading_bounded W.ties (suc W.given) (ends_below_lem W z.ties)) t (λ x. not (free (suc W.given) (leads_group W) t x)) by a.0 a.1 a.2 in
      any_intro (suc W.given) (free (suc W.given) (leads_group W) t) r.0 r.1 (not-false _ r.3)
    where
      by : (x : ℕ) → x < suc W.given → t x ≡ true → not (free (suc W.given) (leads_group W) t x) ≡ true
          → (y : ℕ) × (y < suc W.given) × (t y ≡ true) × Way (leading W.ties) y x × (Way (leading W.ties) x y → ⊥)
      by x h i b = let m = led_by (suc W.given) (leads_group W) t x i (not-true _ b) in let w = way m.0 m.3 in (m.0, m.1, m.2, w.0, w.1)
        where
          way : (y : ℕ) → leads_group W y x ≡ true → Way (leading W.ties) y x × (Way (leading W.ties) x y → ⊥)
          way y q =
              let m = leads-arrow y x q in
              let to = way_map (by_group W.ties) ((group_ways L W z y m.0).0 m.3) in
              let fro = way_map (by_group W.ties) (way_back (grouped_both W.ties) ((group_ways L W z x m.1).0 m.4)) in (
                way_join (on to (by_arrow W.ties m.0 m.1 m.2)) fro,
                λ v. acyclic_clear W.ties (suc W.given) (ends_below_lem W z.ties) z.no_cycle_lem m.0 m.1 m.2 (way_join fro (way_join v to)),
              )

  -- the groups as placed
  pub placed-order : Order (suc W.given) (leads_group W) (is_lowest W) (groups_placed W)
  unfolding groups_placed group_total
  placed-order = lowest_order (suc W.given) (leads_group W) (group_total W) (is_lowest W) sourced refl

  -- the lowest number of a group is that of its own group
  pub own : (x : ℕ) → is_lowest W x ≡ true → (live W x ≡ true) × (group_lowest W x ≡ x)
  unfolding is_lowest
  own x i = (and_left (live W x) _ i, eqb-true _ _ (and_right (live W x) _ i))

  pub placed : Placed W
  unfolding place_of groups_placed group_total
  placed = record { range = range; shared = λ c d l e. ap (λ x. suc (place_in (groups_placed W) x)) (lowest_shared c d e); apart = apart; used = used; led = led; lowest = lowest }
    where
      has : (c : ℕ) → live W c ≡ true → 0 < occurs (group_lowest W c) (groups_placed W)
      has c l = order_has (suc W.given) (leads_group W) (is_lowest W) (groups_placed W) placed-order (group_lowest W c) (live_below W _ (lowest_live c l)) (lowest_is_lowest c l)

      range : (c : ℕ) → live W c ≡ true → (1 ≤ place_of W c) × (place_of W c ≤ group_total W)
      range c l = (omega arith, omega (arith, place-most (groups_placed W) (group_lowest W c) (has c l), lowest_length (suc W.given) (leads_group W) (group_total W) (is_lowest W)))

      apart : (c d : ℕ) → live W c ≡ true → live W d ≡ true → place_of W c ≡ place_of W d → group_of W c d ≡ true
      apart c d l m e = lowest_one c d l m (place_same (groups_placed W) _ _ (has c l) (has d m) (omega arith))

      used : (i : ℕ) → 1 ≤ i → i ≤ group_total W → (c : ℕ) × (live W c ≡ true) × (place_of W c ≡ i)
      used i p q =
          let m = order_at (suc W.given) (leads_group W) (is_lowest W) (groups_placed W) placed-order (i - 1) (omega (arith, lowest_length (suc W.given) (leads_group W) (group_total W) (is_lowest W))) in
          let x = get_or (groups_placed W) (i - 1) 0 in let l = own x m.0 in (x, l.0, omega (arith, m.1, ap (place_in (groups_placed W)) l.1))

      led : (l f : ℕ) → tied W.ties is_arrow l f ≡ true → place_of W l < place_of W f
      led l f e =
          let m = tied-ends (live W) W.ties (ends-live L W z) is_arrow l f e in
          let q = arrow-leads (group_lowest W l) (group_lowest W f) l f e (group_back l _ (lowest_in l m.0)) (group_back f _ (lowest_in f m.1)) in
          omega (arith, placed-order.after (group_lowest W l) (group_lowest W f) (live_below W _ (lowest_live l m.0)) (live_below W _ (lowest_live f m.1)) (lowest_is_lowest l m.0) (lowest_is_lowest f m.1) q)

      lowest : (c d : ℕ) → live W c ≡ true → live W d ≡ true → place_of W c < place_of W d
          → (group_lowest W c < group_lowest W d) ⊎ ((l f : ℕ) × (tied W.ties is_arrow l f ≡ true) × (group_of W d f ≡ true) × (place_of W c ≤ place_of W l))
      lowest c d l m h = ⊎_elim inl (λ q. inr (later q.0 q.1 q.2 q.3 q.4))
          (lowest_rule (suc W.given) (leads_group W) (group_total W) (is_lowest W) sourced refl (group_lowest W c) (group_lowest W d)
          (live_below W _ (lowest_live c l)) (live_below W _ (lowest_live d m)) (lowest_is_lowest c l) (lowest_is_lowest d m) (omega arith))
        where
          later : (x : ℕ) → x < suc W.given → is_lowest W x ≡ true → leads_group W x (group_lowest W d) ≡ true → place_in (groups_placed W) (group_lowest W c) ≤ place_in (groups_placed W) x
              → (l f : ℕ) × (tied W.ties is_arrow l f ≡ true) × (group_of W d f ≡ true) × (place_of W c ≤ place_of W l)
          later x b i q p =
              let a = leads-arrow x (group_lowest W d) q in
              (a.0, a.1, a.2, group_on d (group_lowest W d) a.1 (lowest_in d m) a.4, omega (arith, p, ap (place_in (groups_placed W)) (lowest_shared x a.0 a.3 ∙ (own x i).1)))
