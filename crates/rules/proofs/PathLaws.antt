-- Least closed sets and acyclic ties in words of paths. Assumes nothing.
use mathlib.Core.Path.{◌≡◌, refl, ap, fun_ext}
use mathlib.Core.Logic.{◌⊎◌, inl, inr, ◌↔◌}
use mathlib.Core.Bool.{Bool, true, false, not, ◌&&◌, ◌||◌, false≢true}
use mathlib.Core.List.{List, Memᴰ}
use Prim.Native.Nat.{ℕ, suc, ◌<◌}
use native.Mathlib.Omega.{arith}
use lib.Dec.{ltb, eqb}
use borrow.Author.Tests.{not-true, not-false, ltb-true, lt-ltb}
use Rattle.rules.specs.Base.{all, keep}
use Rattle.rules.specs.Sets.{Set, Rel, only, closure, reach}
use Rattle.rules.specs.Window.{TieRecord}
use Rattle.rules.specs.Ties.{is_arrow, tied, grouped, falling, leading, acyclic}
use Rattle.rules.proofs.BaseLaws.{and_eqs, or_left, or_right, or_cases, or_none, or_map, and_map, eqb_same, both_ways, no_true}
use Rattle.rules.proofs.ListLaws.{all_weaken, all_keep, all-members, all-fails, any-keep, find}
use Rattle.rules.proofs.SetLaws.{closure-to, closure-holds, closure-closed, reach-to}
use Rattle.rules.proofs.TieLaws.{grouped-ends, falling-ends, leading-ends, stands_tied}

-- a path along a relation, of any number of steps (its reflexive and transitive closure)
pub data Way (r : Rel) (a : ℕ) : ℕ → Type 0 where
  stay : Way r a a
  on : {b c : ℕ} → Way r a b → r b c ≡ true → Way r a c

pub way_join : {r : Rel} {a b c : ℕ} → Way r a b → Way r b c → Way r a c
way_join p stay = p
way_join p (on q e) = on (way_join p q) e

pub way_map : {r s : Rel} → ((a b : ℕ) → r a b ≡ true → s a b ≡ true) → {a b : ℕ} → Way r a b → Way s a b
way_map f stay = stay
way_map f (on p e) = on (way_map f p) (f _ _ e)

-- along a relation that goes both ways a path goes back
pub way_back : {r : Rel} → ((a b : ℕ) → r a b ≡ true → r b a ≡ true) → {a b : ℕ} → Way r a b → Way r b a
way_back both stay = stay
way_back both (on p e) = way_join (on stay (both _ _ e)) (way_back both p)

-- a relation of numbers below n
abbrev pub Bounded : ℕ → Rel → Type 0
Bounded n r = (a b : ℕ) → r a b ≡ true → (a < n) × (b < n)

-- a path that starts in the set
abbrev From : Rel → Set → ℕ → Type 0
From r s c = (d : ℕ) × (s d ≡ true) × Way r d c

module _ (n : ℕ) (r : Rel) (ends : Bounded n r) where
  way_closure : (s : Set) {d c : ℕ} → s d ≡ true → Way r d c → closure n r s c ≡ true
  way_closure s {d} e stay = closure-holds n r s d e
  way_closure s e (on {b = x} {c = y} p q) = closure-closed n r s x y (ends x y q).0 (ends x y q).1 (way_closure s e p) q

  -- the closure of a set is what paths from it lead to
  closure_ways : (s : Set) (c : ℕ) → closure n r s c ≡ true ↔ From r s c
  closure_ways s c = (closure-to n r (From r s) (λ d e h m q. (m.0, m.1, on m.2 q)) s (λ d e. (d, e, stay)) c, λ m. way_closure s m.1 m.2)

  pub reach_ways : (c d : ℕ) → reach n r c d ≡ true ↔ Way r c d
  unfolding reach only
  reach_ways c d = (reach-to n r (Way r c) (λ x y h p q. on p q) c stay d, way_closure (only c) (eqb_same c))

-- so the bound plays no part where the relation keeps below it
pub closure_bound : (n m : ℕ) (r : Rel) → Bounded n r → Bounded m r → (s : Set) → closure n r s ≡ closure m r s
closure_bound n m r p q s = fun_ext (λ c. both_ways _ _ (λ e. (closure_ways m r q s c).1 ((closure_ways n r p s c).0 e)) (λ e. (closure_ways n r p s c).1 ((closure_ways m r q s c).0 e)))

-- "A wait or fall tie is an arrow from its leader's group to its follower's": from x's group to y's
pub record Arrow (ts : List TieRecord) (x y : ℕ) : Type 0 where
  pub leader : ℕ
  pub follower : ℕ
  pub leaves : Way (grouped ts) x leader
  pub tie : tied ts is_arrow leader follower ≡ true
  pub enters : Way (grouped ts) follower y

-- a path of arrows, one or more (their transitive closure)
pub data Arrows (ts : List TieRecord) (x : ℕ) : ℕ → Type 0 where
  one : {y : ℕ} → Arrow ts x y → Arrows ts x y
  more : {y z : ℕ} → Arrows ts x y → Arrow ts y z → Arrows ts x z

-- a path from x to y that goes along an arrow
pub record Crossing (ts : List TieRecord) (x y : ℕ) : Type 0 where
  pub leader : ℕ
  pub follower : ℕ
  pub to : Way (leading ts) x leader
  pub arrow : tied ts is_arrow leader follower ≡ true
  pub fro : Way (leading ts) follower y

-- no arrow's follower leads to its leader
abbrev pub NoReturn : List TieRecord → Type 0
NoReturn ts = (l f : ℕ) → tied ts is_arrow l f ≡ true → Way (leading ts) f l → ⊥

module _ (ts : List TieRecord) where
  pub by_group : (a b : ℕ) → grouped ts a b ≡ true → leading ts a b ≡ true
  unfolding leading
  by_group a b e = or_left (grouped ts a b) (tied ts is_arrow a b) e

  pub by_arrow : (a b : ℕ) → tied ts is_arrow a b ≡ true → leading ts a b ≡ true
  unfolding leading
  by_arrow a b e = or_right (grouped ts a b) (tied ts is_arrow a b) e

  pub either_way : (a b : ℕ) → leading ts a b ≡ true → (grouped ts a b ≡ true) ⊎ (tied ts is_arrow a b ≡ true)
  unfolding leading
  either_way a b e = or_cases (grouped ts a b) (tied ts is_arrow a b) e

  -- an arrow's way, moving freely inside groups
  across : {x y : ℕ} → Arrow ts x y → Way (leading ts) x y
  across a = way_join (on (way_map by_group a.leaves) (by_arrow _ _ a.tie)) (way_map by_group a.enters)

  -- an arrow goes on inside the group that it enters, and so does a path of arrows
  inside : {x y z : ℕ} → Arrow ts x y → Way (grouped ts) y z → Arrow ts x z
  inside a w = record { leader = a.leader; follower = a.follower; leaves = a.leaves; tie = a.tie; enters = way_join a.enters w }

  pub extend : {x y z : ℕ} → Arrows ts x y → Way (grouped ts) y z → Arrows ts x z
  extend (one a) w = one (inside a w)
  extend (more p a) w = more p (inside a w)

  -- along any path of ties
  further : {x y z : ℕ} → Arrows ts x y → Way (leading ts) y z → Arrows ts x z
  further p stay = p
  further p (on {b = u} {c = w} q e) = go (either_way u w e) (further p q)
    where
      go : {x : ℕ} → (grouped ts u w ≡ true) ⊎ (tied ts is_arrow u w ≡ true) → Arrows ts x u → Arrows ts x w
      go (inl g) r = extend r (on stay g)
      go (inr t) r = more r (record { leader = u; follower = w; leaves = stay; tie = t; enters = stay })

  -- by its first arrow
  first : {x y : ℕ} → Arrows ts x y → Crossing ts x y
  first (one a) = record { leader = a.leader; follower = a.follower; to = way_map by_group a.leaves; arrow = a.tie; fro = way_map by_group a.enters }
  first (more p a) = let m = first p in record { leader = m.leader; follower = m.follower; to = m.to; arrow = m.arrow; fro = way_join m.fro (across a) }

  module _ (n : ℕ) (ends : all (λ t. ltb t.leader n && ltb t.follower n) ts ≡ true) where
    -- a bound on the ends of ties bounds what they tie
    bounded : {r : Rel} → ((a b : ℕ) → r a b ≡ true → (ltb a n ≡ true) × (ltb b n ≡ true)) → Bounded n r
    bounded f a b e = let m = f a b e in (ltb-true a n m.0, ltb-true b n m.1)

    pub grouped_bounded : Bounded n (grouped ts)
    grouped_bounded = bounded (grouped-ends (λ x. ltb x n) ts ends)

    pub falling_bounded : Bounded n (falling ts)
    falling_bounded = bounded (falling-ends (λ x. ltb x n) ts ends)

    pub leading_bounded : Bounded n (leading ts)
    leading_bounded = bounded (leading-ends (λ x. ltb x n) ts ends)

    -- acyclic ties have none that returns
    pub acyclic_clear : acyclic n ts ≡ true → NoReturn ts
    unfolding acyclic tied
    acyclic_clear h l f e p = let m = find _ (λ t. not (is_arrow t.kind) || not (reach n (leading ts) t.follower t.leader)) ts e h in go m.0 m.1 m.2
      where
        go : (t : TieRecord) → is_arrow t.kind && eqb t.leader l && eqb t.follower f ≡ true → not (is_arrow t.kind) || not (reach n (leading ts) t.follower t.leader) ≡ true → ⊥
        go t x y = let q = and_eqs (is_arrow t.kind) t.leader l t.follower f x in false≢true (rw (q.0, q.1, q.2, (reach_ways n (leading ts) leading_bounded f l).1 p) at y)

    -- and where none returns they are acyclic
    pub clear_acyclic : NoReturn ts → acyclic n ts ≡ true
    unfolding acyclic
    clear_acyclic h = all-members _ ts (λ t i. go t i (is_arrow t.kind) refl)
      where
        go : (t : TieRecord) → Memᴰ t ts → (b : Bool) → is_arrow t.kind ≡ b → not b || not (reach n (leading ts) t.follower t.leader) ≡ true
        go t i false e = refl
        go t i true e = rw (no_true (reach n (leading ts) t.follower t.leader) (λ q. h t.leader t.follower (stands_tied is_arrow i e) ((reach_ways n (leading ts) leading_bounded t.follower t.leader).0 q)))

    -- "no path of arrows returns to its group"
    pub acyclic_paths : acyclic n ts ≡ true ↔ ((x : ℕ) → Arrows ts x x → ⊥)
    acyclic_paths = (
      λ h x p. let m = first p in acyclic_clear h m.leader m.follower m.arrow (way_join m.fro m.to),
      λ h. clear_acyclic (λ l f e w. h l (further (one (record { leader = l; follower = f; leaves = stay; tie = e; enters = stay })) w)),
    )

    -- and where they are not acyclic one does
    pub cyclic_paths : not (acyclic n ts) ≡ true ↔ ((x : ℕ) × Arrows ts x x)
    unfolding acyclic
    cyclic_paths = (
      λ h. let m = all-fails _ ts (not-true _ h) in let t = m.0 in let o = or_none (not (is_arrow t.kind)) _ m.2 in
          (t.leader, further (one (record { leader = t.leader; follower = t.follower; leaves = stay; tie = stands_tied is_arrow m.1 (not-false _ o.0); enters = stay })) ((reach_ways n (leading ts) leading_bounded t.follower t.leader).0 (not-false _ o.1))),
      λ m. ap not (no_true _ (λ h. acyclic_paths.0 h m.0 m.1)),
    )

-- fewer ties close no cycle, and neither does one more change
module _ (n : ℕ) (ts : List TieRecord) (ends : all (λ t. ltb t.leader n && ltb t.follower n) ts ≡ true) (h : acyclic n ts ≡ true) where
  pub acyclic-keep : (q : TieRecord → Bool) → acyclic n (keep q ts) ≡ true
  unfolding leading grouped tied
  acyclic-keep q = clear_acyclic (keep q ts) n (all_keep _ q _ (λ t p x. p) ts ends) (λ l f e w. acyclic_clear ts n ends h l f (any-keep _ q ts e) (way_map old w))
    where
      old : (a b : ℕ) → leading (keep q ts) a b ≡ true → leading ts a b ≡ true
      old a b = or_map _ _ _ _ (or_map _ _ _ _ (any-keep _ q ts) (any-keep _ q ts)) (any-keep _ q ts)

  pub acyclic-more : acyclic (suc n) ts ≡ true
  acyclic-more = clear_acyclic ts (suc n) (all_weaken _ _ (λ t. and_map (ltb t.leader n) _ _ _ (up t.leader) (up t.follower)) ts ends) (acyclic_clear ts n ends h)
    where
      up : (x : ℕ) → ltb x n ≡ true → ltb x (suc n) ≡ true
      up x e = lt-ltb x (suc n) (omega (arith, ltb-true x n e))
