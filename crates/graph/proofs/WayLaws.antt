-- Paths along ties: what is reached, one step more, an arrow on the way. Assumes nothing.
use mathlib.Core.Path.{◌≡◌, sym, ◌∙◌}
use mathlib.Core.Bool.{true, false, false≢true}
use mathlib.Core.List.{List}
use mathlib.Core.Logic.{◌⊎◌, inl, inr}
use Prim.Native.Nat.{ℕ}
use Rattle.rules.specs.Sets.{Rel, reach}
use Rattle.rules.specs.Window.{TieRecord}
use Rattle.rules.specs.Ties.{is_arrow, tied, grouped, leading}
use Rattle.rules.proofs.TieLaws.{grouped_both}
use Rattle.rules.proofs.PathLaws.{Crossing, Way, stay, on, way_join, Bounded, reach_ways, by_group, either_way, leading_bounded}
use Rattle.layout.specs.Records.{ends_below}

-- WHAT TIES REACH, where their ends are below n
module _ (n : ℕ) (ts : List TieRecord) (ends : ends_below n ts ≡ true) where
  bounded : Bounded n (leading ts)
  unfolding ends_below
  bounded = leading_bounded ts n ends

  -- what is reached has a path
  pub reached : (a b : ℕ) → reach n (leading ts) a b ≡ true → Way (leading ts) a b
  reached a b = (reach_ways n (leading ts) bounded a b).0

  -- what is not has none
  pub unreached : (a b : ℕ) → reach n (leading ts) a b ≡ false → Way (leading ts) a b → ⊥
  unreached a b e w = false≢true (sym e ∙ (reach_ways n (leading ts) bounded a b).1 w)

-- ONE STEP MORE
-- a path along s goes along r, or by a step that r has not: from an In to an Out
pub record Round (r : Rel) (In Out : ℕ → Type 0) (x y : ℕ) : Type 0 where
  pub enter : ℕ
  pub leave : ℕ
  pub goes : In enter
  pub comes : Out leave
  pub to : Way r x enter
  pub fro : Way r leave y

module _ (r s : Rel) (In Out : ℕ → Type 0) (ways : (a b : ℕ) → s a b ≡ true → (r a b ≡ true) ⊎ (In a × Out b)) where
  pub around : {x y : ℕ} → Way s x y → Way r x y ⊎ Round r In Out x y
  around stay = inl stay
  around (on {b = u} {c = w} p e) = go (around p) (ways u w e)
    where
      go : {x : ℕ} → Way r x u ⊎ Round r In Out x u → (r u w ≡ true) ⊎ (In u × Out w) → Way r x w ⊎ Round r In Out x w
      go (inl p) (inl e) = inl (on p e)
      go (inr m) (inl e) = inr (record { enter = m.enter; leave = m.leave; goes = m.goes; comes = m.comes; to = m.to; fro = on m.fro e })
      go (inl p) (inr q) = inr (record { enter = u; leave = w; goes = q.0; comes = q.1; to = p; fro = stay })
      go (inr m) (inr q) = inr (record { enter = m.enter; leave = w; goes = m.goes; comes = q.1; to = m.to; fro = stay })

-- ARROWS ON THE WAY
-- where a path leads, one leads back, or it goes along an arrow
pub back_or_arrow : (ts : List TieRecord) {x y : ℕ} → Way (leading ts) x y → Way (leading ts) y x ⊎ Crossing ts x y
back_or_arrow ts stay = inl stay
back_or_arrow ts (on {b = a} {c = b} w e) = go w (back_or_arrow ts w) (either_way ts a b e)
  where
    go : {x : ℕ} → Way (leading ts) x a → Way (leading ts) a x ⊎ Crossing ts x a → (grouped ts a b ≡ true) ⊎ (tied ts is_arrow a b ≡ true) → Way (leading ts) b x ⊎ Crossing ts x b
    go p (inl q) (inl g) = inl (way_join (on stay (by_group ts b a (grouped_both ts a b g))) q)
    go p (inr m) (inl g) = inr (record { leader = m.leader; follower = m.follower; to = m.to; arrow = m.arrow; fro = on m.fro e })
    go p q (inr h) = inr (record { leader = a; follower = b; to = p; arrow = h; fro = stay })
