-- Which ties a closure goes along, and what spreads along rows. Assumes nothing.
use Rattle.std.specs.Prelude.{◌≡◌, true, List, ℕ}
use Rattle.rules.specs.Sets.{Set, Rel}
use Rattle.rules.specs.Window.{TieRecord}
use Rattle.rules.specs.Ties.{grouped, falling, leading}
use Rattle.passes.specs.TieRows.{row_has}
use Rattle.sets.specs.declared.Along.{Along}
use Rattle.sets.specs.declared.Along.TheVariants.{Groups, Falls, Arrows}

-- the ties that a closure goes along: group ties either way; fall ties besides, from leader to follower; wait and fall ties besides
unfoldable pub relation : Along → List TieRecord → Rel
relation Groups ts = grouped ts
relation Falls ts = falling ts
relation Arrows ts = leading ts

-- the kinds that are gone along from leader to follower are those from a lowest one to 3
abbrev pub low_kind : Along → ℕ
low_kind Groups = 3
low_kind Falls = 2
low_kind Arrows = 1

-- r holds the seed, is closed along the rows, and lies within every set that does both
pub record Spread (rows : List ℕ) (seed r : Set) : Type 0 where
  pub holds : (k : ℕ) → seed k ≡ true → r k ≡ true
  pub closed : (a b : ℕ) → r a ≡ true → row_has rows a b ≡ true → r b ≡ true
  pub least : (u : Set) → ((a b : ℕ) → u a ≡ true → row_has rows a b ≡ true → u b ≡ true) → ((k : ℕ) → seed k ≡ true → u k ≡ true) → (k : ℕ) → r k ≡ true → u k ≡ true
