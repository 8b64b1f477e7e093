-- docs/RULES.md, "Ties", groups and arrows. Assumes nothing.
use Rattle.std.specs.Prelude.{Bool, not, cond, ◌&&◌, ◌||◌, List, ℕ, suc, min, max, eqb}
use Rattle.rules.specs.Base.{all, any, insert}
use Rattle.rules.specs.Sets.{Set, Rel, reach}
use Rattle.rules.specs.Window.{TieRecord, Window, tie_key}

-- "kind 1 wait (commit dependency), 2 fall (abort dependency), 3 group" (group-commit dependency)
unfoldable pub is_wait : ℕ → Bool
is_wait k = eqb k 1

unfoldable pub is_fall : ℕ → Bool
is_fall k = eqb k 2

unfoldable pub is_group : ℕ → Bool
is_group k = eqb k 3

-- "A wait or fall tie is an arrow from its leader's group to its follower's" (an edge of the dependency graph)
unfoldable pub is_arrow : ℕ → Bool
is_arrow k = is_wait k || is_fall k

-- "A group tie is stored with the lower number as leader"
unfoldable pub make_tie : ℕ → ℕ → ℕ → TieRecord
make_tie k l f = cond (is_group k) (record { kind = 3; leader = min l f; follower = max l f }) (record { kind = k; leader = l; follower = f })

-- "Each stands once, in rising order of kind, leader, follower"
unfoldable pub add_tie : TieRecord → List TieRecord → List TieRecord
add_tie = insert tie_key (λ t u. u)

-- a tie of such a kind stands, from leader to follower
unfoldable pub tied : List TieRecord → (ℕ → Bool) → ℕ → ℕ → Bool
tied ts k l f = any (λ t. k t.kind && eqb t.leader l && eqb t.follower f) ts

-- along group ties, "either way"
unfoldable pub grouped : List TieRecord → Rel
grouped ts a b = tied ts is_group a b || tied ts is_group b a

-- "group ties either way and … fall ties from leader to follower"
unfoldable pub falling : List TieRecord → Rel
falling ts a b = grouped ts a b || tied ts is_fall a b

-- along group ties either way, and arrows
unfoldable pub leading : List TieRecord → Rel
leading ts a b = grouped ts a b || tied ts is_arrow a b

-- "A group is a live change with all that group ties reach from it" (a connected component of the group-commit dependencies)
unfoldable pub group_of : Window → ℕ → Set
group_of W c = reach (suc W.given) (grouped W.ties) c

-- what an abort ends: "the least set that holds the change and is closed under group ties either way and under fall ties from leader to follower"
unfoldable pub end_set : Window → ℕ → Set
end_set W c = reach (suc W.given) (falling W.ties) c

-- "no path of arrows returns to its group" (the dependency graph has no cycle): no arrow's follower leads to its leader, moving freely inside groups.
-- proofs/PathLaws.acyclic_paths says the same by paths
unfoldable pub acyclic : ℕ → List TieRecord → Bool
acyclic n ts = all (λ t. not (is_arrow t.kind) || not (reach n (leading ts) t.follower t.leader)) ts
