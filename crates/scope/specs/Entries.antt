-- The entries that a delegate names, and what goes over on them. Assumes nothing.
use Rattle.std.specs.Prelude.{Bool, ◌&&◌, ℕ, eqb}
use Rattle.rules.specs.Sets.{Set, everything, only}
use Rattle.scope.specs.declared.Scope.{Scope}
use Rattle.scope.specs.declared.Scope.TheVariants.{Every, Only}
use Rattle.scope.specs.declared.HandOver.{HandOver}

-- every entry, or one
unfoldable pub entries_of : Scope → Set
entries_of Every = everything
entries_of (Only entry) = only entry

-- what a change owns on an entry goes over: it is the one that gives, and the entry is named
unfoldable pub takes : HandOver → ℕ → ℕ → Bool
takes h owner entry = eqb owner h.from && entries_of h.scope entry
