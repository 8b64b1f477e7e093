-- `line_section::standing` meets its contract: the places passed fit, and their changes were seen. Assumes nothing.
use mathlib.Core.Path.{◌≡◌}
use mathlib.Core.Bool.{false}
use Prim.Native.Nat.{ℕ}
use lib.ListN.{length}
use Rattle.words.specs.Members.{words_have}
use Rattle.line_section.proofs.LineLaws.{Seen}
use Rattle.line_section.proofs.standing.Given as goal

abbrev pub invariant-loop-j : goal.invariant-loop-j
invariant-loop-j l = (length l.seen ≡ 4) × (((k : ℕ) → words_have l.initial.seen k ≡ false) → Seen l.line l.entries l.changes l.j l.seen)
