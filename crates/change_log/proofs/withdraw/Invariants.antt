-- `change_log::withdraw` meets its contract: of the records read, those left are closed up, and the values and the entries undone are what they make of them. Assumes nothing.
use mathlib.Core.Path.{◌≡◌}
use mathlib.Core.List.{List}
use Prim.Native.Nat.{ℕ, ◌^◌, ◌≤◌, ◌<◌}
use lib.ListN.{length, take, get_or}
use Rattle.rules.specs.Window.{LogRecord}
use Rattle.rules.specs.Effects.{undo}
use Rattle.layout.specs.Codec.{no_record, value_section, log_section}
use Rattle.words.specs.Members.{words_have}
use Rattle.change_log.proofs.WithdrawLaws.{Withdrawing}
use Rattle.change_log.proofs.withdraw.Given as goal

abbrev pub invariant-loop-at : goal.invariant-loop-at
invariant-loop-at l = (l.left ≤ l.at)
    × ((r : List LogRecord) → length r ≡ l.count → l.initial.log ≡ log_section r → Withdrawing (words_have l.words) r (words_have l.undone) l.log l.at l.left)
    × ((v : ℕ → ℕ) (r : List LogRecord) → length r ≡ l.count → ((k : ℕ) → (get_or r k no_record).before < 2 ^ 32) → l.initial.values ≡ value_section v → l.initial.log ≡ log_section r → l.values ≡ value_section (undo (words_have l.words) (take l.at r) v))
