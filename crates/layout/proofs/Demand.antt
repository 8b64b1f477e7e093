-- Demand 3 of the calls on lent memory, and what the lines are held to. Assumes nothing.
use mathlib.Core.Path.{◌≡◌, sym, ◌∙◌}
use mathlib.Core.Bool.{true}
use mathlib.Core.Logic.{◌↔◌}
use mathlib.Core.List.{List, [], ◌∷◌}
use Prim.Native.Nat.{ℕ, ◌<◌}
use native.Mathlib.Omega.{arith}
use Rattle.rules.specs.Base.{all}
use Rattle.rules.specs.Window.{limits, Window}
use Rattle.rules.specs.Calls.{Call, Open, fits}
use Rattle.rules.specs.Refusals.{step}
use Rattle.rules.specs.Lists.{history, highest, is_grouped, Grouped, Demand3}
use Rattle.rules.specs.Waiting.{Queued}
use Rattle.rules.proofs.Demand.{rules_kept, rules_highest}
use Rattle.rules.proofs.DemandAlike.{Alike, demand_alike, queued_alike, history_alike}
use Rattle.rules.proofs.DemandGroups.{rules_grouped}
use Rattle.rules.proofs.RuleLaws.{open_number}
use Rattle.rules.proofs.WaitingKept.{rules_queued}
use Rattle.rules.proofs.SoundStep.{opened_fresh}
use Rattle.layout.specs.Memory.{window_of, perform}
use Rattle.layout.proofs.MemoryLaws.{Holds, perform-answer, perform-number, perform-holds, open_answered, open_numbered, opened_bytes, opened_holds}

-- memory that holds a window answers as the window does
alike : Alike perform (step limits) Holds
alike = record {
  answers = λ mem W h c. perform-answer mem c h.sound ∙ rw h.window;
  numbers = λ mem W h c. perform-number mem c h.sound ∙ rw h.window;
  next = λ mem W h c f. rw h.window at (perform-holds mem c f h.sound);
}

most : (W : Window) (n : ℕ) → (step limits W (Open n)).answer ≡ 0 → (l : List Call) → all fits l ≡ true → highest (history (step limits) W [] (Open n ∷ l)) < 4294967296
unfolding limits
most W n e l f = omega (arith, rules_highest limits W n e l f)

-- an open answered 0 is one of the rules
start : (mem : List ℕ) (n : ℕ) → (perform mem (Open n)).answer ≡ 0
    → (W : Window) × ((step limits W (Open n)).answer ≡ 0) × ((perform mem (Open n)).number ≡ (step limits W (Open n)).number) × Holds (perform mem (Open n)).after (step limits W (Open n)).after
start mem n e =
    let l = (opened_bytes mem n e).room in
    let a : (step limits (window_of mem) (Open n)).answer ≡ 0 = sym (open_answered mem (window_of mem) n l) ∙ e in
    (window_of mem, a, open_numbered mem n ∙ sym (open_number limits (window_of mem) n), rw (opened_fresh limits (window_of mem) n a) (opened_holds mem n e))

-- DEMAND 3, of every list of calls on lent memory
pub bytes-kept : Demand3 perform
bytes-kept = demand_alike perform (step limits) Holds alike start most (rules_kept limits)

-- WHO COMES FIRST IS SERVED FIRST, of every list of calls on lent memory
pub bytes_queued : Queued perform
bytes_queued = queued_alike perform (step limits) Holds alike start (rules_queued limits)

-- the test by which live groups are counted says what `Grouped` says
pub bytes-grouped : (mem : List ℕ) (n : ℕ) → (perform mem (Open n)).answer ≡ 0 → (l : List Call) → all fits l ≡ true → (a b : ℕ)
    → is_grouped (history perform mem [] (Open n ∷ l)) a b ≡ true ↔ Grouped (history perform mem [] (Open n ∷ l)) a b
bytes-grouped mem n e l f = rw (history_alike perform (step limits) Holds alike start mem n e l f) (rules_grouped limits (start mem n e).0 n (start mem n e).1 l f)
