-- The starred calls on lent memory that is long enough, whatever it holds. Assumes nothing.
use mathlib.Core.Path.{◌≡◌, refl, ◌∙◌, ap}
use mathlib.Core.Bool.{true}
use mathlib.Core.List.{List, [], ◌∷◌, ◌++◌}
use Prim.Native.Nat.{ℕ}
use lib.ListN.{replicate}
use Rattle.rules.specs.Base.{all, table}
use Rattle.rules.specs.Window.{limits, fresh}
use Rattle.rules.specs.Calls.{Call, Open, Initiate, Begin, Lock, Write, Depend, Abort, Value, arguments, fits}
use Rattle.rules.specs.Refusals.{step}
use Rattle.rules.specs.Lists.{answers}
use Rattle.rules.proofs.Cases.{Answered, whole_case}
use Rattle.rules.proofs.Computing.{rules}
use Rattle.rules.proofs.SizeLaws.{initiates}
use Rattle.layout.specs.Memory.{long, perform}
use Rattle.layout.proofs.CallLists.{answers_list}
use Rattle.layout.proofs.MemoryLaws.{open_answered}

module _ (mem : List ℕ) (enough : long mem ≡ true) where
  after_open : (l : List Call) → all fits l ≡ true → answers perform mem (Open 2 ∷ l) ≡ answers (step limits) (fresh 0) (Open 2 ∷ l)
  unfolding rules
  after_open l f = answers_list mem (fresh 0) 2 l enough f refl

  -- every list of the rules' Cases has the same answers on memory
  pub case_on_memory : (l : List Call) (a : List (ℕ × ℕ)) → Answered l a → all fits l ≡ true → answers perform mem (Open 2 ∷ l) ≡ (0, 0) ∷ a
  unfolding limits
  case_on_memory l a g f = after_open l f ∙ g 254 252 2046 1022 510

  -- "The whole case above"
  pub whole_case_on_memory : answers perform mem (Open 2 ∷ Initiate 0 ∷ Initiate 0 ∷ Begin 1 ∷ Lock 1 0 2 ∷ Write 1 0 7 ∷ Depend 3 1 2 ∷ Abort 2 ∷ Value 0 ∷ [])
      ≡ (0, 0) ∷ (0, 1) ∷ (0, 2) ∷ (0, 0) ∷ (0, 0) ∷ (0, 0) ∷ (0, 0) ∷ (0, 2) ∷ (0, 0) ∷ []
  unfolding all fits arguments
  whole_case_on_memory = case_on_memory _ _ whole_case refl

  -- "The 255th initiate gives 255; the 256th gets 11"
  pub initiates_on_memory : answers perform mem (Open 2 ∷ (replicate 255 (Initiate 0) ++ (Initiate 0 ∷ []))) ≡ (0, 0) ∷ (table 255 1 (λ k. (0, k)) ++ ((11, 0) ∷ []))
  unfolding all fits arguments rules
  initiates_on_memory = after_open (replicate 255 (Initiate 0) ++ (Initiate 0 ∷ [])) refl ∙ ap (λ l. (0, 0) ∷ l) initiates

  -- "open 0: 2. open 256: 0. open 257: 2"
  pub opens_on_memory : ((perform mem (Open 0)).answer ≡ 2) × ((perform mem (Open 256)).answer ≡ 0) × ((perform mem (Open 257)).answer ≡ 2)
  unfolding rules
  opens_on_memory = (open_answered mem (fresh 0) 0 enough, open_answered mem (fresh 0) 256 enough, open_answered mem (fresh 0) 257 enough)
