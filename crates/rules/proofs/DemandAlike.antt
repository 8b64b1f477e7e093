-- Two systems that answer alike have the same histories: what carries demand 3 and the order in line from the rules to memory. Assumes nothing.
use mathlib.Core.Path.{◌≡◌, refl, sym, ◌∙◌, ap}
use mathlib.Core.Bool.{true}
use mathlib.Core.List.{List, [], ◌∷◌, ◌++◌}
use Prim.Native.Nat.{ℕ, zero, suc, ◌+◌, ◌≤◌, ◌<◌}
use native.Mathlib.Omega.{arith}
use borrow.Author.Tests.{lt-ltb}
use Rattle.rules.specs.Base.{all, table}
use Rattle.rules.specs.Calls.{arguments, Call, Open, Commit, Status, fits, Reply}
use Rattle.rules.specs.Events.{Event}
use Rattle.rules.specs.Lists.{remember, event, history, highest, live_groups, walks, Demand3After, Demand3}
use Rattle.rules.specs.Waiting.{Queued}
use Rattle.rules.proofs.BaseLaws.{and_left, and_right}
use Rattle.rules.proofs.ListLaws.{all_join, all-table}

-- s answers as t does, and so on after every call
pub record Alike {S T : Type 0} (make : S → Call → Reply S) (model : T → Call → Reply T) (R : S → T → Type 0) : Type 0 where
  pub answers : (s : S) (t : T) → R s t → (c : Call) → (make s c).answer ≡ (model t c).answer
  pub numbers : (s : S) (t : T) → R s t → (c : Call) → (make s c).number ≡ (model t c).number
  pub next : (s : S) (t : T) → R s t → (c : Call) → fits c ≡ true → R (make s c).after (model t c).after

module _ {S T : Type 0} (make : S → Call → Reply S) (model : T → Call → Reply T) (R : S → T → Type 0) (A : Alike make model R) where
  same_event : (s : S) (t : T) (c : Call) → (make s c).answer ≡ (model t c).answer → (make s c).number ≡ (model t c).number → R (make s c).after (model t c).after → event make s c ≡ event model t c
  unfolding event
  same_event s t c a n r = λ i. record { call = c; answer = a i; number = n i; status = λ d. A.numbers (make s c).after (model t c).after r (Status d) i }

  same_history : (l : List Call) (s : S) (t : T) (p : List Event) → R s t → all fits l ≡ true → history make s p l ≡ history model t p l
  unfolding history all
  same_history [] s t p r f = refl
  same_history (c ∷ l) s t p r f =
      let n = A.next s t r c (and_left (fits c) _ f) in
      same_history l (make s c).after (model t c).after (remember (event make s c) p) n (and_right (fits c) _ f)
      ∙ ap (λ e. history model (model t c).after (remember e p) l) (same_event s t c (A.answers s t r c) (A.numbers s t r c) n)

fits_walk : (n i : ℕ) → i + n ≤ 4294967296 → all fits (table n i Commit) ≡ true
unfolding all fits arguments
fits_walk n i h = all-table fits Commit n i (λ j a. rw (lt-ltb j 4294967296 (omega arith)))

fits-walks : (k n : ℕ) → n < 4294967296 → all fits (walks k n) ≡ true
unfolding all walks
fits-walks zero n h = refl
fits-walks (suc k) n h = all_join fits (table n 1 Commit) (walks k n) (fits_walk n 1 (omega arith)) (fits-walks k n h)

demand_same : (P Q : List Call → List Event) (l : List Call) → P l ≡ Q l → ((k : ℕ) → P (l ++ walks k (highest (Q l))) ≡ Q (l ++ walks k (highest (Q l)))) → Demand3After Q l → Demand3After P l
demand_same P Q l e f k = record { kept = rw e k.kept; walked = rw (e, f (live_groups (Q l))) k.walked }

module _ {S T : Type 0} (make : S → Call → Reply S) (model : T → Call → Reply T) (R : S → T → Type 0) (A : Alike make model R)
    (opens : (s : S) (n : ℕ) → (make s (Open n)).answer ≡ 0
    → (t : T) × ((model t (Open n)).answer ≡ 0) × ((make s (Open n)).number ≡ (model t (Open n)).number) × R (make s (Open n)).after (model t (Open n)).after) where
  -- after an open answered 0
  pub history_alike : (s : S) (n : ℕ) (e : (make s (Open n)).answer ≡ 0) (l : List Call) → all fits l ≡ true → history make s [] (Open n ∷ l) ≡ history model (opens s n e).0 [] (Open n ∷ l)
  unfolding history
  history_alike s n e l f = let o = opens s n e in
      same_history make model R A l (make s (Open n)).after (model o.0 (Open n)).after (remember (event make s (Open n)) []) o.3 f
      ∙ ap (λ x. history model (model o.0 (Open n)).after (remember x []) l) (same_event make model R A s o.0 (Open n) (e ∙ sym o.1) o.2 o.3)

  pub demand_alike : ((t : T) (n : ℕ) → (model t (Open n)).answer ≡ 0 → (l : List Call) → all fits l ≡ true → highest (history model t [] (Open n ∷ l)) < 4294967296) → Demand3 model → Demand3 make
  demand_alike most d s n e l f = let t = (opens s n e).0 in let o = (opens s n e).1 in let top = highest (history model t [] (Open n ∷ l)) in
      demand_same (λ k. history make s [] (Open n ∷ k)) (λ k. history model t [] (Open n ∷ k)) l (history_alike s n e l f)
      (λ k. history_alike s n e (l ++ walks k top) (all_join fits l (walks k top) f (fits-walks k top (most t n o l f)))) (d t n o l f)

  pub queued_alike : Queued model → Queued make
  queued_alike d s n e l f = rw (history_alike s n e l f) (d (opens s n e).0 n (opens s n e).1 l f)
