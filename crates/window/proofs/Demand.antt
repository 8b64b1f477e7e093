-- Demand 3 of every list of calls made through the exported functions, and what the lines are held to. Assumes nothing.
use mathlib.Core.Path.{◌≡◌, refl, sym, ◌∙◌, ap}
use mathlib.Core.Bool.{true}
use mathlib.Core.List.{List, [], ◌∷◌, ◌++◌, map, map-append}
use Prim.Native.Nat.{ℕ}
use Rattle.rules.specs.Base.{all}
use Rattle.rules.specs.Window.{is_live}
use Rattle.rules.specs.Calls.{Call, Open, Status, fits}
use Rattle.rules.specs.Events.{Event}
use Rattle.rules.specs.Lists.{remember, event, history, status, highest, live_groups, walks, Kept, AllCompleted, Demand3After}
use Rattle.rules.specs.Waiting.{LastInTurn}
use Rattle.layout.specs.Memory.{perform}
use Rattle.layout.proofs.Demand.{bytes-kept, bytes_queued}
use Rattle.replies.specs.Gives.{Gives}
use Rattle.window.specs.Seen.{Done, seen_of, seen}
use Rattle.window.proofs.Contracts.{Made, made_gives}

-- calls made through the functions, each on the memory that the last one left
pub data Run : List ℕ → List Done → Type 0 where
  none : {mem : List ℕ} → Run mem []
  next : {mem : List ℕ} {d : Done} {l : List Done} → Made mem d.call d.reply d.after → Run d.after l → Run mem (d ∷ l)

abbrev pub calls_of : List Done → List Call
calls_of = map (λ d. d.call)

-- what is seen of a call is what `perform` gives
seen_one : (mem : List ℕ) (d : Done) → Gives (perform mem d.call) d.reply d.after → seen_of d ≡ event perform mem d.call
unfolding seen_of event
seen_one mem d g = λ i. record { call = d.call; answer = g.answer i; number = g.number i; status = λ c. (perform (g.bytes i) (Status c)).number }

-- and so of a list of them
seen_all : (mem : List ℕ) (p : List Event) (l : List Done) → Run mem l → seen p l ≡ history perform mem p (calls_of l)
unfolding seen history
seen_all mem p [] none = refl
seen_all mem p (d ∷ l) (next m r) = let g = made_gives mem d.call d.reply d.after m in
    seen_all d.after (remember (seen_of d) p) l r
    ∙ (λ i. history perform (g.bytes i) (remember (seen_one mem d g i) p) (calls_of l))

-- demand 3 of what is seen of the calls made: the open d, then the calls l
pub record Demand3Seen (mem : List ℕ) (d : Done) (l : List Done) : Type 0 where
  pub kept : Kept (seen [] (d ∷ l))
  -- as many walks as there are live groups, made after them, leave all live changes committed
  pub walked : AllCompleted (seen [] (d ∷ l)) → (k : List Done) → Run mem (d ∷ (l ++ k)) → calls_of k ≡ walks (live_groups (seen [] (d ∷ l))) (highest (seen [] (d ∷ l)))
      → (c : ℕ) → is_live (status (seen [] (d ∷ l)) c) ≡ true → status (seen [] (d ∷ (l ++ k))) c ≡ 4

-- every list of calls made through the functions, each on the memory that the last one left, after an open answered 0
module _ (mem : List ℕ) (n : ℕ) (d : Done) (l : List Done) (r : Run mem (d ∷ l)) (o : d.call ≡ Open n) (e : d.reply.answer ≡ 0) (f : all fits (calls_of l) ≡ true) where
  opened : (perform mem (Open n)).answer ≡ 0
  opened = go r
    where
      go : Run mem (d ∷ l) → (perform mem (Open n)).answer ≡ 0
      go (next m s) = ap (λ c. (perform mem c).answer) (sym o) ∙ sym (made_gives mem d.call d.reply d.after m).answer ∙ e

  past_is : seen [] (d ∷ l) ≡ history perform mem [] (Open n ∷ calls_of l)
  past_is = seen_all mem [] (d ∷ l) r ∙ ap (λ c. history perform mem [] (c ∷ calls_of l)) o

  -- DEMAND 3
  pub code-kept : Demand3Seen mem d l
  code-kept = record {
    kept = rw past_is whole.kept;
    walked = λ a k s w c v. ends k s (rw past_is at w) c ∙ whole.walked (rw past_is at a) c (rw past_is at v);
  }
    where
      whole : Demand3After (λ k. history perform mem [] (Open n ∷ k)) (calls_of l)
      whole = bytes-kept mem n opened (calls_of l) f

      ends : (k : List Done) → Run mem (d ∷ (l ++ k)) → calls_of k ≡ walks (live_groups (history perform mem [] (Open n ∷ calls_of l))) (highest (history perform mem [] (Open n ∷ calls_of l)))
          → (c : ℕ) → status (seen [] (d ∷ (l ++ k))) c ≡ status (history perform mem [] (Open n ∷ (calls_of l ++ walks (live_groups (history perform mem [] (Open n ∷ calls_of l))) (highest (history perform mem [] (Open n ∷ calls_of l)))))) c
      ends k s w c = ap (λ p. status p c) (seen_all mem [] (d ∷ (l ++ k)) s ∙ ap (λ x. history perform mem [] (x ∷ calls_of (l ++ k))) o ∙ ap (λ x. history perform mem [] (Open n ∷ x)) (map-append (λ (x : Done). x.call) l k ∙ ap (λ x. calls_of l ++ x) w))

  -- of the last call, and so of every one: no later comer on an entry is granted ahead of an earlier one, and the first in line is served
  pub code_queued : LastInTurn (seen [] (d ∷ l))
  code_queued = rw past_is (bytes_queued mem n opened (calls_of l) f)
