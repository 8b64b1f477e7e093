-- `Made` is not empty: it holds of what `perform` gives, for any call on any memory. So `code-kept` and `code_queued` speak of every list of calls whose arguments fit. Assumes nothing.
use mathlib.Core.Path.{◌≡◌, refl, sym, ◌∙◌, ap}
use mathlib.Core.Bool.{false, false≢true}
use mathlib.Core.List.{List, [], ◌∷◌}
use Prim.Native.Nat.{ℕ, zero, suc, ◌≤◌}
use lib.ListN.{length}
use borrow.Author.Tests.{le-leb, le-ltb}
use contract.Lifetimes.{Lfts}
use denote.Bor.{Bor}
use denote.MutBor.{MutBor}
use Rattle.rules.specs.Window.{limits, Window, fresh}
use Rattle.rules.specs.Calls.{Call, Open, Initiate, Begin, Complete, Lock, Read, Write, Permit, Delegate, Depend, Commit, Abort, Status, Parent, Value, Reply as RuleReply, done, unchanged}
use Rattle.rules.specs.Effects.{effect}
use Rattle.rules.specs.Refusals.{checks, first_failed, settle, step}
use Rattle.rules.specs.Events.{action_of, is_opening, is_open}
use Rattle.rules.proofs.BaseLaws.{over_false}
use Rattle.rules.proofs.RuleLaws.{open_is}
use Rattle.layout.specs.Codec.{window_size}
use Rattle.layout.specs.Memory.{long, window_of, lay_into, hand_back, perform}
use Rattle.layout.proofs.MemoryLaws.{memory_again, open_answered, Performed, refused, ruled, begun, kept, performed}
use Rattle.replies.specs.declared.Reply.{Reply}
use Rattle.replies.specs.Gives.{Gives}
use Rattle.window.specs.Seen.{Done}
use Rattle.window.proofs.Contracts.{Made}
use Rattle.window.proofs.Demand.{Run, none, next, calls_of}

-- A CALL THAT ONLY READS leaves every byte
module _ (mem : List ℕ) (c : Call) (o : is_open c ≡ false) (e : (W : Window) → (effect W c).after ≡ W) where
  step_leaves : (W : Window) → (step limits W c).after ≡ W
  unfolding step settle unchanged
  step_leaves W = go (first_failed (checks limits W c))
    where
      go : (a : ℕ) → (settle a W (effect W c)).after ≡ W
      go zero = e W
      go (suc a) = refl

  perform_leaves : (perform mem c).after ≡ mem
  perform_leaves = go (performed mem c)
    where
      go : {r : RuleReply (List ℕ)} → Performed mem c r → r.after ≡ mem
      go refused = unfold hand_back in refl
      go (ruled h) = unfold lay_into in rw (step_leaves (window_of mem)) (memory_again mem h)
      go (begun l i z) = absurd (false≢true (sym o ∙ i))
      go (kept n) = unfold hand_back in refl

  left_alone : {r : Reply} {after : List ℕ} → Gives (perform mem c) r after → Gives (perform mem c) r mem × (mem ≡ after)
  left_alone g = (record { answer = g.answer; number = g.number; bytes = sym perform_leaves }, sym (g.bytes ∙ perform_leaves))

-- A FUNCTION'S ARGUMENTS: memory lent for a lifetime, to be read or to be written, of which a contract speaks of the bytes alone, and one to four numbers
abbrev lifetime : Lfts 1
lifetime = ([], tt)

abbrev lent : List ℕ → Bor (List ℕ)
lent l = record { ref_ptr = (0, 0); now = l }

abbrev lent_mut : List ℕ → MutBor (List ℕ)
lent_mut l = record { ref_ptr = (0, 0); ghost_name = 0; now = l }

module _ {X : Type 0} (x : X) where
  abbrev one : (a : ℕ) → X × (ℕ × Unit {0})
  one a = (x, (a, tt))

  abbrev two : (a b : ℕ) → X × (ℕ × (ℕ × Unit {0}))
  two a b = (x, (a, (b, tt)))

  abbrev three : (a b c : ℕ) → X × (ℕ × (ℕ × (ℕ × Unit {0})))
  three a b c = (x, (a, (b, (c, tt))))

  abbrev four : (a b c d : ℕ) → X × (ℕ × (ℕ × (ℕ × (ℕ × Unit {0}))))
  four a b c d = (x, (a, (b, (c, (d, tt)))))

-- a reply and memory afterwards that `perform` gives can be had from the function's contract: the converse of `made_gives`
pub gives_made : (mem : List ℕ) (c : Call) (r : Reply) (after : List ℕ) → Gives (perform mem c) r after → Made mem c r after
unfolding Made is_open action_of is_opening effect done
gives_made mem (Open n) r after g = (lifetime, one (lent_mut mem) n, one (lent_mut after) n, g, refl, refl, refl)
gives_made mem (Initiate p) r after g = (lifetime, one (lent_mut mem) p, one (lent_mut after) p, g, refl, refl, refl)
gives_made mem (Begin c) r after g = (lifetime, one (lent_mut mem) c, one (lent_mut after) c, g, refl, refl, refl)
gives_made mem (Complete c) r after g = (lifetime, one (lent_mut mem) c, one (lent_mut after) c, g, refl, refl, refl)
gives_made mem (Lock c e m) r after g = (lifetime, three (lent_mut mem) c e m, three (lent_mut after) c e m, g, refl, refl, refl)
gives_made mem (Read c e) r after g = let (k, q) = left_alone mem (Read c e) refl (λ W. refl) g in (lifetime, two (lent mem) c e, two (lent mem) c e, k, refl, refl, q)
gives_made mem (Write c e v) r after g = (lifetime, three (lent_mut mem) c e v, three (lent_mut after) c e v, g, refl, refl, refl)
gives_made mem (Permit f t e o) r after g = (lifetime, four (lent_mut mem) f t e o, four (lent_mut after) f t e o, g, refl, refl, refl)
gives_made mem (Delegate f t e) r after g = (lifetime, three (lent_mut mem) f t e, three (lent_mut after) f t e, g, refl, refl, refl)
gives_made mem (Depend k l f) r after g = (lifetime, three (lent_mut mem) k l f, three (lent_mut after) k l f, g, refl, refl, refl)
gives_made mem (Commit c) r after g = (lifetime, one (lent_mut mem) c, one (lent_mut after) c, g, refl, refl, refl)
gives_made mem (Abort c) r after g = (lifetime, one (lent_mut mem) c, one (lent_mut after) c, g, refl, refl, refl)
gives_made mem (Status c) r after g = let (k, q) = left_alone mem (Status c) refl (λ W. refl) g in (lifetime, one (lent mem) c, one (lent mem) c, k, refl, refl, q)
gives_made mem (Parent c) r after g = let (k, q) = left_alone mem (Parent c) refl (λ W. refl) g in (lifetime, one (lent mem) c, one (lent mem) c, k, refl, refl, q)
gives_made mem (Value e) r after g = let (k, q) = left_alone mem (Value e) refl (λ W. refl) g in (lifetime, one (lent mem) e, one (lent mem) e, k, refl, refl, q)

-- ANY CALL, ANY LIST OF CALLS, on any memory
abbrev pub makes : List ℕ → Call → Done
makes mem c = record { call = c; reply = record { answer = (perform mem c).answer; number = (perform mem c).number }; after = (perform mem c).after }

pub any-made : (mem : List ℕ) (c : Call) → Made mem c (makes mem c).reply (makes mem c).after
any-made mem c = gives_made mem c (makes mem c).reply (makes mem c).after (record { answer = refl; number = refl; bytes = refl })

pub any_run : (mem : List ℕ) (l : List Call) → (k : List Done) × Run mem k × (calls_of k ≡ l)
any_run mem [] = ([], none, refl)
any_run mem (c ∷ l) = let (k, r, e) = any_run (perform mem c).after l in (makes mem c ∷ k, next (any-made mem c) r, ap (λ l. c ∷ l) e)

-- and so any list after an open answered 0, which is what `code-kept` asks for: on memory as long as a window, with 1 to 256 entries
pub any_opened : (mem : List ℕ) (n : ℕ) (l : List Call) → window_size ≤ length mem → 1 ≤ n → n ≤ 256
    → (d : Done) × (k : List Done) × Run mem (d ∷ k) × (d.call ≡ Open n) × (d.reply.answer ≡ 0) × (calls_of k ≡ l)
unfolding long limits
any_opened mem n l room lo hi =
    let (k, r, e) = any_run (perform mem (Open n)).after l in
    let z : (perform mem (Open n)).answer ≡ 0 = open_answered mem (fresh 0) n (le-leb window_size (length mem) room) ∙ open_is limits (fresh 0) n ∙ rw (le-ltb n 1 lo, over_false n 256 hi) in
    (makes mem (Open n), k, next (any-made mem (Open n)) r, refl, z, e)
