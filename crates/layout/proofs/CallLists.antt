-- Lists of calls on lent bytes do what the rules do, and read and change nothing past the window. Assumes nothing.
use mathlib.Core.Path.{◌≡◌, refl, sym, ◌∙◌, ap}
use mathlib.Core.Bool.{Bool, true, false, not, cond, ◌&&◌}
use mathlib.Core.List.{List, [], ◌∷◌, ◌++◌, append-nil}
use Prim.Native.Nat.{ℕ}
use native.Mathlib.Omega.{arith}
use lib.Dec.{eqb}
use lib.ListN.{length, take, length-append, drop_of_length-le}
use lib.Seq.{take_at, drop_at, take_all}
use borrow.Author.Tests.{le-leb}
use Rattle.rules.specs.Base.{all}
use Rattle.rules.specs.Window.{limits, Window, fresh}
use Rattle.rules.specs.Calls.{Call, Open, fits, Reply, Outcome}
use Rattle.rules.specs.Refusals.{step}
use Rattle.rules.specs.Events.{is_open}
use Rattle.rules.specs.Lists.{answers}
use Rattle.rules.proofs.BaseLaws.{and_left, and_right}
use Rattle.rules.proofs.RuleLaws.{open_number}
use Rattle.rules.proofs.SoundStep.{opened_fresh}
use Rattle.layout.specs.Codec.{window_size}
use Rattle.layout.specs.Memory.{long, sound_memory, window_of, lay_into, hand_back, anew, memory_refused, perform}
use Rattle.layout.proofs.MemoryLaws.{perform-answer, perform-number, perform-holds, open_answered, open_numbered, opened_holds}

-- from a sound window
answers-sound : (l : List Call) (mem : List ℕ) → all fits l ≡ true → sound_memory mem ≡ true → answers perform mem l ≡ answers (step limits) (window_of mem) l
unfolding all answers
answers-sound [] mem a h = refl
answers-sound (c ∷ l) mem a h =
    let k = perform-holds mem c (and_left (fits c) (all fits l) a) h in
    λ i. (perform-answer mem c h i, perform-number mem c h i)
    ∷ (answers-sound l (perform mem c).after (and_right (fits c) (all fits l) a) k.sound ∙ ap (λ X. answers (step limits) X l) k.window) i

-- from whatever memory an open answered 0
answers_opened : (mem : List ℕ) (n : ℕ) (l : List Call) → all fits l ≡ true → (perform mem (Open n)).answer ≡ 0
    → answers perform (perform mem (Open n)).after l ≡ answers (step limits) (fresh n) l
answers_opened mem n l a h = let k = opened_holds mem n h in answers-sound l (perform mem (Open n)).after a k.sound ∙ ap (λ X. answers (step limits) X l) k.window

-- a list that begins with an open: on long enough memory, whatever it holds, the answers are the rules'
pub answers_list : (mem : List ℕ) (W : Window) (n : ℕ) (l : List Call) → long mem ≡ true → all fits l ≡ true → (step limits W (Open n)).answer ≡ 0
    → answers perform mem (Open n ∷ l) ≡ answers (step limits) W (Open n ∷ l)
unfolding answers
answers_list mem W n l m a h =
    let q = open_answered mem W n m in
    λ i. (q i, (open_numbered mem n ∙ sym (open_number limits W n)) i)
    ∷ (answers_opened mem n l a (q ∙ h) ∙ ap (λ X. answers (step limits) X l) (sym (opened_fresh limits W n h))) i

-- bytes past the window take no part
unfoldable pub past : Reply (List ℕ) → List ℕ → Reply (List ℕ)
past r t = record { answer = r.answer; number = r.number; after = r.after ++ t }

module _ (bs t : List ℕ) (size : length bs ≡ window_size) where
  front : take window_size (bs ++ t) ≡ take window_size bs
  front = take_at bs t window_size size ∙ sym (take_all window_size bs (omega arith))

  long_alone : long bs ≡ true
  unfolding long
  long_alone = le-leb window_size (length bs) (omega arith)

  long_past : long (bs ++ t) ≡ true
  unfolding long
  long_past = le-leb window_size (length (bs ++ t)) (omega (arith, length-append bs t))

  sound_past : sound_memory (bs ++ t) ≡ sound_memory bs
  unfolding sound_memory
  sound_past = rw (long_past, long_alone, front)

  lay_past : (o : Outcome) → lay_into (bs ++ t) o ≡ past (lay_into bs o) t
  unfolding lay_into past
  lay_past o = rw (drop_at bs t window_size size, drop_of_length-le bs {i = window_size} (omega arith), append-nil)

  back_past : (a : ℕ) → hand_back (bs ++ t) a ≡ past (hand_back bs a) t
  unfolding hand_back past
  back_past a = refl

  anew_past : (o : Outcome) → anew (bs ++ t) o ≡ past (anew bs o) t
  unfolding anew
  anew_past o = go (eqb o.answer 0)
    where
      go : (b : Bool) → cond b (lay_into (bs ++ t) o) (hand_back (bs ++ t) o.answer) ≡ past (cond b (lay_into bs o) (hand_back bs o.answer)) t
      go true = lay_past o
      go false = back_past o.answer

  pub perform_past : (c : Call) → perform (bs ++ t) c ≡ past (perform bs c) t
  unfolding perform memory_refused
  perform_past c = rw (sound_past, long_past, long_alone, front) (go (is_open c) (sound_memory bs))
    where
      go : (o s : Bool) → cond (not o && not s) (hand_back (bs ++ t) 1) (cond s (lay_into (bs ++ t) (step limits (window_of bs) c)) (anew (bs ++ t) (step limits (fresh 0) c)))
          ≡ past (cond (not o && not s) (hand_back bs 1) (cond s (lay_into bs (step limits (window_of bs) c)) (anew bs (step limits (fresh 0) c)))) t
      go true true = lay_past (step limits (window_of bs) c)
      go true false = anew_past (step limits (fresh 0) c)
      go false true = lay_past (step limits (window_of bs) c)
      go false false = back_past 1
