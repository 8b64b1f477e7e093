-- `sets::ChangeSet::rest` meets its contract: the first word that is not 0 loses its lowest bit. Assumes nothing.
use mathlib.Core.Path.{◌≡◌, refl}
use mathlib.Core.List.{List}
use Prim.Native.Nat.{ℕ}
use native.Mathlib.Omega.{arith}
use borrow.Author.Count.{below_none, below_more}
use borrow.Author.Rules.{rules}
use mir.Val.{Fits}
use mir.Syntax.{w64}
use lib.ListN.{length, get_or}
use Rattle.sets.proofs.Words.{each_of_4}
use Rattle.sets.proofs.TestLaws.{rest_words, rest_nothing}
use Rattle.sets.proofs.ChangeSet.rest.Goals as goal

-- a word is 0
abbrev Zero : List ℕ → ℕ → Type 0
Zero ws i = get_or ws i 0 ≡ 0

pub returns-then-w-ne0 : goal.returns-then-w-ne0
returns-then-w-ne0 c =
    let ws = c.args.self.words in
    let len : length ws ≡ 4 = search rules in
    let small : (i : ℕ) → Fits w64 (get_or ws i 0) = search rules in
    rest_words c.args.self len (λ i. (small i).fits) 0 c.without_lowest.result _ (omega arith) (omega arith) (below_none (Zero ws)) c.without_lowest.ensures refl refl
    (each_of_4 _ (λ n. absurd (n refl)) (λ n. refl) (λ n. refl) (λ n. refl))

pub returns-then-w-ne0-2 : goal.returns-then-w-ne0-2
returns-then-w-ne0-2 c =
    let ws = c.args.self.words in
    let len : length ws ≡ 4 = search rules in
    let small : (i : ℕ) → Fits w64 (get_or ws i 0) = search rules in
    let z : Zero ws 0 = omega arith in
    rest_words c.args.self len (λ i. (small i).fits) 1 c.without_lowest-then-w-ne0-2.result _ (omega arith) (omega arith) (below_more (Zero ws) 0 (below_none (Zero ws)) z) c.without_lowest-then-w-ne0-2.ensures refl refl
    (each_of_4 _ (λ n. rw z) (λ n. absurd (n refl)) (λ n. refl) (λ n. refl))

pub returns-then-w-ne0-3 : goal.returns-then-w-ne0-3
returns-then-w-ne0-3 c =
    let ws = c.args.self.words in
    let len : length ws ≡ 4 = search rules in
    let small : (i : ℕ) → Fits w64 (get_or ws i 0) = search rules in
    let z : Zero ws 0 = omega arith in
    let y : Zero ws 1 = omega arith in
    rest_words c.args.self len (λ i. (small i).fits) 2 c.without_lowest-then-w-ne0-3.result _ (omega arith) (omega arith) (below_more (Zero ws) 1 (below_more (Zero ws) 0 (below_none (Zero ws)) z) y) c.without_lowest-then-w-ne0-3.ensures refl refl
    (each_of_4 _ (λ n. rw z) (λ n. rw y) (λ n. absurd (n refl)) (λ n. refl))

pub returns-then-w-ne0-4 : goal.returns-then-w-ne0-4
returns-then-w-ne0-4 c =
    let ws = c.args.self.words in
    let len : length ws ≡ 4 = search rules in
    let small : (i : ℕ) → Fits w64 (get_or ws i 0) = search rules in
    let z : Zero ws 0 = omega arith in
    let y : Zero ws 1 = omega arith in
    let x : Zero ws 2 = omega arith in
    rest_words c.args.self len (λ i. (small i).fits) 3 c.without_lowest-then-w-ne0-4.result _ (omega arith) (omega arith) (below_more (Zero ws) 2 (below_more (Zero ws) 1 (below_more (Zero ws) 0 (below_none (Zero ws)) z) y) x) c.without_lowest-then-w-ne0-4.ensures refl refl
    (each_of_4 _ (λ n. rw z) (λ n. rw y) (λ n. rw x) (λ n. absurd (n refl)))

pub returns : goal.returns
returns c =
    let ws = c.args.self.words in
    let small : (i : ℕ) → Fits w64 (get_or ws i 0) = search rules in
    let len : length c.args.self.words ≡ 4 = search rules in
    rest_nothing c.args.self len (each_of_4 (Zero ws) (omega arith) (omega arith) (omega arith) (omega arith))
