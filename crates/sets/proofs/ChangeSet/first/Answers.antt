-- `sets::ChangeSet::first` meets its contract: the first word that is not 0 holds the lowest member. Assumes nothing.
use mathlib.Core.Path.{◌≡◌}
use mathlib.Core.List.{List}
use Prim.Native.Nat.{ℕ}
use native.Mathlib.Omega.{arith}
use borrow.Author.Count.{below_none, below_more}
use borrow.Author.Rules.{rules}
use mir.Val.{Fits}
use mir.Syntax.{w64}
use lib.ListN.{length, get_or}
use Rattle.sets.proofs.Words.{each_of_4}
use Rattle.sets.proofs.TestLaws.{lowest_word, lowest_nothing}
use Rattle.sets.proofs.ChangeSet.first.Goals as goal

-- a word is 0
abbrev Zero : List ℕ → ℕ → Type 0
Zero ws i = get_or ws i 0 ≡ 0

pub returns-then-w-ne0 : goal.returns-then-w-ne0
returns-then-w-ne0 c =
    let ws = c.args.self.words in
    let small : (i : ℕ) → Fits w64 (get_or ws i 0) = search rules in
    lowest_word c.args.self 0 _ (small 0).fits (omega arith) (omega arith) (below_none (Zero ws)) (omega arith)

pub returns-then-w-ne0-2 : goal.returns-then-w-ne0-2
returns-then-w-ne0-2 c =
    let ws = c.args.self.words in
    let small : (i : ℕ) → Fits w64 (get_or ws i 0) = search rules in
    lowest_word c.args.self 1 _ (small 1).fits (omega arith) (omega arith) (below_more (Zero ws) 0 (below_none (Zero ws)) (omega arith)) (omega arith)

pub returns-then-w-ne0-3 : goal.returns-then-w-ne0-3
returns-then-w-ne0-3 c =
    let ws = c.args.self.words in
    let small : (i : ℕ) → Fits w64 (get_or ws i 0) = search rules in
    lowest_word c.args.self 2 _ (small 2).fits (omega arith) (omega arith) (below_more (Zero ws) 1 (below_more (Zero ws) 0 (below_none (Zero ws)) (omega arith)) (omega arith)) (omega arith)

pub returns-then-w-ne0-4 : goal.returns-then-w-ne0-4
returns-then-w-ne0-4 c =
    let ws = c.args.self.words in
    let small : (i : ℕ) → Fits w64 (get_or ws i 0) = search rules in
    lowest_word c.args.self 3 _ (small 3).fits (omega arith) (omega arith) (below_more (Zero ws) 2 (below_more (Zero ws) 1 (below_more (Zero ws) 0 (below_none (Zero ws)) (omega arith)) (omega arith)) (omega arith)) (omega arith)

pub returns : goal.returns
returns c =
    let ws = c.args.self.words in
    let len : length ws ≡ 4 = search rules in
    lowest_nothing c.args.self len (each_of_4 (Zero ws) (omega arith) (omega arith) (omega arith) (omega arith))
