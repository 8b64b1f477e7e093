-- `passes::pull` meets its contract: each way through adds what the tie adds. Assumes nothing.
use mathlib.Core.Path.{◌≡◌, sym, fun_ext, ◌∙◌}
use mathlib.Core.Bool.{true, false, true≢false}
use Rattle.rules.specs.Ties.{is_group}
use Rattle.layout.specs.Records.{tie_of}
use Rattle.words.specs.Members.{words_have}
use Rattle.passes.specs.Passes.{follows}
use Rattle.passes.proofs.PassLaws.{pulled_none, pulled_add_follower, pulled_add_leader}
use Rattle.passes.proofs.pull.Goals as goal

pub returns-then-follows : goal.returns-then-follows
returns-then-follows c = let a = c.args in let t = a.tie in
    let x : words_have a.words.now t.leader ≡ true = sym c.among.ensures ∙ c.if-among.true in
    fun_ext (λ k. c.insert.ensures.by_index k ∙ pulled_add_follower a.low (tie_of t.kind t.leader t.follower) (words_have a.words.now) (sym c.follows.ensures ∙ c.if-follows.true) x k)

pub returns-else-follows : goal.returns-else-follows
returns-else-follows c = let a = c.args in let t = a.tie in
    let x : words_have a.words.now t.leader ≡ true = sym c.among.ensures ∙ c.if-among.true in
    let f : follows a.low t.kind ≡ false = sym c.follows.ensures ∙ c.if-follows.false in
    fun_ext (pulled_none a.low (tie_of t.kind t.leader t.follower) (words_have a.words.now) (λ q _. absurd (true≢false (sym q ∙ f))) (λ _ _. x))

pub returns-then-among-2 : goal.returns-then-among-2
returns-then-among-2 c = let a = c.args in let t = a.tie in
    let y : words_have a.words.now t.follower ≡ true = sym c.among-then-is_group.ensures ∙ c.if-among-2.true in
    fun_ext (λ k. c.insert-then-among-2.ensures.by_index k ∙ pulled_add_leader a.low (tie_of t.kind t.leader t.follower) (words_have a.words.now) (sym c.is_group.ensures ∙ c.if-is_group.true) y k)

pub returns-else-among-2 : goal.returns-else-among-2
returns-else-among-2 c = let a = c.args in let t = a.tie in
    let x : words_have a.words.now t.leader ≡ false = sym c.among.ensures ∙ c.if-among.false in
    let y : words_have a.words.now t.follower ≡ false = sym c.among-then-is_group.ensures ∙ c.if-among-2.false in
    fun_ext (pulled_none a.low (tie_of t.kind t.leader t.follower) (words_have a.words.now) (λ _ q. absurd (true≢false (sym q ∙ x))) (λ _ q. absurd (true≢false (sym q ∙ y))))

pub returns-else-is_group : goal.returns-else-is_group
returns-else-is_group c = let a = c.args in let t = a.tie in
    let x : words_have a.words.now t.leader ≡ false = sym c.among.ensures ∙ c.if-among.false in
    let g : is_group t.kind ≡ false = sym c.is_group.ensures ∙ c.if-is_group.false in
    fun_ext (pulled_none a.low (tie_of t.kind t.leader t.follower) (words_have a.words.now) (λ _ q. absurd (true≢false (sym q ∙ x))) (λ q _. absurd (true≢false (sym q ∙ g))))
