-- `calls::make_fresh` meets its contract. Assumes nothing.
use borrow.Author.Rules.{rules}
use Rattle.calls.proofs.FreshLaws.{made-fresh}
use Rattle.calls.proofs.make_fresh.Goals as goal

pub returns : goal.returns
returns c = made-fresh c.args.w.now (search rules) c.args.entries _ _ c.clear.ensures c.store.ensures
