-- `listing::print_line` meets its contract: three numbers, each with its byte. Assumes nothing.
use mathlib.Core.Path.{ap, ◌∙◌}
use mathlib.Core.List.{List, ◌++◌}
use Prim.Native.Nat.{ℕ}
use native.Mathlib.Omega.{arith}
use Rattle.listing.specs.Listing.{printed}
use Rattle.listing.proofs.LineLaws.{line-printed}
use Rattle.listing.proofs.print_line.Goals as goal

pub returns : goal.returns
returns c =
    line-printed c.args.text.now.items _ _ _ _ _ _ c.args.place c.args.reply.answer c.args.reply.number _ _ c.show.ensures.items c.push.ensures.items c.from.ensures c.show-2.ensures.items c.push-2.ensures.items
    c.from-2.ensures c.show-3.ensures.items c.push-3.ensures.items (omega arith) (omega arith) (omega arith)
    ∙ ap (λ (l : List ℕ). l ++ printed c.args.place c.args.reply.answer c.args.reply.number) c.requires
