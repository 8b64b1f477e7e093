-- `locks::grant` meets its contract: the row with the change's lock set is put in place. Assumes nothing.
use mathlib.Core.Path.{◌∙◌, ap}
use Rattle.rules.specs.Base.{put}
use Rattle.layout.specs.Codec.{lock_section}
use Rattle.locks.proofs.ChangeLaws.{put2-row}
use Rattle.locks.proofs.grant.Goals as goal

pub returns : goal.returns
returns c held e = let a = c.args in
    c.store.ensures held (put (held a.entry) a.change a.mode) e
    (c.with_mode-after.ensures (held a.entry) a.mode c.of.ensures (c.load-before.ensures held e))
    ∙ ap lock_section (put2-row held a.entry a.change a.mode)
