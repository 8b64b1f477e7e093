-- `ties::fits` meets its contract: the row of the tie fits. Assumes nothing.
use Rattle.rules.specs.Ties.{make_tie}
use Rattle.rows.specs.Rows.{with_key}
use Rattle.ties.proofs.TieLaws.{key_row, ties-rising, ties_fit}
use Rattle.ties.proofs.fits.Goals as goal

pub returns : goal.returns
returns c ts len is rise = let a = c.args in
    ties_fit ts a.count a.ties.now len is c.requires.count_bound (with_key c.key.result 0) (make_tie a.kind a.leader a.follower) (key_row a.kind a.leader a.follower c.key.result c.key.ensures)
    c.has_room.result (c.has_room.ensures (ties-rising ts a.count a.ties.now len is c.requires.count_bound rise) 0)
