-- `many_permits::unserved` meets its contract: the other holders without those whom permits to anybody serve. Assumes nothing.
use Rattle.sets.specs.Members.{members}
use Rattle.many_permits.proofs.NamedLaws.{left_unserved}
use Rattle.many_permits.proofs.unserved.Goals as goal

pub returns : goal.returns
returns c k = let h = c.args.holders.now in
    let g = c.args.givers.now in
    left_unserved (members h.readers) (members h.writers) (members g.reading) (members g.writing) c.args.writer k _ _ _ _ _ _ _
    c.has.ensures c.has-2.ensures (c.unite_if-with_readers.ensures k) (c.unite_if-served.ensures k)
    (c.unite-all.ensures k) (c.without.ensures k) (c.minus.ensures k)
