-- `rows::has_room` meets its contract: there is room, or a row of the key stands. Assumes nothing.
use native.Mathlib.Omega.{arith}
use borrow.Author.Rules.{rules}
use Rattle.rows.specs.Rows.{with_key, rank}
use Rattle.rows.proofs.PlaceLaws.{Placed}
use Rattle.rows.proofs.AddLaws.{fits_room, fits_full}
use Rattle.rows.proofs.has_room.Goals as goal

pub returns-then-n-most : goal.returns-then-n-most
returns-then-n-most c e more = let a = c.args in fits_room a.s.now a.n a.most (with_key a.key more) c.if-n-most.true

pub returns : goal.returns
unfolding rank
returns c e more = let a = c.args in
    let f = c.place in
    let p : Placed a.s.now a.n (with_key a.key more) f.result =
    record { bytes = λ j. (c.type_inv.s j).fits; small = record { s1 = search rules; s2 = search rules; s3 = search rules }; within = f.ensures.upper_bound; found = f.ensures.key_place e } in
    fits_full a.s.now a.n (with_key a.key more) f.result p a.most c.stands_at.result c.stands_at.ensures (omega arith)
