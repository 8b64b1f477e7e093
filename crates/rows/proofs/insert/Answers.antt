-- `rows::insert` meets its contract: united, refused or put in. Assumes nothing.
use mathlib.Core.Path.{sym, ap, ◌∙◌}
use Prim.Native.Nat.{◌*◌}
use native.Mathlib.Omega.{arith}
use borrow.Author.Rules.{rules}
use Rattle.cells.specs.Part.{patch}
use Rattle.rows.specs.Rows.{row_of, rank}
use Rattle.rows.proofs.PlaceLaws.{Placed, stands_below}
use Rattle.rows.proofs.RowLaws.{bytes_of}
use Rattle.rows.proofs.AddLaws.{add_old, add_full, add_new}
use Rattle.rows.proofs.insert.Goals as goal

pub unite-requires : goal.unite-requires
unfolding rank row_of
unite-requires c = let a = c.args in
    let h = stands_below a.s.now a.n (rank (row_of a.row)) c.place-at.result c.stands_at.result c.stands_at.ensures c.if-stands_at.true in
    omega arith

pub returns-then-stands_at : goal.returns-then-stands_at
unfolding rank row_of
returns-then-stands_at c = record {
  upper_bound = search rules;
  stored = λ e.
      let s = c in
      let a = s.args in
      let f = c.place-at in
      let t = c.stands_at in
      let u = c.unite in
      let p : Placed a.s.now a.n (row_of a.row) f.result =
      record { bytes = λ j. (search rules); small = record { s1 = search rules; s2 = search rules; s3 = search rules }; within = f.ensures.upper_bound; found = f.ensures.key_place e } in
      add_old a.s.now a.n (row_of a.row) f.result p a.most t.result t.ensures s.requires.n_le_most s.requires.most_in_bounds c.if-stands_at.true u.new.s u.ensures;
}

pub returns-then-n-most : goal.returns-then-n-most
unfolding rank row_of
returns-then-n-most c = record {
  upper_bound = search rules;
  stored = λ e.
      let s = c in
      let a = s.args in
      let f = c.place-at in
      let t = c.stands_at in
      let p : Placed a.s.now a.n (row_of a.row) f.result =
      record { bytes = λ j. (search rules); small = record { s1 = search rules; s2 = search rules; s3 = search rules }; within = f.ensures.upper_bound; found = f.ensures.key_place e } in
      add_full a.s.now a.n (row_of a.row) f.result p a.most t.result t.ensures s.requires.n_le_most s.requires.most_in_bounds c.if-stands_at.false c.if-n-most.true;
}

pub returns : goal.returns
unfolding rank row_of
returns c = record {
  upper_bound = search rules;
  stored = λ e.
      let s = c in
      let a = s.args in
      let f = c.place-at in
      let t = c.stands_at in
      let u = c.bring in
      let w = c.write_row in
      let p : Placed a.s.now a.n (row_of a.row) f.result =
      record { bytes = λ j. (search rules); small = record { s1 = search rules; s2 = search rules; s3 = search rules }; within = f.ensures.upper_bound; found = f.ensures.key_place e } in
      add_new a.s.now a.n (row_of a.row) f.result p a.most t.result t.ensures s.requires.n_le_most s.requires.most_in_bounds c.if-stands_at.false (omega arith) u.new.s w.new.s u.ensures (w.ensures ∙ ap (patch u.new.s (4 * f.result)) (sym (bytes_of a.row (search rules))));
}
