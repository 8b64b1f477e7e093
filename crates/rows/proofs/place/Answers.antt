-- `rows::place` meets its contract: std's point of partition among the rows. Assumes nothing.
use borrow.Author.Rules.{rules}
use lib.Dec.{ltb}
use Rattle.std.proofs.lemmas.List.Sorted.{IsPartitionPoint-from_clause}
use Rattle.rows.specs.Rows.{key_rank, rank, row_of}
use Rattle.rows.proofs.SearchLaws.{place_found}
use Rattle.rows.proofs.place.Goals as goal

pub returns-clause-key_place : goal.returns-clause-key_place
unfolding rank row_of
returns-clause-key_place c e = let a = c.args in
    let l = a.s.now in
    let k = key_rank a.key in
    place_found l a.n k c.partition_point.result (λ j. (c.type_inv.s j).fits) c.requires e
    (rw (← c.as_chunks.ensures.front) (λ h. IsPartitionPoint-from_clause (λ x. ltb (rank (row_of x)) k) _ c.partition_point.result c.partition_point.ensures.partitioned h (λ x r f q. search rules)))
    (search rules)
