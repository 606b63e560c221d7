use Rattle.std.proofs.Common.{arith}
use Rattle.combine_lift.proofs.RowPlaces.{indexed_all, indexed_more}
use Rattle.combine_lift.proofs.rows_index.index_of.Goals as goal

pub loop-place-preserved : goal.loop-place-preserved
loop-place-preserved g c =
    indexed_more c.loop-place.index c.add_row.new.index c.args.rows.now c.loop-place.place c.index-rows-place.result c.loop-place-test.true c.index-rows-place.is
    c.in_ok-add_row.ensures c.loop-place.invariant

pub returns : goal.returns
returns g c = indexed_all c.loop-place.index c.args.rows.now c.loop-place.place (omega arith) c.loop-place.invariant
