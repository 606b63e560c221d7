use Rattle.std.proofs.Common.{List, [], map, take, sym, subst}
use Rattle.std.proofs.lemmas.List.{take_more}
use Rattle.beam_values.specs.declared.piece.FileLen.{FileLen}
use Rattle.split_core.specs.Partition.{IsPartition, range_of}
use Rattle.combine_plan.proofs.pieces.cut_items.Goals as goal

pub loop-item-preserved : goal.loop-item-preserved
loop-item-preserved c =
    let items = c.args.items.now in
    let i = c.loop-item.item-index in
    subst (λ (l : List FileLen). IsPartition l [] (map range_of c.cut_item.new.pieces.items)) (sym (take_more items i _ c.loop-item-test.true))
    (c.in_ok-cut_item.ensures (take i items) c.loop-item.invariant)
