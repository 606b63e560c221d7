use Rattle.std.proofs.Common.{[], map, take}
use Rattle.split_core.specs.Partition.{IsPartition, range_of}
use Rattle.combine_plan.proofs.pieces.cut_items.Given as goal

abbrev pub invariant-loop-item : goal.invariant-loop-item
invariant-loop-item l = IsPartition (take l.item-index l.items) [] (map range_of l.pieces.items)
