use Rattle.std.proofs.Common.{take}
use Rattle.std.specs.List.{AllByRecursion}
use Rattle.beam_values.specs.Storable.{IsStorable}
use Rattle.book_core.proofs.storable.+looks.Given as goal

abbrev pub invariant-look_at_all-loop-item : goal.invariant-look_at_all-loop-item
invariant-look_at_all-loop-item l = AllByRecursion IsStorable (take l.item-index l.items)
