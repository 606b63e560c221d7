use Rattle.std.proofs.Common.{◌≡◌, Some, take}
use Rattle.std.specs.Option.{option_map}
use Rattle.beam_model.specs.Values.{numbers_in}
use Rattle.dofn_library.proofs.NumbersIn.{greatest_so_far}
use Rattle.dofn_library.proofs.numbers.greatest_of.Given as goal

abbrev pub invariant-loop-item : goal.invariant-loop-item
invariant-loop-item l = option_map greatest_so_far (numbers_in (take l.item-index l.items)) ≡ Some l.greatest
