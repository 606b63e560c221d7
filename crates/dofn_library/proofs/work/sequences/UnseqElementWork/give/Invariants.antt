use Rattle.std.proofs.Common.{◌≡◌, ◌++◌, map, take}
use Rattle.beam_model.specs.Values.{pair}
use Rattle.beam_model.specs.Functions.{valued}
use Rattle.dofn_library.proofs.work.sequences.UnseqElementWork.give.Given as goal

abbrev pub invariant-loop-item : goal.invariant-loop-item
invariant-loop-item l = l.out ≡ l.fn.out ++ map (λ item. valued l.e (pair l.pair.key.now item)) (take l.item-index l.items)
