use Rattle.std.proofs.Common.{◌≡◌, ◌++◌, map, take}
use Rattle.beam_model.specs.Values.{pair}
use Rattle.beam_model.specs.Steps.{timer_output}
use Rattle.dofn_library.proofs.work.latest.push_each.Given as goal

abbrev pub invariant-loop-value : goal.invariant-loop-value
invariant-loop-value l = l.out ≡ l.fn.out ++ map (λ v. timer_output l.span l.time (pair l.key v)) (take l.value-index l.values)
