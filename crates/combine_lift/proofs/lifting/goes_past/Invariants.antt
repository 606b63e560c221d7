use Rattle.std.proofs.Common.{◌≡◌, ◌&&◌, false, take}
use Rattle.std.specs.List.{enumerate_from, list_any}
use Rattle.beam_values.specs.Nodes.{is_source_kind}
use Rattle.combine_lift.specs.Lifting.{is_written_from}
use Rattle.combine_lift.proofs.lifting.goes_past.Given as goal

abbrev pub invariant-loop-number : goal.invariant-loop-number
invariant-loop-number l =
    list_any (λ numbered. is_source_kind numbered.1.kind && is_written_from l.plan numbered.0) (take l.number (enumerate_from 0 l.plan.nodes)) ≡ false
