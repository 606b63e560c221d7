use Rattle.std.proofs.Common.{take}
use Rattle.std.specs.List.{All}
use Rattle.beam_values.specs.Storable.{IsStorable}
use Rattle.book_core.proofs.storable.look_at_panes.Given as goal

abbrev pub invariant-loop-pane : goal.invariant-loop-pane
invariant-loop-pane l = All (λ pane. IsStorable pane.element.value) (take l.pane-index l.panes)
