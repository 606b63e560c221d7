use Rattle.std.proofs.Common.{◌≡◌, map, take}
use Rattle.beam_values.specs.Marks.{least_mark}
use Rattle.beam_model.specs.Holds.{pane_hold}
use Rattle.group_cells.proofs.panes.least_with.Given as goal

abbrev pub invariant-loop-pane : goal.invariant-loop-pane
invariant-loop-pane l = l.least ≡ least_mark (map (λ pane. (pane_hold l.before pane).mark) (take l.pane-index l.fired))
