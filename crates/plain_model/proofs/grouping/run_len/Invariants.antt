use Rattle.std.proofs.Common.{◌≡◌, ◌+◌, drop}
use Rattle.std.specs.List.{prefix_len}
use Rattle.std.specs.Ordering.{is_eq}
use Rattle.beam_values.specs.Cells.{window_key_cmp}
use Rattle.plain_model.proofs.grouping.run_len.Given as goal

-- the run is the elements passed so far, and the run at the front of what is left
abbrev pub invariant-loop-i : goal.invariant-loop-i
invariant-loop-i l =
    l.i + prefix_len (λ e. is_eq (window_key_cmp l.first e)) (drop l.i l.elements) ≡ prefix_len (λ e. is_eq (window_key_cmp l.first e)) l.elements
