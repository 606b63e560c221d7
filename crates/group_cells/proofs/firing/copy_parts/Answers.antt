use Rattle.std.proofs.Common.{◌∙◌, List, map, ap, arith}
use Rattle.std.specs.List.{filter}
use Rattle.std.proofs.lemmas.List.{take_all}
use Rattle.beam_values.specs.Grouping.{part_of}
use Rattle.beam_values.specs.declared.cell.Entry.{Entry}
use Rattle.group_cells.specs.Firings.{is_held}
use Rattle.group_cells.proofs.FiredPanes.{held_filtered}
use Rattle.group_cells.proofs.firing.copy_parts.Goals as goal

pub returns : goal.returns
returns c =
    c.loop-entry.invariant
    ∙ ap (λ (l : List Entry). map (λ entry. part_of entry.element) (filter (is_held c.args.mode) l)) (take_all c.loop-entry.entry-index c.args.entries.now (omega arith))
    ∙ ap (map (λ entry. part_of entry.element)) (held_filtered c.args.mode c.args.entries.now)
