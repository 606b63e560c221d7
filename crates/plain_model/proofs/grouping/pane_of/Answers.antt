use Rattle.std.proofs.Common.{◌∙◌, ap, map}
use Rattle.beam_values.specs.Grouping.{key_of, part_of}
use Rattle.beam_values.specs.declared.value.Value.TheVariants.{Seq}
use Rattle.beam_values.proofs.GroupedCells.{pane_built}
use Rattle.plain_model.proofs.grouping.pane_of.Goals as goal

pub returns : goal.returns
returns c =
    let first = c.args.first.now in
    pane_built (key_of first) first.span (map part_of c.args.group.now) c.in_ok-key.key c.in_ok-parts.parts c.last_time.result
    (c.in_ok-key.ensures ∙ c.in_ok-copy_key.ensures)
    (c.in_ok-parts.ensures ∙ ap Seq c.in_ok-copy_parts.ensures)
    c.last_time.ensures
