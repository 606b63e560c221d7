use Rattle.std.proofs.Common.{◌∙◌, ap, not, sym}
use Rattle.std.specs.List.{filter}
use Rattle.beam_values.specs.declared.plan.Mode.{Mode}
use Rattle.group_cells.specs.Cells.{entries_held}
use Rattle.group_cells.proofs.ShownFirst.{unseen_from}
use Rattle.group_cells.proofs.firing.those_from.Goals as goal

pub returns-in-Discarding : goal.returns-in-Discarding
returns-in-Discarding c =
    ap (λ (m : Mode). entries_held m c.split_at.result.1.now) c.in-Discarding.is
    ∙ ap (filter (λ entry. not entry.shown)) c.split_at.ensures.back ∙ unseen_from c.args.from c.args.entries.now c.requires
    ∙ sym (ap (λ (m : Mode). entries_held m c.args.entries.now) c.in-Discarding.is)
