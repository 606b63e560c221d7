use Rattle.std.proofs.Common.{ap, sym, ◌∙◌, Some}
use Rattle.std.specs.Option.{option_map}
use Rattle.std.proofs.lemmas.Option.{slice_get-get_or, slice_get-map}
use Rattle.stateful_core.specs.Seen.{cell_of, cells_of}
use Rattle.stateful_core.specs.declared.slot.Slot.{Slot}
use Rattle.stateful_core.proofs.trees.renew_at.Goals as goal

pub returns-clause-due : goal.returns-clause-due
returns-clause-due c = λ h.
    c.renew.ensures.due (cells_of c.args.slots.now)
    (slice_get-map cell_of c.args.slots.now c.args.at
    ∙ ap (option_map cell_of) (slice_get-get_or c.args.slots.now c.args.at c.index-slots-at.result c.requires ∙ ap (λ (s : Slot). Some s) (sym c.index-slots-at.is))) h
