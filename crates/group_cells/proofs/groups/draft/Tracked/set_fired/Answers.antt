use Rattle.std.proofs.Common.{◌∙◌, ap, refl}
use Rattle.group_cells.specs.Undoing.{undone_all}
use Rattle.group_cells.proofs.Undoing.{unfired_step}
use Rattle.group_cells.proofs.groups.draft.Tracked.set_fired.Goals as goal

pub returns-clause-undo : goal.returns-clause-undo
returns-clause-undo c =
    ap (λ changes. undone_all changes c.set_fired_at.new.cells.items) c.push_reserved.ensures.items
    ∙ unfired_step c.reserve.new.self.items c.args.self.now.cells.items c.set_fired_at.new.cells.items c.args.place c.args.place c.in_ok-before.before c.args.timing
    c.requires.within refl c.in_ok-before.ensures.cell c.in_ok-before.ensures.before
    ∙ ap (λ changes. undone_all changes c.args.self.now.cells.items) c.reserve.ensures.items
