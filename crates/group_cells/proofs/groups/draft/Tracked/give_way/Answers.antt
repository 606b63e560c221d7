use Rattle.std.proofs.Common.{◌∙◌, ap}
use Rattle.group_cells.specs.Undoing.{undone_all}
use Rattle.group_cells.proofs.GivenWay.{gave_way_step}
use Rattle.group_cells.proofs.groups.draft.Tracked.give_way.Goals as goal

pub returns-clause-undo : goal.returns-clause-undo
returns-clause-undo c =
    ap (λ changes. undone_all changes c.give_way.new.cells.items) c.push_reserved.ensures.items
    ∙ gave_way_step c.reserve.new.self.items c.args.self.now.cells.items c.give_way.new.cells.items c.args.place c.in_ok-given.given c.in_ok-given.ensures.undo
    ∙ ap (λ changes. undone_all changes c.args.self.now.cells.items) c.reserve.ensures.items
