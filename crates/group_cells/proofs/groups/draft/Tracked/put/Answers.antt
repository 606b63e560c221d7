use Rattle.std.proofs.Common.{◌∙◌, ap}
use Rattle.group_cells.specs.Undoing.{undone_all}
use Rattle.group_cells.proofs.Undoing.{put_step}
use Rattle.group_cells.proofs.groups.draft.Tracked.put.Goals as goal

pub returns-clause-undo : goal.returns-clause-undo
returns-clause-undo c =
    let e = put_step c.reserve.new.self.items c.args.self.now.cells.items c.put_at.new.cells.items c.args.place c.args.entry c.requires c.in_ok-put_at.ensures.ok in
    ap (λ changes. undone_all changes c.put_at.new.cells.items) c.push_reserved.ensures.items ∙ e ∙ ap (λ changes. undone_all changes c.args.self.now.cells.items) c.reserve.ensures.items
