use Rattle.std.proofs.Common.{ap, refl, ◌∙◌}
use Rattle.group_cells.specs.Undoing.{undone_all, SeenDraft}
use Rattle.group_cells.proofs.Tracking.{kept_tracked}
use Rattle.group_cells.proofs.groups.draft.Draft.make_room_for.Goals as goal

pub invariant_of-self : goal.invariant_of-self
invariant_of-self c =
    let old = c.self.inside.tracked in
    kept_tracked c.self.inside.plan.now old (record { cells = old.cells; index = old.index; due = old.due; changes = c.reserve.new.self }) c.self.invariant refl (λ cells h. h) (λ p l h. h) refl
    (ap (λ changes. undone_all changes old.cells.items) c.reserve.ensures.items)

pub invariant_of-self-2 : goal.invariant_of-self-2
invariant_of-self-2 c =
    let old = c.self.inside.tracked in
    kept_tracked c.self.inside.plan.now old (record { cells = old.cells; index = old.index; due = old.due; changes = c.reserve.new.self }) c.self.invariant refl (λ cells h. h) (λ p l h. h) refl
    (ap (λ changes. undone_all changes old.cells.items) c.reserve.ensures.items)

pub returns : goal.returns
returns c =
    (λ i. let d : SeenDraft = record { plan = c.self.inside.plan.now; cells = c.self.inside.tracked.cells.items; begun = undone_all (c.reserve.ensures.items i) c.self.inside.tracked.cells.items } in d) ∙ c.self.view_is

pub returns-in_err-reserve : goal.returns-in_err-reserve
returns-in_err-reserve c =
    (λ i. let d : SeenDraft = record { plan = c.self.inside.plan.now; cells = c.self.inside.tracked.cells.items; begun = undone_all (c.reserve.ensures.items i) c.self.inside.tracked.cells.items } in d) ∙ c.self.view_is
