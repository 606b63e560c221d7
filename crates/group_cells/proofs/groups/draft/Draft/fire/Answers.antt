use Rattle.std.proofs.Common.{◌≡◌, ◌+◌, ◌<◌, ◌^◌, List, Option, Some, ap, length, refl, subst, sym, ◌∙◌}
use Rattle.std.specs.Prelude.{slice_get, slice_set}
use Rattle.std.proofs.lemmas.Option.{slice_get_read}
use Rattle.beam_values.specs.declared.cell.Cell.{Cell}
use Rattle.beam_values.specs.declared.cell.Entry.{Entry}
use Rattle.beam_values.specs.declared.element.Timing.{Timing}
use Rattle.beam_model.specs.Panes.{GroupRules}
use Rattle.group_cells.specs.Cells.{once_fired, unseen_in, AreShownTo}
use Rattle.group_cells.specs.Plain.{after_node, firing_at}
use Rattle.group_cells.specs.Undoing.{SeenDraft}
use Rattle.group_cells.proofs.FireSteps.{fires_none, fires_so, read_is, unfired_cells}
use Rattle.group_cells.proofs.Tracking.{counted_there}
use Rattle.group_cells.proofs.groups.draft.Draft.fire.Goals as goal

pub count_at-count-requires : goal.count_at-count-requires
count_at-count-requires c = counted_there c.self.inside.plan.now c.self.inside.tracked c.args.place c.self.invariant
    (subst (λ (l : List Cell). c.args.place < length l) (sym (ap (λ (d : SeenDraft). d.cells) c.self.view_is)) c.requires.within)

pub timing_at-requires : goal.timing_at-requires
timing_at-requires c =
    let cells = c.self.inside.tracked.cells.items in
    let within : c.args.place < length cells = subst (λ (l : List Cell). c.args.place < length l) (sym (ap (λ (d : SeenDraft). d.cells) c.self.view_is)) c.requires.within in
    c.count_at-count.ensures c.self.inside.plan.now cells c.index.result.now c.self.invariant.due (slice_get_read cells (length cells) c.args.place c.index.result.now refl within c.index.ensures)

pub first_unseen-from-requires : goal.first_unseen-from-requires
first_unseen-from-requires c =
    let cells = c.self.inside.tracked.cells.items in
    let cell = c.index-cell.result.now in
    let within : c.args.place < length cells = subst (λ (l : List Cell). c.args.place < length l) (sym (ap (λ (d : SeenDraft). d.cells) c.self.view_is)) c.requires.within in
    c.count_at-count.ensures c.self.inside.plan.now cells cell c.self.invariant.due (slice_get_read cells (length cells) c.args.place cell refl within c.index-cell.ensures)
    ∙ sym (ap unseen_in c.as_slice.ensures)

pub set_fired-requires-clause-counted : goal.set_fired-requires-clause-counted
set_fired-requires-clause-counted c = λ cell found.
    let there : slice_get c.self.inside.tracked.cells.items c.args.place ≡ Some cell = ap (λ (d : SeenDraft). slice_get d.cells c.args.place) c.self.view_is ∙ found in
    subst (λ (x : Cell). x.next_index + 1 < 2 ^ 32) (read_is c.self.inside.tracked.cells.items c.args.place c.index-cell.result.now cell c.index-cell.ensures there) c.in_ok-pane-in-Some.ensures.counted

pub set_fired-requires-clause-from : goal.set_fired-requires-clause-from
set_fired-requires-clause-from c = λ cell found.
    let there : slice_get c.self.inside.tracked.cells.items c.args.place ≡ Some cell = ap (λ (d : SeenDraft). slice_get d.cells c.args.place) c.self.view_is ∙ found in
    let here : c.index-cell.result.now ≡ cell = read_is c.self.inside.tracked.cells.items c.args.place c.index-cell.result.now cell c.index-cell.ensures there in
    subst (λ (l : List Entry). AreShownTo c.first_unseen-from.result l) (c.as_slice.ensures ∙ ap (λ (x : Cell). x.entries) here) c.first_unseen-from.ensures

pub returns-in-None-clause-cells : goal.returns-in-None-clause-cells
returns-in-None-clause-cells c = λ cell found.
    let is : c.self.inside.tracked.cells.items ≡ c.args.self.now.cells = ap (λ (d : SeenDraft). d.cells) c.self.view_is in
    sym is
    ∙ unfired_cells (after_node c.args.rules.now c.args.node c.args.mark) c.self.inside.tracked.cells.items c.args.place c.index.result.now cell c.index.ensures
    (ap (λ (l : List Cell). slice_get l c.args.place) is ∙ found) (ap (λ (t : Option Timing). once_fired t c.index.result.now) (sym c.in-None.ensures))
    ∙ ap (λ (l : List Cell). slice_set l c.args.place (after_node c.args.rules.now c.args.node c.args.mark cell)) is

pub returns-in-None-clause-pane : goal.returns-in-None-clause-pane
returns-in-None-clause-pane c = λ cell found.
    let there : slice_get c.self.inside.tracked.cells.items c.args.place ≡ Some cell = ap (λ (d : SeenDraft). slice_get d.cells c.args.place) c.self.view_is ∙ found in
    fires_none c.args.rules.now c.args.node c.args.commit c.args.mark c.index.result.now cell
    (read_is c.self.inside.tracked.cells.items c.args.place c.index.result.now cell c.index.ensures there) c.in-None.ensures

pub returns-in_ok-set_fired-in-Some-clause-cells : goal.returns-in_ok-set_fired-in-Some-clause-cells
returns-in_ok-set_fired-in-Some-clause-cells c = λ cell found.
    let there : slice_get c.self.inside.tracked.cells.items c.args.place ≡ Some cell = ap (λ (d : SeenDraft). slice_get d.cells c.args.place) c.self.view_is ∙ found in
    let here : c.index.result.now ≡ cell = read_is c.self.inside.tracked.cells.items c.args.place c.index.result.now cell c.index.ensures there in
    c.in_ok-set_fired-in-Some.ensures.ok cell found
    ∙ ap (λ (t : Option Timing). slice_set c.args.self.now.cells c.args.place (once_fired t cell))
    (c.in-Some.ensures ∙ ap (firing_at c.args.rules.now c.args.node c.args.mark) here)

pub returns-in_ok-set_fired-in-Some-clause-pane : goal.returns-in_ok-set_fired-in-Some-clause-pane
returns-in_ok-set_fired-in-Some-clause-pane c = λ cell found.
    let there : slice_get c.self.inside.tracked.cells.items c.args.place ≡ Some cell = ap (λ (d : SeenDraft). slice_get d.cells c.args.place) c.self.view_is ∙ found in
    let first : c.index.result.now ≡ cell = read_is c.self.inside.tracked.cells.items c.args.place c.index.result.now cell c.index.ensures there in
    let again : c.index-cell.result.now ≡ cell = read_is c.self.inside.tracked.cells.items c.args.place c.index-cell.result.now cell c.index-cell.ensures there in
    fires_so c.args.rules.now c.args.node c.args.commit c.args.mark c.in-Some.timing _ c.index-cell.result.now cell c.in_ok-pane-in-Some.pane again
    (c.in-Some.ensures ∙ ap (firing_at c.args.rules.now c.args.node c.args.mark) (first ∙ sym again)) (ap (λ (r : GroupRules). r.trigger.mode) c.rules.view_is) c.in_ok-pane-in-Some.ensures.pane
