use Rattle.std.proofs.Common.{◌≡◌, ◌<◌, ℕ, List, Some, ap, arith, length, refl, subst, sym, ◌∙◌}
use Rattle.std.specs.Prelude.{slice_get, slice_set}
use Rattle.std.proofs.lemmas.Option.{slice_get_read}
use Rattle.beam_values.specs.declared.cell.Cell.{Cell}
use Rattle.cell_index.specs.Indexes.{IsIndexOf}
use Rattle.cell_index.specs.declared.index.CellIndex.{CellIndex}
use Rattle.group_cells.specs.Due.{AreMoments, KeepsMoments}
use Rattle.group_cells.specs.Placing.{with_entry}
use Rattle.group_cells.specs.Undoing.{SeenDraft}
use Rattle.group_cells.specs.declared.groups.due.DueCells.{DueCells}
use Rattle.group_cells.proofs.DueSteps.{unseen_more}
use Rattle.group_cells.proofs.Tracking.{counted_there, kept_tracked, set_tracked}
use Rattle.group_cells.proofs.groups.draft.Draft.put.Goals as goal

pub index-cell-requires : goal.index-cell-requires
index-cell-requires c = omega (arith, c.requires.within, ap (λ (d : SeenDraft). length d.cells) c.self.view_is, c.self.inside.tracked.cells.ok)

pub expect_entry-requires : goal.expect_entry-requires
expect_entry-requires c = counted_there c.self.inside.plan.now c.self.inside.tracked c.args.place c.self.invariant
    (subst (λ (l : List Cell). c.args.place < length l) (sym (ap (λ (d : SeenDraft). d.cells) c.self.view_is)) c.requires.within)

pub put-requires : goal.put-requires
put-requires c = subst (λ (l : List Cell). c.args.place < length l) (sym (ap (λ (d : SeenDraft). d.cells) c.self.view_is)) c.requires.within

pub invariant_of-self : goal.invariant_of-self
invariant_of-self c =
    let old = c.self.inside.tracked in
    kept_tracked c.self.inside.plan.now old (record { cells = old.cells; index = old.index; due = c.expect_entry.new.self; changes = old.changes }) c.self.invariant refl (λ cells h. h)
    c.expect_entry.ensures.kept c.expect_entry.ensures.counts refl

pub invariant_of-self-in_err-put : goal.invariant_of-self-in_err-put
invariant_of-self-in_err-put c =
    let old = c.self.inside.tracked in
    kept_tracked c.self.inside.plan.now old c.put.new.self c.self.invariant c.in_err-put.ensures.err
    (λ cells h. subst (λ (i : CellIndex). IsIndexOf i cells) (sym c.put.ensures.others.0) h)
    (subst (λ (d : DueCells). KeepsMoments old.due d) (sym c.put.ensures.others.1) c.expect_entry.ensures.kept)
    (ap (λ (d : DueCells). d.unseen.items) c.put.ensures.others.1 ∙ c.expect_entry.ensures.counts) c.put.ensures.undo

pub set_count-requires : goal.set_count-requires
set_count-requires c =
    let within : c.args.place < length c.self.inside.tracked.cells.items = subst (λ (l : List Cell). c.args.place < length l) (sym (ap (λ (d : SeenDraft). d.cells) c.self.view_is)) c.requires.within in
    subst (λ (l : List ℕ). c.args.place < length l) (sym (ap (λ (d : DueCells). d.unseen.items) c.put.ensures.others.1 ∙ c.expect_entry.ensures.counts))
    (counted_there c.self.inside.plan.now c.self.inside.tracked c.args.place c.self.invariant within)

pub invariant_of-self-2 : goal.invariant_of-self-2
invariant_of-self-2 c =
    let plan = c.self.inside.plan.now in
    let old = c.self.inside.tracked in
    let cell = c.index-cell.result.now in
    let place = c.args.place in
    let entry = c.args.entry in
    let within : place < length old.cells.items = subst (λ (l : List Cell). place < length l) (sym (ap (λ (d : SeenDraft). d.cells) c.self.view_is)) c.requires.within in
    let found : slice_get old.cells.items place ≡ Some cell = slice_get_read old.cells.items (length old.cells.items) place cell refl within c.index-cell.ensures in
    let moments : AreMoments plan c.put.new.self.due (slice_set old.cells.items place (with_entry entry cell)) =
    subst (λ (d : DueCells). AreMoments plan d (slice_set old.cells.items place (with_entry entry cell))) (sym c.put.ensures.others.1)
    (c.in_ok-count.ensures.ok old.cells.items entry c.self.invariant.due found c.requires.unseen) in
    set_tracked plan old (record { cells = c.put.new.self.cells; index = c.put.new.self.index; due = c.set_count.new.self; changes = c.put.new.self.changes }) place cell (with_entry entry cell)
    c.in_ok-count.count c.self.invariant found (refl, refl, refl) (c.in_ok-put.ensures.ok cell found) c.put.ensures.others.0
    (c.set_count.ensures.kept plan (slice_set old.cells.items place (with_entry entry cell)) moments)
    (λ p l h. c.set_count.ensures.kept p l (subst (λ (d : DueCells). AreMoments p d l) (sym c.put.ensures.others.1) (c.expect_entry.ensures.kept p l h)))
    (c.set_count.ensures.counts ∙ ap (λ (l : List ℕ). slice_set l place c.in_ok-count.count) (ap (λ (d : DueCells). d.unseen.items) c.put.ensures.others.1 ∙ c.expect_entry.ensures.counts))
    (c.in_ok-count.ensures.count old.cells.items c.self.invariant.due found ∙ sym (unseen_more cell.entries entry c.requires.unseen)) c.put.ensures.undo

pub returns-clause-ok : goal.returns-clause-ok
returns-clause-ok c = λ cell found.
    let is : c.self.inside.tracked.cells.items ≡ c.args.self.now.cells = ap (λ (d : SeenDraft). d.cells) c.self.view_is in
    c.in_ok-put.ensures.ok cell (ap (λ (l : List Cell). slice_get l c.args.place) is ∙ found) ∙ ap (λ (l : List Cell). slice_set l c.args.place (with_entry c.args.entry cell)) is

pub returns-clause-same : goal.returns-clause-same
returns-clause-same c = (ap (λ (d : SeenDraft). d.plan) c.self.view_is, c.put.ensures.undo ∙ ap (λ (d : SeenDraft). d.begun) c.self.view_is)
