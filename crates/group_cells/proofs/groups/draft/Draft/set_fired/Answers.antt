use Rattle.std.proofs.Common.{◌≡◌, ◌<◌, ℕ, List, Some, ap, arith, length, refl, rules, subst, sym, ◌∙◌}
use Rattle.std.specs.Prelude.{slice_get, slice_set}
use Rattle.std.proofs.lemmas.Option.{slice_get_read}
use Rattle.beam_values.specs.declared.cell.Cell.{Cell}
use Rattle.cell_index.specs.Indexes.{IsIndexOf}
use Rattle.cell_index.specs.declared.index.CellIndex.{CellIndex}
use Rattle.group_cells.specs.Cells.{once_fired}
use Rattle.group_cells.specs.Due.{AreMoments, KeepsMoments}
use Rattle.group_cells.specs.FiredUpTo.{CanFireAt, HasFiredAt, IsShownAt}
use Rattle.group_cells.specs.Undoing.{SeenDraft}
use Rattle.group_cells.specs.declared.groups.due.DueCells.{DueCells}
use Rattle.group_cells.proofs.Settling.{all_shown}
use Rattle.group_cells.proofs.Tracking.{counted_there, kept_tracked, set_tracked}
use Rattle.group_cells.proofs.groups.draft.Draft.set_fired.Goals as goal

pub index-cell-requires : goal.index-cell-requires
index-cell-requires c = omega (arith, c.requires.within, ap (λ (d : SeenDraft). length d.cells) c.self.view_is, c.self.inside.tracked.cells.ok)

pub expect_firing-requires : goal.expect_firing-requires
expect_firing-requires c =
    let same : c.in_ok-at.at ≡ c.args.place = search rules in
    subst (λ (p : ℕ). p < length c.self.inside.tracked.due.unseen.items) (sym same)
    (counted_there c.self.inside.plan.now c.self.inside.tracked c.args.place c.self.invariant
    (subst (λ (l : List Cell). c.args.place < length l) (sym (ap (λ (d : SeenDraft). d.cells) c.self.view_is)) c.requires.within))

pub set_fired-requires : goal.set_fired-requires
set_fired-requires c =
    let same : c.in_ok-at.at ≡ c.args.place = search rules in
    let is : c.args.self.now.cells ≡ c.self.inside.tracked.cells.items = sym (ap (λ (d : SeenDraft). d.cells) c.self.view_is) in
    record {
      within = subst (λ (p : ℕ). p < length c.self.inside.tracked.cells.items) (sym same) (subst (λ (l : List Cell). c.args.place < length l) is c.requires.within);
      counted = subst (λ (p : ℕ). CanFireAt p c.self.inside.tracked.cells.items) (sym same) (subst (λ (l : List Cell). CanFireAt c.args.place l) is c.requires.counted);
      from = subst (λ (p : ℕ). IsShownAt c.args.from p c.self.inside.tracked.cells.items) (sym same) (subst (λ (l : List Cell). IsShownAt c.args.from c.args.place l) is c.requires.from);
    }

pub invariant_of-self : goal.invariant_of-self
invariant_of-self c =
    let old = c.self.inside.tracked in
    kept_tracked c.self.inside.plan.now old (record { cells = old.cells; index = old.index; due = c.expect_firing.new.self; changes = old.changes }) c.self.invariant refl (λ cells h. h)
    c.expect_firing.ensures.kept c.expect_firing.ensures.counts refl

pub invariant_of-self-in_err-set_fired : goal.invariant_of-self-in_err-set_fired
invariant_of-self-in_err-set_fired c =
    let old = c.self.inside.tracked in
    kept_tracked c.self.inside.plan.now old c.set_fired.new.self c.self.invariant c.in_err-set_fired.ensures.err
    (λ cells h. subst (λ (i : CellIndex). IsIndexOf i cells) (sym c.set_fired.ensures.others.0) h)
    (subst (λ (d : DueCells). KeepsMoments old.due d) (sym c.set_fired.ensures.others.1) c.expect_firing.ensures.kept)
    (ap (λ (d : DueCells). d.unseen.items) c.set_fired.ensures.others.1 ∙ c.expect_firing.ensures.counts) c.set_fired.ensures.undo

pub set_count-requires : goal.set_count-requires
set_count-requires c =
    let same : c.in_ok-at.at ≡ c.args.place = search rules in
    let within : c.args.place < length c.self.inside.tracked.cells.items = subst (λ (l : List Cell). c.args.place < length l) (sym (ap (λ (d : SeenDraft). d.cells) c.self.view_is)) c.requires.within in
    subst (λ (p : ℕ). p < length c.set_fired.new.self.due.unseen.items) (sym same)
    (subst (λ (l : List ℕ). c.args.place < length l) (sym (ap (λ (d : DueCells). d.unseen.items) c.set_fired.ensures.others.1 ∙ c.expect_firing.ensures.counts))
    (counted_there c.self.inside.plan.now c.self.inside.tracked c.args.place c.self.invariant within))

pub invariant_of-self-2 : goal.invariant_of-self-2
invariant_of-self-2 c =
    let plan = c.self.inside.plan.now in
    let old = c.self.inside.tracked in
    let cell = c.index-cell.result.now in
    let place = c.args.place in
    let fired : Cell = once_fired (Some c.args.timing) cell in
    let same : c.in_ok-at.at ≡ place = search rules in
    let within : place < length old.cells.items = subst (λ (l : List Cell). place < length l) (sym (ap (λ (d : SeenDraft). d.cells) c.self.view_is)) c.requires.within in
    let found : slice_get old.cells.items place ≡ Some cell = slice_get_read old.cells.items (length old.cells.items) place cell refl within c.index-cell.ensures in
    let at : slice_get old.cells.items c.in_ok-at.at ≡ Some cell = ap (slice_get old.cells.items) same ∙ found in
    let moments : AreMoments plan c.set_fired.new.self.due (slice_set old.cells.items c.in_ok-at.at fired) =
    subst (λ (d : DueCells). AreMoments plan d (slice_set old.cells.items c.in_ok-at.at fired)) (sym c.set_fired.ensures.others.1)
    (c.in_ok-expect_firing.ensures.ok old.cells.items c.self.invariant.due at) in
    set_tracked plan old (record { cells = c.set_fired.new.self.cells; index = c.set_fired.new.self.index; due = c.set_count.new.self; changes = c.set_fired.new.self.changes }) c.in_ok-at.at cell fired
    0 c.self.invariant at (refl, refl, refl) (c.in_ok-set_fired.ensures.ok cell at) c.set_fired.ensures.others.0
    (c.set_count.ensures.kept plan (slice_set old.cells.items c.in_ok-at.at fired) moments)
    (λ p l h. c.set_count.ensures.kept p l (subst (λ (d : DueCells). AreMoments p d l) (sym c.set_fired.ensures.others.1) (c.expect_firing.ensures.kept p l h)))
    (c.set_count.ensures.counts ∙ ap (λ (l : List ℕ). slice_set l c.in_ok-at.at 0) (ap (λ (d : DueCells). d.unseen.items) c.set_fired.ensures.others.1 ∙ c.expect_firing.ensures.counts))
    (sym (all_shown cell.entries)) c.set_fired.ensures.undo

pub returns-clause-ok : goal.returns-clause-ok
returns-clause-ok c =
    let same : c.in_ok-at.at ≡ c.args.place = search rules in
    subst (λ (l : List Cell). HasFiredAt c.args.place c.args.timing l c.set_fired.new.self.cells.items) (ap (λ (d : SeenDraft). d.cells) c.self.view_is)
    (subst (λ (p : ℕ). HasFiredAt p c.args.timing c.self.inside.tracked.cells.items c.set_fired.new.self.cells.items) same c.in_ok-set_fired.ensures.ok)

pub returns-clause-same : goal.returns-clause-same
returns-clause-same c = (ap (λ (d : SeenDraft). d.plan) c.self.view_is, c.set_fired.ensures.undo ∙ ap (λ (d : SeenDraft). d.begun) c.self.view_is)
