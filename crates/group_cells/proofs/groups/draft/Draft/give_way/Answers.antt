use Rattle.std.proofs.Common.{◌≡◌, ◌+◌, ◌<◌, ℕ, List, Some, ap, arith, length, subst, sym, ◌∙◌, refl}
use Rattle.std.proofs.Math.ListN.{length-set}
use Rattle.std.specs.Prelude.{slice_get, slice_set}
use Rattle.std.proofs.lemmas.Option.{slice_get_read}
use Rattle.beam_values.specs.declared.cell.Cell.{Cell}
use Rattle.cell_index.specs.Indexes.{IsIndexOf}
use Rattle.cell_index.specs.declared.index.CellIndex.{CellIndex}
use Rattle.group_cells.specs.Due.{AreMoments, KeepsMoments}
use Rattle.group_cells.specs.Handing.{given_way, with_entries, HasGivenWay}
use Rattle.group_cells.specs.Undoing.{SeenDraft}
use Rattle.group_cells.specs.declared.groups.due.DueCells.{DueCells}
use Rattle.group_cells.proofs.Tracking.{counted_there, handed_tracked, kept_tracked}
use Rattle.group_cells.proofs.groups.draft.Draft.give_way.Goals as goal

pub index-cell-requires : goal.index-cell-requires
index-cell-requires c = omega (arith, c.requires.before, c.requires.last, ap (λ (d : SeenDraft). length d.cells) c.self.view_is)

pub index-taker-requires : goal.index-taker-requires
index-taker-requires c = omega (arith, c.requires.last, ap (λ (d : SeenDraft). length d.cells) c.self.view_is)

pub expect_handing-requires-clause-place : goal.expect_handing-requires-clause-place
expect_handing-requires-clause-place c =
    counted_there c.self.inside.plan.now c.self.inside.tracked c.args.place c.self.invariant (omega (arith, c.requires.before, c.requires.last, ap (λ (d : SeenDraft). length d.cells) c.self.view_is))

pub expect_handing-requires-clause-last : goal.expect_handing-requires-clause-last
expect_handing-requires-clause-last c =
    counted_there c.self.inside.plan.now c.self.inside.tracked c.args.last c.self.invariant (omega (arith, c.requires.last, ap (λ (d : SeenDraft). length d.cells) c.self.view_is))

pub give_way-requires-clause-last : goal.give_way-requires-clause-last
give_way-requires-clause-last c = c.requires.last ∙ sym (ap (λ (d : SeenDraft). length d.cells) c.self.view_is)

pub give_way-requires-clause-stands : goal.give_way-requires-clause-stands
give_way-requires-clause-stands c = λ cell found. c.requires.stands cell (ap (λ (d : SeenDraft). slice_get d.cells c.args.place) (sym c.self.view_is) ∙ found)

pub invariant_of-self : goal.invariant_of-self
invariant_of-self c =
    let old = c.self.inside.tracked in
    kept_tracked c.self.inside.plan.now old (record { cells = old.cells; index = old.index; due = c.expect_handing.new.self; changes = old.changes }) c.self.invariant refl (λ cells h. h)
    c.expect_handing.ensures.kept c.expect_handing.ensures.counts refl

pub invariant_of-self-in_err-give_way : goal.invariant_of-self-in_err-give_way
invariant_of-self-in_err-give_way c =
    let old = c.self.inside.tracked in
    kept_tracked c.self.inside.plan.now old c.give_way.new.self c.self.invariant c.in_err-give_way.ensures.err
    (λ cells h. subst (λ (i : CellIndex). IsIndexOf i cells) (sym c.give_way.ensures.others.0) h)
    (subst (λ (d : DueCells). KeepsMoments old.due d) (sym c.give_way.ensures.others.1) c.expect_handing.ensures.kept)
    (ap (λ (d : DueCells). d.unseen.items) c.give_way.ensures.others.1 ∙ c.expect_handing.ensures.counts) c.give_way.ensures.undo

pub set_count-requires : goal.set_count-requires
set_count-requires c =
    subst (λ (l : List ℕ). c.args.place < length l) (sym (ap (λ (d : DueCells). d.unseen.items) c.give_way.ensures.others.1 ∙ c.expect_handing.ensures.counts))
    (counted_there c.self.inside.plan.now c.self.inside.tracked c.args.place c.self.invariant (omega (arith, c.requires.before, c.requires.last, ap (λ (d : SeenDraft). length d.cells) c.self.view_is)))

pub set_count-requires-2 : goal.set_count-requires-2
set_count-requires-2 c =
    let here : c.args.last < length c.give_way.new.self.due.unseen.items =
    subst (λ (l : List ℕ). c.args.last < length l) (sym (ap (λ (d : DueCells). d.unseen.items) c.give_way.ensures.others.1 ∙ c.expect_handing.ensures.counts))
    (counted_there c.self.inside.plan.now c.self.inside.tracked c.args.last c.self.invariant (omega (arith, c.requires.last, ap (λ (d : SeenDraft). length d.cells) c.self.view_is))) in
    subst (λ (n : ℕ). c.args.last < n) (sym (ap length c.set_count.ensures.counts ∙ length-set c.give_way.new.self.due.unseen.items c.args.place 0)) here

pub invariant_of-self-2 : goal.invariant_of-self-2
invariant_of-self-2 c =
    let plan = c.self.inside.plan.now in
    let old = c.self.inside.tracked in
    let cells = old.cells.items in
    let cell = c.index-cell.result.now in
    let taker = c.index-taker.result.now in
    let place = c.args.place in
    let last_ = c.args.last in
    let ends : last_ + 1 ≡ length cells = c.requires.last ∙ sym (ap (λ (d : SeenDraft). length d.cells) c.self.view_is) in
    let found : slice_get cells place ≡ Some cell = slice_get_read cells (length cells) place cell refl (omega (arith, c.requires.before, ends)) c.index-cell.ensures in
    let there : slice_get cells last_ ≡ Some taker = slice_get_read cells (length cells) last_ taker refl (omega (arith, ends)) c.index-taker.ensures in
    let after : List Cell = slice_set (slice_set cells place (given_way c.args.span cell)) last_ (with_entries cell.entries taker) in
    let moments : AreMoments plan c.give_way.new.self.due after =
    subst (λ (d : DueCells). AreMoments plan d after) (sym c.give_way.ensures.others.1)
    (c.in_ok-count.ensures.ok c.args.span cells c.self.invariant.due found there c.requires.before) in
    handed_tracked plan old (record { cells = c.give_way.new.self.cells; index = c.give_way.new.self.index; due = c.set_count-2.new.self; changes = c.give_way.new.self.changes }) c.args.span place last_ cell taker
    c.in_ok-count.count c.self.invariant c.requires.before ends found there c.in_ok-give_way.ensures.ok c.give_way.ensures.others.0
    (c.set_count-2.ensures.kept plan after (c.set_count.ensures.kept plan after moments))
    (λ p l h. c.set_count-2.ensures.kept p l (c.set_count.ensures.kept p l (subst (λ (d : DueCells). AreMoments p d l) (sym c.give_way.ensures.others.1) (c.expect_handing.ensures.kept p l h))))
    (c.set_count-2.ensures.counts ∙ ap (λ (l : List ℕ). slice_set l last_ c.in_ok-count.count) c.set_count.ensures.counts
    ∙ ap (λ (l : List ℕ). slice_set (slice_set l place 0) last_ c.in_ok-count.count) (ap (λ (d : DueCells). d.unseen.items) c.give_way.ensures.others.1 ∙ c.expect_handing.ensures.counts))
    (c.in_ok-count.ensures.count cells c.self.invariant.due found there) c.give_way.ensures.undo

pub returns-clause-ok : goal.returns-clause-ok
returns-clause-ok c =
    subst (λ (l : List Cell). HasGivenWay c.args.span c.args.place c.args.last l c.give_way.new.self.cells.items) (ap (λ (d : SeenDraft). d.cells) c.self.view_is) c.in_ok-give_way.ensures.ok

pub returns-clause-same : goal.returns-clause-same
returns-clause-same c = (ap (λ (d : SeenDraft). d.plan) c.self.view_is, c.give_way.ensures.undo ∙ ap (λ (d : SeenDraft). d.begun) c.self.view_is)
