use Rattle.std.proofs.Common.{◌≡◌, ℕ, [], ◌∷◌, List, Option, Some, ap, length, refl, rules, subst, sym, ◌∙◌}
use Rattle.std.proofs.lemmas.Result.{on_ok_weaker}
use Rattle.std.specs.Prelude.{IsNone, IsSome, OnOk}
use Rattle.beam_values.specs.Grouping.{key_of}
use Rattle.beam_values.specs.declared.cell.Cell.{Cell}
use Rattle.cell_index.specs.Places.{place_of}
use Rattle.cell_index.specs.declared.index_key.CellKey.{CellKey}
use Rattle.group_cells.specs.Arrivals.{arrived}
use Rattle.group_cells.specs.Placing.{fresh_cell}
use Rattle.group_cells.specs.Undoing.{SeenDraft}
use Rattle.group_cells.proofs.Taking.{first_taken, place_within, taken_at}
use Rattle.group_cells.proofs.Tracking.{kept_tracked}
use Rattle.group_cells.proofs.groups.draft.Draft.take_by_map.Goals as goal

pub invariant_of-self : goal.invariant_of-self
invariant_of-self c =
    let old = c.self.inside.tracked in
    kept_tracked c.self.inside.plan.now old (record { cells = old.cells; index = c.find_or_add.new.self; due = old.due; changes = old.changes }) c.self.invariant refl c.in_err-found.ensures.err (λ p l h. h) refl refl

pub invariant_of-self-in-Some : goal.invariant_of-self-in-Some
invariant_of-self-in-Some c =
    let old = c.self.inside.tracked in
    let known : IsSome c.in_ok-found.found = subst (λ (o : Option ℕ). IsSome o) (sym c.in-Some.is) refl in
    kept_tracked c.self.inside.plan.now old (record { cells = old.cells; index = c.find_or_add.new.self; due = old.due; changes = old.changes }) c.self.invariant refl (c.in_ok-found.ensures.kept known) (λ p l h. h) refl refl

pub put-requires-clause-within : goal.put-requires-clause-within
put-requires-clause-within c =
    let cells = c.self.inside.tracked.cells.items in
    let key = c.in_ok-key.key in
    place_within key.node key.key key.span cells c.in-Some.place (sym (c.in_ok-found.ensures.found cells c.self.invariant.index) ∙ c.in-Some.is)

pub returns-in-Some-clause-ok : goal.returns-in-Some-clause-ok
returns-in-Some-clause-ok c =
    let cells = c.self.inside.tracked.cells.items in
    let at : Some c.in-Some.place ≡ place_of c.args.node (key_of c.args.entry.element) c.args.entry.element.span cells =
    sym c.in-Some.is ∙ c.in_ok-found.ensures.found cells c.self.invariant.index ∙ ap (λ (k : CellKey). place_of k.node k.key k.span cells) c.in_ok-key.ensures in
    subst (λ (l : List Cell). OnOk c.put.result (c.put.new.self.cells ≡ arrived c.args.node (key_of c.args.entry.element) c.args.entry.element.span c.args.entry l)) (ap (λ (d : SeenDraft). d.cells) c.self.view_is)
    (on_ok_weaker c.put.result (taken_at c.args.node (key_of c.args.entry.element) c.args.entry.element.span c.args.entry cells c.put.new.self.cells c.in-Some.place at) c.put.ensures.ok)

pub returns-in-Some-clause-same : goal.returns-in-Some-clause-same
returns-in-Some-clause-same c = (c.put.ensures.same.0 ∙ ap (λ (d : SeenDraft). d.plan) c.self.view_is, c.put.ensures.same.1 ∙ ap (λ (d : SeenDraft). d.begun) c.self.view_is)

pub open_first-requires-clause-place : goal.open_first-requires-clause-place
open_first-requires-clause-place c = search rules

pub open_first-requires-clause-index : goal.open_first-requires-clause-index
open_first-requires-clause-index c = λ cell nodes keys spans.
    let new : IsNone c.in_ok-found.found = subst (λ (o : Option ℕ). IsNone o) (sym c.in-None.is) refl in
    let next : c.in_ok-next.next ≡ length c.self.inside.tracked.cells.items = search rules in
    c.in_ok-found.ensures.added new c.self.inside.tracked.cells.items cell c.self.invariant.index next nodes keys spans

pub returns-in-None-clause-ok : goal.returns-in-None-clause-ok
returns-in-None-clause-ok c =
    let cells = c.self.inside.tracked.cells.items in
    let key = c.in_ok-key.key in
    subst (λ (l : List Cell). OnOk c.open_first.result (c.open_first.new.self.cells.items ≡ arrived c.args.node (key_of c.args.entry.element) c.args.entry.element.span c.args.entry l))
    (ap (λ (d : SeenDraft). d.cells) c.self.view_is)
    (on_ok_weaker c.open_first.result
    (first_taken key c.args.node c.args.entry cells c.open_first.new.self.cells.items (fresh_cell key.node key.key key.span (c.args.entry ∷ [])) c.in_ok-key.ensures refl
    (sym c.in-None.is ∙ c.in_ok-found.ensures.found cells c.self.invariant.index))
    c.open_first.ensures.ok)

pub returns-in-None-clause-same : goal.returns-in-None-clause-same
returns-in-None-clause-same c = (ap (λ (d : SeenDraft). d.plan) c.self.view_is, c.open_first.ensures.undo ∙ ap (λ (d : SeenDraft). d.begun) c.self.view_is)
