use Rattle.std.proofs.Common.{List, ℕ, ap, subst, sym, ◌∙◌}
use Rattle.std.specs.List.Sorted.{IsNonDecreasing}
use Rattle.std.proofs.lemmas.List.Sorted.{IsNonDecreasingBy-from_sort}
use Rattle.beam_values.specs.declared.cell.Cell.{Cell}
use Rattle.beam_values.specs.declared.plan.Plan.{Plan}
use Rattle.beam_model.specs.Panes.{trigger_of}
use Rattle.group_cells.specs.FiredUpTo.{AreAllDue}
use Rattle.group_cells.specs.Undoing.{SeenDraft}
use Rattle.group_cells.proofs.FiredPlaces.{all_listed, upto_final}
use Rattle.group_cells.proofs.groups.draft.Draft.fire_cells.Goals as goal

pub fire_places-requires-clause-ascending : goal.fire_places-requires-clause-ascending
fire_places-requires-clause-ascending c =
    subst (λ (l : List ℕ). IsNonDecreasing l) (sym c.as_slice.ensures.value) (IsNonDecreasingBy-from_sort (λ (x : ℕ). x) c.sort_unstable.new.self.items c.sort_unstable.ensures.sorted)

pub fire_places-requires-clause-all : goal.fire_places-requires-clause-all
fire_places-requires-clause-all c =
    let plan = c.self.inside.plan.now in
    subst (λ (l : List ℕ). AreAllDue c.args.rules.now c.args.node c.args.mark c.args.self.now.cells l) (sym c.as_slice.ensures.value)
    (subst (λ (l : List Cell). AreAllDue c.args.rules.now c.args.node c.args.mark l c.sort_unstable.new.self.items) (ap (λ (d : SeenDraft). d.cells) c.self.view_is)
    (all_listed plan c.args.rules.now c.args.node c.args.mark c.self.inside.tracked.due c.self.inside.tracked.cells.items c.in_ok-places.places.items c.sort_unstable.new.self.items
    (c.requires.trigger ∙ ap (λ (p : Plan). trigger_of p c.args.node) (sym (ap (λ (d : SeenDraft). d.plan) c.self.view_is)))
    c.ms-reached.ensures.within.0 (upto_final c.args.mark c.ms-reached.ensures.within) c.self.invariant.due c.cells_are_due_from_their_next_mark_on.ensures c.the_next_mark_is_the_least.ensures
    c.in_ok-places.ensures c.sort_unstable.ensures.permutation))
