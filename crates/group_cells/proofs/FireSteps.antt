-- One cell after another fires where it lies.
use Rattle.std.proofs.Common.{◌≡◌, ℕ, ◌+◌, ◌<◌, ℤ, List, [], ◌∷◌, ◌++◌, length, get_or, take, map, Option, Some, None, refl, sym, ap, ◌∙◌, subst}
use Rattle.std.proofs.Math.ListN.{set}
use Rattle.std.specs.Prelude.{option_to_list, slice_get, slice_set}
use Rattle.std.proofs.lemmas.Option.{get_or_from_slice_get}
use Rattle.beam_values.specs.declared.cell.Cell.{Cell}
use Rattle.beam_values.specs.declared.cell.Pane.{Pane}
use Rattle.beam_values.specs.declared.element.Timing.{Timing}
use Rattle.beam_values.specs.declared.plan.Mode.{Mode}
use Rattle.beam_model.specs.Panes.{GroupRules, taken_entry, IsFiredAs, IsPaneOf}
use Rattle.group_cells.specs.Cells.{entries_held}
use Rattle.group_cells.specs.Plain.{after_node, firing_at, AreFired, FiresAs}
use Rattle.group_cells.proofs.FiredGroups.{fired_more}
use Rattle.group_cells.proofs.Taking.{with_cell}
use Rattle.group_cells.proofs.Undoing.{set_back}
use Rattle.group_cells.proofs.Writes.{written, written_more, take_written}

pub read_is : (cells : List Cell) (place : ℕ) (r cell : Cell) → r ≡ get_or cells place r → slice_get cells place ≡ Some cell → r ≡ cell
read_is cells place r cell is found = is ∙ get_or_from_slice_get cells place cell r found

pub unfired_cells : (f : Cell → Cell) (cells : List Cell) (place : ℕ) (r cell : Cell) → r ≡ get_or cells place r → slice_get cells place ≡ Some cell → f r ≡ r → cells ≡ slice_set cells place (f cell)
unfired_cells f cells place r cell is found same =
    let here = read_is cells place r cell is found in
    sym (ap (set cells place) (ap f (sym here) ∙ same ∙ here) ∙ set_back cells place cell found)

pub fires_none : (rules : GroupRules) (node c : ℕ) (mark : ℤ) (r cell : Cell) → r ≡ cell → None ≡ firing_at rules node mark r → FiresAs rules node c mark cell []
fires_none rules node c mark r cell here fires =
    subst (λ (x : Cell). FiresAs rules node c mark x []) here
    (subst (λ (t : Option Timing). IsFiredAs r.node r.key c r.span r.next_index (map (taken_entry r.node) (entries_held rules.trigger.mode r.entries)) t []) fires refl)

pub fires_so : (rules : GroupRules) (node c : ℕ) (mark : ℤ) (timing : Timing) (mode : Mode) (r cell : Cell) (pane : Pane) → r ≡ cell → Some timing ≡ firing_at rules node mark r → mode ≡ rules.trigger.mode
    → IsPaneOf r.node r.key c r.span timing r.next_index (map (taken_entry r.node) (entries_held mode r.entries)) pane → FiresAs rules node c mark cell (pane ∷ [])
fires_so rules node c mark timing mode r cell pane here fires same is =
    subst (λ (x : Cell). FiresAs rules node c mark x (pane ∷ [])) here
    (subst (λ (t : Option Timing). IsFiredAs r.node r.key c r.span r.next_index (map (taken_entry r.node) (entries_held rules.trigger.mode r.entries)) t (pane ∷ [])) fires
    (pane, refl, subst (λ (m : Mode). IsPaneOf r.node r.key c r.span timing r.next_index (map (taken_entry r.node) (entries_held m r.entries)) pane) same is))

pub fired_step : (rules : GroupRules) (node c : ℕ) (mark : ℤ) (xs items new : List Cell) (i : ℕ) (panes after : List Pane) (pane : Option Pane) → i < length items
    → items ≡ written (after_node rules node mark) xs i → AreFired rules node c mark (take i xs) panes
    → ((cell : Cell) → slice_get items i ≡ Some cell → new ≡ slice_set items i (after_node rules node mark cell))
    → ((cell : Cell) → slice_get items i ≡ Some cell → FiresAs rules node c mark cell (option_to_list pane))
    → after ≡ panes ++ option_to_list pane
    → (new ≡ written (after_node rules node mark) xs (i + 1)) × AreFired rules node c mark (take (i + 1) xs) after
fired_step rules node c mark xs items new i panes after pane within inv fired made fires pushed = with_cell items i within (λ cell found.
    let f = after_node rules node mark in
    let is : cell ≡ get_or items i cell = sym (get_or_from_slice_get items i cell cell found) in (
      made cell found ∙ written_more f xs items i cell (f cell) within inv is refl,
      subst (λ (l : List Cell). AreFired rules node c mark l after) (take_written f xs items i cell within inv is)
          (subst (λ (l : List Pane). AreFired rules node c mark (take i xs ++ cell ∷ []) l) (sym pushed)
          (fired_more rules node c mark (take i xs) panes cell (option_to_list pane) fired (fires cell found))),
    ))
