-- What takes and fails leave of key cells.
use Rattle.std.proofs.Common.{◌≡◌, ℕ, Bool, true, false, cond, List, [], ◌∷◌, ◌++◌, map, Option, Some, None, refl, sym, ap, ◌∙◌}
use Rattle.std.specs.Prelude.{slice_get}
use Rattle.std.specs.List.{filter, flat_map}
use Rattle.beam_values.specs.Intervals.{Interval}
use Rattle.beam_values.specs.declared.arrival.Arrival.{Arrival}
use Rattle.beam_values.specs.declared.value.Value.{Value}
use Rattle.stateful_core.specs.Cells.{KeyCell, cell_arrivals, cell_holds}
use Rattle.stateful_core.specs.Facts.{came_to, of_key}
use Rattle.stateful_core.specs.Lasting.{left_of}
use Rattle.stateful_core.specs.Leaving.{AreLeftAs}
use Rattle.stateful_core.specs.Taking.{change, set_by, tried, with_job}
use Rattle.stateful_core.proofs.Came.{map_set_same}

map_changed : {X : Type 0} (g : KeyCell → X) (f : KeyCell → KeyCell) (at : ℕ) (cells : List KeyCell) → ((cell : KeyCell) → g (f cell) ≡ g cell) → map g (change f at cells) ≡ map g cells
map_changed {X} g f at cells same = by (slice_get cells at) refl
  where
    by : (found : Option KeyCell) → slice_get cells at ≡ found → map g (set_by f found at cells) ≡ map g cells
    by None e = refl
    by (Some cell) e = map_set_same g cells at cell (f cell) e (same cell)

flat_of_map : {X : Type 0} (g : KeyCell → List X) (cells : List KeyCell) → flat_map g cells ≡ flat_map (λ (l : List X). l) (map g cells)
flat_of_map g [] = refl
flat_of_map g (cell ∷ cells) = ap (λ l. g cell ++ l) (flat_of_map g cells)

flat_changed : {X : Type 0} (g : KeyCell → List X) (f : KeyCell → KeyCell) (at : ℕ) (cells : List KeyCell) → ((cell : KeyCell) → g (f cell) ≡ g cell)
    → flat_map g (change f at cells) ≡ flat_map g cells
flat_changed {X} g f at cells same =
    flat_of_map g (change f at cells) ∙ ap (flat_map (λ (l : List X). l)) (map_changed g f at cells same) ∙ sym (flat_of_map g cells)

-- what came to the cells of one node, key and window, cell by cell
abbrev came_in : ℕ → Value → Interval → KeyCell → List Arrival
came_in node key span cell = cond (of_key node key span cell) (cell_arrivals cell) []

came_by_cell : (node : ℕ) (key : Value) (span : Interval) (cells : List KeyCell) → came_to node key span cells ≡ flat_map (came_in node key span) cells
came_by_cell node key span [] = refl
came_by_cell node key span (cell ∷ cells) = by (of_key node key span cell) (came_by_cell node key span cells)
  where
    by : (b : Bool) → came_to node key span cells ≡ flat_map (came_in node key span) cells
        → flat_map cell_arrivals (cond b (cell ∷ filter (of_key node key span) cells) (filter (of_key node key span) cells))
        ≡ cond b (cell_arrivals cell) [] ++ flat_map (came_in node key span) cells
    by true h = ap (λ l. cell_arrivals cell ++ l) h
    by false h = h

pub take_leaves : (bundle at : ℕ) (cells : List KeyCell) → AreLeftAs cells (change (with_job bundle) at cells)
take_leaves bundle at cells = record {
  logs = map_changed (λ (cell : KeyCell). cell.log) (with_job bundle) at cells (λ cell. refl);
  came = flat_changed cell_arrivals (with_job bundle) at cells (λ cell. refl);
  to = λ node key span.
      came_by_cell node key span (change (with_job bundle) at cells) ∙ flat_changed (came_in node key span) (with_job bundle) at cells (λ cell. refl)
      ∙ sym (came_by_cell node key span cells);
  holds = flat_changed cell_holds (with_job bundle) at cells (λ cell. refl);
  left = map_changed left_of (with_job bundle) at cells (λ cell. refl);
}

pub give_back_leaves : (at : ℕ) (cells : List KeyCell) → AreLeftAs cells (change tried at cells)
give_back_leaves at cells = record {
  logs = map_changed (λ (cell : KeyCell). cell.log) tried at cells (λ cell. refl);
  came = flat_changed cell_arrivals tried at cells (λ cell. refl);
  to = λ node key span.
      came_by_cell node key span (change tried at cells) ∙ flat_changed (came_in node key span) tried at cells (λ cell. refl)
      ∙ sym (came_by_cell node key span cells);
  holds = flat_changed cell_holds tried at cells (λ cell. refl);
  left = map_changed left_of tried at cells (λ cell. refl);
}
