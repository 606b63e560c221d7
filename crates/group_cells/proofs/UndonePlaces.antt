-- Undoing a change leaves where the cells are found, but where one was opened.
use Rattle.std.proofs.Common.{◌≡◌, ℕ, zero, suc, ◌-◌, ◌≤◌, List, [], ◌∷◌, length, map, Option, Some, None, refl, ap, ◌∙◌, arith}
use Rattle.std.proofs.Math.ListN.{set}
use Rattle.std.specs.Prelude.{slice_get, slice_set, unwrap_or}
use Rattle.std.specs.Option.{option_map}
use Rattle.std.proofs.lemmas.List.{length-map, length-take}
use Rattle.beam_values.specs.declared.cell.Cell.{Cell}
use Rattle.beam_values.specs.declared.cell.Entry.{Entry}
use Rattle.group_cells.specs.AtPlaces.{at_place, changed_at}
use Rattle.group_cells.specs.Commits.{cell_place}
use Rattle.group_cells.specs.Handing.{given_entries, standing_with, without_given}
use Rattle.group_cells.specs.Undoing.{undone, undone_all, without_last}
use Rattle.group_cells.specs.Unfiring.{unfired}
use Rattle.group_cells.specs.declared.groups.draft.Change.{Change}
use Rattle.group_cells.specs.declared.groups.draft.Change.TheVariants.{Opened, Put, Fired, GaveWay}
use Rattle.group_cells.specs.declared.groups.fired.Unfired.{Unfired}
use Rattle.group_cells.specs.declared.groups.handing.Given.{Given}

places_set : (cells : List Cell) (place : ℕ) (cell other : Cell) → slice_get cells place ≡ Some cell → cell_place other ≡ cell_place cell
    → map cell_place (set cells place other) ≡ map cell_place cells
places_set [] place cell other found same = refl
places_set (x ∷ xs) zero cell other found same = let it : cell ≡ x = cc in ap (λ p. p ∷ map cell_place xs) (same ∙ ap cell_place it)
places_set (x ∷ xs) (suc place) cell other found same = ap (λ l. cell_place x ∷ l) (places_set xs place cell other found same)

places_changed : (f : Cell → Cell) → ((cell : Cell) → cell_place (f cell) ≡ cell_place cell) → (cells : List Cell) (place : ℕ)
    → map cell_place (changed_at f cells place) ≡ map cell_place cells
places_changed f keeps cells place = by (slice_get cells place) refl
  where
    by : (o : Option Cell) → slice_get cells place ≡ o → map cell_place (unwrap_or (option_map (λ cell. slice_set cells place (f cell)) o) cells) ≡ map cell_place cells
    by None e = refl
    by (Some cell) e = places_set cells place cell (f cell) e (keeps cell)

pub put_places : (cells : List Cell) (place : ℕ) → map cell_place (undone (Put place) cells) ≡ map cell_place cells
put_places cells place = places_changed without_last (λ cell. refl) cells place

pub fired_places : (cells : List Cell) (place : ℕ) (before : Unfired) → map cell_place (undone (Fired place before) cells) ≡ map cell_place cells
fired_places cells place before = places_changed (unfired before) (λ cell. refl) cells place

pub given_places : (cells : List Cell) (place : ℕ) (given : Given) → map cell_place (undone (GaveWay place given) cells) ≡ map cell_place cells
given_places cells place given =
    let back : List Entry = at_place (λ (cell : Cell). given_entries given cell.entries) [] cells (length cells - 1) in
    places_changed (standing_with back) (λ cell. refl) (changed_at (without_given given) cells (length cells - 1)) place
    ∙ places_changed (without_given given) (λ cell. refl) cells (length cells - 1)

same_count : (cells new : List Cell) → map cell_place new ≡ map cell_place cells → length new ≤ length cells
same_count cells new places = omega (arith, ap length places, length-map cells cell_place, length-map new cell_place)

undone_few : (change : Change) (cells : List Cell) → length (undone change cells) ≤ length cells
undone_few Opened cells = omega (arith, length-take (length cells - 1) cells)
undone_few (Put place) cells = same_count cells (undone (Put place) cells) (put_places cells place)
undone_few (Fired place before) cells = same_count cells (undone (Fired place before) cells) (fired_places cells place before)
undone_few (GaveWay place given) cells = same_count cells (undone (GaveWay place given) cells) (given_places cells place given)

pub all_undone_few : (changes : List Change) (cells : List Cell) → length (undone_all changes cells) ≤ length cells
all_undone_few [] cells = omega arith
all_undone_few (change ∷ changes) cells = omega (arith, undone_few change (undone_all changes cells), all_undone_few changes cells)
