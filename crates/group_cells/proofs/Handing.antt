-- One cell hands its entries over to a session, or doesn't.
use Rattle.std.proofs.Common.{◌≡◌, ℕ, ◌<◌, ◌≤◌, ℤ, true, false, cond, List, [], length, get_or, Some, None, refl, sym, ap, ◌∙◌}
use Rattle.std.specs.Prelude.{slice_get, slice_set, unwrap_or}
use Rattle.std.specs.Option.{option_map}
use Rattle.std.proofs.lemmas.Option.{slice_get_past, slice_get_read}
use Rattle.beam_values.specs.Intervals.{Interval}
use Rattle.beam_values.specs.declared.cell.Cell.{Cell}
use Rattle.beam_values.specs.declared.cell.Entry.{Entry}
use Rattle.beam_values.specs.declared.value.Value.{Value}
use Rattle.beam_model.specs.Panes.{GroupRules}
use Rattle.group_cells.specs.AtPlaces.{at_place, changed_at}
use Rattle.group_cells.specs.Placing.{gives_way, handed_over, once_opened, with_entry}
use Rattle.group_cells.specs.Plain.{put_at}
use Rattle.group_cells.proofs.Taking.{with_cell}
use Rattle.group_cells.proofs.Undoing.{set_back}

found : (cells : List Cell) (place : ℕ) (cell : Cell) → place < length cells → cell ≡ get_or cells place cell → slice_get cells place ≡ Some cell
found cells place cell within is = slice_get_read cells (length cells) place cell refl within is

module _ (rules : GroupRules) (before : ℤ) (w : Interval) (cells : List Cell) (place : ℕ) where
  abbrev Stays : Type 0
  Stays = (cells ≡ changed_at (once_opened rules before w) cells place) × ([] ≡ at_place (handed_over rules before w) [] cells place)

  pub none_there : length cells ≤ place → (cells ≡ changed_at (once_opened rules before w) cells place) × ([] ≡ at_place (handed_over rules before w) [] cells place)
  none_there past =
      let none : slice_get cells place ≡ None = slice_get_past cells place past in (
        sym (ap (λ o. unwrap_or (option_map (λ x. slice_set cells place (once_opened rules before w x)) o) cells) none),
        sym (ap (λ o. unwrap_or (option_map (handed_over rules before w) o) []) none),
      )

  module _ (cell : Cell) (within : place < length cells) (is : cell ≡ get_or cells place cell) where
    changed : changed_at (once_opened rules before w) cells place ≡ slice_set cells place (once_opened rules before w cell)
    changed = ap (λ o. unwrap_or (option_map (λ x. slice_set cells place (once_opened rules before w x)) o) cells) (found cells place cell within is)

    given : at_place (handed_over rules before w) [] cells place ≡ handed_over rules before w cell
    given = ap (λ o. unwrap_or (option_map (handed_over rules before w) o) []) (found cells place cell within is)

    pub stays_there : gives_way rules before w cell ≡ false → (cells ≡ changed_at (once_opened rules before w) cells place) × ([] ≡ at_place (handed_over rules before w) [] cells place)
    stays_there stays = (
      sym (changed ∙ ap (λ b. slice_set cells place (cond b (record cell { entries = []; merged_into = Some w }) cell)) stays ∙ set_back cells place cell (found cells place cell within is)),
      sym (given ∙ ap (λ b. cond b cell.entries []) stays),
    )

    pub goes_there : (merged : Cell) → merged ≡ record cell { entries = []; merged_into = Some w } → gives_way rules before w cell ≡ true
        → (slice_set cells place merged ≡ changed_at (once_opened rules before w) cells place) × (cell.entries ≡ at_place (handed_over rules before w) [] cells place)
    goes_there merged made goes = (
      ap (slice_set cells place) made
          ∙ sym (changed ∙ ap (λ b. slice_set cells place (cond b (record cell { entries = []; merged_into = Some w }) cell)) goes),
      sym (given ∙ ap (λ b. cond b cell.entries []) goes),
    )

pub put_there : (rules : GroupRules) (node : ℕ) (key : Value) (entry : Entry) (cells new : List Cell) (place : ℕ) → place < length cells
    → put_at rules node key entry cells ≡ changed_at (with_entry entry) cells place
    → ((cell : Cell) → slice_get cells place ≡ Some cell → new ≡ slice_set cells place (with_entry entry cell)) → new ≡ put_at rules node key entry cells
put_there rules node key entry cells new place within put is =
    with_cell cells place within (λ cell there.
    is cell there ∙ sym (put ∙ ap (λ o. unwrap_or (option_map (λ x. slice_set cells place (with_entry entry x)) o) cells) there))
