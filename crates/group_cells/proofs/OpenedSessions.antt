-- A cell is opened for a session, where only the cells that it meets are looked at: the cells are those of the plain program.
use Rattle.std.proofs.Common.{◌≡◌, ℕ, ℤ, Bool, true, false, cond, List, [], ◌∷◌, ◌++◌, map, length, refl, sym, ap, ◌∙◌}
use Rattle.std.specs.Prelude.{◌&&◌, not, fold, Some}
use Rattle.std.specs.List.{All, flat_map, list_any}
use Rattle.std.proofs.lemmas.Bool.{and_from, and_parts, false≢true}
use Rattle.std.proofs.lemmas.List.Elements.{All-head, All-tail, All-weaker}
use Rattle.beam_values.specs.Firing.{is_expired}
use Rattle.beam_values.specs.Intervals.{Interval}
use Rattle.beam_values.specs.Sessions.{IsNonEmpty}
use Rattle.beam_values.specs.declared.cell.Cell.{Cell}
use Rattle.beam_values.specs.declared.value.Value.{Value}
use Rattle.beam_model.specs.Panes.{GroupRules, is_cell_at_key}
use Rattle.group_cells.specs.AtPlaces.{changed_at, given_all}
use Rattle.group_cells.specs.KnownWindows.{meeting_places, meets, overlaps, AreFilled, HasOpened}
use Rattle.group_cells.specs.Placing.{fresh_cell, gives_way, handed_over, is_standing, once_opened}
use Rattle.group_cells.specs.Plain.{handed_over_at, once_opened_at, opened_at, opening_of, stands_at}
use Rattle.group_cells.specs.Rounds.{is_open}
use Rattle.group_cells.proofs.KnownCells.{as_meets, way_open}
use Rattle.group_cells.proofs.StandingPlaces.{changed_from, given_from}
use Rattle.group_cells.proofs.WindowTests.{lies_from, lies_overlaps, overlaps_back}

map_all : {X Y : Type 0} (f g : X → Y) (xs : List X) → All (λ x. f x ≡ g x) xs → map f xs ≡ map g xs
map_all f g [] same = refl
map_all f g (x ∷ xs) same = λ i. All-head (λ y. f y ≡ g y) x xs same i ∷ map_all f g xs (All-tail (λ y. f y ≡ g y) x xs same) i

flat_map_all : {X Y : Type 0} (f g : X → List Y) (xs : List X) → All (λ x. f x ≡ g x) xs → flat_map f xs ≡ flat_map g xs
flat_map_all f g [] same = refl
flat_map_all f g (x ∷ xs) same = λ i. All-head (λ y. f y ≡ g y) x xs same i ++ flat_map_all f g xs (All-tail (λ y. f y ≡ g y) x xs same) i

module _ (rules : GroupRules) (before : ℤ) (node : ℕ) (key : Value) (w : Interval) (old : List Cell) (filled : AreFilled rules before node key old) where
  abbrev Filled : Cell → Type 0
  Filled cell = (is_cell_at_key node key cell && is_open rules before cell) ≡ true → IsNonEmpty cell.span

  at_meets : (cell : Cell) → meets rules before node key w cell ≡ true → is_cell_at_key node key cell ≡ true
  at_meets cell on = (and_parts (is_cell_at_key node key cell) (is_open rules before cell && overlaps w cell.span) on).0

  -- one that gives way is met
  way_meets : (cell : Cell) → Filled cell → is_cell_at_key node key cell ≡ true → gives_way rules before w cell ≡ true → meets rules before node key w cell ≡ true
  way_meets cell some at way =
      let is = way_open rules before node key w cell at way in
      let open_ : is_open rules before cell ≡ true = and_from (is_standing cell.merged_into) (not (is_expired rules.trigger cell.span.end before)) is.0.stands_ (ap not is.0.open_) in
      let whole = some (and_from (is_cell_at_key node key cell) (is_open rules before cell) at open_) in
      as_meets rules before node key w old cell cell.span is.0 (overlaps_back cell.span w (lies_overlaps cell.span w whole (lies_from cell.span w is.1)))

  once_is : (cell : Cell) → Filled cell → once_opened_at rules before node (opening_of key w) cell ≡ cond (meets rules before node key w cell) (once_opened rules before w cell) cell
  once_is cell some = by (meets rules before node key w cell) refl (is_cell_at_key node key cell) refl (gives_way rules before w cell) refl
    where
      by : (m : Bool) → meets rules before node key w cell ≡ m → (a : Bool) → is_cell_at_key node key cell ≡ a → (g : Bool) → gives_way rules before w cell ≡ g
          → cond a (cond g (record cell { entries = []; merged_into = Some w }) cell) cell ≡ cond m (cond g (record cell { entries = []; merged_into = Some w }) cell) cell
      by true e true f g h = refl
      by true e false f g h = absurd (false≢true (sym f ∙ at_meets cell e))
      by false e true f true h = absurd (false≢true (sym e ∙ way_meets cell some f h))
      by false e true f false h = refl
      by false e false f g h = refl

  over_is : (cell : Cell) → Filled cell → handed_over_at rules before node (opening_of key w) cell ≡ cond (meets rules before node key w cell) (handed_over rules before w cell) []
  over_is cell some = by (meets rules before node key w cell) refl (is_cell_at_key node key cell) refl (gives_way rules before w cell) refl
    where
      by : (m : Bool) → meets rules before node key w cell ≡ m → (a : Bool) → is_cell_at_key node key cell ≡ a → (g : Bool) → gives_way rules before w cell ≡ g
          → cond a (cond g cell.entries []) [] ≡ cond m (cond g cell.entries []) []
      by true e true f g h = refl
      by true e false f g h = absurd (false≢true (sym f ∙ at_meets cell e))
      by false e true f true h = absurd (false≢true (sym e ∙ way_meets cell some f h))
      by false e true f false h = refl
      by false e false f g h = refl

  module _ (met : List ℕ) (placed : List Cell) (are : met ≡ meeting_places rules before node key w old)
      (placed_is : placed ≡ fold (changed_at (once_opened rules before w)) old met ++ fresh_cell node key w (given_all (once_opened rules before w) (handed_over rules before w) met old) ∷ []) where
    all_once : fold (changed_at (once_opened rules before w)) old met ≡ map (once_opened_at rules before node (opening_of key w)) old
    all_once =
        ap (fold (changed_at (once_opened rules before w)) old) are ∙ changed_from (meets rules before node key w) (once_opened rules before w) old [] 0 refl
        ∙ sym (map_all (once_opened_at rules before node (opening_of key w)) (λ cell. cond (meets rules before node key w cell) (once_opened rules before w cell) cell) old
        (All-weaker Filled (λ cell. once_opened_at rules before node (opening_of key w) cell ≡ cond (meets rules before node key w cell) (once_opened rules before w cell) cell) once_is old filled))

    all_given : given_all (once_opened rules before w) (handed_over rules before w) met old ≡ flat_map (handed_over_at rules before node (opening_of key w)) old
    all_given =
        ap (λ l. given_all (once_opened rules before w) (handed_over rules before w) l old) are
        ∙ given_from (meets rules before node key w) (once_opened rules before w) (handed_over rules before w) old [] 0 refl
        ∙ sym (flat_map_all (handed_over_at rules before node (opening_of key w)) (λ cell. cond (meets rules before node key w cell) (handed_over rules before w cell) []) old
        (All-weaker Filled (λ cell. handed_over_at rules before node (opening_of key w) cell ≡ cond (meets rules before node key w cell) (handed_over rules before w cell) []) over_is old filled))

    whole : placed ≡ map (once_opened_at rules before node (opening_of key w)) old ++ fresh_cell node key w (flat_map (handed_over_at rules before node (opening_of key w)) old) ∷ []
    whole = placed_is ∙ (λ i. all_once i ++ fresh_cell node key w (all_given i) ∷ [])

    pub opened_so : list_any (stands_at node key w) old ≡ false → placed ≡ opened_at rules before node old (opening_of key w)
    opened_so absent =
        whole
        ∙ sym (ap (λ b. cond b old (map (once_opened_at rules before node (opening_of key w)) old
        ++ fresh_cell node key w (flat_map (handed_over_at rules before node (opening_of key w)) old) ∷ [])) absent)

    pub opened_has : (place : ℕ) → place ≡ length old → is_expired rules.trigger w.end before ≡ false → HasOpened rules before node key w place old placed
    opened_has place behind open_ = record {
      given = flat_map (handed_over_at rules before node (opening_of key w)) old;
      is = whole;
      at = behind;
      open_ = open_;
    }

pub opened_nothing : (rules : GroupRules) (before : ℤ) (node : ℕ) (key : Value) (w : Interval) (old : List Cell) → list_any (stands_at node key w) old ≡ true
    → old ≡ opened_at rules before node old (opening_of key w)
opened_nothing rules before node key w old there =
    sym (ap (λ b. cond b old (map (once_opened_at rules before node (opening_of key w)) old
    ++ fresh_cell node key w (flat_map (handed_over_at rules before node (opening_of key w)) old) ∷ [])) there)
