-- What a commit needs beside its placing and firing.
use Rattle.std.proofs.Common.{◌≡◌, ℕ, suc, ◌==◌, ◌&&◌, ℤ, Bool, true, false, cond, List, [], ◌∷◌, map, Option, Some, None, refl, sym, ap, subst, ◌∙◌, append-nil}
use Rattle.std.specs.List.{All, filter, position}
use Rattle.std.specs.Option.{option_map}
use Rattle.std.specs.Str.{bytes_eq}
use Rattle.std.proofs.lemmas.List.Elements.{All-nil, All-cons}
use Rattle.beam_values.specs.Intervals.{Interval}
use Rattle.beam_values.specs.Marks.{marks_at}
use Rattle.beam_values.specs.Nodes.{is_group}
use Rattle.beam_values.specs.Spans.{same_span}
use Rattle.beam_values.specs.Spelling.{spelling}
use Rattle.beam_values.specs.declared.arrival.Arrival.{Arrival}
use Rattle.beam_values.specs.declared.cell.Cell.{Cell}
use Rattle.beam_values.specs.declared.cell.Pane.{Pane}
use Rattle.beam_values.specs.declared.element.Timing.{Timing}
use Rattle.beam_values.specs.declared.marks.StageMarks.{StageMarks}
use Rattle.beam_values.specs.declared.plan.Plan.{Plan}
use Rattle.beam_values.specs.declared.value.Value.{Value}
use Rattle.beam_model.specs.Panes.{GroupRules, rules_of, is_cell_at_key}
use Rattle.cell_index.specs.Indexes.{IsIndexOf}
use Rattle.cell_index.specs.declared.index.CellIndex.{CellIndex}
use Rattle.cell_index.proofs.Indexing.{position_yes, position_no}
use Rattle.group_cells.specs.Arrivals.{AreOwn, UnmergedStand, merging}
use Rattle.group_cells.specs.Cells.{after_firing, firing_of, once_fired}
use Rattle.group_cells.specs.Commits.{CellPlace, cell_place, is_taken, is_at_group, arrives_in_time}
use Rattle.group_cells.specs.Placing.{is_standing}
use Rattle.group_cells.specs.Plain.{AreAllPlaced, AreNodesFired}
use Rattle.group_cells.proofs.Alike.{and_parts}
use Rattle.group_cells.proofs.PlacedInTurn.{placed_none}

-- where nothing comes, all is placed
pub nothing_later : (plan : Plan) (before : List StageMarks) (c : ℕ) (cells : List Cell) → AreAllPlaced plan before c [] cells cells
nothing_later plan before c cells = record {
  each = λ n k. placed_none (rules_of plan n) (marks_at before n).mark_in n k c (filter (is_cell_at_key n k) cells);
  behind = [];
  behind_at = All-nil (λ (place : CellPlace). is_group plan place.node ≡ true);
  places = sym (append-nil (map cell_place cells));
}

pub later_at_groups : (plan : Plan) (before : List StageMarks) (arrivals : List Arrival) → All (λ arrival. is_group plan arrival.node ≡ true) (filter (merging plan before) arrivals)
later_at_groups plan before [] = All-nil (λ (arrival : Arrival). is_group plan arrival.node ≡ true)
later_at_groups plan before (a ∷ arrivals) = by (merging plan before a) refl (later_at_groups plan before arrivals)
  where
    by : (t : Bool) → merging plan before a ≡ t → All (λ arrival. is_group plan arrival.node ≡ true) (filter (merging plan before) arrivals)
        → All (λ arrival. is_group plan arrival.node ≡ true) (cond t (a ∷ filter (merging plan before) arrivals) (filter (merging plan before) arrivals))
    by true e ih =
        let taken = (and_parts (is_taken plan before a) ((rules_of plan a.node).merges) e).0 in
        All-cons (λ (arrival : Arrival). is_group plan arrival.node ≡ true) a (filter (merging plan before) arrivals) (and_parts (is_at_group plan a) (arrives_in_time plan before a) taken).0 ih
    by false e ih = ih

-- ---- the index follows from the places of the cells alone

abbrev is_place_of : ℕ → Value → Interval → CellPlace → Bool
is_place_of node key span place = (place.node == node && bytes_eq (spelling place.key) (spelling key)) && same_span place.span span

found_by_place : (p : CellPlace → Bool) (cells : List Cell) → position (λ cell. p (cell_place cell)) cells ≡ position p (map cell_place cells)
found_by_place p [] = refl
found_by_place p (cell ∷ cells) = by (p (cell_place cell)) refl (found_by_place p cells)
  where
    by : (t : Bool) → p (cell_place cell) ≡ t → position (λ c. p (cell_place c)) cells ≡ position p (map cell_place cells)
        → position (λ c. p (cell_place c)) (cell ∷ cells) ≡ position p (cell_place cell ∷ map cell_place cells)
    by true e ih = position_yes (λ (c : Cell). p (cell_place c)) cell cells e ∙ sym (position_yes p (cell_place cell) (map cell_place cells) e)
    by false e ih =
        position_no (λ (c : Cell). p (cell_place c)) cell cells e ∙ ap (option_map suc) ih ∙ sym (position_no p (cell_place cell) (map cell_place cells) e)

pub index_moved : (index after : CellIndex) (cells new : List Cell) → after ≡ index → map cell_place new ≡ map cell_place cells → IsIndexOf index cells → IsIndexOf after new
index_moved index after cells new same places h =
    let P : CellIndex → Type 0 = λ i. IsIndexOf i new in
    subst P (sym same) (record {
      finds = λ q.
          h.finds q ∙ found_by_place (is_place_of q.node q.key q.span) cells ∙ sym (ap (position (is_place_of q.node q.key q.span)) places)
          ∙ sym (found_by_place (is_place_of q.node q.key q.span) new);
      guesses = h.guesses;
    })

-- ---- firing leaves which windows stand

own_fired : (rules : GroupRules) (mark : ℤ) (n : ℕ) (k : Value) (cells : List Cell) → AreOwn n k cells → AreOwn n k (map (after_firing rules mark) cells)
own_fired rules mark n k [] own = own
own_fired rules mark n k (cell ∷ cells) own = (at (firing_of rules mark cell), stands (firing_of rules mark cell), own_fired rules mark n k cells own.2)
  where
    at : (t : Option Timing) → is_cell_at_key n k (once_fired t cell) ≡ true
    at None = own.0
    at (Some timing) = own.0

    stands : (t : Option Timing) → is_standing (once_fired t cell).merged_into ≡ true
    stands None = own.1
    stands (Some timing) = own.1

pub stand_fired : (plan : Plan) (before : List StageMarks) (hold : ℕ → ℤ) (c : ℕ) (cells new : List Cell) (marks : List StageMarks) (fired : List Pane)
    → UnmergedStand plan cells → AreNodesFired plan before hold c cells new marks fired → UnmergedStand plan new
stand_fired plan before hold c cells new marks fired stand h = record {
  each = λ n k group unmerged.
      subst (AreOwn n k) (sym (h.each n k group).0)
      (own_fired (rules_of plan n) (marks_at marks n).mark_in n k (filter (is_cell_at_key n k) cells) (stand.each n k group unmerged));
}
