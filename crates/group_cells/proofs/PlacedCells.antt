-- Each cell stays where it is while entries of one Group and key are placed, and those that are made are of that Group.
use Rattle.std.proofs.Common.{◌≡◌, ℕ, ℤ, Bool, true, false, cond, List, [], ◌∷◌, ◌++◌, map, refl, sym, ap, subst, ◌∙◌, append_assoc, append-nil}
use Rattle.std.specs.Prelude.{◌&&◌, Some}
use Rattle.std.specs.List.{All, flat_map, list_any}
use Rattle.std.proofs.lemmas.List.{map-append}
use Rattle.std.proofs.lemmas.List.Elements.{All-nil, All-cons, All-append, All-map}
use Rattle.beam_values.specs.Intervals.{Interval}
use Rattle.beam_values.specs.Nodes.{is_group}
use Rattle.beam_values.specs.declared.cell.Cell.{Cell}
use Rattle.beam_values.specs.declared.cell.Entry.{Entry}
use Rattle.beam_values.specs.declared.element.Element.{Element}
use Rattle.beam_values.specs.declared.plan.Plan.{Plan}
use Rattle.beam_values.specs.declared.value.Value.{Value}
use Rattle.beam_model.specs.Panes.{GroupRules, is_cell_at_key}
use Rattle.group_cells.specs.Commits.{CellPlace, IsAtGroup, cell_place}
use Rattle.group_cells.specs.Placing.{fresh_cell, gives_way, once_opened, takes, with_entry}
use Rattle.group_cells.specs.Plain.{ArePlacedAt, handed_over_at, once_opened_at, opened_all_at, opened_at, opening_of, put_all_at, put_at, stands_at}
use Rattle.group_cells.specs.Rounds.{entry_of}
use Rattle.group_cells.proofs.Counting.{All-unmap}

-- ---- cells stay where they are

abbrev pub GoesOn : List Cell → List Cell → Type 0
GoesOn cells placed = (behind : List CellPlace) × (map cell_place placed ≡ map cell_place cells ++ behind)

pub goes_nowhere : (cells placed : List Cell) → map cell_place placed ≡ map cell_place cells → GoesOn cells placed
goes_nowhere cells placed same = ([], same ∙ sym (append-nil (map cell_place cells)))

abbrev pub ArePlacesAt : Plan → List CellPlace → Type 0
ArePlacesAt plan places = All (λ place. is_group plan place.node ≡ true) places

-- and those that stand behind them are of Groups
pub record GoesOnAt (plan : Plan) (cells placed : List Cell) : Type 0 where
  pub goes : GoesOn cells placed
  pub at : ArePlacesAt plan goes.0

pub stays_at : (plan : Plan) (cells placed : List Cell) → map cell_place placed ≡ map cell_place cells → GoesOnAt plan cells placed
stays_at plan cells placed same = record { goes = ([], same ∙ sym (append-nil (map cell_place cells))); at = All-nil (λ (place : CellPlace). is_group plan place.node ≡ true) }

pub goes_further : (plan : Plan) (a b c : List Cell) → GoesOnAt plan a b → GoesOnAt plan b c → GoesOnAt plan a c
goes_further plan a b c g h = record {
  goes = (g.goes.0 ++ h.goes.0, h.goes.1 ∙ ap (λ l. l ++ h.goes.0) g.goes.1 ∙ append_assoc (map cell_place a) g.goes.0 h.goes.0);
  at = All-append (λ (place : CellPlace). is_group plan place.node ≡ true) g.goes.0 h.goes.0 g.at h.at;
}

-- cells whose places are those of cells at Groups, and others at Groups, are at Groups
pub at_groups_on : (plan : Plan) (cells placed : List Cell) (behind : List CellPlace) → map cell_place placed ≡ map cell_place cells ++ behind → ArePlacesAt plan behind
    → All (IsAtGroup plan) cells → All (IsAtGroup plan) placed
at_groups_on plan cells placed behind places new at =
    All-unmap (λ (place : CellPlace). is_group plan place.node ≡ true) cell_place placed
    (subst (ArePlacesAt plan) (sym places)
    (All-append (λ (place : CellPlace). is_group plan place.node ≡ true) (map cell_place cells) behind (All-map (λ (place : CellPlace). is_group plan place.node ≡ true) cell_place cells at) new))

pub map_kept : (f : Cell → Cell) → ((cell : Cell) → cell_place (f cell) ≡ cell_place cell) → (cells : List Cell) → map cell_place (map f cells) ≡ map cell_place cells
map_kept f keeps [] = refl
map_kept f keeps (cell ∷ cells) = λ i. keeps cell i ∷ map_kept f keeps cells i

module _ (plan : Plan) (rules : GroupRules) (node : ℕ) (key : Value) (group : is_group plan node ≡ true) where
  -- ---- a window is opened

  module _ (before : ℤ) (w : Interval) where
    once_place : (cell : Cell) → cell_place (once_opened_at rules before node (opening_of key w) cell) ≡ cell_place cell
    once_place cell = by (is_cell_at_key node key cell)
      where
        gone : (b : Bool) → cell_place (cond b (record cell { entries = []; merged_into = Some w }) cell) ≡ cell_place cell
        gone true = refl
        gone false = refl

        by : (b : Bool) → cell_place (cond b (once_opened rules before w cell) cell) ≡ cell_place cell
        by true = gone (gives_way rules before w cell)
        by false = refl

    opened_on : (cells : List Cell) → GoesOnAt plan cells (opened_at rules before node cells (opening_of key w))
    opened_on cells = by (list_any (stands_at node key w) cells)
      where
        by : (b : Bool) → GoesOnAt plan cells (cond b cells (map (once_opened_at rules before node (opening_of key w)) cells
            ++ fresh_cell node key w (flat_map (handed_over_at rules before node (opening_of key w)) cells) ∷ []))
        by true = stays_at plan cells cells refl
        by false = record {
          goes = (
            cell_place (fresh_cell node key w []) ∷ [],
            map-append cell_place (map (once_opened_at rules before node (opening_of key w)) cells) (fresh_cell node key w (flat_map (handed_over_at rules before node (opening_of key w)) cells) ∷ [])
                ∙ ap (λ l. l ++ cell_place (fresh_cell node key w []) ∷ []) (map_kept (once_opened_at rules before node (opening_of key w)) once_place cells),
          );
          at = All-cons (λ (place : CellPlace). is_group plan place.node ≡ true) (cell_place (fresh_cell node key w [])) [] group (All-nil (λ (place : CellPlace). is_group plan place.node ≡ true));
        }

  all_opened_on : (before : ℤ) (spans : List Interval) (cells : List Cell) → GoesOnAt plan cells (opened_all_at rules before node (map (opening_of key) spans) cells)
  all_opened_on before [] cells = stays_at plan cells cells refl
  all_opened_on before (w ∷ spans) cells =
      let next = opened_at rules before node cells (opening_of key w) in
      goes_further plan cells next (opened_all_at rules before node (map (opening_of key) spans) next) (opened_on before w cells) (all_opened_on before spans next)

  -- ---- an entry is put

  put_place : (entry : Entry) (cells : List Cell) → map cell_place (put_at rules node key entry cells) ≡ map cell_place cells
  put_place entry [] = refl
  put_place entry (cell ∷ cells) = by (is_cell_at_key node key cell && takes rules entry cell) (put_place entry cells)
    where
      by : (b : Bool) → map cell_place (put_at rules node key entry cells) ≡ map cell_place cells → map cell_place (cond b (with_entry entry cell ∷ cells) (cell ∷ put_at rules node key entry cells)) ≡ map cell_place (cell ∷ cells)
      by true rest = refl
      by false rest = ap (λ l. cell_place cell ∷ l) rest

  all_put_place : (c : ℕ) (own : List Element) (cells : List Cell) → map cell_place (put_all_at rules node key (map (entry_of c) own) cells) ≡ map cell_place cells
  all_put_place c [] cells = refl
  all_put_place c (e ∷ own) cells = all_put_place c own (put_at rules node key (entry_of c e) cells) ∙ put_place (entry_of c e) cells

  -- ---- both

  pub placed_on_at : (before : ℤ) (c : ℕ) (own : List Element) (cells placed : List Cell) → ArePlacedAt rules before node key c own cells placed → GoesOnAt plan cells placed
  placed_on_at before c own cells placed h =
      let opened_ = opened_all_at rules before node (map (opening_of key) h.spans) cells in
      goes_further plan cells opened_ placed (all_opened_on before h.spans cells) (stays_at plan opened_ placed (ap (map cell_place) h.places ∙ all_put_place c own opened_))

  pub placed_on : (before : ℤ) (c : ℕ) (own : List Element) (cells placed : List Cell) → ArePlacedAt rules before node key c own cells placed → GoesOn cells placed
  placed_on before c own cells placed h = (placed_on_at before c own cells placed h).goes
