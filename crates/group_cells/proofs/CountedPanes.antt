-- A cell counts a pane for each that it fires, and that one is among those of the commit.
use Rattle.std.proofs.Common.{◌≡◌, ℕ, ◌+◌, ◌≤◌, ℤ, Bool, true, false, cond, List, [], ◌∷◌, ◌++◌, map, length, get_or, refl, sym, ap, subst, arith}
use Rattle.std.specs.Prelude.{Option, Some, None}
use Rattle.std.specs.List.{All, filter, flat_map, list_any}
use Rattle.std.proofs.lemmas.List.Elements.{All-nil, All-cons, All-head, All-tail, All-append, All-filter, All-map, All-weaker}
use Rattle.beam_values.specs.Firing.{firing}
use Rattle.beam_values.specs.Marks.{marks_at}
use Rattle.beam_values.specs.declared.arrival.Arrival.{Arrival}
use Rattle.beam_values.specs.declared.cell.Cell.{Cell}
use Rattle.beam_values.specs.declared.cell.Entry.{Entry}
use Rattle.beam_values.specs.declared.cell.Pane.{Pane}
use Rattle.beam_values.specs.declared.element.Element.{Element}
use Rattle.beam_values.specs.declared.element.Timing.{Timing}
use Rattle.beam_values.specs.declared.marks.StageMarks.{StageMarks}
use Rattle.beam_values.specs.declared.plan.Plan.{Plan}
use Rattle.beam_values.specs.declared.value.Value.{Value}
use Rattle.beam_model.specs.Panes.{GroupRules, IsFiredAs, is_cell_at_key, is_of_window, is_pane_at_key, panes_at, rules_of, taken_entry}
use Rattle.group_cells.specs.Cells.{FiresIts, after_firing, entries_held, once_fired, unseen_in}
use Rattle.group_cells.specs.Commits.{AreRounds, cells_keyed, elements_keyed}
use Rattle.group_cells.specs.Placing.{Opening, fresh_cell, gives_way, handed_over, is_standing, once_opened, opened, opened_all, put, put_all, stands_as, takes, with_entry}
use Rattle.group_cells.specs.Rounds.{IsRound, entry_of, is_in_time}
use Rattle.group_cells.specs.Sane.{ArePanesCounted}
use Rattle.group_cells.proofs.EachKey.{each_key}

pub no_longer : {X : Type 0} (p : X → Bool) (xs : List X) → length (filter p xs) ≤ length xs
no_longer p [] = omega arith
no_longer p (x ∷ xs) = by (p x) (no_longer p xs)
  where
    by : (b : Bool) → length (filter p xs) ≤ length xs → length (cond b (x ∷ filter p xs) (filter p xs)) ≤ length (x ∷ xs)
    by true rest = omega arith
    by false rest = omega arith

module _ (most : ℕ) where
  abbrev Counts : Cell → Type 0
  Counts cell = cell.next_index ≤ most

  opened_counts : (rules : GroupRules) (before : ℤ) (node : ℕ) (cells : List Cell) (o : Opening) → All Counts cells → All Counts (opened rules before node cells o)
  opened_counts rules before node cells o all = by (list_any (stands_as o.span) cells)
    where
      left : (cell : Cell) → Counts cell → Counts (once_opened rules before o.span cell)
      left cell h = either (gives_way rules before o.span cell)
        where
          either : (b : Bool) → Counts (cond b (record cell { entries = []; merged_into = Some o.span }) cell)
          either true = h
          either false = h

      by : (b : Bool) → All Counts (cond b cells (map (once_opened rules before o.span) cells ++ fresh_cell node o.key o.span (flat_map (handed_over rules before o.span) cells) ∷ []))
      by true = all
      by false =
          All-append Counts (map (once_opened rules before o.span) cells) (fresh_cell node o.key o.span (flat_map (handed_over rules before o.span) cells) ∷ [])
          (All-map Counts (once_opened rules before o.span) cells (All-weaker Counts (λ (cell : Cell). Counts (once_opened rules before o.span cell)) left cells all))
          (All-cons Counts (fresh_cell node o.key o.span (flat_map (handed_over rules before o.span) cells)) [] (omega arith) (All-nil Counts))

  all_opened_counts : (rules : GroupRules) (before : ℤ) (node : ℕ) (openings : List Opening) (cells : List Cell) → All Counts cells → All Counts (opened_all rules before node openings cells)
  all_opened_counts rules before node [] cells all = all
  all_opened_counts rules before node (o ∷ openings) cells all = all_opened_counts rules before node openings (opened rules before node cells o) (opened_counts rules before node cells o all)

  put_counts : (rules : GroupRules) (entry : Entry) (cells : List Cell) → All Counts cells → All Counts (put rules entry cells)
  put_counts rules entry [] all = all
  put_counts rules entry (cell ∷ cells) all = by (takes rules entry cell) (put_counts rules entry cells (All-tail Counts cell cells all))
    where
      by : (b : Bool) → All Counts (put rules entry cells) → All Counts (cond b (with_entry entry cell ∷ cells) (cell ∷ put rules entry cells))
      by true rest = All-cons Counts (with_entry entry cell) cells (All-head Counts cell cells all) (All-tail Counts cell cells all)
      by false rest = All-cons Counts cell (put rules entry cells) (All-head Counts cell cells all) rest

  all_put_counts : (rules : GroupRules) (entries : List Entry) (cells : List Cell) → All Counts cells → All Counts (put_all rules entries cells)
  all_put_counts rules [] cells all = all
  all_put_counts rules (e ∷ entries) cells all = all_put_counts rules entries (put rules e cells) (put_counts rules e cells all)

  -- one that fires has its pane among those of the key
  one_counts : (rules : GroupRules) (node : ℕ) (key : Value) (c : ℕ) (mark : ℤ) (fired : List Pane) (cell : Cell) → FiresIts rules node key c mark fired cell → Counts cell
      → (after_firing rules mark cell).next_index ≤ most + length fired
  one_counts rules node key c mark fired cell fires low = by (is_standing cell.merged_into) refl
    where
      after : (t : Option Timing) → IsFiredAs node key c cell.span cell.next_index (map (taken_entry node) (entries_held rules.trigger.mode cell.entries)) t (filter (is_of_window cell.span) fired)
          → (once_fired t cell).next_index ≤ most + length fired
      after None none = omega (arith, low)
      after (Some timing) one = omega (arith, low, ap length one.1, no_longer (is_of_window cell.span) fired)

      by : (s : Bool) → is_standing cell.merged_into ≡ s
          → (once_fired (cond s (firing rules.trigger cell.span.end mark cell.on_time (unseen_in cell.entries)) None) cell).next_index ≤ most + length fired
      by true e =
          after (firing rules.trigger cell.span.end mark cell.on_time (unseen_in cell.entries))
          (subst (λ (b : Bool). IsFiredAs node key c cell.span cell.next_index (map (taken_entry node) (entries_held rules.trigger.mode cell.entries))
          (cond b (firing rules.trigger cell.span.end mark cell.on_time (unseen_in cell.entries)) None) (filter (is_of_window cell.span) fired)) e (fires e))
      by false e = omega (arith, low)

  round_counts : (rules : GroupRules) (node : ℕ) (key : Value) (c : ℕ) (before after : ℤ) (arrivals : List Element) (cells new : List Cell) (fired : List Pane)
      → IsRound rules node key c before after arrivals cells new fired → All Counts cells → All (λ cell. cell.next_index ≤ most + length fired) new
  round_counts rules node key c before after arrivals cells new fired round all =
      let placed : All Counts round.placed =
      subst (All Counts) (sym round.places)
      (all_put_counts rules (map (entry_of c) (filter (is_in_time rules before) arrivals)) (opened_all rules before node round.openings cells) (all_opened_counts rules before node round.openings cells all)) in
      subst (All (λ cell. cell.next_index ≤ most + length fired)) (sym round.fires)
      (All-map (λ (cell : Cell). cell.next_index ≤ most + length fired) (after_firing rules after) round.placed
      (λ k d within. one_counts rules node key c after fired (get_or round.placed k d) (round.panes.each k d within) (placed k d within)))

pub panes_counted : (plan : Plan) (c : ℕ) (before after : List StageMarks) (arrivals : List Arrival) (cells new : List Cell) (fired : List Pane) (most : ℕ)
    → ArePanesCounted most cells → AreRounds plan c before after arrivals cells new fired → ArePanesCounted (most + length fired) new
panes_counted plan c before after arrivals cells new fired most all rounds =
    each_key plan (λ (cell : Cell). cell.next_index ≤ most + length fired) new rounds.cells_at
    (λ node key group. All-weaker (λ (cell : Cell). cell.next_index ≤ most + length (panes_at node key fired)) (λ (cell : Cell). cell.next_index ≤ most + length fired)
    (λ cell low. omega (arith, low, no_longer (is_pane_at_key node key) fired)) (cells_keyed node key new)
    (round_counts most (rules_of plan node) node key c (marks_at before node).mark_in (marks_at after node).mark_in (elements_keyed node key arrivals) (cells_keyed node key cells) (cells_keyed node key new)
    (panes_at node key fired) (rounds.each node key group) (All-filter (is_cell_at_key node key) (λ (cell : Cell). cell.next_index ≤ most) cells all)))
