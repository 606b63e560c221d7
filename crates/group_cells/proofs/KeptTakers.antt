-- A round keeps that each cell that was merged is empty and lies in one that stands, whatever is opened.
use Rattle.std.proofs.Common.{◌≡◌, ℕ, ℤ, Bool, true, false, cond, List, [], ◌∷◌, ◌++◌, map, refl, sym, ap, subst, ◌∙◌}
use Rattle.std.specs.Prelude.{◌&&◌, ◌||◌, not, Some}
use Rattle.std.specs.List.{All, filter, flat_map, list_any}
use Rattle.std.proofs.lemmas.Bool.{and_parts, or_left, or_right}
use Rattle.std.proofs.lemmas.List.Elements.{All-nil, All-cons, All-append, All-map, All-weaker}
use Rattle.std.proofs.lemmas.List.Folds.{list_any-append}
use Rattle.beam_values.specs.Firing.{is_expired}
use Rattle.beam_values.specs.Intervals.{Interval}
use Rattle.beam_values.specs.Spans.{same_span, lies_in}
use Rattle.beam_values.specs.declared.cell.Cell.{Cell}
use Rattle.beam_values.specs.declared.cell.Pane.{Pane}
use Rattle.beam_values.specs.declared.element.Element.{Element}
use Rattle.beam_values.specs.declared.value.Value.{Value}
use Rattle.beam_model.specs.Panes.{GroupRules}
use Rattle.group_cells.specs.Placing.{Opening, fresh_cell, gives_way, handed_over, is_absorbed, is_standing, once_opened, opened, opened_all, stands_as}
use Rattle.group_cells.specs.Rounds.{IsRound, entry_of, is_in_time}
use Rattle.group_cells.specs.Sane.{HasTaker, stands_round}
use Rattle.group_cells.proofs.Shapes.{IsEmptied, all_put_emptied, all_put_shapes, fired_emptied, fired_shapes, shape, takers_alike}
use Rattle.group_cells.proofs.WindowTests.{lies_from, lies_onward, lies_test}

module _ (rules : GroupRules) (before : ℤ) (node : ℕ) (opening : Opening) (cells : List Cell) where
  abbrev s : Interval
  s = opening.span

  abbrev left : List Cell
  left = map (once_opened rules before opening.span) cells

  abbrev fresh : Cell
  fresh = fresh_cell node opening.key opening.span (flat_map (handed_over rules before opening.span) cells)

  fresh_round : (w : Interval) → lies_in w opening.span ≡ true → list_any (stands_round w) (left ++ fresh ∷ []) ≡ true
  fresh_round w lies =
      list_any-append (stands_round w) left (fresh ∷ [])
      ∙ or_right (list_any (stands_round w) left) (stands_round w fresh || false) (or_left (stands_round w fresh) false lies)

  -- a window in one that stands: that stands on, or lies in what took it
  still_round : (w : Interval) → list_any (stands_round w) cells ≡ true → list_any (stands_round w) (left ++ fresh ∷ []) ≡ true
  still_round w some = by (list_any (λ cell. gives_way rules before opening.span cell && stands_round w cell) cells) refl
    where
      -- one that gives way lies in the session
      over : (xs : List Cell) → list_any (λ cell. gives_way rules before opening.span cell && stands_round w cell) xs ≡ true → lies_in w opening.span ≡ true
      over [] none = absurd (cc)
      over (x ∷ xs) found = here (gives_way rules before opening.span x && stands_round w x) refl found (over xs)
        where
          here : (b : Bool) → (gives_way rules before opening.span x && stands_round w x) ≡ b
              → (b || list_any (λ cell. gives_way rules before opening.span cell && stands_round w cell) xs) ≡ true
              → (list_any (λ cell. gives_way rules before opening.span cell && stands_round w cell) xs ≡ true → lies_in w opening.span ≡ true) → lies_in w opening.span ≡ true
          here true e found rest =
              let parts = and_parts (gives_way rules before opening.span x) (stands_round w x) e in
              let inside = and_parts (is_standing x.merged_into) (lies_in w x.span) parts.1 in
              let absorbed = and_parts (is_standing x.merged_into) (is_absorbed rules before opening.span x.span) parts.0 in
              let open_ = and_parts rules.merges (not (is_expired rules.trigger x.span.end before) && (lies_in x.span opening.span && not (same_span x.span opening.span))) absorbed.1 in
              let lies = and_parts (not (is_expired rules.trigger x.span.end before)) (lies_in x.span opening.span && not (same_span x.span opening.span)) open_.1 in
              let in_ = and_parts (lies_in x.span opening.span) (not (same_span x.span opening.span)) lies.1 in
              lies_test w opening.span (lies_onward w x.span opening.span (lies_from w x.span inside.1) (lies_from x.span opening.span in_.0))
          here false e found rest = rest found

      -- else it stays
      stays : (xs : List Cell) → list_any (λ cell. gives_way rules before opening.span cell && stands_round w cell) xs ≡ false → list_any (stands_round w) xs ≡ true
          → list_any (stands_round w) (map (once_opened rules before opening.span) xs) ≡ true
      stays [] none found = found
      stays (x ∷ xs) none found = here (gives_way rules before opening.span x) (stands_round w x) refl refl none found (stays xs)
        where
          Stays : Type 0
          Stays =
              list_any (λ cell. gives_way rules before opening.span cell && stands_round w cell) xs ≡ false → list_any (stands_round w) xs ≡ true
              → list_any (stands_round w) (map (once_opened rules before opening.span) xs) ≡ true

          here : (g b : Bool) → gives_way rules before opening.span x ≡ g → stands_round w x ≡ b
              → ((g && b) || list_any (λ cell. gives_way rules before opening.span cell && stands_round w cell) xs) ≡ false → (b || list_any (stands_round w) xs) ≡ true → Stays
              → (stands_round w (cond g (record x { entries = []; merged_into = Some opening.span }) x) || list_any (stands_round w) (map (once_opened rules before opening.span) xs)) ≡ true
          here true true e f none found rest = absurd (cc)
          here true false e f none found rest = rest none found
          here false true e f none found rest = or_left (stands_round w x) (list_any (stands_round w) (map (once_opened rules before opening.span) xs)) f
          here false false e f none found rest = or_right (stands_round w x) (list_any (stands_round w) (map (once_opened rules before opening.span) xs)) (rest none found)

      by : (b : Bool) → list_any (λ cell. gives_way rules before opening.span cell && stands_round w cell) cells ≡ b → list_any (stands_round w) (left ++ fresh ∷ []) ≡ true
      by true e = fresh_round w (over cells e)
      by false e =
          list_any-append (stands_round w) left (fresh ∷ [])
          ∙ or_left (list_any (stands_round w) left) (list_any (stands_round w) (fresh ∷ [])) (stays cells e some)

  one_left : (cell : Cell) → HasTaker rules cells cell → HasTaker rules (left ++ fresh ∷ []) (once_opened rules before opening.span cell)
  one_left cell has = by (gives_way rules before opening.span cell) refl
    where
      by : (b : Bool) → gives_way rules before opening.span cell ≡ b → HasTaker rules (left ++ fresh ∷ []) (cond b (record cell { entries = []; merged_into = Some opening.span }) cell)
      by true e = λ off.
          let absorbed = and_parts (is_standing cell.merged_into) (is_absorbed rules before opening.span cell.span) e in
          let open_ = and_parts rules.merges (not (is_expired rules.trigger cell.span.end before) && (lies_in cell.span opening.span && not (same_span cell.span opening.span))) absorbed.1 in
          let lies = and_parts (not (is_expired rules.trigger cell.span.end before)) (lies_in cell.span opening.span && not (same_span cell.span opening.span)) open_.1 in
          let in_ = and_parts (lies_in cell.span opening.span) (not (same_span cell.span opening.span)) lies.1 in
          record { merges = open_.0; empty = refl; taker = fresh_round cell.span in_.0 }
      by false e = λ off. let m = has off in record { merges = m.merges; empty = m.empty; taker = still_round cell.span m.taker }

  pub opened_takers : All (HasTaker rules cells) cells → All (HasTaker rules (opened rules before node cells opening)) (opened rules before node cells opening)
  opened_takers has = by (list_any (stands_as opening.span) cells)
    where
      by : (b : Bool) → All (HasTaker rules (cond b cells (left ++ fresh ∷ []))) (cond b cells (left ++ fresh ∷ []))
      by true = has
      by false =
          All-append (HasTaker rules (left ++ fresh ∷ [])) left (fresh ∷ [])
          (All-map (HasTaker rules (left ++ fresh ∷ [])) (once_opened rules before opening.span) cells
          (All-weaker (HasTaker rules cells) (λ (cell : Cell). HasTaker rules (left ++ fresh ∷ []) (once_opened rules before opening.span cell)) one_left cells has))
          (All-cons (HasTaker rules (left ++ fresh ∷ [])) fresh [] (λ off. absurd (cc)) (All-nil (HasTaker rules (left ++ fresh ∷ []))))

pub all_opened_takers : (rules : GroupRules) (before : ℤ) (node : ℕ) (openings : List Opening) (cells : List Cell) → All (HasTaker rules cells) cells
    → All (HasTaker rules (opened_all rules before node openings cells)) (opened_all rules before node openings cells)
all_opened_takers rules before node [] cells has = has
all_opened_takers rules before node (o ∷ openings) cells has = all_opened_takers rules before node openings (opened rules before node cells o) (opened_takers rules before node o cells has)

-- ---- a round

module _ (rules : GroupRules) (node : ℕ) (key : Value) (c : ℕ) (before after : ℤ) (arrivals : List Element) (cells new : List Cell) (fired : List Pane)
    (round : IsRound rules node key c before after arrivals cells new fired) where
  abbrev opened_cells : List Cell
  opened_cells = opened_all rules before node round.openings cells

  -- windows stand as they were opened
  pub round_shapes : map shape new ≡ map shape (opened_all rules before node round.openings cells)
  round_shapes =
      ap (map shape) round.fires ∙ fired_shapes rules after round.placed ∙ ap (map shape) round.places
      ∙ all_put_shapes rules (map (entry_of c) (filter (is_in_time rules before) arrivals)) opened_cells

  emptied : (xs : List Cell) → All (HasTaker rules xs) xs → All IsEmptied xs
  emptied xs has = All-weaker (HasTaker rules xs) IsEmptied (λ cell h off. (h off).empty) xs has

  pub round_takers : All (HasTaker rules cells) cells → All (HasTaker rules new) new
  round_takers has =
      let opens = all_opened_takers rules before node round.openings cells has in
      takers_alike rules opened_cells new round_shapes
      (subst (All IsEmptied) (sym round.fires)
      (fired_emptied rules after round.placed
      (subst (All IsEmptied) (sym round.places)
      (all_put_emptied rules (map (entry_of c) (filter (is_in_time rules before) arrivals)) opened_cells (emptied opened_cells opens))))) opens
