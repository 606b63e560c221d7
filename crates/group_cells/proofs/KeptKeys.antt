-- Rounds keep that the entries of each cell have its key.
use Rattle.std.proofs.Common.{◌≡◌, ℕ, ◌==◌, ℤ, Bool, true, false, cond, List, [], ◌∷◌, ◌++◌, map, get_or, sym, subst, ◌∙◌}
use Rattle.std.specs.Prelude.{◌&&◌, Option, Some, None}
use Rattle.std.specs.List.{All, filter, flat_map, list_any}
use Rattle.std.proofs.lemmas.Bool.{and_parts}
use Rattle.std.proofs.lemmas.List.Elements.{All-nil, All-cons, All-head, All-tail, All-append, All-map, All-weaker, All-filter, filter_passes}
use Rattle.std.proofs.lemmas.Slice.Eq.{bytes_eq-Decides}
use Rattle.beam_values.specs.Grouping.{key_of}
use Rattle.beam_values.specs.Marks.{marks_at}
use Rattle.beam_values.specs.Spelling.{spelling}
use Rattle.beam_values.specs.declared.arrival.Arrival.{Arrival}
use Rattle.beam_values.specs.declared.cell.Cell.{Cell}
use Rattle.beam_values.specs.declared.cell.Entry.{Entry}
use Rattle.beam_values.specs.declared.cell.Pane.{Pane}
use Rattle.beam_values.specs.declared.element.Element.{Element}
use Rattle.beam_values.specs.declared.element.Timing.{Timing}
use Rattle.beam_values.specs.declared.marks.StageMarks.{StageMarks}
use Rattle.beam_values.specs.declared.plan.Plan.{Plan}
use Rattle.beam_values.specs.declared.value.Value.{Value}
use Rattle.beam_model.specs.Panes.{GroupRules, is_cell_at_key, panes_at, rules_of, IsKeyed}
use Rattle.beam_model.specs.Sessions.{is_keyed}
use Rattle.group_cells.specs.Cells.{after_firing, firing_of, once_fired, shown}
use Rattle.group_cells.specs.Commits.{AreRounds, cells_keyed, elements_keyed}
use Rattle.group_cells.specs.Placing.{Opening, fresh_cell, gives_way, handed_over, is_same_key, once_opened, opened, opened_all, put, put_all, stands_as, takes, with_entry}
use Rattle.group_cells.specs.Rounds.{IsRound, entry_of, is_in_time}
use Rattle.group_cells.proofs.Counting.{All-flat_map}
use Rattle.group_cells.proofs.EachKey.{each_key}

module _ (key : Value) where
  abbrev HasKey : Entry → Type 0
  HasKey entry = is_keyed key entry.element ≡ true

  -- a cell of the key, as its entries are
  abbrev IsOwn : Cell → Type 0
  IsOwn cell = (is_same_key cell.key key ≡ true) × All HasKey cell.entries

  own_cell : (cell : Cell) → is_same_key cell.key key ≡ true → IsKeyed cell → IsOwn cell
  own_cell cell same keyed = (same, All-weaker (λ (entry : Entry). is_keyed cell.key entry.element ≡ true) HasKey (λ entry h. through entry.element h) cell.entries keyed)
    where
      through : (e : Element) → is_keyed cell.key e ≡ true → is_keyed key e ≡ true
      through e h =
          (bytes_eq-Decides (spelling (key_of e)) (spelling key)).1
          ((bytes_eq-Decides (spelling (key_of e)) (spelling cell.key)).0 h ∙ (bytes_eq-Decides (spelling cell.key) (spelling key)).0 same)

  keyed_cell : (cell : Cell) → IsOwn cell → IsKeyed cell
  keyed_cell cell own = All-weaker HasKey (λ (entry : Entry). is_keyed cell.key entry.element ≡ true) (λ entry h. back entry.element h) cell.entries own.1
    where
      back : (e : Element) → is_keyed key e ≡ true → is_keyed cell.key e ≡ true
      back e h =
          (bytes_eq-Decides (spelling (key_of e)) (spelling cell.key)).1
          ((bytes_eq-Decides (spelling (key_of e)) (spelling key)).0 h ∙ sym ((bytes_eq-Decides (spelling cell.key) (spelling key)).0 own.0))

  module _ (rules : GroupRules) (before : ℤ) (node : ℕ) where
    opened_own : (opening : Opening) → is_same_key opening.key key ≡ true → (cells : List Cell) → All IsOwn cells → All IsOwn (opened rules before node cells opening)
    opened_own opening same cells own = by (list_any (stands_as opening.span) cells)
      where
        left : (cell : Cell) → IsOwn cell → IsOwn (once_opened rules before opening.span cell)
        left cell h = either (gives_way rules before opening.span cell)
          where
            either : (b : Bool) → IsOwn (cond b (record cell { entries = []; merged_into = Some opening.span }) cell)
            either true = (h.0, All-nil HasKey)
            either false = h

        over : (cell : Cell) → IsOwn cell → All HasKey (handed_over rules before opening.span cell)
        over cell h = either (gives_way rules before opening.span cell)
          where
            either : (b : Bool) → All HasKey (cond b cell.entries [])
            either true = h.1
            either false = All-nil HasKey

        by : (b : Bool) → All IsOwn (cond b cells (map (once_opened rules before opening.span) cells
            ++ fresh_cell node opening.key opening.span (flat_map (handed_over rules before opening.span) cells) ∷ []))
        by true = own
        by false =
            All-append IsOwn (map (once_opened rules before opening.span) cells) (fresh_cell node opening.key opening.span (flat_map (handed_over rules before opening.span) cells) ∷ [])
            (All-map IsOwn (once_opened rules before opening.span) cells (All-weaker IsOwn (λ (cell : Cell). IsOwn (once_opened rules before opening.span cell)) left cells own))
            (All-cons IsOwn (fresh_cell node opening.key opening.span (flat_map (handed_over rules before opening.span) cells)) []
            (same, All-flat_map HasKey (handed_over rules before opening.span) cells (All-weaker IsOwn (λ (cell : Cell). All HasKey (handed_over rules before opening.span cell)) over cells own))
            (All-nil IsOwn))

    all_opened_own : (openings : List Opening) → All (λ opening. is_same_key opening.key key ≡ true) openings → (cells : List Cell) → All IsOwn cells → All IsOwn (opened_all rules before node openings cells)
    all_opened_own [] same cells own = own
    all_opened_own (o ∷ openings) same cells own =
        all_opened_own openings (All-tail (λ (opening : Opening). is_same_key opening.key key ≡ true) o openings same) (opened rules before node cells o)
        (opened_own o (All-head (λ (opening : Opening). is_same_key opening.key key ≡ true) o openings same) cells own)

  put_own : (rules : GroupRules) (entry : Entry) → HasKey entry → (cells : List Cell) → All IsOwn cells → All IsOwn (put rules entry cells)
  put_own rules entry keyed [] own = own
  put_own rules entry keyed (cell ∷ cells) own = by (takes rules entry cell) (put_own rules entry keyed cells (All-tail IsOwn cell cells own))
    where
      here : IsOwn cell
      here = All-head IsOwn cell cells own

      by : (b : Bool) → All IsOwn (put rules entry cells) → All IsOwn (cond b (with_entry entry cell ∷ cells) (cell ∷ put rules entry cells))
      by true rest =
          All-cons IsOwn (with_entry entry cell) cells (here.0, All-append HasKey cell.entries (entry ∷ []) here.1 (All-cons HasKey entry [] keyed (All-nil HasKey)))
          (All-tail IsOwn cell cells own)
      by false rest = All-cons IsOwn cell (put rules entry cells) here rest

  all_put_own : (rules : GroupRules) (entries : List Entry) → All HasKey entries → (cells : List Cell) → All IsOwn cells → All IsOwn (put_all rules entries cells)
  all_put_own rules [] keyed cells own = own
  all_put_own rules (e ∷ entries) keyed cells own =
      all_put_own rules entries (All-tail HasKey e entries keyed) (put rules e cells) (put_own rules e (All-head HasKey e entries keyed) cells own)

  fired_own : (rules : GroupRules) (mark : ℤ) (cell : Cell) → IsOwn cell → IsOwn (after_firing rules mark cell)
  fired_own rules mark cell own = by (firing_of rules mark cell)
    where
      by : (t : Option Timing) → IsOwn (once_fired t cell)
      by None = own
      by (Some timing) = (own.0, All-map HasKey shown cell.entries own.1)

  round_own : (rules : GroupRules) (node c : ℕ) (before after : ℤ) (arrivals : List Element) (cells new : List Cell) (fired : List Pane)
      → IsRound rules node key c before after arrivals cells new fired → All (λ e. is_keyed key e ≡ true) arrivals → All IsOwn cells → All IsOwn new
  round_own rules node c before after arrivals cells new fired round keyed own =
      subst (All IsOwn) (sym round.fires)
      (All-map IsOwn (after_firing rules after) round.placed
      (All-weaker IsOwn (λ (cell : Cell). IsOwn (after_firing rules after cell)) (fired_own rules after) round.placed
      (subst (All IsOwn) (sym round.places)
      (all_put_own rules (map (entry_of c) (filter (is_in_time rules before) arrivals))
      (All-map HasKey (entry_of c) (filter (is_in_time rules before) arrivals) (All-filter (is_in_time rules before) (λ (e : Element). is_keyed key e ≡ true) arrivals keyed))
      (opened_all rules before node round.openings cells) (all_opened_own rules before node round.openings round.keyed cells own)))))

-- the elements that arrived with a key have it
own_keyed : (node : ℕ) (key : Value) (arrivals : List Arrival) → All (λ e. is_keyed key e ≡ true) (elements_keyed node key arrivals)
own_keyed node key arrivals =
    All-map (λ (e : Element). is_keyed key e ≡ true) (λ arrival. arrival.element) (filter (λ arrival. arrival.node == node && is_keyed key arrival.element) arrivals)
    (All-weaker (λ (arrival : Arrival). (arrival.node == node && is_keyed key arrival.element) ≡ true) (λ (arrival : Arrival). is_keyed key arrival.element ≡ true)
    (λ arrival on. (and_parts (arrival.node == node) (is_keyed key arrival.element) on).1) (filter (λ arrival. arrival.node == node && is_keyed key arrival.element) arrivals)
    (filter_passes (λ arrival. arrival.node == node && is_keyed key arrival.element) arrivals))

pub keys_kept : (plan : Plan) (c : ℕ) (before after : List StageMarks) (arrivals : List Arrival) (cells new : List Cell) (fired : List Pane)
    → All IsKeyed cells → AreRounds plan c before after arrivals cells new fired → All IsKeyed new
keys_kept plan c before after arrivals cells new fired keyed rounds =
    each_key plan IsKeyed new rounds.cells_at
    (λ node key group. All-weaker (IsOwn key) IsKeyed (keyed_cell key) (cells_keyed node key new)
    (round_own key (rules_of plan node) node c (marks_at before node).mark_in (marks_at after node).mark_in (elements_keyed node key arrivals) (cells_keyed node key cells) (cells_keyed node key new) (panes_at node key fired)
    (rounds.each node key group) (own_keyed node key arrivals)
    (λ k d within. own_cell key (get_or (cells_keyed node key cells) k d)
    (and_parts ((get_or (cells_keyed node key cells) k d).node == node) (is_same_key (get_or (cells_keyed node key cells) k d).key key) (filter_passes (is_cell_at_key node key) cells k d within)).1
    (All-filter (is_cell_at_key node key) IsKeyed cells keyed k d within))))
