-- One commit goes by rounds, of each Group and key.
use Rattle.std.proofs.Common.{◌≡◌, ℕ, ◌==◌, ◌≤◌, ℤ, Bool, true, false, cond, List, [], ◌∷◌, ◌++◌, map, length, take, refl, sym, ap, subst, ◌∙◌, append-nil, arith}
use Rattle.std.specs.Prelude.{◌&&◌, bytes_eq, not, Option, Some, None}
use Rattle.std.specs.List.{All, count_by, filter, flat_map, list_any}
use Rattle.std.proofs.lemmas.Bool.{and_parts, eqb-true}
use Rattle.std.proofs.lemmas.List.{length-map}
use Rattle.std.proofs.Math.Seq.{take-append_seam}
use Rattle.std.proofs.lemmas.List.Elements.{All-nil, All-weaker, filter_passes}
use Rattle.std.proofs.lemmas.List.Sums.{sum_by-append, sum_by-cons}
use Rattle.beam_values.specs.Bags.{IsSameBag}
use Rattle.beam_values.specs.Intervals.{Interval}
use Rattle.beam_values.specs.Marks.{marks_at}
use Rattle.beam_values.specs.Nodes.{is_group}
use Rattle.beam_values.specs.Spans.{same_span}
use Rattle.beam_values.specs.Spelling.{spelling}
use Rattle.beam_values.specs.declared.arrival.Arrival.{Arrival}
use Rattle.beam_values.specs.declared.cell.Cell.{Cell}
use Rattle.beam_values.specs.declared.cell.Pane.{Pane}
use Rattle.beam_values.specs.declared.element.Element.{Element}
use Rattle.beam_values.specs.declared.element.Timing.{Timing}
use Rattle.beam_values.specs.declared.marks.StageMarks.{StageMarks}
use Rattle.beam_values.specs.declared.plan.Plan.{Plan}
use Rattle.beam_values.specs.declared.value.Value.{Value}
use Rattle.beam_model.specs.Panes.{GroupRules, is_cell_at_key, panes_at, rules_of, taken_by, IsKeyed}
use Rattle.beam_model.specs.Sessions.{is_keyed}
use Rattle.group_cells.specs.Cells.{after_firing, firing_of, once_fired}
use Rattle.group_cells.specs.Commits.{AreRounds, CellPlace, IsAtGroup, arrives_in_time, IsCommitted, SeenGroups, cell_place, cells_keyed, dropped_arrival, elements_keyed, is_at_group, is_dropped, is_taken, taken_arrival}
use Rattle.group_cells.specs.Placing.{Opening, fresh_cell, gives_way, handed_over, once_opened, opened, opened_all, put_all, stands_as}
use Rattle.group_cells.specs.Plain.{AreCells, AreCellsNext, ArePlaced, StandOnce, is_arrival_at}
use Rattle.group_cells.specs.Rounds.{AreWindowsFor, IsRound, entry_of, is_in_time, open_windows}
use Rattle.group_cells.proofs.Counting.{count_none, count_one, count_same, filter_none, none_any}
use Rattle.group_cells.proofs.KeyCells.{all_entries}
use Rattle.group_cells.proofs.MovedEntries.{all_put_count}
use Rattle.group_cells.proofs.PlacedCells.{at_groups_on}
use Rattle.group_cells.proofs.WindowTests.{span_sound}

-- ---- no window stands twice

abbrev Once : List Cell → Type 0
Once cells = (w : Interval) → count_by (stands_as w) cells ≤ 1

abbrev tally : Interval → Cell → ℕ
tally w c = cond {A = ℕ} (stands_as w c) 1 0

fewer_stand : (rules : GroupRules) (before : ℤ) (s w : Interval) (cells : List Cell) → count_by (stands_as w) (map (once_opened rules before s) cells) ≤ count_by (stands_as w) cells
fewer_stand rules before s w [] = omega arith
fewer_stand rules before s w (cell ∷ cells) =
    let rest = fewer_stand rules before s w cells in
    let here = by (gives_way rules before s cell) in
    omega (arith, sum_by-cons (tally w) (once_opened rules before s cell) (map (once_opened rules before s) cells), sum_by-cons (tally w) cell cells)
  where
    by : (b : Bool) → tally w (cond b (record cell { entries = []; merged_into = Some s }) cell) ≤ tally w cell
    by true = omega arith
    by false = omega arith

opened_once : (rules : GroupRules) (before : ℤ) (node : ℕ) (cells : List Cell) (opening : Opening) → Once cells → Once (opened rules before node cells opening)
opened_once rules before node cells opening once w = by (list_any (stands_as opening.span) cells) refl
  where
    by : (b : Bool) → list_any (stands_as opening.span) cells ≡ b → count_by (stands_as w) (cond b cells (map (once_opened rules before opening.span) cells
        ++ fresh_cell node opening.key opening.span (flat_map (handed_over rules before opening.span) cells) ∷ [])) ≤ 1
    by true e = once w
    by false e = either (same_span opening.span w) refl
      where
        either : (b : Bool) → same_span opening.span w ≡ b → count_by (stands_as w) (map (once_opened rules before opening.span) cells
            ++ fresh_cell node opening.key opening.span (flat_map (handed_over rules before opening.span) cells) ∷ []) ≤ 1
        either true same =
            let none : count_by (stands_as w) cells ≡ 0 =
            subst (λ (v : Interval). count_by (stands_as v) cells ≡ 0) (span_sound opening.span w same) (count_none (stands_as opening.span) cells (none_any (stands_as opening.span) cells e)) in
            let few = fewer_stand rules before opening.span w cells in
            let one = (count_one (stands_as w) (fresh_cell node opening.key opening.span (flat_map (handed_over rules before opening.span) cells))).0 same in
            omega (arith, sum_by-append (tally w) (map (once_opened rules before opening.span) cells) (fresh_cell node opening.key opening.span (flat_map (handed_over rules before opening.span) cells) ∷ []))
        either false other =
            let few = fewer_stand rules before opening.span w cells in
            let none = (count_one (stands_as w) (fresh_cell node opening.key opening.span (flat_map (handed_over rules before opening.span) cells))).1 other in
            let most = once w in
            omega (arith, sum_by-append (tally w) (map (once_opened rules before opening.span) cells) (fresh_cell node opening.key opening.span (flat_map (handed_over rules before opening.span) cells) ∷ []))

once_all_opened : (rules : GroupRules) (before : ℤ) (node : ℕ) (openings : List Opening) (cells : List Cell) → Once cells → Once (opened_all rules before node openings cells)
once_all_opened rules before node [] cells once = once
once_all_opened rules before node (o ∷ openings) cells once = once_all_opened rules before node openings (opened rules before node cells o) (opened_once rules before node cells o once)

placed_once : (rules : GroupRules) (before : ℤ) (node : ℕ) (key : Value) (c : ℕ) (own : List Element) (cells placed : List Cell) → ArePlaced rules before node key c own cells placed → Once cells → Once placed
placed_once rules before node key c own cells placed h once w =
    subst (λ (n : ℕ). n ≤ 1)
    (sym (ap (count_by (stands_as w)) h.places ∙ all_put_count (stands_as w) (λ cell entries. refl) rules (map (entry_of c) own) (opened_all rules before node h.openings cells)))
    (once_all_opened rules before node h.openings cells once w)

fired_once : (rules : GroupRules) (mark : ℤ) (cells : List Cell) → Once cells → Once (map (after_firing rules mark) cells)
fired_once rules mark cells once w =
    subst (λ (n : ℕ). n ≤ 1) (sym (count_same (after_firing rules mark) (stands_as w) (stands_as w) (λ cell. by (firing_of rules mark cell) cell) cells)) (once w)
  where
    by : (t : Option Timing) (cell : Cell) → stands_as w (once_fired t cell) ≡ stands_as w cell
    by None cell = refl
    by (Some timing) cell = refl

-- ---- the arrivals in time of one Group and key

abbrev timely : Plan → List StageMarks → ℕ → Element → Bool
timely plan before node e = is_in_time (rules_of plan node) (marks_at before node).mark_in e

abbrev elem : Arrival → Element
elem arrival = arrival.element

pub in_time_keyed : (plan : Plan) (before : List StageMarks) (node : ℕ) (key : Value) (arrivals : List Arrival) → is_group plan node ≡ true
    → elements_keyed node key (filter (is_taken plan before) arrivals) ≡ filter (is_in_time (rules_of plan node) (marks_at before node).mark_in) (elements_keyed node key arrivals)
in_time_keyed plan before node key [] group = refl
in_time_keyed plan before node key (a ∷ arrivals) group =
    by (is_taken plan before a) refl (a.node == node) refl (is_keyed key a.element) refl (in_time_keyed plan before node key arrivals group)
  where
    same_here : a.node ≡ node → is_taken plan before a ≡ timely plan before node a.element
    same_here here =
        (λ i. is_group plan (here i) && is_in_time (rules_of plan (here i)) (marks_at before (here i)).mark_in a.element) ∙ ap (λ b. b && timely plan before node a.element) group

    off : (t : Bool) → is_arrival_at node key a ≡ false → map elem (filter (is_arrival_at node key) (filter (is_taken plan before) arrivals)) ≡ filter (timely plan before node) (map elem (filter (is_arrival_at node key) arrivals))
        → map elem (filter (is_arrival_at node key) (cond t (a ∷ (filter (is_taken plan before) arrivals)) (filter (is_taken plan before) arrivals))) ≡ filter (timely plan before node) (map elem (cond (is_arrival_at node key a) (a ∷ filter (is_arrival_at node key) arrivals) (filter (is_arrival_at node key) arrivals)))
    off true no_ rest =
        ap (λ b. map elem (cond b (a ∷ filter (is_arrival_at node key) (filter (is_taken plan before) arrivals)) (filter (is_arrival_at node key) (filter (is_taken plan before) arrivals)))) no_ ∙ rest ∙ sym (ap (λ b. filter (timely plan before node) (map elem (cond b (a ∷ filter (is_arrival_at node key) arrivals) (filter (is_arrival_at node key) arrivals)))) no_)
    off false no_ rest = rest ∙ sym (ap (λ b. filter (timely plan before node) (map elem (cond b (a ∷ filter (is_arrival_at node key) arrivals) (filter (is_arrival_at node key) arrivals)))) no_)

    by : (t : Bool) → is_taken plan before a ≡ t → (n : Bool) → (a.node == node) ≡ n → (k : Bool) → is_keyed key a.element ≡ k
        → map elem (filter (is_arrival_at node key) (filter (is_taken plan before) arrivals)) ≡ filter (timely plan before node) (map elem (filter (is_arrival_at node key) arrivals))
        → map elem (filter (is_arrival_at node key) (cond t (a ∷ (filter (is_taken plan before) arrivals)) (filter (is_taken plan before) arrivals))) ≡ filter (timely plan before node) (map elem (cond (is_arrival_at node key a) (a ∷ filter (is_arrival_at node key) arrivals) (filter (is_arrival_at node key) arrivals)))
    by true e true f true g rest =
        let on : is_arrival_at node key a ≡ true = λ i. f i && g i in
        let it : timely plan before node a.element ≡ true = sym (same_here (eqb-true a.node node f)) ∙ e in
        ap (λ b. map elem (cond b (a ∷ filter (is_arrival_at node key) (filter (is_taken plan before) arrivals)) (filter (is_arrival_at node key) (filter (is_taken plan before) arrivals)))) on ∙ ap (λ l. a.element ∷ l) rest
        ∙ sym (ap (λ b. filter (timely plan before node) (map elem (cond b (a ∷ filter (is_arrival_at node key) arrivals) (filter (is_arrival_at node key) arrivals)))) on
        ∙ ap (λ b. cond b (a.element ∷ filter (timely plan before node) (map elem (filter (is_arrival_at node key) arrivals))) (filter (timely plan before node) (map elem (filter (is_arrival_at node key) arrivals)))) it)
    by false e true f true g rest =
        let on : is_arrival_at node key a ≡ true = λ i. f i && g i in
        let it : timely plan before node a.element ≡ false = sym (same_here (eqb-true a.node node f)) ∙ e in
        rest
        ∙ sym (ap (λ b. filter (timely plan before node) (map elem (cond b (a ∷ filter (is_arrival_at node key) arrivals) (filter (is_arrival_at node key) arrivals)))) on
        ∙ ap (λ b. cond b (a.element ∷ filter (timely plan before node) (map elem (filter (is_arrival_at node key) arrivals))) (filter (timely plan before node) (map elem (filter (is_arrival_at node key) arrivals)))) it)
    by t e true f false g rest = off t (λ i. f i && g i) rest
    by t e false f k g rest = off t (λ i. f i && g i) rest

-- ---- rounds

module _ (plan : Plan) (before : List StageMarks) (hold : ℕ → ℤ) (c : ℕ) (arrivals : List Arrival) (cells new : List Cell) (after : List StageMarks) (fired : List Pane)
    (was : AreCells plan cells) (h : AreCellsNext plan before hold c arrivals cells new after fired) where
  once_placed : StandOnce h.placed
  once_placed = λ node key.
      placed_once (rules_of plan node) (marks_at before node).mark_in node key c (elements_keyed node key (filter (is_taken plan before) arrivals)) (cells_keyed node key cells) (cells_keyed node key h.placed)
      (h.places.each node key) (was.once node key)

  all_at : All (IsAtGroup plan) new
  all_at =
      at_groups_on plan h.placed new [] (h.fires.places ∙ sym (append-nil (map cell_place h.placed))) (All-nil (λ (place : CellPlace). is_group plan place.node ≡ true))
      (at_groups_on plan cells h.placed h.places.behind h.places.places h.places.behind_at was.groups)

  round : (node : ℕ) (key : Value) → is_group plan node ≡ true → IsRound (rules_of plan node) node key c (marks_at before node).mark_in (marks_at after node).mark_in
      (elements_keyed node key arrivals) (cells_keyed node key cells) (cells_keyed node key new) (panes_at node key fired)
  round node key group =
      let p = h.places.each node key in
      let own : elements_keyed node key (filter (is_taken plan before) arrivals) ≡ filter (is_in_time (rules_of plan node) (marks_at before node).mark_in) (elements_keyed node key arrivals) =
      in_time_keyed plan before node key arrivals group in
      record {
        openings = p.openings;
        keyed = p.keyed;
        windows = subst
            (λ (es : List Element). AreWindowsFor (rules_of plan node).merges (map (λ e. e.span) es) (open_windows (rules_of plan node) (marks_at before node).mark_in (cells_keyed node key cells)) (map (λ opening. opening.span) p.openings))
            own p.windows;
        placed = cells_keyed node key h.placed;
        places = p.places ∙ ap (λ (es : List Element). put_all (rules_of plan node) (map (entry_of c) es) (opened_all (rules_of plan node) (marks_at before node).mark_in node p.openings (cells_keyed node key cells))) own;
        fires = (h.fires.each node key group).0;
        panes = (h.fires.each node key group).1 once_placed;
      }

  pub rounds : AreRounds plan c before after arrivals cells new fired
  rounds = record {
    each = round;
    cells_at = all_at;
    at_groups = h.fires.groups;
    of_commit = h.fires.of_commit;
    ordered = h.fires.ordered;
  }

  once_new : (node : ℕ) (key : Value) → (b : Bool) → is_group plan node ≡ b → (w : Interval) → count_by (stands_as w) (cells_keyed node key new) ≤ 1
  once_new node key true group w =
      subst (λ (l : List Cell). count_by (stands_as w) l ≤ 1) (sym (h.fires.each node key group).0)
      (fired_once (rules_of plan node) (marks_at after node).mark_in (cells_keyed node key h.placed) (once_placed node key) w)
  once_new node key false rests w =
      let none : cells_keyed node key new ≡ [] =
      filter_none (is_cell_at_key node key) new
      (All-weaker (IsAtGroup plan) (λ cell. is_cell_at_key node key cell ≡ false) (λ cell at. other cell at (is_cell_at_key node key cell) refl) new all_at) in
      subst (λ (l : List Cell). count_by (stands_as w) l ≤ 1) (sym none) (omega arith)
    where
      other : (cell : Cell) → is_group plan cell.node ≡ true → (b : Bool) → is_cell_at_key node key cell ≡ b → b ≡ false
      other cell group true on =
          let at : cell.node ≡ node = eqb-true cell.node node (and_parts (cell.node == node) (bytes_eq (spelling cell.key) (spelling key)) on).0 in
          sym group ∙ ap (is_group plan) at ∙ rests
      other cell group false on = refl

  pub cells_kept : AreCells plan new
  cells_kept = record {
    groups = all_at;
    once = λ node key. once_new node key (is_group plan node) refl;
  }

  places_kept : take (length cells) (map cell_place new) ≡ map cell_place cells
  places_kept =
      ap (take (length cells)) (h.fires.places ∙ h.places.places)
      ∙ ap (λ n. take n (map cell_place cells ++ h.places.behind)) (sym (length-map cells cell_place))
      ∙ take-append_seam (map cell_place cells) h.places.behind

  pub committed : (old next : SeenGroups) (others : List Arrival) → old.cells ≡ cells → next.cells ≡ new → next.plan ≡ old.plan
      → next.dropped ≡ old.dropped ++ map (dropped_arrival c) (filter (is_dropped plan before) arrivals) → others ≡ filter (λ arrival. not (is_at_group plan arrival)) arrivals
      → IsCommitted plan c before after hold arrivals others old next fired
  committed old next others p q same lost left = record {
    entries = λ keyed.
        subst (λ (l : List Cell). IsSameBag (taken_by next.cells) (taken_by l ++ map (taken_arrival c) (filter (is_taken plan before) arrivals))) (sym p)
        (subst (λ (l : List Cell). IsSameBag (taken_by l) (taken_by cells ++ map (taken_arrival c) (filter (is_taken plan before) arrivals))) (sym q)
        (all_entries plan c before after arrivals cells new fired (subst (λ (l : List Cell). All IsKeyed l) p keyed) was.groups rounds));
    dropped = lost;
    others = left;
    at_groups = h.fires.groups;
    of_commit = h.fires.of_commit;
    ordered = h.fires.ordered;
    places = (λ i. take (length (p i)) (map cell_place (q i))) ∙ places_kept ∙ ap (map cell_place) (sym p);
    plan_stays = same;
    marks = h.fires.marks_are;
  }

-- rounds of equal plans, arrivals, cells and marks
pub rounds_seen : (inside plan : Plan) (before : List StageMarks) (hold : ℕ → ℤ) (c : ℕ) (listed arrivals : List Arrival) (held cells new : List Cell) (marks after : List StageMarks) (fired : List Pane)
    → inside ≡ plan → listed ≡ arrivals → held ≡ cells → marks ≡ after → AreCells inside held → AreCellsNext inside before hold c listed held new marks fired
    → AreRounds plan c before after arrivals cells new fired
rounds_seen inside plan before hold c listed arrivals held cells new marks after fired p q r s was next =
    subst (λ (A : Type 0). A) (λ i. AreRounds (p i) c before (s i) (q i) (r i) new fired) (rounds inside before hold c listed held new marks fired was next)

-- what Groups take is at Groups
pub taken_at_groups : (plan : Plan) (before : List StageMarks) (arrivals : List Arrival) → All (λ arrival. is_group plan arrival.node ≡ true) (filter (is_taken plan before) arrivals)
taken_at_groups plan before arrivals =
    All-weaker (λ (arrival : Arrival). is_taken plan before arrival ≡ true) (λ (arrival : Arrival). is_group plan arrival.node ≡ true)
    (λ arrival on. (and_parts (is_at_group plan arrival) (arrives_in_time plan before arrival) on).0) (filter (is_taken plan before) arrivals) (filter_passes (is_taken plan before) arrivals)
