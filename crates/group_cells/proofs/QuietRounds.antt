-- Where nothing arrives at a Group and none of its cells is due, a round changes nothing: no pane fires, and the cells stay.
use Rattle.std.proofs.Common.{◌≡◌, inl, inr, ℕ, ◌==◌, ◌<ℤ◌, ℤ, Bool, true, false, cond, List, [], ◌∷◌, ◌++◌, map, get_or, refl, sym, ap, subst, ◌∙◌, append-nil, arith}
use Rattle.std.specs.Prelude.{◌&&◌, Option, None, Contains, ◌↔◌}
use Rattle.std.specs.List.{All, flat_map, list_any}
use Rattle.std.specs.Option.{is_some}
use Rattle.std.proofs.lemmas.Bool.{and_from, and_left, eq-eqb}
use Rattle.std.proofs.lemmas.Bool.Decides.{nat_tests}
use Rattle.std.proofs.lemmas.Int.{by_lt_z, ints}
use Rattle.std.proofs.lemmas.List.Elements.{All-head, All-tail, All-contains, All-filter, All-weaker, Contains-get_or}
use Rattle.std.proofs.lemmas.List.Folds.{list_any_none}
use Rattle.std.proofs.lemmas.Slice.Eq.{bytes_eq-Decides}
use Rattle.beam_values.specs.Grouping.{key_of}
use Rattle.beam_values.specs.Intervals.{Interval}
use Rattle.beam_values.specs.Marks.{marks_at}
use Rattle.beam_values.specs.Nodes.{is_group}
use Rattle.beam_values.specs.Sessions.{IsApart, IsNonEmpty, IsSessionOf, LiesIn}
use Rattle.beam_values.specs.Spelling.{spelling}
use Rattle.beam_values.specs.declared.arrival.Arrival.{Arrival}
use Rattle.beam_values.specs.declared.cell.Cell.{Cell}
use Rattle.beam_values.specs.declared.cell.Pane.{Pane}
use Rattle.beam_values.specs.declared.element.Element.{Element}
use Rattle.beam_values.specs.declared.element.Timing.{Timing}
use Rattle.beam_values.specs.declared.marks.StageMarks.{StageMarks}
use Rattle.beam_values.specs.declared.plan.Plan.{Plan}
use Rattle.beam_values.specs.declared.value.Value.{Value}
use Rattle.beam_model.specs.Panes.{GroupRules, is_cell_at_key, is_of_window, is_pane_at_key, panes_at, rules_of}
use Rattle.beam_model.specs.Sessions.{is_keyed}
use Rattle.session_merge.proofs.Lists.{contains_filter}
use Rattle.group_cells.specs.Cells.{after_firing, firing_of, is_fired_by, once_fired}
use Rattle.group_cells.specs.Commits.{AreRounds, cells_keyed, elements_keyed}
use Rattle.group_cells.specs.Placing.{Opening, fresh_cell, handed_over, once_opened, opened, opened_all, stands_as}
use Rattle.group_cells.specs.Rounds.{AreSessionsOver, AreWindowsFor, IsRound, open_windows}
use Rattle.group_cells.specs.Sane.{AreAllApart, AreOpenApart, FiresNoMore}
use Rattle.group_cells.proofs.Counting.{All-unmap, filter_none}
use Rattle.group_cells.proofs.KeyCells.{cells_here}
use Rattle.group_cells.proofs.StillOpen.{none_contained, open_says}
use Rattle.group_cells.proofs.WindowTests.{same_interval}

-- ---- the sessions of windows that are apart are these windows

begins_alone : (a s : Interval) → a.start <ℤ a.end → a.start ≡ s.start → s.start <ℤ s.end → IsApart a s → ⊥
begins_alone a s some same ordered apart = omega (arith, ints)

over_end : (a b : Interval) → a.start <ℤ a.end → b.start <ℤ a.end → a.end <ℤ b.end → IsApart a b → ⊥
over_end a b some before behind apart = omega (arith, ints)

starts_alike : (x y z : ℤ) → x ≡ y → x <ℤ z → y <ℤ z
starts_alike x y z e h = subst (λ (v : ℤ). v <ℤ z) e h

ends_alike : (a s : Interval) → LiesIn a s → (a.end <ℤ s.end → ⊥) → a.end ≡ s.end
ends_alike a s lies none = by_lt_z a.end s.end (λ early. absurd (none early)) (λ late. omega (arith, ints))

session_is : (windows : List Interval) (s : Interval) → AreAllApart windows → IsSessionOf (Contains (windows ++ [])) s → Contains windows s
session_is windows s apart session = from session.begins.0 session.begins.1 session.begins.2
  where
    among : (w : Interval) → Contains (windows ++ []) w → Contains windows w
    among w at = subst (λ (l : List Interval). Contains l w) (append-nil windows) at

    from : (a : Interval) → Contains (windows ++ []) a → a.start ≡ s.start → Contains windows s
    from a at begins = elim (session.apart a at) [
      | inl lies ↦ subst (Contains windows) (same_interval a s begins (ends_alike a s lies whole)) (among a at)
      | inr off ↦ absurd (begins_alone a s some begins session.ordered off)
    ]
      where
        some : a.start <ℤ a.end
        some = All-contains IsNonEmpty windows a apart.some (among a at)

        -- no other window reaches over its end
        whole : a.end <ℤ s.end → ⊥
        whole early =
            let over = session.joined a.end (starts_alike a.start s.start a.end begins some, early) in
            elim (apart.each a over.0 (among a at) (among over.0 over.1)) [
              | inl same ↦ later a.end over.0.end (ap (λ (w : Interval). w.end) same) over.2.1
              | inr off ↦ over_end a over.0 some over.2.0 over.2.1 off
            ]
          where
            later : (x y : ℤ) → x ≡ y → x <ℤ y → ⊥
            later x y e h = omega (arith, ints)

-- ---- one Group and key

module _ (rules : GroupRules) (node : ℕ) (key : Value) (c : ℕ) (before after : ℤ) (cells new : List Cell) (fired : List Pane)
    (round : IsRound rules node key c before after [] cells new fired)
    (apart : rules.merges ≡ true → AreAllApart (open_windows rules before cells)) (none_due : All (λ cell. firing_of rules after cell ≡ None) cells) where
  -- each window that is opened has its cell
  all_stand : All (λ (o : Opening). list_any (stands_as o.span) cells ≡ true) round.openings
  all_stand = by rules.merges refl
    where
      by : (b : Bool) → rules.merges ≡ b → All (λ (o : Opening). list_any (stands_as o.span) cells ≡ true) round.openings
      by true merges =
          let over : AreSessionsOver [] (open_windows rules before cells) (map (λ opening. opening.span) round.openings) =
          subst (λ (b : Bool). AreWindowsFor b [] (open_windows rules before cells) (map (λ opening. opening.span) round.openings)) merges round.windows in
          All-weaker (λ (o : Opening). IsSessionOf (Contains (open_windows rules before cells ++ [])) o.span) (λ (o : Opening). list_any (stands_as o.span) cells ≡ true)
          (λ o session. (open_says rules before cells o.span (session_is (open_windows rules before cells) o.span (apart merges) session)).0) round.openings
          (All-unmap (IsSessionOf (Contains (open_windows rules before cells ++ []))) (λ (o : Opening). o.span) round.openings over.each)
      by false off =
          let exact : (w : Interval) → Contains (map (λ opening. opening.span) round.openings) w ↔ Contains [] w =
          subst (λ (b : Bool). AreWindowsFor b [] (open_windows rules before cells) (map (λ opening. opening.span) round.openings)) off round.windows in
          All-unmap (λ (w : Interval). list_any (stands_as w) cells ≡ true) (λ (o : Opening). o.span) round.openings
          (λ k d within. absurd (none_contained (get_or (map (λ (o : Opening). o.span) round.openings) k d)
          ((exact (get_or (map (λ (o : Opening). o.span) round.openings) k d)).0 (Contains-get_or (map (λ (o : Opening). o.span) round.openings) k d within))))

  nothing_opened : (openings : List Opening) → All (λ (o : Opening). list_any (stands_as o.span) cells ≡ true) openings → opened_all rules before node openings cells ≡ cells
  nothing_opened [] all = refl
  nothing_opened (o ∷ openings) all =
      ap (opened_all rules before node openings) (there (All-head (λ (o : Opening). list_any (stands_as o.span) cells ≡ true) o openings all))
      ∙ nothing_opened openings (All-tail (λ (o : Opening). list_any (stands_as o.span) cells ≡ true) o openings all)
    where
      there : list_any (stands_as o.span) cells ≡ true → opened rules before node cells o ≡ cells
      there e =
          ap (λ b. cond b cells (map (once_opened rules before o.span) cells
          ++ fresh_cell node o.key o.span (flat_map (handed_over rules before o.span) cells) ∷ [])) e

  placed_same : round.placed ≡ cells
  placed_same = round.places ∙ nothing_opened round.openings all_stand

  rest : (xs : List Cell) → All (λ cell. firing_of rules after cell ≡ None) xs → map (after_firing rules after) xs ≡ xs
  rest [] none = refl
  rest (x ∷ xs) none =
      λ i. once_fired (All-head (λ cell. firing_of rules after cell ≡ None) x xs none i) x ∷ rest xs (All-tail (λ cell. firing_of rules after cell ≡ None) x xs none) i

  pub round_stays : new ≡ cells
  round_stays = round.fires ∙ ap (map (after_firing rules after)) placed_same ∙ rest cells none_due

  pub none_fired : fired ≡ []
  none_fired = empty fired only
    where
      only : All (λ pane. list_any (is_fired_by rules after pane) cells ≡ true) fired
      only = subst (λ (l : List Cell). All (λ pane. list_any (is_fired_by rules after pane) l ≡ true) fired) placed_same round.panes.only

      empty : (panes : List Pane) → All (λ pane. list_any (is_fired_by rules after pane) cells ≡ true) panes → panes ≡ []
      empty [] all = refl
      empty (p ∷ ps) all =
          let on = All-head (λ pane. list_any (is_fired_by rules after pane) cells ≡ true) p ps all in
          let off = list_any_none (is_fired_by rules after p) cells
          (All-weaker (λ cell. firing_of rules after cell ≡ None) (λ cell. is_fired_by rules after p cell ≡ false)
          (λ cell none. ap (λ (t : Option Timing). is_some t && is_of_window cell.span p) none) cells none_due) in
          let no : true ≡ false = sym on ∙ off in absurd (cc)

-- ---- one Group

nothing_keyed : (node : ℕ) (key : Value) (arrivals : List Arrival) → All (λ arrival. arrival.node ≡ node → ⊥) arrivals → elements_keyed node key arrivals ≡ []
nothing_keyed node key arrivals none =
    ap (map (λ arrival. arrival.element))
    (filter_none (λ arrival. arrival.node == node && is_keyed key arrival.element) arrivals
    (All-weaker (λ (arrival : Arrival). arrival.node ≡ node → ⊥) (λ (arrival : Arrival). (arrival.node == node && is_keyed key arrival.element) ≡ false)
    (λ arrival off. and_left (arrival.node == node) (is_keyed key arrival.element) (apart arrival.node node off)) arrivals none))
  where
    apart : (a b : ℕ) → (a ≡ b → ⊥) → (a == b) ≡ false
    apart a b other = grind (arith, nat_tests)

module _ (plan : Plan) (c : ℕ) (before after : List StageMarks) (arrivals : List Arrival) (cells new : List Cell) (fired : List Pane) (node : ℕ)
    (group : is_group plan node ≡ true) (apart : AreOpenApart plan before cells) (none_due : All (λ cell. cell.node ≡ node → FiresNoMore plan after cell) cells)
    (elsewhere : All (λ arrival. arrival.node ≡ node → ⊥) arrivals) (rounds : AreRounds plan c before after arrivals cells new fired) where
  module _ (key : Value) where
    quiet_round : IsRound (rules_of plan node) node key c (marks_at before node).mark_in (marks_at after node).mark_in [] (cells_keyed node key cells) (cells_keyed node key new) (panes_at node key fired)
    quiet_round =
        subst (λ (es : List Element). IsRound (rules_of plan node) node key c (marks_at before node).mark_in (marks_at after node).mark_in es (cells_keyed node key cells) (cells_keyed node key new) (panes_at node key fired))
        (nothing_keyed node key arrivals elsewhere) (rounds.each node key group)

    none_here : All (λ cell. firing_of (rules_of plan node) (marks_at after node).mark_in cell ≡ None) (cells_keyed node key cells)
    none_here k d within =
        let here = cells_here node key cells k d within in
        subst (λ (n : ℕ). firing_of (rules_of plan n) (marks_at after n).mark_in (get_or (cells_keyed node key cells) k d) ≡ None) here
        (All-filter (is_cell_at_key node key) (λ cell. cell.node ≡ node → FiresNoMore plan after cell) cells none_due k d within here)

    pub cells_stay : cells_keyed node key new ≡ cells_keyed node key cells
    cells_stay =
        round_stays (rules_of plan node) node key c (marks_at before node).mark_in (marks_at after node).mark_in (cells_keyed node key cells) (cells_keyed node key new) (panes_at node key fired)
        quiet_round (λ merges. apart.each node key group merges) none_here

    no_panes : panes_at node key fired ≡ []
    no_panes =
        none_fired (rules_of plan node) node key c (marks_at before node).mark_in (marks_at after node).mark_in (cells_keyed node key cells) (cells_keyed node key new) (panes_at node key fired)
        quiet_round (λ merges. apart.each node key group merges) none_here

  pub none_fires : All (λ pane. pane.node ≡ node → ⊥) fired
  none_fires k d within at =
      let p = get_or fired k d in
      let own : is_pane_at_key node (key_of p.element) p ≡ true =
      and_from (p.node == node) (is_keyed (key_of p.element) p.element) (eq-eqb p.node node at) ((bytes_eq-Decides (spelling (key_of p.element)) (spelling (key_of p.element))).1 refl) in
      none_contained p (subst (λ (l : List Pane). Contains l p) (no_panes (key_of p.element)) (contains_filter (is_pane_at_key node (key_of p.element)) fired p (Contains-get_or fired k d within) own))
