-- What is known of the panes of a book whose Groups above a barrier have the default trigger.
use Rattle.std.proofs.Common.{◌≡◌, inl, inr, ℕ, zero, suc, ◌-◌, ◌<◌, ◌≤◌, ℤ, Bool, true, false, List, [], length, get_or, map, refl, sym, ap, subst, arith}
use Rattle.std.specs.Prelude.{Option, Some, None, ◌==◌, ◌&&◌, ◌≤ℤ◌, ◌<ℤ◌, bytes_eq, unwrap_or}
use Rattle.std.specs.List.{All}
use Rattle.std.specs.Option.{option_map}
use Rattle.std.proofs.lemmas.Bool.{and_parts, and_from, cases_lt, eqb-true}
use Rattle.std.proofs.lemmas.Bool.Decides.{nat_tests}
use Rattle.std.proofs.lemmas.Int.{ints}
use Rattle.std.proofs.lemmas.Option.{slice_get-get_or}
use Rattle.std.proofs.lemmas.List.Elements.{All-nil, All-cons, All-filter, filter_passes}
use Rattle.std.proofs.lemmas.Slice.Eq.{bytes_eq-Decides}
use Rattle.beam_values.specs.Grouping.{key_of, last_time}
use Rattle.beam_values.specs.Intervals.{Interval}
use Rattle.beam_values.specs.Marks.{marks_at}
use Rattle.beam_values.specs.Nodes.{is_above, is_group}
use Rattle.beam_values.specs.Spans.{same_span}
use Rattle.beam_values.specs.Spelling.{spelling}
use Rattle.beam_values.specs.Times.{least_time}
use Rattle.beam_values.specs.declared.cell.Cell.{Cell}
use Rattle.beam_values.specs.declared.cell.Dropped.{Dropped}
use Rattle.beam_values.specs.declared.cell.Pane.{Pane}
use Rattle.beam_values.specs.declared.element.Timing.{Timing}
use Rattle.beam_values.specs.declared.marks.CommitMarks.{CommitMarks}
use Rattle.beam_values.specs.declared.plan.Plan.{Plan}
use Rattle.beam_values.specs.declared.plan.Trigger.{Trigger}
use Rattle.beam_values.specs.declared.value.Value.{Value}
use Rattle.beam_model.specs.Panes.{ArePanesLegal, GroupRules, IsFiredAs, IsLegalHistory, Stands, StandsNext, Taken, arrives, is_at_key, is_of_window, is_pane_at_key, is_sessions, mark_after, panes_at, panes_in, rules_of, taken_at, taken_by, taken_drop}
use Rattle.beam_model.specs.Plain.{HasDefaultTriggersAbove}
use Rattle.beam_model.specs.Plans.{default_trigger}
use Rattle.beam_values.specs.Nodes.{strategy_of}
use Rattle.group_cells.specs.Commits.{NeverFalls, as_commit}
use Rattle.group_cells.proofs.WindowTests.{span_itself, span_sound}
use Rattle.book_core.proofs.Through.{passes_have}
use Rattle.ended_runs.proofs.Passing.{all_fired, from_count, not_passed_before, passing}
use Rattle.ended_runs.proofs.ToCome.{IsPaneWell}

-- ---- marks

-- no mark into a node falls
pub marks_rise : (commits : List CommitMarks) → NeverFalls commits → (node : ℕ) (a b : ℕ) → a ≤ b → b < length commits → mark_after commits node a ≤ℤ mark_after commits node b
marks_rise commits never node a zero low inside = let same : a ≡ 0 = omega (arith, low) in subst (λ (n : ℕ). mark_after commits node a ≤ℤ mark_after commits node n) same (omega (arith, ints))
marks_rise commits never node a (suc b) low inside = elim (cases_lt b a) [
  | inl now ↦ let same : a ≡ suc b = omega (arith, low, now) in subst (λ (n : ℕ). mark_after commits node a ≤ℤ mark_after commits node n) same (omega (arith, ints))
  | inr before ↦
      let first = marks_rise commits never node a b before (omega (arith, inside)) in
      let next = step in
      omega (arith, ints, first, next)
]
  where
    read : Option CommitMarks → ℤ
    read found = (marks_at (unwrap_or (option_map (λ (commit : CommitMarks). commit.marks) found) []) node).mark_in

    step : mark_after commits node b ≤ℤ mark_after commits node (suc b)
    step =
        let old = get_or commits b (as_commit []) in
        let new = get_or commits (suc b) (as_commit []) in
        let at_old = slice_get-get_or commits b (as_commit []) (omega (arith, inside)) in
        let at_new = slice_get-get_or commits (suc b) (as_commit []) inside in
        subst (λ (found : Option CommitMarks). read found ≤ℤ mark_after commits node (suc b)) (sym at_old)
        (subst (λ (found : Option CommitMarks). (marks_at old.marks node).mark_in ≤ℤ read found) (sym at_new)
        (never.each b old new at_old at_new node).0)

-- ---- windows

abbrev pub IsSpanWell : Interval → Type 0
IsSpanWell w = (least_time <ℤ w.end) × (w.start <ℤ w.end)

module _ (rules : GroupRules) (mark : ℕ → ℤ) (taken : List Taken) (own : All (λ t. IsSpanWell t.element.span) taken) where
  arrived_well : (c : ℕ) (w : Interval) → arrives taken c w ≡ true → IsSpanWell w
  arrived_well c w arrived = by (passing (λ t. t.commit == c && same_span t.element.span w) taken (from_count (λ t. t.commit == c && same_span t.element.span w) taken arrived))
    where
      by : (k : ℕ) × (d : Taken) × (k < length taken) × (((get_or taken k d).commit == c && same_span (get_or taken k d).element.span w) ≡ true) → IsSpanWell w
      by (k, d, inside, passes) =
          subst IsSpanWell (span_sound (get_or taken k d).element.span w (and_parts ((get_or taken k d).commit == c) (same_span (get_or taken k d).element.span w) passes).1) (own k d inside)

  pub stands_well : (c : ℕ) (w : Interval) → Stands rules mark (arrives taken) c w → IsSpanWell w
  stands_well zero w stands = absurd stands
  stands_well (suc c) w stands = by (stands_well c) rules.merges stands
    where
      by : ((v : Interval) → Stands rules mark (arrives taken) c v → IsSpanWell v) → (m : Bool) → StandsNext (record { merges = m; trigger = rules.trigger }) (mark c) (Stands rules mark (arrives taken) c) (λ v. arrives taken (suc c) v ≡ true) w → IsSpanWell w
      by before true (inl stood) = before w stood.0
      by before true (inr session) =
          let last = session.ends in
          let well : IsSpanWell last.0 = elim last.1 [ inl stood ↦ before last.0 stood.0 | inr arrived ↦ arrived_well (suc c) last.0 arrived ] in
          (subst (λ (z : ℤ). least_time <ℤ z) last.2 well.0, session.ordered)
      by before false (inl stood) = before w stood
      by before false (inr arrived) = arrived_well (suc c) w arrived

-- ---- one key

module _ (rules : GroupRules) (node : ℕ) (key : Value) (mark : ℕ → ℤ) (last : ℕ) (taken dropped : List Taken) (panes : List Pane)
    (history : IsLegalHistory rules node key mark last taken dropped panes) where
  fired_time : (c : ℕ) (w : Interval) (index : ℕ) (entries : List Taken) (o : Option Timing) (fired : List Pane) → IsFiredAs node key c w index entries o fired
      → All (λ pane. pane.element.time ≡ last_time w) fired
  fired_time c w index entries None fired is = subst (All (λ (pane : Pane). pane.element.time ≡ last_time w)) (sym is) (All-nil (λ (pane : Pane). pane.element.time ≡ last_time w))
  fired_time c w index entries (Some timing) fired is =
      subst (All (λ (pane : Pane). pane.element.time ≡ last_time w)) (sym is.1)
      (All-cons (λ (pane : Pane). pane.element.time ≡ last_time w) is.0 [] (ap (λ e. e.time) is.2.holds) (All-nil (λ (pane : Pane). pane.element.time ≡ last_time w)))

  pub key_times : All (λ p. p.element.time ≡ last_time p.element.span) panes
  key_times k d inside =
      let pane = get_or panes k d in
      let c = pane.commit in
      let w = pane.element.span in
      let bounds = history.pane_commits k d inside in
      passes_have (λ (p : Pane). p.commit == c && is_of_window w p) (λ (p : Pane). p.element.time ≡ last_time w) panes
      (fired_time c w _ _ _ (panes_in c w panes) (history.fired c w bounds.0 bounds.1 (history.only k d inside))) k d inside (own pane)
    where
      own : (p : Pane) → (p.commit == p.commit && is_of_window p.element.span p) ≡ true
      own p = let same : (p.commit == p.commit) ≡ true = grind (arith, nat_tests) in and_from (p.commit == p.commit) (is_of_window p.element.span p) same (span_itself p.element.span)

-- ---- all panes

-- what holds of the panes of each Group and key holds of all
pub lift_panes : (plan : Plan) (panes : List Pane) → All (λ p. is_group plan p.node ≡ true) panes → (Q : Pane → Type 0)
    → ((node : ℕ) (key : Value) → is_group plan node ≡ true → All Q (panes_at node key panes)) → All Q panes
lift_panes plan panes groups Q each k d inside =
    at (get_or panes k d) (groups k d inside) (λ node key group. passes_have (is_pane_at_key node key) Q panes (each node key group) k d inside)
  where
    at : (p : Pane) → is_group plan p.node ≡ true → ((node : ℕ) (key : Value) → is_group plan node ≡ true → is_pane_at_key node key p ≡ true → Q p) → Q p
    at p group have =
        let same : (p.node == p.node) ≡ true = grind (arith, nat_tests) in
        have p.node (key_of p.element) group
        (and_from (p.node == p.node) (bytes_eq (spelling (key_of p.element)) (spelling (key_of p.element))) same
        ((bytes_eq-Decides (spelling (key_of p.element)) (spelling (key_of p.element))).1 refl))

pub pane_times : (plan : Plan) (commits : List CommitMarks) (cells : List Cell) (dropped : List Dropped) (panes : List Pane) → ArePanesLegal plan commits cells dropped panes
    → All (λ p. p.element.time ≡ last_time p.element.span) panes
pane_times plan commits cells dropped panes legal =
    lift_panes plan panes legal.panes_at (λ (p : Pane). p.element.time ≡ last_time p.element.span)
    (λ node key group.
    key_times (rules_of plan node) node key (mark_after commits node) (length commits - 1) (taken_at node key (taken_by cells)) (taken_at node key (map taken_drop dropped))
    (panes_at node key panes) (legal.each node key group).history)

-- the node of what is kept
pub kept_node : (node : ℕ) (key : Value) (panes : List Pane) → All (λ p. p.node ≡ node) (panes_at node key panes)
kept_node node key panes k d inside =
    let p = get_or (panes_at node key panes) k d in
    eqb-true p.node node (and_parts (p.node == node) (bytes_eq (spelling (key_of p.element)) (spelling key)) (filter_passes (is_pane_at_key node key) panes k d inside)).0

module _ (plan : Plan) (to : ℕ) (triggers : HasDefaultTriggersAbove plan to) (commits : List CommitMarks) (cells : List Cell) (dropped : List Dropped) (panes : List Pane)
    (legal : ArePanesLegal plan commits cells dropped panes) where
  -- what is legal of a Group and key, by the default trigger
  pub default_history : (node : ℕ) (key : Value) → is_group plan node ≡ true → is_above plan node to ≡ true
      → IsLegalHistory (record { merges = is_sessions (strategy_of plan node); trigger = default_trigger }) node key (mark_after commits node) (length commits - 1)
      (taken_at node key (taken_by cells)) (taken_at node key (map taken_drop dropped)) (panes_at node key panes)
  default_history node key group above =
      subst (λ (t : Trigger). IsLegalHistory (record { merges = is_sessions (strategy_of plan node); trigger = t }) node key (mark_after commits node) (length commits - 1)
      (taken_at node key (taken_by cells)) (taken_at node key (map taken_drop dropped)) (panes_at node key panes)) (triggers node (group, above))
      (legal.each node key group).history

  -- before the commit of a pane the mark hadn't passed its window
  pub panes_early : NeverFalls commits → 1 ≤ length commits → All (λ p. is_above plan p.node to ≡ true → mark_after commits p.node (p.commit - 1) <ℤ p.element.span.end) panes
  panes_early never some =
      lift_panes plan panes legal.panes_at (λ (p : Pane). is_above plan p.node to ≡ true → mark_after commits p.node (p.commit - 1) <ℤ p.element.span.end)
      (λ node key group k d inside above.
      let p = get_or (panes_at node key panes) k d in
      let same = kept_node node key panes k d inside in
      let own : is_above plan node to ≡ true = subst (λ (n : ℕ). is_above plan n to ≡ true) same above in
      let rises : (a b : ℕ) → a ≤ b → b ≤ length commits - 1 → mark_after commits node a ≤ℤ mark_after commits node b =
      λ a b low high. marks_rise commits never node a b low (omega (arith, high, some)) in
      subst (λ (n : ℕ). mark_after commits n (p.commit - 1) <ℤ p.element.span.end) (sym same)
      (not_passed_before (is_sessions (strategy_of plan node)) node key (mark_after commits node) (length commits - 1) (taken_at node key (taken_by cells)) (taken_at node key (map taken_drop dropped))
      (panes_at node key panes) (default_history node key group own) rises p
      (all_fired (is_sessions (strategy_of plan node)) node key (mark_after commits node) (length commits - 1) (taken_at node key (taken_by cells)) (taken_at node key (map taken_drop dropped))
      (panes_at node key panes) (default_history node key group own) rises k d inside)))

  pub panes_well : All (λ t. is_above plan t.node to ≡ true → IsSpanWell t.element.span) (taken_by cells) → All (λ p. is_above plan p.node to ≡ true → IsPaneWell p) panes
  panes_well taken =
      lift_panes plan panes legal.panes_at (λ (p : Pane). is_above plan p.node to ≡ true → IsPaneWell p)
      (λ node key group k d inside above.
      let p = get_or (panes_at node key panes) k d in
      let same = kept_node node key panes k d inside in
      let history = (legal.each node key group).history in
      let well = stands_well (rules_of plan node) (mark_after commits node) (taken_at node key (taken_by cells))
      (λ j e within. All-filter (is_at_key node key) (λ t. is_above plan t.node to ≡ true → IsSpanWell t.element.span) (taken_by cells) taken j e within
      (at_node node key (get_or (taken_at node key (taken_by cells)) j e) (filter_passes (is_at_key node key) (taken_by cells) j e within) (subst (λ (n : ℕ). is_above plan n to ≡ true) same above)))
      p.commit p.element.span (history.only k d inside) in
      record {
        time = key_times (rules_of plan node) node key (mark_after commits node) (length commits - 1) (taken_at node key (taken_by cells)) (taken_at node key (map taken_drop dropped)) (panes_at node key panes) history k d inside;
        past = well.0;
        some = well.1;
      })
    where
      at_node : (node : ℕ) (key : Value) (t : Taken) → is_at_key node key t ≡ true → is_above plan node to ≡ true → is_above plan t.node to ≡ true
      at_node node key t at above =
          subst (λ (n : ℕ). is_above plan n to ≡ true) (sym (eqb-true t.node node (and_parts (t.node == node) (bytes_eq (spelling (key_of t.element)) (spelling key)) at).0)) above
