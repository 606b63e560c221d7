-- A round of one Group and key keeps what is legal, and loses no entry.
use Rattle.std.proofs.Common.{◌≡◌, inl, inr, ℕ, suc, ◌≤◌, ℤ, Bool, true, false, List, [], ◌∷◌, ◌++◌, map, get_or, refl, sym, ap, subst, ◌∙◌, arith}
use Rattle.std.specs.Prelude.{◌&&◌, not, ◌≤ℤ◌}
use Rattle.std.specs.List.{All, Contains, filter}
use Rattle.std.proofs.lemmas.Bool.{and_parts, not-true}
use Rattle.std.proofs.lemmas.Int.{ints}
use Rattle.std.proofs.lemmas.List.Elements.{All-nil, All-cons, All-contains, All-map, All-weaker, filter_passes}
use Rattle.beam_values.specs.Bags.{IsSameBag}
use Rattle.beam_values.specs.Firing.{is_expired}
use Rattle.beam_values.specs.Intervals.{Interval}
use Rattle.beam_values.specs.Sessions.{IsSessionOf}
use Rattle.beam_values.specs.Spans.{same_span, lies_in}
use Rattle.beam_values.specs.declared.value.Value.{Value}
use Rattle.beam_values.specs.declared.element.Element.{Element}
use Rattle.beam_values.specs.declared.cell.Cell.{Cell}
use Rattle.beam_values.specs.declared.cell.Entry.{Entry}
use Rattle.beam_values.specs.declared.cell.Pane.{Pane}
use Rattle.beam_values.specs.declared.plan.Trigger.{Trigger}
use Rattle.beam_values.proofs.Sessions.{one_or_apart}
use Rattle.beam_model.specs.Panes.{Taken, GroupRules, taken_entry, is_late, IsLegalHistory, AreLegalCells}
use Rattle.group_cells.specs.Placing.{is_absorbed, opened_all, put_all}
use Rattle.group_cells.specs.Cells.{after_firing, AreTheirPanes}
use Rattle.group_cells.specs.Rounds.{is_in_time, entry_of, open_windows, AreWindowsFor, IsRound}
use Rattle.group_cells.proofs.WindowTests.{fits, span_itself, off_itself, lies_from, lies_test}
use Rattle.group_cells.proofs.WindowSteps.{IsIn}
use Rattle.group_cells.proofs.AllOpened.{spans, each_stands}
use Rattle.group_cells.proofs.MovedEntries.{all_taken, HasPlace, moved_put}
use Rattle.group_cells.proofs.FiredCells.{fire_taken}
use Rattle.group_cells.proofs.OneCommit.{IsCellsCommit, history_after, cells_after}
use Rattle.group_cells.proofs.OpenedWindows.{in_contains, contains_in, covered, own_spans, Gapped, step_for}

-- ---- no window for which a cell is opened absorbs another

apart_windows : (b : Bool) (trigger : Trigger) (before : ℤ) (own open_ windows : List Interval) → AreWindowsFor b own open_ windows
    → (s w : Interval) → IsIn s windows → IsIn w windows → is_absorbed (record { merges = b; trigger = trigger }) before s w ≡ false
apart_windows false trigger before own open_ windows are s w at other = refl
apart_windows true trigger before own open_ windows are s w at other = by (is_absorbed (record { merges = true; trigger = trigger }) before s w) refl
  where
    session : (v : Interval) → IsIn v windows → IsSessionOf (Contains (open_ ++ own)) v
    session v inside = All-contains (IsSessionOf (Contains (open_ ++ own))) windows v are.each (in_contains v windows inside)

    by : (b : Bool) → is_absorbed (record { merges = true; trigger = trigger }) before s w ≡ b → b ≡ false
    by false e = refl
    by true e =
        let outer = and_parts (not (is_expired trigger w.end before)) (lies_in w s && not (same_span w s)) e in
        let inner = and_parts (lies_in w s) (not (same_span w s)) outer.1 in
        let lies = lies_from w s inner.0 in
        let some = (session w other).ordered in
        elim (one_or_apart (Contains (open_ ++ own)) w s (session w other) (session s at)) [
          | inl same ↦ absurd (off_itself w s same (not-true (same_span w s) inner.1))
          | inr away ↦ absurd (omega (arith, ints))
        ]

-- each own window belongs to one of them
own_place : (b : Bool) (own open_ windows : List Interval) → AreWindowsFor b own open_ windows → (v : Interval) → IsIn v own → (w : Interval) × IsIn w windows × (fits b v w ≡ true)
own_place false own open_ windows are v inside = (v, contains_in v windows ((are v).1 (in_contains v own inside)), span_itself v)
own_place true own open_ windows are v inside = let l = covered own open_ windows v are inside in (l.0, l.1, lies_test v l.0 l.2)

listed_own : (entries : List Entry) → All (λ entry. IsIn entry.element.span (own_spans entries)) entries
listed_own [] = All-nil (λ (entry : Entry). IsIn entry.element.span [])
listed_own (entry ∷ entries) =
    All-cons (λ (e : Entry). IsIn e.element.span (own_spans (entry ∷ entries))) entry entries (inl refl)
    (All-weaker (λ (e : Entry). IsIn e.element.span (own_spans entries)) (λ (e : Entry). IsIn e.element.span (own_spans (entry ∷ entries))) (λ e h. inr h) entries (listed_own entries))

spans_of_entries : (c : ℕ) (elements : List Element) → map (λ (e : Element). e.span) elements ≡ own_spans (map (entry_of c) elements)
spans_of_entries c [] = refl
spans_of_entries c (e ∷ elements) = ap (λ l. e.span ∷ l) (spans_of_entries c elements)

module _ (rules : GroupRules) (node : ℕ) (key : Value) (c : ℕ) (before after : ℤ) (arrivals : List Element) (cells new : List Cell) (fired : List Pane)
    (round : IsRound rules node key c before after arrivals cells new fired) where
  abbrev pub new_entries : List Entry
  new_entries = map (entry_of c) (filter (is_in_time rules before) arrivals)

  abbrev put_cells : List Cell
  put_cells = put_all rules new_entries (opened_all rules before node round.openings cells)

  pub windows_for : AreWindowsFor rules.merges (own_spans new_entries) (open_windows rules before cells) (spans round.openings)
  windows_for =
      subst (λ (own : List Interval). AreWindowsFor rules.merges own (open_windows rules before cells) (spans round.openings))
      (spans_of_entries c (filter (is_in_time rules before) arrivals)) round.windows

  places : All (HasPlace rules (opened_all rules before node round.openings cells)) new_entries
  places k d within =
      let place = own_place rules.merges (own_spans new_entries) (open_windows rules before cells) (spans round.openings) windows_for (get_or new_entries k d).element.span (listed_own new_entries k d within) in (
        place.0,
        each_stands rules before node round.openings cells
            (apart_windows rules.merges rules.trigger before (own_spans new_entries) (open_windows rules before cells) (spans round.openings) windows_for) place.0 place.1,
        place.2,
      )

  pub is_after : new ≡ map (after_firing rules after) put_cells
  is_after = round.fires ∙ ap (map (after_firing rules after)) round.places

  -- **a round loses no arrival and no entry**
  pub round_entries : IsSameBag (all_taken node new) (all_taken node cells ++ map (taken_entry node) new_entries)
  round_entries =
      subst (λ (l : List Taken). IsSameBag l (all_taken node cells ++ map (taken_entry node) new_entries))
      (sym (ap (all_taken node) is_after ∙ fire_taken rules node after put_cells))
      (moved_put rules before node round.openings new_entries cells places)

-- **a round keeps what is legal**
module _ (rules : GroupRules) (node : ℕ) (key : Value) (gap : ℤ) (mark new_mark : ℕ → ℤ) (c : ℕ) (arrivals : List Element) (cells new : List Cell) (dropped late : List Taken) (panes newest : List Pane)
    (history : IsLegalHistory rules node key mark c (all_taken node cells) dropped panes) (legal : AreLegalCells rules node mark c (all_taken node cells) panes cells)
    (rises : (d : ℕ) → suc d ≤ c → mark d ≤ℤ mark (suc d)) (marks_same : (i : ℕ) → i ≤ c → new_mark i ≡ mark i)
    (gapped : rules.merges ≡ true → Gapped gap (all_taken node cells) (map (entry_of (suc c)) (filter (is_in_time rules (mark c)) arrivals)))
    (lates : All (λ t. (t.commit ≡ suc c) × (is_late rules mark (suc c) t.element.span ≡ true)) late)
    (commits : All (λ pane. pane.commit ≡ suc c) newest)
    (round : IsRound rules node key (suc c) (mark c) (new_mark (suc c)) arrivals cells new newest) where
  abbrev entries : List Entry
  entries = map (entry_of (suc c)) (filter (is_in_time rules (mark c)) arrivals)

  kept : All (λ (e : Entry). is_late rules mark (suc c) e.element.span ≡ false) entries
  kept = All-map (λ (e : Entry). is_late rules mark (suc c) e.element.span ≡ false) (entry_of (suc c)) (filter (is_in_time rules (mark c)) arrivals)
      (All-weaker (λ e. is_in_time rules (mark c) e ≡ true) (λ e. is_late rules mark (suc c) e.span ≡ false) (λ e h. not-true (is_expired rules.trigger e.span.end (mark c)) h)
      (filter (is_in_time rules (mark c)) arrivals) (filter_passes (is_in_time rules (mark c)) arrivals))

  commit : IsCellsCommit rules node key mark new_mark c cells entries late round.openings newest
  commit = record {
    marks_same = marks_same;
    new_entries = All-map (λ (e : Entry). (e.commit ≡ suc c) × (e.shown ≡ false)) (entry_of (suc c)) (filter (is_in_time rules (mark c)) arrivals) (λ k d within. (refl, refl));
    new_kept = kept;
    late_commits = λ k d within. (lates k d within).0;
    new_late = λ k d within. (lates k d within).1;
    pane_commits = commits;
    step = step_for node key gap mark c cells dropped panes entries round.openings
        (All-map (λ (e : Entry). e.commit ≡ suc c) (entry_of (suc c)) (filter (is_in_time rules (mark c)) arrivals) (λ k d within. refl)) rises
        rules.merges rules.trigger history legal gapped kept (windows_for rules node key (suc c) (mark c) (new_mark (suc c)) arrivals cells new newest round);
    fire = subst (λ (l : List Cell). AreTheirPanes rules node key (suc c) (new_mark (suc c)) l newest) round.places round.panes;
  }

  was : new ≡ map (after_firing rules (new_mark (suc c))) (put_all rules entries (opened_all rules (mark c) node round.openings cells))
  was = is_after rules node key (suc c) (mark c) (new_mark (suc c)) arrivals cells new newest round

  pub round_history : IsLegalHistory rules node key new_mark (suc c) (all_taken node new) (dropped ++ late) (panes ++ newest)
  round_history =
      subst (λ (l : List Cell). IsLegalHistory rules node key new_mark (suc c) (all_taken node l) (dropped ++ late) (panes ++ newest)) (sym was)
      (history_after rules node key mark new_mark c cells entries dropped late round.openings panes newest history legal commit)

  pub round_cells : AreLegalCells rules node new_mark (suc c) (all_taken node new) (panes ++ newest) new
  round_cells =
      subst (λ (l : List Cell). AreLegalCells rules node new_mark (suc c) (all_taken node l) (panes ++ newest) l) (sym was)
      (cells_after rules node key mark new_mark c cells entries dropped late round.openings panes newest history legal commit)
