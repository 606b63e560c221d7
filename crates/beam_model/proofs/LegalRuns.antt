-- Legal panes and legal logs on computed examples: a run of two commits that is legal, and ones that are refused.
use Rattle.std.proofs.Common.{◌≡◌, ℕ, zero, suc, ◌+◌, ◌≤◌, ℤ, pos, Bool, true, false, cond, List, [], ◌∷◌, Option, Some, None, refl, sym, ◌∙◌, ap, subst, inl, inr, arith}
use Rattle.std.specs.Prelude.{codes, bytes_eq, map, length, nat_le, ◌==◌, ◌&&◌}
use Rattle.std.specs.Ordering.{int_eq}
use Rattle.std.specs.List.{All, count_by, list_any, slice_set}
use Rattle.std.proofs.lemmas.Bool.{and_parts, false≢true}
use Rattle.std.proofs.lemmas.Bool.Decides.{Decides-int_eq}
use Rattle.std.proofs.lemmas.Int.{ints}
use Rattle.std.proofs.lemmas.Slice.Eq.{bytes_eq-Decides}
use Rattle.std.proofs.lemmas.List.Elements.{All-from_recursion}
use Rattle.beam_values.specs.Grouping.{part_of, pane_as}
use Rattle.beam_values.specs.Intervals.{Interval}
use Rattle.beam_values.specs.Nodes.{is_group}
use Rattle.beam_values.specs.Sessions.{LiesIn}
use Rattle.beam_values.specs.Spans.{same_span}
use Rattle.beam_values.specs.Spelling.{spelling}
use Rattle.beam_values.specs.States.{KeptState, fresh_state, timer_of}
use Rattle.beam_values.specs.Times.{least_time, final_mark}
use Rattle.beam_values.specs.declared.cell.Cell.{Cell}
use Rattle.beam_values.specs.declared.cell.Entry.{Entry}
use Rattle.beam_values.specs.declared.cell.Pane.{Pane}
use Rattle.beam_values.specs.declared.element.Element.{Element}
use Rattle.beam_values.specs.declared.element.Timing.TheVariants.{OnTime, Unknown}
use Rattle.beam_values.specs.declared.log.KeyLog.{KeyLog}
use Rattle.beam_values.specs.declared.log.LogEntry.{LogEntry}
use Rattle.beam_values.specs.declared.log.LogInput.TheVariants.{Arrived}
use Rattle.beam_values.specs.declared.marks.CommitMarks.{CommitMarks}
use Rattle.beam_values.specs.declared.marks.StageMarks.{StageMarks}
use Rattle.beam_values.specs.declared.plan.Args.TheVariants.{Nothing, Two}
use Rattle.beam_values.specs.declared.plan.Estimator.TheVariants as estimator
use Rattle.beam_values.specs.declared.plan.NodeKind.TheVariants.{Source, WindowInto, Group, Stateful, Write}
use Rattle.beam_values.specs.declared.plan.Plan.{Plan}
use Rattle.beam_values.specs.declared.plan.SourceKind.TheVariants.{Count}
use Rattle.beam_values.specs.declared.plan.StateKind.TheVariants.{Dedupe}
use Rattle.beam_values.specs.declared.plan.Strategy.TheVariants.{Fixed}
use Rattle.beam_values.specs.declared.state_cell.StateCell.TheVariants.{Bag}
use Rattle.beam_values.specs.declared.value.Value.{Value}
use Rattle.beam_values.specs.declared.value.Value.TheViews.{out-roll-Value}
use Rattle.beam_values.proofs.Bags.{bag_from_same}
use Rattle.beam_model.specs.Logs.{Leads, IsLegalLog, AreLogsLegal}
use Rattle.beam_model.specs.Panes.{Taken, taken_entry, GroupRules, mark_after, arrives, Stands, IsCommit, IsLegalHistory, HasEntries, TellsPanes, shows, AreLegalCells, IsKeyed, IsLegalAt, IsFired, ArePanesLegal, entries_upto, panes_before, panes_in}
use Rattle.beam_model.specs.Plans.{node, default_trigger}
use Rattle.beam_model.specs.Sessions.{is_keyed}
use Rattle.beam_model.specs.Steps.{Stepped, steps}
use Rattle.beam_model.specs.Values.{blob, int, pair}
use Rattle.beam_model.proofs.Groupings.{same_span as same_interval}

-- ---- a Group of windows of ten milliseconds, which takes one element in commit 1 and fires its window in commit 2

abbrev plan : Plan
plan = record {
  version = 1;
  nodes = node (Source Count (Two 1 0) [] estimator.None) []
      ∷ node (WindowInto (Fixed (pos 10))) (0 ∷ [])
      ∷ node (Group default_trigger) (1 ∷ [])
      ∷ node (Write (codes "out")) (2 ∷ [])
      ∷ [];
}

abbrev window : Interval
window = record { start = pos 0; end = pos 10 }

abbrev key : Value
key = blob (codes "k")

abbrev element : Element
element = record { value = pair key (int (pos 7)); time = pos 3; span = window; pane = record { timing = Unknown; index = 0 } }

-- the mark after each node is the same
abbrev at_mark : ℤ → CommitMarks
at_mark mark = let stage : StageMarks = record { mark_in = mark; mark_out = mark } in record { marks = stage ∷ stage ∷ stage ∷ stage ∷ [] }

abbrev commits : List CommitMarks
commits = at_mark least_time ∷ at_mark (pos 5) ∷ at_mark final_mark ∷ []

abbrev entry : Entry
entry = record { element = element; commit = 1; shown = true }

abbrev cell : Cell
cell = record { node = 2; key = key; span = window; entries = entry ∷ []; next_index = 1; on_time = true; merged_into = None }

abbrev pane_of_index : ℕ → Pane
pane_of_index index = record { node = 2; element = pane_as (record { timing = OnTime; index = index }) key window (int (pos 7) ∷ []); commit = 2 }

abbrev pane : Pane
pane = pane_of_index 0

abbrev rules : GroupRules
rules = record { merges = false; trigger = default_trigger }

abbrev mark : ℕ → ℤ
mark = mark_after commits 2

abbrev taken : Taken
taken = taken_entry 2 entry

none : {X : Type 0} (P : X → Type 0) → All P []
none P = All-from_recursion P [] tt

one : {X : Type 0} (P : X → Type 0) (x : X) → P x → All P (x ∷ [])
one P x h = All-from_recursion P (x ∷ []) (h, tt)

-- ---- a key that the Group never took

nothing_stands : (c : ℕ) (w : Interval) → Stands rules mark (arrives []) c w → ⊥
nothing_stands zero w h = h
nothing_stands (suc c) w (inl h) = nothing_stands c w h
nothing_stands (suc c) w (inr h) = false≢true h

no_history : (k : Value) → IsLegalHistory rules 2 k mark 2 [] [] []
no_history k = record {
  kept = refl;
  late = none _;
  taken_commits = refl;
  dropped_commits = none _;
  pane_commits = none _;
  onward = λ c within v stands. absurd (nothing_stands c v stands);
  placed = λ c within v arrived. absurd (false≢true arrived);
  fired = λ c w first within stands. absurd (nothing_stands c w stands);
  only = none _;
}

no_cells : AreLegalCells rules 2 mark 2 [] [] []
no_cells = record {
  has = none _;
  tells = none _;
  once = λ w. omega arith;
  ever = λ c w within stands. absurd (nothing_stands c w stands);
}

-- ---- its own key

at_most_once : (b : Bool) → 0 + cond {A = ℕ} b 1 0 ≤ 1
at_most_once true = omega arith
at_most_once false = omega arith

own_window : (w : Interval) → same_span window w ≡ true → w ≡ window
own_window w h =
    let parts = and_parts (int_eq (pos 0) w.start) (int_eq (pos 10) w.end) h in
    sym (same_interval window w ((Decides-int_eq (pos 0) w.start).0 parts.0) ((Decides-int_eq (pos 10) w.end).0 parts.1))

arrived_once : (b : Bool) → nat_le 1 (0 + cond {A = ℕ} b 1 0) ≡ true → b ≡ true
arrived_once true h = refl
arrived_once false h = h

own_arrival : (c : ℕ) (w : Interval) → arrives (taken ∷ []) c w ≡ true → w ≡ window
own_arrival c w h = own_window w ((and_parts (1 == c) (same_span window w) (arrived_once (1 == c && same_span window w) h)).1)

own_stands : (c : ℕ) (w : Interval) → Stands rules mark (arrives (taken ∷ [])) c w → w ≡ window
own_stands zero w h = absurd h
own_stands (suc c) w (inl h) = own_stands c w h
own_stands (suc c) w (inr h) = own_arrival (suc c) w h

own_part : map (λ (t : Taken). part_of t.element) (taken ∷ []) ≡ int (pos 7) ∷ []
own_part = simp out-roll-Value refl

module _ (k : Value) (own : bytes_eq (spelling key) (spelling k) ≡ true) where
  fires : (c : ℕ) → 1 ≤ c → c ≤ 2 → IsFired rules 2 k c (mark c) window (entries_upto rules window c (taken ∷ [])) (panes_before c (pane ∷ [])) (panes_in c window (pane ∷ []))
  fires zero first within = absurd (omega arith)
  fires (suc zero) first within = refl
  fires (suc (suc zero)) first within = (
    pane,
    refl,
    record {
      parts = int (pos 7) ∷ [];
      holds = simp out-roll-Value refl;
      keyed = simp out-roll-Value own;
      ascending = λ j d from to. absurd (omega arith);
      all = bag_from_same (int (pos 7) ∷ []) (map (λ (t : Taken). part_of t.element) (taken ∷ [])) (sym own_part);
      here = refl;
      commit = refl;
    },
  )
  fires (suc (suc (suc c))) first within = absurd (omega arith)

  own_history : IsLegalHistory rules 2 k mark 2 (taken ∷ []) [] (pane ∷ [])
  own_history = record {
    kept = refl;
    late = none _;
    taken_commits = refl;
    dropped_commits = none _;
    pane_commits = one (λ (p : Pane). IsCommit 2 p.commit) pane (omega arith, omega arith);
    onward = λ c within v stands. (v, inl stands, (omega (arith, ints), omega (arith, ints)));
    placed = placed;
    fired = λ c w first within stands. at_window c w first within (own_stands c w stands);
    only = one (λ (p : Pane). Stands rules mark (arrives (taken ∷ [])) p.commit p.element.span) pane (inl (inr refl));
  }
    where
      placed : (c : ℕ) → c ≤ 2 → (v : Interval) → arrives (taken ∷ []) c v ≡ true → (w : Interval) × Stands rules mark (arrives (taken ∷ [])) c w × LiesIn v w
      placed zero within v h = absurd (false≢true h)
      placed (suc c) within v h = (v, inr h, (omega (arith, ints), omega (arith, ints)))

      at_window : (c : ℕ) (w : Interval) → 1 ≤ c → c ≤ 2 → w ≡ window
          → IsFired rules 2 k c (mark c) w (entries_upto rules w c (taken ∷ [])) (panes_before c (pane ∷ [])) (panes_in c w (pane ∷ []))
      at_window c w first within is =
          let P : Interval → Type 0 = λ v. IsFired rules 2 k c (mark c) v (entries_upto rules v c (taken ∷ [])) (panes_before c (pane ∷ [])) (panes_in c v (pane ∷ [])) in
          subst P (sym is) (fires c first within)

own_cells : AreLegalCells rules 2 mark 2 (taken ∷ []) (pane ∷ []) (cell ∷ [])
own_cells = record {
  has = one (λ (it : Cell). HasEntries rules 2 mark 2 (taken ∷ []) it.span it.entries it.merged_into) cell (inl (inr refl), bag_from_same (taken ∷ []) (taken ∷ []) refl);
  tells = one (TellsPanes rules 2 (pane ∷ [])) cell (record { index = refl; on_time = refl; shown = one (λ (it : Entry). it.shown ≡ list_any (shows rules (taken_entry 2 it)) (pane ∷ [])) entry refl });
  once = λ w. at_most_once (same_span window w);
  ever = λ c w within stands. subst (λ (v : Interval). 1 ≤ count_by (λ (it : Cell). same_span it.span v) (cell ∷ [])) (sym (own_stands c w stands)) (omega arith);
}

-- ---- the run is legal

same_key : bytes_eq (spelling key) (spelling key) ≡ true
same_key = (bytes_eq-Decides (spelling key) (spelling key)).1 refl

own_key : is_keyed key element ≡ true
own_key = simp out-roll-Value same_key

legal_history : (k : Value) (b : Bool) → bytes_eq (spelling key) (spelling k) ≡ b
    → IsLegalHistory rules 2 k mark 2 (cond b (taken ∷ []) []) [] (cond b (pane ∷ []) [])
legal_history k true own = own_history k own
legal_history k false other = no_history k

legal_cells : (b : Bool) → AreLegalCells rules 2 mark 2 (cond b (taken ∷ []) []) (cond b (pane ∷ []) []) (cond b (cell ∷ []) [])
legal_cells true = own_cells
legal_cells false = no_cells

at_key : (k : Value) → IsLegalAt plan commits (cell ∷ []) [] (pane ∷ []) 2 k
at_key k = record {
  history = simp out-roll-Value (legal_history k (bytes_eq (spelling key) (spelling k)) refl);
  cells_tell = simp out-roll-Value (legal_cells (bytes_eq (spelling key) (spelling k)));
}

legal : ArePanesLegal plan commits (cell ∷ []) [] (pane ∷ [])
legal = record {
  sized = All-from_recursion (λ (commit : CommitMarks). length commit.marks ≡ 4) commits (refl, (refl, (refl, tt)));
  cells_at = one (λ (it : Cell). is_group plan it.node ≡ true) cell refl;
  dropped_at = none _;
  panes_at = one (λ (p : Pane). is_group plan p.node ≡ true) pane refl;
  each = each;
  keyed = one IsKeyed cell (one (λ (it : Entry). is_keyed key it.element ≡ true) entry own_key);
  ordered = λ j d from to. absurd (omega arith);
}
  where
    each : (n : ℕ) (k : Value) → is_group plan n ≡ true → IsLegalAt plan commits (cell ∷ []) [] (pane ∷ []) n k
    each zero k h = absurd (false≢true h)
    each (suc zero) k h = absurd (false≢true h)
    each (suc (suc zero)) k h = at_key k
    each (suc (suc (suc zero))) k h = absurd (false≢true h)
    each (suc (suc (suc (suc n)))) k h = absurd (false≢true h)

-- ---- runs that are not

two_on_time_panes_are_refused : ArePanesLegal plan commits (cell ∷ []) [] (pane ∷ pane_of_index 1 ∷ []) → ⊥
two_on_time_panes_are_refused h =
    let history = simp (out-roll-Value, same_key) at (h.each 2 key refl).history in
    let fired = history.fired 2 window (omega arith) (omega arith) (inl (inr refl)) in
    let two : pane ∷ pane_of_index 1 ∷ [] ≡ fired.0 ∷ [] = fired.1 in cc

dropping_in_time_is_refused : (cells : List Cell) (panes : List Pane)
    → ArePanesLegal plan commits cells (record { node = 2; element = element; commit = 1 } ∷ []) panes → ⊥
dropping_in_time_is_refused cells panes h =
    let late = simp (out-roll-Value, same_key) at (h.each 2 key refl).history.late in
    false≢true (late 0 taken (omega arith))

-- ---- a Stateful node over those windows: Dedupe gives a value once

abbrev deduped : Plan
deduped = record {
  version = 1;
  nodes = node (Source Count (Two 1 0) [] estimator.None) []
      ∷ node (WindowInto (Fixed (pos 10))) (0 ∷ [])
      ∷ node (Stateful Dedupe Nothing false) (1 ∷ [])
      ∷ node (Write (codes "out")) (2 ∷ [])
      ∷ [];
}

abbrev call_in : ℕ → List Element → LogEntry
call_in commit outputs = record { input = Arrived element; commit = commit; outputs = outputs }

abbrev log_of : List LogEntry → KeyLog
log_of entries = record { node = 2; key = key; span = window; entries = entries }

abbrev log : KeyLog
log = log_of (call_in 1 (element ∷ []) ∷ call_in 2 [] ∷ [])

-- the state after either call
abbrev seen : KeptState
seen = record fresh_state { cells = slice_set fresh_state.cells 0 (Bag (int (pos 7) ∷ [])) }

first_call : steps Dedupe Nothing key window (Arrived element) fresh_state ≡ Some (record { kept = seen; outputs = element ∷ [] })
first_call = simp out-roll-Value refl

same_part : bytes_eq (spelling (int (pos 7))) (spelling (int (pos 7))) ≡ true
same_part = (bytes_eq-Decides (spelling (int (pos 7))) (spelling (int (pos 7)))).1 refl

second_call : steps Dedupe Nothing key window (Arrived element) seen ≡ Some (record { kept = seen; outputs = [] })
second_call = simp (out-roll-Value, same_part) refl

no_timer : (name : ℕ) → timer_of seen.timers name ≡ None
no_timer zero = refl
no_timer (suc zero) = refl
no_timer (suc (suc zero)) = refl
no_timer (suc (suc (suc zero))) = refl
no_timer (suc (suc (suc (suc zero)))) = refl
no_timer (suc (suc (suc (suc (suc zero))))) = refl
no_timer (suc (suc (suc (suc (suc (suc zero)))))) = refl
no_timer (suc (suc (suc (suc (suc (suc (suc zero))))))) = refl
no_timer (suc (suc (suc (suc (suc (suc (suc (suc name)))))))) = refl

legal_log : AreLogsLegal deduped commits (log ∷ [])
legal_log = record {
  sized = All-from_recursion (λ (commit : CommitMarks). length commit.marks ≡ 4) commits (refl, (refl, (refl, tt)));
  of_commits = one (λ (l : KeyLog). All (λ entry. IsCommit 2 entry.commit) l.entries) log
      (All-from_recursion (λ (entry : LogEntry). IsCommit 2 entry.commit) log.entries ((omega arith, omega arith), ((omega arith, omega arith), tt)));
  each = one (IsLegalLog deduped commits) log (seen, leads, no_timer);
  once = λ n k span. at_most_once (2 == n && bytes_eq (spelling key) (spelling k) && same_span window span);
}
  where
    leads : Leads commits Dedupe Nothing log fresh_state 1 log.entries seen
    leads = (omega arith, (own_key, refl), (seen, first_call, (omega arith, (own_key, refl), (seen, second_call, refl))))

abbrev kept_in : Option Stepped → KeptState
kept_in (Some stepped) = stepped.kept
kept_in None = fresh_state

abbrev outputs_in : Option Stepped → List Element
outputs_in (Some stepped) = stepped.outputs
outputs_in None = []

twice : (after end : KeptState) → steps Dedupe Nothing key window (Arrived element) fresh_state ≡ Some (record { kept = after; outputs = element ∷ [] })
    → steps Dedupe Nothing key window (Arrived element) after ≡ Some (record { kept = end; outputs = element ∷ [] }) → ⊥
twice after end first second =
    let same : seen ≡ after = ap kept_in (sym first_call ∙ first) in
    let P : KeptState → Type 0 = λ kept. steps Dedupe Nothing key window (Arrived element) kept ≡ Some (record { kept = end; outputs = element ∷ [] }) in
    let none_again : [] ≡ element ∷ [] = ap outputs_in (sym second_call ∙ subst P (sym same) second) in cc

giving_a_value_twice_is_refused : AreLogsLegal deduped commits (log_of (call_in 1 (element ∷ []) ∷ call_in 2 (element ∷ []) ∷ []) ∷ []) → ⊥
giving_a_value_twice_is_refused h =
    let leads = (h.each 0 log (omega arith)).1 in
    let first : steps Dedupe Nothing key window (Arrived element) fresh_state ≡ Some (record { kept = leads.2.0; outputs = element ∷ [] }) = leads.2.1 in
    let second : steps Dedupe Nothing key window (Arrived element) leads.2.0 ≡ Some (record { kept = leads.2.2.2.0; outputs = element ∷ [] }) = leads.2.2.2.1 in
    twice leads.2.0 leads.2.2.2.0 first second
