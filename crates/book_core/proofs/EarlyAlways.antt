-- From the opening on, what Groups took ends early, and what they put out and what waits at key cells is early.
use Rattle.std.proofs.Common.{◌≡◌, ℕ, ◌-◌, ◌<◌, ℤ, pos, Bool, true, false, cond, List, [], ◌∷◌, ◌++◌, length, map, get_or, refl, sym, ap, subst, arith}
use Rattle.std.specs.Prelude.{Option, Some, None, ◌==◌, ◌&&◌, ◌≤ℤ◌, ◌-ℤ◌, bytes_eq, int_le, int_lt, slice_get, unwrap_or}
use Rattle.std.specs.List.{All, filter}
use Rattle.std.proofs.lemmas.Bool.{and_from}
use Rattle.std.proofs.lemmas.Bool.Decides.{nat_tests}
use Rattle.std.proofs.lemmas.Int.{ints}
use Rattle.std.proofs.lemmas.Slice.Eq.{bytes_eq-Decides}
use Rattle.std.proofs.lemmas.List.Elements.{All-nil, All-cons, All-append, All-weaker, All-map, All-filter}
use Rattle.beam_values.specs.Bags.{IsSameBag}
use Rattle.beam_values.specs.Grouping.{key_of, last_time}
use Rattle.beam_values.specs.Intervals.{Interval}
use Rattle.beam_values.specs.Lines.{offsets}
use Rattle.beam_values.specs.Nodes.{is_group}
use Rattle.beam_values.specs.Spelling.{spelling}
use Rattle.beam_values.specs.Times.{greatest_time, least_time}
use Rattle.beam_values.proofs.Bags.{bag_sym}
use Rattle.beam_values.specs.declared.arrival.Arrival.{Arrival}
use Rattle.beam_values.specs.declared.cell.Cell.{Cell}
use Rattle.beam_values.specs.declared.cell.Pane.{Pane}
use Rattle.beam_values.specs.declared.element.Timing.{Timing}
use Rattle.beam_values.specs.declared.file_text.FileText.{FileText}
use Rattle.beam_values.specs.declared.marks.StageMarks.{StageMarks}
use Rattle.beam_values.specs.Checked.{IsChecked, is_source_argument}
use Rattle.beam_values.specs.declared.piece.Piece.{Piece}
use Rattle.beam_values.specs.declared.plan.Node.{Node}
use Rattle.beam_values.specs.declared.plan.Plan.{Plan}
use Rattle.beam_values.specs.declared.value.Value.{Value}
use Rattle.beam_model.specs.Chains.{Output, Arrives}
use Rattle.beam_model.specs.Coverings.{is_item, item_at}
use Rattle.beam_model.specs.Panes.{GroupRules, IsFiredAs, IsLegalHistory, Taken, is_at_key, is_of_window, is_pane_at_key, mark_after, panes_at, panes_in, rules_of, taken_at, taken_by, taken_drop}
use Rattle.beam_model.specs.Positions.{SourceItem}
use Rattle.beam_model.specs.Spread.{spread_range}
use Rattle.beam_model.specs.Flow.{batch_outputs}
use Rattle.bundle_commit.specs.declared.job.Receipt.{Receipt}
use Rattle.group_cells.specs.Commits.{is_taken, taken_arrival}
use Rattle.group_cells.proofs.Counting.{All-unmap}
use Rattle.group_cells.proofs.WindowTests.{span_itself}
use Rattle.book_core.specs.Book.{SeenBook, last_marks, pane_at, panes_of}
use Rattle.book_core.specs.Changes.{with_slot, committed, tried_again}
use Rattle.book_core.specs.Facts.{AreCellsKept, EndsEarly, IsEarlyBook, IsEarlyPane, greatest_end}
use Rattle.book_core.specs.Jobs.{attempted_of, job_of}
use Rattle.book_core.specs.Sane.{IsSane}
use Rattle.book_core.specs.Work.{IsGiven, IsWorkOnItem, IsWorkOnRange, is_known, items_told, worked_to}
use Rattle.book_core.specs.declared.live.Live.{Live}
use Rattle.book_core.specs.declared.live.Live.TheVariants as live
use Rattle.book_core.specs.declared.live.WaitingPane.{WaitingPane}
use Rattle.book_core.proofs.KeysLogged.{AreKeysLogged}
use Rattle.book_core.proofs.Cases.{Keeps, Commits, LegalIn, Both}
use Rattle.book_core.proofs.CellsAlways.{StrategiesOfPlans, commit_entries, commit_legal}
use Rattle.book_core.proofs.CellsKept.{found_has}
use Rattle.book_core.proofs.EarlyEnds.{IsEarlyOutput, WindowsOfKind, batch_early, items_set, spread_early}
use Rattle.book_core.proofs.Ended.{SettingsOfPlans}
use Rattle.book_core.proofs.HeldOnce.{All-of_bag}
use Rattle.book_core.proofs.SaneResults.{StaysCelled, fail_stays, take_stays}
use Rattle.book_core.proofs.Shown.{stands_early}
use Rattle.book_core.proofs.Slots.{All-slice_get}
use Rattle.std.proofs.lemmas.List.Elements.{All-set}
use Rattle.beam_values.specs.States.{KeptState}
use Rattle.beam_values.specs.declared.fault.Cause.{Cause}
use Rattle.beam_values.specs.declared.fault.Cause.TheVariants.{Call, Read}
use Rattle.beam_values.specs.declared.fault.FaultNote.{FaultNote}
use Rattle.stateful_core.specs.Cells.{KeyCell}
use Rattle.stateful_core.specs.KeyWork.{key_outputs}
use Rattle.stateful_core.specs.Taking.{change, set_by, tried, with_job}
use Rattle.book_core.specs.Changes.{counted, ends_run, given_back, key_done, note_of, stopped_where}
use Rattle.book_core.specs.Facts.{IsEarlyCell}
use Rattle.book_core.specs.Jobs.{Next, next_job}
use Rattle.book_core.specs.Steps.{IsWorking}
use Rattle.book_core.proofs.EarlyKeys.{IsEarlyArrival, calls_early, placed_early, turn_early}
use Rattle.book_core.proofs.Taking.{take_cases}
use Rattle.book_core.proofs.Turns.{turn_at}
use Rattle.book_core.proofs.Through.{passes_have}

last_early : (w : Interval) → last_time w ≤ℤ greatest_time
last_early w = by (int_lt greatest_time (w.end -ℤ pos 1)) (int_lt (w.end -ℤ pos 1) least_time) refl
  where
    low : (z : ℤ) → int_lt greatest_time z ≡ false → z ≤ℤ greatest_time
    low z e = grind (arith, ints)

    by : (t u : Bool) → int_lt greatest_time (w.end -ℤ pos 1) ≡ t → cond t greatest_time (cond u least_time (w.end -ℤ pos 1)) ≤ℤ greatest_time
    by true u e = omega (arith, ints)
    by false true e = omega (arith, ints)
    by false false e = low (w.end -ℤ pos 1) e

-- ---- the panes of one key

module _ (rules : GroupRules) (node : ℕ) (key : Value) (mark : ℕ → ℤ) (last : ℕ) (taken dropped : List Taken) (panes : List Pane)
    (early : All EndsEarly taken) (history : IsLegalHistory rules node key mark last taken dropped panes) where
  fired_early : (c : ℕ) (w : Interval) (index : ℕ) (entries : List Taken) (o : Option Timing) (fired : List Pane) → IsFiredAs node key c w index entries o fired
      → All (λ pane. pane.element.time ≤ℤ greatest_time) fired
  fired_early c w index entries None fired is = subst (All (λ (pane : Pane). pane.element.time ≤ℤ greatest_time)) (sym is) (All-nil (λ (pane : Pane). pane.element.time ≤ℤ greatest_time))
  fired_early c w index entries (Some timing) fired is =
      let time : is.0.element.time ≡ last_time w = ap (λ e. e.time) is.2.holds in
      subst (All (λ (pane : Pane). pane.element.time ≤ℤ greatest_time)) (sym is.1)
      (All-cons (λ (pane : Pane). pane.element.time ≤ℤ greatest_time) is.0 [] (subst (λ (z : ℤ). z ≤ℤ greatest_time) (sym time) (last_early w)) (All-nil (λ (pane : Pane). pane.element.time ≤ℤ greatest_time)))

  one_early : (k : ℕ) (d : Pane) → k < length panes → IsEarlyPane (get_or panes k d)
  one_early k d inside =
      let pane = get_or panes k d in
      let c = pane.commit in
      let w = pane.element.span in
      let bounds = history.pane_commits k d inside in
      let stands = history.only k d inside in
      let fired = history.fired c w bounds.0 bounds.1 stands in
      let times = passes_have (λ (p : Pane). p.commit == c && is_of_window w p) (λ (p : Pane). p.element.time ≤ℤ greatest_time) panes
      (fired_early c w _ _ _ (panes_in c w panes) fired) k d inside in
      (times (own pane), stands_early rules mark taken greatest_end early c w stands)
    where
      own : (p : Pane) → (p.commit == p.commit && is_of_window p.element.span p) ≡ true
      own p = let same : (p.commit == p.commit) ≡ true = grind (arith, nat_tests) in and_from (p.commit == p.commit) (is_of_window p.element.span p) same (span_itself p.element.span)

  key_early : All IsEarlyPane panes
  key_early = one_early

-- ---- all panes of a book

pub legal_early : (b : SeenBook) → LegalIn b → All EndsEarly (taken_by b.cells) → All IsEarlyPane b.panes
legal_early b legal early k d inside =
    at (get_or b.panes k d) (legal.panes_at k d inside) (λ node key group. passes_have (is_pane_at_key node key) IsEarlyPane b.panes (of_key node key group) k d inside)
  where
    of_key : (node : ℕ) (key : Value) → is_group b.plan node ≡ true → All IsEarlyPane (panes_at node key b.panes)
    of_key node key group =
        key_early (rules_of b.plan node) node key (mark_after b.commits node) (length b.commits - 1) (taken_at node key (taken_by b.cells)) (taken_at node key (map taken_drop b.dropped))
        (panes_at node key b.panes) (All-filter (is_at_key node key) EndsEarly (taken_by b.cells) early) (legal.each node key group).history

    at : (pane : Pane) → is_group b.plan pane.node ≡ true
        → ((node : ℕ) (key : Value) → is_group b.plan node ≡ true → is_pane_at_key node key pane ≡ true → IsEarlyPane pane) → IsEarlyPane pane
    at pane group each =
        let same : (pane.node == pane.node) ≡ true = grind (arith, nat_tests) in
        each pane.node (key_of pane.element) group
        (and_from (pane.node == pane.node) (bytes_eq (spelling (key_of pane.element)) (spelling (key_of pane.element))) same
        ((bytes_eq-Decides (spelling (key_of pane.element)) (spelling (key_of pane.element))).1 refl))

-- ---- what a receipt brings

panes_of_early : (panes : List Pane) → All IsEarlyPane panes → (waiting : List WaitingPane) → All IsEarlyPane (panes_of panes waiting)
panes_of_early panes all [] = All-nil IsEarlyPane
panes_of_early panes all (w ∷ ws) = All-append IsEarlyPane (pane_at panes w) (panes_of panes ws) (by (slice_get panes w.pane) refl) (panes_of_early panes all ws)
  where
    by : (found : Option Pane) → slice_get panes w.pane ≡ found → All IsEarlyPane (elim found [ Some pane ↦ pane ∷ [] | None ↦ [] ])
    by None at = All-nil IsEarlyPane
    by (Some pane) at = All-cons IsEarlyPane pane [] (All-slice_get IsEarlyPane panes w.pane pane at all) (All-nil IsEarlyPane)

module _ (strategies : StrategiesOfPlans) (windows : WindowsOfKind) (settings : SettingsOfPlans) (told : Option (List FileText)) where
  arrivals_early : (arrivals : List Arrival) (outputs : List Output) → map Arrives arrivals ≡ outputs → All IsEarlyOutput outputs → All IsEarlyArrival arrivals
  arrivals_early arrivals outputs same all = All-unmap IsEarlyOutput Arrives arrivals (subst (All IsEarlyOutput) (sym same) all)

  item_early : (plan : Plan) (piece : Piece) (upto : ℕ) (receipt : Receipt) → IsChecked plan → (found : Option SourceItem) → item_at (items_told told plan) piece.node piece.item ≡ found
      → IsWorkOnItem plan piece upto found receipt → All IsEarlyArrival receipt.arrivals
  item_early plan piece upto receipt checked None at work = subst (All IsEarlyArrival) (sym work.0) (All-nil IsEarlyArrival)
  item_early plan piece upto receipt checked (Some item) at work =
      let set = λ (n : ℕ) (node : Node) (here : slice_get plan.nodes n ≡ Some node). settings plan n node checked here in
      let allowed = found_has (is_item piece.node piece.item) (λ (i : SourceItem). is_source_argument i.work i.args ≡ true) (items_told told plan) item (items_set windows plan set (unwrap_or told [])) at in
      arrivals_early receipt.arrivals (spread_range plan item piece.range.from upto) work.arrivals
      (spread_early windows plan set item allowed (offsets piece.range.from (upto - piece.range.from)))

  range_early : (plan : Plan) (piece : Piece) (upto : ℕ) (receipt : Receipt) → IsChecked plan → (t : Bool) → IsWorkOnRange t told plan piece upto receipt
      → All IsEarlyArrival receipt.arrivals
  range_early plan piece upto receipt checked true work = item_early plan piece upto receipt checked (item_at (items_told told plan) piece.node piece.item) refl work
  range_early plan piece upto receipt checked false work = λ k d inside. (work.times k d inside, work.ends k d inside)

  given_early : (b : SeenBook) (slot : ℕ) (job : Live) (receipt : Receipt) → IsSane b → AreKeysLogged b → IsEarlyBook b → IsWorking b slot job
      → IsGiven told b.plan (job_of b.panes job) (attempted_of job) receipt → All IsEarlyArrival receipt.arrivals
  given_early b slot (live.Span piece attempted) receipt sane keys h works given =
      range_early b.plan piece (worked_to piece attempted) receipt sane.formed.checked (is_known told b.plan piece.node) given.0
  given_early b slot (live.Key turn) receipt sane keys h works given =
      let kept : KeptState = record { cells = turn.state; timers = turn.timers } in
      arrivals_early receipt.arrivals (key_outputs b.plan turn.node turn.key turn.span turn.inputs kept) given.arrives
      (calls_early windows b.plan (λ n node here. settings b.plan n node sane.formed.checked here) turn.node turn.key turn.span turn.inputs
      (turn_early b.plan b.commits b.keys turn keys h.keys (turn_at b slot turn sane.turns works)) kept)
  given_early b slot (live.Batch batch) receipt sane keys h works given =
      arrivals_early receipt.arrivals (batch_outputs b.plan batch.node (panes_of b.panes batch.panes)) given.0
      (batch_early windows b.plan (λ n node here. settings b.plan n node sane.formed.checked here) batch.node (panes_of b.panes batch.panes) (panes_of_early b.panes h.panes batch.panes))

  -- ---- each step

  change_early : (f : KeyCell → KeyCell) → ((cell : KeyCell) → IsEarlyCell cell → IsEarlyCell (f cell)) → (at : ℕ) (cells : List KeyCell) → All IsEarlyCell cells → All IsEarlyCell (change f at cells)
  change_early f same at cells h = by (slice_get cells at) refl
    where
      by : (found : Option KeyCell) → slice_get cells at ≡ found → All IsEarlyCell (set_by f found at cells)
      by None e = h
      by (Some cell) e = All-set IsEarlyCell cells at (f cell) (same cell (All-slice_get IsEarlyCell cells at cell e h)) h

  take_keys : (b : SeenBook) (slot : ℕ) (next : Next) → next_job b ≡ Some next → All IsEarlyCell b.keys → All IsEarlyCell (with_slot next.rest slot (Some next.job)).keys
  take_keys b slot next is h =
      take_cases b (λ (n : Next). All IsEarlyCell n.rest.keys) (λ batch among. h) (λ batch oldest. h)
      (λ place cell found. change_early (with_job b.options.bundle) (λ c early. record { span = early.span; waiting = early.waiting }) place.at b.keys h) (λ piece later e. h) next is

  back_keys : (b : SeenBook) (slot : ℕ) (job : Live) (at : ℕ) (cause : Cause) → All IsEarlyCell b.keys → All IsEarlyCell (given_back (with_slot b slot None) job at cause).keys
  back_keys b slot (live.Span piece attempted) at cause h = h
  back_keys b slot (live.Batch batch) at cause h = h
  back_keys b slot (live.Key turn) at cause h = change_early tried (λ c early. record { span = early.span; waiting = early.waiting }) turn.cell b.keys h

  counted_keys : (x : SeenBook) (cause : Cause) → All IsEarlyCell x.keys → All IsEarlyCell (counted x cause).keys
  counted_keys x Call h = h
  counted_keys x Read h = h

  stop_keys : (x : SeenBook) (spent : Bool) (note : FaultNote) → All IsEarlyCell x.keys → All IsEarlyCell (stopped_where spent x note).keys
  stop_keys x true note h = h
  stop_keys x false note h = h

  fail_keys : (b : SeenBook) (slot at : ℕ) (job : Live) (cause : Cause) → All IsEarlyCell b.keys → All IsEarlyCell (tried_again b slot job at cause).keys
  fail_keys b slot at job cause h =
      stop_keys (counted (given_back (with_slot b slot None) job at cause) cause) (ends_run b job cause) (note_of job at cause)
      (counted_keys (given_back (with_slot b slot None) job at cause) cause (back_keys b slot job at cause h))

  early_onward : (old new : SeenBook) → StaysCelled old new → All IsEarlyCell new.keys → IsEarlyBook old → IsEarlyBook new
  early_onward old new s keys h = record {
    keys = keys;
    taken = subst (λ (l : List Cell). All EndsEarly (taken_by l)) (sym s.cells) h.taken;
    panes = subst (All IsEarlyPane) (sym s.panes) h.panes;
  }

  is_early : Taken → Bool
  is_early t = int_le t.element.span.end greatest_end

  early_test : (z : ℤ) → z ≤ℤ greatest_end → int_le z greatest_end ≡ true
  early_test z h = grind (arith, ints)

  test_early : (z : ℤ) → int_le z greatest_end ≡ true → z ≤ℤ greatest_end
  test_early z e = grind (arith, ints)

  commit_taken : (c : ℕ) (arrivals : List Arrival) (test : Arrival → Bool) (old new : List Cell) → IsSameBag (taken_by new) (taken_by old ++ map (taken_arrival c) (filter test arrivals))
      → All EndsEarly (taken_by old) → All IsEarlyArrival arrivals → All EndsEarly (taken_by new)
  unfolding is_early
  commit_taken c arrivals test old new entries was all =
      let both = taken_by old ++ map (taken_arrival c) (filter test arrivals) in
      let joined : All EndsEarly both =
      All-append EndsEarly (taken_by old) (map (taken_arrival c) (filter test arrivals)) was
      (All-map EndsEarly (taken_arrival c) (filter test arrivals)
      (All-weaker IsEarlyArrival (λ a. EndsEarly (taken_arrival c a)) (λ a e. e.1) (filter test arrivals) (All-filter test IsEarlyArrival arrivals all))) in
      All-weaker (λ t. is_early t ≡ true) EndsEarly (λ t e. test_early t.element.span.end e) (taken_by new)
      (All-of_bag is_early both (taken_by new) (bag_sym (taken_by new) both entries)
      (All-weaker EndsEarly (λ t. is_early t ≡ true) (λ t h. early_test t.element.span.end h) both joined))

  commit_early : (b : SeenBook) (slot : ℕ) (job : Live) (receipt : Receipt) (cells : List Cell) (fired : List Pane) (marks : List StageMarks) → IsSane b → AreCellsKept b → AreKeysLogged b → IsEarlyBook b
      → Commits told b slot job receipt cells fired marks → IsEarlyBook (committed b slot job receipt cells fired marks)
  commit_early b slot job receipt cells fired marks sane celled keys h made =
      let entries = commit_entries told b slot job receipt cells fired marks celled.legal made in
      let came = given_early b slot job receipt sane keys h made.works made.given in
      let taken = commit_taken (length b.commits) receipt.arrivals (is_taken b.plan (last_marks b)) b.cells cells entries h.taken came in
      record {
        taken = taken;
        keys = placed_early (last_marks b) b.plan (key_done (length b.commits) job receipt.logged) receipt.arrivals b.keys came h.keys;
        panes = legal_early (committed b slot job receipt cells fired marks) (commit_legal strategies told b slot job receipt cells fired marks sane celled made) taken;
      }

  pub keeps_early : Keeps told (Both (Both IsSane AreCellsKept) AreKeysLogged) IsEarlyBook
  keeps_early = record {
    opens = λ b first opening. subst IsEarlyBook (sym opening.is) (record { taken = All-nil EndsEarly; panes = All-nil IsEarlyPane; keys = All-nil IsEarlyCell });
    enrolls = λ b known h within. record { taken = h.taken; panes = h.panes; keys = h.keys };
    takes = λ b slot next known h running free is within. early_onward b (with_slot next.rest slot (Some next.job)) (take_stays b slot next is) (take_keys b slot next is h.keys) h;
    claims = λ b slot p piece attempted known h works may. record { taken = h.taken; panes = h.panes; keys = h.keys };
    splits = λ b slot at piece attempted known h works inside behind within. record { taken = h.taken; panes = h.panes; keys = h.keys };
    commits = λ b slot job receipt cells fired marks known h made. commit_early b slot job receipt cells fired marks known.0.0 known.0.1 known.1 h made;
    fails = λ b slot at job cause known h works fresh unbroken. early_onward b (tried_again b slot job at cause) (fail_stays b slot at job cause) (fail_keys b slot at job cause h.keys) h;
    breaks = λ b slot at piece attempted known h works fresh is. record { taken = h.taken; panes = h.panes; keys = h.keys };
    stops = λ b known h. record { taken = h.taken; panes = h.panes; keys = h.keys };
  }
