-- A run over the two lines with a lag of 5000, which is one millisecond too small: it ends, and the second line is dropped.
use Rattle.std.proofs.Common.{◌≡◌, ℕ, pos, Bool, true, false, cond, List, [], ◌∷◌, map, refl, sym, arith}
use Rattle.std.specs.Prelude.{bytes_eq, codes, Option, Some, None}
use Rattle.std.specs.List.{list_any}
use Rattle.std.proofs.lemmas.Bool.{true≢false}
use Rattle.std.proofs.lemmas.List.Elements.{All-from_recursion}
use Rattle.std.proofs.lemmas.List.Sorted.{IsPermutation-refl}
use Rattle.beam_values.specs.Checked.{IsChecked}
use Rattle.beam_values.specs.Lines.{offsets}
use Rattle.beam_values.specs.Marks.{marks_at}
use Rattle.beam_values.specs.Nodes.{is_group}
use Rattle.beam_values.specs.Spelling.{spelling}
use Rattle.beam_values.specs.Storable.{IsStorable}
use Rattle.beam_values.specs.Times.{final_mark, least_time}
use Rattle.beam_values.specs.declared.arrival.Arrival.{Arrival}
use Rattle.beam_values.specs.declared.cell.Cell.{Cell}
use Rattle.beam_values.specs.declared.cell.Dropped.{Dropped}
use Rattle.beam_values.specs.declared.cell.Entry.{Entry}
use Rattle.beam_values.specs.declared.cell.Pane.{Pane}
use Rattle.beam_values.specs.declared.element.Timing.TheVariants.{OnTime}
use Rattle.beam_values.specs.declared.marks.StageMarks.{StageMarks}
use Rattle.beam_values.specs.declared.outcome.Outcome.{Outcome}
use Rattle.beam_values.specs.declared.piece.Piece.{Piece}
use Rattle.beam_values.specs.declared.plan.Estimator.TheVariants as estimator
use Rattle.beam_values.specs.declared.plan.Plan.{Plan}
use Rattle.beam_values.specs.declared.value.Value.{Value}
use Rattle.beam_values.specs.declared.value.Value.TheViews.{out-roll-Value}
use Rattle.beam_model.specs.Flow.{elements_at}
use Rattle.beam_model.specs.Plain.{IsPlainAt, NothingIsDroppedAbove}
use Rattle.beam_model.specs.Plans.{default_trigger}
use Rattle.beam_model.specs.Positions.{items}
use Rattle.bundle_commit.specs.declared.job.Job.TheVariants as job
use Rattle.bundle_commit.specs.declared.job.Receipt.{Receipt}
use Rattle.group_cells.specs.Cells.{FiresIts, is_fired_by}
use Rattle.group_cells.specs.Commits.{AreRounds, as_commit}
use Rattle.group_cells.specs.Placing.{Opening, is_same_key}
use Rattle.group_cells.specs.Rounds.{IsRound}
use Rattle.stateful_core.specs.Facts.{IsCellThrough}
use Rattle.book_core.specs.Book.{SeenBook}
use Rattle.book_core.specs.Calls.{IsOutcomeOf}
use Rattle.book_core.specs.Runs.{AreAllShown, IsEnded, IsOpening, Reached}
use Rattle.book_core.specs.Steps.{Enroll, Take, Claim, Enrolled, TakenJob, Claimed}
use Rattle.book_core.specs.Work.{IsGiven, seen_over}
use Rattle.book_core.specs.declared.live.Live.{Live}
use Rattle.book_core.specs.declared.live.Live.TheVariants as live
use Rattle.book_core.specs.declared.live.WaitingPane.{WaitingPane}
use Rattle.book_core.proofs.Reaching.{reached_more}
use Rattle.ended_runs.specs.EndedRuns.{IsEndedRun}
use Rattle.ended_runs.proofs.Pipeline.{told, key, at, no_stateful_above, one_part_storable}
use Rattle.ended_runs.proofs.OneKeyRun.{SoFar, allowed, are_marks, book_of, done_to, marks_of, all_rounds, nothing_round, options, quiet_round, rest, rules, shows_one, whole, none, one}
use Rattle.ended_runs.proofs.LateLine.{lagging, file, lines, minute, first, second, first_pane, spread_first, spread_second, one_pane_is_not_plain}
use Rattle.ended_runs.proofs.SoFarAlways.{committed_reached}

abbrev plan : Plan
plan = lagging (pos 5000)

checked : IsChecked plan
checked = record { unrefused = refl }

-- ---- the marks after the opening and each commit

abbrev opening_marks : List StageMarks
opening_marks = marks_of least_time least_time

-- the first line is at 65000
abbrev first_marks : List StageMarks
first_marks = marks_of (pos 60000) (pos 60000)

-- nothing is left of the file, and the pane waits
abbrev second_marks : List StageMarks
second_marks = marks_of final_mark (pos 119999)

abbrev last_marks : List StageMarks
last_marks = marks_of final_mark final_mark

-- ---- the cell and its pane

abbrev cell_with : Bool → ℕ → Cell
cell_with fired index = record {
  node = 3;
  key = key;
  span = minute;
  entries = record { element = first; commit = 1; shown = fired } ∷ [];
  next_index = index;
  on_time = fired;
  merged_into = None;
}

abbrev waiting_cell : Cell
waiting_cell = cell_with false 0

abbrev fired_cell : Cell
fired_cell = cell_with true 1

abbrev fired : Pane
fired = record { node = 3; element = first_pane; commit = 2 }

abbrev late : Dropped
late = record { node = 3; element = second; commit = 2 }

-- ---- the books

abbrev opening : SeenBook
opening = book_of plan 20 (record { cells = []; dropped = []; panes = []; done = []; written = []; commits = as_commit opening_marks ∷ [] }) (whole 20 ∷ []) [] []

abbrev enrolled : SeenBook
enrolled = record opening { slots = None ∷ [] }

abbrev working : Piece → Option ℕ → Option Live
working piece attempted = Some (live.Span piece attempted)

abbrev at_first : Option ℕ → SeenBook
at_first attempted = record opening { pending = []; slots = working (whole 20) attempted ∷ [] }

abbrev first_so_far : SoFar
first_so_far = record {
  cells = waiting_cell ∷ [];
  dropped = [];
  panes = [];
  done = done_to 0 1 ∷ [];
  written = [];
  commits = as_commit opening_marks ∷ as_commit first_marks ∷ [];
}

abbrev after_first : SeenBook
after_first = book_of plan 20 first_so_far (rest 20 (pos 65000) ∷ []) (None ∷ []) []

abbrev at_second : Option ℕ → SeenBook
at_second attempted = book_of plan 20 first_so_far [] (working (rest 20 (pos 65000)) attempted ∷ []) []

abbrev second_so_far : SoFar
second_so_far = record {
  cells = fired_cell ∷ [];
  dropped = late ∷ [];
  panes = fired ∷ [];
  done = done_to 0 1 ∷ done_to 1 20 ∷ [];
  written = [];
  commits = as_commit opening_marks ∷ as_commit first_marks ∷ as_commit second_marks ∷ [];
}

abbrev held_pane : WaitingPane
held_pane = record { pane = 0; hold = pos 119999 }

abbrev after_second : SeenBook
after_second = book_of plan 20 second_so_far [] (None ∷ []) (held_pane ∷ [])

abbrev batch : Live
batch = live.Batch (record { node = 3; panes = held_pane ∷ []; attempts = 0 })

abbrev at_batch : SeenBook
at_batch = book_of plan 20 second_so_far [] (Some batch ∷ []) []

abbrev pub final_book : SeenBook
final_book = book_of plan 20 (record second_so_far {
  written = at 4 first_pane ∷ [];
  commits = as_commit opening_marks ∷ as_commit first_marks ∷ as_commit second_marks ∷ as_commit last_marks ∷ [];
}) [] (None ∷ []) []

-- ---- the first line

opened_so : IsOpening plan opening.files options opening
unfolding offsets
opened_so = record {
  checked = checked;
  lengths = ((refl, refl, λ h. absurd (true≢false h)), tt);
  allowed = allowed;
  marks = opening_marks;
  is = refl;
  marked = are_marks (estimator.Lag (pos 5000)) default_trigger _ opening_marks refl refl refl refl refl refl;
  within = record { commits = omega arith; panes = omega arith; dropped = omega arith; cells = omega arith; keys = omega arith; waiting = omega arith; slots = omega arith; pieces = omega arith };
}

reached_opening : Reached (Some (told file)) opening
reached_opening = record { first = opening; opening = opened_so; steps = []; run = refl }

reached_enrolled : Reached (Some (told file)) enrolled
reached_enrolled =
    reached_more (Some (told file)) opening enrolled 0 Enroll (Enrolled 0)
    (refl, refl, refl, record { commits = omega arith; panes = omega arith; dropped = omega arith; cells = omega arith; keys = omega arith; waiting = omega arith; slots = omega arith; pieces = omega arith }) reached_opening

reached_at_first : Reached (Some (told file)) (at_first None)
unfolding offsets
reached_at_first =
    reached_more (Some (told file)) enrolled (at_first None) 0 Take (TakenJob (job.Span (whole 20)))
    (record {
      running = refl;
      free = refl;
      next = record { job = live.Span (whole 20) None; rest = record enrolled { pending = [] } };
      is_next = refl;
      handed = refl;
      is = refl;
      within = record { commits = omega arith; panes = omega arith; dropped = omega arith; cells = omega arith; keys = omega arith; waiting = omega arith; slots = omega arith; pieces = omega arith };
    }) reached_enrolled

reached_claimed_first : Reached (Some (told file)) (at_first (Some 0))
reached_claimed_first =
    reached_more (Some (told file)) (at_first None) (at_first (Some 0)) 0 (Claim 0) (Claimed true)
    (record { piece = whole 20; attempted = None; works = record { works = refl; fresh = refl }; may = record { from_start = omega arith; ascending = tt }; answer = refl; is = refl }) reached_at_first

abbrev first_receipt : Receipt
first_receipt = record { arrivals = at 3 first ∷ []; seen = pos 65000; logged = None }

first_given : IsGiven (Some (told file)) plan (job.Span (whole 20)) (Some 0) first_receipt
unfolding offsets
first_given = (record { arrivals = sym (spread_first (pos 5000)); seen = refl }, refl, tt)

-- the cell is opened, and nothing fires before 120000
first_round : (k : Value) (own : Bool) → bytes_eq (spelling key) (spelling k) ≡ own
    → IsRound (rules default_trigger) 3 k 1 least_time (pos 60000) (map (λ (a : Arrival). a.element) (cond own (at 3 first ∷ []) [])) [] (cond own (waiting_cell ∷ []) []) []
first_round k false other = nothing_round default_trigger k 1 least_time (pos 60000)
first_round k true own = record {
  openings = record { key = key; span = minute } ∷ [];
  keyed = one (λ (o : Opening). is_same_key o.key k ≡ true) (record { key = key; span = minute }) own;
  windows = λ w. (λ h. h, λ h. h);
  placed = waiting_cell ∷ [];
  places = refl;
  fires = refl;
  panes = record { each = one (FiresIts (rules default_trigger) 3 k 1 (pos 60000) []) waiting_cell (λ stands. refl); only = none _ };
}

first_rounds : AreRounds plan 1 opening_marks first_marks (at 3 first ∷ []) [] (waiting_cell ∷ []) []
first_rounds =
    all_rounds (estimator.Lag (pos 5000)) default_trigger 1 opening_marks first_marks (at 3 first ∷ []) [] waiting_cell []
    (λ k. simp out-roll-Value (first_round k (bytes_eq (spelling key) (spelling k)) refl)) refl
    (none _) (none _) (omega arith)

reached_after_first : Reached (Some (told file)) after_first
reached_after_first =
    committed_reached (Some (told file)) (at_first (Some 0)) 0 (live.Span (whole 20) (Some 0)) first_receipt (waiting_cell ∷ []) [] first_marks reached_claimed_first
    (record {
      works = refl;
      given = first_given;
      marked = are_marks (estimator.Lag (pos 5000)) default_trigger _ first_marks refl refl refl refl refl refl;
      rounds = first_rounds;
      within = record { commits = omega arith; panes = omega arith; dropped = omega arith; cells = omega arith; keys = omega arith; waiting = omega arith; slots = omega arith; pieces = omega arith };
    })

-- ---- the second line

reached_at_second : Reached (Some (told file)) (at_second None)
unfolding offsets
reached_at_second =
    reached_more (Some (told file)) after_first (at_second None) 0 Take (TakenJob (job.Span (rest 20 (pos 65000))))
    (record {
      running = refl;
      free = refl;
      next = record { job = live.Span (rest 20 (pos 65000)) None; rest = record after_first { pending = [] } };
      is_next = refl;
      handed = refl;
      is = refl;
      within = record { commits = omega arith; panes = omega arith; dropped = omega arith; cells = omega arith; keys = omega arith; waiting = omega arith; slots = omega arith; pieces = omega arith };
    }) reached_after_first

reached_claimed_second : Reached (Some (told file)) (at_second (Some 10))
reached_claimed_second =
    reached_more (Some (told file)) (at_second None) (at_second (Some 10)) 0 (Claim 10) (Claimed true)
    (record { piece = rest 20 (pos 65000); attempted = None; works = record { works = refl; fresh = refl }; may = record { from_start = omega arith; ascending = tt }; answer = refl; is = refl }) reached_at_second

-- there is no further line
reached_claimed_end : Reached (Some (told file)) (at_second (Some 20))
reached_claimed_end =
    reached_more (Some (told file)) (at_second (Some 10)) (at_second (Some 20)) 0 (Claim 20) (Claimed false)
    (record { piece = rest 20 (pos 65000); attempted = Some 10; works = record { works = refl; fresh = refl }; may = record { from_start = omega arith; ascending = omega arith }; answer = refl; is = refl })
    reached_claimed_second

abbrev second_receipt : Receipt
second_receipt = record { arrivals = at 3 second ∷ []; seen = seen_over (estimator.Lag (pos 5000)) lines 1 20 (pos 65000); logged = None }

second_given : IsGiven (Some (told file)) plan (job.Span (rest 20 (pos 65000))) (Some 20) second_receipt
second_given = (record { arrivals = sym (spread_second (pos 5000)); seen = refl }, refl, tt)

-- at 60000 the second line is dropped; then nothing is left, and the first one's window fires
second_round : (k : Value) (own : Bool) → bytes_eq (spelling key) (spelling k) ≡ own
    → IsRound (rules default_trigger) 3 k 2 (pos 60000) final_mark (map (λ (a : Arrival). a.element) (cond own (at 3 second ∷ []) [])) (cond own (waiting_cell ∷ []) []) (cond own (fired_cell ∷ []) [])
    (cond own (fired ∷ []) [])
second_round k false other = nothing_round default_trigger k 2 (pos 60000) final_mark
second_round k true own = record {
  openings = [];
  keyed = none _;
  windows = λ w. (λ h. h, λ h. h);
  placed = waiting_cell ∷ [];
  places = refl;
  fires = refl;
  panes = record {
    each = one (FiresIts (rules default_trigger) 3 k 2 final_mark (fired ∷ [])) waiting_cell
        (λ stands. (fired, refl, shows_one k own 2 minute OnTime 0 (codes "x") (record { node = 3; element = first; commit = 1 }) (simp out-roll-Value refl)));
    only = one (λ (pane : Pane). list_any (is_fired_by (rules default_trigger) final_mark pane) (waiting_cell ∷ []) ≡ true) fired refl;
  };
}

second_rounds : AreRounds plan 2 first_marks second_marks (at 3 second ∷ []) (waiting_cell ∷ []) (fired_cell ∷ []) (fired ∷ [])
second_rounds =
    all_rounds (estimator.Lag (pos 5000)) default_trigger 2 first_marks second_marks (at 3 second ∷ []) (waiting_cell ∷ []) fired_cell (fired ∷ [])
    (λ k. simp out-roll-Value (second_round k (bytes_eq (spelling key) (spelling k)) refl)) refl
    (one (λ (p : Pane). is_group plan p.node ≡ true) fired refl) (one (λ (p : Pane). p.commit ≡ 2) fired refl) (omega arith)

reached_after_second : Reached (Some (told file)) after_second
reached_after_second =
    committed_reached (Some (told file)) (at_second (Some 20)) 0 (live.Span (rest 20 (pos 65000)) (Some 20)) second_receipt (fired_cell ∷ []) (fired ∷ []) second_marks reached_claimed_end
    (record {
      works = refl;
      given = second_given;
      marked = are_marks (estimator.Lag (pos 5000)) default_trigger _ second_marks refl refl refl refl refl refl;
      rounds = second_rounds;
      within = record { commits = omega arith; panes = omega arith; dropped = omega arith; cells = omega arith; keys = omega arith; waiting = omega arith; slots = omega arith; pieces = omega arith };
    })

-- ---- the pane goes on to the Write

reached_at_batch : Reached (Some (told file)) at_batch
unfolding offsets
reached_at_batch =
    reached_more (Some (told file)) after_second at_batch 0 Take (TakenJob (job.Batch 3 0 (fired ∷ []) 0))
    (record {
      running = refl;
      free = refl;
      next = record { job = batch; rest = book_of plan 20 second_so_far [] (None ∷ []) [] };
      is_next = refl;
      handed = refl;
      is = refl;
      within = record { commits = omega arith; panes = omega arith; dropped = omega arith; cells = omega arith; keys = omega arith; waiting = omega arith; slots = omega arith; pieces = omega arith };
    }) reached_after_second

abbrev last_receipt : Receipt
last_receipt = record { arrivals = at 4 first_pane ∷ []; seen = least_time; logged = None }

last_given : IsGiven (Some (told file)) plan (job.Batch 3 0 (fired ∷ []) 0) None last_receipt
last_given = (refl, refl)

last_rounds : AreRounds plan 3 second_marks last_marks (at 4 first_pane ∷ []) (fired_cell ∷ []) (fired_cell ∷ []) []
last_rounds =
    all_rounds (estimator.Lag (pos 5000)) default_trigger 3 second_marks last_marks (at 4 first_pane ∷ []) (fired_cell ∷ []) fired_cell []
    (λ k. quiet_round default_trigger fired_cell k (bytes_eq (spelling key) (spelling k)) 3 (marks_at second_marks 3).mark_in (marks_at last_marks 3).mark_in refl) refl
    (none _) (none _) (omega arith)

pub reached_final : Reached (Some (told file)) final_book
reached_final =
    committed_reached (Some (told file)) at_batch 0 batch last_receipt (fired_cell ∷ []) [] last_marks reached_at_batch
    (record {
      works = refl;
      given = last_given;
      marked = are_marks (estimator.Lag (pos 5000)) default_trigger _ last_marks refl refl refl refl refl refl;
      rounds = last_rounds;
      within = record { commits = omega arith; panes = omega arith; dropped = omega arith; cells = omega arith; keys = omega arith; waiting = omega arith; slots = omega arith; pieces = omega arith };
    })

-- ---- its outcome

abbrev pub final_outcome : Outcome
final_outcome = record {
  plan = plan;
  files = final_book.files;
  done = final_book.done;
  dead = [];
  cells = final_book.cells;
  panes = final_book.panes;
  dropped = final_book.dropped;
  logs = [];
  written = final_book.written;
  commits = final_book.commits;
  stopped = None;
}

ended : IsEnded final_book
ended = record {
  running = refl;
  through = record {
    pending = refl;
    idle = one (λ (s : Option Live). s ≡ None) None refl;
    held = refl;
    keyed = none IsCellThrough;
    shown = one AreAllShown fired_cell (one (λ (e : Entry). e.shown ≡ true) (record { element = first; commit = 1; shown = true }) refl);
    final = All-from_recursion (λ (m : StageMarks). (m.mark_in ≡ final_mark) × (m.mark_out ≡ final_mark)) last_marks
        ((refl, refl), ((refl, refl), ((refl, refl), ((refl, refl), ((refl, refl), tt)))));
  };
}

is_outcome : IsOutcomeOf final_book final_outcome
is_outcome = record {
  plan = refl;
  files = refl;
  done = refl;
  dead = refl;
  cells = IsPermutation-refl (fired_cell ∷ []);
  cells_in_order = λ j d from within. absurd (omega arith);
  panes = refl;
  dropped = refl;
  logs = IsPermutation-refl [];
  logs_in_order = λ j d from within. absurd (omega arith);
  written = refl;
  commits = refl;
  stopped = refl;
}

-- The run is all that plain writing asks for, its triggers are default ones, and yet a line was dropped and what was written is no plain grouping.
pub the_run : IsEndedRun (told file) final_book final_outcome 4
the_run = record {
  reached = reached_final;
  lengths = refl;
  ended = ended;
  outcome = is_outcome;
  storable = one (λ (p : Pane). IsStorable p.element.value) fired (one_part_storable (codes "x"));
  write = refl;
  stateless = no_stateful_above (estimator.Lag (pos 5000)) default_trigger;
}

pub a_line_is_dropped : NothingIsDroppedAbove plan 4 final_outcome.dropped → ⊥
a_line_is_dropped h = true≢false (h 0 late (omega arith))

pub its_writing_is_not_plain : IsPlainAt plan (items (told file) plan) 4 (elements_at 4 final_outcome.written) → ⊥
its_writing_is_not_plain = one_pane_is_not_plain (pos 5000)
