-- A run over the two lines with a Group that fires early: it ends, nothing is dropped, and the Write has two panes of one window.
use Rattle.std.proofs.Common.{◌≡◌, ℕ, pos, Bool, true, false, cond, List, [], ◌∷◌, map, refl, sym, arith}
use Rattle.std.specs.Prelude.{bytes_eq, codes, Option, Some, None}
use Rattle.std.specs.List.{list_any}
use Rattle.std.proofs.lemmas.Bool.{true≢false}
use Rattle.std.proofs.lemmas.List.Elements.{All-cons, All-from_recursion}
use Rattle.std.proofs.lemmas.List.Sorted.{IsPermutation-refl}
use Rattle.beam_values.specs.Checked.{IsChecked}
use Rattle.beam_values.specs.Lines.{offsets}
use Rattle.beam_values.specs.Marks.{marks_at}
use Rattle.beam_values.specs.Nodes.{is_group}
use Rattle.beam_values.specs.Spelling.{spelling}
use Rattle.beam_values.specs.Storable.{IsStorable}
use Rattle.beam_values.specs.Times.{final_mark, least_time}
use Rattle.beam_values.specs.declared.arrival.Arrival.{Arrival}
use Rattle.beam_values.specs.declared.cell.Cell.{Cell}
use Rattle.beam_values.specs.declared.cell.Entry.{Entry}
use Rattle.beam_values.specs.declared.cell.Pane.{Pane}
use Rattle.beam_values.specs.declared.element.Element.{Element}
use Rattle.beam_values.specs.declared.element.Timing.TheVariants.{Early, OnTime}
use Rattle.beam_values.specs.declared.marks.StageMarks.{StageMarks}
use Rattle.beam_values.specs.declared.outcome.Outcome.{Outcome}
use Rattle.beam_values.specs.declared.piece.Piece.{Piece}
use Rattle.beam_values.specs.declared.plan.Estimator.TheVariants as estimator
use Rattle.beam_values.specs.declared.plan.Plan.{Plan}
use Rattle.beam_values.specs.declared.value.Value.{Value}
use Rattle.beam_values.specs.declared.value.Value.TheViews.{out-roll-Value}
use Rattle.beam_model.specs.Flow.{elements_at}
use Rattle.beam_model.specs.Plain.{IsPlainAt, NothingIsDroppedAbove}
use Rattle.beam_model.specs.Positions.{items}
use Rattle.bundle_commit.specs.declared.job.Job.TheVariants as job
use Rattle.bundle_commit.specs.declared.job.Receipt.{Receipt}
use Rattle.group_cells.specs.Cells.{FiresIts, is_fired_by}
use Rattle.group_cells.specs.Commits.{AreRounds, as_commit}
use Rattle.group_cells.specs.Placing.{Opening, is_same_key}
use Rattle.group_cells.specs.Rounds.{IsRound}
use Rattle.stateful_core.specs.Facts.{IsCellThrough}
use Rattle.book_core.specs.Book.{SeenBook}
use Rattle.book_core.specs.Calls.{IsOutcomeOf}
use Rattle.book_core.specs.Runs.{AreAllShown, IsEnded, IsOpening, Reached}
use Rattle.book_core.specs.Steps.{Enroll, Take, Claim, Enrolled, TakenJob, Claimed}
use Rattle.book_core.specs.Work.{IsGiven, seen_over}
use Rattle.book_core.specs.declared.live.Live.{Live}
use Rattle.book_core.specs.declared.live.Live.TheVariants as live
use Rattle.book_core.specs.declared.live.WaitingPane.{WaitingPane}
use Rattle.book_core.proofs.Reaching.{reached_more}
use Rattle.ended_runs.specs.EndedRuns.{IsEndedRun}
use Rattle.ended_runs.proofs.Pipeline.{told, key, at, no_stateful_above, one_part_storable}
use Rattle.ended_runs.proofs.OneKeyRun.{SoFar, allowed, are_marks, book_of, done_to, marks_of, all_rounds, nothing_round, options, quiet_round, rest, rules, shows_one, whole, none, one}
use Rattle.ended_runs.proofs.EarlyPane.{hasty, early_trigger, file, lines, minute, first, second, first_pane, second_pane, spread_first, spread_second, two_panes_are_not_plain}
use Rattle.ended_runs.proofs.SoFarAlways.{committed_reached}

abbrev plan : Plan
plan = hasty

checked : IsChecked plan
checked = record { unrefused = refl }

-- ---- the marks: until all is read, the source is held at the least time

abbrev reading_marks : List StageMarks
reading_marks = marks_of least_time least_time

-- then the second pane waits
abbrev read_marks : List StageMarks
read_marks = marks_of final_mark (pos 59999)

abbrev last_marks : List StageMarks
last_marks = marks_of final_mark final_mark

-- ---- the cell and its panes

abbrev entry : Element → ℕ → Bool → Entry
entry e commit shown = record { element = e; commit = commit; shown = shown }

abbrev cell_with : List Entry → ℕ → Bool → Cell
cell_with entries index on_time = record { node = 3; key = key; span = minute; entries = entries; next_index = index; on_time = on_time; merged_into = None }

abbrev new_cell : Cell
new_cell = cell_with (entry first 1 false ∷ []) 0 false

abbrev early_cell : Cell
early_cell = cell_with (entry first 1 true ∷ []) 1 false

abbrev grown_cell : Cell
grown_cell = cell_with (entry first 1 true ∷ entry second 3 false ∷ []) 1 false

abbrev last_cell : Cell
last_cell = cell_with (entry first 1 true ∷ entry second 3 true ∷ []) 2 true

abbrev early_fired : Pane
early_fired = record { node = 3; element = first_pane; commit = 1 }

abbrev on_time_fired : Pane
on_time_fired = record { node = 3; element = second_pane; commit = 3 }

abbrev held_pane : ℕ → WaitingPane
held_pane pane = record { pane = pane; hold = pos 59999 }

abbrev batch : ℕ → Live
batch pane = live.Batch (record { node = 3; panes = held_pane pane ∷ []; attempts = 0 })

-- ---- the books

abbrev opening : SeenBook
opening = book_of plan 18 (record { cells = []; dropped = []; panes = []; done = []; written = []; commits = as_commit reading_marks ∷ [] }) (whole 18 ∷ []) [] []

abbrev enrolled : SeenBook
enrolled = record opening { slots = None ∷ [] }

abbrev working : Piece → Option ℕ → Option Live
working piece attempted = Some (live.Span piece attempted)

abbrev at_first : Option ℕ → SeenBook
at_first attempted = record opening { pending = []; slots = working (whole 18) attempted ∷ [] }

abbrev first_so_far : SoFar
first_so_far = record {
  cells = early_cell ∷ [];
  dropped = [];
  panes = early_fired ∷ [];
  done = done_to 0 1 ∷ [];
  written = [];
  commits = as_commit reading_marks ∷ as_commit reading_marks ∷ [];
}

abbrev rest_piece : Piece
rest_piece = rest 18 least_time

abbrev after_first : SeenBook
after_first = book_of plan 18 first_so_far (rest_piece ∷ []) (None ∷ []) (held_pane 0 ∷ [])

abbrev at_early : SeenBook
at_early = book_of plan 18 first_so_far (rest_piece ∷ []) (Some (batch 0) ∷ []) []

abbrev early_so_far : SoFar
early_so_far = record first_so_far {
  written = at 4 first_pane ∷ [];
  commits = as_commit reading_marks ∷ as_commit reading_marks ∷ as_commit reading_marks ∷ [];
}

abbrev after_early : SeenBook
after_early = book_of plan 18 early_so_far (rest_piece ∷ []) (None ∷ []) []

abbrev at_second : Option ℕ → SeenBook
at_second attempted = book_of plan 18 early_so_far [] (working rest_piece attempted ∷ []) []

abbrev second_so_far : SoFar
second_so_far = record {
  cells = last_cell ∷ [];
  dropped = [];
  panes = early_fired ∷ on_time_fired ∷ [];
  done = done_to 0 1 ∷ done_to 1 18 ∷ [];
  written = at 4 first_pane ∷ [];
  commits = as_commit reading_marks ∷ as_commit reading_marks ∷ as_commit reading_marks ∷ as_commit read_marks ∷ [];
}

abbrev after_second : SeenBook
after_second = book_of plan 18 second_so_far [] (None ∷ []) (held_pane 1 ∷ [])

abbrev at_on_time : SeenBook
at_on_time = book_of plan 18 second_so_far [] (Some (batch 1) ∷ []) []

abbrev pub final_book : SeenBook
final_book = book_of plan 18 (record second_so_far {
  written = at 4 first_pane ∷ at 4 second_pane ∷ [];
  commits = as_commit reading_marks ∷ as_commit reading_marks ∷ as_commit reading_marks ∷ as_commit read_marks ∷ as_commit last_marks ∷ [];
}) [] (None ∷ []) []

-- ---- the first line, and its pane

opened_so : IsOpening plan opening.files options opening
unfolding offsets
opened_so = record {
  checked = checked;
  lengths = ((refl, refl, λ h. absurd (true≢false h)), tt);
  allowed = allowed;
  marks = reading_marks;
  is = refl;
  marked = are_marks estimator.None early_trigger _ reading_marks refl refl refl refl refl refl;
  within = record { commits = omega arith; panes = omega arith; dropped = omega arith; cells = omega arith; keys = omega arith; waiting = omega arith; slots = omega arith; pieces = omega arith };
}

reached_opening : Reached (Some (told file)) opening
reached_opening = record { first = opening; opening = opened_so; steps = []; run = refl }

reached_enrolled : Reached (Some (told file)) enrolled
reached_enrolled =
    reached_more (Some (told file)) opening enrolled 0 Enroll (Enrolled 0)
    (refl, refl, refl, record { commits = omega arith; panes = omega arith; dropped = omega arith; cells = omega arith; keys = omega arith; waiting = omega arith; slots = omega arith; pieces = omega arith }) reached_opening

reached_at_first : Reached (Some (told file)) (at_first None)
unfolding offsets
reached_at_first =
    reached_more (Some (told file)) enrolled (at_first None) 0 Take (TakenJob (job.Span (whole 18)))
    (record {
      running = refl;
      free = refl;
      next = record { job = live.Span (whole 18) None; rest = record enrolled { pending = [] } };
      is_next = refl;
      handed = refl;
      is = refl;
      within = record { commits = omega arith; panes = omega arith; dropped = omega arith; cells = omega arith; keys = omega arith; waiting = omega arith; slots = omega arith; pieces = omega arith };
    }) reached_enrolled

reached_claimed_first : Reached (Some (told file)) (at_first (Some 0))
reached_claimed_first =
    reached_more (Some (told file)) (at_first None) (at_first (Some 0)) 0 (Claim 0) (Claimed true)
    (record { piece = whole 18; attempted = None; works = record { works = refl; fresh = refl }; may = record { from_start = omega arith; ascending = tt }; answer = refl; is = refl }) reached_at_first

abbrev first_receipt : Receipt
first_receipt = record { arrivals = at 3 first ∷ []; seen = least_time; logged = None }

first_given : IsGiven (Some (told file)) plan (job.Span (whole 18)) (Some 0) first_receipt
unfolding offsets
first_given = (record { arrivals = sym spread_first; seen = refl }, refl, tt)

-- one line is enough for an early pane
first_round : (k : Value) (own : Bool) → bytes_eq (spelling key) (spelling k) ≡ own
    → IsRound (rules early_trigger) 3 k 1 least_time least_time (map (λ (a : Arrival). a.element) (cond own (at 3 first ∷ []) [])) [] (cond own (early_cell ∷ []) []) (cond own (early_fired ∷ []) [])
first_round k false other = nothing_round early_trigger k 1 least_time least_time
first_round k true own = record {
  openings = record { key = key; span = minute } ∷ [];
  keyed = one (λ (o : Opening). is_same_key o.key k ≡ true) (record { key = key; span = minute }) own;
  windows = λ w. (λ h. h, λ h. h);
  placed = new_cell ∷ [];
  places = refl;
  fires = refl;
  panes = record {
    each = one (FiresIts (rules early_trigger) 3 k 1 least_time (early_fired ∷ [])) new_cell
        (λ stands. (early_fired, refl, shows_one k own 1 minute Early 0 (codes "x") (record { node = 3; element = first; commit = 1 }) (simp out-roll-Value refl)));
    only = one (λ (pane : Pane). list_any (is_fired_by (rules early_trigger) least_time pane) (new_cell ∷ []) ≡ true) early_fired refl;
  };
}

first_rounds : AreRounds plan 1 reading_marks reading_marks (at 3 first ∷ []) [] (early_cell ∷ []) (early_fired ∷ [])
first_rounds =
    all_rounds estimator.None early_trigger 1 reading_marks reading_marks (at 3 first ∷ []) [] early_cell (early_fired ∷ [])
    (λ k. simp out-roll-Value (first_round k (bytes_eq (spelling key) (spelling k)) refl)) refl
    (one (λ (p : Pane). is_group plan p.node ≡ true) early_fired refl) (one (λ (p : Pane). p.commit ≡ 1) early_fired refl) (omega arith)

reached_after_first : Reached (Some (told file)) after_first
reached_after_first =
    committed_reached (Some (told file)) (at_first (Some 0)) 0 (live.Span (whole 18) (Some 0)) first_receipt (early_cell ∷ []) (early_fired ∷ []) reading_marks reached_claimed_first
    (record {
      works = refl;
      given = first_given;
      marked = are_marks estimator.None early_trigger _ reading_marks refl refl refl refl refl refl;
      rounds = first_rounds;
      within = record { commits = omega arith; panes = omega arith; dropped = omega arith; cells = omega arith; keys = omega arith; waiting = omega arith; slots = omega arith; pieces = omega arith };
    })

-- panes go on before more is read
reached_at_early : Reached (Some (told file)) at_early
unfolding offsets
reached_at_early =
    reached_more (Some (told file)) after_first at_early 0 Take (TakenJob (job.Batch 3 0 (early_fired ∷ []) 0))
    (record {
      running = refl;
      free = refl;
      next = record { job = batch 0; rest = book_of plan 18 first_so_far (rest_piece ∷ []) (None ∷ []) [] };
      is_next = refl;
      handed = refl;
      is = refl;
      within = record { commits = omega arith; panes = omega arith; dropped = omega arith; cells = omega arith; keys = omega arith; waiting = omega arith; slots = omega arith; pieces = omega arith };
    }) reached_after_first

abbrev early_receipt : Receipt
early_receipt = record { arrivals = at 4 first_pane ∷ []; seen = least_time; logged = None }

early_given : IsGiven (Some (told file)) plan (job.Batch 3 0 (early_fired ∷ []) 0) None early_receipt
early_given = (refl, refl)

early_rounds : AreRounds plan 2 reading_marks reading_marks (at 4 first_pane ∷ []) (early_cell ∷ []) (early_cell ∷ []) []
early_rounds =
    all_rounds estimator.None early_trigger 2 reading_marks reading_marks (at 4 first_pane ∷ []) (early_cell ∷ []) early_cell []
    (λ k. quiet_round early_trigger early_cell k (bytes_eq (spelling key) (spelling k)) 2 (marks_at reading_marks 3).mark_in (marks_at reading_marks 3).mark_in refl) refl
    (none _) (none _) (omega arith)

reached_after_early : Reached (Some (told file)) after_early
reached_after_early =
    committed_reached (Some (told file)) at_early 0 (batch 0) early_receipt (early_cell ∷ []) [] reading_marks reached_at_early
    (record {
      works = refl;
      given = early_given;
      marked = are_marks estimator.None early_trigger _ reading_marks refl refl refl refl refl refl;
      rounds = early_rounds;
      within = record { commits = omega arith; panes = omega arith; dropped = omega arith; cells = omega arith; keys = omega arith; waiting = omega arith; slots = omega arith; pieces = omega arith };
    })

-- ---- the second line

reached_at_second : Reached (Some (told file)) (at_second None)
unfolding offsets
reached_at_second =
    reached_more (Some (told file)) after_early (at_second None) 0 Take (TakenJob (job.Span rest_piece))
    (record {
      running = refl;
      free = refl;
      next = record { job = live.Span rest_piece None; rest = record after_early { pending = [] } };
      is_next = refl;
      handed = refl;
      is = refl;
      within = record { commits = omega arith; panes = omega arith; dropped = omega arith; cells = omega arith; keys = omega arith; waiting = omega arith; slots = omega arith; pieces = omega arith };
    }) reached_after_early

reached_claimed_second : Reached (Some (told file)) (at_second (Some 9))
reached_claimed_second =
    reached_more (Some (told file)) (at_second None) (at_second (Some 9)) 0 (Claim 9) (Claimed true)
    (record { piece = rest_piece; attempted = None; works = record { works = refl; fresh = refl }; may = record { from_start = omega arith; ascending = tt }; answer = refl; is = refl }) reached_at_second

-- there is no further line
reached_claimed_end : Reached (Some (told file)) (at_second (Some 18))
reached_claimed_end =
    reached_more (Some (told file)) (at_second (Some 9)) (at_second (Some 18)) 0 (Claim 18) (Claimed false)
    (record { piece = rest_piece; attempted = Some 9; works = record { works = refl; fresh = refl }; may = record { from_start = omega arith; ascending = omega arith }; answer = refl; is = refl })
    reached_claimed_second

abbrev second_receipt : Receipt
second_receipt = record { arrivals = at 3 second ∷ []; seen = seen_over estimator.None lines 1 18 least_time; logged = None }

second_given : IsGiven (Some (told file)) plan (job.Span rest_piece) (Some 18) second_receipt
second_given = (record { arrivals = sym spread_second; seen = refl }, refl, tt)

-- nothing is left, and the window fires on time with what no pane has shown
second_round : (k : Value) (own : Bool) → bytes_eq (spelling key) (spelling k) ≡ own
    → IsRound (rules early_trigger) 3 k 3 least_time final_mark (map (λ (a : Arrival). a.element) (cond own (at 3 second ∷ []) [])) (cond own (early_cell ∷ []) []) (cond own (last_cell ∷ []) [])
    (cond own (on_time_fired ∷ []) [])
second_round k false other = nothing_round early_trigger k 3 least_time final_mark
second_round k true own = record {
  openings = record { key = key; span = minute } ∷ [];
  keyed = one (λ (o : Opening). is_same_key o.key k ≡ true) (record { key = key; span = minute }) own;
  windows = λ w. (λ h. h, λ h. h);
  placed = grown_cell ∷ [];
  places = refl;
  fires = refl;
  panes = record {
    each = one (FiresIts (rules early_trigger) 3 k 3 final_mark (on_time_fired ∷ [])) grown_cell
        (λ stands. (on_time_fired, refl, shows_one k own 3 minute OnTime 1 (codes "y") (record { node = 3; element = second; commit = 3 }) (simp out-roll-Value refl)));
    only = one (λ (pane : Pane). list_any (is_fired_by (rules early_trigger) final_mark pane) (grown_cell ∷ []) ≡ true) on_time_fired refl;
  };
}

second_rounds : AreRounds plan 3 reading_marks read_marks (at 3 second ∷ []) (early_cell ∷ []) (last_cell ∷ []) (on_time_fired ∷ [])
second_rounds =
    all_rounds estimator.None early_trigger 3 reading_marks read_marks (at 3 second ∷ []) (early_cell ∷ []) last_cell (on_time_fired ∷ [])
    (λ k. simp out-roll-Value (second_round k (bytes_eq (spelling key) (spelling k)) refl)) refl
    (one (λ (p : Pane). is_group plan p.node ≡ true) on_time_fired refl) (one (λ (p : Pane). p.commit ≡ 3) on_time_fired refl) (omega arith)

reached_after_second : Reached (Some (told file)) after_second
reached_after_second =
    committed_reached (Some (told file)) (at_second (Some 18)) 0 (live.Span rest_piece (Some 18)) second_receipt (last_cell ∷ []) (on_time_fired ∷ []) read_marks reached_claimed_end
    (record {
      works = refl;
      given = second_given;
      marked = are_marks estimator.None early_trigger _ read_marks refl refl refl refl refl refl;
      rounds = second_rounds;
      within = record { commits = omega arith; panes = omega arith; dropped = omega arith; cells = omega arith; keys = omega arith; waiting = omega arith; slots = omega arith; pieces = omega arith };
    })

-- ---- the second pane goes on to the Write

reached_at_on_time : Reached (Some (told file)) at_on_time
unfolding offsets
reached_at_on_time =
    reached_more (Some (told file)) after_second at_on_time 0 Take (TakenJob (job.Batch 3 1 (on_time_fired ∷ []) 0))
    (record {
      running = refl;
      free = refl;
      next = record { job = batch 1; rest = book_of plan 18 second_so_far [] (None ∷ []) [] };
      is_next = refl;
      handed = refl;
      is = refl;
      within = record { commits = omega arith; panes = omega arith; dropped = omega arith; cells = omega arith; keys = omega arith; waiting = omega arith; slots = omega arith; pieces = omega arith };
    }) reached_after_second

abbrev last_receipt : Receipt
last_receipt = record { arrivals = at 4 second_pane ∷ []; seen = least_time; logged = None }

last_given : IsGiven (Some (told file)) plan (job.Batch 3 1 (on_time_fired ∷ []) 0) None last_receipt
last_given = (refl, refl)

last_rounds : AreRounds plan 4 read_marks last_marks (at 4 second_pane ∷ []) (last_cell ∷ []) (last_cell ∷ []) []
last_rounds =
    all_rounds estimator.None early_trigger 4 read_marks last_marks (at 4 second_pane ∷ []) (last_cell ∷ []) last_cell []
    (λ k. quiet_round early_trigger last_cell k (bytes_eq (spelling key) (spelling k)) 4 (marks_at read_marks 3).mark_in (marks_at last_marks 3).mark_in refl) refl
    (none _) (none _) (omega arith)

reached_final : Reached (Some (told file)) final_book
reached_final =
    committed_reached (Some (told file)) at_on_time 0 (batch 1) last_receipt (last_cell ∷ []) [] last_marks reached_at_on_time
    (record {
      works = refl;
      given = last_given;
      marked = are_marks estimator.None early_trigger _ last_marks refl refl refl refl refl refl;
      rounds = last_rounds;
      within = record { commits = omega arith; panes = omega arith; dropped = omega arith; cells = omega arith; keys = omega arith; waiting = omega arith; slots = omega arith; pieces = omega arith };
    })

-- ---- its outcome

abbrev pub final_outcome : Outcome
final_outcome = record {
  plan = plan;
  files = final_book.files;
  done = final_book.done;
  dead = [];
  cells = final_book.cells;
  panes = final_book.panes;
  dropped = [];
  logs = [];
  written = final_book.written;
  commits = final_book.commits;
  stopped = None;
}

ended : IsEnded final_book
ended = record {
  running = refl;
  through = record {
    pending = refl;
    idle = one (λ (s : Option Live). s ≡ None) None refl;
    held = refl;
    keyed = none IsCellThrough;
    shown = one AreAllShown last_cell
        (All-cons (λ (e : Entry). e.shown ≡ true) (entry first 1 true) (entry second 3 true ∷ []) refl (one (λ (e : Entry). e.shown ≡ true) (entry second 3 true) refl));
    final = All-from_recursion (λ (m : StageMarks). (m.mark_in ≡ final_mark) × (m.mark_out ≡ final_mark)) last_marks
        ((refl, refl), ((refl, refl), ((refl, refl), ((refl, refl), ((refl, refl), tt)))));
  };
}

is_outcome : IsOutcomeOf final_book final_outcome
is_outcome = record {
  plan = refl;
  files = refl;
  done = refl;
  dead = refl;
  cells = IsPermutation-refl (last_cell ∷ []);
  cells_in_order = λ j d from within. absurd (omega arith);
  panes = refl;
  dropped = refl;
  logs = IsPermutation-refl [];
  logs_in_order = λ j d from within. absurd (omega arith);
  written = refl;
  commits = refl;
  stopped = refl;
}

-- The run is all that plain writing asks for, its estimator is sound, nothing is dropped, and yet what was written is no plain grouping.
pub the_run : IsEndedRun (told file) final_book final_outcome 4
the_run = record {
  reached = reached_final;
  lengths = refl;
  ended = ended;
  outcome = is_outcome;
  storable = All-cons (λ (p : Pane). IsStorable p.element.value) early_fired (on_time_fired ∷ []) (one_part_storable (codes "x"))
      (one (λ (p : Pane). IsStorable p.element.value) on_time_fired (one_part_storable (codes "y")));
  write = refl;
  stateless = no_stateful_above estimator.None early_trigger;
}

pub nothing_is_dropped : NothingIsDroppedAbove plan 4 final_outcome.dropped
nothing_is_dropped = none _

pub its_writing_is_not_plain : IsPlainAt plan (items (told file) plan) 4 (elements_at 4 final_outcome.written) → ⊥
its_writing_is_not_plain = two_panes_are_not_plain
