-- What a commit of a key job leaves waiting, and what a refused one hands back.
use Rattle.std.proofs.Common.{◌≡◌, ℕ, zero, suc, ◌+◌, ◌-◌, ◌≤◌, cond, List, [], ◌∷◌, length, map, take, refl, sym, ap, subst, ◌∙◌, arith}
use Rattle.std.specs.Prelude.{Option, Some, None, slice_get, unwrap_or}
use Rattle.std.specs.List.{count_by}
use Rattle.std.specs.Option.{option_map}
use Rattle.std.proofs.lemmas.List.{length-drop, length-take-le}
use Rattle.std.proofs.lemmas.List.Sums.{sum_by-cons}
use Rattle.beam_values.specs.declared.file_text.FileText.{FileText}
use Rattle.beam_values.specs.declared.log.LogEntry.{LogEntry}
use Rattle.beam_values.specs.declared.log.LogInput.{LogInput}
use Rattle.beam_values.specs.declared.log.LogInput.TheVariants.{Arrived}
use Rattle.beam_values.specs.declared.log.Timer.{Timer}
use Rattle.beam_values.specs.States.{KeptState}
use Rattle.beam_values.specs.declared.plan.Node.{Node}
use Rattle.beam_values.specs.declared.marks.CommitMarks.{CommitMarks}
use Rattle.beam_values.specs.declared.marks.StageMarks.{StageMarks}
use Rattle.bundle_commit.specs.declared.job.Logged.{Logged}
use Rattle.bundle_commit.specs.declared.job.Receipt.{Receipt}
use Rattle.stateful_core.specs.Cells.{KeyCell}
use Rattle.stateful_core.specs.Facts.{Folded, IsCellSane, IsLiveAs, folded_in}
use Rattle.stateful_core.specs.KeyWork.{numbered, numbered_entry}
use Rattle.stateful_core.specs.Placing.{Done, finish, set_done, with_done}
use Rattle.stateful_core.specs.Taking.{element_inputs, first_timer, inputs_of, timer_inputs}
use Rattle.stateful_core.specs.declared.key_job.KeyTurn.{KeyTurn}
use Rattle.stateful_core.specs.declared.waiting.Waiting.{Waiting}
use Rattle.stateful_core.proofs.KeyGiven.{in_numbered}
use Rattle.book_core.specs.Book.{SeenBook, last_marks, waiting_in}
use Rattle.book_core.specs.Changes.{key_done, key_done_of}
use Rattle.book_core.specs.Facts.{AreTurnsKept}
use Rattle.book_core.specs.Jobs.{attempted_of, job_of}
use Rattle.book_core.specs.KeyCells.{elements_of, is_arrived, logged_of}
use Rattle.book_core.specs.Steps.{IsWorking}
use Rattle.book_core.specs.Work.{IsGiven, folded_by}
use Rattle.book_core.specs.declared.live.Live.{Live}
use Rattle.book_core.specs.declared.live.Live.TheVariants as live
use Rattle.book_core.proofs.KeysKept.{KeysSane}
use Rattle.book_core.proofs.Slots.{All-slice_get, set_weighs}
use Rattle.book_core.proofs.Turns.{placed_job, turn_at}

-- ---- what waits

abbrev many : KeyCell → ℕ
many cell = length cell.waiting

module _ (before : List StageMarks) where
  pub finish_most : (done : Option Done) (cells : List KeyCell) → waiting_in (finish before done cells) ≤ waiting_in cells
  finish_most None cells = omega arith
  finish_most (Some done) cells = by (slice_get cells done.cell) refl
    where
      by : (found : Option KeyCell) → slice_get cells done.cell ≡ found → waiting_in (set_done before done found cells) ≤ waiting_in cells
      by None e = omega arith
      by (Some cell) e = omega (arith, set_weighs many cells done.cell cell (with_done before done cell) e, length-drop (unwrap_or cell.live 0) cell.waiting)

  finish_exact : (done : Done) (cells : List KeyCell) (cell : KeyCell) (count : ℕ) → slice_get cells done.cell ≡ Some cell → cell.live ≡ Some count → count ≤ length cell.waiting
      → waiting_in (finish before (Some done) cells) + count ≡ waiting_in cells
  finish_exact done cells cell count e live few =
      ap (λ (o : Option KeyCell). waiting_in (set_done before done o cells) + count) e
      ∙ exact _ _ _ _ (set_weighs many cells done.cell cell (with_done before done cell) e) (length-drop (unwrap_or cell.live 0) cell.waiting) (ap (λ (l : Option ℕ). unwrap_or l 0) live)
    where
      exact : (set all left dropped : ℕ) → set + length cell.waiting ≡ all + left → left ≡ length cell.waiting - dropped → dropped ≡ count → set + count ≡ all
      exact set all left dropped h k l = omega (arith, h, k, l, few)

arrived_many : (ws : List Waiting) → count_by is_arrived (element_inputs ws) ≡ length ws
arrived_many [] = refl
arrived_many (w ∷ ws) = omega (arith, arrived_many ws, sum_by-cons (λ (input : LogInput). cond {A = ℕ} (is_arrived input) 1 0) (Arrived w.element) (element_inputs ws))

inputs_many : (cell : KeyCell) (count : ℕ) → count ≤ length cell.waiting → count_by is_arrived (inputs_of cell count) ≡ count
inputs_many cell zero few = timers (first_timer cell.kept.timers)
  where
    timers : (o : Option Timer) → count_by is_arrived (timer_inputs o) ≡ 0
    timers None = refl
    timers (Some timer) = refl
inputs_many cell (suc n) few = arrived_many (take (suc n) cell.waiting) ∙ length-take-le (suc n) cell.waiting few

few_live : (commits : List CommitMarks) (cell : KeyCell) (count : ℕ) → IsLiveAs commits cell (Some count) → count ≤ length cell.waiting
few_live commits cell zero h = omega arith
few_live commits cell (suc n) h = h

-- the elements of a job wait no more once it is done
pub job_waits : (told : Option (List FileText)) (b : SeenBook) (slot : ℕ) (job : Live) (receipt : Receipt) → KeysSane b → AreTurnsKept b → IsWorking b slot job
    → IsGiven told b.plan (job_of b.panes job) (attempted_of job) receipt
    → waiting_in (finish (last_marks b) (key_done (length b.commits) job receipt.logged) b.keys) + elements_of job ≡ waiting_in b.keys
job_waits told b slot (live.Span piece attempted) receipt kept turns works given = omega arith
job_waits told b slot (live.Batch batch) receipt kept turns works given = omega arith
job_waits told b slot (live.Key turn) receipt kept turns works given =
    let placed = placed_job told b slot turn receipt kept turns works given in
    let own = turn_at b slot turn turns works in
    let worked : IsLiveAs b.commits own.cell (Some own.count) = subst (IsLiveAs b.commits own.cell) own.works (All-slice_get (IsCellSane b.plan b.commits) b.keys turn.cell own.cell own.is_at kept.each).works in
    let few = few_live b.commits own.cell own.count worked in
    let inputs : elements_of (live.Key turn) ≡ own.count = ap (λ (t : KeyTurn). count_by is_arrived t.inputs) own.is ∙ inputs_many own.cell own.count few in
    let left = finish_exact (last_marks b) placed.done b.keys own.cell own.count (ap (slice_get b.keys) placed.cell_is ∙ own.is_at) own.works few in
    omega (arith, inputs, left, ap (λ (o : Option Done). waiting_in (finish (last_marks b) o b.keys)) placed.is)

-- ---- what is handed back

twice_numbered : (c : ℕ) (entries : List LogEntry) → map (numbered_entry 0) (map (numbered_entry c) entries) ≡ map (numbered_entry 0) entries
twice_numbered c [] = refl
twice_numbered c (entry ∷ entries) = ap (λ (l : List LogEntry). numbered_entry 0 entry ∷ l) (twice_numbered c entries)

-- a receipt has its log as it was, since no entry had a number
pub logged_same : (told : Option (List FileText)) (b : SeenBook) (job : Live) (receipt : Receipt) (c : ℕ) → IsGiven told b.plan (job_of b.panes job) (attempted_of job) receipt
    → logged_of (key_done c job receipt.logged) ≡ receipt.logged
logged_same told b (live.Span piece attempted) receipt c given = sym given.1
logged_same told b (live.Batch batch) receipt c given = sym given.1
logged_same told b (live.Key turn) receipt c given = by receipt.logged given.logs
  where
    found : Option Node
    found = slice_get b.plan.nodes turn.node

    kept : KeptState
    kept = record { cells = turn.state; timers = turn.timers }

    by : (logged : Option Logged) → option_map folded_by logged ≡ folded_in found turn.key turn.span 0 kept turn.inputs → logged_of (key_done_of c turn.cell logged) ≡ logged
    by None logs = refl
    by (Some logged) logs =
        let all : Some (folded_by logged) ≡ Some (numbered 0 (folded_by logged)) =
        logs ∙ in_numbered found turn.key turn.span 0 kept turn.inputs ∙ ap (option_map (numbered 0)) (sym logs) in
        let same : folded_by logged ≡ numbered 0 (folded_by logged) = cc in
        ap (λ (l : List LogEntry). Some (record { state = logged.state; timers = logged.timers; entries = l }))
        (twice_numbered c logged.entries ∙ sym (ap (λ (f : Folded). f.entries) same))
