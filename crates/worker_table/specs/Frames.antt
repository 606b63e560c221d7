-- What a step of one slot leaves of the rest of the book.
use Rattle.std.proofs.Common.{◌≡◌, ◌≢◌, ℕ, zero, suc, ◌≤◌, List, [], ◌∷◌, ◌++◌, length, length-append, append-nil, refl, sym, ap, ◌∙◌, subst, arith}
use Rattle.std.specs.Prelude.{Option, Some, None, slice_get, slice_set}
use Rattle.std.specs.List.{All}
use Rattle.std.specs.Option.{option_map}
use Rattle.std.proofs.lemmas.List.Elements.{All-nil, All-cons, All-head, All-tail}
use Rattle.beam_values.specs.declared.cell.Pane.{Pane}
use Rattle.beam_values.specs.declared.fault.Cause.{Cause}
use Rattle.beam_values.specs.declared.fault.FaultNote.{FaultNote}
use Rattle.beam_values.specs.declared.file_text.FileText.{FileText}
use Rattle.beam_values.specs.declared.outcome.StopCause.{StopCause}
use Rattle.beam_values.specs.declared.outcome.StopCause.TheVariants as stop
use Rattle.beam_values.specs.declared.piece.Piece.{Piece}
use Rattle.group_cells.specs.Commits.{as_commit}
use Rattle.stateful_core.specs.Cells.{KeyCell}
use Rattle.stateful_core.specs.declared.place.Place.{Place}
use Rattle.book_core.specs.Book.{SeenBook, last_commit, slot_at}
use Rattle.book_core.specs.Changes.{with_slot, failed, or_stopped}
use Rattle.book_core.specs.Jobs.{Due, Next, due_or_other, first_due, key_or_piece, next_cell, next_job, with_key, without_first}
use Rattle.book_core.specs.Steps.{Action, Enroll, Take, Claim, Split, Commit, Fail, Stop, Answer, Enrolled, TakenJob, Nothing, Finished, Stopped, Claimed, SplitAt, Committed, Spent, Noted, NoMemory, Step, IsWorking, IsIdle, IsRunning}
use Rattle.book_core.specs.declared.live.Live.{Live}
use Rattle.book_core.specs.declared.live.Live.TheVariants as live
use Rattle.worker_table.specs.Fits.{HasNoJobLeft, IsEndingOf}
use Rattle.known_jobs.specs.Kept.{fail_leaves, next_keep, none_some, or_some}
use Rattle.worker_table.specs.Moves.{IsOwnAction, ending_after}
use Rattle.known_jobs.specs.Calls.{calls_after, reads_after}
use Rattle.worker_table.specs.Notes.{Ending, GoesOn, HasFinished, IsStopped}
use Rattle.worker_table.specs.Places.{set_elsewhere, set_length, end_elsewhere}

-- ---- no job is left

none_first : (b : SeenBook) (pieces : List Piece) → without_first b pieces ≡ None → pieces ≡ []
none_first b [] e = refl
none_first b (piece ∷ later) e = absurd (none_some _ e)

none_mapped : {X Y : Type 0} (f g : X → Y) (found : Option X) → option_map f found ≡ None → option_map g found ≡ None
none_mapped f g None e = refl
none_mapped f g (Some x) e = absurd (none_some _ e)

-- a book with the same panes, key cells and pieces has no job either
module _ (b c : SeenBook) (due : first_due c ≡ first_due b) (cell : next_cell c ≡ next_cell b) (keys : c.keys ≡ b.keys) (pending : c.pending ≡ b.pending) where
  none_keyed : (place : Option Place) → key_or_piece b place ≡ None → key_or_piece c place ≡ None
  none_keyed (Some place) e =
      ap (λ (l : List KeyCell). option_map (with_key c place.at) (slice_get l place.at)) keys ∙ none_mapped (with_key b place.at) (with_key c place.at) (slice_get b.keys place.at) e
  none_keyed None e = ap (without_first c) (pending ∙ none_first b b.pending e)

  none_due : (d : Option Due) → due_or_other b d ≡ None → due_or_other c d ≡ None
  none_due (Some d) e = absurd (none_some _ e)
  none_due None e = ap (key_or_piece c) cell ∙ none_keyed (next_cell b) e

  none_next : next_job b ≡ None → next_job c ≡ None
  none_next e = ap (due_or_other c) due ∙ none_due (first_due b) e

-- the slot works, so the book is not idle
pub working_busy : (b : SeenBook) (i : ℕ) (job : Live) → IsWorking b i job → IsIdle b → ⊥
working_busy b i job works idle = by b.slots i works idle
  where
    by : (slots : List (Option Live)) (i : ℕ) → slice_get slots i ≡ Some (Some job) → All (λ slot. slot ≡ None) slots → ⊥
    by [] i at idle = cc
    by (s ∷ ss) zero at idle = let none : s ≡ None = All-head (λ slot. slot ≡ None) s ss idle in let some : s ≡ Some job = cc in none_some job (sym some ∙ none)
    by (s ∷ ss) (suc i) at idle = by ss i at (All-tail (λ slot. slot ≡ None) s ss idle)

-- one more slot works nothing
idle_behind : (slots : List (Option Live)) → All (λ slot. slot ≡ None) slots → All (λ slot. slot ≡ None) (slots ++ None ∷ [])
idle_behind [] idle = All-cons (λ slot. slot ≡ None) None [] refl (All-nil (λ slot. slot ≡ None))
idle_behind (s ∷ ss) idle =
    All-cons (λ slot. slot ≡ None) s (ss ++ None ∷ []) (All-head (λ slot. slot ≡ None) s ss idle) (idle_behind ss (All-tail (λ slot. slot ≡ None) s ss idle))

enrolled_left : (b : SeenBook) → HasNoJobLeft b → HasNoJobLeft (record b { slots = b.slots ++ None ∷ [] })
enrolled_left b left = (none_next b (record b { slots = b.slots ++ None ∷ [] }) refl refl refl refl left.0, idle_behind b.slots left.1)

stopped_left : (b : SeenBook) (stopped : Option StopCause) → HasNoJobLeft b → HasNoJobLeft (record b { stopped = stopped })
stopped_left b stopped left = (none_next b (record b { stopped = stopped }) refl refl refl refl left.0, left.1)

-- ---- what a step leaves

pub record Frame (b : SeenBook) (i : ℕ) (b' : SeenBook) : Type 0 where
  -- what the other slots work
  pub others : (j : ℕ) → j ≢ i → slot_at b' j ≡ slot_at b j
  pub commits : last_commit b ≤ last_commit b'
  -- the panes of the run, with more behind them
  pub panes : (more : List Pane) × (b'.panes ≡ b.panes ++ more)
  pub stopped : (IsRunning b → ⊥) → IsRunning b' → ⊥
  pub left : HasNoJobLeft b → HasNoJobLeft b'

same_panes : (b : SeenBook) (panes : List Pane) → panes ≡ b.panes → (more : List Pane) × (panes ≡ b.panes ++ more)
same_panes b panes e = ([], e ∙ sym (append-nil b.panes))

frame_same : (b b' : SeenBook) (i : ℕ) → b' ≡ b → Frame b i b'
frame_same b b' i e = subst (Frame b i) (sym e) (record { others = λ j d. refl; commits = omega arith; panes = same_panes b b.panes refl; stopped = λ h. h; left = λ h. h })

-- a step of a slot that works
frame_busy : (b b' : SeenBook) (i : ℕ) (job : Live) (slot : Option Live) → IsWorking b i job → b'.slots ≡ slice_set b.slots i slot → last_commit b ≤ last_commit b'
    → (more : List Pane) × (b'.panes ≡ b.panes ++ more) → ((IsRunning b → ⊥) → IsRunning b' → ⊥) → Frame b i b'
frame_busy b b' i job slot works slots commits panes stopped = record {
  others = λ j d. ap (λ (s : List (Option Live)). slice_get s j) slots ∙ set_elsewhere b.slots i j slot d;
  commits = commits;
  panes = panes;
  stopped = stopped;
  left = λ left. absurd (working_busy b i job works left.1);
}

take_frame : (b : SeenBook) (i : ℕ) (next : Next) → next_job b ≡ Some next → Frame b i (with_slot next.rest i (Some next.job))
take_frame b i next is_next =
    let keeps = next_keep b next is_next in record {
      others = λ j d. set_elsewhere next.rest.slots i j (Some next.job) d ∙ ap (λ (s : List (Option Live)). slice_get s j) keeps.slots;
      commits = let k = ap length keeps.commits in omega (arith, k);
      panes = same_panes b next.rest.panes keeps.panes;
      stopped = λ h running. h (sym keeps.stopped ∙ running);
      left = λ left. absurd (none_some next (sym is_next ∙ left.0));
    }

enroll_frame : (b : SeenBook) (i : ℕ) → i ≡ length b.slots → Frame b i (record b { slots = b.slots ++ None ∷ [] })
enroll_frame b i e = record {
  others = λ j d. end_elsewhere b.slots None j (λ f. d (f ∙ sym e));
  commits = omega arith;
  panes = same_panes b b.panes refl;
  stopped = λ h. h;
  left = enrolled_left b;
}

pub step_frame : (told : Option (List FileText)) (b b' : SeenBook) (i : ℕ) (action : Action) (answer : Answer) → Step told b i action answer b' → Frame b i b'
step_frame told b b' i Enroll (Enrolled number) step = subst (Frame b i) (sym step.2) (enroll_frame b i (step.1 ∙ step.0))
step_frame told b b' i Enroll NoMemory step = frame_same b b' i step
step_frame told b b' i Take (TakenJob job) step = subst (Frame b i) (sym step.is) (take_frame b i step.next step.is_next)
step_frame told b b' i Take Nothing step = frame_same b b' i step.4
step_frame told b b' i Take Finished step = frame_same b b' i step.4
step_frame told b b' i Take Stopped step = frame_same b b' i step.2
step_frame told b b' i Take NoMemory step = frame_same b b' i step.1
step_frame told b b' i (Claim p) (Claimed granted) step =
    subst (Frame b i) (sym step.is) (frame_busy b _ i (live.Span step.piece step.attempted) _ step.works.works refl (omega arith) (same_panes b b.panes refl) (λ h. h))
step_frame told b b' i (Split num den) (SplitAt (Some at)) step =
    subst (Frame b i) (sym step.0.is) (frame_busy b _ i (live.Span step.0.piece step.0.attempted) _ step.0.works.works refl (omega arith) (same_panes b b.panes refl) (λ h. h))
step_frame told b b' i (Split num den) (SplitAt None) step = frame_same b b' i step.1
step_frame told b b' i (Split num den) NoMemory step = frame_same b b' i step
step_frame told b b' i Commit Committed step =
    let commit = step.1.commit in
    subst (Frame b i) (sym commit.is)
    (frame_busy b _ i step.1.job None step.1.works refl (omega (arith, length-append b.commits (as_commit commit.marks ∷ []))) (commit.fired, refl) (λ h. h))
step_frame told b b' i Commit NoMemory step = frame_same b b' i step.1
step_frame told b b' i (Fail at cause) answer step =
    let leaves = fail_leaves b i at step.job cause in
    subst (Frame b i) (sym step.is)
    (frame_busy b _ i step.job None step.works.works leaves.slots (let k = ap length leaves.commits in omega (arith, k)) (same_panes b (failed b i step.job at cause).panes leaves.panes) leaves.stopped)
step_frame told b b' i Stop Noted step =
    subst (Frame b i) (sym step) (record {
      others = λ j d. refl;
      commits = omega arith;
      panes = same_panes b b.panes refl;
      stopped = λ h running. or_some b.stopped stop.NoMemory running;
      left = stopped_left b (or_stopped b.stopped stop.NoMemory);
    })
step_frame told b b' i _ _ step = absurd step

-- how a pass ended stays so
pub ending_stays : (b b' : SeenBook) (ending : Ending) → ((IsRunning b → ⊥) → IsRunning b' → ⊥) → (HasNoJobLeft b → HasNoJobLeft b') → IsEndingOf b ending → IsEndingOf b' ending
ending_stays b b' GoesOn stopped left fit = tt
ending_stays b b' HasFinished stopped left fit = left fit
ending_stays b b' IsStopped stopped left fit = stopped fit

-- a fail that is the last one stops the book
spent_stops : (told : Option (List FileText)) (b b' : SeenBook) (i at : ℕ) (cause : Cause) (note : FaultNote) → Step told b i (Fail at cause) (Spent note) b' → IsRunning b' → ⊥
spent_stops told b b' i at cause note step =
    subst (λ (x : SeenBook). IsRunning x → ⊥) (sym step.is) ((fail_leaves b i at step.job cause).spent_stops step.answers.0)

-- how the pass ended is so of the book after its step
pub ending_made : (told : Option (List FileText)) (b b' : SeenBook) (i : ℕ) (action : Action) (answer : Answer) (ending : Ending) → Step told b i action answer b' → IsEndingOf b ending
    → IsEndingOf b' (ending_after action answer ending)
ending_made told b b' i Take Finished ending step fit = (step_frame told b b' i Take Finished step).left (step.2, step.3)
ending_made told b b' i Take Stopped ending step fit = (step_frame told b b' i Take Stopped step).stopped step.0
ending_made told b b' i (Fail at cause) (Spent note) ending step fit = spent_stops told b b' i at cause note step
ending_made told b b' i Stop Noted ending step fit = subst (λ (x : SeenBook). IsRunning x → ⊥) (sym step) (λ running. or_some b.stopped stop.NoMemory running)
ending_made told b b' i action answer ending step fit = let frame = step_frame told b b' i action answer step in ending_stays b b' ending frame.stopped frame.left fit

-- no step but an enroll makes a slot
pub step_slots : (told : Option (List FileText)) (b b' : SeenBook) (i : ℕ) (action : Action) (answer : Answer) → IsOwnAction action → Step told b i action answer b' → length b'.slots ≡ length b.slots
step_slots told b b' i Take (TakenJob job) own step =
    ap (λ (x : SeenBook). length x.slots) step.is ∙ set_length step.next.rest.slots i (Some step.next.job) ∙ ap length (next_keep b step.next step.is_next).slots
step_slots told b b' i Take Nothing own step = ap (λ (x : SeenBook). length x.slots) step.4
step_slots told b b' i Take Finished own step = ap (λ (x : SeenBook). length x.slots) step.4
step_slots told b b' i Take Stopped own step = ap (λ (x : SeenBook). length x.slots) step.2
step_slots told b b' i Take NoMemory own step = ap (λ (x : SeenBook). length x.slots) step.1
step_slots told b b' i (Claim p) (Claimed granted) own step = ap (λ (x : SeenBook). length x.slots) step.is ∙ set_length b.slots i _
step_slots told b b' i (Split num den) (SplitAt (Some at)) own step = ap (λ (x : SeenBook). length x.slots) step.0.is ∙ set_length b.slots i _
step_slots told b b' i (Split num den) (SplitAt None) own step = ap (λ (x : SeenBook). length x.slots) step.1
step_slots told b b' i (Split num den) NoMemory own step = ap (λ (x : SeenBook). length x.slots) step
step_slots told b b' i Commit Committed own step = ap (λ (x : SeenBook). length x.slots) step.1.commit.is ∙ set_length b.slots i None
step_slots told b b' i Commit NoMemory own step = ap (λ (x : SeenBook). length x.slots) step.1
step_slots told b b' i (Fail at cause) answer own step =
    ap (λ (x : SeenBook). length x.slots) step.is ∙ ap length (fail_leaves b i at step.job cause).slots ∙ set_length b.slots i None
step_slots told b b' i Stop Noted own step = ap (λ (x : SeenBook). length x.slots) step
step_slots told b b' i Enroll answer own step = absurd own
step_slots told b b' i _ _ own step = absurd step

-- the book counts at most the fails that the step is
pub record AddsFails (b : SeenBook) (action : Action) (b' : SeenBook) : Type 0 where
  pub calls : b'.calls ≤ calls_after action b.calls
  pub reads : b'.reads ≤ reads_after action b.reads

adds_none : (b : SeenBook) (action : Action) (b' : SeenBook) → b'.calls ≡ b.calls → b'.reads ≡ b.reads → calls_after action b.calls ≡ b.calls → reads_after action b.reads ≡ b.reads → AddsFails b action b'
adds_none b action b' calls reads c r = record { calls = omega (arith, calls, c); reads = omega (arith, reads, r) }

pub step_fails : (told : Option (List FileText)) (b b' : SeenBook) (i : ℕ) (action : Action) (answer : Answer) → Step told b i action answer b' → AddsFails b action b'
step_fails told b b' i Enroll (Enrolled number) step = adds_none b Enroll b' (ap (λ (x : SeenBook). x.calls) step.2) (ap (λ (x : SeenBook). x.reads) step.2) refl refl
step_fails told b b' i Enroll NoMemory step = adds_none b Enroll b' (ap (λ (x : SeenBook). x.calls) step) (ap (λ (x : SeenBook). x.reads) step) refl refl
step_fails told b b' i Take (TakenJob job) step =
    let keeps = next_keep b step.next step.is_next in
    adds_none b Take b' (ap (λ (x : SeenBook). x.calls) step.is ∙ keeps.calls) (ap (λ (x : SeenBook). x.reads) step.is ∙ keeps.reads) refl refl
step_fails told b b' i Take Nothing step = adds_none b Take b' (ap (λ (x : SeenBook). x.calls) step.4) (ap (λ (x : SeenBook). x.reads) step.4) refl refl
step_fails told b b' i Take Finished step = adds_none b Take b' (ap (λ (x : SeenBook). x.calls) step.4) (ap (λ (x : SeenBook). x.reads) step.4) refl refl
step_fails told b b' i Take Stopped step = adds_none b Take b' (ap (λ (x : SeenBook). x.calls) step.2) (ap (λ (x : SeenBook). x.reads) step.2) refl refl
step_fails told b b' i Take NoMemory step = adds_none b Take b' (ap (λ (x : SeenBook). x.calls) step.1) (ap (λ (x : SeenBook). x.reads) step.1) refl refl
step_fails told b b' i (Claim p) (Claimed granted) step = adds_none b (Claim p) b' (ap (λ (x : SeenBook). x.calls) step.is) (ap (λ (x : SeenBook). x.reads) step.is) refl refl
step_fails told b b' i (Split num den) (SplitAt (Some at)) step = adds_none b (Split num den) b' (ap (λ (x : SeenBook). x.calls) step.0.is) (ap (λ (x : SeenBook). x.reads) step.0.is) refl refl
step_fails told b b' i (Split num den) (SplitAt None) step = adds_none b (Split num den) b' (ap (λ (x : SeenBook). x.calls) step.1) (ap (λ (x : SeenBook). x.reads) step.1) refl refl
step_fails told b b' i (Split num den) NoMemory step = adds_none b (Split num den) b' (ap (λ (x : SeenBook). x.calls) step) (ap (λ (x : SeenBook). x.reads) step) refl refl
step_fails told b b' i Commit Committed step = adds_none b Commit b' (ap (λ (x : SeenBook). x.calls) step.1.commit.is) (ap (λ (x : SeenBook). x.reads) step.1.commit.is) refl refl
step_fails told b b' i Commit NoMemory step = adds_none b Commit b' (ap (λ (x : SeenBook). x.calls) step.1) (ap (λ (x : SeenBook). x.reads) step.1) refl refl
step_fails told b b' i (Fail at cause) answer step =
    let leaves = fail_leaves b i at step.job cause in
    subst (AddsFails b (Fail at cause)) (sym step.is) (record { calls = leaves.calls; reads = leaves.reads })
step_fails told b b' i Stop Noted step = adds_none b Stop b' (ap (λ (x : SeenBook). x.calls) step) (ap (λ (x : SeenBook). x.reads) step) refl refl
step_fails told b b' i _ _ step = absurd step
