-- The steps as a fact sees them: what the opening has and each kind of change keeps holds of every reached book.
use Rattle.std.proofs.Common.{◌≡◌, ℕ, ◌<◌, ◌≤◌, Bool, true, false, List, [], ◌∷◌, ◌++◌, refl, sym, subst, arith}
use Rattle.std.specs.Prelude.{Option, Some, None, length}
use Rattle.beam_values.specs.Tracking.{MayClaim, first_unattempted, split_point_of}
use Rattle.beam_values.specs.declared.cell.Cell.{Cell}
use Rattle.beam_values.specs.declared.cell.Pane.{Pane}
use Rattle.beam_values.specs.declared.fault.Cause.{Cause}
use Rattle.beam_values.specs.declared.fault.Cause.TheVariants.{Call, Read}
use Rattle.beam_values.specs.declared.file_text.FileText.{FileText}
use Rattle.beam_values.specs.declared.marks.StageMarks.{StageMarks}
use Rattle.beam_values.specs.declared.outcome.StopCause.TheVariants as stop
use Rattle.beam_values.specs.declared.piece.Piece.{Piece}
use Rattle.beam_model.specs.Panes.{ArePanesLegal}
use Rattle.bundle_commit.specs.declared.job.Receipt.{Receipt}
use Rattle.group_cells.specs.Commits.{AreRounds}
use Rattle.book_core.specs.Book.{SeenBook, tracker_of, last_marks, AreMarksOfBook}
use Rattle.book_core.specs.Changes.{with_slot, split_off, committed, failed_where, tried_again, broken, is_broken, note_of, or_stopped}
use Rattle.book_core.specs.Jobs.{Next, next_job, job_of, attempted_of}
use Rattle.book_core.specs.Runs.{Reached, IsOpening}
use Rattle.book_core.specs.Steps.{Action, Enroll, Take, Claim, Split, Commit, Fail, Stop, Answer, Enrolled, TakenJob, Nothing, Finished, Stopped, Claimed, SplitAt, Committed, Noted, NoMemory, Step, IsWorking, MayWorkOn, IsFree, IsFresh, IsRunning, IsWithinLimits, IsCommitting}
use Rattle.book_core.specs.Work.{IsGiven}
use Rattle.book_core.specs.declared.live.Live.{Live}
use Rattle.book_core.specs.declared.live.Live.TheVariants as live
use Rattle.book_core.proofs.Broken.{never_batch, never_key, never_read}
use Rattle.book_core.proofs.Kept.{reached_has}

abbrev pub enrolled : SeenBook → SeenBook
enrolled b = record b { slots = b.slots ++ None ∷ [] }

abbrev pub LegalIn : SeenBook → Type 0
LegalIn b = ArePanesLegal b.plan b.commits b.cells b.dropped b.panes

-- a commit, with the book that it leaves
pub record Commits (told : Option (List FileText)) (b : SeenBook) (slot : ℕ) (job : Live) (receipt : Receipt) (cells : List Cell) (fired : List Pane) (marks : List StageMarks) : Type 0 where
  pub works : IsWorking b slot job
  pub given : IsGiven told b.plan (job_of b.panes job) (attempted_of job) receipt
  pub marked : AreMarksOfBook (committed b slot job receipt cells fired marks) marks
  pub rounds : AreRounds b.plan (length b.commits) (last_marks b) marks receipt.arrivals b.cells cells fired
  pub within : IsWithinLimits (committed b slot job receipt cells fired marks)

-- what keeps a fact, where another one is known of the book before
pub record Keeps (told : Option (List FileText)) (Premise Fact : SeenBook → Type 0) : Type 0 where
  pub opens : (b first : SeenBook) → IsOpening b.plan b.files b.options first → Fact first
  pub enrolls : (b : SeenBook) → Premise b → Fact b → IsWithinLimits (enrolled b) → Fact (enrolled b)
  pub takes : (b : SeenBook) (slot : ℕ) (next : Next) → Premise b → Fact b → IsRunning b → IsFree b slot → next_job b ≡ Some next
      → IsWithinLimits (with_slot next.rest slot (Some next.job)) → Fact (with_slot next.rest slot (Some next.job))
  pub claims : (b : SeenBook) (slot p : ℕ) (piece : Piece) (attempted : Option ℕ) → Premise b → Fact b → MayWorkOn b slot (live.Span piece attempted)
      → MayClaim (tracker_of piece attempted) p → Fact (with_slot b slot (Some (live.Span piece (Some p))))
  pub splits : (b : SeenBook) (slot at : ℕ) (piece : Piece) (attempted : Option ℕ) → Premise b → Fact b → IsWorking b slot (live.Span piece attempted)
      → at < piece.range.to → first_unattempted piece.range.from attempted ≤ at → IsWithinLimits (split_off b slot piece attempted at) → Fact (split_off b slot piece attempted at)
  pub commits : (b : SeenBook) (slot : ℕ) (job : Live) (receipt : Receipt) (cells : List Cell) (fired : List Pane) (marks : List StageMarks)
      → Premise b → Fact b → Commits told b slot job receipt cells fired marks → Fact (committed b slot job receipt cells fired marks)
  pub fails : (b : SeenBook) (slot at : ℕ) (job : Live) (cause : Cause) → Premise b → Fact b → IsWorking b slot job → IsFresh job → is_broken b job cause ≡ false
      → Fact (tried_again b slot job at cause)
  pub breaks : (b : SeenBook) (slot at : ℕ) (piece : Piece) (attempted : Option ℕ) → Premise b → Fact b → IsWorking b slot (live.Span piece attempted) → piece.spent ≡ None
      → is_broken b (live.Span piece attempted) Call ≡ true → Fact (broken b slot piece attempted (note_of (live.Span piece attempted) at Call))
  pub stops : (b : SeenBook) → Premise b → Fact b → Fact (record b { stopped = or_stopped b.stopped stop.NoMemory })

-- a split lies behind the last attempted position
behind_attempted : (piece : Piece) (attempted : Option ℕ) (num den at : ℕ) → at ≡ split_point_of (tracker_of piece attempted) num den → first_unattempted piece.range.from attempted ≤ at
behind_attempted piece attempted num den at point = omega (arith, point)

module _ (told : Option (List FileText)) (Premise Fact : SeenBook → Type 0) (keeps : Keeps told Premise Fact) where
  commit_keeps : (b new : SeenBook) (slot : ℕ) (receipt : Receipt) → IsCommitting told b slot receipt new → IsWithinLimits new → Premise b → Fact b → Fact new
  commit_keeps b new slot receipt step within known h =
      let made = step.commit in
      let after = committed b slot step.job receipt made.cells made.fired made.marks in
      subst Fact (sym made.is) (keeps.commits b slot step.job receipt made.cells made.fired made.marks known h (record {
        works = step.works;
        given = step.given;
        marked = subst (λ (x : SeenBook). AreMarksOfBook x made.marks) made.is made.marked;
        rounds = made.rounds;
        within = subst IsWithinLimits made.is within;
      }))

  fail_keeps : (b : SeenBook) (slot at : ℕ) (job : Live) (cause : Cause) → Premise b → Fact b → IsWorking b slot job → IsFresh job → (t : Bool) → is_broken b job cause ≡ t
      → Fact (failed_where t b slot job at cause)
  fail_keeps b slot at job cause known h works fresh false e = keeps.fails b slot at job cause known h works fresh e
  fail_keeps b slot at (live.Span piece attempted) Call known h works fresh true e = keeps.breaks b slot at piece attempted known h works fresh e
  fail_keeps b slot at (live.Span piece attempted) Read known h works fresh true e = absurd (never_read b piece attempted e)
  fail_keeps b slot at (live.Batch batch) cause known h works fresh true e = absurd (never_batch b batch cause e)
  fail_keeps b slot at (live.Key turn) cause known h works fresh true e = absurd (never_key b turn cause e)

  pub step_keeps : (b new : SeenBook) (slot : ℕ) (action : Action) (answer : Answer) → Step told b slot action answer new → Premise b → Fact b → Fact new
  step_keeps b new slot Enroll (Enrolled number) step known h =
      subst Fact (sym step.2) (keeps.enrolls b known h (subst IsWithinLimits step.2 step.3))
  step_keeps b new slot Enroll NoMemory step known h = subst Fact (sym step) h
  step_keeps b new slot Take (TakenJob job) step known h = subst Fact (sym step.is) (keeps.takes b slot step.next known h step.running step.free step.is_next (subst IsWithinLimits step.is step.within))
  step_keeps b new slot Take Nothing step known h = subst Fact (sym step.4) h
  step_keeps b new slot Take Finished step known h = subst Fact (sym step.4) h
  step_keeps b new slot Take Stopped step known h = subst Fact (sym step.2) h
  step_keeps b new slot Take NoMemory step known h = subst Fact (sym step.1) h
  step_keeps b new slot (Claim p) (Claimed granted) step known h =
      subst Fact (sym step.is) (keeps.claims b slot p step.piece step.attempted known h step.works step.may)
  step_keeps b new slot (Split num den) (SplitAt (Some at)) step known h =
      subst Fact (sym step.0.is) (keeps.splits b slot at step.0.piece step.0.attempted known h step.0.works.works step.0.inside
      (behind_attempted step.0.piece step.0.attempted num den at step.0.point) (subst IsWithinLimits step.0.is step.1))
  step_keeps b new slot (Split num den) (SplitAt None) step known h = subst Fact (sym step.1) h
  step_keeps b new slot (Split num den) NoMemory step known h = subst Fact (sym step) h
  step_keeps b new slot Commit Committed step known h = commit_keeps b new slot step.0 step.1 step.2 known h
  step_keeps b new slot Commit NoMemory step known h = subst Fact (sym step.1) h
  step_keeps b new slot (Fail at cause) answer step known h =
      subst Fact (sym step.is) (fail_keeps b slot at step.job cause known h step.works.works step.works.fresh (is_broken b step.job cause) refl)
  step_keeps b new slot Stop Noted step known h = subst Fact (sym step) (keeps.stops b known h)
  step_keeps b new slot _ _ step known h = absurd step

-- every fact is kept where nothing else is known
abbrev pub Anything : SeenBook → Type 0
Anything b = Unit {0}

-- two facts, of which one needs the other
abbrev pub Both : (SeenBook → Type 0) → (SeenBook → Type 0) → SeenBook → Type 0
Both Premise Fact b = Premise b × Fact b

pub record AreAlways (told : Option (List FileText)) (Fact : SeenBook → Type 0) : Type 0 where
  pub opens : (b first : SeenBook) → IsOpening b.plan b.files b.options first → Fact first
  pub steps : (b new : SeenBook) (slot : ℕ) (action : Action) (answer : Answer) → Step told b slot action answer new → Fact b → Fact new

pub kept_alone : (told : Option (List FileText)) (Fact : SeenBook → Type 0) → Keeps told Anything Fact → AreAlways told Fact
kept_alone told Fact keeps = record {
  opens = keeps.opens;
  steps = λ b new slot action answer step h. step_keeps told Anything Fact keeps b new slot action answer step tt h;
}

pub kept_with : (told : Option (List FileText)) (Premise Fact : SeenBook → Type 0) → AreAlways told Premise → Keeps told Premise Fact → AreAlways told (Both Premise Fact)
kept_with told Premise Fact known keeps = record {
  opens = λ b first opening. (known.opens b first opening, keeps.opens b first opening);
  steps = λ b new slot action answer step h. (
    known.steps b new slot action answer step h.0,
    step_keeps told Premise Fact keeps b new slot action answer step h.0 h.1,
  );
}

pub always_reached : (told : Option (List FileText)) (Fact : SeenBook → Type 0) → AreAlways told Fact → (b : SeenBook) → Reached told b → Fact b
always_reached told Fact always b reached = reached_has told Fact always.steps (λ first book. always.opens book first) b reached
