-- How key cells came about is kept: a commit logs the calls of its job, and no other step changes a log or what a log leads to.
use Rattle.std.proofs.Common.{◌≡◌, ℕ, Bool, true, false, List, [], ◌∷◌, ◌++◌, length, refl, sym, subst, arith}
use Rattle.std.specs.Prelude.{Option, Some, None}
use Rattle.std.proofs.lemmas.List.Elements.{All-nil}
use Rattle.beam_values.specs.declared.cell.Cell.{Cell}
use Rattle.beam_values.specs.declared.cell.Pane.{Pane}
use Rattle.beam_values.specs.declared.fault.Cause.{Cause}
use Rattle.beam_values.specs.declared.fault.Cause.TheVariants.{Call, Read}
use Rattle.beam_values.specs.declared.fault.FaultNote.{FaultNote}
use Rattle.beam_values.specs.declared.file_text.FileText.{FileText}
use Rattle.beam_values.specs.declared.marks.StageMarks.{StageMarks}
use Rattle.bundle_commit.specs.declared.job.Receipt.{Receipt}
use Rattle.group_cells.specs.Commits.{NoneFalls, as_commit}
use Rattle.stateful_core.specs.Facts.{AreKeysKept, IsCellKept, IsCellSane}
use Rattle.stateful_core.proofs.Keeping.{give_back_kept, place_kept, take_kept}
use Rattle.stateful_core.proofs.OneLater.{one_later}
use Rattle.book_core.specs.Book.{SeenBook, last_marks}
use Rattle.book_core.specs.Changes.{with_slot, committed, counted, ends_run, given_back, key_done, note_of, stopped_where}
use Rattle.book_core.specs.Facts.{AreTurnsKept, IsWellFormed}
use Rattle.book_core.specs.Jobs.{Next, next_job}
use Rattle.book_core.specs.Sane.{IsSane}
use Rattle.book_core.specs.Steps.{IsWorking}
use Rattle.book_core.specs.declared.live.Live.{Live}
use Rattle.book_core.specs.declared.live.Live.TheVariants as live
use Rattle.book_core.proofs.Cases.{Commits, Keeps}
use Rattle.book_core.proofs.MarksKept.{none_falls}
use Rattle.book_core.proofs.Taking.{take_cases}
use Rattle.book_core.proofs.Turns.{cell_ready, commit_done, turn_at}

abbrev pub AreKeysLogged : SeenBook → Type 0
AreKeysLogged b = AreKeysKept b.plan b.commits b.keys

take_logged : (b : SeenBook) (slot : ℕ) (next : Next) → IsWellFormed b → AreKeysLogged b → next_job b ≡ Some next → AreKeysLogged (with_slot next.rest slot (Some next.job))
take_logged b slot next formed h is =
    take_cases b (λ (n : Next). AreKeysLogged (with_slot n.rest slot (Some n.job))) (λ batch among. h) (λ batch oldest. h)
    (λ place cell found.
    take_kept b.plan b.commits (last_marks b) b.options.bundle place.at b.keys cell formed.allowed.bundle.0 (λ node. refl) found.is_at (cell_ready b slot place cell found) h)
    (λ piece later e. h)
    next is

back_logged : (b : SeenBook) (slot : ℕ) (job : Live) (at : ℕ) (cause : Cause) → AreTurnsKept b → AreKeysLogged b → IsWorking b slot job
    → AreKeysLogged (given_back (with_slot b slot None) job at cause)
back_logged b slot (live.Span piece attempted) at cause turns h works = h
back_logged b slot (live.Batch batch) at cause turns h works = h
back_logged b slot (live.Key turn) at cause turns h works =
    let own = turn_at b slot turn turns works in give_back_kept b.plan b.commits turn.cell b.keys own.cell own.is_at h

counted_logged : (x : SeenBook) (cause : Cause) → AreKeysLogged x → AreKeysLogged (counted x cause)
counted_logged x Call h = h
counted_logged x Read h = h

stop_logged : (x : SeenBook) (spent : Bool) (note : FaultNote) → AreKeysLogged x → AreKeysLogged (stopped_where spent x note)
stop_logged x true note h = h
stop_logged x false note h = h

commit_logged : (told : Option (List FileText)) (b : SeenBook) (slot : ℕ) (job : Live) (receipt : Receipt) (cells : List Cell) (fired : List Pane) (marks : List StageMarks)
    → IsSane b → AreKeysLogged b → Commits told b slot job receipt cells fired marks → AreKeysLogged (committed b slot job receipt cells fired marks)
commit_logged told b slot job receipt cells fired marks sane h made =
    let rise : NoneFalls (last_marks b) marks = none_falls told b slot job receipt cells fired marks sane.formed sane.held sane.keys made sane.marks.last in
    place_kept b.plan b.commits (b.commits ++ as_commit marks ∷ []) (last_marks b) (key_done (length b.commits) job receipt.logged) receipt.arrivals b.keys
    (one_later b.commits marks sane.marks.some (λ node. (rise node).0)) (commit_done told b slot job receipt sane.keys sane.turns made.works made.given) h

pub keeps_logged : (told : Option (List FileText)) → Keeps told IsSane AreKeysLogged
keeps_logged told = record {
  opens = λ b first opening. subst AreKeysLogged (sym opening.is) (record {
    sane = record { each = All-nil (IsCellSane b.plan (as_commit opening.marks ∷ [])); once = λ node key span. omega arith };
    each = All-nil (IsCellKept b.plan (as_commit opening.marks ∷ []));
  });
  enrolls = λ b sane h within. h;
  takes = λ b slot next sane h running free is within. take_logged b slot next sane.formed h is;
  claims = λ b slot p piece attempted sane h works may. h;
  splits = λ b slot at piece attempted sane h works inside behind within. h;
  commits = λ b slot job receipt cells fired marks sane h made. commit_logged told b slot job receipt cells fired marks sane h made;
  fails = λ b slot at job cause sane h works fresh unbroken.
      stop_logged (counted (given_back (with_slot b slot None) job at cause) cause) (ends_run b job cause) (note_of job at cause)
      (counted_logged (given_back (with_slot b slot None) job at cause) cause (back_logged b slot job at cause sane.turns h works));
  breaks = λ b slot at piece attempted sane h works fresh is. h;
  stops = λ b sane h. h;
}
