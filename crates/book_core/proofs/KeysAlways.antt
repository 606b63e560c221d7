-- What is kept of key cells holds of every book, and each that is worked is so by one slot: a commit has the function's calls and what comes to them, a take and
-- a fail change what is worked, and no other step changes them.
use Rattle.std.proofs.Common.{◌≡◌, ℕ, ◌≤◌, Bool, true, false, List, [], ◌∷◌, ◌++◌, length, refl, sym, ap, subst, length-append, arith}
use Rattle.std.specs.Prelude.{Option, Some, None}
use Rattle.std.proofs.lemmas.List.Elements.{All-nil}
use Rattle.beam_values.specs.declared.cell.Cell.{Cell}
use Rattle.beam_values.specs.declared.cell.Pane.{Pane}
use Rattle.beam_values.specs.declared.fault.Cause.{Cause}
use Rattle.beam_values.specs.declared.fault.Cause.TheVariants.{Call, Read}
use Rattle.beam_values.specs.declared.fault.FaultNote.{FaultNote}
use Rattle.beam_values.specs.declared.file_text.FileText.{FileText}
use Rattle.beam_values.specs.declared.marks.StageMarks.{StageMarks}
use Rattle.bundle_commit.specs.declared.job.Receipt.{Receipt}
use Rattle.group_cells.specs.Commits.{NoneFalls, as_commit}
use Rattle.stateful_core.specs.Facts.{IsCellSane}
use Rattle.stateful_core.proofs.SaneSteps.{give_back_sane, place_sane, take_sane}
use Rattle.stateful_core.proofs.OneLater.{one_later}
use Rattle.book_core.specs.Book.{SeenBook, last_marks, AreMarksOfBook}
use Rattle.book_core.specs.Changes.{with_slot, committed, counted, cut_to, ends_run, given_back, key_done, note_of, stopped_where}
use Rattle.book_core.specs.Facts.{AreHeldOnce, AreTurnsKept, HasTurn, IsWellFormed}
use Rattle.book_core.specs.Jobs.{Next, next_job}
use Rattle.book_core.specs.Steps.{IsFree, IsWorking}
use Rattle.book_core.specs.declared.live.Live.{Live}
use Rattle.book_core.specs.declared.live.Live.TheVariants as live
use Rattle.book_core.proofs.Cases.{Both, Commits, Keeps}
use Rattle.book_core.proofs.KeysKept.{KeysSane}
use Rattle.book_core.proofs.MarksKept.{none_falls}
use Rattle.book_core.proofs.RisingMarks.{IsMarked, last_is}
use Rattle.book_core.proofs.Taking.{take_cases}
use Rattle.book_core.proofs.Turns.{back_turns, cell_ready, commit_done, commit_turns, enroll_turns, same_turns, take_turns, turn_at}

-- what the key cells keep, and the slots that work them
abbrev pub AreKeysWorked : SeenBook → Type 0
AreKeysWorked b = KeysSane b × AreTurnsKept b

-- ---- a take

take_keys : (b : SeenBook) (slot : ℕ) (next : Next) → IsWellFormed b → IsFree b slot → KeysSane b → AreTurnsKept b → next_job b ≡ Some next
    → KeysSane (with_slot next.rest slot (Some next.job)) × AreTurnsKept (with_slot next.rest slot (Some next.job))
take_keys b slot next formed free kept h is =
    take_cases b (λ (n : Next). KeysSane (with_slot n.rest slot (Some n.job)) × AreTurnsKept (with_slot n.rest slot (Some n.job)))
    (λ batch among. (kept, let t = same_turns b slot None (Some (live.Batch batch)) free refl tt h in record { once = t.once; turns = t.turns }))
    (λ batch oldest. (kept, let t = same_turns b slot None (Some (live.Batch batch)) free refl tt h in record { once = t.once; turns = t.turns }))
    (λ place cell found. (
      take_sane b.plan b.commits (last_marks b) b.options.bundle place.at b.keys cell formed.allowed.bundle.0 (λ node. refl) found.is_at (cell_ready b slot place cell found) kept,
      take_turns b slot place cell found free kept h,
    ))
    (λ piece later e. (kept, let t = same_turns b slot None (Some (live.Span piece None)) free refl tt h in record { once = t.once; turns = t.turns }))
    next is

-- ---- a fail

back_keys : (b : SeenBook) (slot : ℕ) (job : Live) (at : ℕ) (cause : Cause) → KeysSane b → AreTurnsKept b → IsWorking b slot job → AreKeysWorked (given_back (with_slot b slot None) job at cause)
back_keys b slot (live.Span piece attempted) at cause kept h works =
    let t = same_turns b slot (Some (live.Span piece attempted)) None works refl tt h in (kept, record { once = t.once; turns = t.turns })
back_keys b slot (live.Batch batch) at cause kept h works =
    let t = same_turns b slot (Some (live.Batch batch)) None works refl tt h in (kept, record { once = t.once; turns = t.turns })
back_keys b slot (live.Key turn) at cause kept h works =
    let own = turn_at b slot turn h works in
    let t = back_turns b slot turn works kept h in
    (give_back_sane b.plan b.commits turn.cell b.keys own.cell own.is_at kept, record { once = t.once; turns = t.turns })

counted_keys : (x : SeenBook) (cause : Cause) → AreKeysWorked x → AreKeysWorked (counted x cause)
counted_keys x Call h = (h.0, record { once = h.1.once; turns = h.1.turns })
counted_keys x Read h = (h.0, record { once = h.1.once; turns = h.1.turns })

stop_keys : (x : SeenBook) (spent : Bool) (note : FaultNote) → AreKeysWorked x → AreKeysWorked (stopped_where spent x note)
stop_keys x true note h = (h.0, record { once = h.1.once; turns = h.1.turns })
stop_keys x false note h = h

-- ---- a commit

commit_keys : (told : Option (List FileText)) (b : SeenBook) (slot : ℕ) (job : Live) (receipt : Receipt) (cells : List Cell) (fired : List Pane) (marks : List StageMarks)
    → IsWellFormed b → AreHeldOnce b → IsMarked b → KeysSane b → AreTurnsKept b → Commits told b slot job receipt cells fired marks → KeysSane (committed b slot job receipt cells fired marks)
commit_keys told b slot job receipt cells fired marks formed once marked h turns made =
    let was : AreMarksOfBook b (last_marks b) = subst (AreMarksOfBook b) (sym (last_is b marked)) marked.marked in
    let rise : NoneFalls (last_marks b) marks = none_falls told b slot job receipt cells fired marks formed once h made was in
    let some : 1 ≤ length b.commits = omega (arith, ap length marked.commits, length-append marked.earlier (as_commit marked.before ∷ [])) in
    place_sane b.plan b.commits (b.commits ++ as_commit marks ∷ []) (last_marks b) (length b.commits) (key_done (length b.commits) job receipt.logged) receipt.arrivals b.keys
    (one_later b.commits marks some (λ node. (rise node).0)) (commit_done told b slot job receipt h turns made.works made.given) h

pub keeps_keys : (told : Option (List FileText)) → Keeps told (Both (Both IsWellFormed AreHeldOnce) IsMarked) AreKeysWorked
keeps_keys told = record {
  opens = λ b first opening. subst AreKeysWorked (sym opening.is) (
    record { each = All-nil (IsCellSane b.plan (as_commit opening.marks ∷ [])); once = λ node key span. omega arith },
    record { once = record { once = λ at. refl }; turns = All-nil (HasTurn []) },
  );
  enrolls = λ b known h within. (h.0, let t = enroll_turns b h.1 in record { once = t.once; turns = t.turns });
  takes = λ b slot next known h running free is within. take_keys b slot next known.0.0 free h.0 h.1 is;
  claims = λ b slot p piece attempted known h works may. (h.0, same_turns b slot (Some (live.Span piece attempted)) (Some (live.Span piece (Some p))) works.works refl tt h.1);
  splits = λ b slot at piece attempted known h works inside behind within. (
    h.0,
    let t = same_turns b slot (Some (live.Span piece attempted)) (Some (live.Span (cut_to piece (record { from = piece.range.from; to = at })) attempted)) works refl tt h.1 in record { once = t.once; turns = t.turns },
  );
  commits = λ b slot job receipt cells fired marks known h made. (
    commit_keys told b slot job receipt cells fired marks known.0.0 known.0.1 known.1 h.0 h.1 made,
    let t = commit_turns told b slot job receipt h.0 h.1 made.works made.given in record { once = t.once; turns = t.turns },
  );
  fails = λ b slot at job cause known h works fresh unbroken.
      stop_keys (counted (given_back (with_slot b slot None) job at cause) cause) (ends_run b job cause) (note_of job at cause)
      (counted_keys (given_back (with_slot b slot None) job at cause) cause (back_keys b slot job at cause h.0 h.1 works));
  breaks = λ b slot at piece attempted known h works fresh is. (
    h.0,
    let t = same_turns b slot (Some (live.Span piece attempted)) None works refl tt h.1 in record { once = t.once; turns = t.turns },
  );
  stops = λ b known h. (h.0, record { once = h.1.once; turns = h.1.turns });
}
