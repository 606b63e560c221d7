-- How a run ends that goes on from a book on one kit alone.
use Rattle.std.proofs.Common.{◌≡◌, ◌⊎◌, inl, inr, ℕ, ◌+◌, ◌≤◌, refl, sym, ap, subst, ◌∙◌, arith}
use Rattle.std.specs.Prelude.{Some, None}
use Rattle.beam_ports.specs.Observed.{observed_store}
use Rattle.beam_ports.specs.declared.store.Store.{Ghosts as StoreGhosts}
use Rattle.beam_values.specs.declared.fault.FaultNote.{FaultNote}
use Rattle.beam_values.specs.declared.options.Options.{Options}
use Rattle.beam_values.specs.declared.outcome.StopCause.TheVariants as stop
use Rattle.book_core.specs.Book.{SeenBook}
use Rattle.book_core.specs.Facts.{IsStopNoted}
use Rattle.book_core.specs.Sane.{IsSane}
use Rattle.book_core.proofs.NothingLeft.{none_pending}
use Rattle.bundle_work.specs.declared.kit.Kit.{Kit}
use Rattle.chain_exec.specs.Causes.{observed_shelf}
use Rattle.command_ends.specs.declared.status.Status.{Status}
use Rattle.command_ends.specs.declared.status.Status.TheVariants as status
use Rattle.dofn_traits.specs.declared.shelf.Shelf.{Ghosts as ShelfGhosts}
use Rattle.lone_worker.specs.Alone.{AreFailsCounted, IsAloneEnd, IsRunOn}
use Rattle.lone_worker.specs.declared.alone.AloneEnd.{AloneEnd}
use Rattle.lone_worker.specs.declared.alone.AloneEnd.TheVariants as ends
use Rattle.run_engine.specs.PlanRun.{IsEndOfBook, IsMemoryEnd}
use Rattle.run_engine.specs.Resuming.{IsFinished, IsOutcomeAfter, IsResumeEnd, IsSpentAfter, IsStoppedWith}
use Rattle.run_engine.specs.declared.run_end.RunEnd.{RunEnd}
use Rattle.run_engine.proofs.GoesOn.{same_book}
use Rattle.run_engine.proofs.OneKit.{calls_alone, counted_alone, known_of, reads_alone, seen_alone, status_running, status_spent}

module _ {F S : Type 0} (f : ShelfGhosts F) (s : StoreGhosts S) (old new : Kit F S) (first b : SeenBook) where
  -- there was no memory
  pub memory_ends : (e : RunEnd) → IsMemoryEnd e → IsResumeEnd (seen_alone f s old new) first e.status e.outcome
  memory_ends e is = subst (λ (x : Status). IsResumeEnd (seen_alone f s old new) first x e.outcome) (sym is.status) is.none

  module _ (sane : IsSane b) (run : IsRunOn (known_of f s old) first b) (end : AloneEnd)
      (counted : AreFailsCounted (observed_shelf f.strict f.faults old.shelf new.shelf) (observed_store s.files s.faults old.store new.store) first b end) where
    outcome_after : (P : SeenBook → Type 0) → P b → (e : RunEnd) → (is : IsEndOfBook b e) → IsOutcomeAfter (seen_alone f s old new) first P is.outcome
    outcome_after P holds e is = record {
      book = b;
      run = run;
      calls = calls_alone f s old new b.calls first.calls counted.calls;
      reads = reads_alone f s old new b.reads first.reads counted.reads;
      is = holds;
      of_book = is.of_book;
      storable = is.storable;
    }

    -- no job is left
    finishes : IsAloneEnd None ends.Finished first b → (e : RunEnd) → IsEndOfBook b e ⊎ IsMemoryEnd e → IsResumeEnd (seen_alone f s old new) first e.status e.outcome
    finishes is e (inr none) = memory_ends e none
    finishes is e (inl own) =
        let left : IsFinished b = record { running = is.0; idle = is.2.idle; none_left = is.1; pending = none_pending b sane.formed sane.held sane.panes.at_groups is.1 is.2.idle } in
        subst (λ (x : Status). IsResumeEnd (seen_alone f s old new) first x e.outcome) (sym (status_running b.stopped e.status is.0 own.tells)) (own.outcome, own.some, outcome_after IsFinished left e own)

  module _ (sane : IsSane b) (run : IsRunOn (known_of f s old) first b) (note : FaultNote)
      (counted : AreFailsCounted (observed_shelf f.strict f.faults old.shelf new.shelf) (observed_store s.files s.faults old.store new.store) first b (ends.Spent note))
      (is : IsAloneEnd None (ends.Spent note) first b) where
    noted : IsStopNoted b (Some (stop.Spent note))
    noted = subst (IsStopNoted b) is.0 sane.stop

    spent : IsSpentAfter (seen_alone f s old new) first note
    spent =
        let attempt : note.attempt ≡ first.options.attempts = noted.0 ∙ ap (λ (o : Options). o.attempts) (same_book (known_of f s old) first b run).options in
        let calls = calls_alone f s old new b.calls first.calls counted.calls in
        let reads = reads_alone f s old new b.reads first.reads counted.reads in
        record { attempt = attempt; counted = omega (arith, sym attempt, is.1, calls, reads); cause = counted_alone f s old new note.cause counted.cause }

    -- a job failed as often as it may
    stops : (e : RunEnd) → IsEndOfBook b e ⊎ IsMemoryEnd e → IsResumeEnd (seen_alone f s old new) first e.status e.outcome
    stops e (inr none) = memory_ends e none
    stops e (inl own) =
        subst (λ (x : Status). IsResumeEnd (seen_alone f s old new) first x e.outcome) (sym (status_spent b.stopped note e.status is.0 own.tells)) (
          (own.outcome, own.some, outcome_after sane run (ends.Spent note) counted (IsStoppedWith note) (record { noted = is.0; beside = noted.1 }) e own),
          spent,
        )

  -- no job is left, or one failed as often as it may
  pub goes_to_end : IsSane b → IsRunOn (known_of f s old) first b → (end : AloneEnd)
      → AreFailsCounted (observed_shelf f.strict f.faults old.shelf new.shelf) (observed_store s.files s.faults old.store new.store) first b end → IsAloneEnd None end first b → (e : RunEnd)
      → (end ≡ ends.Finished) ⊎ ((note : FaultNote) × (end ≡ ends.Spent note)) → IsEndOfBook b e ⊎ IsMemoryEnd e → IsResumeEnd (seen_alone f s old new) first e.status e.outcome
  goes_to_end sane run end counted is e (inl at) own =
      finishes sane run end counted (subst (λ (x : AloneEnd). IsAloneEnd None x first b) at is) e own
  goes_to_end sane run end counted is e (inr at) own =
      let shelf = observed_shelf f.strict f.faults old.shelf new.shelf in
      let store = observed_store s.files s.faults old.store new.store in
      stops sane run at.0 (subst (AreFailsCounted shelf store first b) at.1 counted) (subst (λ (x : AloneEnd). IsAloneEnd None x first b) at.1 is) e own
