-- A book that a run on one kit alone was paused with, or how that run was given up.
use Rattle.std.proofs.Common.{◌≡◌, ◌⊎◌, inl, inr, ℕ, ◌+◌, ◌<◌, ◌≤◌, true, List, [], ◌∷◌, ◌++◌, length, map, refl, sym, ap, subst, ◌∙◌, arith}
use Rattle.std.specs.Prelude.{Option, Some, None, IfSome}
use Rattle.beam_model.specs.Positions.{item_len, items}
use Rattle.beam_ports.specs.Observed.{WhereTold, observed_store}
use Rattle.beam_ports.specs.declared.store.Store.{Ghosts as StoreGhosts}
use Rattle.beam_values.specs.declared.fault.FaultNote.{FaultNote}
use Rattle.beam_values.specs.declared.file_text.FileText.{FileText}
use Rattle.beam_values.specs.declared.options.Options.{Options}
use Rattle.beam_values.specs.declared.outcome.Outcome.{Outcome}
use Rattle.beam_values.specs.declared.outcome.StopCause.TheVariants as stop
use Rattle.beam_values.specs.declared.piece.FileLen.{FileLen}
use Rattle.beam_values.specs.declared.plan.Plan.{Plan}
use Rattle.book_core.specs.Book.{SeenBook}
use Rattle.book_core.specs.Facts.{IsStopNoted}
use Rattle.book_core.specs.Jobs.{next_job}
use Rattle.book_core.specs.Runs.{AreTold, HonestlyReached, IsEnded, IsThrough, Reached}
use Rattle.book_core.specs.Sane.{IsSane}
use Rattle.book_core.specs.Steps.{Enroll, Enrolled, IsIdle, IsRunning}
use Rattle.book_core.specs.Work.{Surroundings}
use Rattle.book_core.specs.declared.live.Live.{Live}
use Rattle.bundle_work.specs.Openings.{AreOpened, file_names}
use Rattle.bundle_work.specs.Reading.{opened_lengths}
use Rattle.bundle_work.specs.declared.kit.Kit.{Kit}
use Rattle.chain_exec.specs.Causes.{observed_shelf}
use Rattle.command_ends.specs.declared.status.Status.{Status}
use Rattle.command_ends.specs.declared.status.Status.TheVariants as status
use Rattle.dofn_traits.specs.declared.shelf.Shelf.{Ghosts as ShelfGhosts}
use Rattle.lone_worker.specs.Alone.{AreFailsCounted, IsAloneEnd, IsRunOn}
use Rattle.lone_worker.specs.declared.alone.AloneEnd.{AloneEnd}
use Rattle.lone_worker.specs.declared.alone.AloneEnd.TheVariants as ends
use Rattle.lone_worker.proofs.Leading.{run_one}
use Rattle.run_engine.specs.Pausing.{IsFirstBook, IsPauseRefused, IsPaused}
use Rattle.run_engine.specs.PlanRun.{IsEndOfBook, IsMemoryEnd, IsOutcomeWhere, IsPlanEnd, IsSpent, IsStoppedBy, surroundings_of}
use Rattle.run_engine.specs.SetAside.{calls_counted, reads_counted}
use Rattle.run_engine.specs.declared.run_end.RunEnd.{RunEnd}
use Rattle.run_engine.proofs.GoesOn.{goes_on, opening_reached_by, same_book}
use Rattle.run_engine.proofs.OneKit.{calls_alone, counted_alone, known_of, reads_alone, seen_alone, status_spent, still_free}
use Rattle.run_engine.proofs.PlanRuns.{if_outcome, lengths_of_all, told_each}

-- there was no memory
pub memory_refused : {F S : Type 0} (f : ShelfGhosts F) (s : StoreGhosts S) (plan : Plan) (options : Options) (old new : Kit F S) (e : RunEnd) → IsMemoryEnd e
    → IsPauseRefused (seen_alone f s old new) plan options e
memory_refused f s plan options old new e is = record {
  given_up = λ ok. let never : status.NoMemory ≡ status.Ok = sym is.status ∙ ok in cc;
  end = subst (λ (x : Status). IsPlanEnd (seen_alone f s old new) plan options x e.outcome) (sym is.status) is.none;
}

pub none_told : {A : Type 0} (P : A → Type 0) (o : Option A) → o ≡ None → IfSome o P
none_told P None is = tt
none_told P (Some a) is = absurd (cc)

module _ {F S : Type 0} (f : ShelfGhosts F) (s : StoreGhosts S) (plan : Plan) (options : Options) (old new : Kit F S)
    (opened : AreOpened (s.files old.store) (s.opened old.store) (file_names plan) old.files) (enrolled : SeenBook) (first : IsFirstBook plan old.files options enrolled) where
  -- ---- its book at first

  pub first_plan : enrolled.plan ≡ plan
  first_plan = ap (λ (x : SeenBook). x.plan) first.is ∙ ap (λ (x : SeenBook). x.plan) first.opening.is

  first_options : enrolled.options ≡ options
  first_options = ap (λ (x : SeenBook). x.options) first.is ∙ ap (λ (x : SeenBook). x.options) first.opening.is

  pub first_files : enrolled.files ≡ opened_lengths plan old.files
  first_files = ap (λ (x : SeenBook). x.files) first.is ∙ ap (λ (x : SeenBook). x.files) first.opening.is

  pub first_slots : enrolled.slots ≡ None ∷ []
  first_slots = ap (λ (x : SeenBook). x.slots) first.is

  pub first_runs : IsRunning enrolled
  first_runs = ap (λ (x : SeenBook). x.stopped) first.is ∙ ap (λ (x : SeenBook). x.stopped) first.opening.is

  first_calls : enrolled.calls ≡ 0
  first_calls = ap (λ (x : SeenBook). x.calls) first.is ∙ ap (λ (x : SeenBook). x.calls) first.opening.is

  first_reads : enrolled.reads ≡ 0
  first_reads = ap (λ (x : SeenBook). x.reads) first.is ∙ ap (λ (x : SeenBook). x.reads) first.opening.is

  first_commits : length enrolled.commits ≡ 1
  first_commits = ap (λ (x : SeenBook). length x.commits) first.is ∙ ap (λ (x : SeenBook). length x.commits) first.opening.is

  first_reached : HonestlyReached (known_of f s old) enrolled
  first_reached =
      let known = known_of f s old in
      let none : first.first.slots ≡ [] = ap (λ (x : SeenBook). x.slots) first.opening.is in
      let number : 0 ≡ length first.first.slots = ap length (sym none) in
      let is : enrolled ≡ record first.first { slots = first.first.slots ++ None ∷ [] } =
      subst (λ (l : List (Option Live)). enrolled ≡ record first.first { slots = l ++ None ∷ [] }) (sym none) first.is in
      goes_on known first.first enrolled (opening_reached_by known plan (opened_lengths plan old.files) options first.first first.opening)
      (run_one known first.first enrolled 0 Enroll (Enrolled 0) (number, refl, is, first.within) tt)

  first_lengths : WhereTold (seen_alone f s old new).store.files (λ told. enrolled.files ≡ map item_len (items told plan))
  first_lengths =
      let seen = seen_alone f s old new in
      (lengths_of_all seen.store.files (s.files old.store) plan enrolled.files (told_each f.strict s.files s.opened (old ∷ [])).0 (first.lengths (s.files old.store) (s.opened old.store) opened)).told_are

  -- ---- its book then

  module _ (b : SeenBook) (run : IsRunOn (known_of f s old) enrolled b) where
    of_plan : b.plan ≡ plan
    of_plan = (same_book (known_of f s old) enrolled b run).plan ∙ first_plan

    with_options : b.options ≡ options
    with_options = (same_book (known_of f s old) enrolled b run).options ∙ first_options

    pub of_files : b.files ≡ opened_lengths plan old.files
    of_files = (same_book (known_of f s old) enrolled b run).files ∙ first_files

    reached : HonestlyReached (surroundings_of (seen_alone f s old new)) b
    reached = goes_on (known_of f s old) enrolled b first_reached run

    lengths : WhereTold (seen_alone f s old new).store.files (λ told. AreTold told b)
    lengths told tells =
        (same_book (known_of f s old) enrolled b run).files ∙ first_lengths told tells ∙ ap (λ (p : Plan). map item_len (items told p)) (sym of_plan)

    module _ (end : AloneEnd) (counted : AreFailsCounted (observed_shelf f.strict f.faults old.shelf new.shelf) (observed_store s.files s.faults old.store new.store) enrolled b end) where
      calls : b.calls ≤ calls_counted (seen_alone f s old new)
      calls = let few = calls_alone f s old new b.calls enrolled.calls counted.calls in omega (arith, few, first_calls)

      reads : b.reads ≤ reads_counted (seen_alone f s old new)
      reads = let few = reads_alone f s old new b.reads enrolled.reads counted.reads in omega (arith, few, first_reads)

      paused_book : (commits : ℕ) → IsRunning b → IsIdle b → length b.slots ≡ length enrolled.slots → (length b.commits ≡ commits + 1) ⊎ ((length b.commits ≤ commits) × IsEnded b)
          → IsPaused (seen_alone f s old new) plan options commits b
      paused_book commits running idle same stops = record {
        reached = reached;
        of_plan = of_plan;
        with_options = with_options;
        lengths = lengths;
        slot = still_free enrolled.slots b.slots first_slots idle same;
        running = running;
        stops = stops;
        calls = calls;
        reads = reads;
      }

      -- as many commits as were asked for
      paused : (commits : ℕ) → IsAloneEnd (Some (commits + 1)) ends.Paused enrolled b → IsPaused (seen_alone f s old new) plan options commits b
      paused commits is =
          paused_book commits (is.0 first_runs) is.1.idle is.1.slots (inl (is.2.1 (omega (arith, first_commits))))

      -- or no job left
      finished : (commits : ℕ) → ((k : Surroundings) (x : SeenBook) → HonestlyReached k x → Reached k.told x)
          → ((told : Option (List FileText)) (x : SeenBook) → Reached told x → next_job x ≡ None → IsIdle x → IsThrough x) → IsAloneEnd (Some (commits + 1)) ends.Finished enrolled b
          → IsPaused (seen_alone f s old new) plan options commits b
      finished commits runs through is =
          let seen = seen_alone f s old new in
          let ended : IsEnded b = record { running = is.0; through = through seen.store.files b (runs (surroundings_of seen) b reached) is.1 is.2.idle } in
          paused_book commits is.0 is.2.idle is.2.slots (inr (omega (arith, is.3), ended))

      pub stops : (commits : ℕ) → ((k : Surroundings) (x : SeenBook) → HonestlyReached k x → Reached k.told x)
          → ((told : Option (List FileText)) (x : SeenBook) → Reached told x → next_job x ≡ None → IsIdle x → IsThrough x) → (end ≡ ends.Finished) ⊎ (end ≡ ends.Paused)
          → IsAloneEnd (Some (commits + 1)) end enrolled b → IsPaused (seen_alone f s old new) plan options commits b
      stops commits runs through (inl is) ended = finished commits runs through (subst (λ (e : AloneEnd). IsAloneEnd (Some (commits + 1)) e enrolled b) is ended)
      stops commits runs through (inr is) ended = paused commits (subst (λ (e : AloneEnd). IsAloneEnd (Some (commits + 1)) e enrolled b) is ended)

    -- or a job failed as often as it may
    module _ (note : FaultNote) (counted : AreFailsCounted (observed_shelf f.strict f.faults old.shelf new.shelf) (observed_store s.files s.faults old.store new.store) enrolled b (ends.Spent note))
        (commits : Option ℕ) (is : IsAloneEnd commits (ends.Spent note) enrolled b) (sane : IsSane b) where
      noted : IsStopNoted b (Some (stop.Spent note))
      noted = subst (IsStopNoted b) is.0 sane.stop

      spent : IsSpent (seen_alone f s old new) options.attempts note
      spent =
          let attempt : note.attempt ≡ options.attempts = noted.0 ∙ ap (λ (o : Options). o.attempts) with_options in
          record { attempt = attempt; counted = omega (arith, sym attempt, is.1, calls (ends.Spent note) counted, reads (ends.Spent note) counted); cause = counted_alone f s old new note.cause counted.cause }

      outcome_of : (e : RunEnd) → (own : IsEndOfBook b e) → IsOutcomeWhere (surroundings_of (seen_alone f s old new)) plan options (IsStoppedBy (seen_alone f s old new) note) own.outcome
      outcome_of e own = record {
        book = b;
        reached = reached;
        of_plan = of_plan;
        with_options = with_options;
        lengths = lengths;
        is = record { noted = is.0; beside = noted.1; calls = calls (ends.Spent note) counted; reads = reads (ends.Spent note) counted };
        of_book = own.of_book;
        storable = own.storable;
      }

      pub given_up : (e : RunEnd) → IsEndOfBook b e ⊎ IsMemoryEnd e → IsPauseRefused (seen_alone f s old new) plan options e
      given_up e (inr none) = memory_refused f s plan options old new e none
      given_up e (inl own) =
          let tells = status_spent b.stopped note e.status is.0 own.tells in
          record {
            given_up = λ ok. let never : status.WorkFault note ≡ status.Ok = sym tells ∙ ok in cc;
            end = subst (λ (x : Status). IsPlanEnd (seen_alone f s old new) plan options x e.outcome) (sym tells) ((own.outcome, own.some, outcome_of e own), spent);
          }

    pub told_files : (e : RunEnd) → IsEndOfBook b e ⊎ IsMemoryEnd e → IfSome e.outcome (λ o. o.files ≡ opened_lengths plan old.files)
    told_files e (inl is) = if_outcome (λ o. o.files ≡ opened_lengths plan old.files) e.outcome is.outcome is.some (is.of_book.files ∙ of_files)
    told_files e (inr none) = none_told (λ o. o.files ≡ opened_lengths plan old.files) e.outcome none.none
