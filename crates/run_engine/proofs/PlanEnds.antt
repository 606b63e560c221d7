-- What the end of a run says of the positions that it set aside, and when it isn't given up.
use Rattle.std.proofs.Common.{◌≡◌, ℕ, ◌+◌, ◌*◌, ◌≤◌, true, List, length, sym, ap, subst, ◌∙◌, arith}
use Rattle.std.specs.Prelude.{Option, Some, None}
use Rattle.std.specs.List.{All}
use Rattle.beam_values.specs.declared.fault.FaultNote.{FaultNote}
use Rattle.beam_values.specs.declared.file_text.FileText.{FileText}
use Rattle.beam_values.specs.declared.options.Options.{Options}
use Rattle.beam_values.specs.declared.outcome.Outcome.{Outcome}
use Rattle.beam_values.specs.declared.outcome.StopCause.TheVariants as stop
use Rattle.beam_values.specs.declared.plan.Plan.{Plan}
use Rattle.beam_ports.specs.Observed.{WhereTold}
use Rattle.book_core.specs.Book.{SeenBook, sets_aside}
use Rattle.book_core.specs.Calls.{IsOutcomeOf}
use Rattle.book_core.specs.Facts.{IsLastCall}
use Rattle.book_core.specs.Runs.{AreTold, HonestlyReached, IsThrough, Reached}
use Rattle.book_core.specs.Work.{Surroundings}
use Rattle.ended_runs.specs.DeadLetters.{AreDeadNoted, ArePoisonDead, HasNoPoisonPosition, IsPoisonDead, IsStoppedByRead}
use Rattle.ended_runs.specs.Unpoisoned.{TakesNoPoison, TakesNoPoisonBeside}
use Rattle.command_ends.specs.declared.status.Status.{Status}
use Rattle.command_ends.specs.declared.status.Status.TheVariants as status
use Rattle.run_engine.specs.Kits.{ObservedKits}
use Rattle.run_engine.specs.PlanRun.{IsEndedBy, IsOutcomeWhere, IsPlanEnd, IsSpent, IsStoppedBy, surroundings_of}
use Rattle.run_engine.specs.SetAside.{AtOk, ComesToItsEnd, HasDeadLetters, calls_counted, reads_counted}

-- what is at most two counts is at most what these are at most
at_most_both : (fails calls reads more_calls more_reads : ℕ) → fails ≤ calls + reads → calls ≤ more_calls → reads ≤ more_reads → fails ≤ more_calls + more_reads
at_most_both fails calls reads more_calls more_reads h low low' = omega (arith, h, low, low')

module _ (seen : ObservedKits) (plan : Plan) (options : Options) (runs : (k : Surroundings) (b : SeenBook) → HonestlyReached k b → Reached k.told b) where
  -- ---- dead positions

  module _ (noted : (told : Option (List FileText)) (b : SeenBook) (o : Outcome) → Reached told b → IsOutcomeOf b o → AreDeadNoted b o)
      (poison : (told : List FileText) (b : SeenBook) (o : Outcome) → Reached (Some told) b → AreTold told b → IsThrough b → IsOutcomeOf b o → ArePoisonDead told o)
      (only : (known : Surroundings) (told : List FileText) (b : SeenBook) (o : Outcome) → known.told ≡ Some told → known.strict ≡ true → HonestlyReached known b → IsOutcomeOf b o
      → All (IsPoisonDead told o.plan) o.dead) where
    letters_of : (o : Outcome) → IsOutcomeWhere (surroundings_of seen) plan options (IsEndedBy seen) o → HasDeadLetters seen options.attempts o
    letters_of o is =
        let b = is.book in
        let reached = runs (surroundings_of seen) b is.reached in
        let attempts : b.options.attempts ≡ options.attempts = ap (λ (x : Options). x.attempts) is.with_options in
        let notes = noted seen.store.files b o reached is.of_book in
        record {
          none = notes.none;
          notes = subst (λ (n : ℕ). All (λ d. IsLastCall n d.note) o.dead) attempts notes.notes;
          counted = at_most_both (options.attempts * length o.dead) b.calls b.reads (calls_counted seen) (reads_counted seen)
              (subst (λ (n : ℕ). n * length o.dead ≤ b.calls + b.reads) attempts notes.counted) is.is.calls is.is.reads;
          poison = λ told tells. poison told b o (subst (λ (t : Option (List FileText)). Reached t b) tells reached) (is.lengths told tells) is.is.ended.through is.of_book;
          only = λ strict told tells. only (surroundings_of seen) told b o tells strict is.reached is.of_book;
        }

    pub dead_letters : (s : Status) (outcome : Option Outcome) → IsPlanEnd seen plan options s outcome → AtOk s outcome (HasDeadLetters seen options.attempts)
    dead_letters status.Ok (Some o) end = let same : end.0 ≡ o = cc (end.1) in letters_of o (subst (IsOutcomeWhere (surroundings_of seen) plan options (IsEndedBy seen)) same end.2)
    dead_letters status.Ok None end = tt
    dead_letters _ outcome end = tt

  -- ---- runs that come to their end

  module _ (fail_by_reads : (known : Surroundings) (told : List FileText) (b : SeenBook) (note : FaultNote) → known.told ≡ Some told → known.strict ≡ true → AreTold told b
      → TakesNoPoison known b.plan b.options → HonestlyReached known b → b.stopped ≡ Some (stop.Spent note) → b.options.attempts ≤ b.reads)
      (by_read : (known : Surroundings) (b : SeenBook) → known.strict ≡ true → sets_aside b.plan ≡ true → WhereTold known.told (λ told. AreTold told b)
      → TakesNoPoisonBeside known b.plan b.options → HonestlyReached known b → IsStoppedByRead b)
      (by_reads : (known : Surroundings) (told : List FileText) (b : SeenBook) (note : FaultNote) → known.told ≡ Some told → known.strict ≡ true → AreTold told b
      → HasNoPoisonPosition told b.plan → TakesNoPoisonBeside known b.plan b.options → HonestlyReached known b → b.stopped ≡ Some (stop.Spent note)
      → b.options.attempts ≤ b.reads) where
    of_fault : (note : FaultNote) (o : Outcome) → IsOutcomeWhere (surroundings_of seen) plan options (IsStoppedBy seen note) o → IsSpent seen options.attempts note
        → ComesToItsEnd seen plan options (status.WorkFault note)
    of_fault note o is spent =
        let b = is.book in
        let known = surroundings_of seen in
        let attempts : b.options.attempts ≡ options.attempts = ap (λ (x : Options). x.attempts) is.with_options in
        let own : (P : Plan → Options → Type 0) → P plan options → P b.plan b.options = λ P takes.
        subst (λ (p : Plan). P p b.options) (sym is.of_plan) (subst (P plan) (sym is.with_options) takes) in
        record {
          few = λ low. absurd (omega (arith, low, spent.counted));
          no_job = λ told tells strict takes low.
              let reads = fail_by_reads known told b note tells strict (is.lengths told tells) (own (TakesNoPoison known) takes) is.reached is.is.noted in
              absurd (omega (arith, reads, attempts, is.is.reads, low));
          no_read = λ aside strict takes none.
              let read = by_read known b strict (ap sets_aside is.of_plan ∙ aside) is.lengths (own (TakesNoPoisonBeside known) takes) is.reached note is.is.noted in
              absurd (omega (arith, read.1, is.is.reads, none));
          no_poison = λ told tells clean strict takes low.
              let reads = by_reads known told b note tells strict (is.lengths told tells) (subst (HasNoPoisonPosition told) (sym is.of_plan) clean) (own (TakesNoPoisonBeside known) takes) is.reached is.is.noted in
              absurd (omega (arith, reads, attempts, is.is.reads, low));
        }

    pub complete : (s : Status) (outcome : Option Outcome) → IsPlanEnd seen plan options s outcome → ComesToItsEnd seen plan options s
    complete status.Ok outcome end =
        record { few = λ low. tt; no_job = λ told tells strict takes low. tt; no_read = λ aside strict takes none. tt; no_poison = λ told tells clean strict takes low. tt }
    complete status.NoMemory outcome end =
        record { few = λ low. tt; no_job = λ told tells strict takes low. tt; no_read = λ aside strict takes none. tt; no_poison = λ told tells clean strict takes low. tt }
    complete (status.WorkFault note) outcome end = of_fault note end.0.0 end.0.2 end.1
    complete _ outcome end = absurd end
