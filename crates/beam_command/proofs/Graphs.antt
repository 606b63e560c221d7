-- How a run of a plan ends, once its text was written or isn't to be.
use Rattle.std.proofs.Common.{◌≡◌, ℕ, ◌≤◌, List, [], ◌∷◌, Option, Some, inr, refl, ap, subst, arith}
use Rattle.std.specs.Option.{IsSome, is_some}
use Rattle.std.specs.List.{All}
use Rattle.std.proofs.lemmas.List.Elements.{All-nil, All-cons}
use Rattle.beam_values.specs.Files.{first_named}
use Rattle.beam_ports.specs.Counts.{rise}
use Rattle.beam_ports.specs.Observed.{ObservedStore}
use Rattle.beam_ports.proofs.Rises.{rise_grows}
use Rattle.beam_values.specs.declared.fault.Cause.{Cause}
use Rattle.beam_values.specs.declared.fault.Cause.TheVariants.{Call, Read}
use Rattle.beam_values.specs.declared.fault.FaultNote.{FaultNote}
use Rattle.chain_exec.specs.Causes.{ObservedShelf}
use Rattle.beam_values.specs.declared.file_text.FileText.{FileText}
use Rattle.beam_values.specs.declared.options.Options.{Options}
use Rattle.beam_values.specs.declared.outcome.Outcome.{Outcome}
use Rattle.beam_values.specs.declared.plan.Plan.{Plan}
use Rattle.beam_ports.specs.Files.{Opening}
use Rattle.beam_ports.specs.declared.store.Opened.{Opened}
use Rattle.book_core.specs.Book.{SeenBook}
use Rattle.book_core.specs.Work.{Surroundings}
use Rattle.bundle_work.specs.Bundles.{IsCountedAs}
use Rattle.bundle_work.specs.Openings.{AreOpened, file_names}
use Rattle.run_engine.specs.Kits.{ObservedKits}
use Rattle.run_engine.specs.PlanRun.{IsEndedBy, IsOutcomeWhere, IsPlanEnd, IsSpent, IsStoppedBy, surroundings_of}
use Rattle.command_ends.specs.declared.status.Status.{Status}
use Rattle.command_ends.specs.declared.status.Status.TheVariants as status
use Rattle.beam_command.specs.Observing.{Observed, AreFound, IsUnwritten}
use Rattle.beam_command.specs.Pipelines.{IsGraphEnd, IsRunPrinted}
use Rattle.beam_command.specs.declared.pipeline.Report.{Report}

is_found : (o : Option (List ℕ)) (text : List ℕ) → o ≡ Some text → IsSome o
is_found o text is = ap is_some is

module _ (files : Option (List FileText)) (told : List FileText) (is : files ≡ Some told) (opened : ℕ → Option Opening) where
  abbrev found : List ℕ → Type 0
  found name = IsSome (first_named name told)

  -- names that were opened are there
  opened_are_found : (names : List (List ℕ)) (kept : List Opened) → AreOpened files opened names kept → All found names
  opened_are_found [] [] are = All-nil found
  opened_are_found [] (file ∷ kept) are = absurd are
  opened_are_found (name ∷ names) [] are = absurd are
  opened_are_found (name ∷ names) (file ∷ kept) are =
      let first = are.0.told told is in
      All-cons found name names (is_found (first_named name told) first.0 first.1) (opened_are_found names kept are.1)

pub are_found : (files : Option (List FileText)) (opened : ℕ → Option Opening) (plan : Plan) (kept : List Opened)
    → AreOpened files opened (file_names plan) kept → AreFound files plan
are_found files opened plan kept are = λ told is. opened_are_found files told is opened (file_names plan) kept are

-- the text of a run that came to its end was written, or was not
pub printed_end : (observed : Observed) (plan : Plan) (options : Options) (report : Report) (failed : ℕ) (o : Outcome) (s : Status) (outcome : Option Outcome) → AreFound observed.kits.store.files plan
    → IsOutcomeWhere (surroundings_of observed.kits) plan options (IsEndedBy observed.kits) o → IsRunPrinted observed.out options.attempts report o s outcome
    → IsGraphEnd observed plan options report failed s outcome
printed_end observed plan options report failed o status.Ok outcome there run printed = (there, (o, printed.0, run, printed.1))
printed_end observed plan options report failed o status.SinkFault outcome there run printed = (there, (o, printed.0, run, printed.1))
printed_end observed plan options report failed o status.NoMemory outcome there run printed = (printed.1, printed.0, inr refl)
printed_end observed plan options report failed o status.Help outcome there run printed = absurd printed
printed_end observed plan options report failed o status.Usage outcome there run printed = absurd printed
printed_end observed plan options report failed o (status.BadPlan refusal) outcome there run printed = absurd printed
printed_end observed plan options report failed o (status.NoSource name) outcome there run printed = absurd printed
printed_end observed plan options report failed o (status.SourceFault kit) outcome there run printed = absurd printed
printed_end observed plan options report failed o (status.FileChanged name len other) outcome there run printed = absurd printed
printed_end observed plan options report failed o (status.WorkFault note) outcome there run printed = absurd printed
printed_end observed plan options report failed o (status.BadSchedule why) outcome there run printed = absurd printed
printed_end observed plan options report failed o (status.NotLifted why) outcome there run printed = absurd printed

-- ---- a run, seen from a call that began before it

-- what holds of the book of an outcome
outcome_where : (known : Surroundings) (plan : Plan) (options : Options) (P Q : SeenBook → Type 0) (o : Outcome) → ((b : SeenBook) → P b → Q b) → IsOutcomeWhere known plan options P o
    → IsOutcomeWhere known plan options Q o
outcome_where known plan options P Q o holds run = record {
  book = run.book;
  reached = run.reached;
  of_plan = run.of_plan;
  with_options = run.with_options;
  lengths = run.lengths;
  is = holds run.book run.is;
  of_book = run.of_book;
  storable = run.storable;
}

-- the store counted at least as much in the whole call
module _ (shelf : ObservedShelf) (files : Option (List FileText)) (less more : ℕ) (stores since : List ObservedStore) (grows : less ≤ more) where
  abbrev in_run : ObservedKits
  in_run = record { shelf = shelf; store = record { files = files; before = 0; after = less }; stores = stores }

  abbrev in_call : ObservedKits
  in_call = record { shelf = shelf; store = record { files = files; before = 0; after = more }; stores = since }

  rises : rise 0 less ≤ rise 0 more
  rises = rise_grows 0 less more grows

  pub counted_since : (cause : Cause) → IsCountedAs shelf in_run.store cause → IsCountedAs shelf in_call.store cause
  counted_since Call counted = counted
  counted_since Read counted = omega (arith, counted, rises)

  pub spent_since : (attempts : ℕ) (note : FaultNote) → IsSpent in_run attempts note → IsSpent in_call attempts note
  spent_since attempts note spent =
      record { attempt = spent.attempt; counted = omega (arith, spent.counted, rises); cause = counted_since note.cause spent.cause }

  -- what stopped a run stopped it also in the call
  pub stopped_since : (known : Surroundings) (plan : Plan) (options : Options) (note : FaultNote) (o : Outcome)
      → IsOutcomeWhere known plan options (IsStoppedBy in_run note) o → IsOutcomeWhere known plan options (IsStoppedBy in_call note) o
  stopped_since known plan options note o run =
      outcome_where known plan options (IsStoppedBy in_run note) (IsStoppedBy in_call note) o
      (λ b is. record { noted = is.noted; beside = is.beside; calls = is.calls; reads = omega (arith, is.reads, rises) }) run

  -- and what failed in a run that came to its end was counted also in the call
  pub through_since : (known : Surroundings) (plan : Plan) (options : Options) (o : Outcome)
      → IsOutcomeWhere known plan options (IsEndedBy in_run) o → IsOutcomeWhere known plan options (IsEndedBy in_call) o
  through_since known plan options o run =
      outcome_where known plan options (IsEndedBy in_run) (IsEndedBy in_call) o
      (λ b is. record { ended = is.ended; calls = is.calls; reads = omega (arith, is.reads, rises) }) run

  -- the end of a run is one also of the call
  pub ended_since : (plan : Plan) (options : Options) (s : Status) (outcome : Option Outcome) → IsPlanEnd in_run plan options s outcome → IsPlanEnd in_call plan options s outcome
  ended_since plan options status.Ok outcome end = (end.0, end.1, through_since (surroundings_of in_run) plan options end.0 end.2)
  ended_since plan options (status.WorkFault note) outcome end =
      ((end.0.0, end.0.1, stopped_since (surroundings_of in_run) plan options note end.0.0 end.0.2), spent_since options.attempts note end.1)
  ended_since plan options status.NoMemory outcome end = end
  ended_since plan options status.SinkFault outcome end = absurd end
  ended_since plan options status.Help outcome end = absurd end
  ended_since plan options status.Usage outcome end = absurd end
  ended_since plan options (status.BadPlan refusal) outcome end = absurd end
  ended_since plan options (status.NoSource name) outcome end = absurd end
  ended_since plan options (status.SourceFault kit) outcome end = absurd end
  ended_since plan options (status.FileChanged name len other) outcome end = absurd end
  ended_since plan options (status.BadSchedule why) outcome end = absurd end
  ended_since plan options (status.NotLifted why) outcome end = absurd end

-- a run that did not come to its end wrote nothing
pub unprinted_end : (observed : Observed) (plan : Plan) (options : Options) (report : Report) (failed : ℕ) (s : Status) (outcome : Option Outcome) → IsUnwritten observed
    → AreFound observed.kits.store.files plan → IsPlanEnd observed.kits plan options s outcome → (s ≡ status.Ok → ⊥)
    → IsGraphEnd observed plan options report failed s outcome
unprinted_end observed plan options report failed status.Ok outcome unwritten there ended none = absurd (none refl)
unprinted_end observed plan options report failed (status.WorkFault note) outcome unwritten there ended none = (unwritten, there, ended.0, ended.1)
unprinted_end observed plan options report failed status.NoMemory outcome unwritten there ended none = (unwritten, ended, inr refl)
unprinted_end observed plan options report failed status.SinkFault outcome unwritten there ended none = absurd ended
unprinted_end observed plan options report failed status.Help outcome unwritten there ended none = absurd ended
unprinted_end observed plan options report failed status.Usage outcome unwritten there ended none = absurd ended
unprinted_end observed plan options report failed (status.BadPlan refusal) outcome unwritten there ended none = absurd ended
unprinted_end observed plan options report failed (status.NoSource name) outcome unwritten there ended none = absurd ended
unprinted_end observed plan options report failed (status.SourceFault kit) outcome unwritten there ended none = absurd ended
unprinted_end observed plan options report failed (status.FileChanged name len other) outcome unwritten there ended none = absurd ended
unprinted_end observed plan options report failed (status.BadSchedule why) outcome unwritten there ended none = absurd ended
unprinted_end observed plan options report failed (status.NotLifted why) outcome unwritten there ended none = absurd ended

-- a run that came to its end, and whose text was written or not
pub finished_end : (observed : Observed) (plan : Plan) (options : Options) (report : Report) (failed : ℕ) (reached : Status) (own outcome : Option Outcome) (s : Status) → AreFound observed.kits.store.files plan
    → IsPlanEnd observed.kits plan options reached own → reached ≡ status.Ok
    → ((o : Outcome) → own ≡ Some o → IsRunPrinted observed.out options.attempts report o s outcome) → IsGraphEnd observed plan options report failed s outcome
finished_end observed plan options report failed reached own outcome s there ended is printed =
    let end = subst (λ (st : Status). IsPlanEnd observed.kits plan options st own) is ended in
    printed_end observed plan options report failed end.0 s outcome there end.2 (printed end.0 end.1)
