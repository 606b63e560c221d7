-- The end of a drill over stores that tell what they may is its end over stores that tell of no files.
use Rattle.std.proofs.Common.{◌≡◌, ◌⊎◌, inl, inr, ℕ, zero, suc, List, [], ◌∷◌, ◌++◌, map, Option, Some, slice_get, sym, ap, subst, ◌∙◌}
use Rattle.std.specs.Prelude.{IsSome}
use Rattle.std.specs.List.{All}
use Rattle.std.proofs.lemmas.List.Elements.{All-nil}
use Rattle.beam_values.specs.Checked.{IsChecked}
use Rattle.beam_values.specs.Files.{first_named}
use Rattle.beam_values.specs.declared.fault.Cause.{Cause}
use Rattle.beam_values.specs.declared.fault.Cause.TheVariants.{Call, Read}
use Rattle.beam_values.specs.declared.fault.FaultNote.{FaultNote}
use Rattle.beam_values.specs.declared.file_text.FileText.{FileText}
use Rattle.beam_values.specs.declared.options.Options.{Options}
use Rattle.beam_values.specs.declared.outcome.Outcome.{Outcome}
use Rattle.beam_values.specs.declared.plan.Plan.{Plan}
use Rattle.beam_ports.specs.Observed.{ObservedSink}
use Rattle.book_core.specs.Book.{SeenBook}
use Rattle.book_core.specs.Work.{Surroundings}
use Rattle.bundle_work.specs.Bundles.{IsCountedAs}
use Rattle.bundle_work.specs.Openings.{file_names}
use Rattle.command_words.specs.Commands.{Drill}
use Rattle.run_engine.specs.Kits.{ObservedKits}
use Rattle.run_engine.specs.Openings.{IsOpeningRefused}
use Rattle.run_engine.specs.PlanRun.{IsEndedBy, IsOutcomeWhere, IsSpent, IsStoppedBy, surroundings_of}
use Rattle.command_ends.specs.declared.status.Status.{Status}
use Rattle.command_ends.specs.declared.status.Status.TheVariants as status
use Rattle.beam_command.specs.DrillPlans.{drill_plan}
use Rattle.beam_command.specs.Kits.{kits_for, without_files}
use Rattle.beam_command.specs.Observing.{AreFound}
use Rattle.beam_command.specs.Pipelines.{IsGraphEnd}
use Rattle.beam_command.specs.declared.pipeline.Report.{Report}
use Rattle.beam_command.proofs.DrillRuns.{drill_lengths, drill_reached, over_none}

-- the plan of an outcome is a checked one
pub checked_of : (known : Surroundings) (plan : Plan) (options : Options) (P : SeenBook → Type 0) (o : Outcome) → IsOutcomeWhere known plan options P o → IsChecked o.plan
checked_of known plan options P o run = subst IsChecked (sym run.of_book.plan) run.reached.opening.checked

-- ---- stores that tell of no files

pub got_map : {X Y : Type 0} (f : X → Y) (xs : List X) (at : ℕ) (x : X) → slice_get xs at ≡ Some x → slice_get (map f xs) at ≡ Some (f x)
got_map f [] at x is = absurd cc
got_map f (first ∷ xs) zero x is = let same : first ≡ x = cc in ap (λ (y : _). Some (f y)) same
got_map f (first ∷ xs) (suc at) x is = got_map f xs at x is

-- ---- the end

no_name : {X : Type 0} (before after : List X) (name : X) → [] ≡ before ++ name ∷ after → ⊥
no_name [] after name is = absurd cc
no_name (first ∷ before) after name is = absurd cc

module _ (count number : ℕ) (plan : Plan) (of : plan ≡ drill_plan count number) where
  -- a drill has no files
  names_are : file_names plan ≡ []
  names_are = ap file_names of

  found : (files : Option (List FileText)) → AreFound files plan
  found files = λ told tells. subst (All (λ (name : List ℕ). IsSome (first_named name told))) (sym names_are) (All-nil _)

  module _ (options : Options) where
    outcome_told : (known : Surroundings) (P Q : SeenBook → Type 0) (o : Outcome) → ((b : SeenBook) → P b → Q b) → IsOutcomeWhere known plan options P o
        → IsOutcomeWhere (over_none known) plan options Q o
    outcome_told known P Q o holds run = record {
      book = run.book;
      reached = drill_reached count number known run.book (run.of_plan ∙ of) run.reached;
      of_plan = run.of_plan;
      with_options = run.with_options;
      lengths = drill_lengths count number known run.book (run.of_plan ∙ of) run.reached;
      is = holds run.book run.is;
      of_book = run.of_book;
      storable = run.storable;
    }

    module _ (own : Options) (seen : ObservedKits) where
      abbrev kits : ObservedKits
      kits = kits_for (Some (Drill count number own)) seen

      counted_as : (cause : Cause) → IsCountedAs seen.shelf seen.store cause → IsCountedAs kits.shelf kits.store cause
      counted_as Call counted = counted
      counted_as Read counted = counted

      spent : (attempts : ℕ) (note : FaultNote) → IsSpent seen attempts note → IsSpent kits attempts note
      spent attempts note is = record { attempt = is.attempt; counted = is.counted; cause = counted_as note.cause is.cause }

      stopped : (note : FaultNote) (b : SeenBook) → IsStoppedBy seen note b → IsStoppedBy kits note b
      stopped note b is = record { noted = is.noted; beside = is.beside; calls = is.calls; reads = is.reads }

      ended : (b : SeenBook) → IsEndedBy seen b → IsEndedBy kits b
      ended b is = record { ended = is.ended; calls = is.calls; reads = is.reads }

      refused : (attempts failed : ℕ) (s : Status) → IsOpeningRefused seen.stores plan attempts failed s → IsOpeningRefused kits.stores plan attempts failed s
      refused attempts failed (status.NoSource name) is = absurd (no_name is.before is.after name (sym names_are ∙ is.names_are))
      refused attempts failed (status.SourceFault kit) is =
          record { store = without_files is.store; at = got_map without_files seen.stores kit is.store is.at; counted = is.counted }
      refused attempts failed (status.FileChanged name len other) is = absurd (no_name is.before is.after name (sym names_are ∙ is.names_are))
      refused attempts failed status.NoMemory is = is
      refused attempts failed status.Ok is = absurd is
      refused attempts failed status.Help is = absurd is
      refused attempts failed status.Usage is = absurd is
      refused attempts failed (status.BadPlan why) is = absurd is
      refused attempts failed (status.BadSchedule why) is = absurd is
      refused attempts failed (status.NotLifted why) is = absurd is
      refused attempts failed (status.WorkFault note) is = absurd is
      refused attempts failed status.SinkFault is = absurd is

      unbegun : (attempts failed : ℕ) (s : Status) → IsOpeningRefused seen.stores plan attempts failed s ⊎ (s ≡ status.NoMemory)
          → IsOpeningRefused kits.stores plan attempts failed s ⊎ (s ≡ status.NoMemory)
      unbegun attempts failed s why = elim why [ inl is ↦ inl (refused attempts failed s is) | inr none ↦ inr none ]

      module _ (out : ObservedSink) (report : Report) (failed : ℕ) where
        abbrev Ends : ObservedKits → Status → Option Outcome → Type 0
        Ends at s outcome = IsGraphEnd (record { kits = at; out = out }) plan options report failed s outcome

        ends_over_none : (s : Status) (outcome : Option Outcome) → Ends seen s outcome → Ends kits s outcome
        ends_over_none status.Ok outcome end =
            (found (Some []), (end.1.0, end.1.1, outcome_told (surroundings_of seen) (IsEndedBy seen) (IsEndedBy kits) end.1.0 ended end.1.2, end.1.3))
        ends_over_none status.SinkFault outcome end =
            (found (Some []), (end.1.0, end.1.1, outcome_told (surroundings_of seen) (IsEndedBy seen) (IsEndedBy kits) end.1.0 ended end.1.2, end.1.3))
        ends_over_none (status.WorkFault note) outcome end = (
          end.0,
          found (Some []),
          (end.2.0, end.2.1, outcome_told (surroundings_of seen) (IsStoppedBy seen note) (IsStoppedBy kits note) end.2.0 (stopped note) end.2.2),
          spent options.attempts note end.3,
        )
        ends_over_none (status.NoSource name) outcome end = (end.0, end.1, unbegun options.attempts failed (status.NoSource name) end.2)
        ends_over_none (status.SourceFault kit) outcome end = (end.0, end.1, unbegun options.attempts failed (status.SourceFault kit) end.2)
        ends_over_none (status.FileChanged name len other) outcome end = (end.0, end.1, unbegun options.attempts failed (status.FileChanged name len other) end.2)
        ends_over_none (status.BadPlan why) outcome end = (end.0, end.1, unbegun options.attempts failed (status.BadPlan why) end.2)
        ends_over_none (status.BadSchedule why) outcome end = (end.0, end.1, unbegun options.attempts failed (status.BadSchedule why) end.2)
        ends_over_none (status.NotLifted why) outcome end = (end.0, end.1, unbegun options.attempts failed (status.NotLifted why) end.2)
        ends_over_none status.NoMemory outcome end = (end.0, end.1, unbegun options.attempts failed status.NoMemory end.2)
        ends_over_none status.Help outcome end = (end.0, end.1, unbegun options.attempts failed status.Help end.2)
        ends_over_none status.Usage outcome end = (end.0, end.1, unbegun options.attempts failed status.Usage end.2)

-- so it is the end that a command sees
pub drill_end : (count number : ℕ) (own : Options) (seen : ObservedKits) (out : ObservedSink) (plan : Plan) (options : Options) (report : Report) (failed : ℕ) → plan ≡ drill_plan count number
    → (s : Status) (outcome : Option Outcome) → IsGraphEnd (record { kits = seen; out = out }) plan options report failed s outcome
    → IsGraphEnd (record { kits = kits_for (Some (Drill count number own)) seen; out = out }) plan options report failed s outcome
drill_end count number own seen out plan options report failed of s outcome end = ends_over_none count number plan of options own seen out report failed s outcome end
