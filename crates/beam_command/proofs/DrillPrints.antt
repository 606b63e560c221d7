-- What a drill prints, whatever its kits told, counted and did.
use Rattle.std.proofs.Common.{◌≡◌, ℕ, true, false, List, [], map, Option, Some, None, refl, sym, ap, subst, ◌∙◌}
use Rattle.std.specs.List.{All}
use Rattle.beam_values.specs.Checked.{IsChecked}
use Rattle.beam_values.specs.Nodes.{is_write}
use Rattle.beam_values.specs.declared.arrival.Arrival.{Arrival}
use Rattle.beam_values.specs.declared.file_text.FileText.{FileText}
use Rattle.beam_values.specs.declared.options.Options.{Options}
use Rattle.beam_values.specs.declared.outcome.Outcome.{Outcome}
use Rattle.beam_values.specs.declared.plan.Plan.{Plan}
use Rattle.beam_model.specs.Plain.{ArePlainlyWritten, ArePlainlyWrittenWhere}
use Rattle.beam_model.specs.Positions.{items, item_len}
use Rattle.beam_model.specs.Rendering.{summary}
use Rattle.beam_ports.specs.Observed.{WhereTold}
use Rattle.book_core.specs.Book.{SeenBook, sets_aside}
use Rattle.book_core.specs.Calls.{IsOutcomeOf}
use Rattle.book_core.specs.Facts.{AreAtWrites}
use Rattle.book_core.specs.Runs.{AreTold, HonestlyReached, IsThrough, Reached}
use Rattle.book_core.specs.Work.{Surroundings}
use Rattle.command_words.specs.Commands.{Asked, Help, Panes, Run, Replay, Make, Drill, Combine}
use Rattle.ended_runs.specs.Storable.{ArePanesStorable}
use Rattle.run_engine.specs.PlanRun.{IsEndedBy, surroundings_of}
use Rattle.command_ends.specs.declared.status.Status.{Status}
use Rattle.command_ends.specs.declared.status.Status.TheVariants as status
use Rattle.beam_command.specs.Asking.{WhereDrill}
use Rattle.beam_command.specs.Clauses.{IsDrillPrinted}
use Rattle.beam_command.specs.DrillPlans.{drill_plan}
use Rattle.beam_command.specs.Drilling.{IsDrillText}
use Rattle.beam_command.specs.Ends.{IsEndOf, IsOutcomeOfAsked, IsPipelineEnd}
use Rattle.beam_command.specs.Observing.{Observed}
use Rattle.beam_command.proofs.DrillEnds.{checked_of}
use Rattle.beam_command.proofs.Drilled.{drill_plainly, drill_text}

-- what a drill writes is plain grouping, where the files are told
pub drill_always : (count number : ℕ) (files : Option (List FileText)) (o : Outcome) → IsChecked o.plan → o.plan ≡ drill_plan count number
    → WhereTold files (λ told. ArePlainlyWrittenWhere (items told o.plan) o) → WhereTold files (λ told. ArePlainlyWritten (items told o.plan) o)
drill_always count number files o checked is plain = λ told tells. drill_plainly count number told o checked is (plain told tells)

module _ (observed : Observed) (runs : (known : Surroundings) (b : SeenBook) → HonestlyReached known b → Reached known.told b)
    (writes : (told : Option (List FileText)) (b : SeenBook) → Reached told b → AreAtWrites b)
    (plainly : (told : List FileText) (b : SeenBook) (o : Outcome) → Reached (Some told) b → AreTold told b → IsThrough b → IsOutcomeOf b o → ArePanesStorable o
    → ArePlainlyWrittenWhere (items told b.plan) o)
    (none_aside : (told : Option (List FileText)) (b : SeenBook) (o : Outcome) → Reached told b → sets_aside b.plan ≡ false → IsOutcomeOf b o → o.dead ≡ []) where
  module _ (none : observed.kits.store.files ≡ Some []) (count number : ℕ) (options : Options) where
    -- the outcome of a drill is summed up in its text
    text_of : (o : Outcome) → IsOutcomeOfAsked observed (Drill count number options) options (IsEndedBy observed.kits) o → IsDrillText count number (summary o)
    text_of o run =
        let book = run.3.book in
        let same = run.3.of_book.plan in
        let reached = runs (surroundings_of observed.kits) book run.3.reached in
        let lengths = run.3.lengths [] none in
        let over_none = subst (λ (files : Option (List FileText)). Reached files book) none reached in
        let written = subst (λ (p : Plan). All (λ arrival. is_write p arrival.node ≡ true) book.written) (sym same) (writes observed.kits.store.files book reached).written in
        drill_text count number o (checked_of (surroundings_of observed.kits) run.0 options (IsEndedBy observed.kits) o run.3) (same ∙ run.3.of_plan ∙ run.1) (none_aside observed.kits.store.files book o reached (ap sets_aside (run.3.of_plan ∙ run.1)) run.3.of_book)
        (run.3.of_book.files ∙ lengths ∙ ap (λ (p : Plan). map item_len (items [] p)) (sym same))
        (subst (λ (w : List Arrival). All (λ arrival. is_write o.plan arrival.node ≡ true) w) (sym run.3.of_book.written) written)
        (subst (λ (p : Plan). ArePlainlyWrittenWhere (items [] p) o) (sym same) (plainly [] book o over_none lengths run.3.is.ended.through run.3.of_book run.3.storable))

    printed : (s : Status) (outcome : Option Outcome) → IsPipelineEnd observed (Drill count number options) options s outcome
        → IsDrillPrinted observed.out options.attempts count number s
    printed status.Ok outcome end = (end.3.0, subst (IsDrillText count number) (sym end.3.1) (text_of end.0 end.2), end.3.2)
    printed status.SinkFault outcome end = (end.3.0, subst (IsDrillText count number) (sym end.3.1) (text_of end.0 end.2), end.3.2)
    printed (status.WorkFault note) outcome end = tt
    printed (status.NoSource name) outcome end = tt
    printed (status.SourceFault kit) outcome end = tt
    printed (status.FileChanged name len other) outcome end = tt
    printed (status.BadPlan why) outcome end = tt
    printed (status.BadSchedule why) outcome end = tt
    printed (status.NotLifted why) outcome end = tt
    printed status.NoMemory outcome end = tt
    printed status.Help outcome end = tt
    printed status.Usage outcome end = tt

  -- a drill whose run came to its end prints its text
  pub drill_prints : (asked : Option Asked) → ((count number : ℕ) (options : Options) → asked ≡ Some (Drill count number options) → observed.kits.store.files ≡ Some [])
      → (s : Status) (outcome : Option Outcome) → IsEndOf asked observed s outcome
      → WhereDrill asked (λ count number options. IsDrillPrinted observed.out options.attempts count number s)
  drill_prints None none s outcome end = tt
  drill_prints (Some Help) none s outcome end = tt
  drill_prints (Some (Panes file size options)) none s outcome end = tt
  drill_prints (Some (Run name options)) none s outcome end = tt
  drill_prints (Some (Replay name schedule options)) none s outcome end = tt
  drill_prints (Some (Combine name options)) none s outcome end = tt
  drill_prints (Some (Make count number)) none s outcome end = tt
  drill_prints (Some (Drill count number options)) none s outcome end = printed (none count number options refl) count number options s outcome end
