-- What the ends of a command say of its outcome.
use Rattle.std.proofs.Common.{◌≡◌, true, false, List, [], map, Option, Some, None, refl, sym, ap, subst, ◌∙◌}
use Rattle.std.specs.List.{All}
use Rattle.beam_values.specs.declared.file_text.FileText.{FileText}
use Rattle.beam_values.specs.declared.options.Options.{Options}
use Rattle.beam_values.specs.declared.outcome.Outcome.{Outcome}
use Rattle.beam_values.specs.declared.plan.Plan.{Plan}
use Rattle.beam_model.specs.Account.{IsAccounted}
use Rattle.beam_model.specs.Covers.{IsCovered}
use Rattle.beam_model.specs.Logs.{AreLogsLegal}
use Rattle.beam_model.specs.Panes.{ArePanesLegal}
use Rattle.beam_model.specs.Positions.{SourceItem, items, item_len}
use Rattle.beam_ports.specs.Observed.{WhereTold}
use Rattle.book_core.specs.Book.{SeenBook, sets_aside}
use Rattle.book_core.specs.Calls.{IsOutcomeOf}
use Rattle.book_core.specs.Runs.{AreTold, HonestlyReached, IsThrough, Reached}
use Rattle.book_core.specs.Work.{Surroundings}
use Rattle.command_words.specs.Commands.{Asked, Help, Panes, Run, Replay, Make, Drill, Combine}
use Rattle.ended_runs.specs.DeadLetters.{AreDeadNoted, ArePoisonDead, IsPoisonDead}
use Rattle.ended_runs.specs.Storable.{ArePanesStorable}
use Rattle.run_engine.proofs.PlanEnds.{dead_letters}
use Rattle.run_engine.specs.PlanRun.{IsEndedBy}
use Rattle.run_engine.specs.SetAside.{HasDeadLetters}
use Rattle.command_ends.specs.declared.status.Status.{Status}
use Rattle.command_ends.specs.declared.status.Status.TheVariants as status
use Rattle.beam_command.specs.Asking.{IsPlanOf, WherePipeline}
use Rattle.beam_command.specs.Ends.{HasRun, IsEndOf, IsOutcomeOfAsked, IsPipelineEnd}
use Rattle.beam_command.specs.Observing.{Observed, AreFound}
use Rattle.beam_command.specs.Promises.{HasLegalLogs, HasLegalPanes, IsPlanAsked}

-- ---- from the end of a command to what holds of its outcome

module _ (asked : Option Asked) (observed : Observed) (P : Options → Outcome → Type 0)
    (holds : (own : Asked) (options : Options) (o : Outcome) → asked ≡ Some own → IsOutcomeOfAsked observed own options (IsEndedBy observed.kits) o → P options o) where
  of_pipeline : (own : Asked) (options : Options) → asked ≡ Some own → (s : Status) (outcome : Option Outcome) → IsPipelineEnd observed own options s outcome → HasRun s outcome (P options)
  of_pipeline own options is status.Ok outcome end = (end.0, end.1, holds own options end.0 is end.2)
  of_pipeline own options is status.SinkFault outcome end = λ o has.
      let same : end.0 ≡ o = cc (end.1, has) in
      subst (P options) same (holds own options end.0 is end.2)
  of_pipeline own options is status.Help outcome end = tt
  of_pipeline own options is status.Usage outcome end = tt
  of_pipeline own options is (status.BadPlan refusal) outcome end = tt
  of_pipeline own options is (status.NoSource name) outcome end = tt
  of_pipeline own options is (status.SourceFault kit) outcome end = tt
  of_pipeline own options is (status.WorkFault note) outcome end = tt
  of_pipeline own options is (status.FileChanged name len other) outcome end = tt
  of_pipeline own options is (status.BadSchedule why) outcome end = tt
  of_pipeline own options is (status.NotLifted why) outcome end = tt
  of_pipeline own options is status.NoMemory outcome end = tt

  of_asked : (a : Option Asked) → asked ≡ a → (s : Status) (outcome : Option Outcome) → IsEndOf a observed s outcome → WherePipeline a (λ own options. HasRun s outcome (P options))
  of_asked None is s outcome end = tt
  of_asked (Some Help) is s outcome end = tt
  of_asked (Some (Panes file size options)) is s outcome end = of_pipeline (Panes file size options) options is s outcome end
  of_asked (Some (Run name options)) is s outcome end = of_pipeline (Run name options) options is s outcome end
  of_asked (Some (Replay name schedule options)) is s outcome end = tt
  of_asked (Some (Combine name options)) is s outcome end = tt
  of_asked (Some (Make count number)) is s outcome end = tt
  of_asked (Some (Drill count number options)) is s outcome end = of_pipeline (Drill count number options) options is s outcome end

  pub promised : (s : Status) (outcome : Option Outcome) → IsEndOf asked observed s outcome → WherePipeline asked (λ own options. HasRun s outcome (P options))
  promised s outcome end = of_asked asked refl s outcome end

-- ---- what holds of it

module _ (asked : Option Asked) (observed : Observed) (own : Asked) (options : Options) (o : Outcome) (is : asked ≡ Some own) (run : IsOutcomeOfAsked observed own options (IsEndedBy observed.kits) o) where
  plan_is : o.plan ≡ run.0
  plan_is = run.3.of_book.plan ∙ run.3.of_plan

  pub plan_kept : IsPlanAsked observed.kits.store.files asked o.plan
  plan_kept =
      subst (λ (a : Option Asked). IsPlanAsked observed.kits.store.files a o.plan) (sym is)
      (subst (λ (p : Plan). IsPlanOf observed.kits.store.files own p) (sym plan_is) run.1)

  pub files_found : AreFound observed.kits.store.files o.plan
  files_found = subst (λ (p : Plan). AreFound observed.kits.store.files p) (sym plan_is) run.2

  pub lengths_kept : WhereTold observed.kits.store.files (λ told. o.files ≡ map item_len (items told o.plan))
  lengths_kept = λ told tells. run.3.of_book.files ∙ run.3.lengths told tells ∙ ap (λ (p : Plan). map item_len (items told p)) (sym run.3.of_book.plan)

  module _ (runs : (known : Surroundings) (b : SeenBook) → HonestlyReached known b → Reached known.told b) where
    reached : Reached observed.kits.store.files run.3.book
    reached = runs _ run.3.book run.3.reached

    reached_told : (told : List FileText) → observed.kits.store.files ≡ Some told → Reached (Some told) run.3.book
    reached_told told tells = subst (λ (files : Option (List FileText)). Reached files run.3.book) tells reached

    pub covered : ((told : Option (List FileText)) (b : SeenBook) (o : Outcome) → Reached told b → IsThrough b → IsOutcomeOf b o → IsCovered o) → IsCovered o
    covered law = law observed.kits.store.files run.3.book o reached run.3.is.ended.through run.3.of_book

    pub no_dead : ((told : Option (List FileText)) (b : SeenBook) (o : Outcome) → Reached told b → sets_aside b.plan ≡ false → IsOutcomeOf b o → o.dead ≡ [])
        → sets_aside o.plan ≡ false → o.dead ≡ []
    no_dead law none = law observed.kits.store.files run.3.book o reached (ap sets_aside (sym run.3.of_book.plan) ∙ none) run.3.of_book

    pub set_aside : ((told : Option (List FileText)) (b : SeenBook) (o : Outcome) → Reached told b → IsOutcomeOf b o → AreDeadNoted b o)
        → ((told : List FileText) (b : SeenBook) (o : Outcome) → Reached (Some told) b → AreTold told b → IsThrough b → IsOutcomeOf b o → ArePoisonDead told o)
        → ((known : Surroundings) (told : List FileText) (b : SeenBook) (o : Outcome) → known.told ≡ Some told → known.strict ≡ true → HonestlyReached known b → IsOutcomeOf b o
        → All (IsPoisonDead told o.plan) o.dead) → HasDeadLetters observed.kits options.attempts o
    set_aside noted poison only = dead_letters observed.kits run.0 options runs noted poison only status.Ok (Some o) (o, refl, run.3)

    pub legal : ((told : Option (List FileText)) (b : SeenBook) (o : Outcome) → Reached told b → IsOutcomeOf b o → ArePanesLegal o.plan o.commits o.cells o.dropped o.panes)
        → HasLegalPanes o
    legal law = law observed.kits.store.files run.3.book o reached run.3.of_book

    pub legally_logged : ((told : Option (List FileText)) (b : SeenBook) (o : Outcome) → Reached told b → IsThrough b → IsOutcomeOf b o → AreLogsLegal o.plan o.commits o.logs)
        → HasLegalLogs o
    legally_logged law = law observed.kits.store.files run.3.book o reached run.3.is.ended.through run.3.of_book

    pub accounted : ((told : List FileText) (b : SeenBook) (o : Outcome) → Reached (Some told) b → AreTold told b → IsThrough b → IsOutcomeOf b o → IsAccounted (items told b.plan) o)
        → WhereTold observed.kits.store.files (λ told. IsAccounted (items told o.plan) o)
    accounted law = λ told tells.
        subst (λ (p : Plan). IsAccounted (items told p) o) (sym run.3.of_book.plan)
        (law told run.3.book o (reached_told told tells) (run.3.lengths told tells) run.3.is.ended.through run.3.of_book)

    -- what follows for the outcomes of told files
    pub where_told : (P : List SourceItem → Outcome → Type 0) → ((told : List FileText) (b : SeenBook) (o : Outcome) → Reached (Some told) b → AreTold told b → IsThrough b → IsOutcomeOf b o
        → ArePanesStorable o → P (items told b.plan) o) → WhereTold observed.kits.store.files (λ told. P (items told o.plan) o)
    where_told P law = λ told tells.
        subst (λ (p : Plan). P (items told p) o) (sym run.3.of_book.plan)
        (law told run.3.book o (reached_told told tells) (run.3.lengths told tells) run.3.is.ended.through run.3.of_book run.3.storable)
