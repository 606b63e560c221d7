-- How `panes` ends where little or nothing outside fails, and that no run over poison ends Ok.
use Rattle.std.proofs.Common.{◌≡◌, ◌⊎◌, inl, inr, ℕ, zero, suc, ◌+◌, ◌<◌, ◌≤◌, ℤ, true, false, cond, List, [], ◌∷◌, ◌++◌, map, Option, Some, None, IsSome, refl, sym, ap, subst, ◌∙◌, arith}
use Rattle.std.specs.List.{All, list_any, count_by}
use Rattle.std.proofs.lemmas.Bool.{false≢true}
use Rattle.std.proofs.lemmas.List.Elements.{All-cons, All-head, All-nil}
use Rattle.std.proofs.lemmas.List.Sums.{sum_by-cons, sum_by-append}
use Rattle.beam_values.proofs.Bags.{bag_count}
use Rattle.beam_values.specs.Files.{first_named}
use Rattle.beam_values.specs.declared.piece.Dead.{Dead}
use Rattle.beam_values.specs.declared.arrival.Arrival.{Arrival}
use Rattle.beam_values.specs.declared.fault.Cause.{Cause}
use Rattle.beam_values.specs.declared.fault.Cause.TheVariants.{Call, Read}
use Rattle.beam_values.specs.declared.fault.FaultNote.{FaultNote}
use Rattle.beam_values.specs.declared.file_text.FileText.{FileText}
use Rattle.beam_values.specs.declared.options.Options.{Options}
use Rattle.beam_values.specs.declared.outcome.Outcome.{Outcome}
use Rattle.beam_values.specs.declared.outcome.StopCause.TheVariants as stop
use Rattle.beam_values.specs.declared.plan.Plan.{Plan}
use Rattle.beam_model.specs.Account.{IsAccounted, arrivals}
use Rattle.beam_model.specs.Chains.{Output, Arrives, PoisonAt}
use Rattle.beam_model.specs.Dead.{items_without}
use Rattle.beam_model.specs.Flow.{flow, log_chains, pane_chains}
use Rattle.beam_model.specs.Plans.{panes_plan}
use Rattle.beam_model.specs.Positions.{SourceItem, items}
use Rattle.beam_model.specs.Spread.{HasPoison, is_poison, spread_all}
use Rattle.beam_model.proofs.DeadPositions.{without_none}
use Rattle.beam_ports.specs.Counts.{Rose, rise}
use Rattle.beam_ports.specs.Observed.{WhereTold}
use Rattle.book_core.specs.Book.{SeenBook, sets_aside}
use Rattle.book_core.specs.Facts.{AreKept}
use Rattle.book_core.specs.Runs.{AreTold, HonestlyReached, Reached}
use Rattle.book_core.specs.Work.{Surroundings}
use Rattle.command_words.specs.Commands.{Asked, Help, Panes, Run, Replay, Make, Drill, Combine}
use Rattle.command_words.specs.Rules.{Asks, ByDefault, ForHelp, ForPanes, ForRun, ForReplay, ForMake, ForCombine, ForDrill, Given, IsValue}
use Rattle.command_words.specs.Parts.{Part}
use Rattle.command_words.specs.declared.setting.Setting.TheVariants.{Attempts}
use Rattle.ended_runs.specs.Stops.{IsHonestStop}
use Rattle.ended_runs.specs.Unpoisoned.{TakesNoPoison}
use Rattle.bundle_work.specs.Bundles.{IsCountedAs}
use Rattle.bundle_work.specs.Openings.{file_names}
use Rattle.run_engine.specs.Openings.{IsOpeningRefused}
use Rattle.command_ends.specs.Statuses.{IsNoSourceOrNoMemory}
use Rattle.run_engine.specs.PlanRun.{IsEndedBy, IsStoppedBy, surroundings_of}
use Rattle.command_ends.specs.declared.status.Status.{Status}
use Rattle.command_ends.specs.declared.status.Status.TheVariants as status
use Rattle.beam_command.specs.Asking.{IsPlanOf, WherePanes}
use Rattle.beam_command.specs.Completeness.{AreReadFaultsFew, AsksForPoison, FailsOnPoison, HasInputs, HasNotFailed, IsEndOfClean, IsEndOfPoison, IsStrict, first_fault}
use Rattle.beam_command.specs.Ends.{AreSourcesRefused, HasRun, IsDocumentRefused, IsEndOf, IsOutcomeOfAsked, IsPipelineEnd, IsRun}
use Rattle.beam_command.specs.Observing.{Observed, AreFound}
use Rattle.beam_command.specs.Promises.{IsPlanAsked}
use Rattle.beam_command.proofs.Completeness.{among, began, complete, complete_strict, named_not_none, not_failed, plan_is, unchanged}
use Rattle.beam_command.proofs.PanesStops.{stop_is_poison}
use Rattle.beam_command.proofs.PanesTakes.{takes_none}
use Rattle.beam_command.proofs.Promises.{plan_kept, promised}
use Rattle.beam_command.proofs.Stores.{AreOfOne}

-- ---- what is accounted for is no poison

none_of_arrivals : (arrivals : List Arrival) → count_by is_poison (map Arrives arrivals) ≡ 0
none_of_arrivals [] = refl
none_of_arrivals (a ∷ more) = omega (arith, none_of_arrivals more, sum_by-cons (λ b. cond (is_poison b) 1 0) (Arrives a) (map Arrives more))

poison_counts : (outputs : List Output) → list_any is_poison outputs ≡ true → 0 < count_by is_poison outputs
poison_counts [] any = absurd (false≢true any)
poison_counts (Arrives a ∷ rest) any = omega (arith, poison_counts rest any, sum_by-cons (λ b. cond (is_poison b) 1 0) (Arrives a) rest)
poison_counts (PoisonAt n ∷ rest) any = omega (arith, sum_by-cons (λ b. cond (is_poison b) 1 0) (PoisonAt n) rest)

-- where nothing is dead, nothing is left out
nothing_left_out : (items : List SourceItem) (o : Outcome) → o.dead ≡ [] → items_without o.dead items ≡ items
nothing_left_out items o none = ap (λ (d : List Dead). items_without d items) none ∙ without_none items

accounted-no_poison : (items : List SourceItem) (o : Outcome) → items_without o.dead items ≡ items → IsAccounted items o → HasPoison o.plan items → ⊥
accounted-no_poison items o whole account poison =
    let rest = pane_chains o.plan o.panes ++ log_chains o.plan o.logs in
    let some = poison_counts (spread_all o.plan items) poison in
    let none : count_by is_poison (flow o.plan items o.panes o.logs) ≡ 0 =
    ap (λ (l : List SourceItem). count_by is_poison (flow o.plan l o.panes o.logs)) (sym whole) ∙ bag_count is_poison _ _ account.flow ∙ none_of_arrivals (arrivals o) in
    let both : count_by is_poison (flow o.plan items o.panes o.logs) ≡ count_by is_poison (spread_all o.plan items) + count_by is_poison rest =
    sum_by-append (λ b. cond (is_poison b) 1 0) (spread_all o.plan items) rest in
    absurd (omega (arith, some, none, both))

-- ---- small facts

none_rose : (before after attempts : ℕ) → (Rose before after → ⊥) → 1 ≤ attempts → rise before after < attempts
none_rose before after attempts never some = by (rise before after) refl
  where
    by : (n : ℕ) → rise before after ≡ n → rise before after < attempts
    by zero is = omega (arith, is, some)
    by (suc n) is = absurd (never (omega (arith, is)))

some_value : (parts : List Part) (value : ℕ) → IsValue Attempts parts value → 1 ≤ value
some_value parts value (ByDefault none is) = omega (arith, is)
some_value parts value (Given text one within is) = omega (arith, is, within.least)

abbrev pub HasAttempts : Asked → Type 0
HasAttempts Help = Unit {0}
HasAttempts (Panes file size options) = 1 ≤ options.attempts
HasAttempts (Run name options) = 1 ≤ options.attempts
HasAttempts (Replay name schedule options) = 1 ≤ options.attempts
HasAttempts (Combine name options) = 1 ≤ options.attempts
HasAttempts (Make count number) = Unit {0}
HasAttempts (Drill count number options) = 1 ≤ options.attempts

-- words ask for one attempt at least
pub some_attempts : (words : List (List ℕ)) (asked : Asked) → Asks words asked → HasAttempts asked
some_attempts _ _ (ForHelp words asks) = tt
some_attempts _ _ (ForPanes program words parts file size options are two given some short number) = some_value parts options.attempts given.attempts
some_attempts _ _ (ForRun program words parts plan options are one given) = some_value parts options.attempts given.attempts
some_attempts _ _ (ForReplay program words parts plan schedule options are two given) = some_value parts options.attempts given.attempts
some_attempts _ _ (ForCombine program words parts plan options are one given) = some_value parts options.attempts given.attempts
some_attempts _ _ (ForMake program words parts count number are two none count_is number_is) = tt
some_attempts _ _ (ForDrill program words parts count number options are two given count_is number_is) = some_value parts options.attempts given.attempts

-- ---- the ends of any pipeline over poison

module _ (asked : Option Asked) (observed : Observed) (told : List FileText) (tells : observed.kits.store.files ≡ Some told) where
  -- an outcome of a run that came to its end is of a plan without poison
  pub unpoisoned : (own : Asked) (options : Options) (o : Outcome) → asked ≡ Some own → IsOutcomeOfAsked observed own options (IsEndedBy observed.kits) o
      → WhereTold observed.kits.store.files (λ told. IsAccounted (items told o.plan) o) → (sets_aside o.plan ≡ false → o.dead ≡ []) → AsksForPoison told asked → ⊥
  unpoisoned own options o is run account none_aside poison =
      let kept = subst (λ (a : Option Asked). IsPlanAsked observed.kits.store.files a o.plan) is (plan_kept asked observed own options o is run) in
      let asks = subst (λ (a : Option Asked). IsPlanAsked (Some told) a poison.0) is poison.1 in
      let same = plan_is observed.kits.store told tells own poison.0 o.plan asks kept in
      accounted-no_poison (items told o.plan) o (nothing_left_out (items told o.plan) o (none_aside (ap sets_aside same ∙ poison.2))) (account told tells)
      (subst (λ (p : Plan). HasPoison p (items told p)) (sym same) poison.3)

-- what is so of the outcome of a run that came to its end is so at Ok, where a plan is asked for
ran : (asked : Option Asked) (plan : Plan) (told : List FileText) (s : Status) (outcome : Option Outcome) (Q : Type 0) → IsPlanAsked (Some told) asked plan
    → IsRun asked (record { status = s; outcome = outcome }) (λ o. Q) → s ≡ status.Ok → Q
ran None plan told s outcome Q of run is = absurd of
ran (Some Help) plan told s outcome Q of run is = absurd of
ran (Some (Panes file size options)) plan told s outcome Q of run is = (subst (λ (st : Status). HasRun st outcome (λ o. Q)) is run).2
ran (Some (Run name options)) plan told s outcome Q of run is = (subst (λ (st : Status). HasRun st outcome (λ o. Q)) is run).2
ran (Some (Replay name schedule options)) plan told s outcome Q of run is = absurd of
ran (Some (Combine name options)) plan told s outcome Q of run is = absurd of
ran (Some (Make count number)) plan told s outcome Q of run is = absurd of
ran (Some (Drill count number options)) plan told s outcome Q of run is = (subst (λ (st : Status). HasRun st outcome (λ o. Q)) is run).2

-- so no run over poison ends Ok
pub not_ok : (asked : Option Asked) (observed : Observed)
    → ((own : Asked) (options : Options) (o : Outcome) → asked ≡ Some own → IsOutcomeOfAsked observed own options (IsEndedBy observed.kits) o → WhereTold observed.kits.store.files (λ told. IsAccounted (items told o.plan) o))
    → ((own : Asked) (options : Options) (o : Outcome) → asked ≡ Some own → IsOutcomeOfAsked observed own options (IsEndedBy observed.kits) o → sets_aside o.plan ≡ false → o.dead ≡ [])
    → (s : Status) (outcome : Option Outcome) → IsEndOf asked observed s outcome → WhereTold observed.kits.store.files (λ told. AsksForPoison told asked → s ≡ status.Ok → ⊥)
not_ok asked observed account none_aside s outcome end = λ told tells poison is.
    let run = promised asked observed (λ options o. ⊥)
    (λ own options o same run. unpoisoned asked observed told tells own options o same run (account own options o same run) (none_aside own options o same run) poison) s outcome end in
    absurd (ran asked poison.0 told s outcome ⊥ poison.1 run is)

-- ---- the ends of `panes`

found_all : (file : List ℕ) (size : ℤ) (told : List FileText) → IsSome (first_named file told) → AreFound (Some told) (panes_plan file size)
found_all file size told found = λ files same.
    let is : told ≡ files = cc in
    subst (λ (t : List FileText). All (λ name. IsSome (first_named name t)) (file ∷ [])) is (All-cons (λ (name : List ℕ). IsSome (first_named name told)) file [] found (All-nil _))

module _ (observed : Observed) (of_one : AreOfOne observed.kits) (told : List FileText) (tells : observed.kits.store.files ≡ Some told) (file : List ℕ) (size : ℤ) (options : Options)
    (some : 1 ≤ options.attempts) (whole : HasNotFailed observed.kits.store) where
  abbrev own : Asked
  own = Panes file size options

  few : rise observed.kits.store.before observed.kits.store.after < options.attempts
  few = none_rose observed.kits.store.before observed.kits.store.after options.attempts whole some

  abbrev Begins : Status → Type 0
  Begins s = IsDocumentRefused observed own options.attempts s ⊎ AreSourcesRefused observed own options.attempts s ⊎ (s ≡ status.NoMemory)

  -- ---- a file that isn't there

  file_found : (plan : Plan) → IsPlanOf observed.kits.store.files own plan → AreFound observed.kits.store.files plan → IsSome (first_named file told)
  file_found plan is found =
      All-head (λ (name : List ℕ). IsSome (first_named name told)) file []
      (subst (λ (p : Plan). All (λ name. IsSome (first_named name told)) (file_names p)) is (found told tells))

  module _ (absent : first_named file told ≡ None) where
    never_found : (plan : Plan) → IsPlanOf observed.kits.store.files own plan → AreFound observed.kits.store.files plan → ⊥
    never_found plan is found = named_not_none (first_named file told) absent (file_found plan is found)

    not_opened : (s : Status) → IsOpeningRefused observed.kits.stores (panes_plan file size) options.attempts 0 s → IsNoSourceOrNoMemory file s
    not_opened (status.NoSource name) refused =
        inl (ap (λ (n : List ℕ). status.NoSource n)
        (among (λ (n : List ℕ). n ≡ file) refused.before refused.after (file ∷ []) name refused.names_are (All-cons (λ (n : List ℕ). n ≡ file) file [] refl (All-nil (λ (n : List ℕ). n ≡ file)))))
    not_opened (status.SourceFault kit) refused = absurd (not_failed observed of_one options.attempts few kit refused)
    not_opened (status.FileChanged name len other) refused = absurd (unchanged observed of_one told tells (file ∷ []) name len other refused)
    not_opened status.NoMemory refused = inr refl
    not_opened (status.BadPlan refusal) refused = absurd refused
    not_opened status.Ok refused = absurd refused
    not_opened status.Help refused = absurd refused
    not_opened status.Usage refused = absurd refused
    not_opened (status.WorkFault note) refused = absurd refused
    not_opened status.SinkFault refused = absurd refused
    not_opened (status.BadSchedule why) refused = absurd refused
    not_opened (status.NotLifted why) refused = absurd refused

    absent_unbegun : (s : Status) → Begins s → IsNoSourceOrNoMemory file s
    absent_unbegun s why = elim why [
      | inl refused ↦ absurd refused
      | inr other ↦ elim other [
        | inl refused ↦ not_opened s (subst (λ (p : Plan). IsOpeningRefused observed.kits.stores p options.attempts 0 s) refused.3 refused.4)
        | inr none ↦ inr none
      ]
    ]

    absent_ends : (s : Status) (outcome : Option Outcome) → IsPipelineEnd observed own options s outcome → IsNoSourceOrNoMemory file s
    absent_ends status.Ok outcome end = absurd (never_found end.2.0 end.2.1 end.2.2)
    absent_ends status.SinkFault outcome end = absurd (never_found end.2.0 end.2.1 end.2.2)
    absent_ends (status.WorkFault note) outcome end = absurd (never_found end.1.2.0 end.1.2.1 end.1.2.2)
    absent_ends (status.NoSource name) outcome end = absent_unbegun (status.NoSource name) end.2
    absent_ends (status.SourceFault kit) outcome end = absent_unbegun (status.SourceFault kit) end.2
    absent_ends (status.FileChanged name len other) outcome end = absent_unbegun (status.FileChanged name len other) end.2
    absent_ends (status.BadPlan refusal) outcome end = absent_unbegun (status.BadPlan refusal) end.2
    absent_ends status.NoMemory outcome end = absent_unbegun status.NoMemory end.2
    absent_ends status.Help outcome end = absent_unbegun status.Help end.2
    absent_ends status.Usage outcome end = absent_unbegun status.Usage end.2
    absent_ends (status.BadSchedule why) outcome end = absent_unbegun (status.BadSchedule why) end.2
    absent_ends (status.NotLifted why) outcome end = absent_unbegun (status.NotLifted why) end.2

  -- ---- a file that is there

  module _ (found : IsSome (first_named file told))
      (stops : observed.kits.shelf.strict ≡ true → (note : FaultNote) (o : Outcome) → IsOutcomeOfAsked observed own options (IsStoppedBy observed.kits note) o → note.cause ≡ Call
      → (note ≡ first_fault options) × HasPoison (panes_plan file size) (items told (panes_plan file size))) where
    inputs : HasInputs told own
    inputs = (panes_plan file size, refl, found_all file size told found)

    unbegun : (s : Status) → Begins s → s ≡ status.NoMemory
    unbegun s why = began observed of_one told tells options.attempts few own inputs s why

    module _ (strict : observed.kits.shelf.strict ≡ true) (never : (o : Outcome) → IsOutcomeOfAsked observed own options (IsEndedBy observed.kits) o → ⊥) where
      faulted : (note : FaultNote) (o : Outcome) → IsOutcomeOfAsked observed own options (IsStoppedBy observed.kits note) o → (cause : Cause) → note.cause ≡ cause
          → IsCountedAs observed.kits.shelf observed.kits.store cause → IsEndOfPoison options (status.WorkFault note)
      faulted note o run Call is counted = inl (ap (λ (n : FaultNote). status.WorkFault n) (stops strict note o run is).0)
      faulted note o run Read is counted = absurd (whole counted)

      poison_ends : (s : Status) (outcome : Option Outcome) → IsPipelineEnd observed own options s outcome → IsEndOfPoison options s
      poison_ends status.Ok outcome end = absurd (never end.0 end.2)
      poison_ends status.SinkFault outcome end = absurd (never end.0 end.2)
      poison_ends (status.WorkFault note) outcome end = faulted note end.1.0 end.1.2 note.cause refl end.2.cause
      poison_ends (status.NoSource name) outcome end = inr (unbegun (status.NoSource name) end.2)
      poison_ends (status.SourceFault kit) outcome end = inr (unbegun (status.SourceFault kit) end.2)
      poison_ends (status.FileChanged name len other) outcome end = inr (unbegun (status.FileChanged name len other) end.2)
      poison_ends (status.BadPlan refusal) outcome end = inr (unbegun (status.BadPlan refusal) end.2)
      poison_ends status.NoMemory outcome end = inr (unbegun status.NoMemory end.2)
      poison_ends status.Help outcome end = inr (unbegun status.Help end.2)
      poison_ends status.Usage outcome end = inr (unbegun status.Usage end.2)
      poison_ends (status.BadSchedule why) outcome end = inr (unbegun (status.BadSchedule why) end.2)
      poison_ends (status.NotLifted why) outcome end = inr (unbegun (status.NotLifted why) end.2)

-- ---- by what is asked for

module _ (observed : Observed) (of_one : AreOfOne observed.kits) (s : Status) (outcome : Option Outcome) where
  pub absent : (asked : Option Asked) → ((own : Asked) → asked ≡ Some own → HasAttempts own) → IsEndOf asked observed s outcome
      → WherePanes asked (λ file size options. HasNotFailed observed.kits.store → WhereTold observed.kits.store.files (λ told. first_named file told ≡ None → IsNoSourceOrNoMemory file s))
  absent None tried end = tt
  absent (Some Help) tried end = tt
  absent (Some (Run name options)) tried end = tt
  absent (Some (Replay name schedule options)) tried end = tt
  absent (Some (Combine name options)) tried end = tt
  absent (Some (Make count number)) tried end = tt
  absent (Some (Drill count number options)) tried end = tt
  absent (Some (Panes file size options)) tried end = λ whole told tells none.
      absent_ends observed of_one told tells file size options (tried (Panes file size options) refl) whole none s outcome end

  module _ (runs : (known : Surroundings) (b : SeenBook) → HonestlyReached known b → Reached known.told b)
      (kept : (told : Option (List FileText)) (b : SeenBook) → Reached told b → AreKept b)
      (honest : (known : Surroundings) (b : SeenBook) (note : FaultNote) → HonestlyReached known b → b.stopped ≡ Some (stop.Spent note) → IsHonestStop known b note) where
    stopped : (told : List FileText) → observed.kits.store.files ≡ Some told → (file : List ℕ) (size : ℤ) (options : Options) → observed.kits.shelf.strict ≡ true → (note : FaultNote) (o : Outcome)
        → IsOutcomeOfAsked observed (Panes file size options) options (IsStoppedBy observed.kits note) o → note.cause ≡ Call
        → (note ≡ first_fault options) × HasPoison (panes_plan file size) (items told (panes_plan file size))
    stopped told tells file size options strict note o run is =
        let known = surroundings_of observed.kits in
        let stop = honest known run.3.book note run.3.reached run.3.is.noted in
        let found = stop_is_poison file size known told run.3.book note tells strict (run.3.of_plan ∙ run.1) is stop (kept known.told stop.before (runs known stop.before stop.reached)) in
        (found.0 ∙ ap first_fault run.3.with_options, found.1)

    pub poison : (asked : Option Asked) → ((own : Asked) → asked ≡ Some own → HasAttempts own)
        → ((own : Asked) (options : Options) (o : Outcome) → asked ≡ Some own → IsOutcomeOfAsked observed own options (IsEndedBy observed.kits) o
        → WhereTold observed.kits.store.files (λ told. IsAccounted (items told o.plan) o))
        → ((own : Asked) (options : Options) (o : Outcome) → asked ≡ Some own → IsOutcomeOfAsked observed own options (IsEndedBy observed.kits) o → sets_aside o.plan ≡ false → o.dead ≡ [])
        → IsEndOf asked observed s outcome
        → WherePanes asked (λ file size options. HasNotFailed observed.kits.store → IsStrict observed.kits.shelf
        → WhereTold observed.kits.store.files (λ told. IsSome (first_named file told) → AsksForPoison told asked → IsEndOfPoison options s))
    poison None tried account none_aside end = tt
    poison (Some Help) tried account none_aside end = tt
    poison (Some (Run name options)) tried account none_aside end = tt
    poison (Some (Replay name schedule options)) tried account none_aside end = tt
    poison (Some (Combine name options)) tried account none_aside end = tt
    poison (Some (Make count number)) tried account none_aside end = tt
    poison (Some (Drill count number options)) tried account none_aside end = tt
    poison (Some (Panes file size options)) tried account none_aside end = λ whole strict told tells found asks.
        let own = Panes file size options in
        poison_ends observed of_one told tells file size options (tried own refl) whole found (stopped told tells file size options) strict
        (λ o run. unpoisoned (Some own) observed told tells own options o refl run (account own options o refl run) (none_aside own options o refl run) asks) s outcome end

    pub clean : ((known : Surroundings) (told : List FileText) (b : SeenBook) (note : FaultNote) → known.told ≡ Some told → known.strict ≡ true → AreTold told b
        → TakesNoPoison known b.plan b.options → HonestlyReached known b → b.stopped ≡ Some (stop.Spent note) → b.options.attempts ≤ b.reads)
        → (asked : Option Asked) → IsEndOf asked observed s outcome
        → WherePanes asked (λ file size options. AreReadFaultsFew options.attempts observed → FailsOnPoison observed.kits.shelf
        → WhereTold observed.kits.store.files (λ told. IsSome (first_named file told) → (AsksForPoison told asked → ⊥) → IsEndOfClean s))
    clean by_reads None end = tt
    clean by_reads (Some Help) end = tt
    clean by_reads (Some (Run name options)) end = tt
    clean by_reads (Some (Replay name schedule options)) end = tt
    clean by_reads (Some (Combine name options)) end = tt
    clean by_reads (Some (Make count number)) end = tt
    clean by_reads (Some (Drill count number options)) end = tt
    clean by_reads (Some (Panes file size options)) end = λ few shelf told tells found never.
        let own = Panes file size options in
        let seen : Surroundings = record { told = Some told; strict = true } in
        let none = takes_none file size told (λ poison. never (panes_plan file size, refl, refl, poison)) options (λ b reached. kept (Some told) b (runs seen b reached)) in
        elim shelf [
          | inl strict ↦
              complete_strict observed of_one s outcome by_reads (Some own) end strict told tells
              (panes_plan file size, refl, found_all file size told found, none) few
          | inr quiet ↦
              complete (Some own) observed of_one s outcome end told tells (panes_plan file size, refl, found_all file size told found) (record {
                kits = omega (arith, few.store, none_rose observed.kits.shelf.before observed.kits.shelf.after 1 quiet (omega arith));
                out = few.out;
              })
        ]
