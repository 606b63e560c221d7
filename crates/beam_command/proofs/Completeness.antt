-- How a command ends where little or nothing outside fails.
use Rattle.std.proofs.Common.{◌≡◌, ◌⊎◌, inl, inr, ℕ, zero, suc, ◌<◌, ◌≤◌, List, [], ◌∷◌, ◌++◌, length, Option, Some, None, IsSome, true, refl, sym, ap, subst, ◌∙◌, arith}
use Rattle.std.specs.List.{All}
use Rattle.std.proofs.lemmas.Bool.{false≢true}
use Rattle.std.proofs.lemmas.List.Elements.{All-head, All-tail}
use Rattle.beam_values.specs.Files.{first_named}
use Rattle.beam_values.specs.declared.fault.FaultNote.{FaultNote}
use Rattle.beam_values.specs.declared.file_text.FileText.{FileText}
use Rattle.beam_values.specs.declared.options.Options.{Options}
use Rattle.beam_values.specs.declared.outcome.Outcome.{Outcome}
use Rattle.beam_values.specs.declared.outcome.StopCause.TheVariants as stop
use Rattle.beam_values.specs.declared.plan.Plan.{Plan}
use Rattle.beam_ports.specs.Counts.{rise}
use Rattle.beam_ports.specs.Observed.{ObservedStore, WhereTold}
use Rattle.book_core.specs.Book.{SeenBook, sets_aside}
use Rattle.book_core.specs.Runs.{AreTold, HonestlyReached}
use Rattle.book_core.specs.Work.{Surroundings}
use Rattle.ended_runs.specs.DeadLetters.{HasNoPoisonPosition, IsStoppedByRead}
use Rattle.ended_runs.specs.Unpoisoned.{TakesNoPoison, TakesNoPoisonBeside}
use Rattle.command_words.specs.Commands.{Asked, Help, Panes, Run, Replay, Make, Drill, Combine}
use Rattle.bundle_work.specs.Openings.{file_names}
use Rattle.run_engine.specs.Openings.{HasChanged, HasFailed, IsOpeningRefused, failed_before}
use Rattle.run_engine.specs.PlanRun.{IsStoppedBy, surroundings_of}
use Rattle.command_ends.specs.declared.status.Status.{Status}
use Rattle.command_ends.specs.declared.status.Status.TheVariants as status
use Rattle.beam_command.specs.Asking.{IsPlanOf, IsPlanRead, WherePipeline}
use Rattle.beam_command.specs.Completeness.{AreFaultsFew, AreKitFaultsFew, AreReadFaultsFew, HasCleanInputs, HasCleanPositions, HasInputs, HasInputsAside, IsChange, IsEndOfClean, IsEndOfFewFaults, IsNoReadFault, IsStrict}
use Rattle.beam_command.specs.Ends.{AreSourcesRefused, IsDocumentRefused, IsEndOf, IsOutcomeOfAsked, IsPipelineEnd}
use Rattle.beam_command.specs.Observing.{Observed, AreFound}
use Rattle.command_ends.specs.PlanFiles.{IsPlanRefused}
use Rattle.beam_command.proofs.Stores.{AreOfOne, IsOneOf, told_here}

-- ---- what is there can't be refused

pub named_not_none : (found : Option (List ℕ)) → found ≡ None → IsSome found → ⊥
named_not_none None none some = absurd (false≢true some)
named_not_none (Some text) none some = absurd cc

-- a name that stands among others has what all of them have
pub among : (P : List ℕ → Type 0) (before after names : List (List ℕ)) (name : List ℕ) → names ≡ before ++ name ∷ after → All P names → P name
among P before after names name are all = by before (subst (All P) are all)
  where
    by : (earlier : List (List ℕ)) → All P (earlier ++ name ∷ after) → P name
    by [] held = All-head P name after held
    by (first ∷ later) held = by later (All-tail P first (later ++ name ∷ after) held)

module _ (store : ObservedStore) (told : List FileText) (tells : store.files ≡ Some told) where
  -- a document has one plan
  pub read_is : (name : List ℕ) (plan other : Plan) → IsPlanRead (Some told) name plan → IsPlanRead store.files name other → other ≡ plan
  read_is name plan other of own =
      let meant = of told refl in
      let also = own told tells in
      let text : also.0 ≡ meant.0 = cc (meant.1, also.1) in
      cc (text, meant.2, also.2)

  -- the plan that is asked for is one
  pub plan_is : (asked : Asked) (plan other : Plan) → IsPlanOf (Some told) asked plan → IsPlanOf store.files asked other → other ≡ plan
  plan_is Help plan other of own = absurd of
  plan_is (Panes file size options) plan other of own = own ∙ sym of
  plan_is (Run name options) plan other of own = read_is name plan other of own
  plan_is (Replay name schedule options) plan other of own = absurd of
  plan_is (Combine name options) plan other of own = absurd of
  plan_is (Make count number) plan other of own = absurd of
  plan_is (Drill count number options) plan other of own = own ∙ sym of

-- no failures were counted before a whole command
none_before : (kit : ℕ) → failed_before 0 kit ≡ 0
none_before zero = refl
none_before (suc kit) = refl

-- no store failed as often as it may
pub not_failed : (observed : Observed) → AreOfOne observed.kits → (attempts : ℕ) → rise observed.kits.store.before observed.kits.store.after < attempts → (kit : ℕ)
    → HasFailed observed.kits.stores attempts 0 kit → ⊥
not_failed observed of_one attempts few kit has = absurd (omega (arith, has.counted, none_before kit, (of_one kit has.store has.at).counts, few))

module _ (observed : Observed) (of_one : AreOfOne observed.kits) (told : List FileText) (tells : observed.kits.store.files ≡ Some told) where
  -- no file has two lengths
  pub unchanged : (names : List (List ℕ)) (name : List ℕ) (len other : ℕ) → HasChanged observed.kits.stores names name len other → ⊥
  unchanged names name len other changed =
      let first = changed.len_at_first told (told_here observed.kits.store changed.first told (of_one 0 changed.first changed.at_first) tells) in
      let also = changed.len_at told (told_here observed.kits.store changed.store told (of_one (suc changed.kit) changed.store changed.at) tells) in
      let text : also.0 ≡ first.0 = cc (first.1, also.1) in
      changed.differ (sym also.2 ∙ ap length text ∙ first.2)

  module _ (attempts : ℕ) (few : rise observed.kits.store.before observed.kits.store.after < attempts) where
    pub plan_read : (name : List ℕ) (plan : Plan) → IsPlanRead (Some told) name plan → (first : ObservedStore) → IsOneOf observed.kits.store first → (s : Status)
        → IsPlanRefused first name attempts s → s ≡ status.NoMemory
    plan_read name plan of first one (status.NoSource absent) refused =
        let meant = of told refl in
        let none = refused.1 told (told_here observed.kits.store first told one tells) in
        absurd (cc (meant.1, none))
    plan_read name plan of first one (status.SourceFault kit) refused = absurd (omega (arith, refused.1, one.counts, few))
    plan_read name plan of first one (status.BadPlan refusal) refused =
        let meant = of told refl in
        let also = refused told (told_here observed.kits.store first told one tells) in
        let text : also.0 ≡ meant.0 = cc (meant.1, also.1) in
        absurd (cc (text, meant.2, also.2))
    plan_read name plan of first one status.NoMemory refused = refl
    plan_read name plan of first one status.Ok refused = absurd refused
    plan_read name plan of first one status.Help refused = absurd refused
    plan_read name plan of first one status.Usage refused = absurd refused
    plan_read name plan of first one (status.WorkFault note) refused = absurd refused
    plan_read name plan of first one status.SinkFault refused = absurd refused
    plan_read name plan of first one (status.FileChanged changed len other) refused = absurd refused
    plan_read name plan of first one (status.BadSchedule why) refused = absurd refused
    plan_read name plan of first one (status.NotLifted why) refused = absurd refused

    document_read : (asked : Asked) (plan : Plan) → IsPlanOf (Some told) asked plan → (s : Status) → IsDocumentRefused observed asked attempts s → s ≡ status.NoMemory
    document_read Help plan of s refused = absurd refused
    document_read (Panes file size options) plan of s refused = absurd refused
    document_read (Run name options) plan of s refused = plan_read name plan of refused.0 (of_one 0 refused.0 refused.1) s refused.2
    document_read (Replay name schedule options) plan of s refused = absurd refused
    document_read (Combine name options) plan of s refused = absurd refused
    document_read (Make count number) plan of s refused = absurd refused
    document_read (Drill count number options) plan of s refused = absurd refused

    pub opened : (plan : Plan) → AreFound (Some told) plan → (s : Status) → IsOpeningRefused observed.kits.stores plan attempts 0 s → s ≡ status.NoMemory
    opened plan found (status.NoSource name) refused =
        let none = (refused.absent told (told_here observed.kits.store refused.store told (of_one refused.kit refused.store refused.at) tells)).1 in
        absurd (named_not_none (first_named name told) none
        (among (λ (n : List ℕ). IsSome (first_named n told)) refused.before refused.after (file_names plan) name refused.names_are (found told refl)))
    opened plan found (status.SourceFault kit) refused = absurd (not_failed observed of_one attempts few kit refused)
    opened plan found (status.FileChanged name len other) refused = absurd (unchanged (file_names plan) name len other refused)
    opened plan found status.NoMemory refused = refl
    opened plan found (status.BadPlan refusal) refused = absurd refused
    opened plan found status.Ok refused = absurd refused
    opened plan found status.Help refused = absurd refused
    opened plan found status.Usage refused = absurd refused
    opened plan found (status.WorkFault note) refused = absurd refused
    opened plan found status.SinkFault refused = absurd refused
    opened plan found (status.BadSchedule why) refused = absurd refused
    opened plan found (status.NotLifted why) refused = absurd refused

    -- with all inputs there, a run that did not begin had no memory
    pub began : (asked : Asked) → HasInputs told asked → (s : Status)
        → (IsDocumentRefused observed asked attempts s ⊎ AreSourcesRefused observed asked attempts s ⊎ (s ≡ status.NoMemory)) → s ≡ status.NoMemory
    began asked inputs s why = elim why [
      | inl refused ↦ document_read asked inputs.0 inputs.1 s refused
      | inr other ↦ elim other [
        | inl refused ↦
            opened inputs.0 inputs.2 s
            (subst (λ (p : Plan). IsOpeningRefused observed.kits.stores p attempts 0 s)
            (plan_is refused.0 told (told_here observed.kits.store refused.0 told (of_one 0 refused.0 refused.2) tells) asked inputs.0 refused.1 inputs.1 refused.3) refused.4)
        | inr none ↦ none
      ]
    ]

-- ---- files that change

module _ (observed : Observed) (of_one : AreOfOne observed.kits) (told : List FileText) (tells : observed.kits.store.files ≡ Some told) where
  no_pipeline_changes : (own : Asked) (options : Options) (name : List ℕ) (len other : ℕ) (outcome : Option Outcome) → IsPipelineEnd observed own options (status.FileChanged name len other) outcome → ⊥
  no_pipeline_changes own options name len other outcome end = elim end.2 [
    | inl refused ↦ no_document own refused
    | inr why ↦ elim why [ inl refused ↦ unchanged observed of_one told tells (file_names refused.1) name len other refused.4 | inr none ↦ absurd (cc) ]
  ]
    where
      no_document : (own : Asked) → IsDocumentRefused observed own options.attempts (status.FileChanged name len other) → ⊥
      no_document Help refused = refused
      no_document (Panes file size with) refused = refused
      no_document (Run plan with) refused = refused.2
      no_document (Replay plan schedule with) refused = refused
      no_document (Combine plan with) refused = refused
      no_document (Make count number) refused = refused
      no_document (Drill count number with) refused = refused

  no_end_changes : (asked : Option Asked) (name : List ℕ) (len other : ℕ) (outcome : Option Outcome) → IsEndOf asked observed (status.FileChanged name len other) outcome → ⊥
  no_end_changes None name len other outcome end = absurd (cc (end.0))
  no_end_changes (Some Help) name len other outcome end = absurd end.0
  no_end_changes (Some (Panes file size options)) name len other outcome end = no_pipeline_changes (Panes file size options) options name len other outcome end
  no_end_changes (Some (Run plan options)) name len other outcome end = no_pipeline_changes (Run plan options) options name len other outcome end
  no_end_changes (Some (Replay plan schedule options)) name len other outcome end = absurd end.0.1
  no_end_changes (Some (Combine plan options)) name len other outcome end = elim end.0.1 [
    | inl refused ↦ refused.2
    | inr read ↦ unchanged observed of_one told tells (file_names read.1) name len other read.4.1
  ]
  no_end_changes (Some (Make count number)) name len other outcome end = absurd end.0
  no_end_changes (Some (Drill count number options)) name len other outcome end = no_pipeline_changes (Drill count number options) options name len other outcome end

  no_change : (asked : Option Asked) (s : Status) (outcome : Option Outcome) → IsEndOf asked observed s outcome → IsChange s → ⊥
  no_change asked (status.FileChanged name len other) outcome end change = no_end_changes asked name len other outcome end
  no_change asked status.Ok outcome end change = change
  no_change asked status.Help outcome end change = change
  no_change asked status.Usage outcome end change = change
  no_change asked (status.BadPlan refusal) outcome end change = change
  no_change asked (status.NoSource name) outcome end change = change
  no_change asked (status.SourceFault kit) outcome end change = change
  no_change asked (status.WorkFault note) outcome end change = change
  no_change asked status.SinkFault outcome end change = change
  no_change asked (status.BadSchedule why) outcome end change = change
  no_change asked (status.NotLifted why) outcome end change = change
  no_change asked status.NoMemory outcome end change = change

-- where all stores tell the same files, none has changed
pub same_files : (asked : Option Asked) (observed : Observed) → AreOfOne observed.kits → (s : Status) (outcome : Option Outcome) → IsEndOf asked observed s outcome
    → WhereTold observed.kits.store.files (λ told. IsChange s → ⊥)
same_files asked observed of_one s outcome end = λ told tells. no_change observed of_one told tells asked s outcome end

-- ---- few faults

module _ (observed : Observed) (of_one : AreOfOne observed.kits) (told : List FileText) (tells : observed.kits.store.files ≡ Some told) where
  module _ (own : Asked) (options : Options) (inputs : HasInputs told own) (few : AreFaultsFew options.attempts observed) where
    few_in_store : rise observed.kits.store.before observed.kits.store.after < options.attempts
    few_in_store = omega (arith, few.kits)

    unbegun : (s : Status)
        → (IsDocumentRefused observed own options.attempts s ⊎ AreSourcesRefused observed own options.attempts s ⊎ (s ≡ status.NoMemory)) → IsEndOfClean s
    unbegun s why = inr (began observed of_one told tells options.attempts few_in_store own inputs s why)

    completes : (s : Status) (outcome : Option Outcome) → IsPipelineEnd observed own options s outcome → IsEndOfClean s
    completes status.Ok outcome end = inl refl
    completes status.SinkFault outcome end = absurd (omega (arith, end.3.2.0, few.out))
    completes (status.WorkFault note) outcome end = absurd (omega (arith, end.2.counted, few.kits))
    completes (status.NoSource name) outcome end = unbegun (status.NoSource name) end.2
    completes (status.SourceFault kit) outcome end = unbegun (status.SourceFault kit) end.2
    completes (status.FileChanged name len other) outcome end = unbegun (status.FileChanged name len other) end.2
    completes (status.BadPlan refusal) outcome end = unbegun (status.BadPlan refusal) end.2
    completes status.NoMemory outcome end = unbegun status.NoMemory end.2
    completes status.Help outcome end = unbegun status.Help end.2
    completes status.Usage outcome end = unbegun status.Usage end.2
    completes (status.BadSchedule why) outcome end = unbegun (status.BadSchedule why) end.2
    completes (status.NotLifted why) outcome end = unbegun (status.NotLifted why) end.2

-- with all inputs there and few faults a pipeline comes to its end
pub complete : (asked : Option Asked) (observed : Observed) → AreOfOne observed.kits → (s : Status) (outcome : Option Outcome) → IsEndOf asked observed s outcome
    → WherePipeline asked (λ own options. WhereTold observed.kits.store.files (λ told. HasInputs told own → AreFaultsFew options.attempts observed → IsEndOfClean s))
complete None observed of_one s outcome end = tt
complete (Some Help) observed of_one s outcome end = tt
complete (Some (Panes file size options)) observed of_one s outcome end = λ told tells inputs few.
    completes observed of_one told tells (Panes file size options) options inputs few s outcome end
complete (Some (Run name options)) observed of_one s outcome end = λ told tells inputs few.
    completes observed of_one told tells (Run name options) options inputs few s outcome end
complete (Some (Replay name schedule options)) observed of_one s outcome end = tt
complete (Some (Combine name options)) observed of_one s outcome end = tt
complete (Some (Make count number)) observed of_one s outcome end = tt
complete (Some (Drill count number options)) observed of_one s outcome end = λ told tells inputs few.
    completes observed of_one told tells (Drill count number options) options inputs few s outcome end

-- ---- few faults, whatever the stores tell

module _ (observed : Observed) (of_one : AreOfOne observed.kits) (options : Options) (few : AreKitFaultsFew options.attempts observed.kits) where
  few_reads : rise observed.kits.store.before observed.kits.store.after < options.attempts
  few_reads = omega (arith, few)

  abbrev Fits : Status → Type 0
  Fits s = IsEndOfFewFaults options.attempts observed.out s

  pub by_file : (name : List ℕ) (first : ObservedStore) → IsOneOf observed.kits.store first → (s : Status) → IsPlanRefused first name options.attempts s → Fits s
  by_file name first one (status.NoSource absent) refused = tt
  by_file name first one (status.SourceFault kit) refused = absurd (omega (arith, refused.1, one.counts, few_reads))
  by_file name first one (status.BadPlan refusal) refused = tt
  by_file name first one status.NoMemory refused = tt
  by_file name first one status.Ok refused = absurd refused
  by_file name first one status.Help refused = absurd refused
  by_file name first one status.Usage refused = absurd refused
  by_file name first one (status.WorkFault note) refused = absurd refused
  by_file name first one status.SinkFault refused = absurd refused
  by_file name first one (status.FileChanged changed len other) refused = absurd refused
  by_file name first one (status.BadSchedule why) refused = absurd refused
  by_file name first one (status.NotLifted why) refused = absurd refused

  by_document : (own : Asked) (s : Status) → IsDocumentRefused observed own options.attempts s → Fits s
  by_document Help s refused = absurd refused
  by_document (Panes file size with) s refused = absurd refused
  by_document (Run name with) s refused = by_file name refused.0 (of_one 0 refused.0 refused.1) s refused.2
  by_document (Replay name schedule with) s refused = absurd refused
  by_document (Combine name with) s refused = absurd refused
  by_document (Make count number) s refused = absurd refused
  by_document (Drill count number with) s refused = absurd refused

  pub by_opening : (plan : Plan) (s : Status) → IsOpeningRefused observed.kits.stores plan options.attempts 0 s → Fits s
  by_opening plan (status.NoSource name) refused = tt
  by_opening plan (status.SourceFault kit) refused = absurd (not_failed observed of_one options.attempts few_reads kit refused)
  by_opening plan (status.FileChanged name len other) refused = tt
  by_opening plan status.NoMemory refused = tt
  by_opening plan (status.BadPlan refusal) refused = absurd refused
  by_opening plan status.Ok refused = absurd refused
  by_opening plan status.Help refused = absurd refused
  by_opening plan status.Usage refused = absurd refused
  by_opening plan (status.WorkFault note) refused = absurd refused
  by_opening plan status.SinkFault refused = absurd refused
  by_opening plan (status.BadSchedule why) refused = absurd refused
  by_opening plan (status.NotLifted why) refused = absurd refused

  before : (own : Asked) (s : Status) → (IsDocumentRefused observed own options.attempts s ⊎ AreSourcesRefused observed own options.attempts s ⊎ (s ≡ status.NoMemory)) → Fits s
  before own s why = elim why [
    | inl refused ↦ by_document own s refused
    | inr other ↦ elim other [ inl refused ↦ by_opening refused.1 s refused.4 | inr none ↦ subst Fits (sym none) tt ]
  ]

  ends_few : (own : Asked) (s : Status) (outcome : Option Outcome) → IsPipelineEnd observed own options s outcome → Fits s
  ends_few own status.Ok outcome end = tt
  ends_few own status.SinkFault outcome end = end.3.2.0
  ends_few own (status.WorkFault note) outcome end = absurd (omega (arith, end.2.counted, few))
  ends_few own (status.NoSource name) outcome end = before own (status.NoSource name) end.2
  ends_few own (status.SourceFault kit) outcome end = before own (status.SourceFault kit) end.2
  ends_few own (status.FileChanged name len other) outcome end = before own (status.FileChanged name len other) end.2
  ends_few own (status.BadPlan refusal) outcome end = before own (status.BadPlan refusal) end.2
  ends_few own status.NoMemory outcome end = before own status.NoMemory end.2
  ends_few own status.Help outcome end = before own status.Help end.2
  ends_few own status.Usage outcome end = before own status.Usage end.2
  ends_few own (status.BadSchedule why) outcome end = before own (status.BadSchedule why) end.2
  ends_few own (status.NotLifted why) outcome end = before own (status.NotLifted why) end.2

-- with few faults at the kits nothing of a pipeline failed as often as it may, but for its sink
pub few_faults : (asked : Option Asked) (observed : Observed) → AreOfOne observed.kits → (s : Status) (outcome : Option Outcome) → IsEndOf asked observed s outcome
    → WherePipeline asked (λ own options. AreKitFaultsFew options.attempts observed.kits → IsEndOfFewFaults options.attempts observed.out s)
few_faults None observed of_one s outcome end = tt
few_faults (Some Help) observed of_one s outcome end = tt
few_faults (Some (Panes file size options)) observed of_one s outcome end = λ few. ends_few observed of_one options few (Panes file size options) s outcome end
few_faults (Some (Run name options)) observed of_one s outcome end = λ few. ends_few observed of_one options few (Run name options) s outcome end
few_faults (Some (Replay name schedule options)) observed of_one s outcome end = tt
few_faults (Some (Combine name options)) observed of_one s outcome end = tt
few_faults (Some (Make count number)) observed of_one s outcome end = tt
few_faults (Some (Drill count number options)) observed of_one s outcome end = λ few. ends_few observed of_one options few (Drill count number options) s outcome end

-- ---- a shelf that fails on poison alone

module _ (observed : Observed) (of_one : AreOfOne observed.kits) (s : Status) (outcome : Option Outcome) where
  module _ (told : List FileText) (tells : observed.kits.store.files ≡ Some told) (own : Asked) (options : Options) where
    -- a pipeline comes to its end whose inputs are there, which isn't given up, and where few faults of the store and the sink were counted
    module _ (inputs : HasInputs told own) (few : AreReadFaultsFew options.attempts observed)
        (goes_on : (note : FaultNote) (o : Outcome) → IsOutcomeOfAsked observed own options (IsStoppedBy observed.kits note) o → ⊥) where
      unstarted : (it : Status)
          → (IsDocumentRefused observed own options.attempts it ⊎ AreSourcesRefused observed own options.attempts it ⊎ (it ≡ status.NoMemory)) → IsEndOfClean it
      unstarted it why = inr (began observed of_one told tells options.attempts few.store own inputs it why)

      strictly_completes : (it : Status) → IsPipelineEnd observed own options it outcome → IsEndOfClean it
      strictly_completes status.Ok end = inl refl
      strictly_completes status.SinkFault end = absurd (omega (arith, end.3.2.0, few.out))
      strictly_completes (status.WorkFault note) end = absurd (goes_on note end.1.0 end.1.2)
      strictly_completes (status.NoSource name) end = unstarted (status.NoSource name) end.2
      strictly_completes (status.SourceFault kit) end = unstarted (status.SourceFault kit) end.2
      strictly_completes (status.FileChanged name len other) end = unstarted (status.FileChanged name len other) end.2
      strictly_completes (status.BadPlan refusal) end = unstarted (status.BadPlan refusal) end.2
      strictly_completes status.NoMemory end = unstarted status.NoMemory end.2
      strictly_completes status.Help end = unstarted status.Help end.2
      strictly_completes status.Usage end = unstarted status.Usage end.2
      strictly_completes (status.BadSchedule why) end = unstarted (status.BadSchedule why) end.2
      strictly_completes (status.NotLifted why) end = unstarted (status.NotLifted why) end.2

    module _ (strict : observed.kits.shelf.strict ≡ true) where
      -- what holds of the plan over these files holds of the plan of a book in the surroundings of its run
      takes_here : (Takes : Surroundings → Plan → Options → Type 0) (wanted plan : Plan) (own_options : Options) → plan ≡ wanted → own_options ≡ options
          → Takes (record { told = Some told; strict = true }) wanted options → Takes (surroundings_of observed.kits) plan own_options
      takes_here Takes wanted plan own_options same with_options takes =
          let known : record { told = Some told; strict = true } ≡ surroundings_of observed.kits = λ i. record { told = sym tells i; strict = sym strict i } in
          subst (λ (k : Surroundings). Takes k plan own_options) known
          (subst (λ (p : Plan). Takes (record { told = Some told; strict = true }) p own_options) (sym same)
          (subst (λ (o : Options). Takes (record { told = Some told; strict = true }) wanted o) (sym with_options) takes))

      module _ (wanted : Plan) (is_wanted : IsPlanOf (Some told) own wanted) (note : FaultNote) (o : Outcome)
          (run : IsOutcomeOfAsked observed own options (IsStoppedBy observed.kits note) o) where
        plan_wanted : run.3.book.plan ≡ wanted
        plan_wanted = run.3.of_plan ∙ plan_is observed.kits.store told tells own wanted run.0 is_wanted run.1

        -- where it is given up only by as many reads as a job has attempts, the store counted these
        few_fail : run.3.book.options.attempts ≤ run.3.book.reads → rise observed.kits.store.before observed.kits.store.after < options.attempts → ⊥
        few_fail many few = absurd (omega (arith, many, ap (λ (x : Options). x.attempts) run.3.with_options, run.3.is.reads, few))

        none_fails : 1 ≤ run.3.book.reads → rise observed.kits.store.before observed.kits.store.after ≡ 0 → ⊥
        none_fails some none = absurd (omega (arith, some, run.3.is.reads, none))

  -- it takes no poison
  module _ (by_reads : (known : Surroundings) (told : List FileText) (b : SeenBook) (note : FaultNote) → known.told ≡ Some told → known.strict ≡ true → AreTold told b
      → TakesNoPoison known b.plan b.options → HonestlyReached known b → b.stopped ≡ Some (stop.Spent note) → b.options.attempts ≤ b.reads) where
    clean_ends : (told : List FileText) → observed.kits.store.files ≡ Some told → (own : Asked) (options : Options) → observed.kits.shelf.strict ≡ true → HasCleanInputs told own options
        → AreReadFaultsFew options.attempts observed → IsPipelineEnd observed own options s outcome → IsEndOfClean s
    clean_ends told tells own options strict inputs few end =
        strictly_completes told tells own options (inputs.0, inputs.1, inputs.2) few
        (λ note o run.
        let same = plan_wanted told tells own options strict inputs.0 inputs.1 note o run in
        let takes = takes_here told tells own options strict TakesNoPoison inputs.0 run.3.book.plan run.3.book.options same run.3.with_options inputs.3 in
        few_fail told tells own options strict inputs.0 inputs.1 note o run
        (by_reads (surroundings_of observed.kits) told run.3.book note tells strict (run.3.lengths told tells) takes run.3.reached run.3.is.noted) few.store)
        s end

    -- so it comes to its end where few faults of the store were counted
    pub complete_strict : (asked : Option Asked) → IsEndOf asked observed s outcome
        → WherePipeline asked (λ own options. IsStrict observed.kits.shelf
        → WhereTold observed.kits.store.files (λ told. HasCleanInputs told own options → AreReadFaultsFew options.attempts observed → IsEndOfClean s))
    complete_strict None end = tt
    complete_strict (Some Help) end = tt
    complete_strict (Some (Panes file size options)) end = λ strict told tells inputs few. clean_ends told tells (Panes file size options) options strict inputs few end
    complete_strict (Some (Run name options)) end = λ strict told tells inputs few. clean_ends told tells (Run name options) options strict inputs few end
    complete_strict (Some (Replay name schedule options)) end = tt
    complete_strict (Some (Combine name options)) end = tt
    complete_strict (Some (Make count number)) end = tt
    complete_strict (Some (Drill count number options)) end = λ strict told tells inputs few. clean_ends told tells (Drill count number options) options strict inputs few end

  -- it sets positions aside, and takes no batch and no key job that is poison
  module _ (by_read : (known : Surroundings) (b : SeenBook) → known.strict ≡ true → sets_aside b.plan ≡ true → WhereTold known.told (λ told. AreTold told b)
      → TakesNoPoisonBeside known b.plan b.options → HonestlyReached known b → IsStoppedByRead b) where
    aside_ends : (told : List FileText) → observed.kits.store.files ≡ Some told → (own : Asked) (options : Options) → observed.kits.shelf.strict ≡ true → HasInputsAside told own options
        → IsNoReadFault options.attempts observed → IsPipelineEnd observed own options s outcome → IsEndOfClean s
    aside_ends told tells own options strict inputs none end =
        strictly_completes told tells own options (inputs.0, inputs.1, inputs.2) (record { store = omega (arith, none.store, none.out); out = none.out })
        (λ note o run.
        let same = plan_wanted told tells own options strict inputs.0 inputs.1 note o run in
        let takes = takes_here told tells own options strict TakesNoPoisonBeside inputs.0 run.3.book.plan run.3.book.options same run.3.with_options inputs.4 in
        let read = by_read (surroundings_of observed.kits) run.3.book strict (ap sets_aside same ∙ inputs.3) run.3.lengths takes run.3.reached note run.3.is.noted in
        none_fails told tells own options strict inputs.0 inputs.1 note o run read.1 none.store)
        s end

    -- so it comes to its end where no read failed
    pub complete_aside : (asked : Option Asked) → IsEndOf asked observed s outcome
        → WherePipeline asked (λ own options. IsStrict observed.kits.shelf
        → WhereTold observed.kits.store.files (λ told. HasInputsAside told own options → IsNoReadFault options.attempts observed → IsEndOfClean s))
    complete_aside None end = tt
    complete_aside (Some Help) end = tt
    complete_aside (Some (Panes file size options)) end = λ strict told tells inputs none. aside_ends told tells (Panes file size options) options strict inputs none end
    complete_aside (Some (Run name options)) end = λ strict told tells inputs none. aside_ends told tells (Run name options) options strict inputs none end
    complete_aside (Some (Replay name schedule options)) end = tt
    complete_aside (Some (Combine name options)) end = tt
    complete_aside (Some (Make count number)) end = tt
    complete_aside (Some (Drill count number options)) end = λ strict told tells inputs none. aside_ends told tells (Drill count number options) options strict inputs none end

  -- no position is poison, nor a batch or a key job that it takes
  module _ (by_reads : (known : Surroundings) (told : List FileText) (b : SeenBook) (note : FaultNote) → known.told ≡ Some told → known.strict ≡ true → AreTold told b
      → HasNoPoisonPosition told b.plan → TakesNoPoisonBeside known b.plan b.options → HonestlyReached known b → b.stopped ≡ Some (stop.Spent note) → b.options.attempts ≤ b.reads) where
    positions_end : (told : List FileText) → observed.kits.store.files ≡ Some told → (own : Asked) (options : Options) → observed.kits.shelf.strict ≡ true → HasCleanPositions told own options
        → AreReadFaultsFew options.attempts observed → IsPipelineEnd observed own options s outcome → IsEndOfClean s
    positions_end told tells own options strict inputs few end =
        strictly_completes told tells own options (inputs.0, inputs.1, inputs.2) few
        (λ note o run.
        let same = plan_wanted told tells own options strict inputs.0 inputs.1 note o run in
        let takes = takes_here told tells own options strict TakesNoPoisonBeside inputs.0 run.3.book.plan run.3.book.options same run.3.with_options inputs.4 in
        few_fail told tells own options strict inputs.0 inputs.1 note o run
        (by_reads (surroundings_of observed.kits) told run.3.book note tells strict (run.3.lengths told tells) (subst (HasNoPoisonPosition told) (sym same) inputs.3) takes run.3.reached
        run.3.is.noted) few.store)
        s end

    -- so it comes to its end where few faults of the store were counted
    pub complete_positions : (asked : Option Asked) → IsEndOf asked observed s outcome
        → WherePipeline asked (λ own options. IsStrict observed.kits.shelf
        → WhereTold observed.kits.store.files (λ told. HasCleanPositions told own options → AreReadFaultsFew options.attempts observed → IsEndOfClean s))
    complete_positions None end = tt
    complete_positions (Some Help) end = tt
    complete_positions (Some (Panes file size options)) end = λ strict told tells inputs few. positions_end told tells (Panes file size options) options strict inputs few end
    complete_positions (Some (Run name options)) end = λ strict told tells inputs few. positions_end told tells (Run name options) options strict inputs few end
    complete_positions (Some (Replay name schedule options)) end = tt
    complete_positions (Some (Combine name options)) end = tt
    complete_positions (Some (Make count number)) end = tt
    complete_positions (Some (Drill count number options)) end = λ strict told tells inputs few. positions_end told tells (Drill count number options) options strict inputs few end
