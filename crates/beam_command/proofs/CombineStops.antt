-- What was combined of a plan, or why it wasn't, seen from the call that opened its files and from the one that read its document.
use Rattle.std.proofs.Common.{◌≡◌, inl, inr, ℕ, ◌<◌, ◌≤◌, List, [], ◌∷◌, length, map, get_or, set, slice_get, Option, Some, Result, Ok, Err, refl, subst, arith}
use Rattle.std.specs.List.{AllByRecursion}
use Rattle.beam_values.specs.declared.arrival.Arrival.{Arrival}
use Rattle.beam_values.specs.declared.fault.FaultNote.{FaultNote}
use Rattle.beam_values.specs.declared.file_text.FileText.{FileText}
use Rattle.beam_values.specs.declared.options.Options.{Options}
use Rattle.beam_values.specs.declared.plan.FnKind.{FnKind}
use Rattle.beam_values.specs.declared.plan.Plan.{Plan}
use Rattle.beam_ports.specs.Counts.{rise}
use Rattle.beam_ports.specs.Observed.{ObservedStore, observed_store}
use Rattle.beam_ports.specs.declared.store.Store.{Ghosts as StoreGhosts}
use Rattle.beam_ports.proofs.Rises.{rise_grows}
use Rattle.book_core.specs.Runs.{AreOptions}
use Rattle.bundle_work.specs.Kits.{EachBecomes, observed_shelves, observed_stores, sum_rises, told_by}
use Rattle.bundle_work.specs.Reading.{opened_lengths}
use Rattle.bundle_work.specs.declared.kit.Kit.{Kit}
use Rattle.chain_exec.specs.Causes.{ObservedShelf}
use Rattle.dofn_traits.specs.declared.shelf.Shelf.{Ghosts as ShelfGhosts}
use Rattle.combine_lift.specs.declared.refusal.LiftRefusal.TheVariants as lift
use Rattle.combine_plan.specs.Combined.{AreOpenedAlike, IsCombineEnd as IsPlanCombined, IsGivenUp, IsLiftedEnd, IsLiftedRefused}
use Rattle.combine_plan.specs.declared.refusal.CombineRefusal.{CombineRefusal}
use Rattle.combine_plan.specs.declared.refusal.CombineRefusal.TheVariants.{Lift, Fault, NoMemory}
use Rattle.run_engine.specs.Kits.{ObservedKits, OpensKit, observed_each, observed_kits}
use Rattle.run_engine.specs.Openings.{AreOpenedByAll, IsOpeningRefused}
use Rattle.run_engine.specs.PlanRun.{lengths_of_first, surroundings_of}
use Rattle.run_engine.proofs.SameLengths.{all_same}
use Rattle.command_ends.specs.PlanFiles.{IsPlanRefused}
use Rattle.command_ends.specs.Writing.{IsTextEnd}
use Rattle.command_ends.specs.declared.status.Status.{Status}
use Rattle.command_ends.specs.declared.status.Status.TheVariants as status
use Rattle.beam_command.specs.Asking.{IsPlanRead}
use Rattle.beam_command.specs.CombineEnds.{AreCombinedOf, IsCombineEnd, IsCombineStopped, IsCombinedOf, IsCombinedText, IsUncombined, IsWorkRefused, status_of}
use Rattle.beam_command.specs.Observing.{Observed, AreFound, IsUnwritten}
use Rattle.beam_command.proofs.Asked.{refused_since}
use Rattle.beam_command.proofs.Graphs.{counted_since}
use Rattle.beam_command.proofs.Stores.{opened_are_there, rise_since, rises_since, shelves_since, told_since}

-- what a call gave that combines a plan, seen by these kits
abbrev pub IsResultOf : ObservedKits → Plan → ℕ → ℕ → Result (List Arrival) CombineRefusal → Type 0
IsResultOf kits plan attempts failed (Ok arrivals) = AreCombinedOf kits plan arrivals
IsResultOf kits plan attempts failed (Err refusal) = IsUncombined kits plan attempts failed (status_of refusal)

-- ---- the store counted at least as much in the whole call

module _ (shelf : ObservedShelf) (files : Option (List FileText)) (less more : ℕ) (stores since : List ObservedStore) (grows : less ≤ more) where
  abbrev in_run : ObservedKits
  in_run = record { shelf = shelf; store = record { files = files; before = 0; after = less }; stores = stores }

  abbrev in_call : ObservedKits
  in_call = record { shelf = shelf; store = record { files = files; before = 0; after = more }; stores = since }

  rises : rise 0 less ≤ rise 0 more
  rises = rise_grows 0 less more grows

  given_up_since : (plan : Plan) (attempts group function : ℕ) (work : FnKind) (note : FaultNote)
      → IsGivenUp (surroundings_of in_run) shelf in_run.store plan attempts group function work note → IsGivenUp (surroundings_of in_call) shelf in_call.store plan attempts group function work note
  given_up_since plan attempts group function work note up = record {
    attempt = up.attempt;
    calls = up.calls;
    reads = up.reads;
    all = up.all;
    calls_counted = up.calls_counted;
    reads_counted = omega (arith, up.reads_counted, rises);
    cause = counted_since shelf files less more stores since grows note.cause up.cause;
    place = up.place;
    poison = up.poison;
    at = up.at;
    read = up.read;
  }

  cause_since : (plan : Plan) (attempts group function : ℕ) (work : FnKind) (why : CombineRefusal)
      → IsLiftedRefused (surroundings_of in_run) shelf in_run.store plan attempts group function work why
      → IsLiftedRefused (surroundings_of in_call) shelf in_call.store plan attempts group function work why
  cause_since plan attempts group function work (Lift lift.Shape) is = is
  cause_since plan attempts group function work (Lift lift.Part) is = is
  cause_since plan attempts group function work (Lift lift.Sum) is = is
  cause_since plan attempts group function work (Lift lift.Many) is = is
  cause_since plan attempts group function work (Fault note) is = given_up_since plan attempts group function work note is
  cause_since plan attempts group function work NoMemory is = is

  work_since : (plan : Plan) (attempts : ℕ) (why : CombineRefusal) → IsWorkRefused in_run plan attempts why → IsWorkRefused in_call plan attempts why
  work_since plan attempts why is = record {
    liftable = is.liftable;
    found = is.found;
    group = is.group;
    function = is.function;
    work = is.work;
    has = is.has;
    cause = cause_since plan attempts is.group is.function is.work why is.cause;
  }

  pub text_since : (plan : Plan) (text : List ℕ) → IsCombinedOf in_run plan text → IsCombinedOf in_call plan text
  text_since plan text is = record {
    liftable = is.liftable;
    found = is.found;
    group = is.group;
    function = is.function;
    work = is.work;
    has = is.has;
    written = is.written;
    plain = is.plain;
    is = is.is;
  }

  -- what was not combined in the run wasn't in the call
  pub uncombined_since : (plan : Plan) (attempts failed : ℕ) → ((s : Status) → IsOpeningRefused stores plan attempts failed s → IsOpeningRefused since plan attempts 0 s) → (s : Status)
      → IsUncombined in_run plan attempts failed s → IsUncombined in_call plan attempts 0 s
  uncombined_since plan attempts failed refused (status.NotLifted lift.Shape) is = is
  uncombined_since plan attempts failed refused (status.NotLifted lift.Part) is = work_since plan attempts (Lift lift.Part) is
  uncombined_since plan attempts failed refused (status.NotLifted lift.Sum) is = work_since plan attempts (Lift lift.Sum) is
  uncombined_since plan attempts failed refused (status.NotLifted lift.Many) is = work_since plan attempts (Lift lift.Many) is
  uncombined_since plan attempts failed refused (status.WorkFault note) is = work_since plan attempts (Fault note) is
  uncombined_since plan attempts failed refused status.NoMemory is = tt
  uncombined_since plan attempts failed refused status.Ok is = (is.0, refused status.Ok is.1)
  uncombined_since plan attempts failed refused status.Help is = (is.0, refused status.Help is.1)
  uncombined_since plan attempts failed refused status.Usage is = (is.0, refused status.Usage is.1)
  uncombined_since plan attempts failed refused status.SinkFault is = (is.0, refused status.SinkFault is.1)
  uncombined_since plan attempts failed refused (status.BadPlan refusal) is = (is.0, refused (status.BadPlan refusal) is.1)
  uncombined_since plan attempts failed refused (status.NoSource absent) is = (is.0, refused (status.NoSource absent) is.1)
  uncombined_since plan attempts failed refused (status.SourceFault kit) is = (is.0, refused (status.SourceFault kit) is.1)
  uncombined_since plan attempts failed refused (status.FileChanged changed len other) is = (is.0, refused (status.FileChanged changed len other) is.1)
  uncombined_since plan attempts failed refused (status.BadSchedule why) is = (is.0, refused (status.BadSchedule why) is.1)

  module _ (plan : Plan) (attempts failed : ℕ) (found : AreFound files plan) where
    ended : (result : Result (List Arrival) CombineRefusal) → IsLiftedEnd (surroundings_of in_run) shelf in_run.store plan attempts result → (why : CombineRefusal) → result ≡ Err why
        → IsWorkRefused in_call plan attempts why
    ended (Ok arrivals) end why is = absurd (cc)
    ended (Err refusal) end why is =
        let same : refusal ≡ why = cc in
        subst (IsWorkRefused in_call plan attempts) same (record {
          liftable = end.liftable;
          found = found;
          group = end.group;
          function = end.function;
          work = end.work;
          has = end.has;
          cause = cause_since plan attempts end.group end.function end.work refusal end.refused;
        })

    -- the end of a call that combines, seen from the whole
    result_since : (result : Result (List Arrival) CombineRefusal) → IsPlanCombined (surroundings_of in_run) shelf in_run.store plan attempts result
        → IsResultOf in_call plan attempts failed result
    result_since (Ok arrivals) end = record {
      liftable = end.liftable;
      found = found;
      group = end.group;
      function = end.function;
      work = end.work;
      has = end.has;
      plain = end.combined;
    }
    result_since (Err (Lift lift.Shape)) end = end
    result_since (Err (Lift lift.Part)) end = ended (Err (Lift lift.Part)) end (Lift lift.Part) refl
    result_since (Err (Lift lift.Sum)) end = ended (Err (Lift lift.Sum)) end (Lift lift.Sum) refl
    result_since (Err (Lift lift.Many)) end = ended (Err (Lift lift.Many)) end (Lift lift.Many) refl
    result_since (Err (Fault note)) end = ended (Err (Fault note)) end (Fault note) refl
    result_since (Err NoMemory) end = tt

-- ---- kits that have opened the files of a plan

module _ {F S : Type 0} (f : ShelfGhosts F) (s : StoreGhosts S) where
  -- all of them met the lengths of the first
  pub opened_alike : (plan : Plan) (kits : List (Kit F S)) → AreOpenedByAll s.files s.opened plan kits → AreOpenedAlike s.files s.opened plan kits
  opened_alike plan kits are = record {
    each = are.each;
    lengths = λ first is. by kits first is (all_same s.files s.opened plan kits are);
  }
    where
      by : (kits : List (Kit F S)) (first : Kit F S) → slice_get kits 0 ≡ Some first → AllByRecursion (λ kit. opened_lengths plan kit.files ≡ lengths_of_first plan kits) kits
          → AllByRecursion (λ kit. opened_lengths plan kit.files ≡ opened_lengths plan first.files) kits
      by [] first is all = absurd (cc)
      by (kit ∷ others) first is all =
          let same : kit ≡ first = cc in
          subst (λ (k : Kit F S). AllByRecursion (λ own. opened_lengths plan own.files ≡ opened_lengths plan k.files) (kit ∷ others)) same all

  -- what kits gave after they opened the files, seen from the call that opened them
  pub result_opened : (olds mids news : List (Kit F S)) (plan : Plan) (attempts failed : ℕ) (result : Result (List Arrival) CombineRefusal) → 0 < length olds → EachBecomes olds mids (OpensKit s)
      → AreOpenedByAll s.files s.opened plan mids
      → IsPlanCombined (surroundings_of (observed_kits f s mids news)) (observed_shelves f.strict f.faults mids news) (observed_stores s.files s.faults mids news) plan attempts result
      → IsResultOf (observed_kits f s olds news) plan attempts failed result
  result_opened olds mids news plan attempts failed result some stay are end =
      let less = sum_rises (λ (kit : Kit F S). s.faults kit.store) mids news in
      let more = sum_rises (λ (kit : Kit F S). s.faults kit.store) olds news in
      let own = subst (λ (seen : ObservedShelf × Option (List FileText)).
      IsPlanCombined (record { told = seen.1; strict = seen.0.strict }) seen.0 (record { files = seen.1; before = 0; after = less }) plan attempts result)
      (λ i. (shelves_since f s olds mids news stay i, told_since f s olds mids stay i)) end in
      result_since (observed_shelves f.strict f.faults olds news) (told_by (map (λ (kit : Kit F S). s.files kit.store) olds)) less more
      (observed_each s.files s.faults mids news) (observed_each s.files s.faults olds news) (rises_since f s olds mids news stay) plan attempts failed
      (opened_are_there f s olds mids plan some stay are) result own

  -- ---- the plan's document was read by the first

  module _ (name : List ℕ) (store : S) (some : Kit F S) where
    abbrev after : List (Kit F S) → List (Kit F S)
    after kits = set kits 0 (record { shelf = (get_or kits 0 some).shelf; store = store; files = (get_or kits 0 some).files })

    abbrev first_store : List (Kit F S) → S
    first_store kits = (get_or kits 0 some).store

    -- it was refused, and the other kits did nothing
    pub document_stopped : (kits : List (Kit F S)) → 0 < length kits → (attempts : ℕ) (why : Status) → IsPlanRefused (observed_store s.files s.faults (first_store kits) store) name attempts why
        → IsCombineStopped (observed_kits f s kits (after kits)) name attempts why
    document_stopped [] there attempts why refused = absurd (omega arith)
    document_stopped (first ∷ others) there attempts why refused = by why refused
      where
        at : ObservedStore
        at = observed_store s.files s.faults first.store store

        by : (why : Status) → IsPlanRefused at name attempts why → IsCombineStopped (observed_kits f s (first ∷ others) (after (first ∷ others))) name attempts why
        by status.NoMemory refused = tt
        by (status.NoSource absent) refused = inl (at, refl, refused)
        by (status.SourceFault kit) refused = inl (at, refl, refused)
        by (status.BadPlan refusal) refused = inl (at, refl, refused)
        by status.Ok refused = absurd refused
        by status.Help refused = absurd refused
        by status.Usage refused = absurd refused
        by status.SinkFault refused = absurd refused
        by (status.WorkFault note) refused = absurd refused
        by (status.FileChanged changed len other) refused = absurd refused
        by (status.BadSchedule refusal) refused = absurd refused
        by (status.NotLifted refusal) refused = absurd refused

    module _ (plan : Plan) (failed : ℕ) (options : Options) (allowed : AreOptions options) where
      module _ (first new : Kit F S) (others news : List (Kit F S)) (same : s.files store ≡ s.files first.store) (earlier : s.faults first.store ≤ s.faults store)
          (counted : failed ≤ rise (s.faults first.store) (s.faults store)) (of : IsPlanRead (s.files first.store) name plan) (later : s.faults store ≤ s.faults new.store) where
        abbrev shelf : ObservedShelf
        shelf = observed_shelves f.strict f.faults (first ∷ others) (new ∷ news)

        abbrev tellings : List (Option (List FileText))
        tellings = map (λ (k : Kit F S). s.files k.store) others

        abbrev less : ℕ
        less = sum_rises (λ (k : Kit F S). s.faults k.store) (after (first ∷ others)) (new ∷ news)

        abbrev more : ℕ
        more = sum_rises (λ (k : Kit F S). s.faults k.store) (first ∷ others) (new ∷ news)

        abbrev rest : List ObservedStore
        rest = observed_each s.files s.faults others news

        abbrev one : Option (List FileText) → ℕ → ObservedStore
        one files start = record { files = files; before = start; after = s.faults new.store }

        abbrev seen_by : Option (List FileText) → ObservedKits
        seen_by files = record { shelf = shelf; store = record { files = told_by (files ∷ tellings); before = 0; after = less }; stores = one files (s.faults store) ∷ rest }

        grows : less ≤ more
        grows = omega (arith, rise_since (s.faults first.store) (s.faults store) (s.faults new.store) earlier)

        text_of_one : (text : List ℕ) → IsCombinedOf (observed_kits f s (after (first ∷ others)) (new ∷ news)) plan text
            → IsCombinedText (observed_kits f s (first ∷ others) (new ∷ news)) name text
        text_of_one text is = (
          one (s.files first.store) (s.faults first.store),
          plan,
          refl,
          of,
          text_since shelf (told_by (s.files first.store ∷ tellings)) less more (one (s.files first.store) (s.faults store) ∷ rest) (one (s.files first.store) (s.faults first.store) ∷ rest) grows plan text
              (subst (λ (files : Option (List FileText)). IsCombinedOf (seen_by files) plan text) same is),
        )

        stopped_of_one : (why : Status) → IsUncombined (observed_kits f s (after (first ∷ others)) (new ∷ news)) plan options.attempts failed why
            → IsCombineStopped (observed_kits f s (first ∷ others) (new ∷ news)) name options.attempts why
        stopped_of_one why is = by why (
          one (s.files first.store) (s.faults first.store),
          plan,
          refl,
          of,
          uncombined_since shelf (told_by (s.files first.store ∷ tellings)) less more (one (s.files first.store) (s.faults store) ∷ rest) (one (s.files first.store) (s.faults first.store) ∷ rest) grows
              plan options.attempts failed
              (refused_since (s.files first.store) (s.faults first.store) (s.faults store) (s.faults new.store) rest plan options failed allowed earlier later counted)
              why (subst (λ (files : Option (List FileText)). IsUncombined (seen_by files) plan options.attempts failed why) same is),
        )
          where
            kits_seen : ObservedKits
            kits_seen = observed_kits f s (first ∷ others) (new ∷ news)

            by : (why : Status) → ((at : ObservedStore) × (own : Plan) × (slice_get kits_seen.stores 0 ≡ Some at) × IsPlanRead at.files name own
                × IsUncombined kits_seen own options.attempts 0 why) → IsCombineStopped kits_seen name options.attempts why
            by status.NoMemory is = tt
            by (status.NoSource absent) is = inr is
            by (status.SourceFault kit) is = inr is
            by (status.BadPlan refusal) is = inr is
            by status.Ok is = inr is
            by status.Help is = inr is
            by status.Usage is = inr is
            by status.SinkFault is = inr is
            by (status.WorkFault note) is = inr is
            by (status.FileChanged changed len other) is = inr is
            by (status.BadSchedule refusal) is = inr is
            by (status.NotLifted refusal) is = inr is

      abbrev Counts : Kit F S → Kit F S → Type 0
      Counts old new = s.faults old.store ≤ s.faults new.store

      pub text_read : (kits news : List (Kit F S)) → 0 < length kits → s.files store ≡ s.files (first_store kits) → s.faults (first_store kits) ≤ s.faults store
          → failed ≤ rise (s.faults (first_store kits)) (s.faults store) → IsPlanRead (s.files (first_store kits)) name plan → EachBecomes (after kits) news Counts
          → (text : List ℕ) → IsCombinedOf (observed_kits f s (after kits) news) plan text → IsCombinedText (observed_kits f s kits news) name text
      text_read [] news there same earlier counted of each text is = absurd (omega arith)
      text_read (first ∷ others) [] there same earlier counted of each text is = absurd each
      text_read (first ∷ others) (new ∷ news) there same earlier counted of each text is = text_of_one first new others news same earlier counted of each.0 text is

      pub stopped_read : (kits news : List (Kit F S)) → 0 < length kits → s.files store ≡ s.files (first_store kits) → s.faults (first_store kits) ≤ s.faults store
          → failed ≤ rise (s.faults (first_store kits)) (s.faults store) → IsPlanRead (s.files (first_store kits)) name plan → EachBecomes (after kits) news Counts
          → (why : Status) → IsUncombined (observed_kits f s (after kits) news) plan options.attempts failed why → IsCombineStopped (observed_kits f s kits news) name options.attempts why
      stopped_read [] news there same earlier counted of each why is = absurd (omega arith)
      stopped_read (first ∷ others) [] there same earlier counted of each why is = absurd each
      stopped_read (first ∷ others) (new ∷ news) there same earlier counted of each why is = stopped_of_one first new others news same earlier counted of each.0 why is

-- ---- the end

module _ (observed : Observed) (name : List ℕ) (options : Options) where
  pub written_end : (text : List ℕ) → IsCombinedText observed.kits name text → (s : Status) → IsTextEnd observed.out options.attempts text s → IsCombineEnd observed name options s
  written_end text is status.Ok end = (text, is, end)
  written_end text is status.SinkFault end = (text, is, end)
  written_end text is status.NoMemory end = absurd end
  written_end text is status.Help end = absurd end
  written_end text is status.Usage end = absurd end
  written_end text is (status.BadPlan refusal) end = absurd end
  written_end text is (status.NoSource absent) end = absurd end
  written_end text is (status.SourceFault kit) end = absurd end
  written_end text is (status.WorkFault note) end = absurd end
  written_end text is (status.FileChanged name len other) end = absurd end
  written_end text is (status.BadSchedule why) end = absurd end
  written_end text is (status.NotLifted why) end = absurd end

  pub stopped_end : IsUnwritten observed → (s : Status) → IsCombineStopped observed.kits name options.attempts s → IsCombineEnd observed name options s
  stopped_end unwritten status.Ok why = absurd (elim why [ inl refused ↦ refused.2 | inr read ↦ read.4.1 ])
  stopped_end unwritten status.SinkFault why = absurd (elim why [ inl refused ↦ refused.2 | inr read ↦ read.4.1 ])
  stopped_end unwritten status.NoMemory why = (unwritten, why)
  stopped_end unwritten status.Help why = (unwritten, why)
  stopped_end unwritten status.Usage why = (unwritten, why)
  stopped_end unwritten (status.BadPlan refusal) why = (unwritten, why)
  stopped_end unwritten (status.NoSource absent) why = (unwritten, why)
  stopped_end unwritten (status.SourceFault kit) why = (unwritten, why)
  stopped_end unwritten (status.WorkFault note) why = (unwritten, why)
  stopped_end unwritten (status.FileChanged name len other) why = (unwritten, why)
  stopped_end unwritten (status.BadSchedule refusal) why = (unwritten, why)
  stopped_end unwritten (status.NotLifted refusal) why = (unwritten, why)
