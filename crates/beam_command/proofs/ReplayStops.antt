-- Why a replay was refused, and how it ends: by what its files and its one kit were observed to do.
use Rattle.std.proofs.Common.{◌≡◌, inl, inr, ℕ, ◌≤◌, List, [], ◌∷◌, length, get_or, set, Option, Some, slice_get, refl, subst, ◌∙◌, arith}
use Rattle.beam_values.specs.declared.file_text.FileText.{FileText}
use Rattle.beam_values.specs.declared.options.Options.{Options}
use Rattle.beam_values.specs.declared.plan.Plan.{Plan}
use Rattle.beam_ports.specs.Counts.{rise}
use Rattle.beam_ports.specs.Observed.{ObservedStore, observed_store}
use Rattle.beam_ports.specs.declared.store.Store.{Ghosts as StoreGhosts}
use Rattle.beam_text.specs.declared.refusal.ScheduleRefusal.{ScheduleRefusal}
use Rattle.beam_text.specs.declared.refusal.ScheduleRefusal.TheVariants as refusal
use Rattle.book_core.specs.Runs.{AreOptions}
use Rattle.bundle_work.specs.Kits.{EachBecomes}
use Rattle.bundle_work.specs.declared.kit.Kit.{Kit}
use Rattle.dofn_traits.specs.declared.shelf.Shelf.{Ghosts as ShelfGhosts}
use Rattle.run_engine.specs.Kits.{ObservedKits, observed_kits}
use Rattle.run_engine.specs.Openings.{IsOpeningRefused}
use Rattle.command_ends.specs.Writing.{IsTextEnd}
use Rattle.command_ends.specs.declared.status.Status.{Status}
use Rattle.command_ends.specs.declared.status.Status.TheVariants as status
use Rattle.beam_command.specs.Asking.{IsPlanRead}
use Rattle.beam_command.specs.Kits.{HasNotBegun}
use Rattle.beam_command.specs.Observing.{Observed, IsUnwritten}
use Rattle.beam_command.specs.ReplayEnds.{AreReplaySourcesRefused, IsLineBad, IsReplayEnd, IsReplayStopped, IsReplayText, IsReplayUnbegun, IsScheduleRead}
use Rattle.beam_command.specs.Replaying.{AreFilesRefused, IsGraphReplayed, IsGraphStopped, IsKitRefused, IsKitReplayed, IsKitStopped}
use Rattle.beam_command.proofs.Asked.{refused_since}
use Rattle.beam_command.proofs.ReplayKits.{line_seen, refused_since as line_since, replayed_since, text_seen}

-- ---- by what was observed

module _ (kits : ObservedKits) (first : ObservedStore) (is_first : slice_get kits.stores 0 ≡ Some first) (tells : first.files ≡ kits.store.files) (name schedule : List ℕ) (options : Options) where
  unbegun : (s : Status) → AreFilesRefused first name schedule options.attempts s → IsReplayUnbegun kits name schedule options.attempts s
  unbegun s why = elim why [ inl plan ↦ (first, is_first, inl plan) | inr missed ↦ (first, is_first, inr (inl missed)) ]

  -- the plan's document or the schedule was not read
  pub files_stop : (s : Status) → AreFilesRefused first name schedule options.attempts s → IsReplayStopped kits name schedule options s
  files_stop (status.BadSchedule (refusal.Length len)) why = elim why [
    | inl never ↦ absurd never
    | inr missed ↦ record {
      plan = missed.0;
      read = subst (λ (told : Option (List FileText)). IsPlanRead told name missed.0) tells missed.1;
      long = missed.2.0;
      is = λ told is. missed.2.1 told (tells ∙ is);
    }
  ]
  files_stop (status.BadSchedule (refusal.Line number)) why = elim why [ inl never ↦ absurd never | inr missed ↦ absurd missed.2 ]
  files_stop (status.BadSchedule (refusal.NotAllowed number)) why = elim why [ inl never ↦ absurd never | inr missed ↦ absurd missed.2 ]
  files_stop (status.BadPlan refusal) why = unbegun (status.BadPlan refusal) why
  files_stop (status.NoSource absent) why = unbegun (status.NoSource absent) why
  files_stop (status.SourceFault kit) why = unbegun (status.SourceFault kit) why
  files_stop status.NoMemory why = tt
  files_stop status.Ok why = elim why [ inl never ↦ never | inr missed ↦ missed.2 ]
  files_stop status.Help why = elim why [ inl never ↦ never | inr missed ↦ missed.2 ]
  files_stop (status.NotLifted unlifted) why = elim why [ inl never ↦ never | inr missed ↦ missed.2 ]
  files_stop status.Usage why = elim why [ inl never ↦ never | inr missed ↦ missed.2 ]
  files_stop (status.WorkFault note) why = elim why [ inl never ↦ never | inr missed ↦ missed.2 ]
  files_stop status.SinkFault why = elim why [ inl never ↦ never | inr missed ↦ missed.2 ]
  files_stop (status.FileChanged changed len other) why = elim why [ inl never ↦ never | inr missed ↦ missed.2 ]

module _ {F S : Type 0} (f : ShelfGhosts F) (s : StoreGhosts S) where
  -- ---- by one kit, whose store has read the plan and the schedule

  module _ (old new : Kit F S) (store : S) (name schedule : List ℕ) (plan : Plan) (lines : List ℕ) (options : Options) (failed : ℕ) (allowed : AreOptions options)
      (told : s.files store ≡ s.files old.store) (earlier : s.faults old.store ≤ s.faults store) (later : s.faults store ≤ s.faults new.store)
      (counted : failed ≤ rise (s.faults old.store) (s.faults store)) (read : IsPlanRead (s.files old.store) name plan) (lines_read : IsScheduleRead (s.files old.store) schedule lines) where
    abbrev seen : ObservedKits
    seen = observed_kits f s (old ∷ []) (new ∷ [])

    abbrev at : Option (List FileText) → ℕ → ObservedStore
    at files before = record { files = files; before = before; after = s.faults new.store }

    -- the files of the plan were not opened
    opening_since : (why : Status) → IsOpeningRefused (at (s.files store) (s.faults store) ∷ []) plan options.attempts failed why
        → AreReplaySourcesRefused seen.stores (at (s.files old.store) (s.faults old.store)) name schedule options.attempts why
    opening_since why is = record {
      plan = plan;
      read = read;
      text = lines;
      schedule_read = lines_read;
      refused = refused_since (s.files old.store) (s.faults old.store) (s.faults store) (s.faults new.store) [] plan options failed allowed earlier later counted why
          (subst (λ (files : Option (List FileText)). IsOpeningRefused (at files (s.faults store) ∷ []) plan options.attempts failed why) told is);
    }

    sources_stop : (why : Status) → IsOpeningRefused (at (s.files store) (s.faults store) ∷ []) plan options.attempts failed why
        → IsReplayUnbegun seen name schedule options.attempts why
    sources_stop why is = (at (s.files old.store) (s.faults old.store), refl, inr (inr (opening_since why is)))

    abbrev used : Kit F S
    used = record { shelf = old.shelf; store = store; files = old.files }

    line_stop : (why : ScheduleRefusal) → IsKitRefused f s used new plan options lines why → IsLineBad seen name schedule options why
    line_stop why is = line_seen f s old new name schedule plan options lines read lines_read why (line_since f s old used new refl told earlier plan options lines why is)

    pub kit_stop : (why : Status) → IsGraphStopped f s (used ∷ []) (new ∷ []) plan options lines failed why → IsReplayStopped seen name schedule options why
    kit_stop (status.BadSchedule (refusal.Length len)) is = absurd is
    kit_stop (status.BadSchedule (refusal.Line number)) is = line_stop (refusal.Line number) is
    kit_stop (status.BadSchedule (refusal.NotAllowed number)) is = line_stop (refusal.NotAllowed number) is
    kit_stop (status.BadPlan refusal) is = absurd is
    kit_stop (status.NoSource absent) is = sources_stop (status.NoSource absent) is
    kit_stop (status.SourceFault kit) is = sources_stop (status.SourceFault kit) is
    kit_stop status.NoMemory is = tt
    kit_stop status.Ok is = is
    kit_stop status.Help is = is
    kit_stop (status.NotLifted unlifted) is = is
    kit_stop status.Usage is = is
    kit_stop (status.WorkFault note) is = is
    kit_stop status.SinkFault is = is
    kit_stop (status.FileChanged changed len other) is = is

    pub kit_text : (text : List ℕ) → IsKitReplayed f s used new plan options lines text → IsReplayText seen name schedule options text
    kit_text text is = text_seen f s old new name schedule plan options lines read lines_read text (replayed_since f s old used new refl told earlier plan options lines text is)

  -- ---- by a list of one kit

  module _ (store : S) (some : Kit F S) (name schedule : List ℕ) (options : Options) where
    -- the kits, after the store of the first has read files
    abbrev after : List (Kit F S) → List (Kit F S)
    after kits = set kits 0 (record { shelf = (get_or kits 0 some).shelf; store = store; files = (get_or kits 0 some).files })

    abbrev first : List (Kit F S) → S
    first kits = (get_or kits 0 some).store

    pub unread : (kits : List (Kit F S)) → length kits ≡ 1 → (why : Status) → AreFilesRefused (observed_store s.files s.faults (first kits) store) name schedule options.attempts why
        → IsReplayStopped (observed_kits f s kits (after kits)) name schedule options why
    unread [] one why is = absurd (omega arith)
    unread (old ∷ []) one why is =
        files_stop (observed_kits f s (old ∷ []) (after (old ∷ []))) (observed_store s.files s.faults old.store store) refl refl name schedule options why is
    unread (old ∷ other ∷ kits) one why is = absurd (omega arith)

    module _ (plan : Plan) (lines : List ℕ) (failed : ℕ) (allowed : AreOptions options) where
      pub stopped_of : (kits news : List (Kit F S)) → length kits ≡ 1 → s.files store ≡ s.files (first kits) → s.faults (first kits) ≤ s.faults store
          → failed ≤ rise (s.faults (first kits)) (s.faults store) → IsPlanRead (s.files (first kits)) name plan → IsScheduleRead (s.files (first kits)) schedule lines
          → EachBecomes (after kits) news (λ old new. s.faults old.store ≤ s.faults new.store) → (why : Status) → IsGraphStopped f s (after kits) news plan options lines failed why
          → IsReplayStopped (observed_kits f s kits news) name schedule options why
      stopped_of [] news one told earlier counted read lines_read each why is = absurd (omega arith)
      stopped_of (old ∷ []) [] one told earlier counted read lines_read each why is = absurd each
      stopped_of (old ∷ []) (new ∷ []) one told earlier counted read lines_read each why is =
          kit_stop old new store name schedule plan lines options failed allowed told earlier each.0 counted read lines_read why is
      stopped_of (old ∷ []) (new ∷ other ∷ news) one told earlier counted read lines_read each why is = absurd each.1
      stopped_of (old ∷ other ∷ kits) news one told earlier counted read lines_read each why is = absurd (omega arith)

      pub text_of : (kits news : List (Kit F S)) → length kits ≡ 1 → s.files store ≡ s.files (first kits) → s.faults (first kits) ≤ s.faults store
          → failed ≤ rise (s.faults (first kits)) (s.faults store) → IsPlanRead (s.files (first kits)) name plan → IsScheduleRead (s.files (first kits)) schedule lines
          → EachBecomes (after kits) news (λ old new. s.faults old.store ≤ s.faults new.store) → (text : List ℕ) → IsGraphReplayed f s (after kits) news plan options lines text
          → IsReplayText (observed_kits f s kits news) name schedule options text
      text_of [] news one told earlier counted read lines_read each text is = absurd (omega arith)
      text_of (old ∷ []) [] one told earlier counted read lines_read each text is = absurd each
      text_of (old ∷ []) (new ∷ []) one told earlier counted read lines_read each text is =
          kit_text old new store name schedule plan lines options failed allowed told earlier each.0 counted read lines_read text is
      text_of (old ∷ []) (new ∷ other ∷ news) one told earlier counted read lines_read each text is = absurd each.1
      text_of (old ∷ other ∷ kits) news one told earlier counted read lines_read each text is = absurd (omega arith)

-- ---- the end

module _ (observed : Observed) (name schedule : List ℕ) (options : Options) where
  pub written_end : (text : List ℕ) → IsReplayText observed.kits name schedule options text → (s : Status) → IsTextEnd observed.out options.attempts text s
      → IsReplayEnd observed name schedule options s
  written_end text is status.Ok end = (text, is, end)
  written_end text is status.SinkFault end = (text, is, end)
  written_end text is status.NoMemory end = absurd end
  written_end text is status.Help end = absurd end
  written_end text is status.Usage end = absurd end
  written_end text is (status.BadPlan refusal) end = absurd end
  written_end text is (status.NoSource absent) end = absurd end
  written_end text is (status.SourceFault kit) end = absurd end
  written_end text is (status.WorkFault note) end = absurd end
  written_end text is (status.FileChanged changed len other) end = absurd end
  written_end text is (status.BadSchedule why) end = absurd end
  written_end text is (status.NotLifted why) end = absurd end

  pub stopped_end : IsUnwritten observed → (s : Status) → IsReplayStopped observed.kits name schedule options s → IsReplayEnd observed name schedule options s
  stopped_end unwritten status.Ok why = absurd why
  stopped_end unwritten status.SinkFault why = absurd why
  stopped_end unwritten status.NoMemory why = (unwritten, why)
  stopped_end unwritten status.Help why = (unwritten, why)
  stopped_end unwritten status.Usage why = (unwritten, why)
  stopped_end unwritten (status.BadPlan refusal) why = (unwritten, why)
  stopped_end unwritten (status.NoSource absent) why = (unwritten, why)
  stopped_end unwritten (status.SourceFault kit) why = (unwritten, why)
  stopped_end unwritten (status.WorkFault note) why = (unwritten, why)
  stopped_end unwritten (status.FileChanged changed len other) why = (unwritten, why)
  stopped_end unwritten (status.BadSchedule refusal) why = (unwritten, why)
  stopped_end unwritten (status.NotLifted refusal) why = (unwritten, why)

-- ---- whether work began

pub written_begun : (observed : Observed) (attempts : ℕ) (text : List ℕ) (s : Status) → IsTextEnd observed.out attempts text s → HasNotBegun s → ⊥
written_begun observed attempts text status.Ok end none = none
written_begun observed attempts text status.SinkFault end none = none
written_begun observed attempts text status.NoMemory end none = none
written_begun observed attempts text status.Help end none = end
written_begun observed attempts text status.Usage end none = end
written_begun observed attempts text (status.BadPlan refusal) end none = end
written_begun observed attempts text (status.NoSource absent) end none = end
written_begun observed attempts text (status.SourceFault kit) end none = end
written_begun observed attempts text (status.WorkFault note) end none = none
written_begun observed attempts text (status.FileChanged changed len other) end none = end
written_begun observed attempts text (status.BadSchedule why) end none = end
written_begun observed attempts text (status.NotLifted why) end none = end

-- a line that stopped a replay, or want of memory in it
pub kit_begun : {F S : Type 0} (f : ShelfGhosts F) (s : StoreGhosts S) (old new : Kit F S) (plan : Plan) (options : Options) (schedule : List ℕ) (why : Status)
    → IsKitStopped f s old new plan options schedule why → HasNotBegun why → ⊥
kit_begun f s old new plan options schedule (status.BadSchedule (refusal.Length len)) is none = is
kit_begun f s old new plan options schedule (status.BadSchedule (refusal.Line number)) is none = none
kit_begun f s old new plan options schedule (status.BadSchedule (refusal.NotAllowed number)) is none = none
kit_begun f s old new plan options schedule status.NoMemory is none = none
kit_begun f s old new plan options schedule status.Ok is none = is
kit_begun f s old new plan options schedule status.Help is none = is
kit_begun f s old new plan options schedule (status.NotLifted unlifted) is none = is
kit_begun f s old new plan options schedule status.Usage is none = is
kit_begun f s old new plan options schedule (status.BadPlan refusal) is none = is
kit_begun f s old new plan options schedule (status.NoSource absent) is none = is
kit_begun f s old new plan options schedule (status.SourceFault kit) is none = is
kit_begun f s old new plan options schedule (status.WorkFault note) is none = is
kit_begun f s old new plan options schedule status.SinkFault is none = is
kit_begun f s old new plan options schedule (status.FileChanged name len other) is none = is
