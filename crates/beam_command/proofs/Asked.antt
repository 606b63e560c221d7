-- How a command ends that asks for a pipeline, and what its note leaves of its end.
use Rattle.std.proofs.Common.{◌≡◌, ◌⊎◌, ℕ, zero, suc, ◌+◌, ◌<◌, ◌≤◌, List, [], ◌∷◌, Option, Some, None, length, map, get_or, set, slice_get, inl, inr, refl, sym, ap, subst, ◌∙◌, arith}
use Rattle.beam_values.specs.declared.file_text.FileText.{FileText}
use Rattle.beam_values.specs.declared.options.Options.{Options}
use Rattle.beam_values.specs.declared.outcome.Outcome.{Outcome}
use Rattle.beam_values.specs.declared.plan.Plan.{Plan}
use Rattle.beam_ports.specs.Counts.{rise}
use Rattle.beam_ports.specs.Observed.{ObservedSink, ObservedStore, observed_sink, observed_store}
use Rattle.beam_ports.proofs.Rises.{rises_add}
use Rattle.beam_ports.specs.declared.sink.Sink.{Ghosts as SinkGhosts}
use Rattle.beam_ports.specs.declared.store.Store.{Ghosts as StoreGhosts}
use Rattle.book_core.specs.Runs.{AreOptions}
use Rattle.chain_exec.specs.Causes.{ObservedShelf}
use Rattle.command_words.specs.Commands.{Asked, Help, Panes, Run, Replay, Make, Drill, Combine}
use Rattle.dofn_traits.specs.declared.shelf.Shelf.{Ghosts as ShelfGhosts}
use Rattle.bundle_work.specs.Kits.{EachBecomes, observed_shelves, sum_rises, told_by}
use Rattle.bundle_work.specs.declared.kit.Kit.{Kit}
use Rattle.run_engine.specs.Kits.{observed_each}
use Rattle.run_engine.specs.Openings.{HasFailed, HasLength, IsFirstAbsent, IsOpeningRefused}
use Rattle.run_engine.specs.PlanRun.{IsEndedBy, IsOutcomeWhere, surroundings_of}
use Rattle.command_ends.specs.declared.status.Status.{Status}
use Rattle.command_ends.specs.declared.status.Status.TheVariants as status
use Rattle.beam_command.specs.Asking.{IsPlanOf, report_of}
use Rattle.beam_command.specs.CombineEnds.{IsCombineEnd}
use Rattle.beam_command.specs.Ends.{AreSourcesRefused, IsDocumentRefused, IsEndOf, IsHelpEnd, IsPipelineEnd}
use Rattle.beam_command.specs.Observing.{Observed, IsUnwritten}
use Rattle.beam_command.specs.ReplayEnds.{IsMakeEnd, IsReplayEnd}
use Rattle.command_ends.specs.Notes.{IsLongNoted, StaysOrNoMemory}
use Rattle.command_ends.specs.PlanFiles.{IsPlanRefused}
use Rattle.beam_command.specs.Kits.{observed_at, observed_in_use}
use Rattle.beam_command.specs.Pipelines.{IsGraphEnd}
use Rattle.beam_command.specs.declared.pipeline.Report.TheVariants.{Rendering}
use Rattle.beam_command.proofs.Graphs.{spent_since, stopped_since, through_since}
use Rattle.beam_command.proofs.Stores.{rise_since, tells_first}

-- ---- a pipeline that was asked for

-- why the files were not opened, after the first store had failed that often before
module _ (files : Option (List FileText)) (first before after : ℕ) (others : List ObservedStore) (plan : Plan) (options : Options) (failed : ℕ)
    (allowed : AreOptions options) (earlier : first ≤ before) (later : before ≤ after) (counted : failed ≤ rise first before) where
  abbrev seen : ℕ → List ObservedStore
  seen start = record { files = files; before = start; after = after } ∷ others

  enough : options.attempts ≤ failed + rise before after → options.attempts ≤ rise first after
  enough many = omega (arith, many, counted, rises_add first before after earlier later, allowed.attempts.1)

  -- each store is there, and tells the same
  there : (at : ℕ) (store : ObservedStore) → slice_get (seen before) at ≡ Some store → (own : ObservedStore) × (slice_get (seen first) at ≡ Some own) × (store.files ≡ own.files)
  there zero store is =
      let same : record { files = files; before = before; after = after } ≡ store = cc in
      (record { files = files; before = first; after = after }, refl, ap (λ (s : ObservedStore). s.files) (sym same))
  there (suc at) store is = (store, is, refl)

  failed_since : (kit : ℕ) → HasFailed (seen before) options.attempts failed kit → HasFailed (seen first) options.attempts 0 kit
  failed_since zero has =
      let same : has.store ≡ record { files = files; before = before; after = after } = cc (has.at) in
      let many = enough (subst (λ (s : ObservedStore). options.attempts ≤ failed + rise s.before s.after) same has.counted) in
      record { store = record { files = files; before = first; after = after }; at = refl; counted = omega (arith, many) }
  failed_since (suc kit) has = record { store = has.store; at = has.at; counted = has.counted }

  pub refused_since : (s : Status) → IsOpeningRefused (seen before) plan options.attempts failed s → IsOpeningRefused (seen first) plan options.attempts 0 s
  refused_since (status.NoSource name) refused =
      let own = there refused.kit refused.store refused.at in record {
        kit = refused.kit;
        store = own.0;
        at = own.1;
        before = refused.before;
        after = refused.after;
        names_are = refused.names_are;
        absent = subst (λ (f : Option (List FileText)). IsFirstAbsent f refused.before name) own.2 refused.absent;
      }
  refused_since (status.SourceFault kit) refused = failed_since kit refused
  refused_since (status.FileChanged name len other) refused =
      let one = there 0 refused.first refused.at_first in
      record {
        first = one.0;
        at_first = one.1;
        kit = refused.kit;
        store = refused.store;
        at = refused.at;
        before = refused.before;
        after = refused.after;
        names_are = refused.names_are;
        differ = refused.differ;
        len_at_first = subst (λ (f : Option (List FileText)). HasLength f name len) one.2 refused.len_at_first;
        len_at = refused.len_at;
      }
  refused_since status.NoMemory refused = refused
  refused_since status.Ok refused = absurd refused
  refused_since status.Help refused = absurd refused
  refused_since status.Usage refused = absurd refused
  refused_since (status.BadPlan refusal) refused = absurd refused
  refused_since (status.BadSchedule why) refused = absurd refused
  refused_since (status.NotLifted why) refused = absurd refused
  refused_since (status.WorkFault note) refused = absurd refused
  refused_since status.SinkFault refused = absurd refused

-- a run and the call that began it: all stores counted as much at least in the call, and what was refused in the run was so in the call
module _ (shelf : ObservedShelf) (told : Option (List FileText)) (less more : ℕ) (stores since : List ObservedStore) (out : ObservedSink) (asked : Asked) (options : Options) (plan : Plan)
    (failed : ℕ) (grows : less ≤ more) (refused : (s : Status) → IsOpeningRefused stores plan options.attempts failed s → IsOpeningRefused since plan options.attempts 0 s)
    (of : IsPlanOf told asked plan) (first : ObservedStore) (is_first : slice_get since 0 ≡ Some first) (of_first : IsPlanOf first.files asked plan) where
  abbrev at_run : Observed
  at_run = record { kits = record { shelf = shelf; store = record { files = told; before = 0; after = less }; stores = stores }; out = out }

  abbrev at_call : Observed
  at_call = record { kits = record { shelf = shelf; store = record { files = told; before = 0; after = more }; stores = since }; out = out }

  unbegun : (s : Status) → (IsOpeningRefused stores plan options.attempts failed s ⊎ (s ≡ status.NoMemory))
      → IsDocumentRefused at_call asked options.attempts s ⊎ AreSourcesRefused at_call asked options.attempts s ⊎ (s ≡ status.NoMemory)
  unbegun s why = elim why [ inl is ↦ inr (inl (first, plan, is_first, of_first, refused s is)) | inr none ↦ inr (inr none) ]

  ended : (o : Outcome) → IsOutcomeWhere (surroundings_of at_run.kits) plan options (IsEndedBy at_run.kits) o → IsOutcomeWhere (surroundings_of at_call.kits) plan options (IsEndedBy at_call.kits) o
  ended o run = through_since shelf told less more stores since grows (surroundings_of at_run.kits) plan options o run

  -- the run of its plan is its own
  pub pipeline_end : (s : Status) (outcome : Option Outcome) → IsGraphEnd at_run plan options (report_of asked) failed s outcome → IsPipelineEnd at_call asked options s outcome
  pipeline_end status.Ok outcome end = (end.1.0, end.1.1, (plan, of, end.0, ended end.1.0 end.1.2), end.1.3)
  pipeline_end status.SinkFault outcome end = (end.1.0, end.1.1, (plan, of, end.0, ended end.1.0 end.1.2), end.1.3)
  pipeline_end (status.WorkFault note) outcome end = (
    end.0,
    (end.2.0, end.2.1, (plan, of, end.1, stopped_since shelf told less more stores since grows (surroundings_of at_run.kits) plan options note end.2.0 end.2.2)),
    spent_since shelf told less more stores since grows options.attempts note end.3,
  )
  pipeline_end status.NoMemory outcome end = (end.0, end.1, inr (inr refl))
  pipeline_end (status.NoSource name) outcome end = (end.0, end.1, unbegun (status.NoSource name) end.2)
  pipeline_end (status.SourceFault kit) outcome end = (end.0, end.1, unbegun (status.SourceFault kit) end.2)
  pipeline_end (status.FileChanged name len other) outcome end = (end.0, end.1, unbegun (status.FileChanged name len other) end.2)
  pipeline_end status.Help outcome end = (end.0, end.1, unbegun status.Help end.2)
  pipeline_end status.Usage outcome end = (end.0, end.1, unbegun status.Usage end.2)
  pipeline_end (status.BadPlan refusal) outcome end = (end.0, end.1, unbegun (status.BadPlan refusal) end.2)
  pipeline_end (status.BadSchedule why) outcome end = (end.0, end.1, unbegun (status.BadSchedule why) end.2)
  pipeline_end (status.NotLifted why) outcome end = (end.0, end.1, unbegun (status.NotLifted why) end.2)

-- a plan's document that the first store refused
pub document_end : (observed : Observed) (name : List ℕ) (options : Options) (first : ObservedStore) → slice_get observed.kits.stores 0 ≡ Some first → IsUnwritten observed
    → (s : Status) → IsPlanRefused first name options.attempts s → IsPipelineEnd observed (Run name options) options s None
document_end observed name options first is unwritten (status.NoSource absent) refused = (unwritten, refl, inl (first, is, refused))
document_end observed name options first is unwritten (status.SourceFault kit) refused = (unwritten, refl, inl (first, is, refused))
document_end observed name options first is unwritten (status.BadPlan refusal) refused = (unwritten, refl, inl (first, is, refused))
document_end observed name options first is unwritten status.NoMemory refused = (unwritten, refl, inr (inr refl))
document_end observed name options first is unwritten status.Ok refused = absurd refused
document_end observed name options first is unwritten status.Help refused = absurd refused
document_end observed name options first is unwritten status.Usage refused = absurd refused
document_end observed name options first is unwritten (status.WorkFault note) refused = absurd refused
document_end observed name options first is unwritten status.SinkFault refused = absurd refused
document_end observed name options first is unwritten (status.FileChanged changed len other) refused = absurd refused
document_end observed name options first is unwritten (status.BadSchedule why) refused = absurd refused
document_end observed name options first is unwritten (status.NotLifted why) refused = absurd refused

-- ---- the kits of a pipeline

module _ {F S W : Type 0} (of_shelf : ShelfGhosts F) (of_store : StoreGhosts S) (of_sink : SinkGhosts W) (out_old out_new : W) (options : Options) where
  abbrev observed : List (Kit F S) → List (Kit F S) → Observed
  observed olds news = observed_at of_shelf of_store of_sink olds news out_old out_new

  module _ (name : List ℕ) (store : S) (some : Kit F S) where
    -- the kits, after the store of the first has read the plan's file
    abbrev after : List (Kit F S) → List (Kit F S)
    after kits = set kits 0 (record { shelf = (get_or kits 0 some).shelf; store = store; files = (get_or kits 0 some).files })

    -- the plan's file was refused, and the other kits did nothing
    pub refused_end : (kits : List (Kit F S)) → 0 < length kits → of_sink.taken out_new ≡ of_sink.taken out_old → (s : Status)
        → IsPlanRefused (observed_store of_store.files of_store.faults (get_or kits 0 some).store store) name options.attempts s
        → IsPipelineEnd (observed kits (after kits)) (Run name options) options s None
    refused_end [] there unwritten s refused = absurd (omega arith)
    refused_end (first ∷ others) there unwritten s refused =
        document_end (observed (first ∷ others) (after (first ∷ others))) name options (observed_store of_store.files of_store.faults first.store store) refl unwritten s refused

    module _ (plan : Plan) (failed : ℕ) (allowed : AreOptions options) where
      -- the run of the plan that it read, seen from before
      run_of_file : (first new : Kit F S) (others news : List (Kit F S)) (s : Status) (outcome : Option Outcome) → of_store.files store ≡ of_store.files first.store → of_store.faults first.store ≤ of_store.faults store
          → failed ≤ rise (of_store.faults first.store) (of_store.faults store) → IsPlanOf (of_store.files first.store) (Run name options) plan → of_store.faults store ≤ of_store.faults new.store
          → IsGraphEnd (observed (after (first ∷ others)) (new ∷ news)) plan options Rendering failed s outcome
          → IsPipelineEnd (observed (first ∷ others) (new ∷ news)) (Run name options) options s outcome
      run_of_file first new others news s outcome same earlier counted of later end =
          let shelf = observed_shelves of_shelf.strict of_shelf.faults (first ∷ others) (new ∷ news) in
          let tellings = map (λ (k : Kit F S). of_store.files k.store) others in
          let less = sum_rises (λ (k : Kit F S). of_store.faults k.store) (after (first ∷ others)) (new ∷ news) in
          let more = sum_rises (λ (k : Kit F S). of_store.faults k.store) (first ∷ others) (new ∷ news) in
          let rest = observed_each of_store.files of_store.faults others news in
          let out = observed_sink of_sink.faults of_sink.taken out_old out_new in
          let own : ℕ → List ObservedStore = λ start. record { files = of_store.files first.store; before = start; after = of_store.faults new.store } ∷ rest in
          pipeline_end shelf (told_by (of_store.files first.store ∷ tellings)) less more (own (of_store.faults store)) (own (of_store.faults first.store)) out (Run name options) options plan failed
          (omega (arith, rise_since (of_store.faults first.store) (of_store.faults store) (of_store.faults new.store) earlier))
          (refused_since (of_store.files first.store) (of_store.faults first.store) (of_store.faults store) (of_store.faults new.store) rest plan options failed allowed earlier later counted)
          (λ told tells. of told (tells_first (of_store.files first.store) tellings told tells))
          (record { files = of_store.files first.store; before = of_store.faults first.store; after = of_store.faults new.store }) refl of s outcome
          (subst (λ (f : Option (List FileText)). IsGraphEnd (record {
            kits = record {
              shelf = shelf;
              store = record { files = told_by (f ∷ tellings); before = 0; after = less };
              stores = record { files = f; before = of_store.faults store; after = of_store.faults new.store } ∷ rest;
            };
            out = out;
          }) plan options Rendering failed s outcome) same end)

      pub file_end : (kits news : List (Kit F S)) (s : Status) (outcome : Option Outcome) → 0 < length kits → of_store.files store ≡ of_store.files (get_or kits 0 some).store
          → of_store.faults (get_or kits 0 some).store ≤ of_store.faults store → failed ≤ rise (of_store.faults (get_or kits 0 some).store) (of_store.faults store)
          → IsPlanOf (of_store.files (get_or kits 0 some).store) (Run name options) plan → EachBecomes (after kits) news (λ old new. of_store.faults old.store ≤ of_store.faults new.store)
          → IsGraphEnd (observed (after kits) news) plan options Rendering failed s outcome → IsPipelineEnd (observed kits news) (Run name options) options s outcome
      file_end [] news s outcome there same earlier counted of each end = absurd (omega arith)
      file_end (first ∷ others) [] s outcome there same earlier counted of each end = absurd each
      file_end (first ∷ others) (new ∷ news) s outcome there same earlier counted of each end =
          run_of_file first new others news s outcome same earlier counted of each.0 end

-- the same end, of the same kits
pub end_of_same : {F S W : Type 0} (of_shelf : ShelfGhosts F) (of_store : StoreGhosts S) (of_sink : SinkGhosts W) (out_old out_new : W) (asked : Option Asked)
    (olds own news left : List (Kit F S)) (s : Status) (outcome : Option Outcome) → olds ≡ own → left ≡ news
    → IsEndOf asked (observed_in_use of_shelf of_store of_sink asked olds news out_old out_new) s outcome
    → IsEndOf asked (observed_in_use of_shelf of_store of_sink asked own left out_old out_new) s outcome
end_of_same of_shelf of_store of_sink out_old out_new asked olds own news left s outcome before after end =
    subst (λ (both : List (Kit _ _) × List (Kit _ _)). IsEndOf asked (observed_in_use of_shelf of_store of_sink asked both.0 both.1 out_old out_new) s outcome)
    (λ i. (before i, sym after i)) end

-- ---- the note of an end

pipeline_unnoted : (observed : Observed) (asked : Asked) (options : Options) (s : Status) (outcome : Option Outcome) → IsLongNoted s → IsPipelineEnd observed asked options s outcome
    → IsPipelineEnd observed asked options status.NoMemory None
pipeline_unnoted observed asked options (status.BadPlan refusal) outcome long end = (end.0, refl, inr (inr refl))
pipeline_unnoted observed asked options (status.NoSource name) outcome long end = (end.0, refl, inr (inr refl))
pipeline_unnoted observed asked options (status.SourceFault kit) outcome long end = (end.0, refl, inr (inr refl))
pipeline_unnoted observed asked options (status.WorkFault note) outcome long end = (end.0, refl, inr (inr refl))
pipeline_unnoted observed asked options (status.FileChanged name first other) outcome long end = (end.0, refl, inr (inr refl))
pipeline_unnoted observed asked options (status.BadSchedule why) outcome long end = (end.0, refl, inr (inr refl))
pipeline_unnoted observed asked options (status.NotLifted why) outcome long end = (end.0, refl, inr (inr refl))
pipeline_unnoted observed asked options status.Ok outcome long end = absurd long
pipeline_unnoted observed asked options status.Help outcome long end = absurd long
pipeline_unnoted observed asked options status.Usage outcome long end = absurd long
pipeline_unnoted observed asked options status.SinkFault outcome long end = absurd long
pipeline_unnoted observed asked options status.NoMemory outcome long end = absurd long

help_unnoted : (out : ObservedSink) (s : Status) → IsLongNoted s → IsHelpEnd out s → ⊥
help_unnoted out (status.BadPlan refusal) long end = end
help_unnoted out (status.NoSource name) long end = end
help_unnoted out (status.SourceFault kit) long end = end
help_unnoted out (status.WorkFault note) long end = end
help_unnoted out (status.FileChanged name first other) long end = end
help_unnoted out (status.BadSchedule why) long end = end
help_unnoted out (status.NotLifted why) long end = end
help_unnoted out status.Ok long end = end
help_unnoted out status.Help long end = long
help_unnoted out status.Usage long end = long
help_unnoted out status.SinkFault long end = long
help_unnoted out status.NoMemory long end = long

make_unnoted : (out : ObservedSink) (count number : ℕ) (s : Status) → IsLongNoted s → IsMakeEnd out count number s → ⊥
make_unnoted out count number (status.BadPlan refusal) long end = end
make_unnoted out count number (status.NoSource name) long end = end
make_unnoted out count number (status.SourceFault kit) long end = end
make_unnoted out count number (status.WorkFault note) long end = end
make_unnoted out count number (status.FileChanged name first other) long end = end
make_unnoted out count number (status.BadSchedule why) long end = end
make_unnoted out count number (status.NotLifted why) long end = end
make_unnoted out count number status.Ok long end = long
make_unnoted out count number status.Help long end = long
make_unnoted out count number status.Usage long end = long
make_unnoted out count number status.SinkFault long end = long
make_unnoted out count number status.NoMemory long end = long

replay_unnoted : (observed : Observed) (name schedule : List ℕ) (options : Options) (s : Status) → IsLongNoted s → IsReplayEnd observed name schedule options s
    → IsReplayEnd observed name schedule options status.NoMemory
replay_unnoted observed name schedule options (status.BadPlan refusal) long end = (end.0, tt)
replay_unnoted observed name schedule options (status.NoSource absent) long end = (end.0, tt)
replay_unnoted observed name schedule options (status.SourceFault kit) long end = (end.0, tt)
replay_unnoted observed name schedule options (status.WorkFault note) long end = (end.0, tt)
replay_unnoted observed name schedule options (status.FileChanged changed first other) long end = (end.0, tt)
replay_unnoted observed name schedule options (status.BadSchedule why) long end = (end.0, tt)
replay_unnoted observed name schedule options (status.NotLifted why) long end = (end.0, tt)
replay_unnoted observed name schedule options status.Ok long end = absurd long
replay_unnoted observed name schedule options status.Help long end = absurd long
replay_unnoted observed name schedule options status.Usage long end = absurd long
replay_unnoted observed name schedule options status.SinkFault long end = absurd long
replay_unnoted observed name schedule options status.NoMemory long end = absurd long

combine_unnoted : (observed : Observed) (name : List ℕ) (options : Options) (s : Status) → IsLongNoted s → IsCombineEnd observed name options s
    → IsCombineEnd observed name options status.NoMemory
combine_unnoted observed name options (status.BadPlan refusal) long end = (end.0, tt)
combine_unnoted observed name options (status.NoSource absent) long end = (end.0, tt)
combine_unnoted observed name options (status.SourceFault kit) long end = (end.0, tt)
combine_unnoted observed name options (status.WorkFault note) long end = (end.0, tt)
combine_unnoted observed name options (status.FileChanged changed first other) long end = (end.0, tt)
combine_unnoted observed name options (status.BadSchedule why) long end = (end.0, tt)
combine_unnoted observed name options (status.NotLifted why) long end = (end.0, tt)
combine_unnoted observed name options status.Ok long end = absurd long
combine_unnoted observed name options status.Help long end = absurd long
combine_unnoted observed name options status.Usage long end = absurd long
combine_unnoted observed name options status.SinkFault long end = absurd long
combine_unnoted observed name options status.NoMemory long end = absurd long

unnoted : (asked : Option Asked) (observed : Observed) (s : Status) (outcome : Option Outcome) → IsLongNoted s → IsEndOf asked observed s outcome
    → IsEndOf asked observed status.NoMemory None
unnoted None observed s outcome long end = absurd (subst IsLongNoted end.0 long)
unnoted (Some Help) observed s outcome long end = absurd (help_unnoted observed.out s long end.0)
unnoted (Some (Panes file size options)) observed s outcome long end = pipeline_unnoted observed (Panes file size options) options s outcome long end
unnoted (Some (Run name options)) observed s outcome long end = pipeline_unnoted observed (Run name options) options s outcome long end
unnoted (Some (Replay name schedule options)) observed s outcome long end = (replay_unnoted observed name schedule options s long end.0, refl)
unnoted (Some (Combine name options)) observed s outcome long end = (combine_unnoted observed name options s long end.0, refl)
unnoted (Some (Make count number)) observed s outcome long end = absurd (make_unnoted observed.out count number s long end.0)
unnoted (Some (Drill count number options)) observed s outcome long end = pipeline_unnoted observed (Drill count number options) options s outcome long end

-- where there is no memory there is no outcome
none_without_memory : (asked : Option Asked) (observed : Observed) (outcome : Option Outcome) → IsEndOf asked observed status.NoMemory outcome → outcome ≡ None
none_without_memory None observed outcome end = end.2
none_without_memory (Some Help) observed outcome end = end.1
none_without_memory (Some (Panes file size options)) observed outcome end = end.1
none_without_memory (Some (Run name options)) observed outcome end = end.1
none_without_memory (Some (Replay name schedule options)) observed outcome end = end.1
none_without_memory (Some (Combine name options)) observed outcome end = end.1
none_without_memory (Some (Make count number)) observed outcome end = end.1
none_without_memory (Some (Drill count number options)) observed outcome end = end.1

same_outcome : (asked : Option Asked) (observed : Observed) (s : Status) (outcome left : Option Outcome) → IsEndOf asked observed s outcome
    → (s ≡ status.NoMemory → left ≡ None) → ((s ≡ status.NoMemory → ⊥) → left ≡ outcome) → left ≡ outcome
same_outcome asked observed status.NoMemory outcome left end none stays = none refl ∙ sym (none_without_memory asked observed outcome end)
same_outcome asked observed status.Ok outcome left end none stays = stays (λ is. cc)
same_outcome asked observed status.Help outcome left end none stays = stays (λ is. cc)
same_outcome asked observed status.Usage outcome left end none stays = stays (λ is. cc)
same_outcome asked observed (status.BadPlan refusal) outcome left end none stays = stays (λ is. cc)
same_outcome asked observed (status.NoSource name) outcome left end none stays = stays (λ is. cc)
same_outcome asked observed (status.SourceFault kit) outcome left end none stays = stays (λ is. cc)
same_outcome asked observed (status.WorkFault note) outcome left end none stays = stays (λ is. cc)
same_outcome asked observed (status.FileChanged name first other) outcome left end none stays = stays (λ is. cc)
same_outcome asked observed (status.BadSchedule why) outcome left end none stays = stays (λ is. cc)
same_outcome asked observed (status.NotLifted why) outcome left end none stays = stays (λ is. cc)
same_outcome asked observed status.SinkFault outcome left end none stays = stays (λ is. cc)

-- the end after its note was written
pub noted_end : (asked : Option Asked) (observed : Observed) (before after : Status) (outcome left : Option Outcome) → StaysOrNoMemory before after
    → (after ≡ status.NoMemory → left ≡ None) → ((after ≡ status.NoMemory → ⊥) → left ≡ outcome) → IsEndOf asked observed before outcome → IsEndOf asked observed after left
noted_end asked observed before after outcome left noted none stays end = elim noted [
  | inl same ↦
      let own = subst (λ (s : Status). IsEndOf asked observed s outcome) (sym same) end in
      subst (λ (o : Option Outcome). IsEndOf asked observed after o) (sym (same_outcome asked observed after outcome left own none stays)) own
  | inr long ↦
      subst (λ (s : Status). IsEndOf asked observed s left) (sym long.0)
      (subst (λ (o : Option Outcome). IsEndOf asked observed status.NoMemory o) (sym (none long.0)) (unnoted asked observed before outcome long.1 end))
]
