-- A replay with one kit: what holds of it since an earlier use of its store, and what is observed of a list of that kit alone.
use Rattle.std.proofs.Common.{◌≡◌, ℕ, suc, ◌+◌, ◌<◌, ◌≤◌, Bool, true, false, ◌&&◌, List, [], ◌∷◌, length, get_or, set, Option, Some, None, slice_get, refl, sym, subst, ◌∙◌, arith}
use Rattle.std.proofs.lemmas.Bool.Decides.{nat_tests}
use Rattle.beam_values.specs.declared.file_text.FileText.{FileText}
use Rattle.beam_values.specs.declared.options.Options.{Options}
use Rattle.beam_values.specs.declared.plan.Plan.{Plan}
use Rattle.beam_ports.specs.Counts.{rise}
use Rattle.beam_ports.specs.Observed.{ObservedStore, observed_store}
use Rattle.beam_ports.specs.declared.store.Store.{Ghosts as StoreGhosts}
use Rattle.beam_text.specs.declared.refusal.ScheduleRefusal.{ScheduleRefusal}
use Rattle.beam_text.specs.declared.refusal.ScheduleRefusal.TheVariants as refusal
use Rattle.beam_values.specs.declared.piece.FileLen.{FileLen}
use Rattle.book_core.specs.Work.{Surroundings}
use Rattle.chain_exec.specs.Causes.{ObservedShelf, observed_shelf}
use Rattle.bundle_work.specs.Kits.{EachBecomes}
use Rattle.bundle_work.specs.Openings.{AreOpened, file_names}
use Rattle.bundle_work.specs.declared.kit.Kit.{Kit}
use Rattle.dofn_traits.specs.declared.shelf.Shelf.{Ghosts as ShelfGhosts}
use Rattle.run_engine.specs.Kits.{KeepsKit, ObservedKits, OpensKit, observed_each, observed_kits}
use Rattle.run_engine.specs.Openings.{AreOpenedByAll, IsOpeningRefused}
use Rattle.run_engine.specs.PlanRun.{AreFirstLengths, surroundings_of}
use Rattle.schedule_replay.specs.Replays.{IsReplayRefused, IsReplayed, IsScheduleRefused, known_by}
use Rattle.schedule_replay.specs.Standing.{counts_after, counts_before}
use Rattle.schedule_replay.specs.Works.{Counts}
use Rattle.schedule_replay.specs.declared.schedule.ReplayRefusal.{ReplayRefusal}
use Rattle.schedule_replay.specs.declared.schedule.ReplayRefusal.TheVariants.{Bad}
use Rattle.command_ends.specs.ScheduleFiles.{longest_schedule}
use Rattle.command_ends.specs.declared.status.Status.{Status}
use Rattle.command_ends.specs.declared.status.Status.TheVariants as status
use Rattle.beam_command.specs.Observing.{AreFound}
use Rattle.beam_command.specs.ReplayEnds.{AreCountedIn, IsLineBad, IsReplayText, IsScheduleRead}
use Rattle.beam_command.specs.Replaying.{AreCountedBy, IsGraphReplayed, IsGraphStopped, IsKitRefused, IsKitReplayed, IsKitStopped, IsLineStopped}
use Rattle.beam_command.specs.Asking.{IsPlanRead}
use Rattle.beam_command.proofs.Kept.{keeps_onward, store_used}
use Rattle.beam_command.proofs.Stores.{rise_since}

and_true : (b : Bool) → b ≡ (b && true)
and_true true = refl
and_true false = refl

-- a count that rises is within the rise of a sum of one from nothing
within_one : (first last before after : ℕ) → rise first last ≤ rise before after → rise first last ≤ rise 0 (rise before after + 0)
within_one first last before after within = grind (arith, nat_tests)

module _ {F S : Type 0} (f : ShelfGhosts F) (s : StoreGhosts S) where
  -- ---- with a kit that has opened the files

  module _ (old new : Kit F S) (plan : Plan) (options : Options) (schedule : List ℕ) (files : List FileLen) (lengths : AreFirstLengths (s.files old.store) plan files)
      (found : AreFound (s.files old.store) plan) where
    abbrev shelf : ObservedShelf
    shelf = observed_shelf f.strict f.faults old.shelf new.shelf

    abbrev store : ObservedStore
    store = observed_store s.files s.faults old.store new.store

    counted : AreCountedBy f s old new (counts_before shelf store) (counts_after shelf store)
    counted = record { shelf = omega arith; store = omega arith }

    pub kit_replayed : (text : List ℕ) → IsReplayed (known_by f.strict s.files old) (counts_before shelf store) (counts_after shelf store) plan files options schedule text
        → IsKitReplayed f s old new plan options schedule text
    kit_replayed text is = record {
      files = files;
      lengths = lengths;
      found = found;
      before = counts_before shelf store;
      after = counts_after shelf store;
      counted = counted;
      is = is;
    }

    kit_refused : (why : ScheduleRefusal) → IsScheduleRefused (known_by f.strict s.files old) (counts_before shelf store) (counts_after shelf store) plan files options schedule why
        → IsKitRefused f s old new plan options schedule why
    kit_refused why is = record {
      files = files;
      lengths = lengths;
      found = found;
      before = counts_before shelf store;
      after = counts_after shelf store;
      counted = counted;
      is = is;
    }

    abbrev refuses : ReplayRefusal → Type 0
    refuses why = IsReplayRefused (known_by f.strict s.files old) (counts_before shelf store) (counts_after shelf store) plan files options schedule why

    by_refusal : length schedule ≤ longest_schedule → (why : ScheduleRefusal) → refuses (Bad why) → IsKitStopped f s old new plan options schedule (status.BadSchedule why)
    by_refusal short (refusal.Length len) is = absurd (omega (arith, is.1, short))
    by_refusal short (refusal.Line number) is = kit_refused (refusal.Line number) is
    by_refusal short (refusal.NotAllowed number) is = kit_refused (refusal.NotAllowed number) is

    pub kit_stopped : length schedule ≤ longest_schedule → (answer : ReplayRefusal) (why : ScheduleRefusal) → answer ≡ Bad why → refuses answer
        → IsKitStopped f s old new plan options schedule (status.BadSchedule why)
    kit_stopped short answer why same is = by_refusal short why (subst refuses same is)

  -- ---- since an earlier use of the store

  module _ (old mid new : Kit F S) (shelf : mid.shelf ≡ old.shelf) (told : s.files mid.store ≡ s.files old.store) (counts : s.faults old.store ≤ s.faults mid.store)
      (plan : Plan) (options : Options) (schedule : List ℕ) where
    known_same : known_by f.strict s.files mid ≡ known_by f.strict s.files old
    known_same = λ i. record { told = told i; strict = f.strict (shelf i) }

    counted_since : (before after : Counts) → AreCountedBy f s mid new before after → AreCountedBy f s old new before after
    counted_since before after is = record {
      shelf = subst (λ (own : F). rise before.shelf after.shelf ≤ rise (f.faults own) (f.faults new.shelf)) shelf is.shelf;
      store = omega (arith, is.store, rise_since (s.faults old.store) (s.faults mid.store) (s.faults new.store) counts);
    }

    pub replayed_since : (text : List ℕ) → IsKitReplayed f s mid new plan options schedule text → IsKitReplayed f s old new plan options schedule text
    replayed_since text is = record {
      files = is.files;
      lengths = subst (λ (t : Option (List FileText)). AreFirstLengths t plan is.files) told is.lengths;
      found = subst (λ (t : Option (List FileText)). AreFound t plan) told is.found;
      before = is.before;
      after = is.after;
      counted = counted_since is.before is.after is.counted;
      is = subst (λ (known : Surroundings). IsReplayed known is.before is.after plan is.files options schedule text) known_same is.is;
    }

    pub refused_since : (why : ScheduleRefusal) → IsKitRefused f s mid new plan options schedule why → IsKitRefused f s old new plan options schedule why
    refused_since why is = record {
      files = is.files;
      lengths = subst (λ (t : Option (List FileText)). AreFirstLengths t plan is.files) told is.lengths;
      found = subst (λ (t : Option (List FileText)). AreFound t plan) told is.found;
      before = is.before;
      after = is.after;
      counted = counted_since is.before is.after is.counted;
      is = subst (λ (known : Surroundings). IsScheduleRefused known is.before is.after plan is.files options schedule why) known_same is.is;
    }

  -- ---- what is observed of one kit

  module _ (old new : Kit F S) (name named : List ℕ) (plan : Plan) (options : Options) (schedule : List ℕ)
      (read : IsPlanRead (s.files old.store) name plan) (lines : IsScheduleRead (s.files old.store) named schedule) where
    abbrev seen : ObservedKits
    seen = observed_kits f s (old ∷ []) (new ∷ [])

    known_seen : known_by f.strict s.files old ≡ surroundings_of seen
    known_seen = λ i. record { told = s.files old.store; strict = and_true (f.strict old.shelf) i }

    counted_seen : (before after : Counts) → AreCountedBy f s old new before after → AreCountedIn seen before after
    counted_seen before after is = record {
      shelf = within_one before.shelf after.shelf (f.faults old.shelf) (f.faults new.shelf) is.shelf;
      store = within_one before.store after.store (s.faults old.store) (s.faults new.store) is.store;
    }

    pub text_seen : (text : List ℕ) → IsKitReplayed f s old new plan options schedule text → IsReplayText seen name named options text
    text_seen text is = record {
      inputs = record { plan = plan; files = is.files; schedule = schedule };
      are = record { plan = read; schedule_read = lines; found = is.found; lengths = is.lengths };
      is = (
        is.before,
        is.after,
        counted_seen is.before is.after is.counted,
        subst (λ (known : Surroundings). IsReplayed known is.before is.after plan is.files options schedule text) known_seen is.is,
      );
    }

    pub line_seen : (why : ScheduleRefusal) → IsKitRefused f s old new plan options schedule why → IsLineBad seen name named options why
    line_seen why is = record {
      inputs = record { plan = plan; files = is.files; schedule = schedule };
      are = record { plan = read; schedule_read = lines; found = is.found; lengths = is.lengths };
      refused = (
        is.before,
        is.after,
        counted_seen is.before is.after is.counted,
        subst (λ (known : Surroundings). IsScheduleRefused known is.before is.after plan is.files options schedule why) known_seen is.is,
      );
    }

  -- ---- a list of one kit, whose files were opened before

  pub first_opened : (plan : Plan) (kits : List (Kit F S)) (some : Kit F S) → 0 < length kits → AreOpenedByAll s.files s.opened plan kits
      → AreOpened (s.files (get_or kits 0 some).store) (s.opened (get_or kits 0 some).store) (file_names plan) (get_or kits 0 some).files
  first_opened plan [] some there are = absurd (omega arith)
  first_opened plan (kit ∷ kits) some there are = are.each.0

  -- what is left of the kits
  pub graph_kept : (new some : Kit F S) (kits mids : List (Kit F S)) → length kits ≡ 1 → EachBecomes kits mids (OpensKit s) → KeepsKit f s (get_or mids 0 some) new
      → EachBecomes kits (set mids 0 new) (KeepsKit f s)
  graph_kept new some [] mids one each is = absurd (omega arith)
  graph_kept new some (old ∷ []) [] one each is = absurd each
  graph_kept new some (old ∷ []) (mid ∷ []) one each is =
      (keeps_onward f s old mid new (store_used f s old mid.shelf mid.store mid.files each.0.0 each.0.1) is, tt)
  graph_kept new some (old ∷ []) (mid ∷ other ∷ mids) one each is = absurd each.1
  graph_kept new some (old ∷ other ∷ kits) mids one each is = absurd (omega arith)

  module _ (plan : Plan) (options : Options) (schedule : List ℕ) (new some : Kit F S) where
    pub graph_replayed : (kits mids : List (Kit F S)) → length kits ≡ 1 → EachBecomes kits mids (OpensKit s) → (text : List ℕ)
        → IsKitReplayed f s (get_or mids 0 some) new plan options schedule text → IsGraphReplayed f s kits (set mids 0 new) plan options schedule text
    graph_replayed [] mids one each text is = absurd (omega arith)
    graph_replayed (old ∷ []) [] one each text is = absurd each
    graph_replayed (old ∷ []) (mid ∷ []) one each text is = replayed_since old mid new each.0.0 each.0.1.files each.0.1.counts plan options schedule text is
    graph_replayed (old ∷ []) (mid ∷ other ∷ mids) one each text is = absurd each.1
    graph_replayed (old ∷ other ∷ kits) mids one each text is = absurd (omega arith)

    line_stopped : (kits mids : List (Kit F S)) → length kits ≡ 1 → EachBecomes kits mids (OpensKit s) → (why : ScheduleRefusal)
        → IsKitRefused f s (get_or mids 0 some) new plan options schedule why → IsLineStopped f s kits (set mids 0 new) plan options schedule why
    line_stopped [] mids one each why is = absurd (omega arith)
    line_stopped (old ∷ []) [] one each why is = absurd each
    line_stopped (old ∷ []) (mid ∷ []) one each why is = refused_since old mid new each.0.0 each.0.1.files each.0.1.counts plan options schedule why is
    line_stopped (old ∷ []) (mid ∷ other ∷ mids) one each why is = absurd each.1
    line_stopped (old ∷ other ∷ kits) mids one each why is = absurd (omega arith)

    pub graph_stopped : (kits mids : List (Kit F S)) → length kits ≡ 1 → EachBecomes kits mids (OpensKit s) → (failed : ℕ) (why : Status)
        → IsKitStopped f s (get_or mids 0 some) new plan options schedule why → IsGraphStopped f s kits (set mids 0 new) plan options schedule failed why
    graph_stopped kits mids one each failed (status.BadSchedule (refusal.Length len)) is = absurd is
    graph_stopped kits mids one each failed (status.BadSchedule (refusal.Line number)) is = line_stopped kits mids one each (refusal.Line number) is
    graph_stopped kits mids one each failed (status.BadSchedule (refusal.NotAllowed number)) is = line_stopped kits mids one each (refusal.NotAllowed number) is
    graph_stopped kits mids one each failed status.NoMemory is = tt
    graph_stopped kits mids one each failed status.Ok is = absurd is
    graph_stopped kits mids one each failed status.Help is = absurd is
    graph_stopped kits mids one each failed (status.NotLifted unlifted) is = absurd is
    graph_stopped kits mids one each failed status.Usage is = absurd is
    graph_stopped kits mids one each failed (status.BadPlan refusal) is = absurd is
    graph_stopped kits mids one each failed (status.NoSource name) is = absurd is
    graph_stopped kits mids one each failed (status.SourceFault kit) is = absurd is
    graph_stopped kits mids one each failed (status.WorkFault note) is = absurd is
    graph_stopped kits mids one each failed status.SinkFault is = absurd is
    graph_stopped kits mids one each failed (status.FileChanged name len other) is = absurd is

  -- one kit alone meets no two lengths of a file
  one_store : (kits news : List (Kit F S)) (at : ℕ) → length kits ≡ 1 → slice_get (observed_each s.files s.faults kits news) (suc at) ≡ None
  one_store [] news at one = absurd (omega arith)
  one_store (kit ∷ []) [] at one = refl
  one_store (kit ∷ []) (new ∷ news) at one = refl
  one_store (kit ∷ other ∷ kits) news at one = absurd (omega arith)

  pub opening_stopped : (kits news : List (Kit F S)) → length kits ≡ 1 → (plan : Plan) (options : Options) (schedule : List ℕ) (failed : ℕ) (why : Status)
      → IsOpeningRefused (observed_each s.files s.faults kits news) plan options.attempts failed why → IsGraphStopped f s kits news plan options schedule failed why
  opening_stopped kits news one plan options schedule failed (status.BadSchedule (refusal.Length len)) is = absurd is
  opening_stopped kits news one plan options schedule failed (status.BadSchedule (refusal.Line number)) is = absurd is
  opening_stopped kits news one plan options schedule failed (status.BadSchedule (refusal.NotAllowed number)) is = absurd is
  opening_stopped kits news one plan options schedule failed status.NoMemory is = is
  opening_stopped kits news one plan options schedule failed status.Ok is = is
  opening_stopped kits news one plan options schedule failed status.Help is = is
  opening_stopped kits news one plan options schedule failed (status.NotLifted unlifted) is = is
  opening_stopped kits news one plan options schedule failed status.Usage is = is
  opening_stopped kits news one plan options schedule failed (status.BadPlan refusal) is = is
  opening_stopped kits news one plan options schedule failed (status.NoSource name) is = is
  opening_stopped kits news one plan options schedule failed (status.SourceFault kit) is = is
  opening_stopped kits news one plan options schedule failed (status.WorkFault note) is = is
  opening_stopped kits news one plan options schedule failed status.SinkFault is = is
  opening_stopped kits news one plan options schedule failed (status.FileChanged name len other) is =
      let none : None ≡ Some is.store = sym (one_store kits news is.kit one) ∙ is.at in absurd (cc)
