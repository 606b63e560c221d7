-- How often the stores failed of kits that a command uses one call after another, and what want of memory leaves.
use Rattle.std.proofs.Common.{◌≡◌, inl, inr, ℕ, zero, suc, ◌-◌, ◌<◌, ◌≤◌, List, [], ◌∷◌, get_or, set, length, refl, sym, ap, subst, ◌∙◌, arith}
use Rattle.std.specs.Prelude.{Option, Some, None, true}
use Rattle.std.proofs.lemmas.Option.{same_Some}
use Rattle.beam_ports.specs.Observed.{ObservedStore}
use Rattle.beam_ports.specs.declared.store.Store.{Ghosts as StoreGhosts}
use Rattle.beam_ports.specs.declared.sink.Sink.{Ghosts as SinkGhosts}
use Rattle.beam_text.specs.declared.refusal.ScheduleRefusal.TheVariants as refusal
use Rattle.beam_values.specs.declared.options.Options.{Options}
use Rattle.beam_values.specs.declared.outcome.Outcome.{Outcome}
use Rattle.beam_values.specs.declared.plan.Plan.{Plan}
use Rattle.command_words.specs.Commands.{Asked, Help, Panes, Run, Replay, Make, Drill, Combine}
use Rattle.dofn_traits.specs.declared.shelf.Shelf.{Ghosts as ShelfGhosts}
use Rattle.bundle_work.specs.Kits.{EachBecomes}
use Rattle.bundle_work.specs.declared.kit.Kit.{Kit}
use Rattle.command_ends.specs.Notes.{IsLongNoted, StaysOrNoMemory}
use Rattle.command_ends.specs.PlanFiles.{IsPlanRefused}
use Rattle.command_ends.specs.Retrying.{RoseBy, TriesSink, TriesStore}
use Rattle.command_ends.specs.ScheduleFiles.{IsScheduleUnread}
use Rattle.command_ends.proofs.Tries.{sink_alike, store_onward, store_same}
use Rattle.run_engine.specs.Kits.{KeepsKit, ObservedKits}
use Rattle.run_engine.specs.Openings.{TriesKits, failed_before}
use Rattle.command_ends.specs.declared.status.Status.{Status}
use Rattle.command_ends.specs.declared.status.Status.TheVariants as status
use Rattle.beam_command.specs.Clauses.{CountsOnward}
use Rattle.beam_command.specs.CombineEnds.{IsCombineStopped}
use Rattle.beam_command.specs.Ends.{IsEndOf}
use Rattle.beam_command.specs.Kits.{HasNotBegun, TriesUnbegun}
use Rattle.beam_command.specs.Observing.{Observed, IsUnwritten}
use Rattle.beam_command.specs.Replaying.{AreFilesRefused, IsKitStopped}
use Rattle.beam_command.proofs.Kept.{become_weaker}

-- none has failed before
all_left : {S : Type 0} (s : StoreGhosts S) (attempts kit : ℕ) (old new : S) (end : Status) → TriesStore s attempts kit old new end → TriesStore s (attempts - 0) kit old new end
all_left s attempts kit old new end told =
    let all : attempts ≡ attempts - 0 = omega arith in
    subst (λ (most : ℕ). TriesStore s most kit old new end) all told

some_left : (attempts kit failed : ℕ) → failed < attempts → 1 ≤ attempts - failed_before failed kit
some_left attempts zero failed few = omega arith
some_left attempts (suc kit) failed few = omega arith

module _ {F S : Type 0} (s : StoreGhosts S) (attempts : ℕ) where
  -- the first kit's store was called before, and failed so often then
  pub first_then : (kits : List (Kit F S)) (d used : Kit F S) (failed : ℕ) (news : List (Kit F S)) (end : Status) → 0 < length kits → failed ≤ attempts
      → (s.counts_exactly ≡ true → RoseBy (s.faults (get_or kits 0 d).store) (s.faults used.store) failed) → TriesKits s attempts failed (set kits 0 used) news end
      → TriesKits s attempts 0 kits news end
  first_then [] d used failed news end some few before told = absurd (omega arith)
  first_then (first ∷ others) d used failed news end some few before told = by
    where
      by : TriesKits s attempts 0 (first ∷ others) news end
      by zero old new was is =
          subst (λ (k : Kit F S). TriesStore s (attempts - 0) 0 k.store new.store end) (same_Some first old was)
          (all_left s attempts 0 first.store new.store end
          (store_onward s attempts failed 0 first.store used.store new.store end few before (told 0 used new refl is)))
      by (suc kit) old new was is = told (suc kit) old new was is

  -- it alone was called
  pub first_alone : 1 ≤ attempts → (kits : List (Kit F S)) (d used : Kit F S) (end : Status) → 0 < length kits → TriesStore s attempts 0 (get_or kits 0 d).store used.store end
      → ((at : ℕ) → end ≡ status.SourceFault at → at ≡ 0) → TriesKits s attempts 0 kits (set kits 0 used) end
  first_alone tries [] d used end some told only = absurd (omega arith)
  first_alone tries (first ∷ others) d used end some told only = by
    where
      by : TriesKits s attempts 0 (first ∷ others) (used ∷ others) end
      by zero old new was is =
          subst (λ (k : Kit F S). TriesStore s (attempts - 0) 0 k.store new.store end) (same_Some first old was)
          (subst (λ (k : Kit F S). TriesStore s (attempts - 0) 0 first.store k.store end) (same_Some used new is) (all_left s attempts 0 first.store used.store end told))
      by (suc kit) old new was is =
          all_left s attempts (suc kit) old.store new.store end
          (store_same s attempts (suc kit) old.store new.store end (ap (λ (k : Kit F S). k.store) (same_Some old new (sym was ∙ is))) tries
          (λ no. let never : suc kit ≡ 0 = only (suc kit) no in omega (arith, never)))

  -- none was called
  pub all_same_tried : (failed : ℕ) → failed < attempts → (kits : List (Kit F S)) (end : Status) → ((at : ℕ) → end ≡ status.SourceFault at → ⊥) → TriesKits s attempts failed kits kits end
  all_same_tried failed few kits end never = λ kit old new was is.
      store_same s (attempts - failed_before failed kit) kit old.store new.store end (ap (λ (k : Kit F S). k.store) (same_Some old new (sym was ∙ is))) (some_left attempts kit failed few) (never kit)

pub plan_only : (store : ObservedStore) (name : List ℕ) (attempts : ℕ) (end : Status) → IsPlanRefused store name attempts end → (at : ℕ) → end ≡ status.SourceFault at → at ≡ 0
plan_only store name attempts end refused at is = (subst (λ (e : Status). IsPlanRefused store name attempts e) is refused).0

pub files_only : (store : ObservedStore) (name schedule : List ℕ) (attempts : ℕ) (end : Status) → AreFilesRefused store name schedule attempts end → (at : ℕ) → end ≡ status.SourceFault at
    → at ≡ 0
files_only store name schedule attempts end refused at is = elim refused [
  | inl plan ↦ plan_only store name attempts end plan at is
  | inr missed ↦ (subst (λ (e : Status). IsScheduleUnread store schedule 0 attempts e) is missed.2).0
]

-- ---- ends that come after work

pub kit_begun : {F S : Type 0} (f : ShelfGhosts F) (s : StoreGhosts S) (old new : Kit F S) (plan : Plan) (options : Options) (schedule : List ℕ) (end : Status)
    → IsKitStopped f s old new plan options schedule end → HasNotBegun end → ⊥
kit_begun f s old new plan options schedule (status.BadSchedule (refusal.Length len)) stopped none = stopped
kit_begun f s old new plan options schedule (status.BadSchedule (refusal.Line line)) stopped none = none
kit_begun f s old new plan options schedule (status.BadSchedule (refusal.NotAllowed line)) stopped none = none
kit_begun f s old new plan options schedule status.NoMemory stopped none = none
kit_begun f s old new plan options schedule _ stopped none = stopped

-- what is combined does not stop for a fault of the sink
pub no_sink_fault : (kits : ObservedKits) (name : List ℕ) (attempts : ℕ) → IsCombineStopped kits name attempts status.SinkFault → ⊥
no_sink_fault kits name attempts stopped = elim stopped [
  | inl document ↦ document.2
  | inr read ↦ read.4.1
]

-- ---- the note of an end

module _ (before after : Status) (stays : StaysOrNoMemory before after) where
  pub tries_before_note : {F S : Type 0} (s : StoreGhosts S) (attempts : ℕ) (olds news : List (Kit F S)) → TriesUnbegun s attempts 0 olds news before → TriesUnbegun s attempts 0 olds news after
  tries_before_note s attempts olds news told = elim stays [
    | inl same ↦ subst (λ (end : Status). TriesUnbegun s attempts 0 olds news end) (sym same) told
    | inr long ↦ (λ none. absurd (subst HasNotBegun long.0 none))
  ]

  pub writes_before_note : {W : Type 0} (w : SinkGhosts W) (attempts : ℕ) (old new : W) → TriesSink w attempts old new before → TriesSink w attempts old new after
  writes_before_note w attempts old new told = elim stays [
    | inl same ↦ subst (λ (end : Status). TriesSink w attempts old new end) (sym same) told
    | inr long ↦
        subst (λ (end : Status). TriesSink w attempts old new end) (sym long.0) (sink_alike w attempts old new before status.NoMemory (λ is. subst IsLongNoted is long.1) (λ is. cc) told)
  ]

-- ---- no memory

-- whatever is asked for, nothing was written then, and nothing is handed out
pub at_no_memory : (asked : Option Asked) (seen : Observed) (outcome : Option Outcome) → IsEndOf asked seen status.NoMemory outcome → IsUnwritten seen × (outcome ≡ None)
at_no_memory None seen outcome end = let never : status.NoMemory ≡ status.Usage = end.0 in absurd cc
at_no_memory (Some Help) seen outcome end = absurd end.0
at_no_memory (Some (Panes file size options)) seen outcome end = (end.0, end.1)
at_no_memory (Some (Run name options)) seen outcome end = (end.0, end.1)
at_no_memory (Some (Replay name schedule options)) seen outcome end = (end.0.0, end.1)
at_no_memory (Some (Combine name options)) seen outcome end = (end.0.0, end.1)
at_no_memory (Some (Make count number)) seen outcome end = (end.0, end.1)
at_no_memory (Some (Drill count number options)) seen outcome end = (end.0, end.1)

-- no count of a kit fell
pub counts_onward : {F S : Type 0} (f : ShelfGhosts F) (s : StoreGhosts S) (olds news : List (Kit F S)) → EachBecomes olds news (KeepsKit f s) → EachBecomes olds news (CountsOnward f s)
counts_onward f s olds news kept = become_weaker (KeepsKit f s) (CountsOnward f s) (λ old new is. (is.counts, is.reading.counts)) olds news kept
