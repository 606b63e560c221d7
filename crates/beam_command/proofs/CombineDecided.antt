-- Which end comes of a plan that is to be combined.
use Rattle.std.proofs.Common.{◌≡◌, ◌⊎◌, inl, inr, ℕ, ◌<◌, List, Option, Some, None, slice_get, refl, sym, subst, arith}
use Rattle.beam_values.specs.declared.fault.FaultNote.{FaultNote}
use Rattle.beam_values.specs.declared.file_text.FileText.{FileText}
use Rattle.beam_values.specs.declared.options.Options.{Options}
use Rattle.beam_values.specs.declared.outcome.Outcome.{Outcome}
use Rattle.beam_values.specs.declared.plan.FnKind.{FnKind}
use Rattle.beam_values.specs.declared.plan.Plan.{Plan}
use Rattle.beam_model.specs.Positions.{items}
use Rattle.beam_model.specs.Spread.{HasPoison}
use Rattle.beam_ports.specs.Counts.{rise}
use Rattle.beam_ports.specs.Observed.{ObservedStore, WhereTold}
use Rattle.combine_lift.specs.Lifting.{IsLiftable}
use Rattle.combine_lift.specs.declared.refusal.LiftRefusal.TheVariants as lift
use Rattle.combine_laws.specs.Combined.{HasFunction, IsSomePoison, MeetsMany, MeetsPart, MeetsSum}
use Rattle.combine_plan.specs.declared.refusal.CombineRefusal.TheVariants.{Fault, Lift}
use Rattle.command_words.specs.Commands.{Asked, Help, Panes, Run, Replay, Make, Drill, Combine}
use Rattle.run_engine.specs.Openings.{IsOpeningRefused}
use Rattle.command_ends.specs.declared.status.Status.{Status}
use Rattle.command_ends.specs.declared.status.Status.TheVariants as status
use Rattle.beam_command.specs.Asking.{IsPlanRead, WhereCombine}
use Rattle.beam_command.specs.CombineEnds.{AreCombinedWritten, IsCombineEnd, IsDocumentRefusedBy, IsReadUncombined, IsUncombined, IsWorkRefused}
use Rattle.beam_command.specs.Completeness.{AreFaultsFew, AreKitFaultsFew, AreReadFaultsFew, HasCleanLiftedInputs, HasLiftedInputs, HasUnliftedPlan, IsEndOfClean, IsEndOfFewLifted, IsEndOfUnlifted, IsStrict, ReadsPoison}
use Rattle.beam_command.specs.Ends.{IsEndOf}
use Rattle.beam_command.specs.Observing.{Observed}
use Rattle.beam_command.proofs.Completeness.{by_file, by_opening, opened, plan_read, read_is}
use Rattle.beam_command.proofs.Stores.{AreOfOne, told_here}

-- a plan has one Group, and one function takes it
pub record IsSameFunction (group other function another : ℕ) (work kind : FnKind) : Type 0 where
  pub group_is : other ≡ group
  pub function_is : another ≡ function
  pub work_is : kind ≡ work

pub same_function : (plan : Plan) (group other function another : ℕ) (work kind : FnKind) → HasFunction plan group function work → HasFunction plan other another kind
    → IsSameFunction group other function another work kind
same_function plan group other function another work kind has own =
    let one : other ≡ group = cc (has.only, own.only) in
    let takes : another ≡ function = cc (one, has.followers, own.followers) in
    let node : own.node ≡ has.node = cc (takes, has.there, own.there) in
    record { group_is = one; function_is = takes; work_is = cc (node, has.kind, own.kind) }

module _ (observed : Observed) (of_one : AreOfOne observed.kits) (name : List ℕ) (options : Options) where
  -- ---- where the files are told

  module _ (told : List FileText) (tells : observed.kits.store.files ≡ Some told) where
    module _ (plan : Plan) (read : IsPlanRead (Some told) name plan) where
      first_plan : (first : ObservedStore) → slice_get observed.kits.stores 0 ≡ Some first → (other : Plan) → IsPlanRead first.files name other → other ≡ plan
      first_plan first at other own = read_is first told (told_here observed.kits.store first told (of_one 0 first at) tells) name plan other read own

      -- what was written is of a plan that is lifted
      written_lifted : (s : Status) → AreCombinedWritten observed name options s → IsLiftable plan
      written_lifted s end = subst IsLiftable (first_plan end.1.0 end.1.2 end.1.1 end.1.3) end.1.4.liftable

      written_clean : (s : Status) → AreCombinedWritten observed name options s → HasPoison plan (items told plan) → ⊥
      written_clean s end poison =
          let same = first_plan end.1.0 end.1.2 end.1.1 end.1.3 in
          (end.1.4.plain told tells).clean (inl (subst (λ (p : Plan). HasPoison p (items told p)) (sym same) poison))

      -- a plan that was read and not combined is this one
      uncombined : (s : Status) → IsReadUncombined observed.kits name options.attempts s → IsUncombined observed.kits plan options.attempts 0 s
      uncombined s why =
          subst (λ (p : Plan). IsUncombined observed.kits p options.attempts 0 s) (first_plan why.0 why.2 why.1 why.3) why.4

      module _ (few : rise observed.kits.store.before observed.kits.store.after < options.attempts) where
        document : (s : Status) → IsDocumentRefusedBy observed.kits name options.attempts s → s ≡ status.NoMemory
        document s why =
            plan_read observed of_one told tells options.attempts few name plan read why.0 (of_one 0 why.0 why.1) s why.2

        -- ---- a plan that isn't lifted

        module _ (never : IsLiftable plan → ⊥) where
          unlifted_stopped : (s : Status) → (IsUncombined observed.kits plan options.attempts 0 s → IsLiftable plan)
              → (IsDocumentRefusedBy observed.kits name options.attempts s ⊎ IsReadUncombined observed.kits name options.attempts s) → IsEndOfUnlifted s
          unlifted_stopped s lifted why = elim why [ inl refused ↦ inr (document s refused) | inr read ↦ absurd (never (lifted (uncombined s read))) ]

          pub unlifted_ends : (s : Status) → IsCombineEnd observed name options s → IsEndOfUnlifted s
          unlifted_ends status.Ok end = absurd (never (written_lifted status.Ok end))
          unlifted_ends status.SinkFault end = absurd (never (written_lifted status.SinkFault end))
          unlifted_ends status.NoMemory end = inr refl
          unlifted_ends (status.NotLifted lift.Shape) end = inl refl
          unlifted_ends (status.NotLifted lift.Part) end = unlifted_stopped (status.NotLifted lift.Part) (λ why. why.liftable) end.1
          unlifted_ends (status.NotLifted lift.Sum) end = unlifted_stopped (status.NotLifted lift.Sum) (λ why. why.liftable) end.1
          unlifted_ends (status.NotLifted lift.Many) end = unlifted_stopped (status.NotLifted lift.Many) (λ why. why.liftable) end.1
          unlifted_ends (status.WorkFault note) end = unlifted_stopped (status.WorkFault note) (λ why. why.liftable) end.1
          unlifted_ends status.Help end = unlifted_stopped status.Help (λ why. why.0) end.1
          unlifted_ends status.Usage end = unlifted_stopped status.Usage (λ why. why.0) end.1
          unlifted_ends (status.BadPlan refusal) end = unlifted_stopped (status.BadPlan refusal) (λ why. why.0) end.1
          unlifted_ends (status.NoSource absent) end = unlifted_stopped (status.NoSource absent) (λ why. why.0) end.1
          unlifted_ends (status.SourceFault kit) end = unlifted_stopped (status.SourceFault kit) (λ why. why.0) end.1
          unlifted_ends (status.FileChanged changed len other) end = unlifted_stopped (status.FileChanged changed len other) (λ why. why.0) end.1
          unlifted_ends (status.BadSchedule why) end = unlifted_stopped (status.BadSchedule why) (λ why. why.0) end.1

    -- ---- all that is combined is there

    module _ (inputs : HasLiftedInputs told name) (few : rise observed.kits.store.before observed.kits.store.after < options.attempts)
        (written : rise observed.out.before observed.out.after < options.attempts)
        (no_fault : (note : FaultNote) → IsWorkRefused observed.kits inputs.plan options.attempts (Fault note) → ⊥) where
      -- its parts and sums are not refused
      part : IsWorkRefused observed.kits inputs.plan options.attempts (Lift lift.Part) → ⊥
      part why =
          let same = same_function inputs.plan inputs.group why.group inputs.function why.function inputs.work why.work inputs.has why.has in
          inputs.parts (subst (λ (at : ℕ × FnKind). MeetsPart inputs.plan (items told inputs.plan) at.0 at.1) (λ i. (same.group_is i, same.work_is i)) (why.cause told tells))

      sum : IsWorkRefused observed.kits inputs.plan options.attempts (Lift lift.Sum) → ⊥
      sum why =
          let same = same_function inputs.plan inputs.group why.group inputs.function why.function inputs.work why.work inputs.has why.has in
          inputs.sums (subst (λ (at : ℕ × FnKind). MeetsSum inputs.plan (items told inputs.plan) at.0 at.1) (λ i. (same.group_is i, same.work_is i)) (why.cause told tells))

      many : IsWorkRefused observed.kits inputs.plan options.attempts (Lift lift.Many) → ⊥
      many why =
          let same = same_function inputs.plan inputs.group why.group inputs.function why.function inputs.work why.work inputs.has why.has in
          inputs.few (subst (λ (at : ℕ). MeetsMany inputs.plan (items told inputs.plan) at) same.group_is (why.cause told tells))

      stopped : (s : Status) → (IsUncombined observed.kits inputs.plan options.attempts 0 s → s ≡ status.NoMemory)
          → (IsDocumentRefusedBy observed.kits name options.attempts s ⊎ IsReadUncombined observed.kits name options.attempts s) → IsEndOfClean s
      stopped s not why = elim why [
        | inl refused ↦ inr (document inputs.plan inputs.read few s refused)
        | inr read ↦ inr (not (uncombined inputs.plan inputs.read s read))
      ]

      by_sources : (s : Status) → IsOpeningRefused observed.kits.stores inputs.plan options.attempts 0 s → s ≡ status.NoMemory
      by_sources s why = opened observed of_one told tells options.attempts few inputs.plan inputs.found s why

      pub lifted_ends : (s : Status) → IsCombineEnd observed name options s → IsEndOfClean s
      lifted_ends status.Ok end = inl refl
      lifted_ends status.SinkFault end = absurd (omega (arith, end.2.0, written))
      lifted_ends status.NoMemory end = inr refl
      lifted_ends (status.NotLifted lift.Shape) end = stopped (status.NotLifted lift.Shape) (λ why. absurd (why inputs.liftable)) end.1
      lifted_ends (status.NotLifted lift.Part) end = stopped (status.NotLifted lift.Part) (λ why. absurd (part why)) end.1
      lifted_ends (status.NotLifted lift.Sum) end = stopped (status.NotLifted lift.Sum) (λ why. absurd (sum why)) end.1
      lifted_ends (status.NotLifted lift.Many) end = stopped (status.NotLifted lift.Many) (λ why. absurd (many why)) end.1
      lifted_ends (status.WorkFault note) end = stopped (status.WorkFault note) (λ why. absurd (no_fault note why)) end.1
      lifted_ends status.Help end = stopped status.Help (λ why. by_sources status.Help why.1) end.1
      lifted_ends status.Usage end = stopped status.Usage (λ why. by_sources status.Usage why.1) end.1
      lifted_ends (status.BadPlan refusal) end = stopped (status.BadPlan refusal) (λ why. by_sources (status.BadPlan refusal) why.1) end.1
      lifted_ends (status.NoSource absent) end = stopped (status.NoSource absent) (λ why. by_sources (status.NoSource absent) why.1) end.1
      lifted_ends (status.SourceFault kit) end = stopped (status.SourceFault kit) (λ why. by_sources (status.SourceFault kit) why.1) end.1
      lifted_ends (status.FileChanged changed len other) end = stopped (status.FileChanged changed len other) (λ why. by_sources (status.FileChanged changed len other) why.1) end.1
      lifted_ends (status.BadSchedule refusal) end = stopped (status.BadSchedule refusal) (λ why. by_sources (status.BadSchedule refusal) why.1) end.1

    -- few faults of all kits together
    pub few_ends : HasLiftedInputs told name → AreFaultsFew options.attempts observed → (s : Status) → IsCombineEnd observed name options s → IsEndOfClean s
    few_ends inputs few s end =
        lifted_ends inputs (omega (arith, few.kits)) few.out
        (λ note why. omega (arith, why.cause.all, why.cause.calls_counted, why.cause.reads_counted, few.kits)) s end

    -- few faults of the stores, over strict shelves, where nothing is poison
    pub strict_ends : HasCleanLiftedInputs told name → IsStrict observed.kits.shelf → AreReadFaultsFew options.attempts observed → (s : Status)
        → IsCombineEnd observed name options s → IsEndOfClean s
    strict_ends clean strict few s end = lifted_ends clean.inputs few.store few.out no_fault s end
      where
        no_fault : (note : FaultNote) → IsWorkRefused observed.kits clean.inputs.plan options.attempts (Fault note) → ⊥
        no_fault note why =
            let inputs = clean.inputs in
            let same = same_function inputs.plan inputs.group why.group inputs.function why.function inputs.work why.work inputs.has why.has in
            let some : 0 < why.cause.calls = omega (arith, why.cause.all, why.cause.reads_counted, few.store) in
            clean.clean
            (subst (λ (at : ℕ × ℕ × FnKind). IsSomePoison inputs.plan (items told inputs.plan) at.0 at.1 at.2)
            (λ i. (same.group_is i, same.function_is i, same.work_is i)) (why.cause.poison some strict told tells))

  -- ---- few faults, whatever the stores tell

  module _ (few : AreKitFaultsFew options.attempts observed.kits) where
    abbrev Fits : Status → Type 0
    Fits s = IsEndOfFewLifted options.attempts observed.out s

    no_fault : (plan : Plan) (note : FaultNote) → IsWorkRefused observed.kits plan options.attempts (Fault note) → ⊥
    no_fault plan note why = omega (arith, why.cause.all, why.cause.calls_counted, why.cause.reads_counted, few)

    begun : (s : Status) → (IsDocumentRefusedBy observed.kits name options.attempts s → Fits s)
        → ((plan : Plan) → IsUncombined observed.kits plan options.attempts 0 s → Fits s)
        → (IsDocumentRefusedBy observed.kits name options.attempts s ⊎ IsReadUncombined observed.kits name options.attempts s) → Fits s
    begun s by_document by_plan why = elim why [ inl refused ↦ by_document refused | inr read ↦ by_plan read.1 read.4 ]

    pub few_lifted_ends : (s : Status) → IsCombineEnd observed name options s → Fits s
    few_lifted_ends status.Ok end = tt
    few_lifted_ends status.SinkFault end = end.2.0
    few_lifted_ends status.NoMemory end = tt
    few_lifted_ends (status.NotLifted why) end = tt
    few_lifted_ends (status.WorkFault note) end = begun (status.WorkFault note) (λ why. absurd why.2) (λ plan why. absurd (no_fault plan note why)) end.1
    few_lifted_ends (status.BadPlan refusal) end = tt
    few_lifted_ends (status.NoSource absent) end = tt
    few_lifted_ends (status.FileChanged changed len other) end = tt
    few_lifted_ends status.Help end = begun status.Help (λ why. absurd why.2) (λ plan why. absurd why.1) end.1
    few_lifted_ends status.Usage end = begun status.Usage (λ why. absurd why.2) (λ plan why. absurd why.1) end.1
    few_lifted_ends (status.SourceFault kit) end =
        begun (status.SourceFault kit) (λ why. by_file observed of_one options few name why.0 (of_one 0 why.0 why.1) (status.SourceFault kit) why.2)
        (λ plan why. by_opening observed of_one options few plan (status.SourceFault kit) why.1) end.1
    few_lifted_ends (status.BadSchedule refusal) end = begun (status.BadSchedule refusal) (λ why. absurd why.2) (λ plan why. absurd why.1) end.1

-- ---- by what is asked for

pub not_combined : (asked : Option Asked) (observed : Observed) → AreOfOne observed.kits → (s : Status) (outcome : Option Outcome) → IsEndOf asked observed s outcome
    → WhereCombine asked (λ name options. WhereTold observed.kits.store.files (λ told. ReadsPoison told name → s ≡ status.Ok → ⊥))
not_combined (Some (Combine name options)) observed of_one s outcome end = λ told tells poison is.
    written_clean observed of_one name options told tells poison.0 poison.1 status.Ok (subst (λ (st : Status). IsCombineEnd observed name options st) is end.0) poison.2
not_combined None observed of_one s outcome end = tt
not_combined (Some Help) observed of_one s outcome end = tt
not_combined (Some (Panes file size options)) observed of_one s outcome end = tt
not_combined (Some (Run name options)) observed of_one s outcome end = tt
not_combined (Some (Replay name schedule options)) observed of_one s outcome end = tt
not_combined (Some (Make count number)) observed of_one s outcome end = tt
not_combined (Some (Drill count number options)) observed of_one s outcome end = tt

pub unlifted : (asked : Option Asked) (observed : Observed) → AreOfOne observed.kits → (s : Status) (outcome : Option Outcome) → IsEndOf asked observed s outcome
    → WhereCombine asked (λ name options. rise observed.kits.store.before observed.kits.store.after < options.attempts
    → WhereTold observed.kits.store.files (λ told. HasUnliftedPlan told name → IsEndOfUnlifted s))
unlifted (Some (Combine name options)) observed of_one s outcome end = λ few told tells plan.
    unlifted_ends observed of_one name options told tells plan.0 plan.1 few plan.2 s end.0
unlifted None observed of_one s outcome end = tt
unlifted (Some Help) observed of_one s outcome end = tt
unlifted (Some (Panes file size options)) observed of_one s outcome end = tt
unlifted (Some (Run name options)) observed of_one s outcome end = tt
unlifted (Some (Replay name schedule options)) observed of_one s outcome end = tt
unlifted (Some (Make count number)) observed of_one s outcome end = tt
unlifted (Some (Drill count number options)) observed of_one s outcome end = tt

pub combined : (asked : Option Asked) (observed : Observed) → AreOfOne observed.kits → (s : Status) (outcome : Option Outcome) → IsEndOf asked observed s outcome
    → WhereCombine asked (λ name options. AreFaultsFew options.attempts observed
    → WhereTold observed.kits.store.files (λ told. HasLiftedInputs told name → IsEndOfClean s))
combined (Some (Combine name options)) observed of_one s outcome end = λ few told tells inputs.
    few_ends observed of_one name options told tells inputs few s end.0
combined None observed of_one s outcome end = tt
combined (Some Help) observed of_one s outcome end = tt
combined (Some (Panes file size options)) observed of_one s outcome end = tt
combined (Some (Run name options)) observed of_one s outcome end = tt
combined (Some (Replay name schedule options)) observed of_one s outcome end = tt
combined (Some (Make count number)) observed of_one s outcome end = tt
combined (Some (Drill count number options)) observed of_one s outcome end = tt

pub combined_strict : (asked : Option Asked) (observed : Observed) → AreOfOne observed.kits → (s : Status) (outcome : Option Outcome) → IsEndOf asked observed s outcome
    → WhereCombine asked (λ name options. AreReadFaultsFew options.attempts observed → IsStrict observed.kits.shelf
    → WhereTold observed.kits.store.files (λ told. HasCleanLiftedInputs told name → IsEndOfClean s))
combined_strict (Some (Combine name options)) observed of_one s outcome end = λ few strict told tells clean.
    strict_ends observed of_one name options told tells clean strict few s end.0
combined_strict None observed of_one s outcome end = tt
combined_strict (Some Help) observed of_one s outcome end = tt
combined_strict (Some (Panes file size options)) observed of_one s outcome end = tt
combined_strict (Some (Run name options)) observed of_one s outcome end = tt
combined_strict (Some (Replay name schedule options)) observed of_one s outcome end = tt
combined_strict (Some (Make count number)) observed of_one s outcome end = tt
combined_strict (Some (Drill count number options)) observed of_one s outcome end = tt

pub few_lifted : (asked : Option Asked) (observed : Observed) → AreOfOne observed.kits → (s : Status) (outcome : Option Outcome) → IsEndOf asked observed s outcome
    → WhereCombine asked (λ name options. AreKitFaultsFew options.attempts observed.kits → IsEndOfFewLifted options.attempts observed.out s)
few_lifted (Some (Combine name options)) observed of_one s outcome end = λ few. few_lifted_ends observed of_one name options few s end.0
few_lifted None observed of_one s outcome end = tt
few_lifted (Some Help) observed of_one s outcome end = tt
few_lifted (Some (Panes file size options)) observed of_one s outcome end = tt
few_lifted (Some (Run name options)) observed of_one s outcome end = tt
few_lifted (Some (Replay name schedule options)) observed of_one s outcome end = tt
few_lifted (Some (Make count number)) observed of_one s outcome end = tt
few_lifted (Some (Drill count number options)) observed of_one s outcome end = tt
