-- How combining a plan ends: what its kits have opened, and why nothing was combined.
use Rattle.std.specs.Prelude.{◌≡◌, ◌⊎◌, ℕ, ◌+◌, ◌<◌, ◌≤◌, ◌==◌, ◌&&◌, true, List, [], slice_get, Option, Some, Result, Err, IfOk, IfErr}
use Rattle.std.specs.List.{AllByRecursion, list_any}
use Rattle.beam_values.specs.declared.arrival.Arrival.{Arrival}
use Rattle.beam_values.specs.declared.fault.Cause.TheVariants.{Call, Read}
use Rattle.beam_values.specs.declared.fault.FaultNote.{FaultNote}
use Rattle.beam_values.specs.declared.file_text.FileText.{FileText}
use Rattle.beam_values.specs.declared.plan.FnKind.{FnKind}
use Rattle.beam_values.specs.declared.plan.Plan.{Plan}
use Rattle.beam_model.specs.Positions.{SourceItem, items}
use Rattle.beam_ports.specs.Counts.{rise}
use Rattle.beam_ports.specs.Files.{Opening}
use Rattle.beam_ports.specs.Observed.{ObservedStore, WhereTold}
use Rattle.book_core.specs.Work.{Surroundings}
use Rattle.bundle_work.specs.Bundles.{IsCountedAs}
use Rattle.bundle_work.specs.Openings.{AreOpened, file_names}
use Rattle.bundle_work.specs.Reading.{opened_lengths}
use Rattle.bundle_work.specs.declared.kit.Kit.{Kit}
use Rattle.chain_exec.specs.Causes.{ObservedShelf}
use Rattle.combine_lift.specs.Lifting.{IsLiftable}
use Rattle.combine_lift.specs.declared.refusal.LiftRefusal.TheVariants as lift
use Rattle.combine_laws.specs.Combined.{HasFunction, IsCombined, IsSomePoison, MeetsMany, MeetsPart, MeetsPoison, MeetsSum}
use Rattle.combine_plan.specs.Folding.{IsPoisonItem}
use Rattle.combine_plan.specs.declared.refusal.CombineRefusal.{CombineRefusal}
use Rattle.combine_plan.specs.declared.refusal.CombineRefusal.TheVariants.{Lift, Fault, NoMemory}

-- ---- what is asked of the kits

-- every kit has opened each file of the plan, and met the lengths that the first one did
pub record AreOpenedAlike {F S : Type 0} (files_of : S → Option (List FileText)) (opened_by : S → ℕ → Option Opening) (plan : Plan) (kits : List (Kit F S)) : Type 0 where
  pub each : AllByRecursion (λ kit. AreOpened (files_of kit.store) (opened_by kit.store) (file_names plan) kit.files) kits
  pub lengths : (first : Kit F S) → slice_get kits 0 ≡ Some first → AllByRecursion (λ kit. opened_lengths plan kit.files ≡ opened_lengths plan first.files) kits

-- ---- what a note is of

-- the function's own note: its node, and item 0
pub record IsLastNote (plan : Plan) (items : List SourceItem) (group function : ℕ) (work : FnKind) (note : FaultNote) : Type 0 where
  pub node : note.node ≡ function
  pub item : note.item ≡ 0
  pub poison : MeetsPoison plan items group function work note.at

-- of some item of the plan, as a note names it; which items there are no file's text decides
abbrev pub IsItemNote : Plan → FaultNote → Type 0
IsItemNote plan note = list_any (λ item. item.node == note.node && item.item == note.item) (items [] plan) ≡ true

-- of the function itself, as a note of its job names it: only calls fail there
abbrev pub IsFunctionNote : ℕ → FaultNote → Type 0
IsFunctionNote function note = (note.node ≡ function) × (note.item ≡ 0) × (note.cause ≡ Call)

-- ---- why nothing was combined

-- Work on some item or at the function was given up: it failed as often as it may, by its causes, and each time that was counted. Over strict shelves calls
-- fail at poison alone, and the note is of a position of its item, or of what was combined. A read fails at the source: of node 1, the note's `at` is 1.
pub record IsGivenUp (known : Surroundings) (shelf : ObservedShelf) (store : ObservedStore) (plan : Plan) (attempts group function : ℕ) (work : FnKind) (note : FaultNote) : Type 0 where
  pub place : IsItemNote plan note ⊎ IsFunctionNote function note
  pub attempt : note.attempt ≡ attempts
  pub calls : ℕ
  pub reads : ℕ
  pub all : attempts ≡ calls + reads
  pub calls_counted : calls ≤ rise shelf.before shelf.after
  pub reads_counted : reads ≤ rise store.before store.after
  pub cause : IsCountedAs shelf store note.cause
  pub poison : 0 < calls → known.strict ≡ true → WhereTold known.told (λ files. IsSomePoison plan (items files plan) group function work)
  pub at : note.cause ≡ Call → known.strict ≡ true
      → WhereTold known.told (λ files. IsPoisonItem plan (items files plan) note ⊎ IsLastNote plan (items files plan) group function work note)
  pub read : note.cause ≡ Read → note.at ≡ note.node

-- the cause of each refusal, of a plan with this Group and function
abbrev pub IsLiftedRefused : Surroundings → ObservedShelf → ObservedStore → Plan → ℕ → ℕ → ℕ → FnKind → CombineRefusal → Type 0
IsLiftedRefused known shelf store plan attempts group function work (Lift lift.Shape) = ⊥
IsLiftedRefused known shelf store plan attempts group function work (Lift lift.Part) = WhereTold known.told (λ files. MeetsPart plan (items files plan) group work)
IsLiftedRefused known shelf store plan attempts group function work (Lift lift.Sum) = WhereTold known.told (λ files. MeetsSum plan (items files plan) group work)
IsLiftedRefused known shelf store plan attempts group function work (Lift lift.Many) = WhereTold known.told (λ files. MeetsMany plan (items files plan) group)
IsLiftedRefused known shelf store plan attempts group function work (Fault note) = IsGivenUp known shelf store plan attempts group function work note
IsLiftedRefused known shelf store plan attempts group function work NoMemory = Unit {0}

-- ---- how a call ends

-- A plan that isn't lifted is refused for its shape. Of one that is, what arrived is what plain grouping brings, or there is a cause why nothing was
-- combined. There may be no memory.
pub record IsLiftedEnd (known : Surroundings) (shelf : ObservedShelf) (store : ObservedStore) (plan : Plan) (attempts : ℕ) (result : Result (List Arrival) CombineRefusal) : Type 0 where
  pub liftable : IsLiftable plan
  pub group : ℕ
  pub function : ℕ
  pub work : FnKind
  pub has : HasFunction plan group function work
  pub combined : IfOk result (λ arrivals. WhereTold known.told (λ files. IsCombined plan (items files plan) group function work arrivals))
  pub refused : IfErr result (IsLiftedRefused known shelf store plan attempts group function work)

abbrev pub IsCombineEnd : Surroundings → ObservedShelf → ObservedStore → Plan → ℕ → Result (List Arrival) CombineRefusal → Type 0
IsCombineEnd known shelf store plan attempts (Err (Lift lift.Shape)) = IsLiftable plan → ⊥
IsCombineEnd known shelf store plan attempts (Err NoMemory) = Unit {0}
IsCombineEnd known shelf store plan attempts result = IsLiftedEnd known shelf store plan attempts result

-- what is known outside, of all kits together
abbrev pub known_of : ObservedShelf → ObservedStore → Surroundings
known_of shelf store = record { told = store.files; strict = shelf.strict }
