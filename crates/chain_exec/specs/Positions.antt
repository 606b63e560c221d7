-- What a position of a source brings to the barriers, and why work on it was refused.
use Rattle.std.specs.Prelude.{◌≡◌, ◌↔◌, ℕ, ◌<◌, ◌≤◌, true, IsTrue, List, [], ◌∷◌, ◌++◌, map, Option, Some}
use Rattle.std.specs.List.{All}
use Rattle.beam_values.specs.Checked.{reads_file}
use Rattle.beam_values.specs.Times.{IsTime}
use Rattle.beam_values.specs.declared.fault.Cause.TheVariants.{Call, Read}
use Rattle.beam_values.specs.declared.plan.Plan.{Plan}
use Rattle.beam_values.specs.declared.plan.SourceKind.{SourceKind}
use Rattle.beam_model.specs.Chains.{Output, Arrives}
use Rattle.beam_model.specs.Estimators.{seen_with}
use Rattle.beam_model.specs.Holds.{estimator_of}
use Rattle.beam_model.specs.Positions.{Emission, Emits, Poison, emission, next_position}
use Rattle.beam_model.specs.Spread.{emission_outputs, first_poison}
use Rattle.beam_ports.specs.Counts.{Rose}
use Rattle.beam_ports.specs.Files.{Opening}
use Rattle.bundle_commit.specs.declared.job.Receipt.{Receipt}
use Rattle.dofn_traits.specs.Calls.{timed_value}
use Rattle.dofn_traits.specs.declared.calls.Emission as calls
use Rattle.sdf_library.specs.Paging.{Paged}
use Rattle.chain_exec.specs.Causes.{ObservedShelf}
use Rattle.chain_exec.specs.Sources.{SourceWork, IsLookInto, IsText}
use Rattle.chain_exec.specs.declared.position.Step.{Step}
use Rattle.chain_exec.specs.declared.refusal.ExecRefusal.{ExecRefusal}
use Rattle.chain_exec.specs.declared.refusal.ExecRefusal.TheVariants.{Faulted, NoMemory}

-- it has a value; a watermark alone is none
abbrev pub HasValue : Emission → Type 0
HasValue (Emits [] declared) = ⊥
HasValue (Emits (value ∷ values) declared) = Unit {0}
HasValue Poison = ⊥

-- the position after it lies above it, and at most at the end
abbrev pub IsNextOf : ℕ → ℕ → ℕ → Type 0
IsNextOf p len next = (p < next) × (next ≤ len)

-- where the item's text is known, a position emits this, and that is the next one
abbrev pub IsEmissionAt : SourceWork → Option Opening → ℕ → ℕ → Emission → ℕ → Type 0
IsEmissionAt source opening len p emitted next =
    (text : List ℕ) → IsText source.work opening len text
    → (emitted ≡ emission source.work source.args text p) × (next ≡ next_position source.work text p)

-- the times of its values are times
abbrev pub IsTimely : Emission → Type 0
IsTimely (Emits values declared) = All (λ value. IsTime value.time) values
IsTimely Poison = Unit {0}

-- What the position emitted was staged where it arrives, so it is no poison, and the estimator has looked at it.
pub record IsWorked (plan : Plan) (node : ℕ) (emitted : Emission) (old new : Receipt) (step : Step) : Type 0 where
  pub arrivals : map Arrives new.arrivals ≡ map Arrives old.arrivals ++ emission_outputs plan node emitted
  pub seen : new.seen ≡ seen_with (estimator_of plan node) old.seen emitted
  pub logged : new.logged ≡ old.logged
  pub emits : IsTrue step.emitted ↔ HasValue emitted
  pub timely : IsTimely emitted

-- what the position brings, where the item's text is this
abbrev pub outputs_in : Plan → ℕ → SourceWork → List ℕ → ℕ → List Output
outputs_in plan node source text p = emission_outputs plan node (emission source.work source.args text p)

-- the counts of faults of a store, before a call and after it
pub record StoreCounts : Type 0 where
  pub before : ℕ
  pub after : ℕ

-- Work on a position was refused: a read of the source's file failed, and was counted; or a function or the source did, and was counted, over a strict
-- shelf that of the first poison, where the item's text is known. Or there was no memory.
abbrev pub IsPositionRefused : ObservedShelf → StoreCounts → Plan → ℕ → SourceWork → Option Opening → ℕ → ℕ → ExecRefusal → Type 0
IsPositionRefused shelf store plan node source opening len p (Faulted at Read) =
    Rose store.before store.after × (at ≡ node) × (reads_file source.work ≡ true)
IsPositionRefused shelf store plan node source opening len p (Faulted at Call) =
    Rose shelf.before shelf.after
    × (shelf.strict ≡ true → (text : List ℕ) → IsText source.work opening len text → first_poison (outputs_in plan node source text p) ≡ Some at)
IsPositionRefused shelf store plan node source opening len p NoMemory = Unit {0}

-- what positions of a source gave, as definitions see it
abbrev pub emission_of : calls.Emission → Emission
emission_of out = Emits (map timed_value out.items) out.declared

-- A file's bytes were not read: a read failed, and was counted, or there was no memory.
abbrev pub IsReadRefused : StoreCounts → ℕ → SourceKind → ExecRefusal → Type 0
IsReadRefused store node work (Faulted at Read) = Rose store.before store.after × (at ≡ node) × (reads_file work ≡ true)
IsReadRefused store node work (Faulted at Call) = ⊥
IsReadRefused store node work NoMemory = Unit {0}

-- The call on what is seen of a position was refused: the source failed, and was counted, over a strict shelf on poison alone.
abbrev pub IsSeenRefused : ObservedShelf → ℕ → SourceWork → Paged → ℕ → ExecRefusal → Type 0
IsSeenRefused shelf node source seen p (Faulted at Call) =
    Rose shelf.before shelf.after × (at ≡ node)
    × (shelf.strict ≡ true → (file : List ℕ) → IsLookInto file source seen → emission source.work source.args file p ≡ Poison)
IsSeenRefused shelf node source seen p (Faulted at Read) = ⊥
IsSeenRefused shelf node source seen p NoMemory = Unit {0}

-- The source did not work a position: a read of its file failed, or the source did, over a strict shelf on poison alone, where the item's text is known.
abbrev pub IsSourceRefused : ObservedShelf → StoreCounts → ℕ → SourceWork → Option Opening → ℕ → ℕ → ExecRefusal → Type 0
IsSourceRefused shelf store node source opening len p (Faulted at Read) =
    Rose store.before store.after × (at ≡ node) × (reads_file source.work ≡ true)
IsSourceRefused shelf store node source opening len p (Faulted at Call) =
    Rose shelf.before shelf.after × (at ≡ node)
    × (shelf.strict ≡ true → (text : List ℕ) → IsText source.work opening len text → emission source.work source.args text p ≡ Poison)
IsSourceRefused shelf store node source opening len p NoMemory = Unit {0}
