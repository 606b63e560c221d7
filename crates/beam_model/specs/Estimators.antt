-- Sound estimators: no element that a source still emits lies before the mark that its estimator made of what was read (Splittable DoFn, watermark
-- estimators).
use Rattle.std.specs.Prelude.{◌≡◌, ℕ, ◌<◌, ℤ, ◌≤ℤ◌, true, if◌then◌else◌, List, [], ◌∷◌, map, fold, Option, Some, None}
use Rattle.std.specs.Int.{int_max}
use Rattle.std.specs.List.{All}
use Rattle.beam_values.specs.Marks.{mark_of, seen_after}
use Rattle.beam_values.specs.Nodes.{is_above}
use Rattle.beam_values.specs.declared.plan.Estimator.{Estimator}
use Rattle.beam_values.specs.declared.plan.Estimator.TheVariants as estimator
use Rattle.beam_values.specs.declared.plan.Plan.{Plan}
use Rattle.beam_model.specs.Holds.{estimator_of}
use Rattle.beam_model.specs.Positions.{Emission, Emits, Poison, TimedValue, nothing, emission, SourceItem, len_of}
use Rattle.beam_model.specs.Spread.{is_left_out}

-- what a position of an item emits; one that is left out emits nothing
abbrev pub emission_at : SourceItem → ℕ → Emission
emission_at item p = if is_left_out item p then nothing else emission item.work item.args item.file p

-- the times of its outputs
abbrev pub output_times : Emission → List ℤ
output_times (Emits values declared) = map (λ v. v.time) values
output_times Poison = []

-- the later one of a time and that of a value
abbrev pub later_time : Option ℤ → TimedValue → Option ℤ
later_time None value = Some value.time
later_time (Some time) value = Some (int_max time value.time)

-- the greatest time of some values, if there is one
abbrev pub latest_time : List TimedValue → Option ℤ
latest_time values = fold later_time None values

-- what an estimator has seen after a position with this emission
abbrev pub seen_with : Estimator → ℤ → Emission → ℤ
seen_with estimator seen (Emits values declared) = seen_after estimator seen (latest_time values) declared
seen_with estimator seen Poison = seen

abbrev pub declared_marks : Option ℤ → List ℤ
declared_marks None = []
declared_marks (Some mark) = mark ∷ []

-- what an estimator looks at of an emission: nothing, the times of its outputs, or the mark that it declares
abbrev pub observed_times : Estimator → Emission → List ℤ
observed_times estimator.None emission = []
observed_times estimator.Monotonic emission = output_times emission
observed_times (estimator.Lag delay) emission = output_times emission
observed_times estimator.Declared (Emits values declared) = declared_marks declared
observed_times estimator.Declared Poison = []

-- Of two positions of an item, each output of the later one has a time at least the mark of what the estimator looked at in the earlier one: monotonic,
-- at least each earlier time; with a lag, that less the lag; declared, at least each mark declared before. With no estimator nothing is asked. The lines
-- `70000 a x` and `5000 a y` are not sound for a monotonic estimator, and are with a lag of 65000.
abbrev pub IsSoundItem : Estimator → SourceItem → Type 0
IsSoundItem estimator item =
    (p q : ℕ) → p < q → q < len_of item
    → All (λ seen. All (λ time. mark_of estimator seen ≤ℤ time) (output_times (emission_at item q))) (observed_times estimator (emission_at item p))

-- the estimator of each source above a node is sound for each of its items
abbrev pub AreSoundAbove : Plan → List SourceItem → ℕ → Type 0
AreSoundAbove plan items node =
    All (λ item. is_above plan item.node node ≡ true → IsSoundItem (estimator_of plan item.node) item) items
