-- The words of a document, as they are spelled there.
use Rattle.std.specs.Prelude.{ℕ, ◌&&◌, nat_le, List, [], ◌∷◌, codes, bytes_eq, if◌then◌else◌, Option, Some, None}
use Rattle.std.specs.Option.{option_map}
use Rattle.beam_values.specs.declared.plan.Estimator.{Estimator}
use Rattle.beam_values.specs.declared.plan.Estimator.TheVariants as estimator
use Rattle.beam_values.specs.declared.plan.FnKind.{FnKind}
use Rattle.beam_values.specs.declared.plan.FnKind.TheVariants.{KeyField, Words, Field, KeepPrefix, FieldInt, Swap, Shift, SumSeq, CountSeq, MaxSeq, Unseq, Values}
use Rattle.beam_values.specs.declared.plan.Mode.{Mode}
use Rattle.beam_values.specs.declared.plan.Mode.TheVariants.{Discarding, Accumulating}
use Rattle.beam_values.specs.declared.plan.SourceKind.{SourceKind}
use Rattle.beam_values.specs.declared.plan.SourceKind.TheVariants.{Lines, TimedLines, Count, Made}
use Rattle.beam_values.specs.declared.plan.StateKind.{StateKind}
use Rattle.beam_values.specs.declared.plan.StateKind.TheVariants.{Dedupe, RunningSum, BatchUntil, LatestThenEmit}
use Rattle.side_inputs.specs.declared.nodes.ViewMode.{ViewMode}
use Rattle.side_inputs.specs.declared.nodes.ViewMode.TheVariants as view
use Rattle.plan_reader.specs.declared.words.DocumentKind.{DocumentKind}
use Rattle.plan_reader.specs.declared.words.DocumentKind.TheVariants.{Plain, Side}
use Rattle.plan_reader.specs.declared.words.KindWord.{KindWord}
use Rattle.plan_reader.specs.declared.words.KindWord.TheVariants as kind

-- what a word stands for in a table
abbrev pub meaning_in : {A : Type 0} → List (List ℕ × A) → List ℕ → Option A
meaning_in [] word = None
meaning_in (row ∷ rows) word = if bytes_eq word row.0 then Some row.1 else meaning_in rows word

abbrev pub kinds : List (List ℕ × KindWord)
kinds =
    (codes "source", kind.Source) ∷ (codes "pardo", kind.ParDo) ∷ (codes "flatten", kind.Flatten) ∷ (codes "window", kind.Window)
    ∷ (codes "group", kind.Group) ∷ (codes "stateful", kind.Stateful) ∷ (codes "write", kind.Write) ∷ []

-- A node is one of the plan's by its word, or a side input, which documents have from version 3 on.
abbrev pub kind_meaning : ℕ → List ℕ → Option DocumentKind
kind_meaning version word = if nat_le 3 version && bytes_eq word (codes "side") then Some Side else option_map Plain (meaning_in kinds word)

abbrev pub view_modes : List (List ℕ × ViewMode)
view_modes = (codes "list", view.List) ∷ (codes "single", view.Single) ∷ (codes "lookup", view.Lookup) ∷ []

abbrev pub sources : List (List ℕ × SourceKind)
sources = (codes "Lines", Lines) ∷ (codes "TimedLines", TimedLines) ∷ (codes "Count", Count) ∷ (codes "Made", Made) ∷ []

abbrev pub functions : List (List ℕ × FnKind)
functions =
    (codes "KeyField", KeyField) ∷ (codes "Words", Words) ∷ (codes "Field", Field) ∷ (codes "KeepPrefix", KeepPrefix)
    ∷ (codes "FieldInt", FieldInt) ∷ (codes "Swap", Swap) ∷ (codes "Shift", Shift) ∷ (codes "SumSeq", SumSeq)
    ∷ (codes "CountSeq", CountSeq) ∷ (codes "MaxSeq", MaxSeq) ∷ (codes "Unseq", Unseq) ∷ (codes "Values", Values) ∷ []

abbrev pub stateful_functions : List (List ℕ × StateKind)
stateful_functions =
    (codes "Dedupe", Dedupe) ∷ (codes "RunningSum", RunningSum) ∷ (codes "BatchUntil", BatchUntil)
    ∷ (codes "LatestThenEmit", LatestThenEmit) ∷ []

abbrev pub estimators : List (List ℕ × Estimator)
estimators =
    (codes "none", estimator.None) ∷ (codes "monotonic", estimator.Monotonic) ∷ (codes "declared", estimator.Declared) ∷ []

abbrev pub modes : List (List ℕ × Mode)
modes = (codes "discarding", Discarding) ∷ (codes "accumulating", Accumulating) ∷ []
