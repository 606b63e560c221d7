-- Watermarks: what a source's estimator makes of what was read, and how marks follow from holds (The Dataflow Model, watermarks; Splittable DoFn,
-- watermark estimators; which holds there are is this profile's).
use Rattle.std.specs.Prelude.{◌≡◌, ℕ, ℤ, ◌-ℤ◌, List, map, fold, slice_get, length, unwrap_or, Option, Some, None}
use Rattle.std.specs.Int.{int_min, int_max}
use Rattle.beam_values.specs.Times.{least_time, final_mark}
use Rattle.beam_values.specs.declared.marks.StageMarks.{StageMarks}
use Rattle.beam_values.specs.declared.plan.Estimator.{Estimator}
use Rattle.beam_values.specs.declared.plan.Estimator.TheVariants as estimator
use Rattle.beam_values.specs.declared.plan.Node.{Node}
use Rattle.beam_values.specs.declared.plan.Plan.{Plan}

-- the later of two times, if there is a second
abbrev pub later_of : ℤ → Option ℤ → ℤ
later_of seen None = seen
later_of seen (Some time) = int_max seen time

-- What an estimator has seen after a position whose greatest output has the time `time` and that declared the mark `declared`. It never falls.
abbrev pub seen_after : Estimator → ℤ → Option ℤ → Option ℤ → ℤ
seen_after estimator.None seen time declared = seen
seen_after estimator.Monotonic seen time declared = later_of seen time
seen_after (estimator.Lag delay) seen time declared = later_of seen time
seen_after estimator.Declared seen time declared = later_of seen declared

-- The mark of what is left of an item after this was seen. With a lag of 5000, 61000 seen gives 56000; LEAST_TIME seen gives LEAST_TIME.
abbrev pub mark_of : Estimator → ℤ → ℤ
mark_of estimator.None seen = least_time
mark_of estimator.Monotonic seen = seen
mark_of (estimator.Lag delay) seen = int_max least_time (seen -ℤ delay)
mark_of estimator.Declared seen = seen

-- the least of some marks; FINAL where there is none
abbrev pub least_mark : List ℤ → ℤ
least_mark marks = fold int_min final_mark marks

-- the marks of a node; FINAL where there is no such node
abbrev pub marks_at : List StageMarks → ℕ → StageMarks
marks_at marks node = unwrap_or (slice_get marks node) (record { mark_in = final_mark; mark_out = final_mark })

-- the mark into a node is the least of those after its inputs, so FINAL at a source
abbrev pub mark_into : List StageMarks → List ℕ → ℤ
mark_into marks inputs = least_mark (map (λ input. (marks_at marks input).mark_out) inputs)

-- the marks of a node: into it, and after it the lesser of that and its least hold
abbrev pub node_marks : List StageMarks → List ℕ → ℤ → StageMarks
node_marks marks inputs hold = record { mark_in = mark_into marks inputs; mark_out = int_min (mark_into marks inputs) hold }

-- The marks of all nodes, where `hold` is the least hold of each. A checked plan's inputs are lower than their node, so it has one such list. Of a source with
-- the least hold 70000, a Group with 59999 and a Write, the marks after them are 70000, 59999 and 59999.
pub record AreMarks (plan : Plan) (hold : ℕ → ℤ) (marks : List StageMarks) : Type 0 where
  pub sized : length marks ≡ length plan.nodes
  pub each : (n : ℕ) (node : Node) → slice_get plan.nodes n ≡ Some node → marks_at marks n ≡ node_marks marks node.inputs (hold n)
