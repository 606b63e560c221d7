-- Holds: what keeps the watermarks of a run back (The Dataflow Model, watermarks; which holds there are is this profile's).
use Rattle.std.specs.Prelude.{ℕ, ℤ, ◌==◌, if◌then◌else◌, Option, Some, None, List, ◌++◌, map, slice_get, unwrap_or}
use Rattle.std.specs.Int.{int_max}
use Rattle.std.specs.Ordering.{int_eq}
use Rattle.std.specs.List.{filter}
use Rattle.std.specs.Option.{option_map}
use Rattle.beam_values.specs.Marks.{mark_of, least_mark, marks_at, AreMarks}
use Rattle.beam_values.specs.declared.arrival.Arrival.{Arrival}
use Rattle.beam_values.specs.declared.cell.Pane.{Pane}
use Rattle.beam_values.specs.declared.marks.StageMarks.{StageMarks}
use Rattle.beam_values.specs.declared.piece.Piece.{Piece}
use Rattle.beam_values.specs.declared.plan.Estimator.{Estimator}
use Rattle.beam_values.specs.declared.plan.Estimator.TheVariants as estimator
use Rattle.beam_values.specs.declared.plan.NodeKind.{NodeKind}
use Rattle.beam_values.specs.declared.plan.NodeKind.TheVariants.{Source}
use Rattle.beam_values.specs.declared.plan.Plan.{Plan}

-- a node is held back at a mark
pub record Hold : Type 0 where
  pub node : ℕ
  pub mark : ℤ

abbrev pub estimator_in : NodeKind → Estimator
estimator_in (Source work args files estimator) = estimator
estimator_in _ = estimator.None

-- the estimator of a source
abbrev pub estimator_of : Plan → ℕ → Estimator
estimator_of plan node = unwrap_or (option_map (λ n. estimator_in n.kind) (slice_get plan.nodes node)) estimator.None

-- a piece that isn't committed holds its source back at its mark
abbrev pub piece_hold : Plan → Piece → Hold
piece_hold plan piece = record { node = piece.node; mark = mark_of (estimator_of plan piece.node) piece.seen }

-- A pane that waits or is worked holds its Group back at the greater of its time and the mark after the Group before the commit that fired it. The on-time
-- pane of `[0, 60000)` that is fired where that mark was 70000 holds it at 70000.
abbrev pub pane_hold : List StageMarks → Pane → Hold
pane_hold before pane = record { node = pane.node; mark = int_max pane.element.time (marks_at before pane.node).mark_out }

-- An element that waits at a Stateful node, or is worked there, holds the node back at the greater of its time and the mark after the node before the
-- commit that brought it.
abbrev pub arrival_hold : List StageMarks → Arrival → Hold
arrival_hold before arrival = record { node = arrival.node; mark = int_max arrival.element.time (marks_at before arrival.node).mark_out }

-- a timer that is set: its time, and the mark at which it holds its node back
pub record HeldTimer : Type 0 where
  pub time : ℤ
  pub hold : ℤ

abbrev pub hold_of_timer : ℤ → ℤ → Option HeldTimer → ℤ
hold_of_timer mark time None = int_max time mark
hold_of_timer mark time (Some old) = if int_eq old.time time then old.hold else int_max time mark

-- A timer after a commit that leaves it set to `time`, where `mark` was the mark after its node before that commit and `old` the timer: one that has the
-- time that it had keeps its hold, also where it was set again; another holds at the greater of its time and the mark. At the mark 2000 a timer that is set
-- to 1500 holds at 2000, and still does so once the mark is 3000; set anew to 4000 it holds at 4000.
abbrev pub timer_after : ℤ → Option HeldTimer → Option ℤ → Option HeldTimer
timer_after mark old None = None
timer_after mark old (Some time) = Some (record { time = time; hold = hold_of_timer mark time old })

abbrev pub marks_held : List Hold → ℕ → List ℤ
marks_held holds node = map (λ hold. hold.mark) (filter (λ hold. hold.node == node) holds)

-- the least hold of a node; FINAL where it has none
abbrev pub least_hold : List Hold → ℕ → ℤ
least_hold holds node = least_mark (marks_held holds node)

-- the marks of all nodes, from all pieces that aren't committed and all other holds: no mark is kept from before
abbrev pub AreMarksOf : Plan → List Piece → List Hold → List StageMarks → Type 0
AreMarksOf plan pieces holds marks = AreMarks plan (least_hold (map (piece_hold plan) pieces ++ holds)) marks
