-- The premises of the laws, and what the laws speak of.
use Rattle.std.specs.Prelude.{◌≡◌, ◌⊎◌, ℕ, ◌<◌, ℤ, pos, ◌≤ℤ◌, Bool, true, slice_get, Some}
use Rattle.std.specs.Option.{option_map}
use Rattle.beam_values.specs.Intervals.{Interval}
use Rattle.beam_values.specs.declared.element.Element.{Element}
use Rattle.beam_values.specs.declared.piece.Done.{Done}
use Rattle.beam_values.specs.declared.log.LogInput.{LogInput}
use Rattle.beam_values.specs.declared.log.LogInput.TheVariants.{Arrived, Fired}
use Rattle.beam_values.specs.declared.plan.Args.{Args}
use Rattle.beam_values.specs.declared.plan.FnKind.{FnKind}
use Rattle.beam_values.specs.declared.plan.FnKind.TheVariants.{Shift}
use Rattle.beam_values.specs.declared.plan.NodeKind.{NodeKind}
use Rattle.beam_values.specs.declared.plan.Plan.{Plan}
use Rattle.beam_values.specs.declared.value.Value.{Value}
use Rattle.beam_model.specs.Chains.{Output, Arrives, PoisonAt}
use Rattle.beam_model.specs.Functions.{number_arg}
use Rattle.beam_values.specs.Nodes.{is_barrier_kind, is_par_do_kind}
use Rattle.beam_values.specs.Times.{greatest_time}
use Rattle.beam_values.specs.Sessions.{IsApart}
use Rattle.beam_model.specs.Sessions.{is_keyed}

-- the range `[from, to)` of an item, committed
abbrev pub done_range : ℕ → ℕ → ℕ → ℕ → Done
done_range node item from to = record { node = node; item = item; range = record { from = from; to = to } }

-- a node of the plan, after the node n, whose kind passes a test
abbrev pub IsAfter : (NodeKind → Bool) → Plan → ℕ → ℕ → Type 0
IsAfter passes plan n node = (n < node) × (option_map (λ it. passes it.kind) (slice_get plan.nodes node) ≡ Some true)

-- what comes of an output of the node n ends at a barrier after it, or a ParDo after it finds it to be poison
abbrev pub EndsAfter : Plan → ℕ → Output → Type 0
EndsAfter plan n (Arrives arrival) = IsAfter is_barrier_kind plan n arrival.node
EndsAfter plan n (PoisonAt node) = IsAfter is_par_do_kind plan n node

-- With the window and the pane's tag of an element, not before it, and within the bounds of a time: shifted by 10, an element at 9223372036854770 is put out
-- at 9223372036854775.
pub record KeepsPlace (e output : Element) : Type 0 where
  pub span : output.span ≡ e.span
  pub pane : output.pane ≡ e.pane
  pub time : e.time ≤ℤ output.time
  pub bound : output.time ≤ℤ greatest_time

-- a shift goes forward
abbrev pub IsForward : FnKind → Args → Type 0
IsForward Shift args = pos 0 ≤ℤ number_arg args
IsForward _ args = Unit {0}

-- the window of what a stateful call is on: the element's, or that of the timer's state
abbrev pub input_span : Interval → LogInput → Interval
input_span span (Arrived e) = e.span
input_span span (Fired timer) = span

abbrev pub input_time : LogInput → ℤ
input_time (Arrived e) = e.time
input_time (Fired timer) = timer.time

-- in the window and at the time of what the call is on
abbrev pub IsOfCall : Interval → LogInput → Element → Type 0
IsOfCall span input output = (output.span ≡ input_span span input) × (output.time ≡ input_time input)

-- elements of this key are in one window, or in two that are apart
abbrev pub AreOneOrApart : Value → Element → Element → Type 0
AreOneOrApart key a b = is_keyed key a ≡ true → is_keyed key b ≡ true → (a.span ≡ b.span) ⊎ IsApart a.span b.span
