-- Side inputs by window (Beam Programming Guide, Side inputs and windowing): what they mean over whole collections, where each main element meets the
-- values of the view that have its window.
use Rattle.std.specs.Prelude.{◌≡◌, ℕ, ◌+◌, true, ◌==◌, if◌then◌else◌, List, [], ◌∷◌, ◌++◌, drop, map, Option, Some, None, unwrap_or}
use Rattle.std.specs.List.{filter, flat_map}
use Rattle.std.specs.Option.{option_map}
use Rattle.beam_values.specs.Bags.{IsSameBag}
use Rattle.beam_values.specs.Grouping.{last_time}
use Rattle.beam_values.specs.Intervals.{Interval}
use Rattle.beam_values.specs.Lines.{spread}
use Rattle.beam_values.specs.Nodes.{is_above}
use Rattle.beam_values.specs.Spans.{same_span}
use Rattle.beam_values.specs.Windows.{windows_of}
use Rattle.beam_values.specs.declared.arrival.Arrival.{Arrival}
use Rattle.beam_values.specs.declared.element.Element.{Element}
use Rattle.beam_values.specs.declared.element.Timing.TheVariants.{OnTime}
use Rattle.beam_values.specs.declared.plan.FnKind.{FnKind}
use Rattle.beam_values.specs.declared.plan.Node.{Node}
use Rattle.beam_values.specs.declared.plan.NodeKind.{NodeKind}
use Rattle.beam_values.specs.declared.plan.NodeKind.TheVariants.{Source, ParDo, Flatten, WindowInto, Group, Stateful, Write}
use Rattle.beam_values.specs.declared.plan.Plan.{Plan}
use Rattle.beam_values.specs.declared.value.Value.{Value}
use Rattle.beam_model.specs.Estimators.{emission_at}
use Rattle.beam_model.specs.Functions.{emits, joined_value}
use Rattle.beam_model.specs.Plain.{IsPlainRun}
use Rattle.beam_model.specs.Positions.{Emission, Emits, Poison, SourceItem, len_of}
use Rattle.beam_model.specs.Spread.{from_source}

-- ---- what a node puts out, node by node and not at the barriers alone

abbrev pub own_output : ℕ → ℕ → Element → List Element
own_output target node e = if node == target then e ∷ [] else []

-- what comes of an element behind a node of this kind, where `onward` is what comes of each of its outputs; a barrier keeps it
abbrev pub put_out_through : NodeKind → (Element → List Element) → Element → List Element
put_out_through (Source work args files estimator) onward e = []
put_out_through (ParDo work args) onward e = flat_map onward (unwrap_or (emits work args e) [])
put_out_through Flatten onward e = onward e
put_out_through (WindowInto strategy) onward e = flat_map (λ span. onward (record e { span = span })) (windows_of strategy e.time)
put_out_through (Group trigger) onward e = []
put_out_through (Stateful work args log) onward e = []
put_out_through (Write label) onward e = []

-- what the node `target` puts out of an output of `from`, by way of these nodes, the first of which has the number `next`
abbrev pub put_out_from : ℕ → List Node → ℕ → ℕ → Element → List Element
put_out_from target [] next from e = []
put_out_from target (node ∷ later) next from e =
    flat_map (λ input. if input == from then put_out_through node.kind (λ x. own_output target next x ++ put_out_from target later (next + 1) next x) e else []) node.inputs
    ++ put_out_from target later (next + 1) from e

-- What the node `target` puts out of an output of `from` with no barrier between them; the output itself where they are one node. Of a source 0, a ParDo
-- Words 1 of it and a Group 2 of that, the line `to be` of the source gives at node 1 the two words, at node 0 the line, and at node 2 nothing.
abbrev pub put_out_by : Plan → ℕ → ℕ → Element → List Element
put_out_by plan target from e = own_output target from e ++ put_out_from target (drop (from + 1) plan.nodes) (from + 1) from e

abbrev pub emission_puts_out : Plan → ℕ → ℕ → Emission → List Element
emission_puts_out plan target node (Emits values declared) = flat_map (λ v. put_out_by plan target node (from_source v)) values
emission_puts_out plan target node Poison = []

abbrev pub item_puts_out : Plan → ℕ → SourceItem → List Element
item_puts_out plan target item = spread (λ p. emission_puts_out plan target item.node (emission_at item p)) 0 (len_of item)

-- what a node puts out of all positions of all items, and of these panes of Groups
abbrev pub put_out_of : Plan → List SourceItem → List Arrival → ℕ → List Element
put_out_of plan items panes target =
    flat_map (item_puts_out plan target) items ++ flat_map (λ pane. put_out_by plan target pane.node pane.element) panes

-- the collection of a node above a barrier, as a bag, in a plain run up to that barrier
abbrev pub IsPutOutAt : Plan → List SourceItem → ℕ → ℕ → List Element → Type 0
IsPutOutAt plan items barrier target elements =
    (is_above plan target barrier ≡ true)
    × ((arrivals : List Arrival) × (panes : List Arrival) × IsPlainRun plan items barrier arrivals panes × IsSameBag elements (put_out_of plan items panes target))

-- ---- main elements and the view of their windows

-- the values of the elements that have this window
abbrev pub values_of_window : Interval → List Element → List Value
values_of_window span elements = map (λ e. e.value) (filter (λ e. same_span e.span span) elements)

-- a value at the end of its window, as the pane of a Group has it
abbrev pub at_window_end : Interval → Value → Element
at_window_end span v = record { value = v; time = last_time span; span = span; pane = record { timing = OnTime; index = 0 } }

-- a main element joined with the view of its window, if it can be
abbrev pub joined_element : FnKind → List Element → Element → Option Element
joined_element work views main = option_map (at_window_end main.span) (joined_value work (values_of_window main.span views) main.value)

-- The plain side input: each main element is joined once, as a bag, and nothing else is. Of the mains `x` in `[0, 60000)` and `y` in `[60000, 120000)` and the
-- view `5` in the first window, a join with all values gives `x` with `[5]` and `y` with `[]`; one with the only value can't be.
abbrev pub IsSidePlain : FnKind → List Element → List Element → List Element → Type 0
IsSidePlain work mains views joined = IsSameBag (map Some joined) (map (joined_element work views) mains)
