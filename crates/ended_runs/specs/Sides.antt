-- Side inputs of a run that came to its end (Beam Programming Guide, Side inputs and windowing): what their joins put out.
use Rattle.std.specs.Prelude.{◌≡◌, ℕ, ◌==◌, ◌≤ℤ◌, List, [], unwrap_or}
use Rattle.std.specs.List.{All, filter, flat_map}
use Rattle.beam_values.specs.Nodes.{HasNoStatefulAbove}
use Rattle.beam_values.specs.declared.cell.Pane.{Pane}
use Rattle.beam_values.specs.declared.element.Element.{Element}
use Rattle.beam_values.specs.declared.outcome.Outcome.{Outcome}
use Rattle.beam_values.specs.declared.plan.Args.TheVariants.{Nothing}
use Rattle.beam_model.specs.Dead.{items_without}
use Rattle.beam_model.specs.Estimators.{AreSoundAbove}
use Rattle.beam_model.specs.Functions.{emits}
use Rattle.beam_model.specs.Panes.{mark_after}
use Rattle.beam_model.specs.Plain.{HasDefaultTriggersAbove}
use Rattle.beam_model.specs.Positions.{SourceItem}
use Rattle.beam_model.specs.Sides.{IsPutOutAt, IsSidePlain}
use Rattle.side_inputs.specs.Nodes.{IsSideAt, join_of, side_group}
use Rattle.side_inputs.specs.declared.nodes.ViewMode.{ViewMode}

-- what the join of a side input puts out of these panes
abbrev pub joined_of : ViewMode → ℕ → List Pane → List Element
joined_of mode first panes = flat_map (λ pane. unwrap_or (emits (join_of mode) Nothing pane.element) []) (filter (λ pane. pane.node == side_group first) panes)

-- What a side input gives: each element of the main collection is joined once, by its mode, with the whole view of its window, and nothing else is put
-- out; and each pane fired only once its window had passed. Both collections are what plain grouping of the whole input gives, without its dead positions.
pub record IsSideGiven (items : List SourceItem) (o : Outcome) (first main view : ℕ) (mode : ViewMode) : Type 0 where
  pub mains : List Element
  pub views : List Element
  pub main_input : IsPutOutAt o.plan (items_without o.dead items) (side_group first) main mains
  pub view_input : IsPutOutAt o.plan (items_without o.dead items) (side_group first) view views
  pub joined : IsSidePlain (join_of mode) mains views (joined_of mode first o.panes)
  pub waited : All (λ pane. pane.node ≡ side_group first → pane.element.span.end ≤ℤ mark_after o.commits (side_group first) pane.commit) o.panes

-- Each side input with no Stateful node above it, where every Group above has the default trigger and every estimator above is sound.
abbrev pub AreSidesGivenWhere : List SourceItem → Outcome → Type 0
AreSidesGivenWhere items o =
    (first main view : ℕ) (mode : ViewMode) → IsSideAt o.plan first main view mode → HasNoStatefulAbove o.plan (side_group first) → HasDefaultTriggersAbove o.plan (side_group first) → AreSoundAbove o.plan items (side_group first)
    → IsSideGiven items o first main view mode
