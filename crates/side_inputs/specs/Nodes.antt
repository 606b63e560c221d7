-- The nodes of a side input (Beam Programming Guide, Side inputs and windowing): both collections are grouped by their windows, and each pane is joined.
use Rattle.std.specs.Prelude.{◌≡◌, ℕ, ◌+◌, ◌<◌, pos, false, List, [], ◌∷◌, take, drop}
use Rattle.beam_values.specs.Nodes.{strategy_of}
use Rattle.beam_values.specs.declared.plan.Args.TheVariants.{Nothing, Number}
use Rattle.beam_values.specs.declared.plan.FnKind.{FnKind}
use Rattle.beam_values.specs.declared.plan.FnKind.TheVariants.{Tag, JoinList, JoinSingle, JoinLookup}
use Rattle.beam_values.specs.declared.plan.Node.{Node}
use Rattle.beam_values.specs.declared.plan.NodeKind.TheVariants.{ParDo, Flatten, Group}
use Rattle.beam_values.specs.declared.plan.Plan.{Plan}
use Rattle.beam_model.specs.Panes.{is_sessions}
use Rattle.beam_model.specs.Plans.{default_trigger, node}
use Rattle.side_inputs.specs.declared.nodes.ViewMode.{ViewMode}
use Rattle.side_inputs.specs.declared.nodes.ViewMode.TheVariants as mode

abbrev pub join_of : ViewMode → FnKind
join_of mode.List = JoinList
join_of mode.Single = JoinSingle
join_of mode.Lookup = JoinLookup

-- Of the main collection 4 and the view 5, with 6 as the first number: 6 tags 4, 7 tags 5, 8 flattens 6 and 7, 9 groups 8, and 10 joins the panes of 9.
abbrev pub side_nodes : ℕ → ℕ → ℕ → ViewMode → List Node
side_nodes main view first mode =
    node (ParDo Tag (Number (pos 1))) (main ∷ [])
    ∷ node (ParDo Tag (Number (pos 0))) (view ∷ [])
    ∷ node Flatten (first ∷ (first + 1) ∷ [])
    ∷ node (Group default_trigger) ((first + 2) ∷ [])
    ∷ node (ParDo (join_of mode) Nothing) ((first + 3) ∷ [])
    ∷ []

-- the number of its Group, which both collections come to
abbrev pub side_group : ℕ → ℕ
side_group first = first + 3

-- A side input stands in a plan from the number `first` on: its five nodes, of collections that come before them, whose windows don't merge.
pub record IsSideAt (plan : Plan) (first main view : ℕ) (mode : ViewMode) : Type 0 where
  pub nodes : take 5 (drop first plan.nodes) ≡ side_nodes main view first mode
  pub main_before : main < first
  pub view_before : view < first
  pub unmerged : is_sessions (strategy_of plan (side_group first)) ≡ false
