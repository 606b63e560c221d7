-- Flow: all that a run brings to its barriers.
use Rattle.std.specs.Prelude.{ℕ, Bool, ◌==◌, List, ◌++◌, map}
use Rattle.std.specs.List.{flat_map, filter}
use Rattle.beam_values.specs.declared.element.Element.{Element}
use Rattle.beam_values.specs.declared.arrival.Arrival.{Arrival}
use Rattle.beam_values.specs.declared.cell.Pane.{Pane}
use Rattle.beam_values.specs.declared.log.KeyLog.{KeyLog}
use Rattle.beam_values.specs.declared.plan.Plan.{Plan}
use Rattle.beam_model.specs.Positions.{SourceItem}
use Rattle.beam_model.specs.Chains.{Output, chain}
use Rattle.beam_model.specs.Spread.{spread_all}

-- what panes bring from their Groups
abbrev pub pane_chains : Plan → List Pane → List Output
pane_chains plan panes = flat_map (λ pane. chain plan pane.node pane.element) panes

-- what panes of one Group bring from it
abbrev pub batch_outputs : Plan → ℕ → List Pane → List Output
batch_outputs plan node panes = flat_map (λ pane. chain plan node pane.element) panes

-- what the outputs of stateful calls bring from their nodes
abbrev pub log_chains : Plan → List KeyLog → List Output
log_chains plan logs = flat_map (λ log. flat_map (λ entry. flat_map (chain plan log.node) entry.outputs) log.entries) logs

-- all positions of all items, all panes, and all outputs of stateful calls, each once
abbrev pub flow : Plan → List SourceItem → List Pane → List KeyLog → List Output
flow plan items panes logs = spread_all plan items ++ (pane_chains plan panes ++ log_chains plan logs)

abbrev pub is_at : ℕ → Arrival → Bool
is_at node arrival = arrival.node == node

-- the elements that arrived at a node
abbrev pub elements_at : ℕ → List Arrival → List Element
elements_at node arrivals = map (λ arrival. arrival.element) (filter (is_at node) arrivals)
