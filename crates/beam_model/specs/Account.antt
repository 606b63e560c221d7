-- The account: each output that flows to a barrier arrived there once, and no other element did.
use Rattle.std.specs.Prelude.{◌≡◌, ℕ, true, List, [], ◌∷◌, ◌++◌, map}
use Rattle.std.specs.List.{All, flat_map}
use Rattle.beam_values.specs.Bags.{IsSameBag}
use Rattle.beam_values.specs.Nodes.{is_group, is_stateful, is_write}
use Rattle.beam_values.specs.declared.arrival.Arrival.{Arrival}
use Rattle.beam_values.specs.declared.cell.Cell.{Cell}
use Rattle.beam_values.specs.declared.cell.Dropped.{Dropped}
use Rattle.beam_values.specs.declared.log.KeyLog.{KeyLog}
use Rattle.beam_values.specs.declared.log.LogInput.{LogInput}
use Rattle.beam_values.specs.declared.log.LogInput.TheVariants.{Arrived, Fired}
use Rattle.beam_values.specs.declared.outcome.Outcome.{Outcome}
use Rattle.beam_model.specs.Chains.{Arrives}
use Rattle.beam_model.specs.Dead.{items_without}
use Rattle.beam_model.specs.Flow.{flow}
use Rattle.beam_model.specs.Positions.{SourceItem}

-- what a Group took, as it arrived
abbrev pub cell_arrivals : Cell → List Arrival
cell_arrivals cell = map (λ entry. record { node = cell.node; element = entry.element }) cell.entries

abbrev pub dropped_arrival : Dropped → Arrival
dropped_arrival dropped = record { node = dropped.node; element = dropped.element }

abbrev pub input_arrival : ℕ → LogInput → List Arrival
input_arrival node (Arrived e) = record { node = node; element = e } ∷ []
input_arrival node (Fired timer) = []

-- what a key of a Stateful node took
abbrev pub log_arrivals : KeyLog → List Arrival
log_arrivals log = flat_map (λ entry. input_arrival log.node entry.input) log.entries

-- what arrived at the Groups, also what they dropped, at the Stateful nodes and at the Writes
abbrev pub arrivals_of : List Cell → List Dropped → List KeyLog → List Arrival → List Arrival
arrivals_of cells dropped logs written =
    flat_map cell_arrivals cells ++ (map dropped_arrival dropped ++ (flat_map log_arrivals logs ++ written))

abbrev pub arrivals : Outcome → List Arrival
arrivals o = arrivals_of o.cells o.dropped o.logs o.written

-- The arrivals are one bag with the flow of the outcome, without its dead positions, and none of the flow is poison: the outputs of every other position,
-- every pane and every stateful output came to each barrier that it reaches exactly once, and nothing else did. Each part of the record is of nodes of its kind, so the arrivals of a Group are
-- in its cells or dropped, those of a Stateful node in its logs, and those of a Write are written.
pub record IsAccounted (items : List SourceItem) (o : Outcome) : Type 0 where
  pub cells : All (λ cell. is_group o.plan cell.node ≡ true) o.cells
  pub dropped : All (λ dropped. is_group o.plan dropped.node ≡ true) o.dropped
  pub panes : All (λ pane. is_group o.plan pane.node ≡ true) o.panes
  pub logs : All (λ log. is_stateful o.plan log.node ≡ true) o.logs
  pub written : All (λ arrival. is_write o.plan arrival.node ≡ true) o.written
  pub flow : IsSameBag (flow o.plan (items_without o.dead items) o.panes o.logs) (map Arrives (arrivals o))
