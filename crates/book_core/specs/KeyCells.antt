-- Key cells as the book sees them.
use Rattle.std.specs.Prelude.{◌≡◌, ℕ, Bool, true, false, List, map, Option}
use Rattle.std.specs.List.{count_by, list_any}
use Rattle.std.specs.Option.{option_map}
use Rattle.beam_values.specs.Nodes.{is_stateful_kind}
use Rattle.beam_values.specs.declared.arrival.Arrival.{Arrival}
use Rattle.beam_values.specs.declared.log.LogInput.{LogInput}
use Rattle.beam_values.specs.declared.log.LogInput.TheVariants.{Arrived, Fired}
use Rattle.beam_values.specs.declared.plan.Plan.{Plan}
use Rattle.bundle_commit.specs.declared.job.Logged.{Logged}
use Rattle.stateful_core.specs.Cells.{KeyCell}
use Rattle.stateful_core.specs.KeyWork.{numbered_entry}
use Rattle.stateful_core.specs.Opening.{IsPrepared, SeenKeys}
use Rattle.stateful_core.specs.Placing.{Done}
use Rattle.book_core.specs.declared.live.Live.{Live}
use Rattle.book_core.specs.declared.live.Live.TheVariants as live

abbrev pub cells_in : SeenKeys → List KeyCell
cells_in keys = keys.cells

-- the plan has a Stateful node
abbrev pub has_stateful : Plan → Bool
has_stateful plan = list_any (λ node. is_stateful_kind node.kind) plan.nodes

-- a commit of this job and these arrivals can be placed without memory; only of a plan that has a Stateful node it has to be prepared for that
abbrev pub CanPlace : Plan → Option Done → List Arrival → SeenKeys → Type 0
CanPlace plan done arrivals keys = has_stateful plan ≡ true → IsPrepared plan done arrivals keys

-- ---- the job of a key cell

abbrev pub is_arrived : LogInput → Bool
is_arrived (Arrived element) = true
is_arrived (Fired timer) = false

-- so many elements it is on; of a timer's job none
abbrev pub elements_of : Live → ℕ
elements_of (live.Span piece attempted) = 0
elements_of (live.Batch batch) = 0
elements_of (live.Key turn) = count_by is_arrived turn.inputs

-- what a receipt had noted of what is left, with its entries under commit 0
abbrev pub logged_of : Option Done → Option Logged
logged_of = option_map (λ done. record { state = done.kept.cells; timers = done.kept.timers; entries = map (numbered_entry 0) done.entries })
