-- Data of a sane key cell, key by key.
use Rattle.std.specs.Prelude.{◌≡◌, ℕ, ◌<◌, ◌≤◌, List, length, count_by, slice_get, Option, Some, None}
use Rattle.std.specs.List.{All}
use Rattle.beam_values.specs.declared.plan.Node.{Node}
use Rattle.beam_values.specs.declared.plan.NodeKind.{NodeKind}
use Rattle.beam_values.specs.declared.plan.NodeKind.TheVariants.{Stateful}
use Rattle.beam_values.specs.declared.plan.Plan.{Plan}
use Rattle.beam_values.specs.declared.plan.StateKind.{StateKind}
use Rattle.stateful_core.specs.Data.{is_timer, times_of}
use Rattle.stateful_core.specs.Timers.{AreTimersOf}
use Rattle.stateful_core.specs.declared.data.KeyData.{KeyData}
use Rattle.stateful_core.specs.declared.data.SetTimer.{SetTimer}

-- they have distinct names below 8, and the function sets them; of a function that gives the latest value, timer 0 alone
pub record AreTimersAllowed (work : StateKind) (timers : List SetTimer) : Type 0 where
  pub named : All (λ set. set.timer.name < 8) timers
  pub once : (name : ℕ) → count_by (is_timer name) timers ≤ 1
  pub allowed : AreTimersOf work (times_of timers)

abbrev pub AreTimersAllowedAt : NodeKind → List SetTimer → Type 0
AreTimersAllowedAt (Stateful work args log) timers = AreTimersAllowed work timers
AreTimersAllowedAt _ timers = ⊥

abbrev pub AreTimersAllowedIn : Option Node → List SetTimer → Type 0
AreTimersAllowedIn (Some node) timers = AreTimersAllowedAt node.kind timers
AreTimersAllowedIn None timers = ⊥

pub record IsKeySane (plan : Plan) (d : KeyData) : Type 0 where
  pub states : length d.state ≡ 8
  pub timers : AreTimersAllowedIn (slice_get plan.nodes d.node) d.timers
