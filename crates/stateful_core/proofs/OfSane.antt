-- What is known of a sane key cell: its node is a Stateful one of the plan, and it has eight timers, of which one at most is set, to a time.
use Rattle.std.proofs.Common.{◌≡◌, ℕ, zero, suc, ◌+◌, ◌*◌, ◌<◌, ◌≤◌, ℤ, ◌≤ℤ◌, true, false, List, ◌∷◌, length, replicate, Option, Some, None, refl, ap, subst, ◌∙◌, arith}
use Rattle.std.specs.Prelude.{slice_get, unwrap_or}
use Rattle.std.specs.List.{sum_by}
use Rattle.std.specs.Option.{option_map}
use Rattle.std.proofs.lemmas.Option.{slice_get_within}
use Rattle.beam_values.specs.Nodes.{is_stateful, is_stateful_kind}
use Rattle.beam_values.specs.States.{timer_of}
use Rattle.beam_values.specs.Times.{greatest_time}
use Rattle.beam_values.specs.declared.marks.CommitMarks.{CommitMarks}
use Rattle.beam_values.specs.declared.plan.Node.{Node}
use Rattle.beam_values.specs.declared.plan.NodeKind.{NodeKind}
use Rattle.beam_values.specs.declared.plan.NodeKind.TheVariants.{Stateful}
use Rattle.beam_values.specs.declared.plan.Plan.{Plan}
use Rattle.beam_values.specs.declared.plan.StateKind.{StateKind}
use Rattle.beam_values.specs.declared.plan.StateKind.TheVariants.{Dedupe, RunningSum, BatchUntil, LatestThenEmit}
use Rattle.stateful_core.specs.Cells.{KeyCell}
use Rattle.stateful_core.specs.Facts.{IsCellSane}
use Rattle.stateful_core.specs.Lasting.{left_of, one_if_set}
use Rattle.stateful_core.specs.Timers.{IsAllowed, AreTimersOf, AreTimersAt, AreTimersIn}

-- ---- the timers of a function

-- a timer that is set is timer 0
pub set_name : (first : Option ℤ) (name : ℕ) (time : ℤ) → timer_of (first ∷ replicate 7 None) name ≡ Some time → (name ≡ 0) × (first ≡ Some time)
set_name first zero time e = (refl, e)
set_name first (suc name) time e = absurd (none name e)
  where
    none : (k : ℕ) → timer_of (replicate 7 None) k ≡ Some time → ⊥
    none zero f = cc
    none (suc zero) f = cc
    none (suc (suc zero)) f = cc
    none (suc (suc (suc zero))) f = cc
    none (suc (suc (suc (suc zero)))) f = cc
    none (suc (suc (suc (suc (suc zero))))) f = cc
    none (suc (suc (suc (suc (suc (suc zero)))))) f = cc
    none (suc (suc (suc (suc (suc (suc (suc k))))))) f = cc

allowed_time : (kind : StateKind) (time : ℤ) → IsAllowed kind (Some time) → time ≤ℤ greatest_time
allowed_time Dedupe time h = absurd h
allowed_time RunningSum time h = absurd h
allowed_time BatchUntil time h = h
allowed_time LatestThenEmit time h = h

kind_time : (kind : StateKind) (timers : List (Option ℤ)) (name : ℕ) (time : ℤ) → AreTimersOf kind timers → timer_of timers name ≡ Some time → time ≤ℤ greatest_time
kind_time kind timers name time h e =
    let set = set_name h.first name time (subst (λ (l : List (Option ℤ)). timer_of l name ≡ Some time) h.is e) in
    allowed_time kind time (subst (IsAllowed kind) set.1 h.allowed)

set_first : (first : Option ℤ) → sum_by one_if_set (first ∷ replicate 7 None) ≡ one_if_set first
set_first None = refl
set_first (Some time) = refl

pub timers_left : (kind : StateKind) (timers : List (Option ℤ)) (h : AreTimersOf kind timers) → sum_by one_if_set timers ≡ one_if_set h.first
timers_left kind timers h = ap (sum_by one_if_set) h.is ∙ set_first h.first

at_most_one : (o : Option ℤ) → one_if_set o ≤ 1
at_most_one None = omega arith
at_most_one (Some time) = omega arith

pub few_left : (kind : StateKind) (timers : List (Option ℤ)) → AreTimersOf kind timers → sum_by one_if_set timers ≤ 1
few_left kind timers h = omega (arith, timers_left kind timers h, at_most_one h.first)

-- ---- at a node

at_kind : (kind : NodeKind) (timers : List (Option ℤ)) → AreTimersAt kind timers → (work : StateKind) × AreTimersOf work timers × (is_stateful_kind kind ≡ true)
at_kind (Stateful work args logged) timers h = (work, h, refl)
at_kind _ timers h = absurd h

in_node : (found : Option Node) (timers : List (Option ℤ)) → AreTimersIn found timers → (node : Node) × (found ≡ Some node) × AreTimersAt node.kind timers
in_node (Some node) timers h = (node, refl, h)
in_node None timers h = absurd h

pub timers_sized : (found : Option Node) (timers : List (Option ℤ)) → AreTimersIn found timers → length timers ≡ 8
timers_sized found timers h =
    let own = in_node found timers h in
    let work = at_kind own.0.kind timers own.2 in
    ap length work.1.is

module _ (plan : Plan) (commits : List CommitMarks) (cell : KeyCell) (h : IsCellSane plan commits cell) where
  own : (node : Node) × (slice_get plan.nodes cell.log.node ≡ Some node) × AreTimersAt node.kind cell.kept.timers
  own = in_node (slice_get plan.nodes cell.log.node) cell.kept.timers h.timers

  of_kind : (work : StateKind) × AreTimersOf work cell.kept.timers × (is_stateful_kind own.0.kind ≡ true)
  of_kind = at_kind own.0.kind cell.kept.timers own.2

  pub cell_timers : (work : StateKind) × AreTimersOf work cell.kept.timers
  cell_timers = (of_kind.0, of_kind.1)

  pub cell_stateful : is_stateful plan cell.log.node ≡ true
  cell_stateful = ap (λ (found : Option Node). unwrap_or (option_map (λ (n : Node). is_stateful_kind n.kind) found) false) own.1 ∙ of_kind.2

  pub cell_within : cell.log.node < length plan.nodes
  cell_within = slice_get_within plan.nodes cell.log.node own.0 own.1

  pub cell_time : (name : ℕ) (time : ℤ) → timer_of cell.kept.timers name ≡ Some time → time ≤ℤ greatest_time
  cell_time name time e = kind_time cell_timers.0 cell.kept.timers name time cell_timers.1 e

  -- what is left of a cell is told by its elements, but for one timer
  pub cell_left : left_of cell ≤ 9 * length cell.waiting + 1
  cell_left = omega (arith, few_left cell_timers.0 cell.kept.timers cell_timers.1)
