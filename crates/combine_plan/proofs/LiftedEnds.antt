-- How the run of a lifted plan ends, by what all kits folded and what the last job wrote.
use Rattle.std.proofs.Common.{◌≡◌, ℕ, ◌≤◌, Bool, true, List}
use Rattle.std.specs.Prelude.{Result, Err, IfErr, IfOk}
use Rattle.std.specs.List.{list_all}
use Rattle.beam_values.specs.declared.arrival.Arrival.{Arrival}
use Rattle.beam_values.specs.declared.piece.Done.{Done}
use Rattle.beam_values.specs.declared.plan.FnKind.{FnKind}
use Rattle.beam_values.specs.declared.plan.Plan.{Plan}
use Rattle.beam_values.specs.declared.value.Value.{Value}
use Rattle.beam_ports.specs.Counts.{rise}
use Rattle.beam_ports.specs.Observed.{ObservedStore}
use Rattle.bundle_work.proofs.Answered.{if_err, if_ok}
use Rattle.chain_exec.specs.Causes.{ObservedShelf}
use Rattle.combine_lift.specs.Folds.{AreFolds}
use Rattle.combine_lift.specs.Tables.{Added, StandsFor, Table}
use Rattle.combine_lift.specs.declared.combined.Combined.{Combined}
use Rattle.combine_laws.specs.Combined.{takes_of}
use Rattle.combine_laws.specs.Lasting.{HasLasted}
use Rattle.combine_plan.specs.Combined.{IsLiftedEnd, IsLiftedRefused, known_of}
use Rattle.combine_plan.specs.Folding.{IsFold}
use Rattle.combine_plan.specs.Lasting.{IsLastRefused}
use Rattle.combine_plan.specs.Lifting.{AreAllRanges, AreAllRefused, IsLiftedAt}
use Rattle.combine_plan.specs.declared.refusal.CombineRefusal.{CombineRefusal}
use Rattle.combine_plan.specs.declared.refusal.CombineRefusal.TheVariants.{Lift, Fault, NoMemory}
use Rattle.combine_plan.proofs.Lifted.{fold_refused, last_refused, lasted_combined}

module _ (shelf : ObservedShelf) (store : ObservedStore) (plan : Plan) (attempts function : ℕ) (work : FnKind) (lifted : IsLiftedAt plan function work) (takes : Value → Bool)
    (same_takes : (part : Value) → takes part ≡ takes_of work part) where
  cause_of : (refusal : CombineRefusal) → AreAllRefused takes shelf store plan attempts refusal → IsLiftedRefused (known_of shelf store) shelf store plan attempts lifted.group function work refusal
  cause_of NoMemory none = tt
  cause_of (Lift refusal) is =
      fold_refused (known_of shelf store) shelf store plan lifted.checked attempts lifted.group function work lifted.liftable lifted.has is.0 is.1.brings takes same_takes is.1.of_items (Lift refusal) is.2
  cause_of (Fault note) is =
      fold_refused (known_of shelf store) shelf store plan lifted.checked attempts lifted.group function work lifted.liftable lifted.has is.0 is.1.brings takes same_takes is.1.of_items (Fault note) is.2

  -- not all was folded
  pub unfolded_end : (refusal : CombineRefusal) → AreAllRefused takes shelf store plan attempts refusal → IsLiftedEnd (known_of shelf store) shelf store plan attempts (Err refusal)
  unfolded_end refusal is = record {
    liftable = lifted.liftable;
    group = lifted.group;
    function = function;
    work = work;
    has = lifted.has;
    combined = tt;
    refused = cause_of refusal is;
  }

  -- all was folded, and the last job ended so
  pub folded_end : {A : Type 0} (stands : A → List Value → Type 0) → ((acc : A) (parts : List Value) → stands acc parts → list_all takes parts ≡ true) → (ranges : List Done)
      → AreAllRanges store.files plan ranges → (table : Table A) → IsFold stands (known_of shelf store) plan ranges table → (rows : List Combined)
      → ((added : List Added) → StandsFor stands table added → AreFolds work added rows) → (own : ObservedShelf) → (shelf.strict ≡ true → own.strict ≡ true)
      → rise own.before own.after ≤ rise shelf.before shelf.after → 1 ≤ attempts → (result : Result (List Arrival) CombineRefusal) → IfOk result (HasLasted plan function rows)
      → IfErr result (IsLastRefused own plan function attempts rows) → IsLiftedEnd (known_of shelf store) shelf store plan attempts result
  folded_end stands taken ranges all table fold rows folds own strict rises some result lasted refused = record {
    liftable = lifted.liftable;
    group = lifted.group;
    function = function;
    work = work;
    has = lifted.has;
    combined = if_ok result
        (lasted_combined (known_of shelf store) shelf store plan lifted.checked attempts lifted.group function work lifted.liftable lifted.has ranges all.brings takes same_takes stands taken table fold
        rows folds) lasted;
    refused = if_err result
        (last_refused (known_of shelf store) shelf store plan lifted.checked attempts lifted.group function work lifted.liftable lifted.has ranges all.brings takes same_takes stands taken table fold
        rows folds own strict rises some) refused;
  }
