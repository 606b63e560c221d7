-- One bundle of a piece: it failed and is tried again, or what it brought was refused.
use Rattle.std.proofs.Common.{◌≡◌, inr, ℕ, ◌+◌, ◌<◌, ◌≤◌, Bool, List, [], ◌∷◌, map, refl, sym, ap, subst, ◌∙◌, arith}
use Rattle.std.specs.Prelude.{Result, Ok, Err, IfOk}
use Rattle.beam_values.specs.declared.arrival.Arrival.{Arrival}
use Rattle.beam_values.specs.declared.fault.Cause.{Cause}
use Rattle.beam_values.specs.declared.piece.Piece.{Piece}
use Rattle.beam_values.specs.declared.plan.Plan.{Plan}
use Rattle.beam_values.specs.declared.value.Value.{Value}
use Rattle.beam_model.specs.Chains.{Arrives}
use Rattle.beam_model.specs.Coverings.{spread_done}
use Rattle.beam_model.specs.Positions.{items}
use Rattle.beam_model.specs.Premises.{done_range}
use Rattle.beam_ports.specs.Observed.{ObservedStore, WhereTold}
use Rattle.book_core.specs.Work.{Surroundings}
use Rattle.chain_exec.specs.Causes.{ObservedShelf}
use Rattle.chain_exec.specs.declared.refusal.ExecRefusal.{ExecRefusal}
use Rattle.chain_exec.specs.declared.refusal.ExecRefusal.TheVariants.{Faulted}
use Rattle.chain_exec.specs.declared.refusal.ExecRefusal.TheVariants as exec
use Rattle.split_core.specs.Partition.{range_of}
use Rattle.combine_lift.specs.Tables.{Table}
use Rattle.combine_plan.specs.Folding.{HasFailed, IsAddRefused, IsBundleDone, IsBundleRefused, IsFailedAgain, IsFoldRefused, IsWorkFailed}
use Rattle.combine_plan.specs.declared.refusal.CombineRefusal.{CombineRefusal}
use Rattle.combine_plan.specs.declared.refusal.CombineRefusal.TheVariants.{Lift, Fault, NoMemory}
use Rattle.combine_plan.proofs.Folded.{folded_empty}
use Rattle.combine_plan.proofs.Ranges.{one_range, parts_join}
use Rattle.combine_plan.proofs.Refused.{added_refused, names_once, refused_as}

module _ {A : Type 0} (stands : A → List Value → Type 0) (takes : Value → Bool) (known : Surroundings) (shelf : ObservedShelf) (store : ObservedStore) (plan : Plan) (attempts : ℕ) (rest : Piece) where
  abbrev Done : Piece → Table A → Table A → Type 0
  Done left old new = IsBundleDone stands known shelf store plan attempts rest left old new

  abbrev Refused : ℕ → CombineRefusal → Type 0
  Refused parts refusal = IsBundleRefused takes known shelf store plan attempts rest parts refusal

  -- ---- it failed

  again : (at : ℕ) (cause : Cause) (left : Piece) (table : Table A) → rest.range.from ≤ rest.range.to → left ≡ record rest { attempts = rest.attempts + 1 } → rest.attempts + 1 < attempts
      → HasFailed known shelf store plan (range_of rest) at cause → Done left table table
  again at cause left table ordered is few failed =
      subst (λ (l : Piece). Done l table table) (sym is)
      (record {
        same = refl;
        behind = omega arith;
        within = ordered;
        limit = few;
        less = omega arith;
        folded = folded_empty stands known plan rest.node rest.item rest.range.from rest.range.from table (omega arith);
        fails = inr (refl, at, cause, failed);
      })

  pub failed_again : (refusal : ExecRefusal) (result : Result Piece CombineRefusal) (table : Table A) → rest.range.from ≤ rest.range.to → IsWorkFailed known shelf store plan (range_of rest) refusal
      → IsFailedAgain rest refusal attempts result → IfOk result (λ left. Done left table table)
  failed_again (Faulted at cause) (Ok left) table ordered failed tried = again at cause left table ordered tried.0 tried.1 failed
  failed_again (Faulted at cause) (Err refusal) table ordered failed tried = tt
  failed_again exec.NoMemory result table ordered failed tried = subst (λ (r : Result Piece CombineRefusal). IfOk r (λ left. Done left table table)) (sym tried) tt

  -- ---- it was worked, up to an offset, and what it brought is shown as a slice

  module _ (upto : ℕ) (arrivals shown : List Arrival) (same : shown ≡ arrivals) (onward : rest.range.from < upto) (within : upto ≤ rest.range.to)
      (told : WhereTold known.told (λ files. map Arrives arrivals ≡ spread_done plan (items files plan) (done_range rest.node rest.item rest.range.from upto))) where
    folded_refused : (parts : ℕ) (refusal : CombineRefusal) → IsAddRefused takes parts shown refusal → IsFoldRefused takes known shelf store plan attempts (range_of rest ∷ []) parts refusal
    folded_refused parts refusal refused =
        refused_as takes known shelf store plan attempts
        (done_range rest.node rest.item rest.range.from upto ∷ done_range rest.node rest.item upto rest.range.to ∷ [])
        (range_of rest ∷ []) parts
        (λ its. parts_join plan its rest.node rest.item rest.range.from upto rest.range.to (omega arith) within)
        (names_once rest.node rest.item rest.range.from upto rest.range.to)
        refusal
        (added_refused takes known shelf store plan attempts (done_range rest.node rest.item rest.range.from upto ∷ []) (done_range rest.node rest.item upto rest.range.to ∷ []) parts shown
        (λ files is. ap (map Arrives) same ∙ told files is ∙ sym (one_range plan (items files plan) (done_range rest.node rest.item rest.range.from upto))) refusal refused)

    pub bundle_refused : (parts : ℕ) (refusal : CombineRefusal) → IsAddRefused takes parts shown refusal → Refused parts refusal
    bundle_refused parts (Lift why) refused = folded_refused parts (Lift why) refused
    bundle_refused parts (Fault note) refused = absurd refused
    bundle_refused parts NoMemory refused = tt
