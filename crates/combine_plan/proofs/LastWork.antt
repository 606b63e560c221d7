-- What a job of combined elements brings, and why it is refused.
use Rattle.std.proofs.Common.{◌≡◌, ℕ, ◌++◌, Bool, List, [], ◌∷◌, map, Some, refl, sym, ap, subst, ◌∙◌}
use Rattle.std.specs.List.{All}
use Rattle.std.proofs.lemmas.List.Elements.{All-map}
use Rattle.beam_values.specs.Storable.{IsStorable}
use Rattle.beam_values.specs.declared.arrival.Arrival.{Arrival}
use Rattle.beam_values.specs.declared.cell.Pane.{Pane}
use Rattle.beam_values.specs.declared.element.Element.{Element}
use Rattle.beam_values.specs.declared.plan.Plan.{Plan}
use Rattle.beam_model.specs.Chains.{Output, Arrives, chain}
use Rattle.beam_model.specs.Flow.{batch_outputs}
use Rattle.chain_exec.specs.Causes.{ObservedShelf, IsCallRefused}
use Rattle.chain_exec.specs.declared.refusal.ExecRefusal.{ExecRefusal}
use Rattle.combine_lift.specs.declared.combined.Combined.{Combined}
use Rattle.combine_lift.specs.declared.refusal.LiftRefusal.TheVariants as lift
use Rattle.combine_laws.specs.Lasting.{HasLasted, chains_of, combined_element}
use Rattle.combine_plan.specs.Lasting.{ArePanesSpent, IsLastRefused, elements_of}
use Rattle.combine_plan.specs.declared.refusal.CombineRefusal.{CombineRefusal}
use Rattle.combine_plan.specs.declared.refusal.CombineRefusal.TheVariants.{Lift, Fault, NoMemory}

-- panes of one node bring what their elements do
pub batch_chains : (plan : Plan) (node : ℕ) (panes : List Pane) → batch_outputs plan node panes ≡ chains_of plan node (elements_of panes)
batch_chains plan node [] = refl
batch_chains plan node (pane ∷ panes) = ap (λ (outputs : List Output). chain plan node pane.element ++ outputs) (batch_chains plan node panes)

-- a refusal, seen from equal counts and of equal outputs
pub call_refused_same : (strict known : Bool) (start before failed after : ℕ) (xs ys : List Output) (refusal : ExecRefusal) → strict ≡ known → start ≡ before → failed ≡ after → xs ≡ ys
    → IsCallRefused (record { strict = strict; before = start; after = failed }) xs refusal → IsCallRefused (record { strict = known; before = before; after = after }) ys refusal
call_refused_same strict known start before failed after xs ys refusal is_strict is_start is_end outputs is =
    let shelf : ◌≡◌ {A = ObservedShelf} (record { strict = strict; before = start; after = failed }) (record { strict = known; before = before; after = after }) = cc in
    subst (λ (s : ObservedShelf). IsCallRefused s ys refusal) shelf (subst (λ (o : List Output). IsCallRefused (record { strict = strict; before = start; after = failed }) o refusal) outputs is)

-- panes of all rows were looked at and worked
module _ (plan : Plan) (function : ℕ) (rows : List Combined) (panes looked worked : List Pane) (each : map combined_element rows ≡ map Some (elements_of panes)) (same_looked : looked ≡ panes)
    (same_worked : worked ≡ panes) (storable : All (λ pane. IsStorable pane.element.value) looked) where
  of_rows : map combined_element rows ≡ map Some (elements_of worked)
  of_rows = each ∙ ap (λ (ps : List Pane). map Some (elements_of ps)) (sym same_worked)

  are_storable : All (λ element. IsStorable element.value) (elements_of worked)
  are_storable =
      All-map (λ (element : Element). IsStorable element.value) (λ (pane : Pane). pane.element) worked
      (subst (All (λ (pane : Pane). IsStorable pane.element.value)) (same_looked ∙ sym same_worked) storable)

  pub rows_lasted : (arrivals : List Arrival) → map Arrives arrivals ≡ chains_of plan function (elements_of worked) → HasLasted plan function rows arrivals
  rows_lasted arrivals arrived = record { elements = elements_of worked; each = of_rows; storable = are_storable; arrived = arrived }

  pub rows_refused : (shelf : ObservedShelf) (attempts : ℕ) (refusal : CombineRefusal) → ArePanesSpent shelf plan function attempts (elements_of worked) refusal
      → IsLastRefused shelf plan function attempts rows refusal
  rows_refused shelf attempts (Fault note) spent = (elements_of worked, of_rows, are_storable, spent)
  rows_refused shelf attempts (Lift lift.Shape) never = absurd never
  rows_refused shelf attempts (Lift lift.Part) never = absurd never
  rows_refused shelf attempts (Lift lift.Sum) never = absurd never
  rows_refused shelf attempts (Lift lift.Many) never = absurd never
  rows_refused shelf attempts NoMemory none = tt
