-- Why what was combined did not go on from the function.
use Rattle.std.specs.Prelude.{◌≡◌, ℕ, ◌≤◌, true, List, map, is_none, Some}
use Rattle.std.specs.List.{All, list_any}
use Rattle.beam_values.specs.Storable.{IsStorable}
use Rattle.beam_values.specs.declared.element.Element.{Element}
use Rattle.beam_values.specs.declared.cell.Pane.{Pane}
use Rattle.beam_values.specs.declared.fault.Cause.TheVariants.{Call}
use Rattle.beam_values.specs.declared.fault.FaultNote.{FaultNote}
use Rattle.beam_values.specs.declared.plan.Plan.{Plan}
use Rattle.beam_model.specs.Spread.{first_poison}
use Rattle.beam_ports.specs.Counts.{rise}
use Rattle.chain_exec.specs.Causes.{ObservedShelf}
use Rattle.combine_lift.specs.declared.combined.Combined.{Combined}
use Rattle.combine_lift.specs.declared.refusal.LiftRefusal.TheVariants as lift
use Rattle.combine_laws.specs.Lasting.{chains_of, combined_element}
use Rattle.combine_plan.specs.declared.refusal.CombineRefusal.{CombineRefusal}
use Rattle.combine_plan.specs.declared.refusal.CombineRefusal.TheVariants.{Lift, Fault, NoMemory}

-- the panes are these elements
abbrev pub elements_of : List Pane → List Element
elements_of panes = map (λ pane. pane.element) panes

-- The combined elements were worked as often as they may, and each time a call failed and was counted; over a strict shelf some chain of them is poison at
-- this node.
pub record IsLastSpent (shelf : ObservedShelf) (plan : Plan) (function attempts : ℕ) (elements : List Element) (note : FaultNote) : Type 0 where
  pub node : note.node ≡ function
  pub item : note.item ≡ 0
  pub attempt : note.attempt ≡ attempts
  pub cause : note.cause ≡ Call
  pub counted : attempts ≤ rise shelf.before shelf.after
  pub poison : shelf.strict ≡ true → first_poison (chains_of plan function elements) ≡ Some note.at

-- why combined elements did not go on: some row has no value; or they failed as often as they may; or there was no memory
abbrev pub IsLastRefused : ObservedShelf → Plan → ℕ → ℕ → List Combined → CombineRefusal → Type 0
IsLastRefused shelf plan function attempts rows (Lift lift.Sum) = list_any (λ row. is_none row.value) rows ≡ true
IsLastRefused shelf plan function attempts rows (Fault note) =
    (elements : List Element) × (map combined_element rows ≡ map Some elements) × All (λ element. IsStorable element.value) elements
    × IsLastSpent shelf plan function attempts elements note
IsLastRefused shelf plan function attempts rows NoMemory = Unit {0}
IsLastRefused shelf plan function attempts rows _ = ⊥

-- the same of panes of these elements
abbrev pub ArePanesSpent : ObservedShelf → Plan → ℕ → ℕ → List Element → CombineRefusal → Type 0
ArePanesSpent shelf plan function attempts elements (Fault note) = IsLastSpent shelf plan function attempts elements note
ArePanesSpent shelf plan function attempts elements NoMemory = Unit {0}
ArePanesSpent shelf plan function attempts elements _ = ⊥

-- why no panes were made of rows
abbrev pub ArePanesRefused : List Combined → CombineRefusal → Type 0
ArePanesRefused rows (Lift lift.Sum) = list_any (λ row. is_none row.value) rows ≡ true
ArePanesRefused rows NoMemory = Unit {0}
ArePanesRefused rows _ = ⊥

-- why no pane was made of a row
abbrev pub IsPaneRefused : Combined → CombineRefusal → Type 0
IsPaneRefused row (Lift lift.Sum) = is_none row.value ≡ true
IsPaneRefused row NoMemory = Unit {0}
IsPaneRefused row _ = ⊥
