-- The calls of a key job, one after another.
use Rattle.std.proofs.Common.{◌≡◌, ℕ, ◌+◌, ◌<◌, List, [], ◌∷◌, ◌++◌, length, map, drop, get_or, Option, Some, None, refl, sym, ap, ◌∙◌, append_assoc}
use Rattle.std.specs.List.{flat_map}
use Rattle.std.specs.Option.{option_map, option_and_then}
use Rattle.std.proofs.lemmas.List.{append-nil, drop_more}
use Rattle.beam_values.specs.Intervals.{Interval}
use Rattle.beam_values.specs.States.{KeptState}
use Rattle.beam_values.specs.declared.arrival.Arrival.{Arrival}
use Rattle.beam_values.specs.declared.log.LogEntry.{LogEntry}
use Rattle.beam_values.specs.declared.log.LogInput.{LogInput}
use Rattle.beam_values.specs.declared.plan.Args.{Args}
use Rattle.beam_values.specs.declared.plan.Plan.{Plan}
use Rattle.beam_values.specs.declared.plan.StateKind.{StateKind}
use Rattle.beam_values.specs.declared.value.Value.{Value}
use Rattle.beam_model.specs.Chains.{Output, Arrives, chain}
use Rattle.beam_model.specs.Spread.{first_poison}
use Rattle.beam_model.specs.Steps.{Stepped, steps}
use Rattle.stateful_core.specs.Facts.{Folded, noted, folded}
use Rattle.stateful_core.specs.KeyWork.{call_outputs, calls_outputs}
use Rattle.chain_exec.specs.KeyCalls.{behind}
use Rattle.chain_exec.proofs.Poisons.{first_in_front, none_in_front, same_first}

behind_more : (entries : List LogEntry) (input : LogInput) (outputs : _) (o : Option Folded)
    → option_map (behind entries) (option_map (noted 0 input outputs) o) ≡ option_map (behind (entries ++ (record { input = input; commit = 0; outputs = outputs }) ∷ [])) o
behind_more entries input outputs None = refl
behind_more entries input outputs (Some all) =
    ap (λ (l : List LogEntry). Some (record all { entries = l })) (sym (append_assoc entries ((record { input = input; commit = 0; outputs = outputs }) ∷ []) all.entries))

-- the first poison of a call is that of the work from it on
part_first : (plan : Plan) (node : ℕ) (onward : KeptState → List Output) (called : Option Stepped) (at : ℕ) → first_poison (call_outputs plan node (λ after. []) called) ≡ Some at
    → first_poison (call_outputs plan node onward called) ≡ Some at
part_first plan node onward None at e = e
part_first plan node onward (Some s) at e =
    first_in_front (flat_map (chain plan node) s.outputs) (onward s.kept) at (ap first_poison (sym (append-nil (flat_map (chain plan node) s.outputs))) ∙ e)

part_none : (plan : Plan) (node : ℕ) (onward : KeptState → List Output) (called : Option Stepped) → first_poison (call_outputs plan node onward called) ≡ None
    → first_poison (call_outputs plan node (λ after. []) called) ≡ None
part_none plan node onward None e = e
part_none plan node onward (Some s) e =
    ap first_poison (append-nil (flat_map (chain plan node) s.outputs)) ∙ none_in_front (flat_map (chain plan node) s.outputs) (onward s.kept) e

module _ (plan : Plan) (node : ℕ) (work : StateKind) (args : Args) (key : Value) (span : Interval) (inputs : List LogInput) (i : ℕ) (input : LogInput) (inside : i < length inputs)
    (read : input ≡ get_or inputs i input) where
  abbrev left : List LogInput
  left = drop (i + 1) inputs

  split : drop i inputs ≡ input ∷ left
  split = drop_more inputs i input inside ∙ ap (λ x. x ∷ left) (sym read)

  from_here : (kept : KeptState) → calls_outputs plan node work args key span (drop i inputs) kept ≡ call_outputs plan node (calls_outputs plan node work args key span left) (steps work args key span input kept)
  from_here kept = ap (λ l. calls_outputs plan node work args key span l kept) split

  module _ (start old : List Arrival) (kept first : KeptState)
      (staged : map Arrives old ++ calls_outputs plan node work args key span (drop i inputs) kept ≡ map Arrives start ++ calls_outputs plan node work args key span inputs first) where
    whole_first : first_poison (calls_outputs plan node work args key span (drop i inputs) kept) ≡ first_poison (calls_outputs plan node work args key span inputs first)
    whole_first = same_first old start (calls_outputs plan node work args key span (drop i inputs) kept) (calls_outputs plan node work args key span inputs first) staged

    pub poison_of_part : (at : ℕ) → first_poison (call_outputs plan node (λ after. []) (steps work args key span input kept)) ≡ Some at
        → first_poison (calls_outputs plan node work args key span inputs first) ≡ Some at
    poison_of_part at e = sym whole_first ∙ ap first_poison (from_here kept) ∙ part_first plan node (calls_outputs plan node work args key span left) (steps work args key span input kept) at e

    pub none_of_part : first_poison (calls_outputs plan node work args key span inputs first) ≡ None → first_poison (call_outputs plan node (λ after. []) (steps work args key span input kept)) ≡ None
    none_of_part e = part_none plan node (calls_outputs plan node work args key span left) (steps work args key span input kept) (ap first_poison (sym (from_here kept)) ∙ whole_first ∙ e)

    pub staged_more : (new : List Arrival) (after : Stepped) (now : KeptState) → steps work args key span input kept ≡ Some after → now ≡ after.kept
        → map Arrives new ≡ map Arrives old ++ flat_map (chain plan node) after.outputs
        → map Arrives new ++ calls_outputs plan node work args key span left now ≡ map Arrives start ++ calls_outputs plan node work args key span inputs first
    staged_more new after now is kept_is arrives =
        let flat = flat_map (chain plan node) after.outputs in
        (λ j. arrives j ++ calls_outputs plan node work args key span left (kept_is j))
        ∙ append_assoc (map Arrives old) flat (calls_outputs plan node work args key span left after.kept)
        ∙ ap (λ l. map Arrives old ++ l) (sym (from_here kept ∙ ap (call_outputs plan node (calls_outputs plan node work args key span left)) is))
        ∙ staged

  pub folded_more : (all : Option Folded) (entries logged : List LogEntry) (kept now : KeptState) (after : Stepped) → steps work args key span input kept ≡ Some after → now ≡ after.kept
      → logged ≡ entries ++ (record { input = input; commit = 0; outputs = after.outputs }) ∷ []
      → all ≡ option_map (behind entries) (folded work args key span 0 kept (drop i inputs))
      → all ≡ option_map (behind logged) (folded work args key span 0 now left)
  folded_more all entries logged kept now after is kept_is logged_is e =
      e ∙ ap (λ l. option_map (behind entries) (folded work args key span 0 kept l)) split
      ∙ ap (λ (o : Option Stepped). option_map (behind entries) (option_and_then (λ (s : Stepped). option_map (noted 0 input s.outputs) (folded work args key span 0 s.kept left)) o)) is
      ∙ behind_more entries input after.outputs (folded work args key span 0 after.kept left)
      ∙ (λ j. option_map (behind (sym logged_is j)) (folded work args key span 0 (sym kept_is j) left))
