-- What a receipt of a key job gives: the fold of its calls, and the chains of their outputs.
use Rattle.std.proofs.Common.{◌≡◌, ℕ, List, [], ◌∷◌, ◌++◌, map, Option, Some, None, refl, sym, ap, subst, ◌∙◌}
use Rattle.std.specs.List.{flat_map}
use Rattle.std.specs.Option.{option_map, option_and_then}
use Rattle.beam_values.specs.Intervals.{Interval}
use Rattle.beam_values.specs.States.{KeptState}
use Rattle.beam_values.specs.declared.arrival.Arrival.{Arrival}
use Rattle.beam_values.specs.declared.log.LogEntry.{LogEntry}
use Rattle.beam_values.specs.declared.log.LogInput.{LogInput}
use Rattle.beam_values.specs.declared.plan.Args.{Args}
use Rattle.beam_values.specs.declared.plan.Node.{Node}
use Rattle.beam_values.specs.declared.plan.NodeKind.{NodeKind}
use Rattle.beam_values.specs.declared.plan.NodeKind.TheVariants.{Stateful}
use Rattle.beam_values.specs.declared.plan.Plan.{Plan}
use Rattle.beam_values.specs.declared.plan.StateKind.{StateKind}
use Rattle.beam_values.specs.declared.value.Value.{Value}
use Rattle.beam_model.specs.Chains.{Output, Arrives, PoisonAt, chain}
use Rattle.beam_model.specs.Steps.{Stepped, steps}
use Rattle.stateful_core.specs.Facts.{Folded, noted, folded, folded_at, folded_in}
use Rattle.stateful_core.specs.KeyWork.{call_outputs, calls_outputs, outputs_at, outputs_in, numbered_entry, numbered, entry_chains}

-- outputs that all arrive have no poison in them
abbrev AllArrive : List Output → Type 0
AllArrive [] = Unit {0}
AllArrive (Arrives a ∷ outputs) = AllArrive outputs
AllArrive (PoisonAt n ∷ outputs) = ⊥

arriving : (arrivals : List Arrival) → AllArrive (map Arrives arrivals)
arriving [] = tt
arriving (a ∷ arrivals) = arriving arrivals

arrive_behind : (xs ys : List Output) → AllArrive (xs ++ ys) → AllArrive ys
arrive_behind [] ys h = h
arrive_behind (Arrives a ∷ xs) ys h = arrive_behind xs ys h
arrive_behind (PoisonAt n ∷ xs) ys h = absurd h

module _ (plan : Plan) (node : ℕ) (kind : StateKind) (args : Args) (key : Value) (span : Interval) (c : ℕ) where
  -- what is folded, and its chains are the outputs
  pub record Works (inputs : List LogInput) (kept : KeptState) : Type 0 where
    pub all : Folded
    pub folds : folded kind args key span c kept inputs ≡ Some all
    pub brings : entry_chains plan node all.entries ≡ calls_outputs plan node kind args key span inputs kept

  calls_fold : (inputs : List LogInput) (kept : KeptState) → AllArrive (calls_outputs plan node kind args key span inputs kept) → Works inputs kept
  calls_fold [] kept h = record { all = record { kept = kept; entries = [] }; folds = refl; brings = refl }
  calls_fold (input ∷ inputs) kept h = by (calls_fold inputs) (steps kind args key span input kept) refl h
    where
      by : ((k : KeptState) → AllArrive (calls_outputs plan node kind args key span inputs k) → Works inputs k) → (o : Option Stepped) → steps kind args key span input kept ≡ o → AllArrive (call_outputs plan node (calls_outputs plan node kind args key span inputs) o) → Works (input ∷ inputs) kept
      by rec None e k = absurd k
      by rec (Some s) e k =
          let rest = rec s.kept (arrive_behind (flat_map (chain plan node) s.outputs) (calls_outputs plan node kind args key span inputs s.kept) k) in
          record {
            all = noted c input s.outputs rest.all;
            folds = ap (option_and_then (λ (t : Stepped). option_map (noted c input t.outputs) (folded kind args key span c t.kept inputs))) e ∙ ap (option_map (noted c input s.outputs)) rest.folds;
            brings = ap (λ l. flat_map (chain plan node) s.outputs ++ l) rest.brings ∙ sym (ap (call_outputs plan node (calls_outputs plan node kind args key span inputs)) e);
          }

  pub given_fold : (inputs : List LogInput) (kept : KeptState) (arrivals : List Arrival) → map Arrives arrivals ≡ calls_outputs plan node kind args key span inputs kept → Works inputs kept
  given_fold inputs kept arrivals e = calls_fold inputs kept (subst AllArrive e (arriving arrivals))

-- ---- the number of the commit

module _ (kind : StateKind) (args : Args) (key : Value) (span : Interval) (c : ℕ) where
  pub folded_numbered : (inputs : List LogInput) (kept : KeptState) → folded kind args key span c kept inputs ≡ option_map (numbered c) (folded kind args key span 0 kept inputs)
  folded_numbered [] kept = refl
  folded_numbered (input ∷ inputs) kept = by (folded_numbered inputs) (steps kind args key span input kept)
    where
      onward : (s : Stepped) (o : Option Folded) → option_map (noted c input s.outputs) (option_map (numbered c) o) ≡ option_map (numbered c) (option_map (noted 0 input s.outputs) o)
      onward s None = refl
      onward s (Some all) = refl

      by : ((k : KeptState) → folded kind args key span c k inputs ≡ option_map (numbered c) (folded kind args key span 0 k inputs)) → (o : Option Stepped)
          → option_and_then (λ (s : Stepped). option_map (noted c input s.outputs) (folded kind args key span c s.kept inputs)) o
          ≡ option_map (numbered c) (option_and_then (λ (s : Stepped). option_map (noted 0 input s.outputs) (folded kind args key span 0 s.kept inputs)) o)
      by rec None = refl
      by rec (Some s) = ap (option_map (noted c input s.outputs)) (rec s.kept) ∙ onward s (folded kind args key span 0 s.kept inputs)

at_numbered : (kind : NodeKind) (key : Value) (span : Interval) (c : ℕ) (kept : KeptState) (inputs : List LogInput)
    → folded_at kind key span c kept inputs ≡ option_map (numbered c) (folded_at kind key span 0 kept inputs)
at_numbered (Stateful work args log) key span c kept inputs = folded_numbered work args key span c inputs kept
at_numbered _ key span c kept inputs = refl

pub in_numbered : (found : Option Node) (key : Value) (span : Interval) (c : ℕ) (kept : KeptState) (inputs : List LogInput)
    → folded_in found key span c kept inputs ≡ option_map (numbered c) (folded_in found key span 0 kept inputs)
in_numbered (Some node) key span c kept inputs = at_numbered node.kind key span c kept inputs
in_numbered None key span c kept inputs = refl

chains_numbered : (plan : Plan) (node c : ℕ) (entries : List LogEntry) → entry_chains plan node (map (numbered_entry c) entries) ≡ entry_chains plan node entries
chains_numbered plan node c [] = refl
chains_numbered plan node c (entry ∷ entries) = ap (λ l. flat_map (chain plan node) entry.outputs ++ l) (chains_numbered plan node c entries)

-- ---- the whole of it: what is committed of a receipt at a Stateful node is the fold under the commit's number, and its chains are the arrivals

pub record Placed (plan : Plan) (n : ℕ) (found : Option Node) (key : Value) (span : Interval) (inputs : List LogInput) (kept : KeptState) (c : ℕ) (arrivals : List Arrival) (logged : Option Folded) : Type 0 where
  pub all : Folded
  pub was : logged ≡ Some all
  pub folds : folded_in found key span c kept inputs ≡ Some (numbered c all)
  pub brings : entry_chains plan n (numbered c all).entries ≡ map Arrives arrivals

abbrev pub IsCalled : NodeKind → Type 0
IsCalled (Stateful work args log) = Unit {0}
IsCalled _ = ⊥

abbrev pub IsCalledIn : Option Node → Type 0
IsCalledIn (Some node) = IsCalled node.kind
IsCalledIn None = ⊥

at_given : (plan : Plan) (n : ℕ) (kind : NodeKind) (key : Value) (span : Interval) (inputs : List LogInput) (kept : KeptState) (c : ℕ) (arrivals : List Arrival) (logged : Option Folded)
    → IsCalled kind → map Arrives arrivals ≡ outputs_at plan n kind key span inputs kept → logged ≡ folded_at kind key span 0 kept inputs
    → (all : Folded) × (logged ≡ Some all) × (folded_at kind key span c kept inputs ≡ Some (numbered c all)) × (entry_chains plan n (numbered c all).entries ≡ map Arrives arrivals)
at_given plan n (Stateful work args log) key span inputs kept c arrivals logged called e f =
    let works = given_fold plan n work args key span 0 inputs kept arrivals e in (
      works.all,
      f ∙ works.folds,
      folded_numbered work args key span c inputs kept ∙ ap (option_map (numbered c)) works.folds,
      chains_numbered plan n c works.all.entries ∙ works.brings ∙ sym e,
    )
at_given plan n _ key span inputs kept c arrivals logged called e f = absurd called

pub key_given : (plan : Plan) (n : ℕ) (found : Option Node) (key : Value) (span : Interval) (inputs : List LogInput) (kept : KeptState) (c : ℕ) (arrivals : List Arrival) (logged : Option Folded)
    → IsCalledIn found → map Arrives arrivals ≡ outputs_in plan n found key span inputs kept → logged ≡ folded_in found key span 0 kept inputs
    → Placed plan n found key span inputs kept c arrivals logged
key_given plan n (Some node) key span inputs kept c arrivals logged called e f =
    let h = at_given plan n node.kind key span inputs kept c arrivals logged called e f in
    record { all = h.0; was = h.1; folds = h.2; brings = h.3 }
key_given plan n None key span inputs kept c arrivals logged called e f = absurd called
