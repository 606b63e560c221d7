-- Chains by way of the followers of a node.
use Rattle.std.proofs.Common.{◌≡◌, ◌⊎◌, inl, inr, ℕ, zero, suc, ◌+◌, ◌<◌, ◌≤◌, ◌==◌, Bool, true, false, cond, List, [], ◌∷◌, ◌++◌, length, get_or, map, take, drop, Option, Some, slice_get, refl, sym, ap, subst, ◌∙◌, zero-add, arith}
use Rattle.std.specs.Prelude.{unwrap_or}
use Rattle.std.specs.Option.{option_map}
use Rattle.std.specs.List.{All, enumerate_from, filter, flat_map}
use Rattle.std.proofs.lemmas.Bool.{cases_lt, ne_eqb}
use Rattle.std.proofs.lemmas.Grind.{flat_map-append}
use Rattle.std.proofs.lemmas.List.{drop-drop, drop_all, get_or-take, length-drop, length-take, length-take-le, take-append-drop}
use Rattle.std.proofs.lemmas.List.Elements.{All-append, All-head, All-map, All-nil, All-tail, All-weaker}
use Rattle.std.proofs.lemmas.Option.{slice_get-get_or}
use Rattle.beam_values.specs.Checked.{IsChecked}
use Rattle.beam_values.specs.declared.element.Element.{Element}
use Rattle.beam_values.specs.declared.plan.Node.{Node}
use Rattle.beam_values.specs.declared.plan.Plan.{Plan}
use Rattle.beam_model.specs.Chains.{Output, chain, chain_from, through}
use Rattle.pipeline_graph.specs.Followers.{followers_of, named}
use Rattle.pipeline_graph.specs.Taking.{taken_by}
use Rattle.pipeline_graph.proofs.CheckedPlans.{inputs_lower}
use Rattle.pipeline_graph.proofs.FollowerLists.{enumerate_from-append}

-- the followers of a node among these, the first of which has the number `next`
abbrev pub followers_from : ℕ → List Node → ℕ → List ℕ
followers_from next nodes from = flat_map (λ numbered. named from numbered.0 numbered.1.inputs) (enumerate_from next nodes)

-- ---- no node up to this one follows it

named_none : (from number : ℕ) (inputs : List ℕ) → All (λ input. input ≡ from → ⊥) inputs → named from number inputs ≡ []
named_none from number [] others = refl
named_none from number (input ∷ inputs) others =
    ap (λ (b : Bool). map (λ (_ : ℕ). number) (cond b (input ∷ filter (λ it. it == from) inputs) (filter (λ it. it == from) inputs)))
    (ne_eqb input from (All-head (λ it. it ≡ from → ⊥) input inputs others))
    ∙ named_none from number inputs (All-tail (λ it. it ≡ from → ⊥) input inputs others)

none_follow : (from next : ℕ) (nodes : List Node) → All (λ node. All (λ input. input ≡ from → ⊥) node.inputs) nodes → followers_from next nodes from ≡ []
none_follow from next [] others = refl
none_follow from next (node ∷ later) others =
    ap (λ (l : List ℕ). l ++ followers_from (next + 1) later from)
    (named_none from next node.inputs (All-head (λ (it : Node). All (λ input. input ≡ from → ⊥) it.inputs) node later others))
    ∙ none_follow from (next + 1) later (All-tail (λ (it : Node). All (λ input. input ≡ from → ⊥) it.inputs) node later others)

followers_from-append : (from : ℕ) (nodes more : List Node)
    → followers_from 0 (nodes ++ more) from ≡ followers_from 0 nodes from ++ followers_from (length nodes) more from
followers_from-append from nodes more =
    ap (flat_map (λ (numbered : ℕ × Node). named from numbered.0 numbered.1.inputs)) (enumerate_from-append 0 nodes more)
    ∙ flat_map-append (λ (numbered : ℕ × Node). named from numbered.0 numbered.1.inputs) (enumerate_from 0 nodes) (enumerate_from (0 + length nodes) more)
    ∙ ap (λ (m : ℕ). followers_from 0 nodes from ++ followers_from m more from) (zero-add (length nodes))

-- in a checked plan a node has its followers among those after it
pub later_followers : (plan : Plan) (n : ℕ) → IsChecked plan → followers_of plan n ≡ followers_from (n + 1) (drop (n + 1) plan.nodes) n
later_followers plan n checked =
    ap (λ (l : List Node). followers_from 0 l n) (sym (take-append-drop (n + 1) plan.nodes))
    ∙ followers_from-append n (take (n + 1) plan.nodes) (drop (n + 1) plan.nodes)
    ∙ ap (λ (l : List ℕ). l ++ followers_from (length (take (n + 1) plan.nodes)) (drop (n + 1) plan.nodes) n) (none_follow n 0 (take (n + 1) plan.nodes) others)
    ∙ at_end (cases_lt n (length plan.nodes))
  where
    others : All (λ node. All (λ input. input ≡ n → ⊥) node.inputs) (take (n + 1) plan.nodes)
    others k d inside j e within same =
        let before : k < n + 1 = omega (arith, length-take (n + 1) plan.nodes) in
        let held : k < length plan.nodes = omega (arith, length-take (n + 1) plan.nodes) in
        let read : get_or (take (n + 1) plan.nodes) k d ≡ get_or plan.nodes k d = get_or-take (n + 1) plan.nodes k d before in
        let node = get_or (take (n + 1) plan.nodes) k d in
        let lower : get_or node.inputs j e < k = inputs_lower plan k node checked (slice_get-get_or plan.nodes k d held ∙ ap (λ (it : Node). Some it) (sym read)) j e within in
        omega arith

    at_end : (n < length plan.nodes) ⊎ (length plan.nodes ≤ n)
        → followers_from (length (take (n + 1) plan.nodes)) (drop (n + 1) plan.nodes) n ≡ followers_from (n + 1) (drop (n + 1) plan.nodes) n
    at_end (inl inside) = ap (λ (m : ℕ). followers_from m (drop (n + 1) plan.nodes) n) (length-take-le (n + 1) plan.nodes (omega arith))
    at_end (inr past) =
        let none : drop (n + 1) plan.nodes ≡ [] = drop_all (n + 1) plan.nodes (omega arith) in
        ap (λ (l : List Node). followers_from (length (take (n + 1) plan.nodes)) l n) none ∙ sym (ap (λ (l : List Node). followers_from (n + 1) l n) none)

-- ---- followers lie between the first of these nodes and the last

abbrev IsBetween : ℕ → ℕ → ℕ → Type 0
IsBetween first end number = (first ≤ number) × (number < end)

named_between : (from number first end : ℕ) (inputs : List ℕ) → IsBetween first end number → All (IsBetween first end) (named from number inputs)
named_between from number first end inputs between = All-map (IsBetween first end) (λ _. number) (filter (λ input. input == from) inputs) (λ k d inside. between)

pub followers_between : (from next end : ℕ) (nodes : List Node) → next + length nodes ≤ end → All (IsBetween next end) (followers_from next nodes from)
followers_between from next end [] within = All-nil (IsBetween next end)
followers_between from next end (node ∷ later) within =
    All-append (IsBetween next end) (named from next node.inputs) (followers_from (next + 1) later from)
    (named_between from next next end node.inputs (omega arith, omega arith))
    (All-weaker (IsBetween (next + 1) end) (IsBetween next end) (λ m between. (omega (arith, between.0), between.1)) (followers_from (next + 1) later from)
    (followers_between from (next + 1) end later (omega arith)))

pub followers_later : (plan : Plan) (n : ℕ) → IsChecked plan → All (λ follower. (n < follower) × (follower < length plan.nodes)) (followers_of plan n)
followers_later plan n checked =
    subst (All (λ follower. (n < follower) × (follower < length plan.nodes))) (sym (later_followers plan n checked)) (at_end (cases_lt n (length plan.nodes)))
  where
    at_end : (n < length plan.nodes) ⊎ (length plan.nodes ≤ n)
        → All (λ follower. (n < follower) × (follower < length plan.nodes)) (followers_from (n + 1) (drop (n + 1) plan.nodes) n)
    at_end (inl inside) =
        All-weaker (IsBetween (n + 1) (length plan.nodes)) (λ follower. (n < follower) × (follower < length plan.nodes))
        (λ m between. (omega (arith, between.0), between.1)) (followers_from (n + 1) (drop (n + 1) plan.nodes) n)
        (followers_between n (n + 1) (length plan.nodes) (drop (n + 1) plan.nodes) (omega (arith, length-drop (n + 1) plan.nodes)))
    at_end (inr past) =
        subst (λ (l : List Node). All (λ follower. (n < follower) × (follower < length plan.nodes)) (followers_from (n + 1) l n))
        (sym (drop_all (n + 1) plan.nodes (omega arith))) (All-nil (λ follower. (n < follower) × (follower < length plan.nodes)))

-- ---- chains

-- what each input that names a node brings, as often as it does
each_named : (from number : ℕ) (inputs : List ℕ) (onward : ℕ → List Output) (outputs : List Output) → onward number ≡ outputs
    → flat_map (λ input. cond (input == from) outputs []) inputs ≡ flat_map onward (named from number inputs)
each_named from number [] onward outputs is = refl
each_named from number (input ∷ inputs) onward outputs is =
    ap (λ (l : List Output). cond (input == from) outputs [] ++ l) (each_named from number inputs onward outputs is)
    ∙ by_test (input == from)
  where
    kept : List ℕ
    kept = filter (λ it. it == from) inputs

    by_test : (b : Bool) → cond b outputs [] ++ flat_map onward (map (λ _. number) kept) ≡ flat_map onward (map (λ _. number) (cond b (input ∷ kept) kept))
    by_test true = ap (λ (l : List Output). l ++ flat_map onward (map (λ (_ : ℕ). number) kept)) (sym is)
    by_test false = refl

read_first : {X : Type 0} (xs : List X) (n : ℕ) (x : X) (later : List X) → drop n xs ≡ x ∷ later → slice_get xs n ≡ Some x
read_first [] zero x later is = absurd cc
read_first [] (suc n) x later is = absurd cc
read_first (y ∷ ys) zero x later is = cc
read_first (y ∷ ys) (suc n) x later is = read_first ys n x later is

module _ (plan : Plan) (e : Element) (from : ℕ) where
  chain_by_followers : (nodes : List Node) (next : ℕ) → drop next plan.nodes ≡ nodes
      → chain_from nodes next from e ≡ flat_map (taken_by plan e) (followers_from next nodes from)
  chain_by_followers [] next rest = refl
  chain_by_followers (node ∷ later) next rest =
      let after : drop (next + 1) plan.nodes ≡ later = sym (drop-drop 1 next plan.nodes) ∙ ap (drop 1) rest in
      let taken : taken_by plan e next ≡ through next node.kind (chain_from later (next + 1) next) e =
      ap (λ (found : Option Node). unwrap_or (option_map (λ it. through next it.kind (chain plan next) e) found) []) (read_first plan.nodes next node later rest)
      ∙ ap (λ (l : List Node). through next node.kind (chain_from l (next + 1) next) e) after in
      ap (λ (l : List Output). flat_map (λ input. cond (input == from) (through next node.kind (chain_from later (next + 1) next) e) []) node.inputs ++ l)
      (chain_by_followers later (next + 1) after)
      ∙ ap (λ (l : List Output). l ++ flat_map (taken_by plan e) (followers_from (next + 1) later from))
      (each_named from next node.inputs (taken_by plan e) (through next node.kind (chain_from later (next + 1) next) e) taken)
      ∙ sym (flat_map-append (taken_by plan e) (named from next node.inputs) (followers_from (next + 1) later from))

pub chain-followers : (plan : Plan) (n : ℕ) (e : Element) → IsChecked plan → chain plan n e ≡ flat_map (taken_by plan e) (followers_of plan n)
chain-followers plan n e checked =
    chain_by_followers plan e n (drop (n + 1) plan.nodes) (n + 1) refl ∙ sym (ap (flat_map (taken_by plan e)) (later_followers plan n checked))
