-- Lists of followers, input after input and node after node.
use Rattle.std.proofs.Common.{◌≡◌, ℕ, ◌+◌, ◌<◌, List, [], ◌∷◌, ◌++◌, length, get_or, take, sym, ap, ◌∙◌, append-nil, add-zero, zero-add, arith}
use Rattle.std.specs.List.{enumerate_from, flat_map}
use Rattle.std.proofs.lemmas.Grind.{flat_map-append}
use Rattle.std.proofs.lemmas.List.{length-take-le, take_more}
use Rattle.beam_values.specs.declared.plan.Node.{Node}
use Rattle.pipeline_graph.specs.Followers.{named, followers_in, IsFollowed}

-- ---- input after input

-- to each list the number was added as often as these inputs name it
pub record IsAdded (number : ℕ) (inputs : List ℕ) (before after : List (List ℕ)) : Type 0 where
  pub each : length after ≡ length before
  pub added : (from : ℕ) → from < length before → get_or after from [] ≡ get_or before from [] ++ named from number inputs

-- ---- node after node

pub enumerate_from-append : {X : Type 0} (n : ℕ) (xs ys : List X) → enumerate_from n (xs ++ ys) ≡ enumerate_from n xs ++ enumerate_from (n + length xs) ys
enumerate_from-append n [] ys = ap (λ (m : ℕ). enumerate_from m ys) (sym (add-zero n))
enumerate_from-append n (x ∷ xs) ys =
    ap (λ l. (n, x) ∷ l)
    (enumerate_from-append (n + 1) xs ys ∙ ap (λ (m : ℕ). enumerate_from (n + 1) xs ++ enumerate_from m ys) (omega arith))

pub followers_in-push : (nodes : List Node) (node : Node) (from : ℕ)
    → followers_in (nodes ++ node ∷ []) from ≡ followers_in nodes from ++ named from (length nodes) node.inputs
followers_in-push nodes node from =
    ap (flat_map (λ (numbered : ℕ × Node). named from numbered.0 numbered.1.inputs)) (enumerate_from-append 0 nodes (node ∷ []))
    ∙ flat_map-append (λ (numbered : ℕ × Node). named from numbered.0 numbered.1.inputs) (enumerate_from 0 nodes) (enumerate_from (0 + length nodes) (node ∷ []))
    ∙ ap (λ (l : List ℕ). followers_in nodes from ++ l) (append-nil (named from (0 + length nodes) node.inputs) ∙ ap (λ (m : ℕ). named from m node.inputs) (zero-add (length nodes)))

pub followed_more : (nodes : List Node) (number : ℕ) (node : Node) (inputs : List ℕ) (lists lists' : List (List ℕ)) → number < length nodes → node ≡ get_or nodes number node
    → inputs ≡ node.inputs → IsFollowed (length nodes) (take number nodes) lists → IsAdded number inputs lists lists'
    → IsFollowed (length nodes) (take (number + 1) nodes) lists'
followed_more nodes number node inputs lists lists' within is of_node so_far added = record {
  each = added.each ∙ so_far.each;
  at = λ from inside.
      added.added from (omega (arith, so_far.each))
      ∙ ap (λ (l : List ℕ). l ++ named from number inputs) (so_far.at from inside)
      ∙ ap (λ (l : List ℕ). followers_in (take number nodes) from ++ named from number l) of_node
      ∙ sym
      (ap (λ (l : List Node). followers_in l from) (take_more nodes number node within ∙ ap (λ (it : Node). take number nodes ++ it ∷ []) (sym is))
      ∙ followers_in-push (take number nodes) node from
      ∙ ap (λ (m : ℕ). followers_in (take number nodes) from ++ named from m node.inputs) (length-take-le number nodes (omega arith)));
}
