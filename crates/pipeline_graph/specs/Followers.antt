-- The nodes that take what a node puts out (Beam Programming Guide, Creating a pipeline).
use Rattle.std.specs.Prelude.{◌≡◌, ℕ, ◌<◌, ◌==◌, List, [], filter, length, map, slice_index_or}
use Rattle.std.specs.List.{enumerate_from, flat_map}
use Rattle.beam_values.specs.declared.plan.Node.{Node}
use Rattle.beam_values.specs.declared.plan.Plan.{Plan}

-- the number of a node with these inputs, as often as they name the node `from`
abbrev pub named : ℕ → ℕ → List ℕ → List ℕ
named from number inputs = map (λ _. number) (filter (λ input. input == from) inputs)

abbrev pub followers_in : List Node → ℕ → List ℕ
followers_in nodes from = flat_map (λ numbered. named from numbered.0 numbered.1.inputs) (enumerate_from 0 nodes)

-- The nodes that name a node as an input, ascending, and as often as they name it. Of a source 0, a Flatten 1 of it taken twice, and a Write 2 of the
-- source: 1, 1 and 2 for the source, none for the Flatten and the Write.
abbrev pub followers_of : Plan → ℕ → List ℕ
followers_of plan from = followers_in plan.nodes from

-- for each of so many nodes its followers among these
pub record IsFollowed (count : ℕ) (nodes : List Node) (followers : List (List ℕ)) : Type 0 where
  pub each : length followers ≡ count
  pub at : (from : ℕ) → from < count → slice_index_or followers from [] ≡ followers_in nodes from
