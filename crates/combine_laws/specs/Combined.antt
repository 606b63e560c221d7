-- What combining a plan gives, and what of its input shows why nothing was combined.
use Rattle.std.specs.Prelude.{◌≡◌, ◌⊎◌, ℕ, ◌<◌, Bool, true, not, List, [], ◌∷◌, length, slice_get, Some, None}
use Rattle.std.specs.List.{All, list_all, list_any}
use Rattle.beam_values.specs.Intervals.{Interval}
use Rattle.beam_values.specs.Nodes.{is_write}
use Rattle.beam_values.specs.Storable.{IsStorable}
use Rattle.beam_values.specs.declared.arrival.Arrival.{Arrival}
use Rattle.beam_values.specs.declared.plan.Args.{Args}
use Rattle.beam_values.specs.declared.plan.FnKind.{FnKind}
use Rattle.beam_values.specs.declared.plan.FnKind.TheVariants.{CountSeq}
use Rattle.beam_values.specs.declared.plan.Node.{Node}
use Rattle.beam_values.specs.declared.plan.NodeKind.TheVariants.{ParDo}
use Rattle.beam_values.specs.declared.plan.Plan.{Plan}
use Rattle.beam_values.specs.declared.value.Value.{Value}
use Rattle.beam_model.specs.Chains.{chain}
use Rattle.beam_model.specs.Flow.{elements_at}
use Rattle.beam_model.specs.Functions.{fold_of, folds}
use Rattle.beam_model.specs.Plain.{IsPlainAt}
use Rattle.beam_model.specs.Positions.{SourceItem}
use Rattle.beam_model.specs.Spread.{first_poison, HasPoison}
use Rattle.pipeline_graph.specs.Followers.{followers_of}
use Rattle.combine_lift.specs.Lifting.{only_group}
use Rattle.combine_lift.specs.Parts.{is_number}
use Rattle.combine_lift.specs.Tables.{parts_of}
use Rattle.combine_lift.specs.declared.combined.Combined.{Combined}
use Rattle.combine_laws.specs.Brought.{brought_to}
use Rattle.combine_laws.specs.Lasting.{element_of}

-- ---- the function of a lifted plan

-- the parts that a function takes
abbrev pub takes_of : FnKind → Value → Bool
takes_of CountSeq part = true
takes_of _ part = is_number part

-- a plan has this Group, and this function takes it
pub record HasFunction (plan : Plan) (group function : ℕ) (work : FnKind) : Type 0 where
  pub only : only_group plan.nodes ≡ Some group
  pub followers : followers_of plan group ≡ function ∷ []
  pub node : Node
  pub args : Args
  pub there : slice_get plan.nodes function ≡ Some node
  pub kind : node.kind ≡ ParDo work args
  pub folds : folds work ≡ true

-- ---- why nothing was combined

-- how many parts can be counted
abbrev pub most_parts : ℕ
most_parts = 9223372036854775807

-- some part at the Group isn't one that the function takes
abbrev pub MeetsPart : Plan → List SourceItem → ℕ → FnKind → Type 0
MeetsPart plan items group work = list_any (λ added. not (takes_of work added.part)) (brought_to plan items group) ≡ true

-- the sum of a key and window leaves 64 bits: each of its parts is taken, and they have no fold
pub record MeetsSum (plan : Plan) (items : List SourceItem) (group : ℕ) (work : FnKind) : Type 0 where
  pub key : Value
  pub span : Interval
  pub taken : list_all (takes_of work) (parts_of key span (brought_to plan items group)) ≡ true
  pub none : fold_of work (parts_of key span (brought_to plan items group)) ≡ None

-- more elements come to the Group than can be counted
abbrev pub MeetsMany : Plan → List SourceItem → ℕ → Type 0
MeetsMany plan items group = most_parts < length (brought_to plan items group)

-- What was combined of some key and window has a chain from the function that is poison, first at this node. The key's numbers have 64 bits.
pub record MeetsPoison (plan : Plan) (items : List SourceItem) (group function : ℕ) (work : FnKind) (at : ℕ) : Type 0 where
  pub row : Combined
  pub storable : IsStorable row.key
  pub came : (parts_of row.key row.span (brought_to plan items group) ≡ []) → ⊥
  pub value : Value
  pub folded : fold_of work (parts_of row.key row.span (brought_to plan items group)) ≡ Some value
  pub poison : first_poison (chain plan function (element_of row value)) ≡ Some at

-- something is poison: a position, or the chain of what was combined
abbrev pub IsSomePoison : Plan → List SourceItem → ℕ → ℕ → FnKind → Type 0
IsSomePoison plan items group function work = HasPoison plan items ⊎ ((at : ℕ) × MeetsPoison plan items group function work at)

-- ---- what is given

-- What arrived of a plan with this Group and function is what plain grouping brings to each Write, nothing came to another node, and nothing is poison. Of
-- the lines `0 a 3`, `1000 b -5` and `2000 a 4`, keyed, by minutes, grouped and summed, ("a", 7) and ("b", -5) came to the Write, on time in [0, 60000).
pub record IsCombined (plan : Plan) (items : List SourceItem) (group function : ℕ) (work : FnKind) (arrivals : List Arrival) : Type 0 where
  pub each : (write : ℕ) → is_write plan write ≡ true → IsPlainAt plan items write (elements_at write arrivals)
  pub only : All (λ arrival. is_write plan arrival.node ≡ true) arrivals
  pub clean : IsSomePoison plan items group function work → ⊥
