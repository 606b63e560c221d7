-- Plain grouping of a whole pipeline: what it means when nothing is known of pieces, bundles, watermarks or triggers (Beam Programming Guide,
-- GroupByKey; The Dataflow Model, section 2.2).
use Rattle.std.specs.Prelude.{◌≡◌, ℕ, ◌==◌, Bool, true, false, ◌||◌, List, ◌++◌, map}
use Rattle.std.specs.List.{All, filter, flat_map}
use Rattle.beam_values.specs.Bags.{IsSameBag}
use Rattle.beam_values.specs.Grouping.{IsPlainGrouping}
use Rattle.beam_values.specs.Nodes.{has_kind, is_barrier_kind, is_above, is_group, is_write, strategy_of, HasNoStatefulAbove}
use Rattle.beam_values.specs.Sessions.{IsNonEmpty}
use Rattle.beam_values.specs.Storable.{IsStorable}
use Rattle.beam_values.specs.declared.arrival.Arrival.{Arrival}
use Rattle.beam_values.specs.declared.cell.Dropped.{Dropped}
use Rattle.beam_values.specs.declared.element.Element.{Element}
use Rattle.beam_values.specs.declared.outcome.Outcome.{Outcome}
use Rattle.beam_values.specs.declared.plan.Plan.{Plan}
use Rattle.beam_values.specs.declared.plan.Strategy.{Strategy}
use Rattle.beam_values.specs.declared.plan.Strategy.TheVariants.{Sessions}
use Rattle.beam_model.specs.Chains.{Output, Arrives, PoisonAt, chain}
use Rattle.beam_model.specs.Dead.{items_without}
use Rattle.beam_model.specs.Estimators.{AreSoundAbove}
use Rattle.beam_model.specs.Flow.{elements_at}
use Rattle.beam_model.specs.Panes.{trigger_of}
use Rattle.beam_model.specs.Plans.{default_trigger}
use Rattle.beam_model.specs.Positions.{SourceItem}
use Rattle.beam_model.specs.Sessions.{IsMerging}
use Rattle.beam_model.specs.Spread.{spread_all}

-- the panes of elements under a strategy: plain grouping of them, of sessions after their windows are merged
abbrev pub IsGroupedBy : Strategy → List Element → List Element → Type 0
IsGroupedBy (Sessions gap) elements panes = (sessioned : List Element) × IsMerging elements sessioned × IsPlainGrouping sessioned panes
IsGroupedBy strategy elements panes = IsPlainGrouping elements panes

-- what all positions of all items bring, and these panes from their Groups
abbrev pub plain_flow : Plan → List SourceItem → List Arrival → List Output
plain_flow plan items panes = spread_all plan items ++ flat_map (λ pane. chain plan pane.node pane.element) panes

-- where an output ended
abbrev pub node_of : Output → ℕ
node_of (Arrives arrival) = arrival.node
node_of (PoisonAt node) = node

-- it ended at this barrier or at a node above it, so plain grouping at the barrier meets it; what other branches meet doesn't count
abbrev pub is_met : Plan → ℕ → Output → Bool
is_met plan barrier output = node_of output == barrier || is_above plan (node_of output) barrier

-- a Group whose panes can get to the barrier
abbrev pub IsGroupAbove : Plan → ℕ → ℕ → Type 0
IsGroupAbove plan barrier node = (is_group plan node ≡ true) × (is_above plan node barrier ≡ true)

-- A pipeline over whole inputs, up to a barrier with no Stateful node above it: all positions of all items come through, nothing that the barrier meets is poison, and each Group above
-- it gives the plain grouping of all that arrives at it. Panes go only to later nodes, so this says of each node in turn what arrives at it. The values
-- of panes have numbers of 64 bits, as a program can hold them, and no window is empty.
pub record IsPlainRun (plan : Plan) (items : List SourceItem) (barrier : ℕ) (arrivals panes : List Arrival) : Type 0 where
  pub ends_here : has_kind is_barrier_kind plan barrier ≡ true
  pub stateless : HasNoStatefulAbove plan barrier
  pub clean : IsSameBag (filter (is_met plan barrier) (plain_flow plan items panes)) (map Arrives arrivals)
  pub from_groups : All (λ pane. IsGroupAbove plan barrier pane.node) panes
  pub grouped : (node : ℕ) → IsGroupAbove plan barrier node → IsGroupedBy (strategy_of plan node) (elements_at node arrivals) (elements_at node panes)
  pub storable : All (λ pane. IsStorable pane.element.value) panes
  pub held : All (λ arrival. IsNonEmpty arrival.element.span) arrivals

-- what plain grouping brings to a barrier, as a bag
abbrev pub IsPlainAt : Plan → List SourceItem → ℕ → List Element → Type 0
IsPlainAt plan items barrier elements =
    (arrivals : List Arrival) × (panes : List Arrival) × IsPlainRun plan items barrier arrivals panes × IsSameBag elements (elements_at barrier arrivals)

-- no Group above the barrier dropped an element
abbrev pub NothingIsDroppedAbove : Plan → ℕ → List Dropped → Type 0
NothingIsDroppedAbove plan barrier dropped = All (λ lost. is_above plan lost.node barrier ≡ false) dropped

-- At each Write with no Stateful node above it: all that was written is brought there by plain grouping of the whole input without its dead positions, and
-- no Group above it dropped an element.
pub record IsPlainlyWritten (items : List SourceItem) (o : Outcome) (node : ℕ) : Type 0 where
  pub plain : IsPlainAt o.plan (items_without o.dead items) node (elements_at node o.written)
  pub undropped : NothingIsDroppedAbove o.plan node o.dropped

abbrev pub ArePlainlyWritten : List SourceItem → Outcome → Type 0
ArePlainlyWritten items o = (node : ℕ) → is_write o.plan node ≡ true → HasNoStatefulAbove o.plan node → IsPlainlyWritten items o node

-- each Group above the barrier has the default trigger: it fires one pane of a window, once the window is past
abbrev pub HasDefaultTriggersAbove : Plan → ℕ → Type 0
HasDefaultTriggersAbove plan barrier = (node : ℕ) → IsGroupAbove plan barrier node → trigger_of plan node ≡ default_trigger

-- The same of those Writes alone above which every Group has the default trigger and every estimator is sound: there no element comes too late, and no
-- pane comes twice. Take a source over the lines `70000 a x` and `5000 a y`, a Group by minutes and a Write. With a lag of 65000 the Write took both panes.
-- With a monotonic estimator nothing is said of it: the second line may come after its window was fired, and then be dropped.
abbrev pub ArePlainlyWrittenWhere : List SourceItem → Outcome → Type 0
ArePlainlyWrittenWhere items o =
    (node : ℕ) → is_write o.plan node ≡ true → HasNoStatefulAbove o.plan node → HasDefaultTriggersAbove o.plan node → AreSoundAbove o.plan items node
    → IsPlainlyWritten items o node
