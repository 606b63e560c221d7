-- Where the outputs of a lifted plan get to: those of sources to its only Group, and those of the Group to Writes.
use Rattle.std.proofs.Common.{◌≡◌, ◌⊎◌, inl, inr, ℕ, ◌<◌, ◌==◌, Bool, true, false, cond, ◌&&◌, List, [], ◌∷◌, get_or, Option, Some, None, refl, sym, ap, subst, ◌∙◌, arith}
use Rattle.std.specs.Prelude.{slice_get, unwrap_or}
use Rattle.std.specs.List.{AllByRecursion, count_by, enumerate_from, list_any, position}
use Rattle.std.specs.Option.{option_map}
use Rattle.std.proofs.lemmas.Bool.{and_from, and_parts, both_ways, cases_order, eq-eqb, eqb-true, false≢true}
use Rattle.std.proofs.lemmas.List.Elements.{recursion_from_All}
use Rattle.std.proofs.lemmas.List.Quantifiers.{position-Some}
use Rattle.std.proofs.lemmas.Option.{same_Some, slice_get-get_or, slice_get_within}
use Rattle.beam_values.specs.Nodes.{HasNoStatefulAbove, has_kind, is_above, is_barrier_kind, is_group, is_group_kind, is_source_kind, is_stateful_kind, is_write, is_write_kind}
use Rattle.beam_values.specs.declared.element.Element.{Element}
use Rattle.beam_values.specs.declared.plan.Node.{Node}
use Rattle.beam_values.specs.declared.plan.NodeKind.{NodeKind}
use Rattle.beam_values.specs.declared.plan.NodeKind.TheVariants.{Source, ParDo, Flatten, WindowInto, Group, Stateful, Write}
use Rattle.beam_values.specs.declared.plan.Plan.{Plan}
use Rattle.beam_model.specs.Chains.{Output, Arrives, PoisonAt, chain}
use Rattle.beam_model.specs.Positions.{Emission, SourceItem, emission}
use Rattle.beam_model.specs.Reach.{ReachesBarrier, reaches_barrier, takes_passed}
use Rattle.beam_model.specs.Spread.{emission_outputs}
use Rattle.beam_model.proofs.BarrierReach.{emission_reaches}
use Rattle.beam_model.proofs.Barriers.{EndsBelow, chains_end_below}
use Rattle.combine_lift.specs.Lifting.{goes_past, is_written_from, only_group}
use Rattle.combine_laws.specs.Brought.{is_brought}
use Rattle.combine_laws.proofs.Lists.{each_weaker, numbered_at, passes_at, two_counted}
use Rattle.combine_laws.proofs.Sources.{BringsSo, IsSourceOf}

-- ---- kinds

group_barrier : (kind : NodeKind) → is_barrier_kind kind ≡ true → is_stateful_kind kind ≡ false → is_write_kind kind ≡ false → is_group_kind kind ≡ true
group_barrier (Group trigger) barrier stateless other = refl
group_barrier (Stateful work args log) barrier stateless other = absurd cc
group_barrier (Write label) barrier stateless other = absurd cc
group_barrier (Source work args files estimator) barrier stateless other = absurd cc
group_barrier (ParDo work args) barrier stateless other = absurd cc
group_barrier Flatten barrier stateless other = absurd cc
group_barrier (WindowInto strategy) barrier stateless other = absurd cc

write_barrier : (kind : NodeKind) → is_barrier_kind kind ≡ true → is_stateful_kind kind ≡ false → is_group_kind kind ≡ false → is_write_kind kind ≡ true
write_barrier (Write label) barrier stateless other = refl
write_barrier (Stateful work args log) barrier stateless other = absurd cc
write_barrier (Group trigger) barrier stateless other = absurd cc
write_barrier (Source work args files estimator) barrier stateless other = absurd cc
write_barrier (ParDo work args) barrier stateless other = absurd cc
write_barrier Flatten barrier stateless other = absurd cc
write_barrier (WindowInto strategy) barrier stateless other = absurd cc

written_kind : (kind : NodeKind) → is_write_kind kind ≡ true → is_barrier_kind kind ≡ true
written_kind (Write label) is = refl
written_kind (Group trigger) is = absurd cc
written_kind (Stateful work args log) is = absurd cc
written_kind (Source work args files estimator) is = absurd cc
written_kind (ParDo work args) is = absurd cc
written_kind Flatten is = absurd cc
written_kind (WindowInto strategy) is = absurd cc

group_or_write : (kind : NodeKind) → is_group_kind kind ≡ true → is_write_kind kind ≡ true → ⊥
group_or_write (Group trigger) group write = absurd cc
group_or_write (Write label) group write = absurd cc
group_or_write (Stateful work args log) group write = absurd cc
group_or_write (Source work args files estimator) group write = absurd cc
group_or_write (ParDo work args) group write = absurd cc
group_or_write Flatten group write = absurd cc
group_or_write (WindowInto strategy) group write = absurd cc

-- a node of the plan whose kind passes
pub record IsThere (passes : NodeKind → Bool) (plan : Plan) (n : ℕ) : Type 0 where
  pub node : Node
  pub there : slice_get plan.nodes n ≡ Some node
  pub passed : passes node.kind ≡ true

pub there_of : (passes : NodeKind → Bool) (plan : Plan) (n : ℕ) → has_kind passes plan n ≡ true → IsThere passes plan n
there_of passes plan n has = by (slice_get plan.nodes n) refl has
  where
    by : (found : Option Node) → slice_get plan.nodes n ≡ found → unwrap_or (option_map (λ node. passes node.kind) found) false ≡ true → IsThere passes plan n
    by None at is = absurd (false≢true is)
    by (Some node) at is = record { node = node; there = at; passed = is }

pub has_there : (passes : NodeKind → Bool) (plan : Plan) (n : ℕ) → IsThere passes plan n → has_kind passes plan n ≡ true
has_there passes plan n is = ap (λ found. unwrap_or (option_map (λ (node : Node). passes node.kind) found) false) is.there ∙ is.passed

pub write_ends : (plan : Plan) (n : ℕ) → is_write plan n ≡ true → has_kind is_barrier_kind plan n ≡ true
write_ends plan n write =
    let found = there_of is_write_kind plan n write in
    has_there is_barrier_kind plan n (record { node = found.node; there = found.there; passed = written_kind found.node.kind found.passed })

-- a node isn't both
pub not_both : (plan : Plan) (n m : ℕ) → is_group plan n ≡ true → is_write plan m ≡ true → n ≡ m → ⊥
not_both plan n m group write same =
    let first = there_of is_group_kind plan n group in
    let second = there_of is_write_kind plan m write in
    let one : first.node ≡ second.node = same_Some first.node second.node (sym first.there ∙ ap (slice_get plan.nodes) same ∙ second.there) in
    group_or_write second.node.kind (subst (λ (node : Node). is_group_kind node.kind ≡ true) one first.passed) second.passed

-- ---- outputs

-- it arrives at a Write below the Group, or is poison
abbrev pub IsWrittenBelow : Plan → ℕ → Output → Type 0
IsWrittenBelow plan group (Arrives arrival) = (is_write plan arrival.node ≡ true) × (is_above plan group arrival.node ≡ true)
IsWrittenBelow plan group (PoisonAt node) = Unit {0}

-- ---- the only Group

module _ (plan : Plan) (group : ℕ) (only : only_group plan.nodes ≡ Some group) where
  abbrev groups : Node → Bool
  groups node = is_group_kind node.kind

  counted : (b : Bool) → (count_by groups plan.nodes == 1) ≡ b → cond b (position groups plan.nodes) None ≡ Some group → (count_by groups plan.nodes ≡ 1) × (position groups plan.nodes ≡ Some group)
  counted true is found = (eqb-true (count_by groups plan.nodes) 1 is, found)
  counted false is found = absurd cc

  only_one : (count_by groups plan.nodes ≡ 1) × (position groups plan.nodes ≡ Some group)
  only_one = counted (count_by groups plan.nodes == 1) refl only

  pub the_group : IsThere is_group_kind plan group
  the_group = by plan.nodes refl only_one.1
    where
      by : (nodes : List Node) → plan.nodes ≡ nodes → position groups plan.nodes ≡ Some group → IsThere is_group_kind plan group
      by [] same found = absurd (empty (sym (ap (position groups) same) ∙ found))
        where
          empty : position groups [] ≡ Some group → ⊥
          empty never = absurd cc
      by (first ∷ later) same found =
          let placed = position-Some groups plan.nodes group first found in
          record { node = get_or plan.nodes group first; there = slice_get-get_or plan.nodes group first placed.0; passed = placed.1 }

  pub is_the_group : is_group plan group ≡ true
  is_the_group = has_there is_group_kind plan group the_group

  pub one_group : (n : ℕ) → is_group plan n ≡ true → n ≡ group
  one_group n is = by (cases_order n group)
    where
      other : IsThere is_group_kind plan n
      other = there_of is_group_kind plan n is

      by : (n ≡ group) ⊎ ((n < group) ⊎ (group < n)) → n ≡ group
      by (inl same) = same
      by (inr (inl before)) =
          let two = two_counted groups plan.nodes n group other.node the_group.node before other.there the_group.there other.passed the_group.passed in
          let one = only_one.0 in
          absurd (omega arith)
      by (inr (inr after)) =
          let two = two_counted groups plan.nodes group n the_group.node other.node after the_group.there other.there the_group.passed other.passed in
          let one = only_one.0 in
          absurd (omega arith)

  module _ (stateless : list_any (λ node. is_stateful_kind node.kind) plan.nodes ≡ false) where
    pub none_stateful : (write : ℕ) → HasNoStatefulAbove plan write
    none_stateful write upper above = by (slice_get plan.nodes upper) refl
      where
        by : (found : Option Node) → slice_get plan.nodes upper ≡ found → unwrap_or (option_map (λ node. is_stateful_kind node.kind) (slice_get plan.nodes upper)) false ≡ false
        by None at = ap (λ it. unwrap_or (option_map (λ (node : Node). is_stateful_kind node.kind) it) false) at
        by (Some node) at =
            ap (λ it. unwrap_or (option_map (λ (n : Node). is_stateful_kind n.kind) it) false) at
            ∙ passes_at (λ (n : Node). is_stateful_kind n.kind) plan.nodes stateless upper node at

    -- ---- from sources

    module _ (met : goes_past plan ≡ false) where
      not_written_from : (n : ℕ) (node : Node) → slice_get plan.nodes n ≡ Some node → is_source_kind node.kind ≡ true → is_written_from plan n ≡ false
      not_written_from n node there source = by (is_written_from plan n) refl
        where
          numbered : slice_get (enumerate_from 0 plan.nodes) n ≡ Some (n, node)
          numbered = numbered_at 0 plan.nodes n node there ∙ ap (λ m. Some (m, node)) (omega arith)

          by : (b : Bool) → is_written_from plan n ≡ b → b ≡ false
          by false is = refl
          by true is =
              absurd (both_ways (is_source_kind node.kind && is_written_from plan n)
              (passes_at (λ (it : ℕ × Node). is_source_kind it.1.kind && is_written_from plan it.0) (enumerate_from 0 plan.nodes) met n (n, node) numbered)
              (and_from (is_source_kind node.kind) (is_written_from plan n) source is))

      pub source_reaches : (n : ℕ) (node : Node) → slice_get plan.nodes n ≡ Some node → is_source_kind node.kind ≡ true → (m : ℕ) → reaches_barrier plan n m ≡ true → m ≡ group
      source_reaches n node there source m reaches = by (slice_get plan.nodes m) refl reaches
        where
          by : (found : Option Node) → slice_get plan.nodes m ≡ found → unwrap_or (option_map (takes_passed plan n) found) false ≡ true → m ≡ group
          by None at is = absurd (false≢true is)
          by (Some barrier) at is =
              let parts = and_parts (is_barrier_kind barrier.kind) _ is in
              let stateful : is_stateful_kind barrier.kind ≡ false = passes_at (λ (it : Node). is_stateful_kind it.kind) plan.nodes stateless m barrier at in
              let written = passes_at (λ (it : Node). is_write_kind it.kind && takes_passed plan n it) plan.nodes (not_written_from n node there source) m barrier at in
              one_group m (has_there is_group_kind plan m (record { node = barrier; there = at; passed = group_barrier barrier.kind parts.0 stateful (not_write (is_write_kind barrier.kind) is written) }))
            where
              not_write : (b : Bool) → takes_passed plan n barrier ≡ true → (b && takes_passed plan n barrier) ≡ false → b ≡ false
              not_write true takes none = absurd (both_ways (takes_passed plan n barrier) none takes)
              not_write false takes none = refl

      reached : (n : ℕ) (node : Node) → slice_get plan.nodes n ≡ Some node → is_source_kind node.kind ≡ true → (output : Output) → ReachesBarrier plan n output → is_brought group output ≡ true
      reached n node there source (Arrives arrival) reaches = eq-eqb arrival.node group (source_reaches n node there source arrival.node reaches)
      reached n node there source (PoisonAt at) reaches = refl

      pub brings_to_group : (item : SourceItem) → IsSourceOf plan item → BringsSo plan (λ output. is_brought group output ≡ true) item
      brings_to_group item known p =
          let given : Emission = emission item.work item.args item.file p in
          each_weaker (ReachesBarrier plan item.node) (λ output. is_brought group output ≡ true) (reached item.node known.node known.there known.source) (emission_outputs plan item.node given)
          (recursion_from_All (ReachesBarrier plan item.node) (emission_outputs plan item.node given) (emission_reaches plan item.node (slice_get_within plan.nodes item.node known.node known.there) given))

    -- ---- from the Group

    ends_written : (output : Output) → EndsBelow plan group output → IsWrittenBelow plan group output
    ends_written (PoisonAt node) below = tt
    ends_written (Arrives arrival) below = (by (slice_get plan.nodes arrival.node) refl below.0.1, below.1)
      where
        by : (found : Option Node) → slice_get plan.nodes arrival.node ≡ found → option_map (λ it. is_barrier_kind it.kind) found ≡ Some true → is_write plan arrival.node ≡ true
        by None at is = absurd cc
        by (Some node) at is =
            let barrier : is_barrier_kind node.kind ≡ true = same_Some (is_barrier_kind node.kind) true is in
            let stateful : is_stateful_kind node.kind ≡ false = passes_at (λ (it : Node). is_stateful_kind it.kind) plan.nodes stateless arrival.node node at in
            has_there is_write_kind plan arrival.node (record { node = node; there = at; passed = write_barrier node.kind barrier stateful (not_group (is_group_kind node.kind) refl) })
          where
            not_group : (b : Bool) → is_group_kind node.kind ≡ b → b ≡ false
            not_group false is_kind = refl
            not_group true is_kind =
                let same = one_group arrival.node (has_there is_group_kind plan arrival.node (record { node = node; there = at; passed = is_kind })) in
                let after = below.0.0 in
                absurd (omega arith)

    pub chain_written : (e : Element) → AllByRecursion (IsWrittenBelow plan group) (chain plan group e)
    chain_written e =
        each_weaker (EndsBelow plan group) (IsWrittenBelow plan group) ends_written (chain plan group e)
        (recursion_from_All (EndsBelow plan group) (chain plan group e) (chains_end_below plan group e))
