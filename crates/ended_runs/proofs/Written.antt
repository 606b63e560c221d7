-- At the end of a run what a Write has, or a Group took, with sound estimators and default triggers above it, is what plain grouping brings there.
use Rattle.std.proofs.Common.{◌≡◌, ℕ, ◌-◌, ◌≤◌, ℤ, Bool, true, false, cond, List, [], ◌∷◌, ◌++◌, append-nil, length, get_or, map, refl, sym, ap, ap₂, subst, ◌∙◌, arith}
use Rattle.std.specs.Prelude.{Option, Some, None, ◌==◌, ◌||◌, ◌≤ℤ◌, slice_get, unwrap_or}
use Rattle.std.specs.List.{All, filter, flat_map, sum_by}
use Rattle.std.specs.Option.{option_map}
use Rattle.std.proofs.lemmas.Bool.{false≢true}
use Rattle.std.proofs.lemmas.Bool.{eq-eqb, eqb-true, ne_eqb}
use Rattle.std.proofs.lemmas.Int.{ints}
use Rattle.std.proofs.lemmas.List.{map-append}
use Rattle.std.proofs.lemmas.List.Elements.{All-append, All-filter, All-head, All-map, All-tail, All-weaker, filter-append, filter_passes}
use Rattle.std.proofs.lemmas.List.Sums.{sum_by-append, sum_by-cons}
use Rattle.beam_values.specs.Grouping.{IsPlainGrouping}
use Rattle.beam_values.specs.Nodes.{HasNoStatefulAbove, has_kind, is_above, is_barrier_kind, is_group, is_group_kind, is_stateful, is_stateful_kind, is_write, is_write_kind, strategy_of}
use Rattle.beam_values.specs.Sessions.{IsNonEmpty}
use Rattle.beam_values.specs.Storable.{IsStorable}
use Rattle.beam_values.specs.Times.{final_mark}
use Rattle.beam_values.specs.declared.arrival.Arrival.{Arrival}
use Rattle.beam_values.specs.declared.cell.Cell.{Cell}
use Rattle.beam_values.specs.declared.cell.Dropped.{Dropped}
use Rattle.beam_values.specs.declared.cell.Entry.{Entry}
use Rattle.beam_values.specs.declared.cell.Pane.{Pane}
use Rattle.beam_values.specs.declared.element.Element.{Element}
use Rattle.beam_values.specs.declared.file_text.FileText.{FileText}
use Rattle.beam_values.specs.declared.marks.StageMarks.{StageMarks}
use Rattle.beam_values.specs.declared.outcome.Outcome.{Outcome}
use Rattle.beam_values.specs.declared.piece.Dead.{Dead}
use Rattle.beam_values.specs.declared.plan.Node.{Node}
use Rattle.beam_values.specs.declared.plan.NodeKind.{NodeKind}
use Rattle.beam_values.specs.declared.plan.NodeKind.TheVariants.{Source, ParDo, Flatten, WindowInto, Group, Stateful, Write}
use Rattle.beam_values.specs.declared.plan.Plan.{Plan}
use Rattle.beam_values.specs.declared.plan.Strategy.{Strategy}
use Rattle.beam_values.specs.declared.plan.Strategy.TheVariants as strategy
use Rattle.beam_values.specs.declared.value.Value.{Value}
use Rattle.beam_values.proofs.Bags.{bag_from_same, sum_by-filter, sum_by-flat_map, sum_by-map}
use Rattle.beam_model.specs.Account.{arrivals_of, cell_arrivals, dropped_arrival, input_arrival, log_arrivals}
use Rattle.beam_model.specs.Chains.{Output, Arrives, chain}
use Rattle.beam_model.specs.Dead.{items_without}
use Rattle.beam_model.specs.Estimators.{AreSoundAbove}
use Rattle.beam_model.specs.Flow.{elements_at, is_at, log_chains, pane_chains}
use Rattle.beam_model.specs.Panes.{IsLegalHistory, Taken, is_sessions, mark_after, panes_at, taken_at, taken_by, taken_drop, taken_entry}
use Rattle.beam_model.specs.Plain.{ArePlainlyWrittenWhere, HasDefaultTriggersAbove, IsGroupAbove, IsGroupedBy, IsPlainAt, IsPlainRun, NothingIsDroppedAbove, is_met, node_of, plain_flow}
use Rattle.beam_model.specs.Plans.{default_trigger}
use Rattle.beam_model.specs.Positions.{items}
use Rattle.beam_model.specs.Sessions.{in_session}
use Rattle.beam_model.specs.Spread.{spread_all}
use Rattle.beam_model.proofs.Above.{above_above, checked_inputs_lower}
use Rattle.beam_model.proofs.Barriers.{outputs_below}
use Rattle.group_cells.proofs.Counting.{filter_none}
use Rattle.beam_values.specs.declared.log.KeyLog.{KeyLog}
use Rattle.beam_values.specs.declared.log.LogEntry.{LogEntry}
use Rattle.beam_values.specs.declared.log.LogInput.{LogInput}
use Rattle.beam_values.specs.declared.log.LogInput.TheVariants.{Arrived, Fired}
use Rattle.stateful_core.specs.Cells.{logs_of}
use Rattle.book_core.specs.Book.{SeenBook, held, last_marks}
use Rattle.book_core.specs.Calls.{IsOutcomeOf}
use Rattle.book_core.specs.Runs.{AreTold, IsThrough, Reached}
use Rattle.book_core.specs.Facts.{EndsEarly}
use Rattle.book_core.proofs.AllKept.{reached_kept_of, reached_kept_with}
use Rattle.book_core.proofs.SaneAlways.{reached_sane}
use Rattle.book_core.proofs.Slots.{All-slice_get}
use Rattle.book_core.proofs.Slotted.{All-flat_map}
use Rattle.ended_runs.specs.Storable.{ArePanesStorable}
use Rattle.ended_runs.proofs.Above.{KnownLaws, StartsAbove}
use Rattle.ended_runs.proofs.Ending.{book_flow, logs_at_nodes}
use Rattle.ended_runs.proofs.Grouped.{lift_node, pane_elements, plainly_grouped, sum_alike, taken_elements}
use Rattle.ended_runs.proofs.PanesWell.{default_history, marks_rise}
use Rattle.ended_runs.proofs.Passing.{all_fired, pane_passed}
use Rattle.ended_runs.proofs.SessionsGrouped.{merged_of, merging, placed, sessions_grouped}
use Rattle.ended_runs.proofs.SoFar.{IsTakenAbove, IsTakenWell}
use Rattle.ended_runs.proofs.SoFarAlways.{IsSoFarOf, IsSoundFor, reached_so_far, some_commit}

-- ---- nodes

-- a node isn't of two kinds
stateful_or_write : (plan : Plan) (n : ℕ) → is_stateful plan n ≡ true → is_write plan n ≡ true → ⊥
stateful_or_write plan n stateful write = by (slice_get plan.nodes n) stateful write
  where
    of_kind : (kind : NodeKind) → is_stateful_kind kind ≡ true → is_write_kind kind ≡ true → ⊥
    of_kind (Group trigger) s w = absurd (cc)
    of_kind (Source work args files estimator) s w = absurd (cc)
    of_kind (ParDo work args) s w = absurd (cc)
    of_kind Flatten s w = absurd (cc)
    of_kind (WindowInto strategy) s w = absurd (cc)
    of_kind (Stateful work args log) s w = absurd (cc)
    of_kind (Write label) s w = absurd (cc)

    by : (found : Option Node) → unwrap_or (option_map (λ x. is_stateful_kind x.kind) found) false ≡ true → unwrap_or (option_map (λ x. is_write_kind x.kind) found) false ≡ true → ⊥
    by None s w = absurd (cc)
    by (Some node) s w = of_kind node.kind s w

group_or_write : (plan : Plan) (n : ℕ) → is_group plan n ≡ true → is_write plan n ≡ true → ⊥
group_or_write plan n group write = by (slice_get plan.nodes n) group write
  where
    of_kind : (kind : NodeKind) → is_group_kind kind ≡ true → is_write_kind kind ≡ true → ⊥
    of_kind (Group trigger) g w = absurd (cc)
    of_kind (Source work args files estimator) g w = absurd (cc)
    of_kind (ParDo work args) g w = absurd (cc)
    of_kind Flatten g w = absurd (cc)
    of_kind (WindowInto s) g w = absurd (cc)
    of_kind (Stateful work args log) g w = absurd (cc)
    of_kind (Write label) g w = absurd (cc)

    by : (found : Option Node) → unwrap_or (option_map (λ x. is_group_kind x.kind) found) false ≡ true → unwrap_or (option_map (λ x. is_write_kind x.kind) found) false ≡ true → ⊥
    by None g w = absurd (cc)
    by (Some node) g w = of_kind node.kind g w

write_ends : (plan : Plan) (n : ℕ) → is_write plan n ≡ true → has_kind is_barrier_kind plan n ≡ true
write_ends plan n write = by (slice_get plan.nodes n) write
  where
    of_kind : (kind : NodeKind) → is_write_kind kind ≡ true → is_barrier_kind kind ≡ true
    of_kind (Group trigger) w = absurd (cc)
    of_kind (Source work args files estimator) w = absurd (cc)
    of_kind (ParDo work args) w = absurd (cc)
    of_kind Flatten w = absurd (cc)
    of_kind (WindowInto s) w = absurd (cc)
    of_kind (Stateful work args log) w = absurd (cc)
    of_kind (Write label) w = refl

    by : (found : Option Node) → unwrap_or (option_map (λ x. is_write_kind x.kind) found) false ≡ true → unwrap_or (option_map (λ x. is_barrier_kind x.kind) found) false ≡ true
    by None w = absurd (cc)
    by (Some node) w = of_kind node.kind w

refuted : (t : Bool) → (t ≡ true → ⊥) → t ≡ false
refuted true none = absurd (none refl)
refuted false none = refl

never : (t : Bool) → t ≡ true → t ≡ false → ⊥
never true e f = absurd (cc)
never false e f = absurd (cc)

or_second : (t u : Bool) → u ≡ true → (t || u) ≡ true
or_second true u e = refl
or_second false u e = e

or_first : (t u : Bool) → t ≡ true → (t || u) ≡ true
or_first true u e = refl
or_first false u e = absurd (cc)

-- ---- lists

-- what a wider test kept already is kept again
filter_twice : {X : Type 0} (p q : X → Bool) → ((x : X) → p x ≡ true → q x ≡ true) → (xs : List X) → filter p (filter q xs) ≡ filter p xs
filter_twice p q wider [] = refl
filter_twice p q wider (x ∷ xs) = by (p x) (q x) refl (wider x) (filter_twice p q wider xs)
  where
    by : (a b : Bool) → p x ≡ a → (a ≡ true → b ≡ true) → filter p (filter q xs) ≡ filter p xs
        → filter p (cond b (x ∷ filter q xs) (filter q xs)) ≡ cond a (x ∷ filter p xs) (filter p xs)
    by true true e h same = ap (λ (c : Bool). cond c (x ∷ filter p (filter q xs)) (filter p (filter q xs))) e ∙ ap (λ (l : List _). x ∷ l) same
    by true false e h same = absurd (no (h refl))
      where
        no : false ≡ true → ⊥
        no f = absurd (cc)
    by false true e h same = ap (λ (c : Bool). cond c (x ∷ filter p (filter q xs)) (filter p (filter q xs))) e ∙ same
    by false false e h same = same

taken_as : Taken → Arrival
taken_as t = record { node = t.node; element = t.element }

pane_as_arrival : Pane → Arrival
pane_as_arrival p = record { node = p.node; element = p.element }

cell_taken : (node : ℕ) (entries : List Entry) → map (λ entry. record { node = node; element = entry.element }) entries ≡ map taken_as (map (taken_entry node) entries)
unfolding taken_as
cell_taken node [] = refl
cell_taken node (e ∷ es) = ap (λ (l : List Arrival). record { node = node; element = e.element } ∷ l) (cell_taken node es)

cells_taken : (cells : List Cell) → flat_map cell_arrivals cells ≡ map taken_as (taken_by cells)
cells_taken [] = refl
cells_taken (cell ∷ cells) =
    ap₂ (λ (a b : List Arrival). a ++ b) (cell_taken cell.node cell.entries) (cells_taken cells)
    ∙ sym (map-append taken_as (map (taken_entry cell.node) cell.entries) (taken_by cells))

taken_at_node : (node : ℕ) (ts : List Taken) → map (λ a. a.element) (filter (is_at node) (map taken_as ts)) ≡ taken_elements node ts
unfolding taken_as
taken_at_node node [] = refl
taken_at_node node (t ∷ ts) = by (t.node == node) (taken_at_node node ts)
  where
    by : (b : Bool) → map (λ a. a.element) (filter (is_at node) (map taken_as ts)) ≡ taken_elements node ts
        → map (λ (a : Arrival). a.element) (cond b (taken_as t ∷ filter (is_at node) (map taken_as ts)) (filter (is_at node) (map taken_as ts)))
        ≡ map (λ (x : Taken). x.element) (cond b (t ∷ filter (λ x. x.node == node) ts) (filter (λ x. x.node == node) ts))
    by true same = ap (λ (l : List Element). t.element ∷ l) same
    by false same = same

panes_at_node : (node : ℕ) (ps : List Pane) → map (λ a. a.element) (filter (is_at node) (map pane_as_arrival ps)) ≡ pane_elements node ps
unfolding pane_as_arrival
panes_at_node node [] = refl
panes_at_node node (p ∷ ps) = by (p.node == node) (panes_at_node node ps)
  where
    by : (b : Bool) → map (λ a. a.element) (filter (is_at node) (map pane_as_arrival ps)) ≡ pane_elements node ps
        → map (λ (a : Arrival). a.element) (cond b (pane_as_arrival p ∷ filter (is_at node) (map pane_as_arrival ps)) (filter (is_at node) (map pane_as_arrival ps)))
        ≡ map (λ (x : Pane). x.element) (cond b (p ∷ filter (λ x. x.node == node) ps) (filter (λ x. x.node == node) ps))
    by true same = ap (λ (l : List Element). p.element ∷ l) same
    by false same = same

sum_where : {X : Type 0} (f g : X → ℕ) (P : X → Type 0) → ((x : X) → P x → f x ≡ g x) → (xs : List X) → All P xs → sum_by f xs ≡ sum_by g xs
sum_where f g P same [] all = refl
sum_where f g P same (x ∷ xs) all = omega (arith, sum_by-cons f x xs, sum_by-cons g x xs, same x (All-head P x xs all), sum_where f g P same xs (All-tail P x xs all))

sum_zero : {X : Type 0} (f : X → ℕ) (P : X → Type 0) → ((x : X) → P x → f x ≡ 0) → (xs : List X) → All P xs → sum_by f xs ≡ 0
sum_zero f P none [] all = refl
sum_zero f P none (x ∷ xs) all = omega (arith, sum_by-cons f x xs, none x (All-head P x xs all), sum_zero f P none xs (All-tail P x xs all))

-- ---- barriers

-- A barrier, and a node `below` that tells what is sound: the barrier and all that is above it are this node or above it. A Write is its own such node. A Group
-- is above the node that takes its panes, so that node tells of the Group itself too.
pub record IsSoundFrom (laws : KnownLaws) (told : List FileText) (plan : Plan) (to below : ℕ) : Type 0 where
  pub ends : has_kind is_barrier_kind plan to ≡ true
  pub no_state : is_stateful plan to ≡ false
  pub stateless : HasNoStatefulAbove plan to
  pub no_group_below : is_group plan below ≡ false
  pub reaches : (n : ℕ) → (n == to || is_above plan n to) ≡ true → (n == below || is_above plan n below) ≡ true
  pub sound : IsSoundFor laws told below plan

write_sound : (laws : KnownLaws) (told : List FileText) (plan : Plan) (to : ℕ) → is_write plan to ≡ true → IsSoundFor laws told to plan → IsSoundFrom laws told plan to to
write_sound laws told plan to write sound = record {
  ends = write_ends plan to write;
  no_state = refuted (is_stateful plan to) (λ is. stateful_or_write plan to is write);
  stateless = sound.stateless;
  no_group_below = refuted (is_group plan to) (λ is. group_or_write plan to is write);
  reaches = λ n is. is;
  sound = sound;
}

-- ---- a book that is through

module _ (laws : KnownLaws) (told : List FileText) (b : SeenBook) (reached : Reached (Some told) b) (lengths : AreTold told b) (through : IsThrough b)
    (storable : All (λ p. IsStorable p.element.value) b.panes) (to below : ℕ) (from : IsSoundFrom laws told b.plan to below) where
  abbrev is_met_at : Arrival → Bool
  is_met_at a = a.node == to || is_above b.plan a.node to

  abbrev all_arrivals : List Arrival
  all_arrivals = map taken_as (taken_by b.cells) ++ b.written

  -- what plain grouping meets, and the panes from the Groups above
  abbrev met : List Arrival
  met = filter is_met_at (map taken_as (taken_by b.cells) ++ b.written)

  abbrev fired : List Arrival
  fired = filter (λ a. is_above b.plan a.node to) (map pane_as_arrival b.panes)

  so_far : IsSoFarOf laws told below b.plan b.commits b.cells b.dropped b.panes b.written (held b)
  so_far = reached_so_far laws told below b reached from.sound

  taken_groups : All (λ t. is_group b.plan t.node ≡ true) (taken_by b.cells)
  taken_groups =
      All-flat_map (λ (t : Taken). is_group b.plan t.node ≡ true) (λ (cell : Cell). map (taken_entry cell.node) cell.entries) b.cells
      (λ k d inside. All-map (λ (t : Taken). is_group b.plan t.node ≡ true) (taken_entry (get_or b.cells k d).node) (get_or b.cells k d).entries
      (λ j e within. (reached_kept_with laws.strategies laws.settings laws.windows (Some told) b reached).kept.cells.legal.cells_at k d inside))

  no_group_at : (at n : ℕ) → is_group b.plan at ≡ false → is_group b.plan n ≡ true → (n == at) ≡ false
  no_group_at at n none group = ne_eqb n at (λ same. false≢true (sym none ∙ subst (λ (m : ℕ). is_group b.plan m ≡ true) same group))

  -- a Group that is met is above the node that tells of it
  told_groups : (n : ℕ) → is_group b.plan n ≡ true → (n == to || is_above b.plan n to) ≡ true → is_above b.plan n below ≡ true
  told_groups n group is = subst (λ (t : Bool). (t || is_above b.plan n below) ≡ true) (no_group_at below n from.no_group_below group) (from.reaches n is)

  logs_stateful : All (λ log. is_stateful b.plan log.node ≡ true) (logs_of b.keys)
  logs_stateful = logs_at_nodes b (reached_sane (Some told) b reached).keys

  -- ---- sums over what is met

  module _ (w : Output → ℕ) where
    abbrev met_weight : Output → ℕ
    met_weight output = cond (is_met b.plan to output) (w output) 0

    abbrev arrival_weight : Arrival → ℕ
    arrival_weight a = cond (is_met_at a) (w (Arrives a)) 0

    met_above : (n m : ℕ) → is_above b.plan n m ≡ true → (m == to || is_above b.plan m to) ≡ true → is_above b.plan n to ≡ true
    met_above n m above is = by (m == to) refl is
      where
        by : (t : Bool) → (m == to) ≡ t → (t || is_above b.plan m to) ≡ true → is_above b.plan n to ≡ true
        by true e h = subst (λ (k : ℕ). is_above b.plan n k ≡ true) (eqb-true m to e) above
        by false e h = above_above b.plan (checked_inputs_lower b.plan (reached_sane (Some told) b reached).formed.checked) n m above to h

    -- what comes of a node that isn't above isn't met
    none_beside : (n : ℕ) (e : Element) → is_above b.plan n to ≡ false → sum_by met_weight (chain b.plan n e) ≡ 0
    none_beside n e away =
        sum_zero met_weight (λ output. is_above b.plan n (node_of output) ≡ true)
        (λ output below. by output (is_met b.plan to output) refl below) (chain b.plan n e) (outputs_below b.plan n e)
      where
        by : (output : Output) (t : Bool) → is_met b.plan to output ≡ t → is_above b.plan n (node_of output) ≡ true → cond t (w output) 0 ≡ 0
        by output true is below = absurd (never (is_above b.plan n to) (met_above n (node_of output) below is) away)
        by output false is below = refl

    panes_weigh : sum_by met_weight (flat_map (λ pane. chain b.plan pane.node pane.element) fired) ≡ sum_by met_weight (pane_chains b.plan b.panes)
    unfolding pane_as_arrival
    panes_weigh =
        sum_by-flat_map met_weight (λ (pane : Arrival). chain b.plan pane.node pane.element) fired
        ∙ sum_by-filter (λ (pane : Arrival). sum_by met_weight (chain b.plan pane.node pane.element)) (λ a. is_above b.plan a.node to) (map pane_as_arrival b.panes)
        ∙ sum_by-map (λ (pane : Arrival). cond (is_above b.plan pane.node to) (sum_by met_weight (chain b.plan pane.node pane.element)) 0) pane_as_arrival b.panes
        ∙ sum_alike (λ (p : Pane). cond (is_above b.plan p.node to) (sum_by met_weight (chain b.plan p.node p.element)) 0) (λ p. sum_by met_weight (chain b.plan p.node p.element))
        (λ p. by p (is_above b.plan p.node to) refl) b.panes
        ∙ sym (sum_by-flat_map met_weight (λ (p : Pane). chain b.plan p.node p.element) b.panes)
      where
        by : (p : Pane) (t : Bool) → is_above b.plan p.node to ≡ t → cond t (sum_by met_weight (chain b.plan p.node p.element)) 0 ≡ sum_by met_weight (chain b.plan p.node p.element)
        by p true e = refl
        by p false e = sym (none_beside p.node p.element e)

    dropped_weigh : sum_by arrival_weight (map dropped_arrival b.dropped) ≡ 0
    dropped_weigh =
        sum_by-map arrival_weight dropped_arrival b.dropped
        ∙ sum_zero (λ (d : Dropped). arrival_weight (dropped_arrival d)) (λ d. (d.node == to || is_above b.plan d.node to) ≡ false)
        (λ d away. ap (λ (t : Bool). cond t (w (Arrives (dropped_arrival d))) 0) away) b.dropped
        (λ k d inside. refuted ((get_or b.dropped k d).node == to || is_above b.plan (get_or b.dropped k d).node to)
        (λ is. never (is_above b.plan (get_or b.dropped k d).node below)
        (told_groups (get_or b.dropped k d).node ((reached_kept_with laws.strategies laws.settings laws.windows (Some told) b reached).kept.cells.legal.dropped_at k d inside) is)
        (so_far.none_dropped k d inside)))

    -- what comes of Stateful nodes isn't met
    log_beside : (log : KeyLog) → is_stateful b.plan log.node ≡ true → is_above b.plan log.node to ≡ false
    log_beside log is = by (is_above b.plan log.node to) refl
      where
        by : (t : Bool) → is_above b.plan log.node to ≡ t → t ≡ false
        by true above = absurd (false≢true (sym (from.stateless log.node above) ∙ is))
        by false away = refl

    outputs_weigh : (n : ℕ) → is_above b.plan n to ≡ false → (entry : LogEntry) → sum_by met_weight (flat_map (chain b.plan n) entry.outputs) ≡ 0
    outputs_weigh n away entry =
        sum_by-flat_map met_weight (chain b.plan n) entry.outputs
        ∙ sum_zero (λ e. sum_by met_weight (chain b.plan n e)) (λ e. Unit {0}) (λ e known. none_beside n e away) entry.outputs (λ k d inside. tt)

    logs_weigh : sum_by met_weight (log_chains b.plan (logs_of b.keys)) ≡ 0
    logs_weigh =
        sum_by-flat_map met_weight (λ (log : KeyLog). flat_map (λ (entry : LogEntry). flat_map (chain b.plan log.node) entry.outputs) log.entries) (logs_of b.keys)
        ∙ sum_zero (λ (log : KeyLog). sum_by met_weight (flat_map (λ (entry : LogEntry). flat_map (chain b.plan log.node) entry.outputs) log.entries))
        (λ log. is_stateful b.plan log.node ≡ true)
        (λ log is.
        sum_by-flat_map met_weight (λ (entry : LogEntry). flat_map (chain b.plan log.node) entry.outputs) log.entries
        ∙ sum_zero (λ (entry : LogEntry). sum_by met_weight (flat_map (chain b.plan log.node) entry.outputs)) (λ entry. Unit {0})
        (λ entry known. outputs_weigh log.node (log_beside log is) entry) log.entries (λ k d inside. tt))
        (logs_of b.keys) logs_stateful

    -- nor is what came to them
    input_weighs : (n : ℕ) → (n == to || is_above b.plan n to) ≡ false → (input : LogInput) → sum_by arrival_weight (input_arrival n input) ≡ 0
    input_weighs n away (Arrived e) =
        let one = sum_by-cons arrival_weight (record { node = n; element = e }) [] in
        let none : cond (n == to || is_above b.plan n to) (w (Arrives (record { node = n; element = e }))) 0 ≡ 0 =
        ap (λ (t : Bool). cond t (w (Arrives (record { node = n; element = e }))) 0) away in
        omega (arith, one, none)
    input_weighs n away (Fired timer) = refl

    log_away : (log : KeyLog) → is_stateful b.plan log.node ≡ true → (log.node == to || is_above b.plan log.node to) ≡ false
    log_away log is =
        neither_of (log.node == to) (is_above b.plan log.node to)
        (ne_eqb log.node to (λ same. false≢true (sym from.no_state ∙ subst (λ (m : ℕ). is_stateful b.plan m ≡ true) same is))) (log_beside log is)
      where
        neither_of : (t u : Bool) → t ≡ false → u ≡ false → (t || u) ≡ false
        neither_of true u e f = absurd (cc)
        neither_of false u e f = f

    keyed_weigh : sum_by arrival_weight (flat_map log_arrivals (logs_of b.keys)) ≡ 0
    keyed_weigh =
        sum_by-flat_map arrival_weight log_arrivals (logs_of b.keys)
        ∙ sum_zero (λ (log : KeyLog). sum_by arrival_weight (log_arrivals log)) (λ log. is_stateful b.plan log.node ≡ true)
        (λ log is.
        sum_by-flat_map arrival_weight (λ (entry : LogEntry). input_arrival log.node entry.input) log.entries
        ∙ sum_zero (λ (entry : LogEntry). sum_by arrival_weight (input_arrival log.node entry.input)) (λ entry. Unit {0})
        (λ entry known. input_weighs log.node (log_away log is) entry.input) log.entries (λ k d inside. tt))
        (logs_of b.keys) logs_stateful

    arrivals_weigh : sum_by arrival_weight (arrivals_of b.cells b.dropped (logs_of b.keys) b.written) ≡ sum_by arrival_weight all_arrivals
    arrivals_weigh =
        let keyed = flat_map log_arrivals (logs_of b.keys) in
        let one = sum_by-append arrival_weight (flat_map cell_arrivals b.cells) (map dropped_arrival b.dropped ++ (keyed ++ b.written)) in
        let two = sum_by-append arrival_weight (map dropped_arrival b.dropped) (keyed ++ b.written) in
        let last = sum_by-append arrival_weight keyed b.written in
        let three = sum_by-append arrival_weight (map taken_as (taken_by b.cells)) b.written in
        let four = ap (sum_by arrival_weight) (cells_taken b.cells) in
        omega (arith, one, two, last, three, four, dropped_weigh, keyed_weigh)

    met_weighs : sum_by w (filter (is_met b.plan to) (plain_flow b.plan (items_without b.dead (items told b.plan)) fired)) ≡ sum_by w (map Arrives met)
    met_weighs =
        let spread = spread_all b.plan (items_without b.dead (items told b.plan)) in
        let chains = flat_map (λ (pane : Arrival). chain b.plan pane.node pane.element) fired in
        let first = sum_by-filter w (is_met b.plan to) (spread ++ chains) in
        let second = sum_by-append met_weight spread chains in
        let flows = (book_flow told b lengths (reached_sane (Some told) b reached).partitioned (reached_sane (Some told) b reached).formed through (reached_kept_of laws.strategies laws.settings laws.windows told b reached).balanced).weighs met_weight in
        let third = sum_by-append met_weight spread (pane_chains b.plan b.panes ++ log_chains b.plan (logs_of b.keys)) in
        let fourth = sum_by-append met_weight (pane_chains b.plan b.panes) (log_chains b.plan (logs_of b.keys)) in
        let fifth = sum_by-map met_weight Arrives (arrivals_of b.cells b.dropped (logs_of b.keys) b.written) in
        let sixth = sum_by-map w Arrives met in
        let seventh = sum_by-filter (λ (a : Arrival). w (Arrives a)) is_met_at all_arrivals in
        omega (arith, first, second, panes_weigh, flows, third, fourth, fifth, sixth, seventh, arrivals_weigh, logs_weigh)

  -- ---- at the nodes

  met_groups : (g : ℕ) → is_group b.plan g ≡ true → (g == to || is_above b.plan g to) ≡ true → elements_at g met ≡ taken_elements g (taken_by b.cells)
  met_groups g group is =
      ap (map (λ (a : Arrival). a.element))
      (filter_twice (is_at g) is_met_at
      (λ a at. subst (λ (n : ℕ). (n == to || is_above b.plan n to) ≡ true) (sym (eqb-true a.node g at)) is) all_arrivals
      ∙ filter-append (is_at g) (map taken_as (taken_by b.cells)) b.written
      ∙ ap (λ (l : List Arrival). filter (is_at g) (map taken_as (taken_by b.cells)) ++ l) (filter_none (is_at g) b.written none_written)
      ∙ append-nil (filter (is_at g) (map taken_as (taken_by b.cells))))
      ∙ taken_at_node g (taken_by b.cells)
    where
      none_written : All (λ a. is_at g a ≡ false) b.written
      none_written k d inside =
          ne_eqb (get_or b.written k d).node g
          (λ same. group_or_write b.plan g group (subst (λ (n : ℕ). is_write b.plan n ≡ true) same ((reached_sane (Some told) b reached).writes.written k d inside)))

  fired_groups : (g : ℕ) → IsGroupAbove b.plan to g → elements_at g fired ≡ pane_elements g b.panes
  fired_groups g above =
      ap (map (λ (a : Arrival). a.element))
      (filter_twice (is_at g) (λ a. is_above b.plan a.node to) (λ a at. subst (λ (n : ℕ). is_above b.plan n to ≡ true) (sym (eqb-true a.node g at)) above.1) (map pane_as_arrival b.panes))
      ∙ panes_at_node g b.panes

  met_here : is_group b.plan to ≡ false → elements_at to met ≡ elements_at to b.written
  unfolding taken_as
  met_here none =
      ap (map (λ (a : Arrival). a.element))
      (filter_twice (is_at to) is_met_at (λ a at. or_first (a.node == to) (is_above b.plan a.node to) at) all_arrivals
      ∙ filter-append (is_at to) (map taken_as (taken_by b.cells)) b.written
      ∙ ap (λ (l : List Arrival). l ++ filter (is_at to) b.written)
      (filter_none (is_at to) (map taken_as (taken_by b.cells))
      (All-map (λ a. is_at to a ≡ false) taken_as (taken_by b.cells) (λ k d inside. no_group_at to (get_or (taken_by b.cells) k d).node none (taken_groups k d inside)))))

  -- ---- what each Group put out

  some_commits : 1 ≤ length b.commits
  some_commits = some_commit (Some told) b reached

  rises : (g : ℕ) (c d : ℕ) → c ≤ d → d ≤ length b.commits - 1 → mark_after b.commits g c ≤ℤ mark_after b.commits g d
  rises g c d low high = let first = some_commits in marks_rise b.commits (reached_sane (Some told) b reached).marks.never_fall g c d low (omega (arith, high, first))

  final : (g : ℕ) → mark_after b.commits g (length b.commits - 1) ≡ final_mark
  final g = by (slice_get (last_marks b) g) refl
    where
      by : (found : Option StageMarks) → slice_get (last_marks b) g ≡ found → (unwrap_or (slice_get (last_marks b) g) (record { mark_in = final_mark; mark_out = final_mark })).mark_in ≡ final_mark
      by None at = ap (λ (f : Option StageMarks). (unwrap_or f (record { mark_in = final_mark; mark_out = final_mark })).mark_in) at
      by (Some s) at =
          ap (λ (f : Option StageMarks). (unwrap_or f (record { mark_in = final_mark; mark_out = final_mark })).mark_in) at
          ∙ (All-slice_get (λ (m : StageMarks). (m.mark_in ≡ final_mark) × (m.mark_out ≡ final_mark)) (last_marks b) g s at through.final).0

  ends_early : All (λ t. t.element.span.end ≤ℤ final_mark) (taken_by b.cells)
  ends_early =
      All-weaker EndsEarly (λ t. t.element.span.end ≤ℤ final_mark) (λ t early. omega (arith, ints, early)) (taken_by b.cells) (reached_kept_with laws.strategies laws.settings laws.windows (Some told) b reached).early.taken

  module _ (g : ℕ) (above : IsGroupAbove b.plan below g) where
    taken_of : (t : Taken) → IsTakenAbove below b.plan b.commits t → (t.node == g) ≡ true → IsTakenWell below b.plan b.commits t
    taken_of t well at = well (subst (λ (n : ℕ). is_above b.plan n below ≡ true) (sym (eqb-true t.node g at)) above.1)

    history : (s : Strategy) → strategy_of b.plan g ≡ s → (key : Value)
        → IsLegalHistory (record { merges = is_sessions s; trigger = default_trigger }) g key (mark_after b.commits g) (length b.commits - 1)
        (taken_at g key (taken_by b.cells)) (taken_at g key (map taken_drop b.dropped)) (panes_at g key b.panes)
    history s is key =
        subst (λ (r : Strategy). IsLegalHistory (record { merges = is_sessions r; trigger = default_trigger }) g key (mark_after b.commits g) (length b.commits - 1)
        (taken_at g key (taken_by b.cells)) (taken_at g key (map taken_drop b.dropped)) (panes_at g key b.panes)) is
        (default_history b.plan below from.sound.triggers b.commits b.cells b.dropped b.panes (reached_kept_with laws.strategies laws.settings laws.windows (Some told) b reached).kept.cells.legal g key above.0 above.1)

    pub plain : (s : Strategy) → strategy_of b.plan g ≡ s → is_sessions s ≡ false → IsPlainGrouping (taken_elements g (taken_by b.cells)) (pane_elements g b.panes)
    plain s is none =
        plainly_grouped g (mark_after b.commits g) (length b.commits - 1) (taken_by b.cells) (map taken_drop b.dropped) b.panes
        (λ key. subst (λ (m : Bool). IsLegalHistory (record { merges = m; trigger = default_trigger }) g key (mark_after b.commits g) (length b.commits - 1)
        (taken_at g key (taken_by b.cells)) (taken_at g key (map taken_drop b.dropped)) (panes_at g key b.panes)) none (history s is key))
        (rises g) (final g) ends_early

    -- each pane fired when the mark had passed its window
    pub waited : All (λ p. p.element.span.end ≤ℤ mark_after b.commits g p.commit) (filter (λ p. p.node == g) b.panes)
    waited =
        lift_node g b.panes (λ (p : Pane). p.element.span.end ≤ℤ mark_after b.commits g p.commit)
        (λ key k d inside.
        pane_passed (is_sessions (strategy_of b.plan g)) g key (mark_after b.commits g) (length b.commits - 1) (taken_at g key (taken_by b.cells)) (taken_at g key (map taken_drop b.dropped))
        (panes_at g key b.panes) (history (strategy_of b.plan g) refl key) (rises g) (get_or (panes_at g key b.panes) k d)
        (all_fired (is_sessions (strategy_of b.plan g)) g key (mark_after b.commits g) (length b.commits - 1) (taken_at g key (taken_by b.cells)) (taken_at g key (map taken_drop b.dropped))
        (panes_at g key b.panes) (history (strategy_of b.plan g) refl key) (rises g) k d inside))

    grouped_as : (s : Strategy) → strategy_of b.plan g ≡ s → IsGroupedBy s (taken_elements g (taken_by b.cells)) (pane_elements g b.panes)
    grouped_as strategy.Global is = plain strategy.Global is refl
    grouped_as (strategy.Fixed size) is = plain (strategy.Fixed size) is refl
    grouped_as (strategy.Sliding size period) is = plain (strategy.Sliding size period) is refl
    grouped_as strategy.Kept is = plain strategy.Kept is refl
    grouped_as (strategy.Sessions gap) is =
        let histories = history (strategy.Sessions gap) is in
        let timely : All (λ t. (t.node == g) ≡ true → mark_after b.commits g (t.commit - 1) ≤ℤ t.element.span.start) (taken_by b.cells) = begins gap is in
        let some : All (λ t. (t.node == g) ≡ true → IsNonEmpty t.element.span) (taken_by b.cells) =
        (λ k d inside at. (taken_of (get_or (taken_by b.cells) k d) (so_far.taken k d inside) at).some) in (
          map in_session (merged_of g (mark_after b.commits g) (length b.commits - 1) (taken_by b.cells) (map taken_drop b.dropped) b.panes histories (rises g) (final g) ends_early timely some
              (filter (λ t. t.node == g) (taken_by b.cells))
              (placed g (mark_after b.commits g) (length b.commits - 1) (taken_by b.cells) (map taken_drop b.dropped) b.panes histories (rises g) (final g) ends_early timely some)),
          merging g (mark_after b.commits g) (length b.commits - 1) (taken_by b.cells) (map taken_drop b.dropped) b.panes histories (rises g) (final g) ends_early timely some,
          sessions_grouped g (mark_after b.commits g) (length b.commits - 1) (taken_by b.cells) (map taken_drop b.dropped) b.panes histories (rises g) (final g) ends_early timely some,
        )
      where
        begins : (gap : ℤ) → strategy_of b.plan g ≡ strategy.Sessions gap → All (λ t. (t.node == g) ≡ true → mark_after b.commits g (t.commit - 1) ≤ℤ t.element.span.start) (taken_by b.cells)
        begins gap is k d inside at =
            let t = get_or (taken_by b.cells) k d in
            let same : t.node ≡ g = eqb-true t.node g at in
            subst (λ (s : Strategy). StartsAbove s (mark_after b.commits g (t.commit - 1)) t.element.span) is
            (subst (λ (n : ℕ). StartsAbove (strategy_of b.plan n) (mark_after b.commits n (t.commit - 1)) t.element.span) same (taken_of t (so_far.taken k d inside) at).starts)

  -- ---- the run

  met_some : All (λ a. IsNonEmpty a.element.span) met
  unfolding taken_as
  met_some k d inside =
      All-filter is_met_at (λ a. is_met_at a ≡ true → IsNonEmpty a.element.span) all_arrivals
      (All-append (λ a. is_met_at a ≡ true → IsNonEmpty a.element.span) (map taken_as (taken_by b.cells)) b.written
      (All-map (λ a. is_met_at a ≡ true → IsNonEmpty a.element.span) taken_as (taken_by b.cells)
      (λ j e within is. (so_far.taken j e within (told_groups (get_or (taken_by b.cells) j e).node (taken_groups j e within) is)).some))
      (λ j e within is. so_far.some_written j e within (from.reaches (get_or b.written j e).node is))) k d inside (filter_passes is_met_at all_arrivals k d inside)

  plain_run : IsPlainRun b.plan (items_without b.dead (items told b.plan)) to met fired
  unfolding pane_as_arrival
  plain_run = record {
    ends_here = from.ends;
    stateless = from.stateless;
    clean = record { weighs = met_weighs };
    from_groups = λ k d inside. (
      All-filter (λ a. is_above b.plan a.node to) (λ a. is_group b.plan a.node ≡ true) (map pane_as_arrival b.panes)
          (All-map (λ a. is_group b.plan a.node ≡ true) pane_as_arrival b.panes (reached_kept_with laws.strategies laws.settings laws.windows (Some told) b reached).kept.cells.legal.panes_at) k d inside,
      filter_passes (λ a. is_above b.plan a.node to) (map pane_as_arrival b.panes) k d inside,
    );
    grouped = λ g above.
        let is = or_second (g == to) (is_above b.plan g to) above.1 in
        subst (λ (l : List Element). IsGroupedBy (strategy_of b.plan g) l (elements_at g fired)) (sym (met_groups g above.0 is))
        (subst (λ (l : List Element). IsGroupedBy (strategy_of b.plan g) (taken_elements g (taken_by b.cells)) l) (sym (fired_groups g above))
        (grouped_as g (above.0, told_groups g above.0 is) (strategy_of b.plan g) refl));
    storable = All-filter (λ a. is_above b.plan a.node to) (λ a. IsStorable a.element.value) (map pane_as_arrival b.panes)
        (All-map (λ a. IsStorable a.element.value) pane_as_arrival b.panes storable);
    held = met_some;
  }

  -- what a Write has, and what a Group took
  written_plain : is_group b.plan to ≡ false → IsPlainAt b.plan (items_without b.dead (items told b.plan)) to (elements_at to b.written)
  written_plain none = (met, fired, plain_run, bag_from_same (elements_at to b.written) (elements_at to met) (sym (met_here none)))

  pub taken_plain : is_group b.plan to ≡ true → IsPlainAt b.plan (items_without b.dead (items told b.plan)) to (taken_elements to (taken_by b.cells))
  taken_plain group = (met, fired, plain_run, bag_from_same (taken_elements to (taken_by b.cells)) (elements_at to met) (sym (met_groups to group (or_first (to == to) (is_above b.plan to to) (eq-eqb to to refl)))))

-- ---- outcomes

-- what is known of an outcome's plan is known of its book's
sound_for : (laws : KnownLaws) (told : List FileText) (b : SeenBook) (o : Outcome) (to : ℕ) → IsOutcomeOf b o → HasNoStatefulAbove o.plan to → HasDefaultTriggersAbove o.plan to
    → AreSoundAbove o.plan (items told b.plan) to → IsSoundFor laws told to b.plan
sound_for laws told b o to of stateless triggers sound = record {
  sound = subst (λ (p : Plan). AreSoundAbove p (items told b.plan) to) of.plan sound;
  triggers = subst (λ (p : Plan). HasDefaultTriggersAbove p to) of.plan triggers;
  stateless = subst (λ (p : Plan). HasNoStatefulAbove p to) of.plan stateless;
}

-- where nothing is asked of the end of a run: nothing is dropped
pub outcome_undropped : KnownLaws → (told : List FileText) (b : SeenBook) (o : Outcome) (to : ℕ) → Reached (Some told) b → IsOutcomeOf b o → HasNoStatefulAbove o.plan to → HasDefaultTriggersAbove o.plan to
    → AreSoundAbove o.plan (items told b.plan) to → NothingIsDroppedAbove o.plan to o.dropped
outcome_undropped laws told b o to reached of stateless triggers sound =
    let kept = reached_so_far laws told to b reached (sound_for laws told b o to of stateless triggers sound) in
    subst (λ (p : Plan). NothingIsDroppedAbove p to o.dropped) (sym of.plan) (subst (NothingIsDroppedAbove b.plan to) (sym of.dropped) kept.none_dropped)

-- what an outcome has written
pub outcome_plain : KnownLaws → (told : List FileText) (b : SeenBook) (o : Outcome) → Reached (Some told) b → AreTold told b → IsThrough b → IsOutcomeOf b o → ArePanesStorable o
    → ArePlainlyWrittenWhere (items told b.plan) o
outcome_plain laws told b o reached lengths through of storable to write stateless triggers sound =
    let same = of.plan in
    let here = subst (λ (p : Plan). is_write p to ≡ true) same write in
    let found = written_plain laws told b reached lengths through (subst (λ (l : List Pane). All (λ p. IsStorable p.element.value) l) of.panes storable) to to
    (write_sound laws told b.plan to here (sound_for laws told b o to of stateless triggers sound))
    (refuted (is_group b.plan to) (λ is. group_or_write b.plan to is here)) in
    record {
      plain = subst (λ (d : List Dead). IsPlainAt o.plan (items_without d (items told b.plan)) to (elements_at to o.written)) (sym of.dead)
          (subst (λ (p : Plan). IsPlainAt p (items_without b.dead (items told b.plan)) to (elements_at to o.written)) (sym same)
          (subst (λ (l : List Arrival). IsPlainAt b.plan (items_without b.dead (items told b.plan)) to (elements_at to l)) (sym of.written) found));
      undropped = outcome_undropped laws told b o to reached of stateless triggers sound;
    }
