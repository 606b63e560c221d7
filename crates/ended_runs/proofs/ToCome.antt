-- Where the sources above a barrier have sound estimators, what a job brings that is met there lies above the marks before it is committed.
use Rattle.std.proofs.Common.{◌≡◌, ◌⊎◌, inl, inr, ℕ, zero, suc, ◌-◌, ◌<◌, ◌≤◌, ℤ, pos, Bool, true, false, cond, List, [], ◌∷◌, ◌++◌, get_or, map, refl, sym, ap, subst, ◌∙◌, arith}
use Rattle.std.specs.Prelude.{Option, Some, None, ◌==◌, ◌||◌, ◌≤ℤ◌, ◌<ℤ◌, ◌-ℤ◌, Contains, nat_lt, int_lt, slice_get, unwrap_or}
use Rattle.std.specs.List.{All, filter, flat_map}
use Rattle.std.specs.Option.{option_map}
use Rattle.std.proofs.lemmas.Bool.{false≢true}
use Rattle.std.proofs.lemmas.Bool.{and_parts, eq-eqb, eqb-true}
use Rattle.std.proofs.lemmas.Bool.Decides.{nat_tests}
use Rattle.std.proofs.lemmas.Int.{ints, clamps, fold-int_min_bounds}
use Rattle.std.proofs.lemmas.List.Elements.{All-nil, All-cons, All-head, All-tail, All-append, All-contains, All-map, All-weaker}
use Rattle.beam_values.specs.Checked.{IsChecked, is_source_argument}
use Rattle.beam_values.specs.Grouping.{last_time}
use Rattle.beam_values.specs.Intervals.{Interval}
use Rattle.beam_values.specs.Lines.{offsets}
use Rattle.beam_values.specs.Marks.{mark_of, marks_at}
use Rattle.beam_values.specs.Nodes.{HasNoStatefulAbove, below_group, is_above, is_group, is_group_kind, is_source_kind, onward_of, strategy_of}
use Rattle.beam_values.specs.Times.{IsTime, final_mark, greatest_time, least_time}
use Rattle.beam_values.specs.declared.arrival.Arrival.{Arrival}
use Rattle.beam_values.specs.declared.cell.Pane.{Pane}
use Rattle.beam_values.specs.declared.element.Element.{Element}
use Rattle.beam_values.specs.declared.file_text.FileText.{FileText}
use Rattle.beam_values.specs.declared.piece.Piece.{Piece}
use Rattle.beam_values.specs.declared.plan.Estimator.{Estimator}
use Rattle.beam_values.specs.declared.plan.Estimator.TheVariants as estimator
use Rattle.beam_values.specs.declared.plan.Node.{Node}
use Rattle.beam_values.specs.declared.plan.NodeKind.{NodeKind}
use Rattle.beam_values.specs.declared.plan.NodeKind.TheVariants.{Source, ParDo, Flatten, WindowInto, Group, Stateful, Write}
use Rattle.beam_values.specs.declared.plan.Plan.{Plan}
use Rattle.beam_values.specs.declared.plan.Strategy.{Strategy}
use Rattle.beam_values.specs.declared.plan.Strategy.TheVariants as strategy
use Rattle.beam_model.specs.Chains.{Output, Arrives, PoisonAt, chain}
use Rattle.beam_model.specs.Coverings.{is_item, item_at}
use Rattle.beam_model.specs.Estimators.{AreSoundAbove, IsSoundItem, emission_at, observed_times, output_times}
use Rattle.beam_model.specs.Holds.{Hold, estimator_in, estimator_of, least_hold, marks_held, piece_hold}
use Rattle.beam_model.specs.Plain.{is_met, node_of}
use Rattle.beam_model.specs.Positions.{Emission, Emits, Poison, SourceItem, TimedValue, emission, emission_within, items, len_of, nothing}
use Rattle.beam_model.specs.Spread.{emission_outputs, from_source, is_left_out, outputs_at, spread_range}
use Rattle.beam_model.proofs.Above.{above_above, checked_inputs_lower}
use Rattle.beam_model.proofs.Barriers.{outputs_below}
use Rattle.beam_model.specs.Flow.{batch_outputs}
use Rattle.bundle_commit.specs.declared.job.Receipt.{Receipt}
use Rattle.group_cells.proofs.Counting.{All-unmap}
use Rattle.pipeline_graph.specs.Rules.{HasLag, HasOwnStrategy, HasSettings}
use Rattle.watermarks.proofs.Rising.{below_hold}
use Rattle.beam_values.specs.States.{KeptState}
use Rattle.stateful_core.specs.KeyWork.{key_outputs}
use Rattle.book_core.specs.Book.{SeenBook, HeldPane, AreMarksOfBook, held, held_in, hold_of, holds, last_marks, live_batches, live_pieces, batch_of, panes_of, piece_of, queued}
use Rattle.book_core.specs.Facts.{AreHeldOnce, AreSeenBefore, IsHeldPane, IsSeenOf}
use Rattle.book_core.specs.Jobs.{attempted_of, job_of}
use Rattle.book_core.specs.Steps.{IsWorking}
use Rattle.book_core.specs.Work.{IsGiven, IsWorkOnItem, worked_to}
use Rattle.book_core.specs.declared.live.Batch.{Batch}
use Rattle.book_core.specs.declared.live.Live.{Live}
use Rattle.book_core.specs.declared.live.Live.TheVariants as live
use Rattle.book_core.specs.declared.live.WaitingPane.{WaitingPane}
use Rattle.book_core.proofs.KeyOutputs.{outputs_all}
use Rattle.book_core.proofs.CellsKept.{IsOfSource, batch_at_group, found_has, items_of_sources}
use Rattle.book_core.proofs.EarlyEnds.{items_set}
use Rattle.stateful_core.specs.Cells.{key_holds}
use Rattle.book_core.specs.Indexes.{all_holds}
use Rattle.book_core.proofs.Slots.{All-slice_get}
use Rattle.book_core.proofs.Slotted.{All-append_left, All-append_right, All-flat_at, All-of_flat_map}
use Rattle.book_core.proofs.Through.{passes_have}
use Rattle.ended_runs.proofs.Above.{FitsAfter, IsAbove, IsToCome, KnownLaws, StartsAbove, outputs_above}
use Rattle.ended_runs.proofs.Bounds.{IsTimely, emission_time, no_times}

-- ---- times of panes

pub last_is_time : (span : Interval) → IsTime (last_time span)
last_is_time span = by (int_lt greatest_time (span.end -ℤ pos 1)) (int_lt (span.end -ℤ pos 1) least_time) refl refl
  where
    not_above : (z : ℤ) → int_lt greatest_time z ≡ false → z ≤ℤ greatest_time
    not_above z e = grind (arith, ints)

    not_below : (z : ℤ) → int_lt z least_time ≡ false → least_time ≤ℤ z
    not_below z e = grind (arith, ints)

    by : (t u : Bool) → int_lt greatest_time (span.end -ℤ pos 1) ≡ t → int_lt (span.end -ℤ pos 1) least_time ≡ u → IsTime (cond t greatest_time (cond u least_time (span.end -ℤ pos 1)))
    by true u e f = (omega (arith, ints), omega (arith, ints))
    by false true e f = (omega (arith, ints), omega (arith, ints))
    by false false e f = (not_below (span.end -ℤ pos 1) f, not_above (span.end -ℤ pos 1) e)

pub last_before_end : (span : Interval) → least_time <ℤ span.end → last_time span <ℤ span.end
last_before_end span past = by (int_lt greatest_time (span.end -ℤ pos 1)) (int_lt (span.end -ℤ pos 1) least_time) refl
  where
    above : (z : ℤ) → int_lt greatest_time (z -ℤ pos 1) ≡ true → greatest_time <ℤ z
    above z e = grind (arith, ints)

    by : (t u : Bool) → int_lt greatest_time (span.end -ℤ pos 1) ≡ t → cond t greatest_time (cond u least_time (span.end -ℤ pos 1)) <ℤ span.end
    by true u e = above span.end e
    by false true e = past
    by false false e = omega (arith, ints)

-- a pane is at the last time of its window, which isn't empty
pub record IsPaneWell (p : Pane) : Type 0 where
  pub time : p.element.time ≡ last_time p.element.span
  pub past : least_time <ℤ p.element.span.end
  pub some : p.element.span.start <ℤ p.element.span.end

-- ---- estimators

least_seen : (e : Estimator) → HasLag e → mark_of e least_time ≤ℤ least_time
least_seen estimator.None lag = omega (arith, ints)
least_seen estimator.Monotonic lag = omega (arith, ints)
least_seen (estimator.Lag delay) lag = let back = lag.0 in omega (arith, ints, clamps, back)
least_seen estimator.Declared lag = omega (arith, ints)

pub lag_of : (plan : Plan) → ((n : ℕ) (node : Node) → slice_get plan.nodes n ≡ Some node → HasSettings node.kind) → (n : ℕ) → HasLag (estimator_of plan n)
lag_of plan settings n = by (slice_get plan.nodes n) refl
  where
    of_kind : (kind : NodeKind) → HasSettings kind → HasLag (estimator_in kind)
    of_kind (Source work args files e) set = set.2
    of_kind (ParDo work args) set = tt
    of_kind Flatten set = tt
    of_kind (WindowInto s) set = tt
    of_kind (Group trigger) set = tt
    of_kind (Stateful work args log) set = tt
    of_kind (Write label) set = tt

    by : (found : Option Node) → slice_get plan.nodes n ≡ found → HasLag (estimator_of plan n)
    by None at = subst (λ (f : Option Node). HasLag (unwrap_or (option_map (λ x. estimator_in x.kind) f) estimator.None)) (sym at) tt
    by (Some node) at = subst (λ (f : Option Node). HasLag (unwrap_or (option_map (λ x. estimator_in x.kind) f) estimator.None)) (sym at) (of_kind node.kind (settings n node at))

-- the mark that a time makes is a time
pub mark_time : (e : Estimator) (seen : ℤ) → HasLag e → IsTime seen → IsTime (mark_of e seen)
mark_time estimator.None seen lag is = (omega (arith, ints), omega (arith, ints))
mark_time estimator.Monotonic seen lag is = is
mark_time (estimator.Lag delay) seen lag is = let back = lag.0 in let low = is.0 in let high = is.1 in (omega (arith, ints, clamps), omega (arith, ints, clamps, back, low, high))
mark_time estimator.Declared seen lag is = is

-- ---- positions

-- an item whose source has its argument
abbrev pub HasArgument : SourceItem → Type 0
HasArgument item = is_source_argument item.work item.args ≡ true

pub emission_of : (item : SourceItem) → HasArgument item → (p : ℕ) → IsTimely (emission_at item p)
emission_of item set p = by (is_left_out item p)
  where
    by : (t : Bool) → IsTimely (cond t nothing (emission item.work item.args item.file p))
    by true = no_times
    by false = emission_time item.work item.args item.file p set

past_the_end : (item : SourceItem) (p : ℕ) → nat_lt p (len_of item) ≡ false → output_times (emission_at item p) ≡ []
past_the_end item p past = by (is_left_out item p)
  where
    by : (t : Bool) → output_times (cond t nothing (emission item.work item.args item.file p)) ≡ []
    by true = refl
    by false = ap (λ (u : Bool). output_times (cond u (emission_within item.work item.args item.file p) nothing)) past

outputs_are : (plan : Plan) (item : SourceItem) (p : ℕ) → outputs_at plan item p ≡ emission_outputs plan item.node (emission_at item p)
outputs_are plan item p = by (is_left_out item p)
  where
    by : (t : Bool) → cond t [] (emission_outputs plan item.node (emission item.work item.args item.file p))
        ≡ emission_outputs plan item.node (cond t nothing (emission item.work item.args item.file p))
    by true = refl
    by false = refl

from_on : (from count : ℕ) → All (λ p. from ≤ p) (offsets from count)
unfolding offsets
from_on from zero = All-nil (λ p. from ≤ p)
from_on from (suc count) =
    All-cons (λ p. from ≤ p) from (offsets (suc from) count) (omega arith)
    (All-weaker (λ p. suc from ≤ p) (λ p. from ≤ p) (λ p h. omega (arith, h)) (offsets (suc from) count) (from_on (suc from) count))

-- no output of a later position lies before the mark of what was seen
module _ (e : Estimator) (item : SourceItem) (lag : HasLag e) (set : HasArgument item) (sound : IsSoundItem e item) (seen : ℤ) (from : ℕ)
    (was : (seen ≡ least_time) ⊎ ((p : ℕ) × (p < from) × Contains (observed_times e (emission_at item p)) seen)) where
  timely_outputs : (emission : Emission) → IsTimely emission → All IsTime (output_times emission)
  timely_outputs (Emits values declared) timely = All-map IsTime (λ v. v.time) values timely.values_are
  timely_outputs Poison timely = All-nil IsTime

  pub none_before : (p : ℕ) → from ≤ p → All (λ time. mark_of e seen ≤ℤ time) (output_times (emission_at item p))
  none_before p on = by was
    where
      by : (seen ≡ least_time) ⊎ ((q : ℕ) × (q < from) × Contains (observed_times e (emission_at item q)) seen) → All (λ time. mark_of e seen ≤ℤ time) (output_times (emission_at item p))
      by (inl least) =
          All-weaker IsTime (λ time. mark_of e seen ≤ℤ time)
          (λ time is. subst (λ (z : ℤ). mark_of e z ≤ℤ time) (sym least) (up (mark_of e least_time) least_time time (least_seen e lag) is.0))
          (output_times (emission_at item p)) (timely_outputs (emission_at item p) (emission_of item set p))
        where
          up : (a b c : ℤ) → a ≤ℤ b → b ≤ℤ c → a ≤ℤ c
          up a b c h k = omega (arith, ints)
      by (inr (q, less, looked)) = inside (nat_lt p (len_of item)) refl
        where
          lower : (n : ℕ) → nat_lt p n ≡ true → p < n
          lower n h = grind (arith, nat_tests)

          inside : (t : Bool) → nat_lt p (len_of item) ≡ t → All (λ time. mark_of e seen ≤ℤ time) (output_times (emission_at item p))
          inside true is =
              All-contains (λ z. All (λ time. mark_of e z ≤ℤ time) (output_times (emission_at item p))) (observed_times e (emission_at item q)) seen
              (sound q p (omega (arith, less, on)) (lower (len_of item) is)) looked
          inside false is = subst (All (λ time. mark_of e seen ≤ℤ time)) (sym (past_the_end item p is)) (All-nil (λ time. mark_of e seen ≤ℤ time))

-- ---- what is met at a barrier comes from above it

module _ (laws : KnownLaws) (told : List FileText) (to : ℕ) (b : SeenBook) (checked : IsChecked b.plan) (marked : AreMarksOfBook b (last_marks b)) where
  abbrev pub ToCome : Output → Type 0
  ToCome output = IsToCome laws b.plan checked (least_hold (all_holds b)) (last_marks b) marked output

  abbrev pub MetToCome : Output → Type 0
  MetToCome output = is_met b.plan to output ≡ true → ToCome output

  abbrev pub Fits : ℕ → Element → Type 0
  Fits n e = FitsAfter laws b.plan checked (least_hold (all_holds b)) (last_marks b) marked n e

  abbrev pub out : ℕ → ℤ
  out n = (marks_at (last_marks b) n).mark_out

  met_above : (n m : ℕ) → is_above b.plan n m ≡ true → (m == to || is_above b.plan m to) ≡ true → is_above b.plan n to ≡ true
  met_above n m above met = by (m == to) refl met
    where
      by : (t : Bool) → (m == to) ≡ t → (t || is_above b.plan m to) ≡ true → is_above b.plan n to ≡ true
      by true e h = subst (λ (k : ℕ). is_above b.plan n k ≡ true) (eqb-true m to e) above
      by false e h = above_above b.plan (checked_inputs_lower b.plan checked) n m above to h

  pub chain_met : (n : ℕ) (e : Element) → (is_above b.plan n to ≡ true → Fits n e) → All MetToCome (chain b.plan n e)
  chain_met n e fits = by (is_above b.plan n to) refl
    where
      by : (t : Bool) → is_above b.plan n to ≡ t → All MetToCome (chain b.plan n e)
      by true above =
          All-weaker ToCome MetToCome (λ output is met. is) (chain b.plan n e)
          (outputs_above laws b.plan checked (least_hold (all_holds b)) (last_marks b) marked n e (fits above))
      by false away =
          All-weaker (λ output. is_above b.plan n (node_of output) ≡ true) MetToCome
          (λ output below met. absurd (never (is_above b.plan n to) (met_above n (node_of output) below met) away)) (chain b.plan n e) (outputs_below b.plan n e)
        where
          never : (t : Bool) → t ≡ true → t ≡ false → ⊥
          never true e f = absurd (cc)
          never false e f = absurd (cc)

  -- ---- no hold is below the mark after its node

  abbrev IsLow : Hold → Type 0
  IsLow h = (node : Node) → slice_get b.plan.nodes h.node ≡ Some node → out h.node ≤ℤ h.mark

  all_low : All IsLow (all_holds b)
  all_low k d inside node there =
      let n = (get_or (all_holds b) k d).node in
      let low = (below_hold b.plan (least_hold (all_holds b)) (last_marks b) n node marked there).1 in
      let each = All-unmap (λ (x : ℤ). least_hold (all_holds b) n ≤ℤ x) (λ (h : Hold). h.mark) (filter (λ h. h.node == n) (all_holds b))
      (fold-int_min_bounds final_mark (marks_held (all_holds b) n) (least_hold (all_holds b) n) refl).1 in
      up (out n) (least_hold (all_holds b) n) (get_or (all_holds b) k d).mark low
      (passes_have (λ (h : Hold). h.node == n) (λ (h : Hold). least_hold (all_holds b) n ≤ℤ h.mark) (all_holds b) each k d inside (eq-eqb n n refl))
    where
      up : (a b c : ℤ) → a ≤ℤ b → b ≤ℤ c → a ≤ℤ c
      up a b c h k = omega (arith, ints)

  abbrev IsLowPiece : Piece → Type 0
  IsLowPiece piece = (node : Node) → slice_get b.plan.nodes piece.node ≡ Some node → out piece.node ≤ℤ mark_of (estimator_of b.plan piece.node) piece.seen

  abbrev IsLowHeld : HeldPane → Type 0
  IsLowHeld h = (node : Node) → slice_get b.plan.nodes h.node ≡ Some node → out h.node ≤ℤ h.waiting.hold

  pieces_low : All IsLowPiece (b.pending ++ live_pieces b)
  pieces_low = All-unmap IsLow (piece_hold b.plan) (b.pending ++ live_pieces b) (All-append_left IsLow (map (piece_hold b.plan) (b.pending ++ live_pieces b)) (holds b) all_low)

  held_low : All IsLowHeld (held b)
  held_low =
      All-unmap IsLow hold_of (held b)
      (All-append_left IsLow (map hold_of (held b)) (key_holds b.keys) (All-append_right IsLow (map (piece_hold b.plan) (b.pending ++ live_pieces b)) (holds b) all_low))

  -- what holds of all pieces holds of one that is worked, and the same of panes
  pub worked_has : (P : Piece → Type 0) → All P (b.pending ++ live_pieces b) → (slot : ℕ) (piece : Piece) (attempted : Option ℕ) → IsWorking b slot (live.Span piece attempted) → P piece
  worked_has P all slot piece attempted works =
      All-head P piece [] (All-flat_at piece_of b.slots slot P (Some (live.Span piece attempted)) works (All-append_right P b.pending (live_pieces b) all))

  pub batch_has : (P : HeldPane → Type 0) → All P (held b) → (slot : ℕ) (batch : Batch) → IsWorking b slot (live.Batch batch) → All P (held_in batch)
  batch_has P all slot batch works =
      let live_held = All-append_right P (flat_map held_in b.returned) (flat_map held_in (live_batches b))
      (All-append_right P (queued b) (flat_map held_in b.returned ++ flat_map held_in (live_batches b)) all) in
      All-head (λ (x : Batch). All P (held_in x)) batch []
      (All-flat_at batch_of b.slots slot (λ (x : Batch). All P (held_in x)) (Some (live.Batch batch)) works (All-of_flat_map P held_in (live_batches b) live_held))

  -- ---- of a range

  source_onward : (n : ℕ) (node : Node) → slice_get b.plan.nodes n ≡ Some node → is_source_kind node.kind ≡ true → onward_of b.plan n ≡ strategy.Global
  source_onward n node at is = let known = laws.strategies b.plan checked in known.onward n node at ∙ by node.kind is (known.own n node at)
    where
      by : (kind : NodeKind) → is_source_kind kind ≡ true → HasOwnStrategy kind (strategy_of b.plan n)
          → cond (is_group_kind kind) (below_group (strategy_of b.plan n)) (strategy_of b.plan n) ≡ strategy.Global
      by (Source work args files estimator) is own = own
      by (ParDo work args) is own = absurd (cc)
      by Flatten is own = absurd (cc)
      by (WindowInto s) is own = absurd (cc)
      by (Group trigger) is own = absurd (cc)
      by (Stateful work args log) is own = absurd (cc)
      by (Write label) is own = absurd (cc)

  value_fits : (n : ℕ) → onward_of b.plan n ≡ strategy.Global → (v : TimedValue) → IsTime v.time → out n ≤ℤ v.time → Fits n (from_source v)
  value_fits n global v is low =
      let high = is.1 in
      record {
        low = is.0;
        high = is.1;
        time = low;
        ends = omega (arith, ints, high, low);
        past = omega (arith, ints);
        some = omega (arith, ints);
        starts = subst (λ (s : Strategy). StartsAbove s (out n) (from_source v).span) (sym global) tt;
      }

  values_met : (n : ℕ) → (values : List TimedValue) → All (λ v. is_above b.plan n to ≡ true → Fits n (from_source v)) values → All MetToCome (flat_map (λ v. chain b.plan n (from_source v)) values)
  values_met n [] all = All-nil MetToCome
  values_met n (v ∷ values) all =
      All-append MetToCome (chain b.plan n (from_source v)) (flat_map (λ x. chain b.plan n (from_source x)) values)
      (chain_met n (from_source v) (All-head (λ (x : TimedValue). is_above b.plan n to ≡ true → Fits n (from_source x)) v values all))
      (values_met n values (All-tail (λ (x : TimedValue). is_above b.plan n to ≡ true → Fits n (from_source x)) v values all))

  emission_met : (n : ℕ) → onward_of b.plan n ≡ strategy.Global → (e : Emission) → IsTimely e → (is_above b.plan n to ≡ true → All (λ time. out n ≤ℤ time) (output_times e))
      → All MetToCome (emission_outputs b.plan n e)
  emission_met n global (Emits values declared) timely low =
      values_met n values
      (λ k d inside above. value_fits n global (get_or values k d) (timely.values_are k d inside) (All-unmap (λ (time : ℤ). out n ≤ℤ time) (λ v. v.time) values (low above) k d inside))
  emission_met n global Poison timely low = All-cons MetToCome (PoisonAt n) [] (λ met. tt) (All-nil MetToCome)

  positions_met : (item : SourceItem) → onward_of b.plan item.node ≡ strategy.Global → HasArgument item → (ps : List ℕ)
      → All (λ p. is_above b.plan item.node to ≡ true → All (λ time. out item.node ≤ℤ time) (output_times (emission_at item p))) ps → All MetToCome (flat_map (outputs_at b.plan item) ps)
  positions_met item global set [] all = All-nil MetToCome
  positions_met item global set (p ∷ ps) all =
      All-append MetToCome (outputs_at b.plan item p) (flat_map (outputs_at b.plan item) ps)
      (subst (All MetToCome) (sym (outputs_are b.plan item p))
      (emission_met item.node global (emission_at item p) (emission_of item set p)
      (All-head (λ q. is_above b.plan item.node to ≡ true → All (λ time. out item.node ≤ℤ time) (output_times (emission_at item q))) p ps all)))
      (positions_met item global set ps (All-tail (λ q. is_above b.plan item.node to ≡ true → All (λ time. out item.node ≤ℤ time) (output_times (emission_at item q))) p ps all))

  -- ---- of a batch

  group_onward : (n : ℕ) → is_group b.plan n ≡ true → (mark : ℤ) (span : Interval) → StartsAbove (onward_of b.plan n) mark span
  group_onward n group mark span = by (slice_get b.plan.nodes n) refl group
    where
      below_any : (s : Strategy) → StartsAbove (below_group s) mark span
      below_any strategy.Global = tt
      below_any (strategy.Fixed size) = tt
      below_any (strategy.Sliding size period) = tt
      below_any (strategy.Sessions gap) = tt
      below_any strategy.Kept = tt

      by : (found : Option Node) → slice_get b.plan.nodes n ≡ found → unwrap_or (option_map (λ node. is_group_kind node.kind) found) false ≡ true → StartsAbove (onward_of b.plan n) mark span
      by None at is = absurd (cc)
      by (Some node) at is =
          let known = laws.strategies b.plan checked in
          subst (λ (s : Strategy). StartsAbove s mark span)
          (sym (known.onward n node at ∙ ap (λ (t : Bool). cond t (below_group (strategy_of b.plan n)) (strategy_of b.plan n)) is))
          (below_any (strategy_of b.plan n))

  pane_fits : (n : ℕ) → is_group b.plan n ≡ true → (hold : ℤ) → out n ≤ℤ hold → (p : Pane) → IsPaneWell p → hold ≤ℤ p.element.time → Fits n p.element
  pane_fits n group hold low p well held =
      let is = subst IsTime (sym well.time) (last_is_time p.element.span) in
      let ends = subst (λ (z : ℤ). z <ℤ p.element.span.end) (sym well.time) (last_before_end p.element.span well.past) in
      record {
        low = is.0;
        high = is.1;
        time = omega (arith, ints, low, held);
        ends = omega (arith, ints, low, held, ends);
        past = well.past;
        some = well.some;
        starts = group_onward n group (out n) p.element.span;
      }

  -- a pane that is held, above the barrier, no later than its time
  abbrev pub IsHeldWell : HeldPane → Type 0
  IsHeldWell h = is_above b.plan h.node to ≡ true → (p : Pane) → slice_get b.panes h.waiting.pane ≡ Some p → h.waiting.hold ≤ℤ p.element.time

  abbrev pub AreWell : Type 0
  AreWell = All (λ p. is_above b.plan p.node to ≡ true → IsPaneWell p) b.panes

  waiting_met : AreWell → (n : ℕ) → is_group b.plan n ≡ true → (waiting : List WaitingPane)
      → All IsLowHeld (map (λ w. record { node = n; waiting = w }) waiting) → All IsHeldWell (map (λ w. record { node = n; waiting = w }) waiting)
      → All (IsHeldPane b) (map (λ w. record { node = n; waiting = w }) waiting) → All MetToCome (batch_outputs b.plan n (panes_of b.panes waiting))
  waiting_met well n group [] low held are = All-nil MetToCome
  waiting_met well n group (w ∷ ws) low held are =
      let as_held : WaitingPane → HeldPane = λ x. record { node = n; waiting = x } in
      let one = All-head (IsHeldPane b) (as_held w) (map as_held ws) are in
      let first : All MetToCome (chain b.plan n one.0.element) =
      chain_met n one.0.element
      (λ above.
      let there = group_there n group in
      pane_fits n group w.hold (All-head IsLowHeld (as_held w) (map as_held ws) low there.0 there.1) one.0
      (All-slice_get (λ (p : Pane). is_above b.plan p.node to ≡ true → IsPaneWell p) b.panes w.pane one.0 one.1 well (subst (λ (m : ℕ). is_above b.plan m to ≡ true) (sym one.2) above))
      (All-head IsHeldWell (as_held w) (map as_held ws) held above one.0 one.1)) in
      let read : batch_outputs b.plan n (panes_of b.panes (w ∷ ws)) ≡ chain b.plan n one.0.element ++ batch_outputs b.plan n (panes_of b.panes ws) =
      ap (λ (found : Option Pane). batch_outputs b.plan n ((elim found [ Some pane ↦ pane ∷ [] | None ↦ [] ]) ++ panes_of b.panes ws)) one.1 in
      subst (All MetToCome) (sym read)
      (All-append MetToCome (chain b.plan n one.0.element) (batch_outputs b.plan n (panes_of b.panes ws)) first
      (waiting_met well n group ws (All-tail IsLowHeld (as_held w) (map as_held ws) low) (All-tail IsHeldWell (as_held w) (map as_held ws) held) (All-tail (IsHeldPane b) (as_held w) (map as_held ws) are)))
    where
      group_there : (n : ℕ) → is_group b.plan n ≡ true → (node : Node) × (slice_get b.plan.nodes n ≡ Some node)
      group_there n group = by (slice_get b.plan.nodes n) refl group
        where
          by : (found : Option Node) → slice_get b.plan.nodes n ≡ found → unwrap_or (option_map (λ node. is_group_kind node.kind) found) false ≡ true → (node : Node) × (slice_get b.plan.nodes n ≡ Some node)
          by None at is = absurd (cc)
          by (Some node) at is = (node, at)

  -- ---- of a job

  module _ (sound : AreSoundAbove b.plan (items told b.plan) to) (seen : AreSeenBefore told b) (once : AreHeldOnce b) (well : AreWell) (holding : All IsHeldWell (held b))
      (groups : All (λ p. is_group b.plan p.node ≡ true) b.panes) where
    range_met : (slot : ℕ) (piece : Piece) (attempted : Option ℕ) (item : SourceItem) → IsWorking b slot (live.Span piece attempted)
        → item_at (items told b.plan) piece.node piece.item ≡ Some item → (upto : ℕ) → All MetToCome (spread_range b.plan item piece.range.from upto)
    range_met slot piece attempted item works found upto =
        let source = found_has (is_item piece.node piece.item) (IsOfSource b.plan) (items told b.plan) item (items_of_sources told b.plan) found in
        let settings = λ (n : ℕ) (node : Node) (here : slice_get b.plan.nodes n ≡ Some node). laws.settings b.plan n node checked here in
        let set = found_has (is_item piece.node piece.item) HasArgument (items told b.plan) item (items_set laws.windows b.plan settings told) found in
        let same : item.node ≡ piece.node = found_node (items told b.plan) found in
        let is_sound = found_has (is_item piece.node piece.item) (λ (i : SourceItem). is_above b.plan i.node to ≡ true → IsSoundItem (estimator_of b.plan i.node) i) (items told b.plan) item sound found in
        let was = subst (λ (o : Option SourceItem). IsSeenOf b o piece) found
        (worked_has (λ (x : Piece). IsSeenOf b (item_at (items told b.plan) x.node x.item) x) seen slot piece attempted works) in
        let low = worked_has IsLowPiece pieces_low slot piece attempted works source.node (ap (slice_get b.plan.nodes) (sym same) ∙ source.here) in
        positions_met item (source_onward item.node source.node source.here source.is) set (offsets piece.range.from (upto - piece.range.from))
        (All-weaker (λ p. piece.range.from ≤ p) (λ p. is_above b.plan item.node to ≡ true → All (λ time. out item.node ≤ℤ time) (output_times (emission_at item p)))
        (λ p on above.
        All-weaker (λ time. mark_of (estimator_of b.plan piece.node) piece.seen ≤ℤ time) (λ time. out item.node ≤ℤ time)
        (λ time h. up (out item.node) (mark_of (estimator_of b.plan piece.node) piece.seen) time (subst (λ (n : ℕ). out n ≤ℤ mark_of (estimator_of b.plan piece.node) piece.seen) (sym same) low) h)
        (output_times (emission_at item p))
        (none_before (estimator_of b.plan piece.node) item (lag_of b.plan settings piece.node) set
        (subst (λ (n : ℕ). IsSoundItem (estimator_of b.plan n) item) same (is_sound above)) piece.seen piece.range.from was p on))
        (offsets piece.range.from (upto - piece.range.from)) (from_on piece.range.from (upto - piece.range.from)))
      where
        up : (a b c : ℤ) → a ≤ℤ b → b ≤ℤ c → a ≤ℤ c
        up a b c h k = omega (arith, ints)

        found_node : (xs : List SourceItem) → item_at xs piece.node piece.item ≡ Some item → item.node ≡ piece.node
        found_node [] e = absurd (cc)
        found_node (x ∷ xs) e = by (is_item piece.node piece.item x) refl e (found_node xs)
          where
            by : (t : Bool) → is_item piece.node piece.item x ≡ t → cond t (Some x) (item_at xs piece.node piece.item) ≡ Some item
                → (item_at xs piece.node piece.item ≡ Some item → item.node ≡ piece.node) → item.node ≡ piece.node
            by true here e onward =
                let it : x ≡ item = cc in
                subst (λ (i : SourceItem). i.node ≡ piece.node) it (eqb-true x.node piece.node (and_parts (x.node == piece.node) (x.item == piece.item) here).0)
            by false away e onward = onward e

    abbrev pub ArrivesAbove : Arrival → Type 0
    ArrivesAbove a = (a.node == to || is_above b.plan a.node to) ≡ true → IsAbove (marks_at (last_marks b) a.node).mark_in (strategy_of b.plan a.node) a.element

    of_outputs : (arrivals : List Arrival) (outputs : List Output) → map Arrives arrivals ≡ outputs → All MetToCome outputs → All ArrivesAbove arrivals
    of_outputs arrivals outputs same all = All-unmap MetToCome Arrives arrivals (subst (All MetToCome) (sym same) all)

    -- what a job brings
    pub arrivals_above : HasNoStatefulAbove b.plan to → (slot : ℕ) (job : Live) (receipt : Receipt) → IsWorking b slot job → IsGiven (Some told) b.plan (job_of b.panes job) (attempted_of job) receipt
        → All ArrivesAbove receipt.arrivals
    arrivals_above stateless slot (live.Span piece attempted) receipt works given = by (item_at (items told b.plan) piece.node piece.item) refl given.0
      where
        by : (found : Option SourceItem) → item_at (items told b.plan) piece.node piece.item ≡ found → IsWorkOnItem b.plan piece (worked_to piece attempted) found receipt
            → All ArrivesAbove receipt.arrivals
        by None at work = subst (All ArrivesAbove) (sym work.0) (All-nil ArrivesAbove)
        by (Some item) at work =
            of_outputs receipt.arrivals (spread_range b.plan item piece.range.from (worked_to piece attempted)) work.arrivals (range_met slot piece attempted item works at (worked_to piece attempted))
    arrivals_above stateless slot (live.Batch batch) receipt works given =
        of_outputs receipt.arrivals (batch_outputs b.plan batch.node (panes_of b.panes batch.panes)) given.0
        (waiting_met well batch.node (batch_at_group b slot batch once groups works) batch.panes
        (batch_has IsLowHeld held_low slot batch works) (batch_has IsHeldWell holding slot batch works) (batch_has (IsHeldPane b) once.panes slot batch works))
    arrivals_above stateless slot (live.Key turn) receipt works given =
        let kept : KeptState = record { cells = turn.state; timers = turn.timers } in
        of_outputs receipt.arrivals (key_outputs b.plan turn.node turn.key turn.span turn.inputs kept) given.arrives
        (outputs_all MetToCome b.plan turn.node (λ met. tt) (λ on e. chain_met turn.node e (λ above. absurd (false≢true (sym (stateless turn.node above) ∙ on)))) turn.key turn.span turn.inputs kept)
