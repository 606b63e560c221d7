-- The work on a piece, one position after another: what it brings where the item's text is known, and what may come of it in any case.
use Rattle.std.proofs.Common.{◌≡◌, ℕ, zero, suc, ◌+◌, ◌-◌, ◌<◌, ◌≤◌, ℤ, true, List, [], ◌∷◌, ◌++◌, length, get_or, map, fold, refl, sym, ap, subst, ◌∙◌, append_assoc, arith}
use Rattle.std.specs.Prelude.{Some, None, ◌≤ℤ◌, slice_get}
use Rattle.std.specs.List.{All}
use Rattle.std.proofs.lemmas.Int.{ints}
use Rattle.std.proofs.lemmas.List.{append-nil}
use Rattle.std.proofs.lemmas.List.Elements.{All-nil, All-cons, All-append}
use Rattle.beam_values.specs.Lines.{offsets}
use Rattle.beam_values.specs.Nodes.{is_source_kind}
use Rattle.beam_values.specs.Times.{greatest_time}
use Rattle.beam_values.specs.declared.piece.Piece.{Piece}
use Rattle.beam_values.specs.declared.plan.Estimator.{Estimator}
use Rattle.beam_values.specs.declared.plan.Estimator.TheVariants as estimator
use Rattle.beam_values.specs.declared.plan.Node.{Node}
use Rattle.beam_values.specs.declared.plan.Plan.{Plan}
use Rattle.beam_values.proofs.Spreads.{spread-empty, spread-single}
use Rattle.beam_model.specs.Chains.{Output, Arrives, PoisonAt}
use Rattle.beam_model.specs.Estimators.{emission_at, seen_with}
use Rattle.beam_model.specs.Holds.{estimator_of}
use Rattle.beam_model.specs.Positions.{Emission, Emits, Poison, SourceItem, emission, next_position, nothing}
use Rattle.beam_model.specs.Reach.{ReachesBarrier}
use Rattle.beam_model.specs.Spread.{emission_outputs, outputs_at, spread_range}
use Rattle.beam_model.proofs.BarrierReach.{emission_reaches}
use Rattle.beam_model.proofs.Positions.{between_nothing}
use Rattle.bundle_commit.specs.declared.job.Receipt.{Receipt}
use Rattle.group_cells.proofs.Counting.{All-unmap}
use Rattle.pipeline_graph.specs.Rules.{HasSettings}
use Rattle.book_core.specs.Work.{IsPlausible, IsWorkOn, seen_over}
use Rattle.book_core.proofs.EarlyEnds.{IsEarlyOutput, WindowsOfKind, emitted_early}
use Rattle.book_core.proofs.EarlyTimes.{IsEarlyEmission}
use Rattle.book_core.proofs.Gaps.{AreStrategies, IsGapped}
use Rattle.book_core.proofs.CellsKept.{values_gapped}
use Rattle.book_core.proofs.Seen.{with_rises}
use Rattle.chain_exec.specs.Positions.{IsTimely, IsWorked}
use Rattle.chain_exec.specs.Sources.{SourceWork}
use Rattle.chain_exec.specs.declared.position.Step.{Step}
use Rattle.bundle_work.specs.Bundles.{IsFit, item_of}
use Rattle.bundle_work.specs.Stretches.{HasStaged, IsFitSoFar}
use Rattle.bundle_work.proofs.Working.{Quiet, spread_gap, spread_rest}

-- ---- what was seen

offsets-zero : (from : ℕ) → offsets from 0 ≡ []
unfolding offsets
offsets-zero from = refl

offsets-suc : (from n : ℕ) → offsets from (suc n) ≡ from ∷ offsets (suc from) n
unfolding offsets
offsets-suc from n = refl

offsets-append : (from m n : ℕ) → offsets from (m + n) ≡ offsets from m ++ offsets (from + m) n
offsets-append from zero n =
    let count : 0 + n ≡ n = omega arith in
    let start : from ≡ from + 0 = omega arith in
    ap (offsets from) count ∙ ap (λ f. offsets f n) start ∙ ap (λ t. t ++ offsets (from + 0) n) (sym (offsets-zero from))
offsets-append from (suc m) n =
    let count : suc m + n ≡ suc (m + n) = omega arith in
    let start : suc from + m ≡ from + suc m = omega arith in
    ap (offsets from) count ∙ offsets-suc from (m + n) ∙ ap (λ t. from ∷ t) (offsets-append (suc from) m n ∙ ap (λ f. offsets (suc from) m ++ offsets f n) start)
    ∙ ap (λ t. t ++ offsets (from + suc m) n) (sym (offsets-suc from m))

module _ (e : Estimator) (item : SourceItem) where
  abbrev Seen : ℤ → List ℕ → ℤ
  Seen seen ps = fold (λ before p. seen_with e before (emission_at item p)) seen ps

  seen_join : (seen : ℤ) (ps qs : List ℕ) → Seen seen (ps ++ qs) ≡ Seen (Seen seen ps) qs
  seen_join seen [] qs = refl
  seen_join seen (p ∷ ps) qs = seen_join (seen_with e seen (emission_at item p)) ps qs

  nothing_seen : (kind : Estimator) (seen : ℤ) → seen_with kind seen nothing ≡ seen
  nothing_seen estimator.None seen = refl
  nothing_seen estimator.Monotonic seen = refl
  nothing_seen (estimator.Lag delay) seen = refl
  nothing_seen estimator.Declared seen = refl

  seen_quiet : (seen : ℤ) (from n : ℕ) → ((q : ℕ) → from ≤ q → q < from + n → emission_at item q ≡ nothing) → Seen seen (offsets from n) ≡ seen
  seen_quiet seen from zero quiet = ap (Seen seen) (offsets-zero from)
  seen_quiet seen from (suc n) quiet =
      ap (Seen seen) (offsets-suc from n)
      ∙ ap (λ s. Seen s (offsets (suc from) n)) (ap (seen_with e seen) (quiet from (omega arith) (omega arith)) ∙ nothing_seen e seen)
      ∙ seen_quiet seen (suc from) n (λ q low high. quiet q (omega arith) (omega arith))

  seen_over_join : (seen : ℤ) (from middle to : ℕ) → from ≤ middle → middle ≤ to
      → seen_over e item from to seen ≡ seen_over e item middle to (seen_over e item from middle seen)
  seen_over_join seen from middle to low high =
      let count : to - from ≡ (middle - from) + (to - middle) = omega arith in
      let start : from + (middle - from) ≡ middle = omega arith in
      ap (λ n. Seen seen (offsets from n)) count
      ∙ ap (Seen seen) (offsets-append from (middle - from) (to - middle) ∙ ap (λ f. offsets from (middle - from) ++ offsets f (to - middle)) start)
      ∙ seen_join seen (offsets from (middle - from)) (offsets middle (to - middle))

  pub seen_over_quiet : (seen : ℤ) (from to : ℕ) → ((q : ℕ) → from ≤ q → q < to → emission_at item q ≡ nothing) → seen_over e item from to seen ≡ seen
  seen_over_quiet seen from to quiet = seen_quiet seen from (to - from) (λ q low high. quiet q low (omega arith))

  seen_over_single : (seen : ℤ) (p : ℕ) → seen_over e item p (p + 1) seen ≡ seen_with e seen (emission_at item p)
  seen_over_single seen p =
      let count : (p + 1) - p ≡ suc 0 = omega arith in
      ap (λ n. Seen seen (offsets p n)) count ∙ ap (Seen seen) (offsets-suc p 0 ∙ ap (λ t. p ∷ t) (offsets-zero (suc p)))

-- ---- what the positions of a known text bring

module _ (plan : Plan) (piece : Piece) (source : SourceWork) (text : List ℕ) where
  abbrev item : SourceItem
  item = item_of piece source text

  outputs_quiet : (from to : ℕ) → ((q : ℕ) → from ≤ q → q < to → emission_at item q ≡ nothing) → Quiet (outputs_at plan item) from to
  outputs_quiet from to quiet = λ q low high. ap (emission_outputs plan piece.node) (quiet q low high)

  -- nothing was worked
  pub staged_none : (p : ℕ) (receipt : Receipt) → HasStaged plan piece item p p p receipt receipt
  staged_none p receipt = record {
    arrived = sym (ap (λ (t : List Output). map Arrives receipt.arrivals ++ t) (spread-empty (outputs_at plan item) p p (omega arith)) ∙ append-nil (map Arrives receipt.arrivals));
    seen = sym (seen_over_quiet (estimator_of plan piece.node) item receipt.seen p p (λ q low high. absurd (omega arith)));
    quiet = λ q low high. absurd (omega arith);
  }

  -- one position was
  pub staged_one : (p next : ℕ) (old new : Receipt) (emitted : Emission) (step : Step) → IsWorked plan piece.node emitted old new step → emitted ≡ emission source.work source.args text p
      → next ≡ next_position source.work text p → HasStaged plan piece item p (p + 1) next old new
  staged_one p next old new emitted step worked emits next_is =
      let e = estimator_of plan piece.node in
      record {
        arrived =
            worked.arrivals
            ∙ ap (λ (x : Emission). map Arrives old.arrivals ++ emission_outputs plan piece.node x) emits
            ∙ ap (λ (t : List Output). map Arrives old.arrivals ++ t) (sym (spread-single (outputs_at plan item) p));
        seen = worked.seen ∙ ap (λ (x : Emission). seen_with e old.seen x) emits ∙ sym (seen_over_single e item old.seen p);
        quiet = λ q above below. between_nothing source.work source.args text p q (omega arith) (omega (arith, next_is));
      }

  -- and then those from the next one on
  pub staged_then : (p upto middle after next : ℕ) (old mid new : Receipt) → p ≤ upto → upto ≤ middle → middle ≤ after → HasStaged plan piece item p upto middle old mid
      → HasStaged plan piece item middle after next mid new → HasStaged plan piece item p after next old new
  staged_then p upto middle after next old mid new low between high front back =
      let e = estimator_of plan piece.node in
      record {
        arrived =
            back.arrived
            ∙ ap (λ (t : List Output). t ++ spread_range plan item middle after) front.arrived
            ∙ append_assoc (map Arrives old.arrivals) (spread_range plan item p upto) (spread_range plan item middle after)
            ∙ ap (λ (t : List Output). map Arrives old.arrivals ++ t) (sym (spread_gap (outputs_at plan item) p upto middle after low between high (outputs_quiet upto middle front.quiet)));
        seen =
            back.seen
            ∙ ap (λ s. seen_over e item middle after s)
            (front.seen ∙ sym (seen_over_quiet e item (seen_over e item p upto old.seen) upto middle front.quiet) ∙ sym (seen_over_join e item old.seen p upto middle low between))
            ∙ sym (seen_over_join e item old.seen p middle after (omega arith) high);
        quiet = back.quiet;
      }

  -- a receipt of the positions from the start is the work up to any offset before the next one, since the positions between emit nothing
  pub staged_all : (upto next to : ℕ) (old new : Receipt) → old ≡ record { arrivals = []; seen = piece.seen; logged = None } → piece.range.from ≤ upto → upto ≤ to → to ≤ next
      → HasStaged plan piece item piece.range.from upto next old new → IsWorkOn plan piece to item new
  staged_all upto next to old new empty low within past known =
      let from = piece.range.from in
      let e = estimator_of plan piece.node in
      record {
        arrivals =
            known.arrived
            ∙ ap (λ (r : Receipt). map Arrives r.arrivals ++ spread_range plan item from upto) empty
            ∙ sym (spread_rest (outputs_at plan item) from upto next to low within past (outputs_quiet upto next known.quiet));
        seen =
            known.seen
            ∙ ap (λ (r : Receipt). seen_over e item from upto r.seen) empty
            ∙ sym (seen_over_quiet e item (seen_over e item from upto piece.seen) upto to (λ q above below. known.quiet q above (omega arith)))
            ∙ sym (seen_over_join e item piece.seen from upto to low within);
      }

-- ---- what may come of any text

pub fit_none : (plan : Plan) (piece : Piece) (receipt : Receipt) → receipt ≡ record { arrivals = []; seen = piece.seen; logged = None } → IsFitSoFar plan piece receipt
fit_none plan piece receipt is = subst (IsFitSoFar plan piece) (sym is) (record { outputs = All-nil (IsFit plan piece.node); seen = omega (arith, ints); logged = refl })

pub fit_more : (plan : Plan) (piece : Piece) (receipt later : Receipt) (emitted : Emission) (step : Step) → IsFitSoFar plan piece receipt
    → IsWorked plan piece.node emitted receipt later step → All (IsFit plan piece.node) (emission_outputs plan piece.node emitted) → IsFitSoFar plan piece later
fit_more plan piece receipt later emitted step known worked fit = record {
  outputs = subst (All (IsFit plan piece.node)) (sym worked.arrivals) (All-append (IsFit plan piece.node) (map Arrives receipt.arrivals) (emission_outputs plan piece.node emitted) known.outputs fit);
  seen =
      let rises = with_rises (estimator_of plan piece.node) receipt.seen emitted in
      let is = worked.seen in
      let low = known.seen in
      omega (arith, ints, rises, is, low);
  logged = worked.logged ∙ known.logged;
}

pub fit_plausible : (plan : Plan) (piece : Piece) (receipt : Receipt) → IsFitSoFar plan piece receipt → receipt.seen ≤ℤ greatest_time → IsPlausible plan piece receipt
fit_plausible plan piece receipt known time =
    let each = All-unmap (IsFit plan piece.node) Arrives receipt.arrivals known.outputs in
    record {
      at_barriers = λ k d inside. (each k d inside).0;
      gaps = λ k d inside. (each k d inside).1;
      ends = λ k d inside. (each k d inside).2;
      times = λ k d inside. (each k d inside).3;
      seen = known.seen;
      seen_time = time;
    }

-- ---- what a source emits is fit

fit_of : (plan : Plan) (node : ℕ) (o : Output) → ReachesBarrier plan node o → IsGapped plan o → IsEarlyOutput o → IsFit plan node o
fit_of plan node (Arrives arrival) reaches gapped early = (reaches, gapped, early.1, early.0)
fit_of plan node (PoisonAt at) reaches gapped early = tt

gapped_of : (plan : Plan) → AreStrategies plan → (n : ℕ) (node : Node) → slice_get plan.nodes n ≡ Some node → is_source_kind node.kind ≡ true → (e : Emission)
    → All (IsGapped plan) (emission_outputs plan n e)
gapped_of plan strategies n node here is (Emits values declared) = values_gapped plan strategies n node here is values
gapped_of plan strategies n node here is Poison = All-cons (IsGapped plan) (PoisonAt n) [] tt (All-nil (IsGapped plan))

early_of : (e : Emission) → IsTimely e → IsEarlyEmission e
early_of (Emits values declared) timely = λ k d inside. (timely k d inside).1
early_of Poison timely = tt

pub emission_fit : WindowsOfKind → (plan : Plan) → AreStrategies plan → ((n : ℕ) (node : Node) → slice_get plan.nodes n ≡ Some node → HasSettings node.kind)
    → (n : ℕ) (node : Node) → slice_get plan.nodes n ≡ Some node → is_source_kind node.kind ≡ true → n < length plan.nodes
    → (e : Emission) → IsTimely e → All (IsFit plan n) (emission_outputs plan n e)
emission_fit windows plan strategies settings n node here is low e timely =
    let reaches = emission_reaches plan n low e in
    let gapped = gapped_of plan strategies n node here is e in
    let early = emitted_early windows plan settings n e (early_of e timely) in
    let outputs = emission_outputs plan n e in
    λ k d inside. fit_of plan n (get_or outputs k d) (reaches k d inside) (gapped k d inside) (early k d inside)
