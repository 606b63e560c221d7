-- The outcome of a book that is through is covered and accounted for.
use Rattle.std.proofs.Common.{◌≡◌, ◌+◌, min, true, List, [], ◌∷◌, ◌++◌, get_or, append-nil, refl, sym, ap, ap₂, subst, ◌∙◌, arith}
use Rattle.std.specs.Prelude.{map}
use Rattle.std.specs.List.{All, flat_map}
use Rattle.std.proofs.lemmas.List.Elements.{All-head, All-tail, All-map}
use Rattle.std.proofs.lemmas.List.Sorted.{All-permutation}
use Rattle.std.proofs.lemmas.List.Sums.{sum_by-append}
use Rattle.beam_values.specs.Bags.{IsSameBag}
use Rattle.beam_values.specs.Cover.{times_dead, times_done, times_listed}
use Rattle.beam_values.specs.Nodes.{is_group, is_stateful, is_write}
use Rattle.beam_values.specs.declared.arrival.Arrival.{Arrival}
use Rattle.beam_values.specs.declared.cell.Cell.{Cell}
use Rattle.beam_values.specs.declared.cell.Dropped.{Dropped}
use Rattle.beam_values.specs.declared.cell.Pane.{Pane}
use Rattle.beam_values.specs.declared.file_text.FileText.{FileText}
use Rattle.beam_values.specs.declared.log.KeyLog.{KeyLog}
use Rattle.beam_values.specs.declared.outcome.Outcome.{Outcome}
use Rattle.beam_values.specs.declared.piece.Dead.{Dead}
use Rattle.beam_values.specs.declared.piece.Done.{Done}
use Rattle.beam_values.specs.declared.piece.FileLen.{FileLen}
use Rattle.beam_values.specs.declared.plan.Plan.{Plan}
use Rattle.beam_values.proofs.Bags.{bag_append, bag_flat_map, bag_from_permutation, bag_from_same, bag_map, bag_refl, bag_sym, bag_trans}
use Rattle.beam_model.specs.Account.{IsAccounted, arrivals_of, cell_arrivals, dropped_arrival, log_arrivals}
use Rattle.beam_model.specs.Chains.{Output, Arrives, chain}
use Rattle.beam_model.specs.Coverings.{spread_dones}
use Rattle.beam_model.specs.Covers.{IsCovered}
use Rattle.beam_model.specs.Dead.{items_without}
use Rattle.beam_model.specs.Flow.{flow, log_chains, pane_chains}
use Rattle.beam_model.specs.Positions.{SourceItem, items}
use Rattle.beam_model.specs.Spread.{spread_all}
use Rattle.beam_model.proofs.Coverings.{plan_distinct}
use Rattle.beam_model.proofs.DeadPositions.{covering_without}
use Rattle.stateful_core.specs.Cells.{KeyCell, key_arrivals, logs_of, waiting_arrival}
use Rattle.stateful_core.specs.Facts.{IsCellThrough}
use Rattle.stateful_core.specs.declared.waiting.Waiting.{Waiting}
use Rattle.stateful_core.proofs.OfSane.{cell_stateful}
use Rattle.book_core.specs.Book.{SeenBook, HeldPane, panes_of}
use Rattle.book_core.specs.Calls.{IsOutcomeOf}
use Rattle.book_core.specs.Facts.{AreAtWrites, AreCellsKept, ArePartitioned, IsBalanced, IsWellFormed, held_chains}
use Rattle.book_core.specs.Runs.{AreTold, IsThrough}
use Rattle.book_core.specs.Steps.{IsIdle}
use Rattle.book_core.proofs.KeysKept.{KeysSane}
use Rattle.ended_runs.proofs.Listed.{done_covers}

pub outcome_covered : (b : SeenBook) (o : Outcome) → ArePartitioned b → IsWellFormed b → b.pending ≡ [] → IsIdle b → IsOutcomeOf b o → IsCovered o
outcome_covered b o partitioned formed pending idle of place =
    ap₂ (λ (d : List Done) (x : List Dead). times_done d place + times_dead x place) of.done of.dead
    ∙ done_covers b partitioned formed pending idle place
    ∙ ap (λ (f : List FileLen). min 1 (times_listed f place)) (sym of.files)

-- ---- logs

logs_came : (cells : List KeyCell) → All IsCellThrough cells → key_arrivals cells ≡ flat_map log_arrivals (logs_of cells)
logs_came [] h = refl
logs_came (cell ∷ cells) h =
    ap (λ (l : List Waiting). (log_arrivals cell.log ++ map (waiting_arrival cell.log.node) l) ++ key_arrivals cells) (All-head IsCellThrough cell cells h).0
    ∙ ap (λ (l : List Arrival). l ++ key_arrivals cells) (append-nil (log_arrivals cell.log))
    ∙ ap (λ (l : List Arrival). log_arrivals cell.log ++ l) (logs_came cells (All-tail IsCellThrough cell cells h))

-- what came to key cells may stand anywhere
with_logs : (cells : List Cell) (dropped : List Dropped) (logs : List KeyLog) (written : List Arrival)
    → IsSameBag (arrivals_of cells dropped [] written ++ flat_map log_arrivals logs) (arrivals_of cells dropped logs written)
with_logs cells dropped logs written =
    let taken = flat_map cell_arrivals cells in
    let lost = map dropped_arrival dropped in
    let keyed = flat_map log_arrivals logs in
    record {
      weighs = λ w. omega (
        arith,
        sum_by-append w (arrivals_of cells dropped [] written) keyed,
        sum_by-append w taken (lost ++ written),
        sum_by-append w lost written,
        sum_by-append w taken (lost ++ (keyed ++ written)),
        sum_by-append w lost (keyed ++ written),
        sum_by-append w keyed written,
      );
    }

-- the flow and the arrivals of a book that is through
module _ (told : List FileText) (b : SeenBook) (lengths : AreTold told b) (partitioned : ArePartitioned b) (formed : IsWellFormed b) (through : IsThrough b)
    (balanced : IsBalanced told b) where
  none_held : held_chains b ≡ []
  none_held = ap (λ (hs : List HeldPane). flat_map (λ h. pane_chains b.plan (panes_of b.panes (h.waiting ∷ []))) hs) through.held

  all_done : IsSameBag (spread_dones b.plan (items told b.plan) b.done) (spread_all b.plan (items_without b.dead (items told b.plan)))
  all_done =
      covering_without b.plan (items told b.plan) b.done b.dead (plan_distinct told b.plan)
      (λ place. done_covers b partitioned formed through.pending through.idle place ∙ ap (λ (f : List FileLen). min 1 (times_listed f place)) lengths)

  -- all that came to key cells is in their logs
  pub book_flow : IsSameBag (flow b.plan (items_without b.dead (items told b.plan)) b.panes (logs_of b.keys)) (map Arrives (arrivals_of b.cells b.dropped (logs_of b.keys) b.written))
  book_flow =
      let all = spread_all b.plan (items_without b.dead (items told b.plan)) in
      let done = spread_dones b.plan (items told b.plan) b.done in
      let flows = pane_chains b.plan b.panes ++ log_chains b.plan (logs_of b.keys) in
      let others = arrivals_of b.cells b.dropped [] b.written in
      let came = others ++ key_arrivals b.keys in
      let logged = others ++ flat_map log_arrivals (logs_of b.keys) in
      let whole = arrivals_of b.cells b.dropped (logs_of b.keys) b.written in
      let arrived = map Arrives came in
      bag_trans (all ++ flows) (done ++ flows) (map Arrives whole) (bag_append all done flows flows (bag_sym done all all_done) (bag_refl flows))
      (bag_trans (done ++ flows) (arrived ++ held_chains b) (map Arrives whole) balanced
      (bag_trans (arrived ++ held_chains b) arrived (map Arrives whole)
      (bag_from_same (arrived ++ held_chains b) arrived (ap (λ (l : List Output). arrived ++ l) none_held ∙ append-nil arrived))
      (bag_map Arrives came whole
      (bag_trans came logged whole (bag_from_same came logged (ap (λ (l : List Arrival). others ++ l) (logs_came b.keys through.keyed)))
      (with_logs b.cells b.dropped (logs_of b.keys) b.written)))))

-- the cells and logs of an outcome stand in another order
arrived_alike : (cells others : List Cell) (dropped : List Dropped) (logs more : List KeyLog) (written : List Arrival) → IsSameBag cells others → IsSameBag logs more
    → IsSameBag (map Arrives (arrivals_of cells dropped logs written)) (map Arrives (arrivals_of others dropped more written))
arrived_alike cells others dropped logs more written same alike =
    let lost = map dropped_arrival dropped in
    let keyed = flat_map log_arrivals logs in
    let moved = flat_map log_arrivals more in
    bag_map Arrives (arrivals_of cells dropped logs written) (arrivals_of others dropped more written)
    (bag_append (flat_map cell_arrivals cells) (flat_map cell_arrivals others) (lost ++ (keyed ++ written)) (lost ++ (moved ++ written)) (bag_flat_map cell_arrivals cells others same)
    (bag_append lost lost (keyed ++ written) (moved ++ written) (bag_refl lost)
    (bag_append keyed moved written written (bag_flat_map log_arrivals logs more alike) (bag_refl written))))

flow_alike : (plan : Plan) (sources : List SourceItem) (panes : List Pane) (logs more : List KeyLog) → IsSameBag logs more → IsSameBag (flow plan sources panes logs) (flow plan sources panes more)
flow_alike plan sources panes logs more same =
    let read = spread_all plan sources in
    let fired = pane_chains plan panes in
    bag_append read read (fired ++ log_chains plan logs) (fired ++ log_chains plan more) (bag_refl read)
    (bag_append fired fired (log_chains plan logs) (log_chains plan more) (bag_refl fired)
    (bag_flat_map (λ (log : KeyLog). flat_map (λ entry. flat_map (chain plan log.node) entry.outputs) log.entries) logs more same))

-- each log is of a Stateful node
pub logs_at_nodes : (b : SeenBook) → KeysSane b → All (λ log. is_stateful b.plan log.node ≡ true) (logs_of b.keys)
logs_at_nodes b keys =
    All-map (λ log. is_stateful b.plan log.node ≡ true) (λ (cell : KeyCell). cell.log) b.keys (λ k d inside. cell_stateful b.plan b.commits (get_or b.keys k d) (keys.each k d inside))

pub outcome_accounted : (told : List FileText) (b : SeenBook) (o : Outcome) → AreTold told b → ArePartitioned b → IsWellFormed b → AreCellsKept b → AreAtWrites b → KeysSane b
    → IsBalanced told b → IsThrough b → IsOutcomeOf b o → IsAccounted (items told b.plan) o
outcome_accounted told b o lengths partitioned formed kept writes keys balanced through of = record {
  cells = subst (λ (p : Plan). All (λ cell. is_group p cell.node ≡ true) o.cells) (sym of.plan)
      (All-permutation (λ cell. is_group b.plan cell.node ≡ true) b.cells o.cells of.cells kept.legal.cells_at);
  dropped = subst (λ (p : Plan). All (λ lost. is_group p lost.node ≡ true) o.dropped) (sym of.plan)
      (subst (All (λ lost. is_group b.plan lost.node ≡ true)) (sym of.dropped) kept.legal.dropped_at);
  panes = subst (λ (p : Plan). All (λ pane. is_group p pane.node ≡ true) o.panes) (sym of.plan)
      (subst (All (λ pane. is_group b.plan pane.node ≡ true)) (sym of.panes) kept.legal.panes_at);
  logs = subst (λ (p : Plan). All (λ log. is_stateful p log.node ≡ true) o.logs) (sym of.plan)
      (All-permutation (λ log. is_stateful b.plan log.node ≡ true) (logs_of b.keys) o.logs of.logs (logs_at_nodes b keys));
  written = subst (λ (p : Plan). All (λ arrival. is_write p arrival.node ≡ true) o.written) (sym of.plan)
      (subst (All (λ arrival. is_write b.plan arrival.node ≡ true)) (sym of.written) writes.written);
  flow = subst (λ (d : List Dead). IsSameBag (flow o.plan (items_without d (items told b.plan)) o.panes o.logs) (map Arrives (arrivals_of o.cells o.dropped o.logs o.written))) (sym of.dead)
      (subst (λ (p : Plan). IsSameBag (flow p (items_without b.dead (items told b.plan)) o.panes o.logs) (map Arrives (arrivals_of o.cells o.dropped o.logs o.written))) (sym of.plan)
      (subst (λ (l : List Pane). IsSameBag (flow b.plan (items_without b.dead (items told b.plan)) l o.logs) (map Arrives (arrivals_of o.cells o.dropped o.logs o.written))) (sym of.panes)
      (subst (λ (l : List Dropped). IsSameBag (flow b.plan (items_without b.dead (items told b.plan)) b.panes o.logs) (map Arrives (arrivals_of o.cells l o.logs o.written))) (sym of.dropped)
      (subst (λ (l : List Arrival). IsSameBag (flow b.plan (items_without b.dead (items told b.plan)) b.panes o.logs) (map Arrives (arrivals_of o.cells b.dropped o.logs l))) (sym of.written)
      (bag_trans (flow b.plan (items_without b.dead (items told b.plan)) b.panes o.logs) (flow b.plan (items_without b.dead (items told b.plan)) b.panes (logs_of b.keys)) (map Arrives (arrivals_of o.cells b.dropped o.logs b.written))
      (flow_alike b.plan (items_without b.dead (items told b.plan)) b.panes o.logs (logs_of b.keys) (bag_sym (logs_of b.keys) o.logs (bag_from_permutation (logs_of b.keys) o.logs of.logs)))
      (bag_trans (flow b.plan (items_without b.dead (items told b.plan)) b.panes (logs_of b.keys)) (map Arrives (arrivals_of b.cells b.dropped (logs_of b.keys) b.written))
      (map Arrives (arrivals_of o.cells b.dropped o.logs b.written)) (book_flow told b lengths partitioned formed through balanced)
      (arrived_alike b.cells o.cells b.dropped (logs_of b.keys) o.logs b.written (bag_from_permutation b.cells o.cells of.cells)
      (bag_from_permutation (logs_of b.keys) o.logs of.logs))))))));
}
