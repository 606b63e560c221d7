-- Where the files are told, a commit keeps the balance: the arrivals and the chains of the panes that aren't through are the outputs of the done ranges and
-- the chains of all panes.
use Rattle.std.proofs.Common.{◌≡◌, ℕ, ◌+◌, ◌-◌, Bool, true, false, cond, List, [], ◌∷◌, ◌++◌, length, map, refl, sym, ap, subst, ◌∙◌, append_assoc, length-append, arith}
use Rattle.std.specs.Prelude.{Option, Some, None, slice_get, option_map, filter}
use Rattle.std.specs.List.{All, flat_map, sum_by, enumerate_from}
use Rattle.std.specs.Ordering.{is_lt}
use Rattle.std.proofs.lemmas.List.Concat.{flat_map-append}
use Rattle.std.proofs.lemmas.List.Elements.{All-nil, All-head, All-tail, All-append}
use Rattle.std.proofs.lemmas.List.Sums.{sum_by-cons, sum_by-append}
use Rattle.beam_values.specs.Lines.{offsets}
use Rattle.beam_values.specs.Nodes.{is_stateful}
use Rattle.beam_values.proofs.Bags.{sum_by-map, sum_by-flat_map}
use Rattle.beam_values.specs.declared.arrival.Arrival.{Arrival}
use Rattle.beam_values.specs.declared.cell.Cell.{Cell}
use Rattle.beam_values.specs.declared.cell.Pane.{Pane}
use Rattle.beam_values.specs.declared.fault.FaultNote.{FaultNote}
use Rattle.beam_values.specs.declared.file_text.FileText.{FileText}
use Rattle.beam_values.specs.declared.marks.StageMarks.{StageMarks}
use Rattle.beam_values.specs.declared.piece.Done.{Done}
use Rattle.beam_values.specs.declared.piece.Piece.{Piece}
use Rattle.beam_values.specs.declared.plan.Plan.{Plan}
use Rattle.beam_model.specs.Account.{arrivals_of}
use Rattle.beam_model.specs.Chains.{Output, Arrives, chain}
use Rattle.beam_model.specs.Coverings.{item_at, spread_done, spread_dones, spread_of}
use Rattle.beam_model.specs.Flow.{pane_chains, batch_outputs}
use Rattle.beam_model.specs.Positions.{SourceItem, items}
use Rattle.beam_model.specs.Spread.{spread_range}
use Rattle.bundle_commit.specs.declared.job.Receipt.{Receipt}
use Rattle.group_cells.proofs.Counting.{All-unmap}
use Rattle.book_core.specs.Book.{SeenBook, HeldPane, batch_of, held, held_in, panes_of, queued, live_batches, last_marks}
use Rattle.book_core.specs.Changes.{committed, done_after, done_cmp, done_of, done_with, with_done}
use Rattle.book_core.specs.Facts.{AreHeldOnce, IsBalanced, IsHeldPane, IsWellFormed, held_chains}
use Rattle.book_core.specs.Jobs.{attempted_of, job_of}
use Rattle.book_core.specs.Steps.{IsWorking}
use Rattle.book_core.specs.Work.{IsGiven, IsOfSpent, IsWorkOnItem, worked_to}
use Rattle.book_core.specs.declared.live.Batch.{Batch}
use Rattle.book_core.specs.declared.live.Live.{Live}
use Rattle.book_core.specs.declared.live.Live.TheVariants as live
use Rattle.book_core.specs.declared.live.WaitingPane.{WaitingPane}
use Rattle.book_core.proofs.Cases.{Commits, LegalIn}
use Rattle.book_core.proofs.CellsAlways.{commit_entries}
use Rattle.bundle_commit.specs.declared.job.Logged.{Logged}
use Rattle.beam_model.specs.Flow.{log_chains}
use Rattle.stateful_core.specs.Cells.{key_arrivals, logs_of}
use Rattle.stateful_core.specs.Facts.{Folded}
use Rattle.stateful_core.specs.KeyWork.{KeyCommit, entry_chains, numbered_entry}
use Rattle.stateful_core.specs.Placing.{Done as KeyDone, place}
use Rattle.stateful_core.specs.declared.key_job.KeyTurn.{KeyTurn}
use Rattle.stateful_core.proofs.Came.{place_bag}
use Rattle.stateful_core.proofs.FlowKept.{other_chains, place_chains}
use Rattle.book_core.specs.Changes.{key_done, key_done_of, keys_after}
use Rattle.book_core.specs.Facts.{AreTurnsKept}
use Rattle.book_core.specs.Work.{folded_by}
use Rattle.book_core.proofs.Ends.{IsEnd, IsEnded, arrivals_added, entries_ended, panes_ended, spread_ended}
use Rattle.book_core.proofs.KeysKept.{KeysSane}
use Rattle.book_core.proofs.Turns.{commit_done, turn_committed}
use Rattle.book_core.proofs.HeldMoves.{fired_held}
use Rattle.book_core.proofs.HeldOnce.{commit_bag, get_at_end, get_front}
use Rattle.book_core.proofs.Queues.{held_fired}
use Rattle.book_core.proofs.Slotted.{All-append_right, All-of_flat_map, All-flat_at}

-- ---- a done range is one more

module _ (f : Done → ℕ) where
  with_done_step : (new d : Done) (done : List Done) (t : Bool) → sum_by f (with_done new done) ≡ f new + sum_by f done
      → sum_by f (cond t (d ∷ with_done new done) (new ∷ d ∷ done)) ≡ f new + sum_by f (d ∷ done)
  with_done_step new d done true h = omega (arith, h, sum_by-cons f d (with_done new done), sum_by-cons f d done)
  with_done_step new d done false h = sum_by-cons f new (d ∷ done)

  one_more_done : (new : Done) (done : List Done) → sum_by f (with_done new done) ≡ f new + sum_by f done
  one_more_done new [] = sum_by-cons f new []
  one_more_done new (d ∷ done) = with_done_step new d done (is_lt (done_cmp d new)) (one_more_done new done)

-- ---- what flows from panes

module _ (plan : Plan) (w : Output → ℕ) where
  -- of a pane that isn't through, read off these panes
  abbrev held_weight : List Pane → HeldPane → ℕ
  held_weight panes h = sum_by w (pane_chains plan (panes_of panes (h.waiting ∷ [])))

  abbrev pane_weight : Pane → ℕ
  pane_weight pane = sum_by w (chain plan pane.node pane.element)

  abbrev read_weight : Option Pane → ℕ
  read_weight found = sum_by w (pane_chains plan ((elim found [ Some pane ↦ pane ∷ [] | None ↦ [] ]) ++ []))

  held_reads : (panes : List Pane) (h : HeldPane) (pane : Pane) → slice_get panes h.waiting.pane ≡ Some pane → held_weight panes h ≡ pane_weight pane
  held_reads panes h pane at =
      ap read_weight at ∙ omega (arith, sum_by-append w (chain plan pane.node pane.element) [])

  pub chains_weigh : (b : SeenBook) → b.plan ≡ plan → sum_by w (held_chains b) ≡ sum_by (held_weight b.panes) (held b)
  chains_weigh b same =
      subst (λ (p : Plan). sum_by w (flat_map (λ h. pane_chains p (panes_of b.panes (h.waiting ∷ []))) (held b)) ≡ sum_by (held_weight b.panes) (held b)) (sym same)
      (sum_by-flat_map w (λ (h : HeldPane). pane_chains plan (panes_of b.panes (h.waiting ∷ []))) (held b))

  -- those that are panes already stay what they are
  same_later : (b : SeenBook) (more : List Pane) (hs : List HeldPane) → All (IsHeldPane b) hs → sum_by (held_weight (b.panes ++ more)) hs ≡ sum_by (held_weight b.panes) hs
  same_later b more [] all = refl
  same_later b more (h ∷ hs) all =
      let first = All-head (IsHeldPane b) h hs all in
      omega (
        arith,
        held_reads (b.panes ++ more) h first.0 (get_front b.panes more h.waiting.pane first.0 first.1),
        held_reads b.panes h first.0 first.1,
        same_later b more hs (All-tail (IsHeldPane b) h hs all),
        sum_by-cons (held_weight (b.panes ++ more)) h hs,
        sum_by-cons (held_weight b.panes) h hs,
      )

  fired_flow : (before : List StageMarks) (panes fired : List Pane) (n : ℕ) → n ≡ length panes
      → sum_by (held_weight (panes ++ fired)) (map (held_fired before) (enumerate_from n fired)) ≡ sum_by w (pane_chains plan fired)
  fired_flow before panes [] n at = refl
  fired_flow before panes (p ∷ ps) n at =
      let here : slice_get (panes ++ p ∷ ps) n ≡ Some p = ap (slice_get (panes ++ p ∷ ps)) at ∙ get_at_end panes p ps in
      let joined : (panes ++ p ∷ []) ++ ps ≡ panes ++ p ∷ ps = append_assoc panes (p ∷ []) ps in
      let rest = map (held_fired before) (enumerate_from (n + 1) ps) in
      let later : sum_by (held_weight ((panes ++ p ∷ []) ++ ps)) rest ≡ sum_by w (pane_chains plan ps) =
      fired_flow before (panes ++ p ∷ []) ps (n + 1) (omega (arith, at, length-append panes (p ∷ []))) in
      omega (
        arith,
        held_reads (panes ++ p ∷ ps) (held_fired before (n, p)) p here,
        later,
        ap (λ (l : List Pane). sum_by (held_weight l) rest) joined,
        sum_by-cons (held_weight (panes ++ p ∷ ps)) (held_fired before (n, p)) rest,
        sum_by-append w (chain plan p.node p.element) (pane_chains plan ps),
      )

  -- the outputs of a batch are the chains of its panes
  batch_flow : (b : SeenBook) (node : ℕ) (panes : List WaitingPane) → All (IsHeldPane b) (map (λ waiting. record { node = node; waiting = waiting }) panes)
      → sum_by (held_weight b.panes) (map (λ waiting. record { node = node; waiting = waiting }) panes) ≡ sum_by w (batch_outputs plan node (panes_of b.panes panes))
  batch_flow b node [] all = refl
  batch_flow b node (p ∷ ps) all =
      let as_held : WaitingPane → HeldPane = λ waiting. record { node = node; waiting = waiting } in
      let first = All-head (IsHeldPane b) (record { node = node; waiting = p }) (map as_held ps) all in
      let read : batch_outputs plan node (panes_of b.panes (p ∷ ps)) ≡ chain plan node first.0.element ++ batch_outputs plan node (panes_of b.panes ps) =
      ap (λ (found : Option Pane). batch_outputs plan node ((elim found [ Some pane ↦ pane ∷ [] | None ↦ [] ]) ++ panes_of b.panes ps)) first.1 in
      omega (
        arith,
        held_reads b.panes (record { node = node; waiting = p }) first.0 first.1,
        ap (λ (n : ℕ). sum_by w (chain plan n first.0.element)) first.2,
        ap (sum_by w) read,
        batch_flow b node ps (All-tail (IsHeldPane b) (record { node = node; waiting = p }) (map as_held ps) all),
        sum_by-cons (held_weight b.panes) (record { node = node; waiting = p }) (map as_held ps),
        sum_by-append w (chain plan node first.0.element) (batch_outputs plan node (panes_of b.panes ps)),
      )

-- ---- a commit

-- all panes of a batch that is worked are held
batch_held : (b : SeenBook) (slot : ℕ) → AreHeldOnce b → (batch : Batch) → IsWorking b slot (live.Batch batch) → All (IsHeldPane b) (held_in batch)
batch_held b slot once batch works =
    let live_held = All-append_right (IsHeldPane b) (flat_map held_in b.returned) (flat_map held_in (live_batches b))
    (All-append_right (IsHeldPane b) (queued b) (flat_map held_in b.returned ++ flat_map held_in (live_batches b)) once.panes) in
    let each = All-of_flat_map (IsHeldPane b) held_in (live_batches b) live_held in
    All-head (λ (x : Batch). All (IsHeldPane b) (held_in x)) batch [] (All-flat_at batch_of b.slots slot (λ (x : Batch). All (IsHeldPane b) (held_in x)) (Some (live.Batch batch)) works each)

-- the arrivals of a receipt are the outputs of its range, which is done now, or of its batch, or what the calls of its key job brought, which are logged now
pub record IsReceiptBalanced (told : List FileText) (b : SeenBook) (job : Live) (receipt : Receipt) : Type 0 where
  pub ends : All (IsEnd b.plan) receipt.arrivals
  pub weighs : (w : Output → ℕ)
      → sum_by w (spread_dones b.plan (items told b.plan) (done_after b.done job)) + sum_by (held_weight b.plan w b.panes) (flat_map held_in (batch_of (Some job)))
      + sum_by w (log_chains b.plan (logs_of (keys_after b job receipt)))
      ≡ sum_by w (spread_dones b.plan (items told b.plan) b.done) + sum_by w (log_chains b.plan (logs_of b.keys)) + sum_by w (map Arrives receipt.arrivals)

module _ (told : List FileText) (b : SeenBook) (slot : ℕ) (receipt : Receipt) (once : AreHeldOnce b) (kept : KeysSane b) (turns : AreTurnsKept b) where
  -- the logs stay where no key job is done
  same_chains : (w : Output → ℕ) → sum_by w (log_chains b.plan (logs_of (place b.plan (last_marks b) None receipt.arrivals b.keys))) ≡ sum_by w (log_chains b.plan (logs_of b.keys))
  same_chains w = ap (sum_by w) (other_chains b.plan (last_marks b) receipt.arrivals b.keys)

  ended : (outputs : List Output) → map Arrives receipt.arrivals ≡ outputs → All (IsEnded b.plan) outputs → All (IsEnd b.plan) receipt.arrivals
  ended outputs same all = All-unmap (IsEnded b.plan) Arrives receipt.arrivals (subst (All (IsEnded b.plan)) (sym same) all)

  -- a spent piece brings nothing, and does nothing
  spent_balanced : (piece : Piece) (attempted : Option ℕ) (note : FaultNote) → piece.spent ≡ Some note → receipt.arrivals ≡ [] → IsReceiptBalanced told b (live.Span piece attempted) receipt
  spent_balanced piece attempted note spent none = record {
    ends = subst (All (IsEnd b.plan)) (sym none) (All-nil (IsEnd b.plan));
    weighs = λ w.
        let done : done_after b.done (live.Span piece attempted) ≡ b.done = ap (λ (s : Option FaultNote). done_with s piece attempted b.done) spent in
        let same = ap (λ (l : List Done). sum_by w (spread_dones b.plan (items told b.plan) l)) done in
        let nothing : sum_by w (map Arrives receipt.arrivals) ≡ 0 = ap (λ (l : List Arrival). sum_by w (map Arrives l)) none in
        omega (arith, same, nothing, same_chains w);
  }

  span_balanced : (piece : Piece) (attempted : Option ℕ) (found : Option SourceItem) → piece.spent ≡ None → item_at (items told b.plan) piece.node piece.item ≡ found
      → IsWorkOnItem b.plan piece (worked_to piece attempted) found receipt → IsReceiptBalanced told b (live.Span piece attempted) receipt
  span_balanced piece attempted found fresh at given = record {
    ends = by_ends found given;
    weighs = λ w.
        let done : done_after b.done (live.Span piece attempted) ≡ with_done (done_of piece attempted) b.done = ap (λ (s : Option FaultNote). done_with s piece attempted b.done) fresh in
        let same = ap (λ (l : List Done). sum_by w (spread_dones b.plan (items told b.plan) l)) done in
        omega (arith, same, by_weight w found at given, same_chains w);
  }
    where
      by_ends : (found : Option SourceItem) → IsWorkOnItem b.plan piece (worked_to piece attempted) found receipt → All (IsEnd b.plan) receipt.arrivals
      by_ends None given = subst (All (IsEnd b.plan)) (sym given.0) (All-nil (IsEnd b.plan))
      by_ends (Some item) given =
          ended (spread_range b.plan item piece.range.from (worked_to piece attempted)) given.arrivals
          (spread_ended b.plan item (offsets piece.range.from (worked_to piece attempted - piece.range.from)))

      brings : (found : Option SourceItem) → IsWorkOnItem b.plan piece (worked_to piece attempted) found receipt
          → map Arrives receipt.arrivals ≡ spread_of b.plan (done_of piece attempted).range found
      brings None given = ap (map Arrives) given.0
      brings (Some item) given = given.arrivals

      by_weight : (w : Output → ℕ) (found : Option SourceItem) → item_at (items told b.plan) piece.node piece.item ≡ found
          → IsWorkOnItem b.plan piece (worked_to piece attempted) found receipt
          → sum_by w (spread_dones b.plan (items told b.plan) (with_done (done_of piece attempted) b.done)) + sum_by (held_weight b.plan w b.panes) []
          ≡ sum_by w (spread_dones b.plan (items told b.plan) b.done) + sum_by w (map Arrives receipt.arrivals)
      by_weight w found at given =
          let f : Done → ℕ = λ d. sum_by w (spread_done b.plan (items told b.plan) d) in
          let one : f (done_of piece attempted) ≡ sum_by w (map Arrives receipt.arrivals) =
          ap (sum_by w) (ap (spread_of b.plan (done_of piece attempted).range) at ∙ sym (brings found given)) in
          omega (
            arith,
            one,
            one_more_done f (done_of piece attempted) b.done,
            sum_by-flat_map w (spread_done b.plan (items told b.plan)) (with_done (done_of piece attempted) b.done),
            sum_by-flat_map w (spread_done b.plan (items told b.plan)) b.done,
          )

  batch_balanced : (batch : Batch) → All (IsHeldPane b) (held_in batch) → map Arrives receipt.arrivals ≡ batch_outputs b.plan batch.node (panes_of b.panes batch.panes)
      → IsReceiptBalanced told b (live.Batch batch) receipt
  batch_balanced batch all given = record {
    ends = ended (batch_outputs b.plan batch.node (panes_of b.panes batch.panes)) given (panes_ended b.plan batch.node (panes_of b.panes batch.panes));
    weighs = λ w. omega (
      arith,
      ap (sum_by w) given,
      batch_flow b.plan w b batch.node batch.panes all,
      sum_by-append (held_weight b.plan w b.panes) (held_in batch) [],
      same_chains w,
    );
  }

  turn_balanced : (turn : KeyTurn) → IsWorking b slot (live.Key turn) → IsGiven (Some told) b.plan (job_of b.panes (live.Key turn)) None receipt → IsReceiptBalanced told b (live.Key turn) receipt
  turn_balanced turn works given = by receipt.logged refl (turn_committed b slot turn works kept turns (Some told) receipt (length b.commits) given)
    where
      by : (logged : Option Logged) → receipt.logged ≡ logged → KeyCommit b.plan (length b.commits) b.keys turn.cell receipt.arrivals (option_map folded_by logged)
          → IsReceiptBalanced told b (live.Key turn) receipt
      by None e commit = let was = commit.was in absurd (cc)
      by (Some logged) e commit =
          let done : KeyDone = record { cell = turn.cell; kept = (folded_by logged).kept; entries = map (numbered_entry (length b.commits)) logged.entries } in
          let all_is : folded_by logged ≡ commit.all = cc in
          let brings : map Arrives receipt.arrivals ≡ entry_chains b.plan commit.cell.log.node done.entries =
          sym commit.brings ∙ ap (λ (all : Folded). entry_chains b.plan commit.cell.log.node (map (numbered_entry (length b.commits)) all.entries)) (sym all_is) in
          record {
            ends = ended (entry_chains b.plan commit.cell.log.node done.entries) brings (entries_ended b.plan commit.cell.log.node done.entries);
            weighs = λ w. omega (
              arith,
              ap (λ (o : Option Logged). sum_by w (log_chains b.plan (logs_of (place b.plan (last_marks b) (key_done_of (length b.commits) turn.cell o) receipt.arrivals b.keys)))) e,
              (place_chains b.plan (last_marks b) done receipt.arrivals b.keys commit.cell commit.is_at).weighs w,
              sum_by-append w (log_chains b.plan (logs_of b.keys)) (entry_chains b.plan commit.cell.log.node done.entries),
              ap (sum_by w) brings,
            );
          }

  pub job_balanced : (job : Live) → IsWorking b slot job → IsGiven (Some told) b.plan (job_of b.panes job) (attempted_of job) receipt → IsReceiptBalanced told b job receipt
  job_balanced (live.Span piece attempted) works given = by piece.spent refl given.2
    where
      by : (spent : Option FaultNote) → piece.spent ≡ spent → IsOfSpent spent piece receipt → IsReceiptBalanced told b (live.Span piece attempted) receipt
      by None e nothing = span_balanced piece attempted (item_at (items told b.plan) piece.node piece.item) e refl given.0
      by (Some note) e nothing = spent_balanced piece attempted note e nothing.0
  job_balanced (live.Key turn) works given = turn_balanced turn works given
  job_balanced (live.Batch batch) works given =
      batch_balanced batch (batch_held b slot once batch works) given.0

module _ (told : List FileText) (b : SeenBook) (slot : ℕ) (job : Live) (receipt : Receipt) (cells : List Cell) (fired : List Pane) (marks : List StageMarks)
    (formed : IsWellFormed b) (once : AreHeldOnce b) (kept : KeysSane b) (turns : AreTurnsKept b) (legal : LegalIn b) (made : Commits (Some told) b slot job receipt cells fired marks) (was : IsBalanced told b) where
  abbrev after : SeenBook
  after = committed b slot job receipt cells fired marks

  abbrev receipt_balanced : IsReceiptBalanced told b job receipt
  receipt_balanced = job_balanced told b slot receipt once kept turns job made.works made.given

  job_held : All (IsHeldPane b) (flat_map held_in (batch_of (Some job)))
  job_held = by job made.works
    where
      by : (j : Live) → IsWorking b slot j → All (IsHeldPane b) (flat_map held_in (batch_of (Some j)))
      by (live.Span piece attempted) works = All-nil (IsHeldPane b)
      by (live.Key turn) works = All-nil (IsHeldPane b)
      by (live.Batch batch) works = All-append (IsHeldPane b) (held_in batch) [] (batch_held b slot once batch works) (All-nil (IsHeldPane b))

  pub commit_balanced : IsBalanced told after
  commit_balanced = record {
    weighs = λ w.
        let v : Arrival → ℕ = λ a. w (Arrives a) in
        let hw = held_weight b.plan w (b.panes ++ fired) in
        omega (
          arith,
          was.weighs w,
          receipt_balanced.weighs w,
          sum_by-append w (spread_dones b.plan (items told b.plan) b.done) (pane_chains b.plan b.panes ++ log_chains b.plan (logs_of b.keys)),
          sum_by-append w (pane_chains b.plan b.panes) (log_chains b.plan (logs_of b.keys)),
          sum_by-append w (spread_dones b.plan (items told b.plan) after.done) (pane_chains b.plan (b.panes ++ fired) ++ log_chains b.plan (logs_of after.keys)),
          sum_by-append w (pane_chains b.plan (b.panes ++ fired)) (log_chains b.plan (logs_of after.keys)),
          ap (sum_by w) (flat_map-append (λ (pane : Pane). chain b.plan pane.node pane.element) b.panes fired),
          sum_by-append w (pane_chains b.plan b.panes) (pane_chains b.plan fired),
          sum_by-append w (map Arrives (arrivals_of b.cells b.dropped [] b.written ++ key_arrivals b.keys)) (held_chains b),
          sum_by-append w (map Arrives (arrivals_of after.cells after.dropped [] after.written ++ key_arrivals after.keys)) (held_chains after),
          sum_by-map w Arrives (arrivals_of b.cells b.dropped [] b.written ++ key_arrivals b.keys),
          sum_by-map w Arrives (arrivals_of after.cells after.dropped [] after.written ++ key_arrivals after.keys),
          sum_by-append v (arrivals_of b.cells b.dropped [] b.written) (key_arrivals b.keys),
          sum_by-append v (arrivals_of after.cells after.dropped [] after.written) (key_arrivals after.keys),
          (place_bag b.plan (length b.commits) (last_marks b) (key_done (length b.commits) job receipt.logged) receipt.arrivals b.keys
              (commit_done (Some told) b slot job receipt kept turns made.works made.given)).weighs v,
          sum_by-append v (key_arrivals b.keys) (filter (λ (a : Arrival). is_stateful b.plan a.node) receipt.arrivals),
          sum_by-map w Arrives receipt.arrivals,
          arrivals_added v b.plan (last_marks b) (length b.commits) receipt.arrivals b.cells cells b.dropped b.written (commit_entries (Some told) b slot job receipt cells fired marks legal made) receipt_balanced.ends,
          chains_weigh b.plan w b refl,
          chains_weigh b.plan w after refl,
          (commit_bag (Some told) b slot job receipt cells fired marks formed once made).weighs hw,
          sum_by-append hw (held after) (flat_map held_in (batch_of (Some job))),
          sum_by-append hw (held b) (fired_held b fired),
          same_later b.plan w b fired (held b) once.panes,
          same_later b.plan w b fired (flat_map held_in (batch_of (Some job))) job_held,
          fired_flow b.plan w (last_marks b) b.panes fired (length b.panes) refl,
        );
  }
