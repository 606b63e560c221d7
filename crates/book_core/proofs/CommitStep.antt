-- A commit, as its parts are written, is the step, and what is kept of the book's indexes.
use Rattle.std.proofs.Common.{◌≡◌, ℕ, suc, ◌+◌, ◌*◌, ◌≤◌, ◌<◌, ℤ, Bool, true, false, cond, List, [], ◌∷◌, ◌++◌, length, map, refl, sym, ap, subst, ◌∙◌, length-append, arith}
use Rattle.std.specs.Prelude.{Option, Some, None, nat_lt, slice_set, option_to_list}
use Rattle.std.specs.Int.{int_min}
use Rattle.std.specs.List.{All, filter, enumerate_from}
use Rattle.std.proofs.lemmas.Int.{ints}
use Rattle.std.proofs.lemmas.List.{length-map, length-set}
use Rattle.std.proofs.lemmas.List.Elements.{All-weaker}
use Rattle.beam_values.specs.Nodes.{is_group, is_stateful, is_write}
use Rattle.beam_values.specs.declared.arrival.Arrival.{Arrival}
use Rattle.beam_values.specs.declared.cell.Cell.{Cell}
use Rattle.beam_values.specs.declared.cell.Dropped.{Dropped}
use Rattle.beam_values.specs.declared.cell.Pane.{Pane}
use Rattle.beam_values.specs.declared.file_text.FileText.{FileText}
use Rattle.beam_values.specs.declared.marks.CommitMarks.{CommitMarks}
use Rattle.beam_values.specs.declared.marks.StageMarks.{StageMarks}
use Rattle.beam_values.specs.declared.fault.FaultNote.{FaultNote}
use Rattle.beam_values.specs.declared.piece.Dead.{Dead}
use Rattle.beam_values.specs.declared.piece.Done.{Done}
use Rattle.beam_values.specs.declared.piece.Piece.{Piece}
use Rattle.beam_values.specs.declared.plan.Plan.{Plan}
use Rattle.beam_model.specs.Holds.{Hold, pane_hold, least_hold}
use Rattle.bundle_commit.specs.declared.job.Receipt.{Receipt}
use Rattle.group_cells.specs.Commits.{AreRounds, as_commit, dropped_arrival, hold_with, is_dropped, IsCommitted, SeenGroups}
use Rattle.split_core.proofs.Ordered.{length-with_piece}
use Rattle.watermarks.specs.Holds.{SeenHolds}
use Rattle.stateful_core.specs.Cells.{KeyCell, key_holds}
use Rattle.book_core.specs.Book.{SeenBook, piece_of, last_marks, AreMarksOfBook, waiting_in, live_pieces, most_parts, places_kept, sets_aside}
use Rattle.stateful_core.specs.Placing.{finish}
use Rattle.stateful_core.proofs.FinishedHolds.{finish_sized}
use Rattle.book_core.proofs.KeyDones.{finish_most}
use Rattle.book_core.specs.Changes.{committed, done_after, key_done, keys_after, with_fired, with_residual, IsCommit, dead_after, dead_with, done_with}
use Rattle.book_core.specs.Committing.{done_in, residual_in, with_done_in, dead_in, position_dead, range_done, residual_with, with_dead_in}
use Rattle.book_core.specs.Indexes.{IsIndexed, AreHeldIn, all_holds, least_in, least_with, own_holds}
use Rattle.book_core.specs.Sane.{IsSane}
use Rattle.book_core.specs.Steps.{Commit, Committed, CanCommit, IsCommitting, IsWorking, IsWithinLimits}
use Rattle.book_core.specs.Work.{IsGiven, worked_to}
use Rattle.book_core.specs.Jobs.{job_of, attempted_of}
use Rattle.book_core.specs.declared.live.Live.{Live}
use Rattle.book_core.specs.declared.live.Live.TheVariants as live
use Rattle.book_core.specs.declared.live.WaitingPane.{WaitingPane}
use Rattle.book_core.proofs.CommitHolds.{kept_holds, after_commit, pending_is}
use Rattle.book_core.proofs.KeysKept.{all_many, all_waiting, few_counted}
use Rattle.book_core.proofs.LeastHolds.{least_of_both}
use Rattle.book_core.proofs.CommitParts.{written_same}
use Rattle.book_core.proofs.HeldMarks.{least_held, marks_as}
use Rattle.book_core.proofs.HeldOnce.{group_within}
use Rattle.book_core.proofs.HoldBags.{least_of_all, least_of_bag}
use Rattle.book_core.proofs.Holding.{bag_held}
use Rattle.book_core.proofs.Limits.{pieces_after, batches_after}
use Rattle.book_core.proofs.SaneAlways.{step_sane}

-- what the Groups gave at a commit, while these marks were held
pub record AreFired (b : SeenBook) (slot : ℕ) (job : Live) (receipt : Receipt) (old new : SeenGroups) (fired : List Pane) (marks : List StageMarks) (left : List Arrival) (held : List SeenHolds) : Type 0 where
  pub works : IsWorking b slot job
  pub cells : old.cells ≡ b.cells
  pub dropped : old.dropped ≡ b.dropped
  pub committed : IsCommitted b.plan (length b.commits) (last_marks b) marks (least_with held (key_holds (keys_after b job receipt))) receipt.arrivals left old new fired
  pub rounds : AreRounds b.plan (length b.commits) (last_marks b) marks receipt.arrivals old.cells new.cells fired
  pub few : length fired ≤ length b.cells + length receipt.arrivals
  pub holding : AreHeldIn held (kept_holds b slot job receipt)
  -- and there are numbers for all places
  pub few_commits : length b.commits + 1 < 4294967295
  pub few_panes : length b.panes + (length b.cells + length receipt.arrivals) < 4294967295
  pub few_dropped : length b.dropped + length receipt.arrivals < 4294967295
  pub few_cells : length new.cells < 4294967295
  pub few_keys : length b.keys + length receipt.arrivals < 4294967295
  pub few_waiting : waiting_in b.keys + length receipt.arrivals < 4294967295

three_least : (a b c : ℤ) → int_min (int_min a b) c ≡ int_min b (int_min a c)
three_least a b c = grind (arith, ints)

pub no_longer : {X : Type 0} (p : X → Bool) (xs : List X) → length (filter p xs) ≤ length xs
no_longer p [] = omega arith
no_longer p (x ∷ xs) = by (p x) (no_longer p xs)
  where
    by : (t : Bool) → length (filter p xs) ≤ length xs → length (cond t (x ∷ filter p xs) (filter p xs)) ≤ suc (length xs)
    by true h = omega (arith, h)
    by false h = omega (arith, h)

residual_many : (job : Live) (receipt : Receipt) → length (option_to_list (residual_in job receipt)) ≤ length (piece_of (Some job))
residual_many (live.Batch batch) receipt = omega arith
residual_many (live.Key turn) receipt = omega arith
residual_many (live.Span piece attempted) receipt = by_spent piece.spent
  where
    by : (t : Bool) → length (option_to_list (cond t (Some (record piece { range = record { from = worked_to piece attempted; to = piece.range.to }; seen = receipt.seen; attempts = 0 })) None)) ≤ 1
    by true = omega arith
    by false = omega arith

    by_spent : (spent : Option FaultNote) → length (option_to_list (residual_with spent piece attempted receipt)) ≤ 1
    by_spent None = by (nat_lt (worked_to piece attempted) piece.range.to)
    by_spent (Some note) = omega arith

-- what is left of a job takes no more places than were kept for it
left_places : (plan : Plan) (few many own left : ℕ) → few + own ≡ many → left ≤ own → left + most_parts plan few ≤ most_parts plan many
left_places plan few many own left same less = by (sets_aside plan)
  where
    by : (t : Bool) → left + cond t (3 * few) few ≤ cond t (3 * many) many
    by true = omega (arith, same, less)
    by false = omega (arith, same, less)

pending_many : (residual : Option Piece) (pending : List Piece) → length (with_residual residual pending) ≡ length pending + length (option_to_list residual)
pending_many None pending = omega arith
pending_many (Some piece) pending = omega (arith, length-with_piece piece pending)

module _ (b : SeenBook) (slot : ℕ) (job : Live) (receipt : Receipt) (old new : SeenGroups) (fired : List Pane) (marks : List StageMarks) (left : List Arrival)
    (held : List SeenHolds) (h : AreFired b slot job receipt old new fired marks left held) (sane : IsSane b) where
  abbrev after : SeenBook
  after = committed b slot job receipt new.cells fired marks

  at_nodes : All (λ pane. pane.node < length b.queues) fired
  at_nodes =
      All-weaker (λ pane. is_group b.plan pane.node ≡ true) (λ pane. pane.node < length b.queues)
      (λ pane e. subst (λ (n : ℕ). pane.node < n) (sym sane.formed.queues) (group_within b.plan pane.node e)) fired h.committed.at_groups

  own_after : (n : ℕ) → int_min (least_in held n) (least_hold (map (pane_hold (last_marks b)) fired) n) ≡ least_hold (own_holds after) n
  own_after n =
      ap (λ (m : ℤ). int_min m (least_hold (map (pane_hold (last_marks b)) fired) n)) (least_held held (kept_holds b slot job receipt) h.holding n)
      ∙ sym (least_of_both (map (pane_hold (last_marks b)) fired) (kept_holds b slot job receipt) n)
      ∙ least_of_bag (map (pane_hold (last_marks b)) fired ++ kept_holds b slot job receipt) (own_holds after) (after_commit b slot job receipt new.cells fired marks at_nodes) n

  least_after : (n : ℕ) → hold_with (least_with held (key_holds (keys_after b job receipt))) (last_marks b) fired n ≡ least_hold (all_holds after) n
  least_after n =
      three_least (least_in held n) (least_hold (key_holds (keys_after b job receipt)) n) (least_hold (map (pane_hold (last_marks b)) fired) n)
      ∙ ap (int_min (least_hold (key_holds (keys_after b job receipt)) n)) (own_after n)
      ∙ sym (least_of_all after n)

  marked : AreMarksOfBook after marks
  marked = marks_as b.plan (hold_with (least_with held (key_holds (keys_after b job receipt))) (last_marks b) fired) (least_hold (all_holds after)) marks least_after h.committed.marks

  is_commit : IsCommit b slot job receipt after
  is_commit = record {
    cells = new.cells;
    fired = fired;
    marks = marks;
    is = refl;
    marked = marked;
    rounds = subst (λ (l : List Cell). AreRounds b.plan (length b.commits) (last_marks b) marks receipt.arrivals l new.cells fired) h.cells h.rounds;
  }

  places : length (option_to_list (residual_in job receipt)) + places_kept after ≤ places_kept b
  places =
      left_places b.plan (length (live_pieces after)) (length (live_pieces b)) (length (piece_of (Some job))) (length (option_to_list (residual_in job receipt)))
      (omega (arith, pieces_after b.slots slot (Some job) None h.works)) (residual_many job receipt)

  within : IsWithinLimits after
  within =
      let was = sane.formed.within in
      let done = key_done (length b.commits) job receipt.logged in
      record {
        commits = omega (arith, h.few_commits, length-append b.commits (as_commit marks ∷ []));
        panes = omega (arith, h.few_panes, h.few, length-append b.panes fired);
        dropped = omega (
          arith,
          h.few_dropped,
          length-append b.dropped (map (dropped_arrival (length b.commits)) (filter (is_dropped b.plan (last_marks b)) receipt.arrivals)),
          length-map (filter (is_dropped b.plan (last_marks b)) receipt.arrivals) (dropped_arrival (length b.commits)),
          no_longer (is_dropped b.plan (last_marks b)) receipt.arrivals,
        );
        cells = h.few_cells;
        keys = omega (
          arith,
          h.few_keys,
          all_many b.plan (last_marks b) receipt.arrivals (finish (last_marks b) done b.keys),
          finish_sized (last_marks b) done b.keys,
        );
        waiting = omega (
          arith,
          h.few_waiting,
          all_waiting b.plan (last_marks b) receipt.arrivals (finish (last_marks b) done b.keys),
          finish_most (last_marks b) done b.keys,
          few_counted (λ (a : Arrival). is_stateful b.plan a.node) receipt.arrivals,
        );
        slots = omega (arith, was.slots, length-set b.slots slot None);
        pieces = omega (
          arith,
          was.pieces,
          ap length (pending_is b.pending job receipt),
          pending_many (residual_in job receipt) b.pending,
          places,
        );
      }

  commits_after : (told : Option (List FileText)) → CanCommit told b slot receipt → IsCommitting told b slot receipt after × IsWithinLimits after
  commits_after told can =
      let works = can.works in
      let mine = h.works in
      let same : can.job ≡ job = cc in (
        record {
          job = job;
          works = h.works;
          given = subst (λ (j : Live). IsGiven told b.plan (job_of b.panes j) (attempted_of j) receipt) same can.given;
          commit = is_commit;
        },
        within,
      )

  -- what is held then, and the room that is kept
  indexed_after : CanCommit None b slot receipt → (before after_held : List SeenHolds) (piece_room fewer batch_room : ℕ) → IsIndexed b before piece_room batch_room
      → ((holds : List Hold) → AreHeldIn held holds → AreHeldIn after_held (map (pane_hold (last_marks b)) fired ++ holds)) → length after_held ≡ length before
      → piece_room ≤ fewer + length (option_to_list (residual_in job receipt)) → IsIndexed after after_held fewer batch_room
  indexed_after can before after_held piece_room fewer batch_room k add sized room =
      let bag = after_commit b slot job receipt new.cells fired marks at_nodes in
      let holding = bag_held after_held (map (pane_hold (last_marks b)) fired ++ kept_holds b slot job receipt) (own_holds after) bag (add (kept_holds b slot job receipt) h.holding) in
      record {
        sane = step_sane None b after slot Commit Committed (receipt, (commits_after None can).0, (commits_after None can).1) sane;
        sized = sized ∙ k.sized;
        holds_back = holding;
        pieces = omega (arith, k.pieces, room, places);
        batches = omega (arith, k.batches, batches_after b.slots slot (Some job) None h.works);
      }

  -- ---- as it is written

  pub record AreWritten (slots : List (Option Live)) (pending : List Piece) (queues : List (List WaitingPane)) (keys : List KeyCell) (panes : List Pane) (done : List Done) (dead : List Dead) (written : List Arrival) (commits : List CommitMarks) : Type 0 where
    pub slots_are : slots ≡ slice_set b.slots slot None
    pub pending_are : pending ≡ with_residual (residual_in job receipt) b.pending
    pub queues_are : queues ≡ map (with_fired (last_marks b) (enumerate_from (length b.panes) fired)) (enumerate_from 0 b.queues)
    pub keys_are : keys ≡ keys_after b job receipt
    pub panes_are : panes ≡ b.panes ++ fired
    pub done_are : done ≡ with_done_in (done_in job) b.done
    pub dead_are : dead ≡ with_dead_in (dead_in job) b.dead
    pub written_are : written ≡ b.written ++ filter (λ arrival. is_write b.plan arrival.node) left
    pub commits_are : commits ≡ b.commits ++ as_commit marks ∷ []

  done_is : (job : Live) (done : List Done) → with_done_in (done_in job) done ≡ done_after done job
  done_is (live.Span piece attempted) done = by piece.spent
    where
      by : (spent : Option FaultNote) → with_done_in (range_done spent piece attempted) done ≡ done_with spent piece attempted done
      by None = refl
      by (Some note) = refl
  done_is (live.Batch batch) done = refl
  done_is (live.Key turn) done = refl

  dead_is : (job : Live) (dead : List Dead) → with_dead_in (dead_in job) dead ≡ dead_after dead job
  dead_is (live.Span piece attempted) dead = by piece.spent
    where
      by : (spent : Option FaultNote) → with_dead_in (position_dead spent piece) dead ≡ dead_with spent piece dead
      by None = refl
      by (Some note) = refl
  dead_is (live.Batch batch) dead = refl
  dead_is (live.Key turn) dead = refl

  abbrev pub as_written : List (Option Live) → List Piece → List (List WaitingPane) → List KeyCell → List Pane → List Done → List Dead → List Arrival → List CommitMarks → SeenBook
  as_written slots pending queues keys panes done dead written commits = record b {
    slots = slots;
    pending = pending;
    queues = queues;
    cells = new.cells;
    dropped = new.dropped;
    keys = keys;
    panes = panes;
    done = done;
    dead = dead;
    written = written;
    commits = commits;
  }

  module _ (slots : List (Option Live)) (pending : List Piece) (queues : List (List WaitingPane)) (keys : List KeyCell) (panes : List Pane) (done : List Done) (dead : List Dead) (written : List Arrival) (commits : List CommitMarks)
      (e : AreWritten slots pending queues keys panes done dead written commits) where
    written_is : as_written slots pending queues keys panes done dead written commits ≡ after
    written_is =
        let dropped_are : new.dropped ≡ after.dropped =
        h.committed.dropped ∙ ap (λ (l : List Dropped). l ++ map (dropped_arrival (length b.commits)) (filter (is_dropped b.plan (last_marks b)) receipt.arrivals)) h.dropped in
        let writes : written ≡ after.written =
        e.written_are ∙ ap (λ (l : List Arrival). b.written ++ filter (λ arrival. is_write b.plan arrival.node) l) h.committed.others
        ∙ ap (λ (l : List Arrival). b.written ++ l) (written_same b.plan receipt.arrivals) in
        ap (λ (x : List (Option Live)). as_written x pending queues keys panes done dead written commits) e.slots_are
        ∙ ap (λ (x : List Piece). as_written after.slots x queues keys panes done dead written commits) (e.pending_are ∙ sym (pending_is b.pending job receipt))
        ∙ ap (λ (x : List (List WaitingPane)). as_written after.slots after.pending x keys panes done dead written commits) e.queues_are
        ∙ ap (λ (x : List KeyCell). as_written after.slots after.pending after.queues x panes done dead written commits) e.keys_are
        ∙ ap (λ (x : List Pane). as_written after.slots after.pending after.queues after.keys x done dead written commits) e.panes_are
        ∙ ap (λ (x : List Done). as_written after.slots after.pending after.queues after.keys after.panes x dead written commits) (e.done_are ∙ done_is job b.done)
        ∙ ap (λ (x : List Dead). as_written after.slots after.pending after.queues after.keys after.panes after.done x written commits) (e.dead_are ∙ dead_is job b.dead)
        ∙ ap (λ (x : List Arrival). as_written after.slots after.pending after.queues after.keys after.panes after.done after.dead x commits) writes
        ∙ ap (λ (x : List CommitMarks). as_written after.slots after.pending after.queues after.keys after.panes after.done after.dead after.written x) e.commits_are
        ∙ ap (λ (x : List Dropped). record after { dropped = x }) dropped_are

    pub commit_written : (told : Option (List FileText)) → CanCommit told b slot receipt
        → IsCommitting told b slot receipt (as_written slots pending queues keys panes done dead written commits) × IsWithinLimits (as_written slots pending queues keys panes done dead written commits)
    commit_written told can = subst (λ (d : SeenBook). IsCommitting told b slot receipt d × IsWithinLimits d) (sym written_is) (commits_after told can)

    pub commit_indexed : CanCommit None b slot receipt → (before after_held : List SeenHolds) (piece_room fewer batch_room : ℕ) → IsIndexed b before piece_room batch_room
        → ((holds : List Hold) → AreHeldIn held holds → AreHeldIn after_held (map (pane_hold (last_marks b)) fired ++ holds)) → length after_held ≡ length before
        → piece_room ≤ fewer + length (option_to_list (residual_in job receipt))
        → IsIndexed (as_written slots pending queues keys panes done dead written commits) after_held fewer batch_room
    commit_indexed can before after_held piece_room fewer batch_room k add sized room =
        subst (λ (d : SeenBook). IsIndexed d after_held fewer batch_room) (sym written_is) (indexed_after can before after_held piece_room fewer batch_room k add sized room)
