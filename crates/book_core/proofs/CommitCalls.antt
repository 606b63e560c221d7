-- What the calls of a commit ask, from what is kept of a book and what the job's receipt is.
use Rattle.std.proofs.Common.{◌≡◌, ℕ, ◌+◌, ◌≤◌, ◌<◌, ℤ, Bool, true, false, cond, List, [], ◌∷◌, ◌++◌, length, map, refl, sym, ap, subst, ◌∙◌, arith}
use Rattle.std.specs.Prelude.{Option, Some, None, nat_lt, slice_get, slice_set, not}
use Rattle.std.specs.List.{All, filter, enumerate_from}
use Rattle.std.specs.Int.{int_min}
use Rattle.std.specs.Option.{ForSome}
use Rattle.std.proofs.lemmas.Int.{ints}
use Rattle.std.proofs.lemmas.List.Elements.{All-weaker}
use Rattle.beam_values.specs.Nodes.{is_group}
use Rattle.beam_values.specs.declared.arrival.Arrival.{Arrival}
use Rattle.beam_values.specs.declared.cell.Pane.{Pane}
use Rattle.beam_values.specs.declared.file_text.FileText.{FileText}
use Rattle.beam_values.specs.declared.marks.CommitMarks.{CommitMarks}
use Rattle.beam_values.specs.declared.marks.StageMarks.{StageMarks}
use Rattle.beam_values.specs.declared.fault.FaultNote.{FaultNote}
use Rattle.beam_values.specs.declared.piece.Dead.{Dead}
use Rattle.beam_values.specs.declared.piece.Done.{Done}
use Rattle.beam_values.specs.declared.piece.Piece.{Piece}
use Rattle.beam_values.specs.declared.plan.Plan.{Plan}
use Rattle.beam_model.specs.Holds.{Hold, least_hold, pane_hold}
use Rattle.bundle_commit.specs.declared.job.Receipt.{Receipt}
use Rattle.group_cells.specs.Commits.{AreRounds, HasGap, IsCommitted, RisesFrom, SeenGroups, is_at_group}
use Rattle.watermarks.specs.Holds.{SeenHolds}
use Rattle.stateful_core.specs.Cells.{KeyCell, key_holds}
use Rattle.stateful_core.specs.Opening.{IsStanding}
use Rattle.stateful_core.specs.Placing.{Done as KeyDone, place}
use Rattle.stateful_core.specs.declared.key_job.KeyTurn.{KeyTurn}
use Rattle.bundle_commit.specs.declared.job.Logged.{Logged}
use Rattle.std.proofs.lemmas.Option.{slice_get_within}
use Rattle.book_core.specs.Book.{SeenBook, last_marks, waiting_in, live_pieces}
use Rattle.book_core.specs.Changes.{key_done, keys_after, with_fired, with_slot}
use Rattle.book_core.specs.Committing.{node_of, job_holds, residual_in, residual_holds, HasRoom, residual_with}
use Rattle.book_core.specs.Facts.{AreTurnsKept, IsAttemptedWithin}
use Rattle.book_core.proofs.KeysKept.{keys_within}
use Rattle.book_core.proofs.Turns.{turn_at}
use Rattle.book_core.specs.Indexes.{IsIndexed, AreHeldIn, least_in, least_with, marks_in, room_in, own_holds}
use Rattle.book_core.specs.Jobs.{job_of, attempted_of}
use Rattle.book_core.specs.Queues.{SeenQueue}
use Rattle.book_core.specs.Steps.{CanCommit, IsWorking}
use Rattle.book_core.specs.Work.{IsGiven, worked_to}
use Rattle.book_core.specs.declared.live.Live.{Live}
use Rattle.book_core.specs.declared.live.Live.TheVariants as live
use Rattle.book_core.specs.declared.live.WaitingPane.{WaitingPane}
use Rattle.book_core.proofs.Gaps.{AreStrategies}
use Rattle.book_core.proofs.CellsKept.{batch_at_group, given_gapped}
use Rattle.book_core.proofs.CommitHolds.{kept_holds, kept_rise, without_job}
use Rattle.book_core.proofs.CommitStep.{AreFired, no_longer}
use Rattle.book_core.proofs.HeldMarks.{held_as, least_held, marks_as}
use Rattle.book_core.proofs.HeldOnce.{group_within}
use Rattle.book_core.proofs.LeastHolds.{least_of_both}
use Rattle.book_core.proofs.Holding.{bag_held}
use Rattle.book_core.proofs.Limits.{pieces_after, kept_one}
use Rattle.book_core.proofs.Slots.{All-slice_get}
use Rattle.book_core.proofs.Splitting.{node_within}

-- the receipt of a slot's job is given for this one
pub given_there : (told : Option (List FileText)) (b : SeenBook) (slot : ℕ) (job : Live) (receipt : Receipt) → CanCommit told b slot receipt → IsWorking b slot job
    → IsGiven told b.plan (job_of b.panes job) (attempted_of job) receipt
given_there told b slot job receipt can mine =
    let works = can.works in
    let same : can.job ≡ job = cc in
    subst (λ (j : Live). IsGiven told b.plan (job_of b.panes j) (attempted_of j) receipt) same can.given

-- what is left of a job is at its node
pub left_there : (P : ℕ → Type 0) (job : Live) (receipt : Receipt) → P (node_of job) → ForSome (residual_in job receipt) (λ piece. P piece.node)
left_there P (live.Batch batch) receipt h = λ x e. absurd (cc)
left_there P (live.Key turn) receipt h = λ x e. absurd (cc)
left_there P (live.Span piece attempted) receipt h = by_spent piece.spent
  where
    by : (t : Bool) → ForSome (cond t (Some (record piece { range = record { from = worked_to piece attempted; to = piece.range.to }; seen = receipt.seen; attempts = 0 })) None) (λ (p : Piece). P p.node)
    by true = λ x e.
        let same : record piece { range = record { from = worked_to piece attempted; to = piece.range.to }; seen = receipt.seen; attempts = 0 } ≡ x = cc in
        subst (λ (p : Piece). P p.node) same h
    by false = λ x e. absurd (cc)

    by_spent : (spent : Option FaultNote) → ForSome (residual_with spent piece attempted receipt) (λ p. P p.node)
    by_spent None = by (nat_lt (worked_to piece attempted) piece.range.to)
    by_spent (Some note) = λ x e. absurd (cc)

-- a place is kept for it
pub left_room : (b : SeenBook) (slot : ℕ) (job : Live) (receipt : Receipt) (held : List SeenHolds) (piece_room batch_room : ℕ) → IsWorking b slot job → IsIndexed b held piece_room batch_room
    → ForSome (residual_in job receipt) (λ _. 0 < piece_room)
left_room b slot (live.Batch batch) receipt held piece_room batch_room works k = λ x e. absurd (cc)
left_room b slot (live.Key turn) receipt held piece_room batch_room works k = λ x e. absurd (cc)
left_room b slot (live.Span piece attempted) receipt held piece_room batch_room works k =
    left_there (λ n. 0 < piece_room) (live.Span piece attempted) receipt (omega (arith, k.pieces, kept_one b.plan (length (live_pieces (with_slot b slot None))) (length (live_pieces b)) (omega (arith, pieces_after b.slots slot (Some (live.Span piece attempted)) None works))))

turned : (a b : ℤ) → int_min a b ≡ int_min b a
turned a b = grind (arith, ints)

module _ (b : SeenBook) (slot : ℕ) (job : Live) (receipt : Receipt) (held : List SeenHolds) (piece_room batch_room : ℕ)
    (works : IsWorking b slot job) (k : IsIndexed b held piece_room batch_room) where
  pub job_within : node_of job < length b.plan.nodes
  job_within = by job works
    where
      by : (job : Live) → IsWorking b slot job → node_of job < length b.plan.nodes
      by (live.Span piece attempted) works = omega (arith, node_within b held piece_room batch_room slot piece attempted works k, k.sized)
      by (live.Key turn) works =
          let own = turn_at b slot turn k.sane.turns works in
          let cell = All-slice_get (λ (c : KeyCell). c.log.node < length b.plan.nodes) b.keys turn.cell own.cell own.is_at (keys_within b k.sane.keys) in
          omega (arith, cell, ap (λ (t : KeyTurn). t.node) own.is)
      by (live.Batch batch) works =
          group_within b.plan batch.node
          (batch_at_group b slot batch k.sane.held k.sane.panes.at_groups works)

  pub job_attempted : IsAttemptedWithin (Some job)
  job_attempted = All-slice_get IsAttemptedWithin b.slots slot (Some job) works k.sane.attempted

  pub gaps_there : AreStrategies b.plan → IsGiven None b.plan (job_of b.panes job) (attempted_of job) receipt → All (HasGap b.plan) receipt.arrivals
  gaps_there strategies given =
      given_gapped None b slot job receipt strategies k.sane.held k.sane.panes.at_groups works given

  pub marks_sized : length (last_marks b) ≡ length b.plan.nodes
  marks_sized = k.sane.marks.last.sized

  pub job_held : (new : List SeenHolds) → ((n : ℕ) → marks_in new n ≡ marks_in held n) → AreHeldIn new (job_holds b.plan job ++ own_holds (with_slot b slot None))
  job_held new same =
      bag_held new (own_holds b) (job_holds b.plan job ++ own_holds (with_slot b slot None)) (without_job b slot job works) (held_as held new (own_holds b) same k.holds_back)

  -- and it may be given back so
  pub job_back : (new : List SeenHolds) → AreHeldIn new (job_holds b.plan job ++ own_holds (with_slot b slot None)) → AreHeldIn new (own_holds b)
  job_back new h =
      bag_held new (job_holds b.plan job ++ own_holds (with_slot b slot None)) (own_holds b)
      (Rattle.beam_values.proofs.Bags.bag_sym (own_holds b) (job_holds b.plan job ++ own_holds (with_slot b slot None)) (without_job b slot job works)) h

  -- while it is taken out, and then what is left of it is put in
  pub freed_there : (plan : Plan) → plan ≡ b.plan → (new freed : List SeenHolds) → ((n : ℕ) → marks_in new n ≡ marks_in held n)
      → ((holds : List Hold) → AreHeldIn new (job_holds plan job ++ holds) → AreHeldIn freed holds) → AreHeldIn freed (own_holds (with_slot b slot None))
  freed_there plan e new freed same free =
      free (own_holds (with_slot b slot None)) (subst (λ (p : Plan). AreHeldIn new (job_holds p job ++ own_holds (with_slot b slot None))) (sym e) (job_held new same))

  pub kept_there : (plan : Plan) → plan ≡ b.plan → (residual : Option Piece) → residual ≡ residual_in job receipt → (freed after : List SeenHolds)
      → ((holds : List Hold) → AreHeldIn freed holds → AreHeldIn after (residual_holds plan residual ++ holds)) → AreHeldIn freed (own_holds (with_slot b slot None))
      → AreHeldIn after (kept_holds b slot job receipt)
  kept_there plan e residual f freed after add h =
      subst (λ (p : Plan). AreHeldIn after (residual_holds p (residual_in job receipt) ++ own_holds (with_slot b slot None))) e
      (subst (λ (r : Option Piece). AreHeldIn after (residual_holds plan r ++ own_holds (with_slot b slot None))) f (add (own_holds (with_slot b slot None)) h))

  pub rises_there : (new : List SeenHolds) → IsGiven None b.plan (job_of b.panes job) (attempted_of job) receipt → AreHeldIn new (kept_holds b slot job receipt)
      → RisesFrom b.plan (least_with new (key_holds (keys_after b job receipt))) (last_marks b)
  rises_there new given h marks are =
      let formed = k.sane.formed in
      let came = key_holds (keys_after b job receipt) in
      kept_rise None b slot job receipt formed.checked k.sane.keys works given k.sane.marks.last marks
      (marks_as b.plan (least_with new came) (least_hold (kept_holds b slot job receipt ++ came)) marks
      (λ n. turned (least_in new n) (least_hold came n) ∙ ap (int_min (least_hold came n)) (least_held new (kept_holds b slot job receipt) h n)
      ∙ sym (least_of_both (kept_holds b slot job receipt) came n)) are)

-- ---- a refused commit

-- lists that keep more room are the same lists
pub same_data : (b : SeenBook) (queues : List (List WaitingPane)) (panes : List Pane) (done : List Done) (dead : List Dead) (written : List Arrival) (commits : List CommitMarks)
    → queues ≡ b.queues → panes ≡ b.panes → done ≡ b.done → dead ≡ b.dead → written ≡ b.written → commits ≡ b.commits
    → record b { queues = queues; panes = panes; done = done; dead = dead; written = written; commits = commits } ≡ b
same_data b queues panes done dead written commits e1 e2 e3 e4 e5 e6 =
    ap (λ x. record b { queues = x; panes = panes; done = done; dead = dead; written = written; commits = commits }) e1
    ∙ ap (λ x. record b { panes = x; done = done; dead = dead; written = written; commits = commits }) e2
    ∙ ap (λ x. record b { done = x; dead = dead; written = written; commits = commits }) e3
    ∙ ap (λ x. record b { dead = x; written = written; commits = commits }) e4
    ∙ ap (λ x. record b { written = x; commits = commits }) e5
    ∙ ap (λ x. record b { commits = x }) e6

pub set_back : {X : Type 0} (xs : List X) (i : ℕ) (x y : X) → slice_get xs i ≡ Some x → slice_set (slice_set xs i y) i x ≡ xs
set_back [] i x y e = absurd (cc)
set_back (z ∷ xs) Rattle.std.proofs.Common.zero x y e = let same : z ≡ x = cc in ap (λ w. w ∷ xs) (sym same)
set_back (z ∷ xs) (Rattle.std.proofs.Common.suc i) x y e = ap (λ l. z ∷ l) (set_back xs i x y e)

-- the job is back in its slot, and the Groups are as before
pub same_back : (b : SeenBook) (slot : ℕ) (job : Live) (old new : SeenGroups) (slots : List (Option Live)) (queues : List (List WaitingPane)) (panes : List Pane) (done : List Done) (dead : List Dead) (written : List Arrival)
    (commits : List CommitMarks) (keys : List KeyCell) → IsWorking b slot job → slots ≡ slice_set b.slots slot None → new ≡ old → old.cells ≡ b.cells → old.dropped ≡ b.dropped
    → queues ≡ b.queues → panes ≡ b.panes → done ≡ b.done → dead ≡ b.dead → written ≡ b.written → commits ≡ b.commits → keys ≡ b.keys
    → record b { slots = slice_set slots slot (Some job); queues = queues; cells = new.cells; dropped = new.dropped; keys = keys; panes = panes; done = done; dead = dead; written = written; commits = commits } ≡ b
same_back b slot job old new slots queues panes done dead written commits keys works e0 g c d e1 e2 e3 e4 e5 e6 e7 =
    ap (λ x. record b { slots = x; queues = queues; cells = new.cells; dropped = new.dropped; keys = keys; panes = panes; done = done; dead = dead; written = written; commits = commits })
    (ap (λ (l : List (Option Live)). slice_set l slot (Some job)) e0 ∙ set_back b.slots slot (Some job) None works)
    ∙ ap (λ x. record b { queues = queues; cells = x; dropped = new.dropped; keys = keys; panes = panes; done = done; dead = dead; written = written; commits = commits }) (ap (λ (s : SeenGroups). s.cells) g ∙ c)
    ∙ ap (λ x. record b { queues = queues; dropped = x; keys = keys; panes = panes; done = done; dead = dead; written = written; commits = commits }) (ap (λ (s : SeenGroups). s.dropped) g ∙ d)
    ∙ ap (λ x. record b { queues = queues; keys = x; panes = panes; done = done; dead = dead; written = written; commits = commits }) e7
    ∙ same_data b queues panes done dead written commits e1 e2 e3 e4 e5 e6

-- the indexes of the same book, where as much is held
pub indexed_as : (b new : SeenBook) (held after : List SeenHolds) (piece_room batch_room : ℕ) → new ≡ b → AreHeldIn after (own_holds b) → length after ≡ length held
    → IsIndexed b held piece_room batch_room → IsIndexed new after piece_room batch_room
indexed_as b new held after piece_room batch_room e holding sized k =
    subst (λ (d : SeenBook). IsIndexed d after piece_room batch_room) (sym e) (record {
      sane = k.sane;
      sized = sized ∙ k.sized;
      holds_back = holding;
      pieces = k.pieces;
      batches = k.batches;
    })

pub indexed_room : (b new : SeenBook) (held after : List SeenHolds) (piece_room batch_room : ℕ) → new ≡ b → ((n : ℕ) → marks_in after n ≡ marks_in held n) → length after ≡ length held
    → IsIndexed b held piece_room batch_room → IsIndexed new after piece_room batch_room
indexed_room b new held after piece_room batch_room e same sized k =
    indexed_as b new held after piece_room batch_room e (held_as held after (own_holds b) same k.holds_back) sized k

-- ---- what the Groups gave

-- in the words of the book
pub are_fired : (b : SeenBook) (slot : ℕ) (job : Live) (receipt : Receipt) (old new : SeenGroups) (fired : List Pane) (marks : List StageMarks) (left : List Arrival) (held : List SeenHolds)
    (plan : Plan) (c : ℕ) (before : List StageMarks) (done : Option KeyDone) → plan ≡ b.plan → c ≡ length b.commits → before ≡ last_marks b → done ≡ key_done (length b.commits) job receipt.logged
    → IsWorking b slot job → old.cells ≡ b.cells → old.dropped ≡ b.dropped
    → IsCommitted plan c before marks (least_with held (key_holds (place plan before done receipt.arrivals b.keys))) receipt.arrivals left old new fired → AreRounds plan c before marks receipt.arrivals old.cells new.cells fired
    → length fired ≤ length old.cells + length receipt.arrivals → AreHeldIn held (kept_holds b slot job receipt)
    → length b.commits + 1 < 4294967295 → length b.panes + (length b.cells + length receipt.arrivals) < 4294967295 → length b.dropped + length receipt.arrivals < 4294967295
    → length new.cells < 4294967295 → length b.keys + length receipt.arrivals < 4294967295 → waiting_in b.keys + length receipt.arrivals < 4294967295 → AreFired b slot job receipt old new fired marks left held
are_fired b slot job receipt old new fired marks left held plan c before done e f g d works cells dropped ends rounds few holding commits panes drops all_cells all_keys all_waiting_too = record {
  works = works;
  cells = cells;
  dropped = dropped;
  committed =
      subst (λ (o : Option KeyDone). IsCommitted b.plan (length b.commits) (last_marks b) marks (least_with held (key_holds (place b.plan (last_marks b) o receipt.arrivals b.keys))) receipt.arrivals left old new fired) d
      (subst (λ (p : Plan). IsCommitted p (length b.commits) (last_marks b) marks (least_with held (key_holds (place p (last_marks b) done receipt.arrivals b.keys))) receipt.arrivals left old new fired) e
      (subst (λ (n : ℕ). IsCommitted plan n (last_marks b) marks (least_with held (key_holds (place plan (last_marks b) done receipt.arrivals b.keys))) receipt.arrivals left old new fired) f
      (subst (λ (l : List StageMarks). IsCommitted plan c l marks (least_with held (key_holds (place plan l done receipt.arrivals b.keys))) receipt.arrivals left old new fired) g ends)));
  rounds =
      subst (λ (p : Plan). AreRounds p (length b.commits) (last_marks b) marks receipt.arrivals old.cells new.cells fired) e
      (subst (λ (n : ℕ). AreRounds plan n (last_marks b) marks receipt.arrivals old.cells new.cells fired) f
      (subst (λ (l : List StageMarks). AreRounds plan c l marks receipt.arrivals old.cells new.cells fired) g rounds));
  few = omega (arith, few, ap length cells);
  holding = holding;
  few_commits = commits;
  few_panes = panes;
  few_dropped = drops;
  few_cells = all_cells;
  few_keys = all_keys;
  few_waiting = all_waiting_too;
}

-- the cell of the job stands, where one is done
pub job_stands : (b : SeenBook) (slot : ℕ) (job : Live) (c : ℕ) (logged : Option Logged) → IsWorking b slot job → AreTurnsKept b → IsStanding b.keys (key_done c job logged)
job_stands b slot (live.Span piece attempted) c logged works turns = tt
job_stands b slot (live.Batch batch) c logged works turns = tt
job_stands b slot (live.Key turn) c None works turns = tt
job_stands b slot (live.Key turn) c (Some logged) works turns = let own = turn_at b slot turn turns works in slice_get_within b.keys turn.cell own.cell own.is_at

-- room for all of them
pub room_for_fired : (plan : Plan) (queues : List SeenQueue) (held freed after : List SeenHolds) (most : ℕ) (fired : List Pane)
    → ((n : ℕ) → is_group plan n ≡ true → HasRoom queues held n (most + 1)) → All (λ pane. is_group plan pane.node ≡ true) fired → length fired ≤ most
    → ((n : ℕ) → room_in held n ≤ room_in freed n) → ((n : ℕ) → room_in freed n ≤ room_in after n + 1) → length after ≡ length held
    → All (λ pane. HasRoom queues after pane.node (length fired)) fired
room_for_fired plan queues held freed after most fired room at_groups few kept used sized =
    All-weaker (λ pane. is_group plan pane.node ≡ true) (λ pane. HasRoom queues after pane.node (length fired))
    (λ pane e. at pane.node (room pane.node e)) fired at_groups
  where
    at : (n : ℕ) → HasRoom queues held n (most + 1) → HasRoom queues after n (length fired)
    at n h = record {
      queued = h.queued;
      holding = omega (arith, h.holding, sized);
      queue = omega (arith, h.queue, few);
      marks = omega (arith, h.marks, few, kept n, used n);
    }

pub few_left : (plan : Plan) (arrivals left : List Arrival) (count : ℕ) → left ≡ filter (λ arrival. not (is_at_group plan arrival)) arrivals → count ≡ length arrivals → length left ≤ count
few_left plan arrivals left count e f = omega (arith, ap length e, f, no_longer (λ arrival. not (is_at_group plan arrival)) arrivals)

-- ---- where they wait

pub waits_there : (before last : List StageMarks) (first count : ℕ) (panes fired : List Pane) (queues old new : List (List WaitingPane)) → before ≡ last → first ≡ count → panes ≡ fired → queues ≡ old
    → new ≡ map (with_fired before (enumerate_from first panes)) (enumerate_from 0 queues) → new ≡ map (with_fired last (enumerate_from count fired)) (enumerate_from 0 old)
waits_there before last first count panes fired queues old new e f g h is =
    is
    ∙ ap (λ (l : List StageMarks). map (with_fired l (enumerate_from first panes)) (enumerate_from 0 queues)) e
    ∙ ap (λ (n : ℕ). map (with_fired last (enumerate_from n panes)) (enumerate_from 0 queues)) f
    ∙ ap (λ (l : List Pane). map (with_fired last (enumerate_from count l)) (enumerate_from 0 queues)) g
    ∙ ap (λ (l : List (List WaitingPane)). map (with_fired last (enumerate_from count fired)) (enumerate_from 0 l)) h

pub holds_there : (before last : List StageMarks) (panes fired : List Pane) (held after : List SeenHolds) → before ≡ last → panes ≡ fired
    → ((holds : List Hold) → AreHeldIn held holds → AreHeldIn after (map (pane_hold before) panes ++ holds))
    → (holds : List Hold) → AreHeldIn held holds → AreHeldIn after (map (pane_hold last) fired ++ holds)
holds_there before last panes fired held after e f add holds h =
    subst (λ (l : List StageMarks). AreHeldIn after (map (pane_hold l) fired ++ holds)) e
    (subst (λ (l : List Pane). AreHeldIn after (map (pane_hold before) l ++ holds)) f (add holds h))
