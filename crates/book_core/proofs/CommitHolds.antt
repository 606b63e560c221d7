-- The holds of a book at a commit: without the job, with what is left of it, and with the panes that fire.
use Rattle.std.proofs.Common.{◌≡◌, ℕ, ◌+◌, ◌<◌, Bool, true, false, cond, List, [], ◌∷◌, ◌++◌, length, map, refl, ap, arith}
use Rattle.std.specs.Prelude.{Option, Some, None, ◌≤ℤ◌, nat_lt}
use Rattle.std.specs.List.{All, sum_by, enumerate_from}
use Rattle.std.proofs.lemmas.List.Elements.{All-nil, All-cons, All-head, All-append, All-weaker}
use Rattle.std.proofs.lemmas.List.Sums.{sum_by-cons, sum_by-append}
use Rattle.beam_values.specs.Bags.{IsSameBag}
use Rattle.beam_values.specs.Checked.{IsChecked}
use Rattle.beam_values.specs.Marks.{mark_of, marks_at}
use Rattle.beam_values.proofs.Bags.{sum_by-map}
use Rattle.beam_values.specs.declared.cell.Cell.{Cell}
use Rattle.beam_values.specs.declared.cell.Pane.{Pane}
use Rattle.beam_values.specs.declared.fault.FaultNote.{FaultNote}
use Rattle.beam_values.specs.declared.file_text.FileText.{FileText}
use Rattle.beam_values.specs.declared.marks.StageMarks.{StageMarks}
use Rattle.beam_values.specs.declared.piece.Piece.{Piece}
use Rattle.beam_values.specs.declared.plan.Plan.{Plan}
use Rattle.beam_model.specs.Holds.{Hold, estimator_of, piece_hold, pane_hold, least_hold}
use Rattle.bundle_commit.specs.declared.job.Receipt.{Receipt}
use Rattle.group_cells.specs.Commits.{RisesFrom}
use Rattle.split_core.proofs.Ordered.{bag_with_piece}
use Rattle.watermarks.proofs.Rising.{mark_of_rises}
use Rattle.book_core.specs.Book.{SeenBook, last_marks, AreMarksOfBook}
use Rattle.book_core.specs.Changes.{with_slot, committed, keys_after, pending_after, pending_with, residual_of, with_residual, key_done}
use Rattle.book_core.specs.Committing.{job_holds, residual_in, residual_holds, residual_with}
use Rattle.stateful_core.specs.Cells.{key_holds}
use Rattle.book_core.specs.Indexes.{all_holds, own_holds}
use Rattle.book_core.proofs.HoldBags.{all_of}
use Rattle.book_core.proofs.KeysKept.{KeysSane, keys_within}
use Rattle.book_core.specs.Jobs.{job_of, attempted_of}
use Rattle.book_core.specs.Steps.{IsWorking}
use Rattle.book_core.specs.Work.{IsGiven, worked_to, is_known}
use Rattle.book_core.specs.declared.live.Live.{Live}
use Rattle.book_core.specs.declared.live.Live.TheVariants as live
use Rattle.book_core.specs.declared.live.WaitingPane.{WaitingPane}
use Rattle.book_core.proofs.HeldOnce.{All-of_bag}
use Rattle.book_core.proofs.Holding.{piece_weight, pane_weight, batch_weight, slot_weight, all_weigh}
use Rattle.book_core.proofs.MarksKept.{IsUp, is_up, up_from, up_is, further, holds_up, keys_up, rise_from}
use Rattle.book_core.proofs.Queues.{held_fired, fired_weigh}
use Rattle.book_core.proofs.Seen.{receipt_rises}
use Rattle.book_core.proofs.Slots.{set_weighs}
use Rattle.book_core.proofs.Slotted.{All-append_left, All-append_right}

-- ---- the job

job_weighs : (w : Hold → ℕ) (plan : Plan) (job : Live) → sum_by w (job_holds plan job) ≡ slot_weight w plan (Some job)
job_weighs w plan (live.Span piece attempted) =
    omega (arith, sum_by-cons w (piece_hold plan piece) [], sum_by-cons (piece_weight w plan) piece [])
job_weighs w plan (live.Key turn) = omega arith
job_weighs w plan (live.Batch batch) =
    omega (
      arith,
      sum_by-map w (λ (waiting : WaitingPane). record { node = batch.node; mark = waiting.hold }) batch.panes,
      sum_by-map (pane_weight w) (λ (waiting : WaitingPane). record { node = batch.node; waiting = waiting }) batch.panes,
      sum_by-cons (batch_weight w) batch [],
    )

-- of what holds the book back, a part is held by the job of a slot
pub without_job : (b : SeenBook) (slot : ℕ) (job : Live) → IsWorking b slot job
    → IsSameBag (own_holds b) (job_holds b.plan job ++ own_holds (with_slot b slot None))
without_job b slot job works = record {
  weighs = λ w. omega (
    arith,
    sum_by-append w (job_holds b.plan job) (own_holds (with_slot b slot None)),
    job_weighs w b.plan job,
    all_weigh w b,
    all_weigh w (with_slot b slot None),
    set_weighs (slot_weight w b.plan) b.slots slot (Some job) None works,
  );
}

-- ---- the book after a commit

with_residual_weighs : (w : Hold → ℕ) (plan : Plan) (residual : Option Piece) (pending : List Piece)
    → sum_by (piece_weight w plan) (with_residual residual pending) ≡ sum_by w (residual_holds plan residual) + sum_by (piece_weight w plan) pending
with_residual_weighs w plan None pending = omega arith
with_residual_weighs w plan (Some piece) pending =
    omega (
      arith,
      (bag_with_piece piece pending).weighs (piece_weight w plan),
      sum_by-cons (piece_weight w plan) piece pending,
      sum_by-cons w (piece_hold plan piece) [],
    )

pub pending_is : (pending : List Piece) (job : Live) (receipt : Receipt) → pending_after pending job receipt ≡ with_residual (residual_in job receipt) pending
pending_is pending (live.Span piece attempted) receipt = by piece.spent
  where
    by : (spent : Option FaultNote) → pending_with spent piece attempted receipt pending ≡ with_residual (residual_with spent piece attempted receipt) pending
    by None = refl
    by (Some note) = refl
pending_is pending (live.Batch batch) receipt = refl
pending_is pending (live.Key turn) receipt = refl

fired_holds_weigh : (w : Hold → ℕ) (before : List StageMarks) (n : ℕ) (fired : List Pane)
    → sum_by (pane_weight w) (map (held_fired before) (enumerate_from n fired)) ≡ sum_by w (map (pane_hold before) fired)
fired_holds_weigh w before n [] = refl
fired_holds_weigh w before n (p ∷ ps) =
    omega (
      arith,
      fired_holds_weigh w before (n + 1) ps,
      sum_by-cons (pane_weight w) (held_fired before (n, p)) (map (held_fired before) (enumerate_from (n + 1) ps)),
      sum_by-cons w (pane_hold before p) (map (pane_hold before) ps),
    )

numbered_all : (many n : ℕ) (panes : List Pane) → All (λ pane. pane.node < many) panes → All (λ (x : ℕ × Pane). x.1.node < many) (enumerate_from n panes)
numbered_all many n [] h = All-nil (λ (x : ℕ × Pane). x.1.node < many)
numbered_all many n (p ∷ ps) h =
    All-cons (λ (x : ℕ × Pane). x.1.node < many) (n, p) (enumerate_from (n + 1) ps) (All-head (λ (pane : Pane). pane.node < many) p ps h)
    (numbered_all many (n + 1) ps (Rattle.std.proofs.lemmas.List.Elements.All-tail (λ (pane : Pane). pane.node < many) p ps h))

module _ (b : SeenBook) (slot : ℕ) (job : Live) (receipt : Receipt) where
  -- all that holds the book back while its cells fire
  abbrev pub kept_holds : List Hold
  kept_holds = residual_holds b.plan (residual_in job receipt) ++ own_holds (with_slot b slot None)

  pub after_commit : (cells : List Cell) (fired : List Pane) (marks : List StageMarks) → All (λ pane. pane.node < length b.queues) fired
      → IsSameBag (map (pane_hold (last_marks b)) fired ++ kept_holds) (own_holds (committed b slot job receipt cells fired marks))
  after_commit cells fired marks at_nodes = record {
    weighs = λ w.
        let new = committed b slot job receipt cells fired marks in
        omega (
          arith,
          sum_by-append w (map (pane_hold (last_marks b)) fired) kept_holds,
          sum_by-append w (residual_holds b.plan (residual_in job receipt)) (own_holds (with_slot b slot None)),
          all_weigh w new,
          all_weigh w (with_slot b slot None),
          ap (sum_by (piece_weight w b.plan)) (pending_is b.pending job receipt),
          with_residual_weighs w b.plan (residual_in job receipt) b.pending,
          fired_weigh (pane_weight w) (last_marks b) b.queues (enumerate_from (length b.panes) fired) (numbered_all (length b.queues) (length b.panes) fired at_nodes),
          fired_holds_weigh w (last_marks b) (length b.panes) fired,
        );
  }

-- ---- marks rise

IsHoldUp : Plan → List StageMarks → Hold → Type 0
IsHoldUp plan before hold = IsUp plan before hold.node hold.mark

holds_of_bag : (plan : Plan) (before : List StageMarks) (hs ks : List Hold) → IsSameBag hs ks → All (IsHoldUp plan before) hs → All (IsHoldUp plan before) ks
unfolding IsHoldUp
holds_of_bag plan before hs ks same up =
    All-weaker (λ h. is_up plan before h.node h.mark ≡ true) (IsHoldUp plan before) (λ h e. up_is plan before h.node h.mark e) ks
    (All-of_bag (λ h. is_up plan before h.node h.mark) hs ks same
    (All-weaker (IsHoldUp plan before) (λ h. is_up plan before h.node h.mark ≡ true) (λ h u. up_from plan before h.node h.mark u) hs up))

module _ (plan : Plan) (before : List StageMarks) where
  left_up : (told : Option (List FileText)) (panes : List Pane) (job : Live) (receipt : Receipt) → IsGiven told plan (job_of panes job) (attempted_of job) receipt
      → All (IsHoldUp plan before) (job_holds plan job) → All (IsHoldUp plan before) (residual_holds plan (residual_in job receipt))
  unfolding IsHoldUp
  left_up told panes (live.Batch batch) receipt given up = All-nil (IsHoldUp plan before)
  left_up told panes (live.Key turn) receipt given up = All-nil (IsHoldUp plan before)
  left_up told panes (live.Span piece attempted) receipt given up = by_spent piece.spent (by (nat_lt (worked_to piece attempted) piece.range.to))
    where
      by_spent : (spent : Option FaultNote) → All (IsHoldUp plan before) (residual_holds plan (residual_of piece attempted receipt))
          → All (IsHoldUp plan before) (residual_holds plan (residual_with spent piece attempted receipt))
      by_spent None h = h
      by_spent (Some note) h = All-nil (IsHoldUp plan before)

      risen : mark_of (estimator_of plan piece.node) piece.seen ≤ℤ mark_of (estimator_of plan piece.node) receipt.seen
      risen = mark_of_rises (estimator_of plan piece.node) piece.seen receipt.seen
          (receipt_rises (is_known told plan piece.node) told plan piece (worked_to piece attempted) receipt given.0)

      own : IsUp plan before piece.node (mark_of (estimator_of plan piece.node) piece.seen)
      own = All-head (IsHoldUp plan before) (piece_hold plan piece) [] up

      by : (t : Bool) → All (IsHoldUp plan before) (residual_holds plan (cond t (Some (record piece { range = record { from = worked_to piece attempted; to = piece.range.to }; seen = receipt.seen; attempts = 0 })) None))
      by true =
          All-cons (IsHoldUp plan before) (record { node = piece.node; mark = mark_of (estimator_of plan piece.node) receipt.seen }) []
          (λ less. further (marks_at before piece.node).mark_out (mark_of (estimator_of plan piece.node) piece.seen) (mark_of (estimator_of plan piece.node) receipt.seen) (own less) risen)
          (All-nil (IsHoldUp plan before))
      by false = All-nil (IsHoldUp plan before)

-- nor does what waits at key cells and comes to them
pub kept_rise : (told : Option (List FileText)) (b : SeenBook) (slot : ℕ) (job : Live) (receipt : Receipt) → IsChecked b.plan → KeysSane b → IsWorking b slot job
    → IsGiven told b.plan (job_of b.panes job) (attempted_of job) receipt → AreMarksOfBook b (last_marks b)
    → RisesFrom b.plan (least_hold (kept_holds b slot job receipt ++ key_holds (keys_after b job receipt))) (last_marks b)
unfolding IsHoldUp
kept_rise told b slot job receipt checked keys works given was marks are =
    let before = last_marks b in
    let rest = own_holds (with_slot b slot None) in
    let all_up = holds_of_bag b.plan before (all_holds b) (own_holds b ++ key_holds b.keys) (all_of b) (holds_up b.plan (all_holds b) before was) in
    let own_up = All-append_left (IsHoldUp b.plan before) (own_holds b) (key_holds b.keys) all_up in
    let key_up = All-append_right (IsHoldUp b.plan before) (own_holds b) (key_holds b.keys) all_up in
    let up = holds_of_bag b.plan before (own_holds b) (job_holds b.plan job ++ rest) (without_job b slot job works) own_up in
    rise_from b.plan (all_holds b) (kept_holds b slot job receipt ++ key_holds (keys_after b job receipt)) before marks checked was are
    (All-append (IsHoldUp b.plan before) (kept_holds b slot job receipt) (key_holds (keys_after b job receipt))
    (All-append (IsHoldUp b.plan before) (residual_holds b.plan (residual_in job receipt)) rest
    (left_up b.plan before told b.panes job receipt given (All-append_left (IsHoldUp b.plan before) (job_holds b.plan job) rest up))
    (All-append_right (IsHoldUp b.plan before) (job_holds b.plan job) rest up))
    (keys_up b.plan before (key_done (length b.commits) job receipt.logged) receipt.arrivals b.keys (keys_within b keys) key_up))
