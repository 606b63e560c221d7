-- A job fails: what is kept of the book's indexes.
use Rattle.std.proofs.Common.{◌≡◌, ℕ, ◌+◌, ◌≤◌, ◌<◌, Bool, true, false, List, [], ◌∷◌, length, refl, sym, ap, subst, ◌∙◌, arith}
use Rattle.std.specs.Prelude.{slice_get, slice_set, cond, nat_le, nat_lt, ◌&&◌, not, ◌++◌, map, Contains, Option, Some, None}
use Rattle.std.proofs.lemmas.List.{length-map}
use Rattle.std.proofs.Common.{length-append}
use Rattle.std.proofs.lemmas.Bool.Decides.{nat_tests}
use Rattle.std.proofs.lemmas.List.Elements.{All-head}
use Rattle.std.specs.List.{flat_map}
use Rattle.std.proofs.lemmas.List.Sums.{sum_by-cons, sum_by-append}
use Rattle.beam_values.specs.Bags.{IsSameBag}
use Rattle.beam_values.proofs.Bags.{bag_sym}
use Rattle.beam_model.specs.Holds.{Hold, piece_hold}
use Rattle.split_core.specs.Order.{with_pieces}
use Rattle.beam_values.specs.declared.fault.Cause.{Cause}
use Rattle.beam_values.specs.declared.fault.Cause.TheVariants.{Call, Read}
use Rattle.beam_values.specs.declared.fault.FaultNote.{FaultNote}
use Rattle.beam_values.specs.declared.outcome.StopCause.{StopCause}
use Rattle.beam_values.specs.declared.piece.Piece.{Piece}
use Rattle.beam_values.specs.declared.plan.Plan.{Plan}
use Rattle.retry_core.specs.Shares.{share_after}
use Rattle.retry_core.specs.declared.attempt.Next.{Next as Retried}
use Rattle.retry_core.specs.declared.attempt.Next.TheVariants as retry
use Rattle.retry_core.specs.declared.share.FaultShare.{FaultShare}
use Rattle.split_core.proofs.Ordered.{bag_with_piece}
use Rattle.stateful_core.specs.Cells.{KeyCell}
use Rattle.stateful_core.specs.Taking.{is_some, tried}
use Rattle.stateful_core.specs.declared.key_job.KeyTurn.{KeyTurn}
use Rattle.watermarks.specs.Holds.{SeenHolds}
use Rattle.book_core.specs.Book.{SeenBook, held, hold_of, most_parts, piece_of, places_kept, batch_of, live_batches, live_pieces, sets_aside, waiting_in}
use Rattle.book_core.specs.Calls.{Makes, CanFail, failure_of}
use Rattle.book_core.specs.Changes.{with_slot, given_back, counted, stopped_where, broken, broken_parts, failed, failed_where, is_broken, ends_run, may_break, note_of, tried_again, tried_piece, tried_batch, attempts_of}
use Rattle.book_core.specs.Indexes.{IsIndexed, AreHeldIn, marks_in, own_holds, pieces_back, batches_back, keys_back, is_spent, stopped_after}
use Rattle.book_core.specs.Sane.{IsSane}
use Rattle.book_core.specs.Steps.{Fail, Retried as Again, Step, IsFailure, IsFresh}
use Rattle.book_core.specs.declared.live.Batch.{Batch}
use Rattle.book_core.specs.declared.live.Failure.TheVariants as failure
use Rattle.book_core.specs.declared.live.Live.{Live}
use Rattle.book_core.specs.declared.live.Live.TheVariants as live
use Rattle.book_core.proofs.Slotted.{All-append_right, All-flat_at}
use Rattle.book_core.proofs.HoldBags.{broken_bag}
use Rattle.book_core.proofs.HeldMarks.{few_marks, held_mark, held_within}
use Rattle.book_core.proofs.Holding.{bag_held, free_holds, all_weigh, piece_weight, batch_weight, slot_weight}
use Rattle.book_core.proofs.KeyChanges.{change_weighs}
use Rattle.book_core.proofs.Limits.{pieces_after, batches_after, kept_all, kept_one, kept_same, kept_three}
use Rattle.book_core.proofs.Broken.{broken_is}
use Rattle.book_core.proofs.Rounds.{held_few}
use Rattle.book_core.proofs.SaneAlways.{each_tried, step_sane}
use Rattle.book_core.proofs.Slots.{All-slice_get, set_weighs}
use Rattle.book_core.proofs.Turns.{turn_at}

-- a slot that can fail works something
pub can_job : (b : SeenBook) (slot : ℕ) (job : Option Live) → CanFail b slot → slice_get b.slots slot ≡ Some job → (work : Live) × (job ≡ Some work)
can_job b slot job can at = let works = can.1.works in (can.0, cc)

-- which isn't a spent piece
pub can_fresh : (b : SeenBook) (slot : ℕ) (job : Live) → CanFail b slot → slice_get b.slots slot ≡ Some (Some job) → IsFresh job
can_fresh b slot job can at =
    let works = can.1.works in
    let same : can.0 ≡ job = cc in
    subst IsFresh same can.1.fresh

pub below_limit : (b : SeenBook) (slot : ℕ) (job : Live) → IsSane b → slice_get b.slots slot ≡ Some (Some job) → IsFresh job → attempts_of job < b.options.attempts
below_limit b slot (live.Span piece attempted) sane works fresh =
    All-head (λ (p : Piece). p.spent ≡ None → p.attempts < b.options.attempts) piece []
    (All-flat_at piece_of b.slots slot (λ (p : Piece). p.spent ≡ None → p.attempts < b.options.attempts) (Some (live.Span piece attempted)) works sane.attempts.worked_pieces) fresh
below_limit b slot (live.Batch batch) sane works fresh =
    All-head (λ (x : Batch). x.attempts < b.options.attempts) batch []
    (All-flat_at batch_of b.slots slot (λ (x : Batch). x.attempts < b.options.attempts) (Some (live.Batch batch)) works sane.attempts.worked_batches)
below_limit b slot (live.Key turn) sane works fresh =
    let own = turn_at b slot turn sane.turns works in
    let below = All-slice_get (λ (c : KeyCell). is_some c.live ≡ true → c.attempts < b.options.attempts) b.keys turn.cell own.cell own.is_at sane.attempts.worked_keys (ap is_some own.works) in
    omega (arith, below, ap (λ (t : KeyTurn). t.attempts) own.is)

-- no job failed more often than jobs failed at all
pub tried_at_most : (b : SeenBook) (slot : ℕ) (job : Live) → IsSane b → slice_get b.slots slot ≡ Some (Some job) → attempts_of job ≤ b.calls + b.reads
tried_at_most b slot (live.Span piece attempted) sane works =
    All-head (λ (p : Piece). p.attempts ≤ b.calls + b.reads) piece []
    (All-flat_at piece_of b.slots slot (λ (p : Piece). p.attempts ≤ b.calls + b.reads) (Some (live.Span piece attempted)) works
    (All-append_right (λ (p : Piece). p.attempts ≤ b.calls + b.reads) b.pending (live_pieces b) (each_tried b sane.attempts)))
tried_at_most b slot (live.Batch batch) sane works =
    All-head (λ (x : Batch). x.attempts ≤ b.calls + b.reads) batch []
    (All-flat_at batch_of b.slots slot (λ (x : Batch). x.attempts ≤ b.calls + b.reads) (Some (live.Batch batch)) works
    (All-append_right (λ (x : Batch). x.attempts ≤ b.calls + b.reads) b.returned (live_batches b) sane.attempts.batches))
tried_at_most b slot (live.Key turn) sane works =
    let own = turn_at b slot turn sane.turns works in
    let failed = All-slice_get (λ (c : KeyCell). c.attempts ≤ b.calls + b.reads) b.keys turn.cell own.cell own.is_at sane.attempts.keys_failed in
    omega (arith, failed, ap (λ (t : KeyTurn). t.attempts) own.is)

pub few_attempts : (b : SeenBook) (slot : ℕ) (job : Live) → IsSane b → slice_get b.slots slot ≡ Some (Some job) → IsFresh job → attempts_of job < 4294967295
few_attempts b slot job sane works fresh = omega (arith, below_limit b slot job sane works fresh, sane.formed.allowed.attempts.1)

-- a job is given up where `next_attempt` gives it up
pub given_up : (attempts limit : ℕ) (next : Retried) → next ≡ cond (nat_lt (attempts + 1) limit) (retry.Retry (attempts + 1)) retry.Spent → is_spent next ≡ nat_le limit (attempts + 1)
given_up attempts limit next is = by (nat_lt (attempts + 1) limit) refl is
  where
    more : nat_lt (attempts + 1) limit ≡ true → nat_le limit (attempts + 1) ≡ false
    more e = grind (arith, nat_tests)

    last : nat_lt (attempts + 1) limit ≡ false → nat_le limit (attempts + 1) ≡ true
    last e = grind (arith, nat_tests)

    by : (t : Bool) → nat_lt (attempts + 1) limit ≡ t → next ≡ cond t (retry.Retry (attempts + 1)) retry.Spent → is_spent next ≡ nat_le limit (attempts + 1)
    by true e same = ap is_spent same ∙ sym (more e)
    by false e same = ap is_spent same ∙ sym (last e)

-- the parts of the book after a fail, as they are written
abbrev written : SeenBook → ℕ → ℕ → Live → Cause → Bool → FaultNote → FaultShare → SeenBook
written b slot at job cause spent note share = record b {
  slots = slice_set b.slots slot None;
  pending = pieces_back b.pending job at cause;
  returned = batches_back b.returned job;
  keys = keys_back b.keys job;
  calls = share.calls;
  reads = share.reads;
  stopped = stopped_after spent b.stopped note;
}

abbrev share_of : SeenBook → FaultShare
share_of b = record { calls = b.calls; reads = b.reads }

parts_are : (b : SeenBook) (slot at : ℕ) (job : Live) (cause : Cause) (spent : Bool) (note : FaultNote)
    → written b slot at job cause spent note (share_after (share_of b) cause 1) ≡ stopped_where spent (counted (given_back (with_slot b slot None) job at cause) cause) note
parts_are b slot at (live.Span piece attempted) Call true note = refl
parts_are b slot at (live.Span piece attempted) Call false note = refl
parts_are b slot at (live.Span piece attempted) Read true note = refl
parts_are b slot at (live.Span piece attempted) Read false note = refl
parts_are b slot at (live.Batch batch) Call true note = refl
parts_are b slot at (live.Batch batch) Call false note = refl
parts_are b slot at (live.Batch batch) Read true note = refl
parts_are b slot at (live.Batch batch) Read false note = refl
parts_are b slot at (live.Key turn) Call true note = refl
parts_are b slot at (live.Key turn) Call false note = refl
parts_are b slot at (live.Key turn) Read true note = refl
parts_are b slot at (live.Key turn) Read false note = refl

-- all holds stay
back_holds : (b : SeenBook) (slot : ℕ) (job : Live) (at : ℕ) (cause : Cause) → slice_get b.slots slot ≡ Some (Some job) → IsSameBag (own_holds b)
    (own_holds (record b { slots = slice_set b.slots slot None; pending = pieces_back b.pending job at cause; returned = batches_back b.returned job }))
back_holds b slot (live.Span piece attempted) at cause works = record {
  weighs = λ w. omega (
    arith,
    all_weigh w b,
    all_weigh w (record b { slots = slice_set b.slots slot None; pending = pieces_back b.pending (live.Span piece attempted) at cause }),
    set_weighs (slot_weight w b.plan) b.slots slot (Some (live.Span piece attempted)) None works,
    (bag_with_piece (tried_piece piece) b.pending).weighs (piece_weight w b.plan),
    sum_by-cons (piece_weight w b.plan) (tried_piece piece) b.pending,
    sum_by-cons (piece_weight w b.plan) piece [],
  );
}
back_holds b slot (live.Batch batch) at cause works = record {
  weighs = λ w. omega (
    arith,
    all_weigh w b,
    all_weigh w (record b { slots = slice_set b.slots slot None; returned = batches_back b.returned (live.Batch batch) }),
    set_weighs (slot_weight w b.plan) b.slots slot (Some (live.Batch batch)) None works,
    sum_by-append (batch_weight w) b.returned (tried_batch batch ∷ []),
    sum_by-cons (batch_weight w) (tried_batch batch) [],
    sum_by-cons (batch_weight w) batch [],
  );
}
back_holds b slot (live.Key turn) at cause works = record {
  weighs = λ w. omega (
    arith,
    all_weigh w b,
    all_weigh w (record b { slots = slice_set b.slots slot None }),
    set_weighs (slot_weight w b.plan) b.slots slot (Some (live.Key turn)) None works,
  );
}

answers : (b : SeenBook) (job : Live) (at : ℕ) (cause : Cause) (spent : Bool) → ends_run b job cause ≡ spent
    → IsFailure b job at cause (failure_of (cond spent (failure.Spent (note_of job at cause)) failure.Retry))
answers b job at cause true e = (e, refl)
answers b job at cause false e = e

makes_failed : (b : SeenBook) (slot at : ℕ) (job : Live) (cause : Cause) → slice_get b.slots slot ≡ Some (Some job) → IsFresh job → is_broken b job cause ≡ false
    → Makes b slot (Fail at cause) (failure_of (cond (ends_run b job cause) (failure.Spent (note_of job at cause)) failure.Retry)) (tried_again b slot job at cause)
makes_failed b slot at job cause works fresh whole = λ told. to_step told (ends_run b job cause) refl
  where
    failed_is : tried_again b slot job at cause ≡ failed b slot job at cause
    failed_is = ap (λ (t : Bool). failed_where t b slot job at cause) (sym whole)

    to_step : (told : Option (List Rattle.beam_values.specs.declared.file_text.FileText.FileText)) (spent : Bool) → ends_run b job cause ≡ spent
        → Step told b slot (Fail at cause) (failure_of (cond spent (failure.Spent (note_of job at cause)) failure.Retry)) (tried_again b slot job at cause)
    to_step told true e = record { job = job; works = record { works = works; fresh = fresh }; answers = (e, refl); is = failed_is }
    to_step told false e = record { job = job; works = record { works = works; fresh = fresh }; answers = e; is = failed_is }

-- at the limit a fail ends the run, where it breaks no range
pub ends_unless : (spent may : Bool) → (spent && may) ≡ false → spent ≡ (spent && not may)
ends_unless true true e = absurd (cc)
ends_unless true false e = refl
ends_unless false may e = refl

none_ends : (spent may : Bool) → (spent && may) ≡ true → (spent && not may) ≡ false
none_ends true true e = refl
none_ends true false e = absurd (cc)
none_ends false may e = refl

-- as many elements wait at key cells
pub back_waiting : (cells : List KeyCell) (job : Live) → waiting_in (keys_back cells job) ≡ waiting_in cells
back_waiting cells (live.Span piece attempted) = refl
back_waiting cells (live.Batch batch) = refl
back_waiting cells (live.Key turn) = change_weighs (λ (cell : KeyCell). length cell.waiting) tried (λ cell. refl) turn.cell cells

-- a slot gives its places back
pub places_free : (b : SeenBook) (slot : ℕ) (job : Live) → slice_get b.slots slot ≡ Some (Some job)
    → places_kept (with_slot b slot None) + length (piece_of (Some job)) ≤ places_kept b
places_free b slot (live.Span piece attempted) works =
    omega (
      arith,
      kept_one b.plan (length (live_pieces (with_slot b slot None))) (length (live_pieces b)) (omega (arith, pieces_after b.slots slot (Some (live.Span piece attempted)) None works)),
    )
places_free b slot (live.Batch batch) works = omega (arith, kept_same b.plan b.slots slot (Some (live.Batch batch)) None works refl)
places_free b slot (live.Key turn) works = omega (arith, kept_same b.plan b.slots slot (Some (live.Key turn)) None works refl)

-- what is written after a fail that breaks no range
pub record IsWritten (b : SeenBook) (slot at : ℕ) (job : Live) (cause : Cause) (spent : Bool) (note : FaultNote) (slots : List (Option Live)) (pending : List Piece) (returned : List Batch) (keys : List KeyCell) (share : FaultShare) (stopped : Option StopCause) : Type 0 where
  pub works : slice_get b.slots slot ≡ Some (Some job)
  pub fresh : IsFresh job
  pub whole : is_broken b job cause ≡ false
  pub spent_is : spent ≡ ends_run b job cause
  pub note_is : note ≡ note_of job at cause
  pub slots_are : slots ≡ slice_set b.slots slot None
  pub pending_is : pending ≡ pieces_back b.pending job at cause
  pub returned_is : returned ≡ batches_back b.returned job
  pub keys_are : keys ≡ keys_back b.keys job
  pub share_is : share ≡ share_after (share_of b) cause 1
  pub stopped_is : stopped ≡ stopped_after spent b.stopped note

abbrev as_written : SeenBook → List (Option Live) → List Piece → List Batch → List KeyCell → FaultShare → Option StopCause → SeenBook
as_written b slots pending returned keys share stopped =
    record b { slots = slots; pending = pending; returned = returned; keys = keys; calls = share.calls; reads = share.reads; stopped = stopped }

module _ (b : SeenBook) (slot at : ℕ) (job : Live) (cause : Cause) (spent : Bool) (note : FaultNote) (slots : List (Option Live)) (pending : List Piece) (returned : List Batch)
    (keys : List KeyCell) (share : FaultShare) (stopped : Option StopCause) (h : IsWritten b slot at job cause spent note slots pending returned keys share stopped) where
  is_failed : as_written b slots pending returned keys share stopped ≡ tried_again b slot job at cause
  is_failed =
      ap (λ (x : List (Option Live)). as_written b x pending returned keys share stopped) h.slots_are
      ∙ ap (λ (x : List Piece). as_written b (slice_set b.slots slot None) x returned keys share stopped) h.pending_is
      ∙ ap (λ (x : List Batch). as_written b (slice_set b.slots slot None) (pieces_back b.pending job at cause) x keys share stopped) h.returned_is
      ∙ ap (λ (x : List KeyCell). as_written b (slice_set b.slots slot None) (pieces_back b.pending job at cause) (batches_back b.returned job) x share stopped) h.keys_are
      ∙ ap (λ (x : FaultShare). as_written b (slice_set b.slots slot None) (pieces_back b.pending job at cause) (batches_back b.returned job) (keys_back b.keys job) x stopped) h.share_is
      ∙ ap (λ (x : Option StopCause). as_written b (slice_set b.slots slot None) (pieces_back b.pending job at cause) (batches_back b.returned job) (keys_back b.keys job) (share_after (share_of b) cause 1) x)
      (h.stopped_is ∙ ap (λ (t : Bool). stopped_after t b.stopped note) h.spent_is ∙ ap (λ (n : FaultNote). stopped_after (ends_run b job cause) b.stopped n) h.note_is)
      ∙ parts_are b slot at job cause (ends_run b job cause) (note_of job at cause)

  pub makes_fail : Makes b slot (Fail at cause) (failure_of (cond spent (failure.Spent note) failure.Retry)) (as_written b slots pending returned keys share stopped)
  makes_fail =
      subst (Makes b slot (Fail at cause) (failure_of (cond spent (failure.Spent note) failure.Retry))) (sym is_failed)
      (subst (λ (n : FaultNote). Makes b slot (Fail at cause) (failure_of (cond spent (failure.Spent n) failure.Retry)) (tried_again b slot job at cause)) (sym h.note_is)
      (subst (λ (t : Bool). Makes b slot (Fail at cause) (failure_of (cond t (failure.Spent (note_of job at cause)) failure.Retry)) (tried_again b slot job at cause)) (sym h.spent_is)
      (makes_failed b slot at job cause h.works h.fresh h.whole)))

  pub fail_indexed : (held : List SeenHolds) (piece_room batch_room fewer fewer_batches : ℕ) → IsIndexed b held piece_room batch_room → piece_room ≤ fewer + length (piece_of (Some job))
      → batch_room ≤ fewer_batches + length (batch_of (Some job)) → IsIndexed (as_written b slots pending returned keys share stopped) held fewer fewer_batches
  fail_indexed held piece_room batch_room fewer fewer_batches k some some_batches = record {
    sane = step_sane None b _ slot (Fail at cause) _ (makes_fail None) k.sane;
    sized = k.sized;
    holds_back = bag_held held (own_holds b) (own_holds (record b { slots = slots; pending = pending; returned = returned }))
        (subst (λ (x : List (Option Live)). IsSameBag (own_holds b) (own_holds (record b { slots = x; pending = pending; returned = returned }))) (sym h.slots_are)
        (subst (λ (x : List Piece). IsSameBag (own_holds b) (own_holds (record b { slots = slice_set b.slots slot None; pending = x; returned = returned }))) (sym h.pending_is)
        (subst (λ (x : List Batch). IsSameBag (own_holds b) (own_holds (record b { slots = slice_set b.slots slot None; pending = pieces_back b.pending job at cause; returned = x }))) (sym h.returned_is)
        (back_holds b slot job at cause h.works)))) k.holds_back;
    pieces = omega (arith, k.pieces, some, places_free b slot job h.works, ap (λ (x : List (Option Live)). most_parts b.plan (length (flat_map piece_of x))) h.slots_are);
    batches = omega (arith, k.batches, some_batches, batches_after b.slots slot (Some job) None h.works, ap (λ (x : List (Option Live)). length (flat_map batch_of x)) h.slots_are);
  }

-- ---- a range is broken

-- no node is held at more marks than there are pieces and panes
few_holds : (b : SeenBook) → IsSane b → length (own_holds b) < 8589934592
few_holds b sane =
    omega (
      arith,
      length-append (map (piece_hold b.plan) (b.pending ++ live_pieces b)) (map hold_of (held b)),
      length-map (b.pending ++ live_pieces b) (piece_hold b.plan),
      length-map (held b) hold_of,
      length-append b.pending (live_pieces b),
      kept_all b.plan (length (live_pieces b)),
      held_few b sane.held,
      sane.formed.within.pieces,
      sane.formed.within.panes,
    )

module _ (b : SeenBook) (marks : List SeenHolds) (piece_room batch_room slot : ℕ) (piece : Piece) (attempted : Option ℕ) (works : slice_get b.slots slot ≡ Some (Some (live.Span piece attempted)))
    (k : IsIndexed b marks piece_room batch_room) where
  own_held : AreHeldIn marks (piece_hold b.plan piece ∷ own_holds (with_slot b slot None))
  own_held = bag_held marks (own_holds b) (piece_hold b.plan piece ∷ own_holds (with_slot b slot None)) (free_holds b slot piece attempted works) k.holds_back

  pub break_within : piece.node < length marks
  break_within = held_within marks (piece_hold b.plan piece) (own_holds (with_slot b slot None)) own_held

  pub break_among : Contains (marks_in marks piece.node) (piece_hold b.plan piece).mark
  break_among = held_mark marks (piece_hold b.plan piece) (own_holds (with_slot b slot None)) own_held

  pub break_few : length (marks_in marks piece.node) < 18446744073709551612
  break_few = omega (arith, few_marks marks (own_holds b) k.holds_back piece.node, few_holds b k.sane)

  pub break_room : sets_aside b.plan ≡ true → places_kept (with_slot b slot None) + 3 ≤ piece_room
  break_room aside =
      omega (
        arith,
        k.pieces,
        kept_three b.plan (length (live_pieces (with_slot b slot None))) (length (live_pieces b)) aside
            (omega (arith, pieces_after b.slots slot (Some (live.Span piece attempted)) None works)),
      )

-- what is written after a fail that breaks a range
pub record IsWrittenBroken (b : SeenBook) (slot at : ℕ) (piece : Piece) (attempted : Option ℕ) (slots : List (Option Live)) (pending : List Piece) (share : FaultShare) : Type 0 where
  pub works : slice_get b.slots slot ≡ Some (Some (live.Span piece attempted))
  pub fresh : piece.spent ≡ None
  pub breaks : is_broken b (live.Span piece attempted) Call ≡ true
  pub slots_are : slots ≡ slice_set b.slots slot None
  pub pending_is : pending ≡ with_pieces (broken_parts piece attempted (note_of (live.Span piece attempted) at Call)) b.pending
  pub share_is : share ≡ share_after (share_of b) Call 1

abbrev as_broken : SeenBook → List (Option Live) → List Piece → FaultShare → SeenBook
as_broken b slots pending share = record b { slots = slots; pending = pending; calls = share.calls; reads = share.reads }

module _ (b : SeenBook) (slot at : ℕ) (piece : Piece) (attempted : Option ℕ) (slots : List (Option Live)) (pending : List Piece) (share : FaultShare)
    (h : IsWrittenBroken b slot at piece attempted slots pending share) where
  abbrev note : FaultNote
  note = note_of (live.Span piece attempted) at Call

  is_broken_so : as_broken b slots pending share ≡ broken b slot piece attempted note
  is_broken_so =
      ap (λ (x : List (Option Live)). as_broken b x pending share) h.slots_are
      ∙ ap (λ (x : List Piece). as_broken b (slice_set b.slots slot None) x share) h.pending_is
      ∙ ap (λ (x : FaultShare). as_broken b (slice_set b.slots slot None) (with_pieces (broken_parts piece attempted note) b.pending) x) h.share_is

  makes_broken : Makes b slot (Fail at Call) Again (as_broken b slots pending share)
  makes_broken = λ told. record {
    job = live.Span piece attempted;
    works = record { works = h.works; fresh = h.fresh };
    answers = none_ends (nat_le b.options.attempts (piece.attempts + 1)) (sets_aside b.plan) h.breaks;
    is = is_broken_so ∙ ap (λ (t : Bool). failed_where t b slot (live.Span piece attempted) at Call) (sym h.breaks);
  }

  pub makes_break : (cause : Cause) → cause ≡ Call → Makes b slot (Fail at cause) Again (as_broken b slots pending share)
  makes_break cause e = subst (λ (x : Cause). Makes b slot (Fail at x) Again (as_broken b slots pending share)) (sym e) makes_broken

  pub broken_indexed : (marks new : List SeenHolds) (piece_room batch_room fewer : ℕ) → IsIndexed b marks piece_room batch_room → piece_room ≤ fewer + 3
      → ((holds : List Hold) → AreHeldIn marks (piece_hold b.plan piece ∷ holds) → AreHeldIn new (map (piece_hold b.plan) (broken_parts piece attempted note) ++ holds))
      → length new ≡ length marks → IsIndexed (as_broken b slots pending share) new fewer batch_room
  broken_indexed marks new piece_room batch_room fewer k room add sized =
      subst (λ (d : SeenBook). IsIndexed d new fewer batch_room) (sym is_broken_so) (record {
        sane = step_sane None b _ slot (Fail at Call) Again (subst (λ (d : SeenBook). Step None b slot (Fail at Call) Again d) is_broken_so (makes_broken None)) k.sane;
        sized = sized ∙ k.sized;
        holds_back =
            let rest = own_holds (with_slot b slot None) in
            let parts = map (piece_hold b.plan) (broken_parts piece attempted note) in
            bag_held new (parts ++ rest) (own_holds (broken b slot piece attempted note))
            (bag_sym (own_holds (broken b slot piece attempted note)) (parts ++ rest) (broken_bag b slot piece attempted note h.works))
            (add rest (own_held b marks piece_room batch_room slot piece attempted h.works k));
        pieces = omega (arith, room, break_room b marks piece_room batch_room slot piece attempted h.works k (broken_is b piece attempted h.breaks).1);
        batches = omega (arith, k.batches, batches_after b.slots slot (Some (live.Span piece attempted)) None h.works);
      })

-- ---- what the code finds

-- the retry rule gives a job up at the limit
pub limit_is : (b : SeenBook) (job : Live) (attempts : ℕ) (next : Retried) → attempts ≡ attempts_of job
    → next ≡ cond (nat_lt (attempts + 1) b.options.attempts) (retry.Retry (attempts + 1)) retry.Spent → is_spent next ≡ nat_le b.options.attempts (attempts_of job + 1)
limit_is b job attempts next e is = given_up attempts b.options.attempts next is ∙ ap (λ (n : ℕ). nat_le b.options.attempts (n + 1)) e

pub breaks_if : (b : SeenBook) (job : Live) (cause : Cause) (plan : Plan) (spent t : Bool) → plan ≡ b.plan → spent ≡ nat_le b.options.attempts (attempts_of job + 1)
    → (spent && may_break plan job cause) ≡ t → is_broken b job cause ≡ t
breaks_if b job cause plan spent t e f is =
    ap (λ (s : Bool). s && may_break b.plan job cause) (sym f) ∙ ap (λ (p : Plan). spent && may_break p job cause) (sym e) ∙ is

pub range_breaks : (b : SeenBook) (job : Live) (cause : Cause) (piece : Piece) (attempted : Option ℕ) → job ≡ live.Span piece attempted → cause ≡ Call → is_broken b job cause ≡ true
    → is_broken b (live.Span piece attempted) Call ≡ true
range_breaks b job cause piece attempted e f is = ap (λ (j : Live). is_broken b j Call) (sym e) ∙ ap (is_broken b job) (sym f) ∙ is
