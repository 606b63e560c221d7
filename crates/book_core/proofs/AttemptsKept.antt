-- No job fails more often than it may, and none more often than jobs failed at all: every step keeps it.
use Rattle.std.proofs.Common.{ℤ, ◌≡◌, inl, inr, ℕ, ◌+◌, ◌<◌, ◌≤◌, Bool, true, false, cond, List, [], ◌∷◌, ◌++◌, length, refl, sym, ap, subst, ◌∙◌, arith}
use Rattle.std.specs.Prelude.{Option, Some, None, nat_le, nat_lt, not, ◌&&◌, slice_get, slice_set, unwrap_or}
use Rattle.std.specs.Option.{option_map}
use Rattle.std.specs.List.{All}
use Rattle.std.proofs.lemmas.Bool.Decides.{nat_tests}
use Rattle.std.proofs.lemmas.List.Elements.{All-nil, All-cons, All-head, All-weaker}
use Rattle.beam_values.specs.Nodes.{has_kind, is_group_kind, is_source_kind}
use Rattle.beam_values.specs.declared.fault.Cause.{Cause}
use Rattle.beam_values.specs.declared.fault.Cause.TheVariants.{Call, Read}
use Rattle.beam_values.specs.declared.fault.FaultNote.{FaultNote}
use Rattle.beam_values.specs.declared.file_text.FileText.{FileText}
use Rattle.beam_values.specs.declared.outcome.StopCause.{StopCause}
use Rattle.beam_values.specs.declared.outcome.StopCause.TheVariants as stop
use Rattle.beam_values.specs.declared.piece.Piece.{Piece}
use Rattle.beam_ports.specs.Counts.{raised, greatest_count}
use Rattle.beam_values.specs.declared.marks.StageMarks.{StageMarks}
use Rattle.beam_values.specs.declared.plan.Node.{Node}
use Rattle.beam_values.specs.declared.plan.NodeKind.{NodeKind}
use Rattle.beam_values.specs.declared.plan.NodeKind.TheVariants.{Source, ParDo, WindowInto, Flatten, Group, Stateful, Write}
use Rattle.beam_values.specs.declared.plan.Plan.{Plan}
use Rattle.beam_values.specs.declared.arrival.Arrival.{Arrival}
use Rattle.bundle_commit.specs.declared.job.Receipt.{Receipt}
use Rattle.split_core.specs.Order.{with_piece}
use Rattle.stateful_core.specs.Cells.{KeyCell}
use Rattle.stateful_core.specs.Facts.{IsCellSane}
use Rattle.stateful_core.specs.Timers.{AreTimersAt, AreTimersIn}
use Rattle.stateful_core.specs.Placing.{Done, place}
use Rattle.stateful_core.specs.Taking.{change, is_some, tried}
use Rattle.stateful_core.specs.declared.key_job.KeyTurn.{KeyTurn}
use Rattle.book_core.specs.Book.{SeenBook, piece_of, batch_of, last_marks, sets_aside}
use Rattle.book_core.specs.Changes.{with_slot, cut_to, rest_of, given_back, tried_piece, tried_batch, counted, stopped_where, ends_run, is_at_limit, is_broken, may_break, broken, broken_parts, note_of, or_stopped, key_done, pending_with, pending_after, residual_of}
use Rattle.book_core.specs.Facts.{IsStopNoted, IsTurnOf}
use Rattle.book_core.specs.Jobs.{Next}
use Rattle.book_core.specs.Runs.{IsOpening, pieces_of}
use Rattle.book_core.specs.Sane.{IsSane}
use Rattle.book_core.specs.Steps.{IsWorking, IsFresh, IsRunning}
use Rattle.book_core.specs.Work.{worked_to}
use Rattle.book_core.specs.declared.live.Batch.{Batch}
use Rattle.book_core.specs.declared.live.Live.{Live}
use Rattle.book_core.specs.declared.live.Live.TheVariants as live
use Rattle.book_core.proofs.Broken.{All-with_pieces, broken_all}
use Rattle.book_core.proofs.Cases.{Keeps}
use Rattle.book_core.proofs.CellsKept.{batch_at_group}
use Rattle.book_core.proofs.EachKeyCell.{change_each, place_each}
use Rattle.book_core.proofs.OpenedPieces.{all_pieces, enrolled_of}
use Rattle.book_core.proofs.Slots.{All-slice_get}
use Rattle.book_core.proofs.Slotted.{All-flat_at}
use Rattle.book_core.proofs.Taking.{take_cases}
use Rattle.book_core.proofs.Turns.{turn_at}
use Rattle.book_core.proofs.Attempts.{AreCellsCounted, AreCounted, IsCounted, MayBeWorked, IsFreshBelow, IsPiece, IsPieceMost, IsBatch, IsCellBelow, IsCellFailed, IsCellMost, IsCellWorked, cells_onward, set_counted, fresh_counted, residual_counted, more_counted, piece_back, batch_back, given_counted, waits_counted, keyed_counted, pending_counted}

-- ---- jobs that aren't of a source

no_source_group : (found : Option Node) → unwrap_or (option_map (λ (n : Node). is_group_kind n.kind) found) false ≡ true
    → unwrap_or (option_map (λ (n : Node). is_source_kind n.kind) found) false ≡ false
no_source_group None e = refl
no_source_group (Some node) e = by node.kind e
  where
    by : (kind : NodeKind) → is_group_kind kind ≡ true → is_source_kind kind ≡ false
    by (Group trigger) k = refl
    by (Source work args files estimator) k = absurd (cc)
    by (ParDo work args) k = refl
    by (WindowInto strategy) k = refl
    by Flatten k = refl
    by (Stateful work args log) k = refl
    by (Write label) k = refl

no_source_timers : (found : Option Node) (timers : List (Option ℤ)) → AreTimersIn found timers → unwrap_or (option_map (λ (n : Node). is_source_kind n.kind) found) false ≡ false
no_source_timers None timers h = refl
no_source_timers (Some node) timers h = by node.kind h
  where
    by : (kind : NodeKind) → AreTimersAt kind timers → is_source_kind kind ≡ false
    by (Source work args files estimator) k = absurd k
    by (ParDo work args) k = absurd k
    by (WindowInto strategy) k = absurd k
    by Flatten k = absurd k
    by (Group trigger) k = absurd k
    by (Stateful work args logged) k = refl
    by (Write label) k = absurd k

-- ---- a fail

rises_call : (calls reads : ℕ) → calls ≤ greatest_count → calls + reads ≤ raised calls + reads
rises_call calls reads h = omega arith

rises_read : (calls reads : ℕ) → reads ≤ greatest_count → calls + reads ≤ calls + raised reads
rises_read calls reads h = omega arith

tried_call : (attempts calls reads : ℕ) → attempts ≤ calls + reads → attempts < 1000 → attempts + 1 ≤ raised calls + reads
tried_call attempts calls reads h few = omega arith

tried_read : (attempts calls reads : ℕ) → attempts ≤ calls + reads → attempts < 1000 → attempts + 1 ≤ calls + raised reads
tried_read attempts calls reads h few = omega arith

-- with the note that stops the run where the job is given up
record IsFailedTo (spent : Bool) (y : SeenBook) (note : FaultNote) : Type 0 where
  counts : AreCounted y.options.attempts (y.calls + y.reads) ((spent ≡ false) × IsRunning y) y.pending y.returned y.slots
  cells : AreCellsCounted y.options.attempts (y.calls + y.reads) ((spent ≡ false) × IsRunning y) y.keys
  noted : spent ≡ true → IsStopNoted y (Some (stop.Spent note))
  stop : IsStopNoted y y.stopped
  calls : y.calls ≤ greatest_count
  reads : y.reads ≤ greatest_count

stop_is_noted : (y : SeenBook) (old : Option StopCause) (note : FaultNote) → IsStopNoted y old → IsStopNoted y (Some (stop.Spent note)) → IsStopNoted y (or_stopped old (stop.Spent note))
stop_is_noted y (Some cause) note h e = h
stop_is_noted y None note h e = e

never_none : (old : Option StopCause) (cause : StopCause) → or_stopped old cause ≡ None → ⊥
never_none (Some kept) cause e = absurd (cc)
never_none None cause e = absurd (cc)

finish_counted : (spent : Bool) (y : SeenBook) (note : FaultNote) → IsFailedTo spent y note → IsCounted (stopped_where spent y note)
finish_counted true y note h = record {
  counts = more_counted y.options.attempts (y.calls + y.reads) ((true ≡ false) × IsRunning y) y.pending y.returned y.slots h.counts (y.calls + y.reads) (or_stopped y.stopped (stop.Spent note) ≡ None)
      (omega arith) (λ none. absurd (never_none y.stopped (stop.Spent note) none));
  cells = cells_onward y.options.attempts (y.calls + y.reads) ((true ≡ false) × IsRunning y) y.keys h.cells
      (y.calls + y.reads) (or_stopped y.stopped (stop.Spent note) ≡ None) (omega arith) (λ none. absurd (never_none y.stopped (stop.Spent note) none));
  stop = stop_is_noted y y.stopped note h.stop (h.noted refl);
  calls = h.calls;
  reads = h.reads;
}
finish_counted false y note h = record {
  counts = more_counted y.options.attempts (y.calls + y.reads) ((false ≡ false) × IsRunning y) y.pending y.returned y.slots h.counts (y.calls + y.reads) (IsRunning y)
      (omega arith) (λ runs. (refl, runs));
  cells = cells_onward y.options.attempts (y.calls + y.reads) ((false ≡ false) × IsRunning y) y.keys h.cells
      (y.calls + y.reads) (IsRunning y) (omega arith) (λ runs. (refl, runs));
  stop = h.stop;
  calls = h.calls;
  reads = h.reads;
}

-- of attempts and their limit
below_again : (limit attempts : ℕ) → nat_le limit (attempts + 1) ≡ false → attempts + 1 < limit
below_again limit attempts e = grind (arith, nat_tests)

just_spent : (limit attempts : ℕ) → attempts < limit → nat_le limit (attempts + 1) ≡ true → attempts + 1 ≡ limit
just_spent limit attempts less e = grind (arith, nat_tests)

module _ (b : SeenBook) (slot at : ℕ) (sane : IsSane b) (h : IsCounted b) where
  abbrev most_tried : ℕ
  most_tried = b.options.attempts

  abbrev so_far : ℕ
  so_far = b.calls + b.reads

  -- the slot is free again, and more failed
  freed : (more : ℕ) (runs : Type 0) → so_far ≤ more → (runs → IsRunning b) → AreCounted most_tried more runs b.pending b.returned (slice_set b.slots slot None)
  freed more runs rise still =
      set_counted most_tried more runs b.pending b.returned b.slots
      (more_counted most_tried so_far (IsRunning b) b.pending b.returned b.slots h.counts more runs rise still) slot None
      (All-nil (IsPiece most_tried more runs)) (All-nil (IsBatch most_tried more runs))

  span_back : (piece : Piece) (attempted : Option ℕ) → IsWorking b slot (live.Span piece attempted) → (spent : Bool) → is_at_limit b (live.Span piece attempted) ≡ spent
      → (more : ℕ) → so_far ≤ more → piece.attempts < most_tried
      → AreCounted most_tried more ((spent ≡ false) × IsRunning b) (with_piece (tried_piece piece) b.pending) b.returned (slice_set b.slots slot None)
  span_back piece attempted works spent ends more rise below =
      piece_back most_tried more ((spent ≡ false) × IsRunning b) b.pending b.returned (slice_set b.slots slot None)
      (freed more ((spent ≡ false) × IsRunning b) rise (λ r. r.1)) (tried_piece piece)
      (λ r. below_again most_tried piece.attempts (ends ∙ r.0)) (omega (arith, below))

  batch_given : (batch : Batch) → IsWorking b slot (live.Batch batch) → (spent : Bool) → is_at_limit b (live.Batch batch) ≡ spent
      → (more : ℕ) → so_far ≤ more → batch.attempts < most_tried → batch.attempts + 1 ≤ more
      → AreCounted most_tried more ((spent ≡ false) × IsRunning b) b.pending (b.returned ++ tried_batch batch ∷ []) (slice_set b.slots slot None)
  batch_given batch works spent ends more rise below tried =
      batch_back most_tried more ((spent ≡ false) × IsRunning b) b.pending b.returned (slice_set b.slots slot None)
      (freed more ((spent ≡ false) × IsRunning b) rise (λ r. r.1)) (tried_batch batch)
      (λ r. below_again most_tried batch.attempts (ends ∙ r.0)) (omega (arith, below), tried)

  worked_piece : (piece : Piece) (attempted : Option ℕ) → IsWorking b slot (live.Span piece attempted) → IsFreshBelow most_tried piece
  worked_piece piece attempted works =
      All-head (IsPiece most_tried so_far (IsRunning b)) piece []
      (All-flat_at piece_of b.slots slot (IsPiece most_tried so_far (IsRunning b)) (Some (live.Span piece attempted)) works h.counts.worked_pieces)

  worked_batch : (batch : Batch) → IsWorking b slot (live.Batch batch) → MayBeWorked most_tried so_far batch.attempts
  worked_batch batch works =
      All-head (IsBatch most_tried so_far (IsRunning b)) batch []
      (All-flat_at batch_of b.slots slot (IsBatch most_tried so_far (IsRunning b)) (Some (live.Batch batch)) works h.counts.worked_batches)

  -- a fail of another job leaves key cells
  stays : (spent : Bool) (more : ℕ) → so_far ≤ more → AreCellsCounted most_tried more ((spent ≡ false) × IsRunning b) b.keys
  stays spent more rise = cells_onward most_tried so_far (IsRunning b) b.keys h.cells more ((spent ≡ false) × IsRunning b) rise (λ r. r.1)

  -- the attempts of a key job are those of its cell
  turn_tries : (turn : KeyTurn) → IsTurnOf b.keys turn → (cell : KeyCell) → slice_get b.keys turn.cell ≡ Some cell → turn.attempts ≡ cell.attempts
  turn_tries turn own cell e = let same : own.cell ≡ cell = let is = own.is_at in cc in ap (λ (t : KeyTurn). t.attempts) own.is ∙ ap (λ (c : KeyCell). c.attempts) same

  worked_turn : (turn : KeyTurn) → IsTurnOf b.keys turn → MayBeWorked most_tried so_far turn.attempts
  worked_turn turn own =
      let below = All-slice_get (IsCellWorked most_tried) b.keys turn.cell own.cell own.is_at h.cells.worked (ap is_some own.works) in
      let failed = All-slice_get (IsCellFailed so_far) b.keys turn.cell own.cell own.is_at h.cells.failed in
      let same = turn_tries turn own own.cell own.is_at in
      (omega (arith, below, same), omega (arith, failed, same))

  turn_back : (turn : KeyTurn) → IsTurnOf b.keys turn → (spent : Bool) → is_at_limit b (live.Key turn) ≡ spent
      → (more : ℕ) → so_far ≤ more → turn.attempts < most_tried → turn.attempts + 1 ≤ more
      → AreCellsCounted most_tried more ((spent ≡ false) × IsRunning b) (change tried turn.cell b.keys)
  turn_back turn own spent ends more rise below once_more =
      let stay = stays spent more rise in
      record {
        worked = change_each (IsCellWorked most_tried) tried turn.cell b.keys (λ cell e k works. absurd (cc)) stay.worked;
        below = λ r. change_each (IsCellBelow most_tried) tried turn.cell b.keys
            (λ cell e k. omega (arith, below_again most_tried turn.attempts (ends ∙ r.0), turn_tries turn own cell e)) (stay.below r);
        most = change_each (IsCellMost most_tried) tried turn.cell b.keys (λ cell e k. omega (arith, below, turn_tries turn own cell e)) stay.most;
        failed = change_each (IsCellFailed more) tried turn.cell b.keys (λ cell e k. omega (arith, once_more, turn_tries turn own cell e)) stay.failed;
      }

  few_tries : (attempts : ℕ) → MayBeWorked most_tried so_far attempts → attempts < 1000
  few_tries attempts may = let limits = sane.formed.allowed.attempts.1 in omega (arith, may.0, limits)

  -- at the limit exactly where the run ends, since the range isn't broken
  ends_is : (job : Live) (cause : Cause) → is_broken b job cause ≡ false → ends_run b job cause ≡ is_at_limit b job
  ends_is job cause e = by (is_at_limit b job) (may_break b.plan job cause) e
    where
      by : (limit may : Bool) → (limit && may) ≡ false → (limit && not may) ≡ limit
      by true true e = absurd (cc)
      by true false e = refl
      by false may e = refl

  -- no call on a range ends a run that sets positions aside
  never_call : (piece : Piece) (attempted : Option ℕ) → is_broken b (live.Span piece attempted) Call ≡ false → (spent : Bool) → is_at_limit b (live.Span piece attempted) ≡ spent → spent ≡ true
      → sets_aside b.plan ≡ true → ⊥
  never_call piece attempted unbroken spent ends e aside = by (is_at_limit b (live.Span piece attempted)) (sets_aside b.plan) unbroken (ends ∙ e) aside
    where
      by : (limit may : Bool) → (limit && may) ≡ false → limit ≡ true → may ≡ true → ⊥
      by true true u e a = absurd (cc)
      by true false u e a = absurd (cc)
      by false may u e a = absurd (cc)

  batch_no_source : (batch : Batch) → IsWorking b slot (live.Batch batch) → has_kind is_source_kind b.plan batch.node ≡ false
  batch_no_source batch works = no_source_group (slice_get b.plan.nodes batch.node) (batch_at_group b slot batch sane.held sane.panes.at_groups works)

  turn_no_source : (turn : KeyTurn) → IsTurnOf b.keys turn → has_kind is_source_kind b.plan turn.node ≡ false
  turn_no_source turn own =
      let kept = All-slice_get (IsCellSane b.plan b.commits) b.keys turn.cell own.cell own.is_at sane.keys.each in
      subst (λ (n : ℕ). has_kind is_source_kind b.plan n ≡ false) (sym (ap (λ (t : KeyTurn). t.node) own.is))
      (no_source_timers (slice_get b.plan.nodes own.cell.log.node) own.cell.kept.timers kept.timers)

  failed_to : (job : Live) (cause : Cause) → IsWorking b slot job → IsFresh job → is_broken b job cause ≡ false → (spent : Bool) → is_at_limit b job ≡ spent
      → IsFailedTo spent (counted (given_back (with_slot b slot None) job at cause) cause) (note_of job at cause)
  failed_to (live.Span piece attempted) Call works fresh unbroken spent ends =
      let may = worked_piece piece attempted works fresh in
      record {
        counts = span_back piece attempted works spent ends (raised b.calls + b.reads) (rises_call b.calls b.reads h.calls) may;
        cells = stays spent (raised b.calls + b.reads) (rises_call b.calls b.reads h.calls);
        stop = h.stop;
        noted = λ e. (just_spent most_tried piece.attempts may (ends ∙ e), λ aside. absurd (never_call piece attempted unbroken spent ends e aside));
        calls = omega arith;
        reads = h.reads;
      }
  failed_to (live.Span piece attempted) Read works fresh unbroken spent ends =
      let may = worked_piece piece attempted works fresh in
      record {
        counts = span_back piece attempted works spent ends (b.calls + raised b.reads) (rises_read b.calls b.reads h.reads) may;
        cells = stays spent (b.calls + raised b.reads) (rises_read b.calls b.reads h.reads);
        stop = h.stop;
        noted = λ e. (just_spent most_tried piece.attempts may (ends ∙ e), λ aside. inl refl);
        calls = h.calls;
        reads = omega arith;
      }
  failed_to (live.Batch batch) Call works fresh unbroken spent ends =
      let may = worked_batch batch works in
      record {
        counts = batch_given batch works spent ends (raised b.calls + b.reads) (rises_call b.calls b.reads h.calls) may.0 (tried_call batch.attempts b.calls b.reads may.1 (few_tries batch.attempts may));
        cells = stays spent (raised b.calls + b.reads) (rises_call b.calls b.reads h.calls);
        stop = h.stop;
        noted = λ e. (just_spent most_tried batch.attempts may.0 (ends ∙ e), λ aside. inr (batch_no_source batch works));
        calls = omega arith;
        reads = h.reads;
      }
  failed_to (live.Batch batch) Read works fresh unbroken spent ends =
      let may = worked_batch batch works in
      record {
        counts = batch_given batch works spent ends (b.calls + raised b.reads) (rises_read b.calls b.reads h.reads) may.0 (tried_read batch.attempts b.calls b.reads may.1 (few_tries batch.attempts may));
        cells = stays spent (b.calls + raised b.reads) (rises_read b.calls b.reads h.reads);
        stop = h.stop;
        noted = λ e. (just_spent most_tried batch.attempts may.0 (ends ∙ e), λ aside. inl refl);
        calls = h.calls;
        reads = omega arith;
      }
  failed_to (live.Key turn) Call works fresh unbroken spent ends =
      let own = turn_at b slot turn sane.turns works in
      let may = worked_turn turn own in
      record {
        counts = freed (raised b.calls + b.reads) ((spent ≡ false) × IsRunning b) (rises_call b.calls b.reads h.calls) (λ r. r.1);
        cells = turn_back turn own spent ends (raised b.calls + b.reads) (rises_call b.calls b.reads h.calls) may.0
            (tried_call turn.attempts b.calls b.reads may.1 (few_tries turn.attempts may));
        stop = h.stop;
        noted = λ e. (just_spent most_tried turn.attempts may.0 (ends ∙ e), λ aside. inr (turn_no_source turn own));
        calls = omega arith;
        reads = h.reads;
      }
  failed_to (live.Key turn) Read works fresh unbroken spent ends =
      let own = turn_at b slot turn sane.turns works in
      let may = worked_turn turn own in
      record {
        counts = freed (b.calls + raised b.reads) ((spent ≡ false) × IsRunning b) (rises_read b.calls b.reads h.reads) (λ r. r.1);
        cells = turn_back turn own spent ends (b.calls + raised b.reads) (rises_read b.calls b.reads h.reads) may.0
            (tried_read turn.attempts b.calls b.reads may.1 (few_tries turn.attempts may));
        stop = h.stop;
        noted = λ e. (just_spent most_tried turn.attempts may.0 (ends ∙ e), λ aside. inl refl);
        calls = h.calls;
        reads = omega arith;
      }

  -- a range is broken
  broken_counted : (piece : Piece) (attempted : Option ℕ) → piece.spent ≡ None → IsWorking b slot (live.Span piece attempted)
      → IsCounted (broken b slot piece attempted (note_of (live.Span piece attempted) at Call))
  broken_counted piece attempted fresh works =
      let may = worked_piece piece attempted works fresh in
      let more = raised b.calls + b.reads in
      let rise = rises_call b.calls b.reads h.calls in
      let note = note_of (live.Span piece attempted) at Call in
      let parts = broken_parts piece attempted note in
      let base = freed more (IsRunning b) rise (λ r. r) in
      record {
        counts = record {
          worked_pieces = base.worked_pieces;
          worked_batches = base.worked_batches;
          pending_below = λ runs. All-with_pieces (IsFreshBelow most_tried) parts b.pending
              (broken_all (IsFreshBelow most_tried) piece attempted note (λ from to low high untried. sane.formed.allowed.attempts.0) (λ one spent. absurd (cc))) (base.pending_below runs);
          returned_below = base.returned_below;
          pending_most = All-with_pieces (IsPieceMost most_tried more (IsRunning b)) parts b.pending
              (broken_all (IsPieceMost most_tried more (IsRunning b)) piece attempted note (λ from to low high. omega arith) (λ one. omega (arith, may))) base.pending_most;
          returned_most = base.returned_most;
        };
        cells = cells_onward most_tried so_far (IsRunning b) b.keys h.cells more (IsRunning b) rise (λ r. r);
        stop = h.stop;
        calls = omega arith;
        reads = h.reads;
      }

-- ---- each step

residual_untried : (piece : Piece) (attempted : Option ℕ) (receipt : Receipt)
    → All (λ (p : Piece). p.attempts ≡ 0) (elim (residual_of piece attempted receipt) [ None ↦ [] | Some piece ↦ piece ∷ [] ])
residual_untried piece attempted receipt = by (nat_lt (worked_to piece attempted) piece.range.to)
  where
    by : (t : Bool) → All (λ (p : Piece). p.attempts ≡ 0) (elim (cond t (Some (record piece { range = record { from = worked_to piece attempted; to = piece.range.to }; seen = receipt.seen; attempts = 0 })) None) [ None ↦ [] | Some piece ↦ piece ∷ [] ])
    by true = All-cons (λ (p : Piece). p.attempts ≡ 0) _ [] refl (All-nil (λ (p : Piece). p.attempts ≡ 0))
    by false = All-nil (λ (p : Piece). p.attempts ≡ 0)

commit_counted : (limit total : ℕ) (running : Type 0) (pending : List Piece) (returned : List Batch) (slots : List (Option Live)) (slot : ℕ) (job : Live) (receipt : Receipt)
    → 1 ≤ limit → AreCounted limit total running pending returned slots → AreCounted limit total running (pending_after pending job receipt) returned (slice_set slots slot None)
commit_counted limit total running pending returned slots slot (live.Span piece attempted) receipt some h = by piece.spent
  where
    by : (spent : Option FaultNote) → AreCounted limit total running (pending_with spent piece attempted receipt pending) returned (slice_set slots slot None)
    by None =
        residual_counted limit total running pending returned (slice_set slots slot None)
        (set_counted limit total running pending returned slots h slot None (All-nil (IsPiece limit total running)) (All-nil (IsBatch limit total running)))
        (residual_of piece attempted receipt) (residual_untried piece attempted receipt) some
    by (Some note) = set_counted limit total running pending returned slots h slot None (All-nil (IsPiece limit total running)) (All-nil (IsBatch limit total running))
commit_counted limit total running pending returned slots slot (live.Batch batch) receipt some h =
    set_counted limit total running pending returned slots h slot None (All-nil (IsPiece limit total running)) (All-nil (IsBatch limit total running))
commit_counted limit total running pending returned slots slot (live.Key turn) receipt some h =
    set_counted limit total running pending returned slots h slot None (All-nil (IsPiece limit total running)) (All-nil (IsBatch limit total running))

-- a cell whose job is done has all its attempts again, and so has a new one
commit_cells : (limit total : ℕ) (running : Type 0) (plan : Plan) (before : List StageMarks) (done : Option Done) (arrivals : List Arrival) (keys : List KeyCell) → 1 ≤ limit
    → AreCellsCounted limit total running keys → AreCellsCounted limit total running (place plan before done arrivals keys)
commit_cells limit total running plan before done arrivals keys some h = record {
  worked = place_each (IsCellWorked limit) plan before (λ cell waiting k. k) (λ arrival works. omega (arith, some)) (λ done cell k works. omega (arith, some)) done arrivals keys h.worked;
  below = λ runs. place_each (IsCellBelow limit) plan before (λ cell waiting k. k) (λ arrival. omega (arith, some)) (λ done cell k. omega (arith, some)) done arrivals keys (h.below runs);
  most = place_each (IsCellMost limit) plan before (λ cell waiting k. k) (λ arrival. omega arith) (λ done cell k. omega arith) done arrivals keys h.most;
  failed = place_each (IsCellFailed total) plan before (λ cell waiting k. k) (λ arrival. omega arith) (λ done cell k. omega arith) done arrivals keys h.failed;
}

-- first pieces were never tried
abbrev IsUntried : Piece → Type 0
IsUntried piece = piece.attempts ≡ 0

opening_counted : (b first : SeenBook) → IsOpening b.plan b.files b.options first → IsCounted first
opening_counted b first opening =
    let some = opening.allowed.attempts.0 in
    let untried = all_pieces IsUntried (λ node item chunk len i. refl) b.options.chunk b.files [] (All-nil IsUntried) in
    subst IsCounted (sym opening.is) (record {
      counts = record {
        worked_pieces = All-nil (IsFreshBelow b.options.attempts);
        worked_batches = All-nil (λ batch. MayBeWorked b.options.attempts (0 + 0) batch.attempts);
        pending_below = λ runs. All-weaker IsUntried (IsFreshBelow b.options.attempts) (λ piece e fresh. omega (arith, e, some)) (pieces_of b.options.chunk b.files) untried;
        returned_below = λ runs. All-nil (λ batch. batch.attempts < b.options.attempts);
        pending_most = All-weaker IsUntried (λ piece. piece.attempts ≤ b.options.attempts) (λ piece e. omega (arith, e)) (pieces_of b.options.chunk b.files) untried;
        returned_most = All-nil (λ batch. (batch.attempts ≤ b.options.attempts) × (batch.attempts ≤ 0 + 0));
      };
      cells = record {
        worked = All-nil (IsCellWorked b.options.attempts);
        below = λ runs. All-nil (IsCellBelow b.options.attempts);
        most = All-nil (IsCellMost b.options.attempts);
        failed = All-nil (IsCellFailed (0 + 0));
      };
      stop = tt;
      calls = omega arith;
      reads = omega arith;
    })

stop_no_memory : (y : SeenBook) (old : Option StopCause) → IsStopNoted y old → IsStopNoted y (or_stopped old stop.NoMemory)
stop_no_memory y (Some cause) h = h
stop_no_memory y None h = tt

pub keeps_counted : (told : Option (List FileText)) → Keeps told IsSane IsCounted
keeps_counted told = record {
  opens = opening_counted;
  enrolls = λ b known h within. record {
    counts = record {
      worked_pieces = subst (All (IsFreshBelow b.options.attempts)) (sym (enrolled_of piece_of b.slots refl)) h.counts.worked_pieces;
      worked_batches = subst (All (λ batch. MayBeWorked b.options.attempts (b.calls + b.reads) batch.attempts)) (sym (enrolled_of batch_of b.slots refl)) h.counts.worked_batches;
      pending_below = h.counts.pending_below;
      returned_below = h.counts.returned_below;
      pending_most = h.counts.pending_most;
      returned_most = h.counts.returned_most;
    };
    cells = h.cells;
    stop = h.stop;
    calls = h.calls;
    reads = h.reads;
  };
  takes = λ b slot next known h running free is within.
      take_cases b (λ (n : Next). IsCounted (with_slot n.rest slot (Some n.job)))
      (given_counted b slot known.formed h running) (waits_counted b slot known.formed h running) (keyed_counted b slot known.formed h running) (pending_counted b slot known.formed h running) next is;
  claims = λ b slot p piece attempted known h works may. record {
    counts = set_counted b.options.attempts (b.calls + b.reads) (IsRunning b) b.pending b.returned b.slots h.counts slot (Some (live.Span piece (Some p)))
        (All-cons (IsPiece b.options.attempts (b.calls + b.reads) (IsRunning b)) piece [] (worked_piece b slot 0 known h piece attempted works.works) (All-nil (IsPiece b.options.attempts (b.calls + b.reads) (IsRunning b))))
        (All-nil (IsBatch b.options.attempts (b.calls + b.reads) (IsRunning b)));
    cells = h.cells;
    stop = h.stop;
    calls = h.calls;
    reads = h.reads;
  };
  splits = λ b slot at piece attempted known h works inside behind within. record {
    counts =
        let front = cut_to piece (record { from = piece.range.from; to = at }) in
        fresh_counted b.options.attempts (b.calls + b.reads) (IsRunning b) b.pending b.returned (slice_set b.slots slot (Some (live.Span front attempted)))
        (set_counted b.options.attempts (b.calls + b.reads) (IsRunning b) b.pending b.returned b.slots h.counts slot (Some (live.Span front attempted))
        (All-cons (IsPiece b.options.attempts (b.calls + b.reads) (IsRunning b)) front [] (worked_piece b slot 0 known h piece attempted works) (All-nil (IsPiece b.options.attempts (b.calls + b.reads) (IsRunning b))))
        (All-nil (IsBatch b.options.attempts (b.calls + b.reads) (IsRunning b))))
        (rest_of piece (record { from = at; to = piece.range.to })) refl known.formed.allowed.attempts.0;
    cells = h.cells;
    stop = h.stop;
    calls = h.calls;
    reads = h.reads;
  };
  commits = λ b slot job receipt cells fired marks known h made. record {
    counts = commit_counted b.options.attempts (b.calls + b.reads) (IsRunning b) b.pending b.returned b.slots slot job receipt known.formed.allowed.attempts.0 h.counts;
    cells = commit_cells b.options.attempts (b.calls + b.reads) (IsRunning b) b.plan (last_marks b) (key_done (length b.commits) job receipt.logged)
        receipt.arrivals b.keys known.formed.allowed.attempts.0 h.cells;
    stop = h.stop;
    calls = h.calls;
    reads = h.reads;
  };
  fails = λ b slot at job cause known h works fresh unbroken.
      finish_counted (ends_run b job cause) (counted (given_back (with_slot b slot None) job at cause) cause) (note_of job at cause)
      (failed_to b slot at known h job cause works fresh unbroken (ends_run b job cause) (sym (ends_is b slot at known h job cause unbroken)));
  breaks = λ b slot at piece attempted known h works fresh is. broken_counted b slot at known h piece attempted fresh works;
  stops = λ b known h. record {
    counts = more_counted b.options.attempts (b.calls + b.reads) (IsRunning b) b.pending b.returned b.slots h.counts (b.calls + b.reads) (or_stopped b.stopped stop.NoMemory ≡ None)
        (omega arith) (λ none. absurd (never_none b.stopped stop.NoMemory none));
    cells = cells_onward b.options.attempts (b.calls + b.reads) (IsRunning b) b.keys h.cells
        (b.calls + b.reads) (or_stopped b.stopped stop.NoMemory ≡ None) (omega arith) (λ none. absurd (never_none b.stopped stop.NoMemory none));
    stop = stop_no_memory b b.stopped h.stop;
    calls = h.calls;
    reads = h.reads;
  };
}
