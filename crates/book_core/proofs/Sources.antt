-- The six kinds of change that a step makes to the source side of a book. Facts of ranges are proved kind by kind, and never step by step.
use Rattle.std.proofs.Common.{◌≡◌, ℕ, ◌+◌, ◌<◌, ◌≤◌, Bool, true, false, cond, List, [], ◌∷◌, ◌++◌, length, refl, sym, ap, subst, ◌∙◌, length-append, arith}
use Rattle.std.specs.Prelude.{nat_lt, slice_get, ℤ, Option, Some, None}
use Rattle.std.specs.List.{All}
use Rattle.std.specs.Ordering.{is_lt}
use Rattle.std.proofs.lemmas.List.Elements.{All-nil, All-cons, All-head, All-tail}
use Rattle.beam_values.specs.Tracking.{first_unattempted}
use Rattle.beam_values.specs.declared.cell.Cell.{Cell}
use Rattle.beam_values.specs.declared.cell.Pane.{Pane}
use Rattle.beam_values.specs.declared.fault.Cause.{Cause}
use Rattle.beam_values.specs.declared.fault.Cause.TheVariants.{Call, Read}
use Rattle.beam_values.specs.declared.fault.FaultNote.{FaultNote}
use Rattle.beam_values.specs.declared.file_text.FileText.{FileText}
use Rattle.beam_values.specs.declared.marks.StageMarks.{StageMarks}
use Rattle.beam_values.specs.declared.outcome.StopCause.{StopCause}
use Rattle.beam_values.specs.declared.outcome.StopCause.TheVariants as stop
use Rattle.beam_values.specs.declared.piece.Dead.{Dead}
use Rattle.beam_values.specs.declared.piece.Done.{Done}
use Rattle.beam_values.specs.declared.piece.Piece.{Piece}
use Rattle.beam_ports.specs.Counts.{greatest_count, raised}
use Rattle.bundle_commit.specs.declared.job.Receipt.{Receipt}
use Rattle.split_core.specs.Order.{with_pieces}
use Rattle.book_core.specs.Book.{SeenBook, live_pieces, piece_of, sets_aside}
use Rattle.book_core.specs.Changes.{broken_parts, committed, counted, cut_to, dead_cmp, dead_of, dead_with, done_of, done_with, ends_run, failed_where, given_back, is_broken, note_of, or_stopped, pending_with, residual_of, rest_of, spent_piece, split_off, stopped_where, tried_piece, with_dead, with_done, with_residual, with_slot}
use Rattle.book_core.specs.Facts.{IsAttemptedWithin, IsBelowLimit}
use Rattle.book_core.specs.Jobs.{Next, next_job, with_key}
use Rattle.book_core.specs.Steps.{Action, Enroll, Take, Claim, Split, Commit, Fail, Stop, Answer, Enrolled, TakenJob, Nothing, Finished, Stopped, Claimed, SplitAt, Committed, Noted, NoMemory, IsFresh, IsWorking, Step}
use Rattle.book_core.specs.Work.{worked_to}
use Rattle.book_core.specs.declared.live.Live.{Live}
use Rattle.book_core.specs.declared.live.Live.TheVariants as live
use Rattle.book_core.proofs.Broken.{broken_all, broken_is, never_batch, never_key, never_read}
use Rattle.book_core.proofs.PieceMoves.{Moves, all_pieces, freed_pieces, claimed_pieces, enrolled_pieces, moved_all, same_pieces, out_all, set_pieces, taken_pieces}
use Rattle.book_core.proofs.Slots.{All-slice_get}
use Rattle.book_core.proofs.Slotted.{All-flat_at}
use Rattle.book_core.proofs.Taking.{take_cases}

pub data Kind : Type 0 where
  Stays : Kind
  -- a live range is split there
  Splits : Piece → ℕ → Kind
  -- what was worked of a range is done; this was seen
  Does : Piece → Option ℕ → ℤ → Kind
  -- the position of a spent piece is dead
  Buries : Piece → FaultNote → Kind
  -- a range is given back
  Tries : Piece → Kind
  Breaks : Piece → Option ℕ → FaultNote → Kind

abbrev pub residual_piece : Piece → Option ℕ → ℤ → Piece
residual_piece piece attempted seen = record piece { range = record { from = worked_to piece attempted; to = piece.range.to }; seen = seen; attempts = 0 }

abbrev pub residual_pieces : Piece → Option ℕ → ℤ → List Piece
residual_pieces piece attempted seen = cond (nat_lt (worked_to piece attempted) piece.range.to) (residual_piece piece attempted seen ∷ []) []

-- the pieces that go out, and those that come in
abbrev pub out_of : Kind → List Piece
out_of Stays = []
out_of (Splits piece at) = piece ∷ []
out_of (Does piece attempted seen) = piece ∷ []
out_of (Buries piece note) = piece ∷ []
out_of (Tries piece) = piece ∷ []
out_of (Breaks piece attempted note) = piece ∷ []

abbrev pub into_of : Kind → List Piece
into_of Stays = []
into_of (Splits piece at) = rest_of piece (record { from = at; to = piece.range.to }) ∷ cut_to piece (record { from = piece.range.from; to = at }) ∷ []
into_of (Does piece attempted seen) = residual_pieces piece attempted seen
into_of (Buries piece note) = []
into_of (Tries piece) = tried_piece piece ∷ []
into_of (Breaks piece attempted note) = broken_parts piece attempted note

-- the done ranges and the dead positions afterwards
abbrev pub done_by : Kind → List Done → List Done
done_by (Does piece attempted seen) done = with_done (done_of piece attempted) done
done_by _ done = done

abbrev pub dead_by : Kind → List Dead → List Dead
dead_by (Buries piece note) dead = with_dead (dead_of piece note) dead
dead_by _ dead = dead

-- how many fails are counted at least, and commits
abbrev pub fails_by : Kind → ℕ
fails_by (Tries piece) = 1
fails_by (Breaks piece attempted note) = 1
fails_by _ = 0

abbrev pub commits_by : Kind → ℕ
commits_by (Buries piece note) = 1
commits_by _ = 0

-- what is known of a range that is broken
pub record IsBreaking (b : SeenBook) (slot : ℕ) (action : Action) (piece : Piece) (attempted : Option ℕ) (note : FaultNote) : Type 0 where
  pub fresh : piece.spent ≡ None
  pub within : IsAttemptedWithin (Some (live.Span piece attempted))
  pub below : piece.attempts < b.options.attempts
  pub limit : b.options.attempts ≤ piece.attempts + 1
  pub aside : sets_aside b.plan ≡ true
  pub cause : note.cause ≡ Call
  pub attempt : note.attempt ≡ piece.attempts + 1
  pub works : IsWorking b slot (live.Span piece attempted)
  pub asked : action ≡ Fail note.at Call

abbrev pub IsAllowed : SeenBook → ℕ → Action → Kind → Type 0
IsAllowed b slot action Stays = Unit {0}
IsAllowed b slot action (Splits piece at) = (piece.spent ≡ None) × (piece.range.from ≤ at) × (at < piece.range.to)
IsAllowed b slot action (Does piece attempted seen) = (piece.spent ≡ None) × IsAttemptedWithin (Some (live.Span piece attempted))
IsAllowed b slot action (Buries piece note) = piece.spent ≡ Some note
IsAllowed b slot action (Tries piece) = (piece.spent ≡ None) × (piece.attempts < b.options.attempts)
IsAllowed b slot action (Breaks piece attempted note) = IsBreaking b slot action piece attempted note

-- So many fails more are counted: what was no more than the fails so far, and is below the end of a count, is with these no more than the fails afterwards.
abbrev pub AreFailsCounted : SeenBook → SeenBook → ℕ → Type 0
AreFailsCounted b new fails = (n : ℕ) → n ≤ b.calls + b.reads → n < greatest_count → n + fails ≤ new.calls + new.reads

pub record SourceStep (b : SeenBook) (slot : ℕ) (action : Action) (new : SeenBook) : Type 0 where
  pub kind : Kind
  pub allowed : IsAllowed b slot action kind
  pub moves : Moves (all_pieces b) (all_pieces new) (out_of kind) (into_of kind)
  pub done : new.done ≡ done_by kind b.done
  pub dead : new.dead ≡ dead_by kind b.dead
  pub plan : new.plan ≡ b.plan
  pub files : new.files ≡ b.files
  pub options : new.options ≡ b.options
  pub fails : AreFailsCounted b new (fails_by kind)
  pub commits : length b.commits + commits_by kind ≤ length new.commits

-- what has to be known of the live ranges
pub record AreLiveSound (b : SeenBook) : Type 0 where
  pub attempted : All IsAttemptedWithin b.slots
  pub below : All (λ piece. piece.spent ≡ None → IsBelowLimit b piece.attempts) (live_pieces b)

-- ---- facts of the pieces and of the dead positions

module _ (b : SeenBook) (slot : ℕ) (action : Action) where
  residual_all : (P : Piece → Type 0) (piece : Piece) (attempted : Option ℕ) (seen : ℤ) → P (residual_piece piece attempted seen) → All P (residual_pieces piece attempted seen)
  residual_all P piece attempted seen one = by (nat_lt (worked_to piece attempted) piece.range.to)
    where
      by : (t : Bool) → All P (cond t (residual_piece piece attempted seen ∷ []) [])
      by true = All-cons P (residual_piece piece attempted seen) [] one (All-nil P)
      by false = All-nil P

  -- what comes in isn't spent, but for the only position of a range that is broken
  into_all : (P : Piece → Type 0) → ((piece : Piece) → piece.spent ≡ None → P piece)
      → ((piece : Piece) (attempted : Option ℕ) (note : FaultNote) → IsBreaking b slot action piece attempted note → piece.range.to ≡ piece.range.from + 1 → P (spent_piece piece note))
      → (kind : Kind) → IsAllowed b slot action kind → All P (into_of kind)
  into_all P fresh spent Stays allowed = All-nil P
  into_all P fresh spent (Splits piece at) allowed =
      let rest = rest_of piece (record { from = at; to = piece.range.to }) in
      let front = cut_to piece (record { from = piece.range.from; to = at }) in
      All-cons P rest (front ∷ []) (fresh rest allowed.0) (All-cons P front [] (fresh front allowed.0) (All-nil P))
  into_all P fresh spent (Does piece attempted seen) allowed = residual_all P piece attempted seen (fresh (residual_piece piece attempted seen) allowed.0)
  into_all P fresh spent (Buries piece note) allowed = All-nil P
  into_all P fresh spent (Tries piece) allowed = All-cons P (tried_piece piece) [] (fresh (tried_piece piece) allowed.0) (All-nil P)
  into_all P fresh spent (Breaks piece attempted note) allowed =
      broken_all P piece attempted note (λ from to low high. fresh (rest_of piece (record { from = from; to = to })) allowed.fresh) (spent piece attempted note allowed)

  pub pieces_kept : (new : SeenBook) → SourceStep b slot action new → (P : Piece → Type 0) → ((piece : Piece) → piece.spent ≡ None → P piece)
      → ((piece : Piece) (attempted : Option ℕ) (note : FaultNote) → IsBreaking b slot action piece attempted note → piece.range.to ≡ piece.range.from + 1 → P (spent_piece piece note))
      → All P (all_pieces b) → All P (all_pieces new)
  pieces_kept new s P fresh spent h = moved_all (all_pieces b) (all_pieces new) (out_of s.kind) (into_of s.kind) s.moves P h (into_all P fresh spent s.kind s.allowed)

  with_dead_all : (P : Dead → Type 0) (d : Dead) (dead : List Dead) → P d → All P dead → All P (with_dead d dead)
  with_dead_all P d [] one h = All-cons P d [] one h
  with_dead_all P d (e ∷ dead) one h = by (is_lt (dead_cmp e d)) (with_dead_all P d dead one (All-tail P e dead h))
    where
      by : (t : Bool) → All P (with_dead d dead) → All P (cond t (e ∷ with_dead d dead) (d ∷ e ∷ dead))
      by true more = All-cons P e (with_dead d dead) (All-head P e dead h) more
      by false more = All-cons P d (e ∷ dead) one h

  dead_all : (P : Dead → Type 0) (Q : Piece → Type 0) → ((piece : Piece) (note : FaultNote) → piece.spent ≡ Some note → Q piece → P (dead_of piece note))
      → (kind : Kind) → IsAllowed b slot action kind → All Q (out_of kind) → (dead : List Dead) → All P dead → All P (dead_by kind dead)
  dead_all P Q buried (Buries piece note) allowed h dead k = with_dead_all P (dead_of piece note) dead (buried piece note allowed (All-head Q piece [] h)) k
  dead_all P Q buried _ allowed h dead k = k

  -- the position of a spent piece may be dead afterwards
  pub dead_kept : (new : SeenBook) → SourceStep b slot action new → (P : Dead → Type 0) (Q : Piece → Type 0)
      → ((piece : Piece) (note : FaultNote) → piece.spent ≡ Some note → Q piece → P (dead_of piece note)) → All Q (all_pieces b) → All P b.dead → All P new.dead
  dead_kept new s P Q buried h k =
      subst (All P) (sym s.dead)
      (dead_all P Q buried s.kind s.allowed (out_all (all_pieces b) (all_pieces new) (out_of s.kind) (into_of s.kind) s.moves Q h) b.dead k)

-- ---- the steps

-- counts of fails, after one more
more_calls : (b : SeenBook) (n : ℕ) → n ≤ b.calls + b.reads → n < greatest_count → n + 1 ≤ raised b.calls + b.reads
more_calls b n h few = omega (arith, h, few)

more_reads : (b : SeenBook) (n : ℕ) → n ≤ b.calls + b.reads → n < greatest_count → n + 1 ≤ b.calls + raised b.reads
more_reads b n h few = omega (arith, h, few)

module _ (b : SeenBook) (slot : ℕ) (action : Action) where
  -- the source side stays as it is
  stays_source : (new : SeenBook) → Moves (all_pieces b) (all_pieces new) [] [] → new.done ≡ b.done → new.dead ≡ b.dead → new.plan ≡ b.plan → new.files ≡ b.files
      → new.options ≡ b.options → AreFailsCounted b new 0 → length b.commits ≤ length new.commits → SourceStep b slot action new
  stays_source new moves done dead plan files options fails commits = record {
    kind = Stays;
    allowed = tt;
    moves = moves;
    done = done;
    dead = dead;
    plan = plan;
    files = files;
    options = options;
    fails = fails;
    commits = omega (arith, commits);
  }

  none_failed : AreFailsCounted b b 0
  none_failed n h few = omega (arith, h)

  same_source : (new : SeenBook) → new ≡ b → SourceStep b slot action new
  same_source new e =
      subst (SourceStep b slot action) (sym e) (stays_source b (same_pieces (all_pieces b)) refl refl refl refl refl none_failed (omega arith))

  stop_source : (stopped : Option StopCause) → SourceStep b slot action (record b { stopped = stopped })
  stop_source stopped =
      stays_source (record b { stopped = stopped }) (same_pieces (all_pieces b)) refl refl refl refl refl none_failed (omega arith)

  enroll_source : SourceStep b slot action (record b { slots = b.slots ++ None ∷ [] })
  enroll_source = stays_source (record b { slots = b.slots ++ None ∷ [] }) (enrolled_pieces b.pending b.slots) refl refl refl refl refl none_failed (omega arith)

  -- a slot takes a job, or leaves one, that isn't a range
  no_pieces : (old new : Option Live) → slice_get b.slots slot ≡ Some old → piece_of old ≡ [] → piece_of new ≡ [] → Moves (all_pieces b) (all_pieces (with_slot b slot new)) [] []
  no_pieces old new at none free =
      subst (λ (l : List Piece). Moves (all_pieces b) (all_pieces (with_slot b slot new)) l []) none
      (subst (Moves (all_pieces b) (all_pieces (with_slot b slot new)) (piece_of old)) free (set_pieces b.pending [] b.slots slot old at new))

  take_source : (next : Next) → slice_get b.slots slot ≡ Some None → next_job b ≡ Some next → SourceStep b slot action (with_slot next.rest slot (Some next.job))
  take_source next free is =
      take_cases b (λ (n : Next). SourceStep b slot action (with_slot n.rest slot (Some n.job)))
      (λ batch among. stays_source _ (no_pieces None (Some (live.Batch batch)) free refl refl) refl refl refl refl refl none_failed (omega arith))
      (λ batch oldest. stays_source _ (no_pieces None (Some (live.Batch batch)) free refl refl) refl refl refl refl refl none_failed (omega arith))
      (λ place cell found. stays_source _ (no_pieces None (Some (with_key b place.at cell).job) free refl refl) refl refl refl refl refl none_failed (omega arith))
      (λ piece later e. stays_source (with_slot (record b { pending = later }) slot (Some (live.Span piece None))) (taken_pieces b.pending later piece b.slots slot e free)
      refl refl refl refl refl none_failed (omega arith))
      next is

  claim_source : (piece : Piece) (attempted new : Option ℕ) → IsWorking b slot (live.Span piece attempted) → SourceStep b slot action (with_slot b slot (Some (live.Span piece new)))
  claim_source piece attempted new works =
      stays_source (with_slot b slot (Some (live.Span piece new))) (claimed_pieces b.pending b.slots slot piece attempted new works) refl refl refl refl refl none_failed (omega arith)

  split_source : (at : ℕ) (piece : Piece) (attempted : Option ℕ) → IsWorking b slot (live.Span piece attempted) → piece.spent ≡ None → piece.range.from ≤ at → at < piece.range.to
      → SourceStep b slot action (split_off b slot piece attempted at)
  split_source at piece attempted works fresh low high = record {
    kind = Splits piece at;
    allowed = (fresh, low, high);
    moves = set_pieces b.pending (rest_of piece (record { from = at; to = piece.range.to }) ∷ []) b.slots slot (Some (live.Span piece attempted)) works
        (Some (live.Span (cut_to piece (record { from = piece.range.from; to = at })) attempted));
    done = refl;
    dead = refl;
    plan = refl;
    files = refl;
    options = refl;
    fails = none_failed;
    commits = omega arith;
  }

  -- ---- commits

  residual_same : (piece : Piece) (attempted : Option ℕ) (receipt : Receipt) (pending : List Piece)
      → with_pieces (residual_pieces piece attempted receipt.seen) pending ≡ with_residual (residual_of piece attempted receipt) pending
  residual_same piece attempted receipt pending = by (nat_lt (worked_to piece attempted) piece.range.to)
    where
      by : (t : Bool) → with_pieces (cond t (residual_piece piece attempted receipt.seen ∷ []) []) pending
          ≡ with_residual (cond t (Some (residual_piece piece attempted receipt.seen)) None) pending
      by true = refl
      by false = refl

  module _ (receipt : Receipt) (cells : List Cell) (fired : List Pane) (marks : List StageMarks) where
    abbrev after : Live → SeenBook
    after job = committed b slot job receipt cells fired marks

    one_more : (job : Live) → length (after job).commits ≡ length b.commits + 1
    one_more job = length-append b.commits (_ ∷ [])

    span_source : (piece : Piece) (attempted : Option ℕ) → IsWorking b slot (live.Span piece attempted) → IsAttemptedWithin (Some (live.Span piece attempted))
        → (spent : Option FaultNote) → piece.spent ≡ spent → SourceStep b slot action (after (live.Span piece attempted))
    span_source piece attempted works within None e = record {
      kind = Does piece attempted receipt.seen;
      allowed = (e, within);
      moves = subst (λ (l : List Piece). Moves (all_pieces b) (l ++ live_pieces (with_slot b slot None)) (piece ∷ []) (residual_pieces piece attempted receipt.seen))
          (residual_same piece attempted receipt b.pending ∙ sym (ap (λ s. pending_with s piece attempted receipt b.pending) e))
          (freed_pieces b.pending (residual_pieces piece attempted receipt.seen) b.slots slot (Some (live.Span piece attempted)) works);
      done = ap (λ s. done_with s piece attempted b.done) e;
      dead = ap (λ s. dead_with s piece b.dead) e;
      plan = refl;
      files = refl;
      options = refl;
      fails = none_failed;
      commits = omega (arith, one_more (live.Span piece attempted));
    }
    span_source piece attempted works within (Some note) e = record {
      kind = Buries piece note;
      allowed = e;
      moves = subst (λ (l : List Piece). Moves (all_pieces b) (l ++ live_pieces (with_slot b slot None)) (piece ∷ []) [])
          (sym (ap (λ s. pending_with s piece attempted receipt b.pending) e))
          (freed_pieces b.pending [] b.slots slot (Some (live.Span piece attempted)) works);
      done = ap (λ s. done_with s piece attempted b.done) e;
      dead = ap (λ s. dead_with s piece b.dead) e;
      plan = refl;
      files = refl;
      options = refl;
      fails = none_failed;
      commits = omega (arith, one_more (live.Span piece attempted));
    }

    commit_source : (job : Live) → IsWorking b slot job → AreLiveSound b → SourceStep b slot action (after job)
    commit_source (live.Span piece attempted) works h =
        span_source piece attempted works (All-slice_get IsAttemptedWithin b.slots slot (Some (live.Span piece attempted)) works h.attempted) piece.spent refl
    commit_source (live.Batch batch) works h =
        stays_source (after (live.Batch batch)) (no_pieces (Some (live.Batch batch)) None works refl refl) refl refl refl refl refl none_failed (omega (arith, one_more (live.Batch batch)))
    commit_source (live.Key turn) works h =
        stays_source (after (live.Key turn)) (no_pieces (Some (live.Key turn)) None works refl refl) refl refl refl refl refl none_failed (omega (arith, one_more (live.Key turn)))

-- ---- fails

module _ (b : SeenBook) (slot at : ℕ) where
  abbrev asked : Cause → Action
  asked cause = Fail at cause

  stopped_source : (cause : Cause) (x : SeenBook) (note : FaultNote) (ends : Bool) → SourceStep b slot (asked cause) x → SourceStep b slot (asked cause) (stopped_where ends x note)
  stopped_source cause x note true s = record {
    kind = s.kind;
    allowed = s.allowed;
    moves = s.moves;
    done = s.done;
    dead = s.dead;
    plan = s.plan;
    files = s.files;
    options = s.options;
    fails = s.fails;
    commits = s.commits;
  }
  stopped_source cause x note false s = s

  live_below : (piece : Piece) (attempted : Option ℕ) → IsWorking b slot (live.Span piece attempted) → piece.spent ≡ None → AreLiveSound b → piece.attempts < b.options.attempts
  live_below piece attempted works fresh h =
      All-head (λ (p : Piece). p.spent ≡ None → IsBelowLimit b p.attempts) piece []
      (All-flat_at piece_of b.slots slot (λ (p : Piece). p.spent ≡ None → IsBelowLimit b p.attempts) (Some (live.Span piece attempted)) works h.below) fresh

  -- the job is given back, and one more failed
  back_source : (action : Action) (job : Live) → IsWorking b slot job → IsFresh job → AreLiveSound b → (calls reads : ℕ)
      → ((n : ℕ) → n ≤ b.calls + b.reads → n < greatest_count → n + 1 ≤ calls + reads)
      → SourceStep b slot action (record (given_back (with_slot b slot None) job at Call) { calls = calls; reads = reads })
  back_source action (live.Span piece attempted) works fresh h calls reads more = record {
    kind = Tries piece;
    allowed = (fresh, live_below piece attempted works fresh h);
    moves = freed_pieces b.pending (tried_piece piece ∷ []) b.slots slot (Some (live.Span piece attempted)) works;
    done = refl;
    dead = refl;
    plan = refl;
    files = refl;
    options = refl;
    fails = more;
    commits = omega arith;
  }
  back_source action (live.Batch batch) works fresh h calls reads more =
      stays_source b slot action (record (given_back (with_slot b slot None) (live.Batch batch) at Call) { calls = calls; reads = reads })
      (no_pieces b slot action (Some (live.Batch batch)) None works refl refl) refl refl refl refl refl (λ n k few. omega (arith, more n k few)) (omega arith)
  back_source action (live.Key turn) works fresh h calls reads more =
      stays_source b slot action (record (given_back (with_slot b slot None) (live.Key turn) at Call) { calls = calls; reads = reads })
      (no_pieces b slot action (Some (live.Key turn)) None works refl refl) refl refl refl refl refl (λ n k few. omega (arith, more n k few)) (omega arith)

  tries_source : (job : Live) (cause : Cause) → IsWorking b slot job → IsFresh job → AreLiveSound b
      → SourceStep b slot (asked cause) (counted (given_back (with_slot b slot None) job at cause) cause)
  tries_source (live.Span piece attempted) Call works fresh h = back_source (asked Call) (live.Span piece attempted) works fresh h (raised b.calls) b.reads (more_calls b)
  tries_source (live.Span piece attempted) Read works fresh h = back_source (asked Read) (live.Span piece attempted) works fresh h b.calls (raised b.reads) (more_reads b)
  tries_source (live.Batch batch) Call works fresh h = back_source (asked Call) (live.Batch batch) works fresh h (raised b.calls) b.reads (more_calls b)
  tries_source (live.Batch batch) Read works fresh h = back_source (asked Read) (live.Batch batch) works fresh h b.calls (raised b.reads) (more_reads b)
  tries_source (live.Key turn) Call works fresh h = back_source (asked Call) (live.Key turn) works fresh h (raised b.calls) b.reads (more_calls b)
  tries_source (live.Key turn) Read works fresh h = back_source (asked Read) (live.Key turn) works fresh h b.calls (raised b.reads) (more_reads b)

  fail_source : (job : Live) (cause : Cause) (t : Bool) → is_broken b job cause ≡ t → IsWorking b slot job → IsFresh job → AreLiveSound b
      → SourceStep b slot (asked cause) (failed_where t b slot job at cause)
  fail_source job cause false e works fresh h =
      stopped_source cause (counted (given_back (with_slot b slot None) job at cause) cause) (note_of job at cause) (ends_run b job cause) (tries_source job cause works fresh h)
  fail_source (live.Span piece attempted) Call true e works fresh h =
      let is = broken_is b piece attempted e in
      let note = note_of (live.Span piece attempted) at Call in
      record {
        kind = Breaks piece attempted note;
        allowed = record {
          fresh = fresh;
          within = All-slice_get IsAttemptedWithin b.slots slot (Some (live.Span piece attempted)) works h.attempted;
          below = live_below piece attempted works fresh h;
          limit = is.0;
          aside = is.1;
          cause = refl;
          attempt = refl;
          works = works;
          asked = refl;
        };
        moves = freed_pieces b.pending (broken_parts piece attempted note) b.slots slot (Some (live.Span piece attempted)) works;
        done = refl;
        dead = refl;
        plan = refl;
        files = refl;
        options = refl;
        fails = more_calls b;
        commits = omega arith;
      }
  fail_source (live.Span piece attempted) Read true e works fresh h = absurd (never_read b piece attempted e)
  fail_source (live.Batch batch) cause true e works fresh h = absurd (never_batch b batch cause e)
  fail_source (live.Key turn) cause true e works fresh h = absurd (never_key b turn cause e)

-- ---- every step

pub start_below : (piece : Piece) (attempted : Option ℕ) → IsAttemptedWithin (Some (live.Span piece attempted)) → piece.range.from ≤ first_unattempted piece.range.from attempted
start_below piece None h = omega arith
start_below piece (Some p) h = omega (arith, h)

pub source_step : (told : Option (List FileText)) (b new : SeenBook) (slot : ℕ) (action : Action) (answer : Answer) → Step told b slot action answer new → AreLiveSound b
    → SourceStep b slot action new
source_step told b new slot Enroll (Enrolled number) step h = subst (SourceStep b slot Enroll) (sym step.2) (enroll_source b slot Enroll)
source_step told b new slot Enroll NoMemory step h = same_source b slot Enroll new step
source_step told b new slot Take (TakenJob job) step h = subst (SourceStep b slot Take) (sym step.is) (take_source b slot Take step.next step.free step.is_next)
source_step told b new slot Take Nothing step h = same_source b slot Take new step.4
source_step told b new slot Take Finished step h = same_source b slot Take new step.4
source_step told b new slot Take Stopped step h = same_source b slot Take new step.2
source_step told b new slot Take NoMemory step h = same_source b slot Take new step.1
source_step told b new slot (Claim p) (Claimed granted) step h =
    subst (SourceStep b slot (Claim p)) (sym step.is) (claim_source b slot (Claim p) step.piece step.attempted (Some p) step.works.works)
source_step told b new slot (Split num den) (SplitAt (Some at)) step h =
    let works = step.0.works.works in
    let start = start_below step.0.piece step.0.attempted (All-slice_get IsAttemptedWithin b.slots slot (Some (live.Span step.0.piece step.0.attempted)) works h.attempted) in
    let point = step.0.point in
    subst (SourceStep b slot (Split num den)) (sym step.0.is)
    (split_source b slot (Split num den) at step.0.piece step.0.attempted works step.0.works.fresh (omega (arith, start, point)) step.0.inside)
source_step told b new slot (Split num den) (SplitAt None) step h = same_source b slot (Split num den) new step.1
source_step told b new slot (Split num den) NoMemory step h = same_source b slot (Split num den) new step
source_step told b new slot Commit Committed step h =
    let made = step.1.commit in
    subst (SourceStep b slot Commit) (sym made.is) (commit_source b slot Commit step.0 made.cells made.fired made.marks step.1.job step.1.works h)
source_step told b new slot Commit NoMemory step h = same_source b slot Commit new step.1
source_step told b new slot (Fail at cause) answer step h =
    subst (SourceStep b slot (Fail at cause)) (sym step.is) (fail_source b slot at step.job cause (is_broken b step.job cause) refl step.works.works step.works.fresh h)
source_step told b new slot Stop Noted step h = subst (SourceStep b slot Stop) (sym step) (stop_source b slot Stop (or_stopped b.stopped stop.NoMemory))
source_step told b new slot _ _ step h = absurd step
