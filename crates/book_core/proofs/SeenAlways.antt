-- From the opening on, where the files are told, what was seen before each piece is known.
use Rattle.std.proofs.Common.{◌≡◌, ℕ, ◌<◌, ◌≤◌, Bool, true, false, cond, List, [], ◌∷◌, ◌++◌, refl, sym, subst, arith}
use Rattle.std.specs.Prelude.{Option, Some, None, nat_lt, slice_set}
use Rattle.std.specs.List.{All, flat_map}
use Rattle.std.proofs.lemmas.Bool.{ltb-true}
use Rattle.std.proofs.lemmas.List.Elements.{All-nil, All-cons, All-head, All-tail, All-append, All-weaker}
use Rattle.beam_values.specs.Times.{least_time}
use Rattle.beam_values.specs.Tracking.{first_unattempted}
use Rattle.beam_values.specs.declared.fault.Cause.{Cause}
use Rattle.beam_values.specs.declared.fault.Cause.TheVariants.{Call, Read}
use Rattle.beam_values.specs.declared.fault.FaultNote.{FaultNote}
use Rattle.beam_values.specs.declared.file_text.FileText.{FileText}
use Rattle.beam_values.specs.declared.piece.Piece.{Piece}
use Rattle.beam_model.specs.Coverings.{item_at}
use Rattle.beam_model.specs.Positions.{SourceItem, items}
use Rattle.bundle_commit.specs.declared.job.Receipt.{Receipt}
use Rattle.split_core.specs.Order.{with_piece, with_pieces}
use Rattle.split_core.proofs.Ordered.{All-with_piece}
use Rattle.book_core.specs.Book.{SeenBook, piece_of, live_pieces}
use Rattle.book_core.specs.Changes.{with_slot, cut_to, rest_of, split_off, given_back, tried_piece, counted, stopped_where, ends_run, note_of, pending_after, pending_with, residual_of, with_residual, broken, broken_parts, spent_piece}
use Rattle.book_core.specs.Facts.{IsAttemptedWithin, IsSeenOf}
use Rattle.book_core.specs.Jobs.{Next, attempted_of, job_of, with_key}
use Rattle.book_core.specs.Runs.{IsOpening, opened, pieces_of}
use Rattle.book_core.specs.Steps.{IsWorking}
use Rattle.book_core.specs.Work.{IsGiven, IsWorkOnItem, worked_to}
use Rattle.book_core.specs.declared.live.Live.{Live}
use Rattle.book_core.specs.declared.live.Live.TheVariants as live
use Rattle.book_core.proofs.Broken.{All-with_pieces, broken_all}
use Rattle.book_core.proofs.Cases.{Keeps}
use Rattle.book_core.proofs.OpenedPieces.{all_pieces, enrolled_of}
use Rattle.book_core.proofs.SeenBefore.{seen_cut, seen_least, seen_left}
use Rattle.book_core.proofs.Slots.{All-slice_get}
use Rattle.book_core.proofs.Slotted.{All-append_left, All-append_right, All-flat_set, All-flat_at}
use Rattle.book_core.proofs.Taking.{take_cases}

-- ---- live ranges were attempted within

abbrev pub AreWithin : SeenBook → Type 0
AreWithin b = All IsAttemptedWithin b.slots

starts : (piece : Piece) (attempted : Option ℕ) → IsAttemptedWithin (Some (live.Span piece attempted)) → piece.range.from ≤ first_unattempted piece.range.from attempted
starts piece None h = omega arith
starts piece (Some p) h = omega (arith, h)

-- ---- what was seen

module _ (told : List FileText) where
  abbrev found_in : SeenBook → Piece → Option SourceItem
  found_in b piece = item_at (items told b.plan) piece.node piece.item

  abbrev SeenOf : SeenBook → Piece → Type 0
  SeenOf b piece = IsSeenOf b (found_in b piece) piece

  abbrev Seen : SeenBook → Type 0
  Seen b = All (SeenOf b) (b.pending ++ live_pieces b)

  module _ (b : SeenBook) (h : Seen b) where
    pending_seen : All (SeenOf b) b.pending
    pending_seen = All-append_left (SeenOf b) b.pending (live_pieces b) h

    live_seen : All (SeenOf b) (live_pieces b)
    live_seen = All-append_right (SeenOf b) b.pending (live_pieces b) h

    set_seen : (pending : List Piece) (slot : ℕ) (new : Option Live) → All (SeenOf b) pending → All (SeenOf b) (piece_of new) → All (SeenOf b) (pending ++ flat_map piece_of (slice_set b.slots slot new))
    set_seen pending slot new all one = All-append (SeenOf b) pending (flat_map piece_of (slice_set b.slots slot new)) all (All-flat_set piece_of b.slots slot (SeenOf b) new one live_seen)

    one_seen : (piece : Piece) → SeenOf b piece → All (SeenOf b) (piece ∷ [])
    one_seen piece s = All-cons (SeenOf b) piece [] s (All-nil (SeenOf b))

    worked_seen : (slot : ℕ) (piece : Piece) (attempted : Option ℕ) → IsWorking b slot (live.Span piece attempted) → SeenOf b piece
    worked_seen slot piece attempted works = All-head (SeenOf b) piece [] (All-flat_at piece_of b.slots slot (SeenOf b) (Some (live.Span piece attempted)) works live_seen)

    take_pending : (slot : ℕ) (piece : Piece) (later : List Piece) → b.pending ≡ piece ∷ later → All (SeenOf b) (later ++ flat_map piece_of (slice_set b.slots slot (Some (live.Span piece None))))
    take_pending slot piece later e =
        let all = subst (All (SeenOf b)) e pending_seen in
        set_seen later slot (Some (live.Span piece None)) (All-tail (SeenOf b) piece later all) (one_seen piece (All-head (SeenOf b) piece later all))

    split_seen : (slot at : ℕ) (piece : Piece) (attempted : Option ℕ) → AreWithin b → IsWorking b slot (live.Span piece attempted) → first_unattempted piece.range.from attempted ≤ at
        → Seen (split_off b slot piece attempted at)
    split_seen slot at piece attempted within works behind =
        let front = cut_to piece (record { from = piece.range.from; to = at }) in
        let rest = rest_of piece (record { from = at; to = piece.range.to }) in
        let was = worked_seen slot piece attempted works in
        let start = starts piece attempted (All-slice_get IsAttemptedWithin b.slots slot (Some (live.Span piece attempted)) works within) in
        let first : SeenOf b front = seen_cut b (found_in b piece) piece front refl refl (omega arith) was in
        let second : SeenOf b rest = seen_cut b (found_in b piece) piece rest refl refl (omega (arith, start, behind)) was in
        set_seen (with_piece rest b.pending) slot (Some (live.Span front attempted)) (All-with_piece (SeenOf b) rest b.pending second pending_seen) (one_seen front first)

    residual_seen : (slot : ℕ) (piece : Piece) (attempted : Option ℕ) (receipt : Receipt) → AreWithin b → IsWorking b slot (live.Span piece attempted)
        → IsWorkOnItem b.plan piece (worked_to piece attempted) (found_in b piece) receipt → All (SeenOf b) (with_residual (residual_of piece attempted receipt) b.pending)
    residual_seen slot piece attempted receipt within works given = by (nat_lt (worked_to piece attempted) piece.range.to) refl
      where
        above : nat_lt (worked_to piece attempted) piece.range.to ≡ true → piece.range.from ≤ worked_to piece attempted
        above e =
            let start = starts piece attempted (All-slice_get IsAttemptedWithin b.slots slot (Some (live.Span piece attempted)) works within) in
            let less : worked_to piece attempted < piece.range.to = ltb-true (worked_to piece attempted) piece.range.to e in
            omega (arith, start, less)

        by : (t : Bool) → nat_lt (worked_to piece attempted) piece.range.to ≡ t
            → All (SeenOf b) (with_residual (cond t (Some (record piece { range = record { from = worked_to piece attempted; to = piece.range.to }; seen = receipt.seen; attempts = 0 })) None) b.pending)
        by true e =
            All-with_piece (SeenOf b) (record piece { range = record { from = worked_to piece attempted; to = piece.range.to }; seen = receipt.seen; attempts = 0 }) b.pending
            (seen_left b (found_in b piece) piece (worked_to piece attempted) receipt given (above e) (worked_seen slot piece attempted works)) pending_seen
        by false e = pending_seen

    commit_seen : (slot : ℕ) (job : Live) (receipt : Receipt) → AreWithin b → IsWorking b slot job → IsGiven (Some told) b.plan (job_of b.panes job) (attempted_of job) receipt
        → All (SeenOf b) (pending_after b.pending job receipt ++ flat_map piece_of (slice_set b.slots slot None))
    commit_seen slot (live.Span piece attempted) receipt within works given = by piece.spent
      where
        by : (spent : Option FaultNote) → All (SeenOf b) (pending_with spent piece attempted receipt b.pending ++ flat_map piece_of (slice_set b.slots slot None))
        by None = set_seen (with_residual (residual_of piece attempted receipt) b.pending) slot None (residual_seen slot piece attempted receipt within works given.0) (All-nil (SeenOf b))
        by (Some note) = set_seen b.pending slot None pending_seen (All-nil (SeenOf b))
    commit_seen slot (live.Batch batch) receipt within works given = set_seen b.pending slot None pending_seen (All-nil (SeenOf b))
    commit_seen slot (live.Key turn) receipt within works given = set_seen b.pending slot None pending_seen (All-nil (SeenOf b))

    -- what was seen before a range was seen before each of its parts
    broken_seen : (slot : ℕ) (piece : Piece) (attempted : Option ℕ) (note : FaultNote) → AreWithin b → IsWorking b slot (live.Span piece attempted)
        → Seen (broken b slot piece attempted note)
    broken_seen slot piece attempted note within works =
        let was = worked_seen slot piece attempted works in
        let inside = All-slice_get IsAttemptedWithin b.slots slot (Some (live.Span piece attempted)) works within in
        let parts = broken_parts piece attempted note in
        set_seen (with_pieces parts b.pending) slot None
        (All-with_pieces (SeenOf b) parts b.pending
        (broken_all (SeenOf b) piece attempted note
        (λ from to low high. seen_cut b (found_in b piece) piece (rest_of piece (record { from = from; to = to })) refl refl (low inside) was)
        (λ one. seen_cut b (found_in b piece) piece (spent_piece piece note) refl refl (omega arith) was)) pending_seen) (All-nil (SeenOf b))

    back_seen : (slot : ℕ) (job : Live) (at : ℕ) (cause : Cause) → IsWorking b slot job → Seen (counted (given_back (with_slot b slot None) job at cause) cause)
    back_seen slot (live.Span piece attempted) at Call works =
        set_seen (with_piece (tried_piece piece) b.pending) slot None
        (All-with_piece (SeenOf b) (tried_piece piece) b.pending (seen_cut b (found_in b piece) piece (tried_piece piece) refl refl (omega arith) (worked_seen slot piece attempted works)) pending_seen) (All-nil (SeenOf b))
    back_seen slot (live.Span piece attempted) at Read works =
        set_seen (with_piece (tried_piece piece) b.pending) slot None
        (All-with_piece (SeenOf b) (tried_piece piece) b.pending (seen_cut b (found_in b piece) piece (tried_piece piece) refl refl (omega arith) (worked_seen slot piece attempted works)) pending_seen) (All-nil (SeenOf b))
    back_seen slot (live.Batch batch) at Call works = set_seen b.pending slot None pending_seen (All-nil (SeenOf b))
    back_seen slot (live.Batch batch) at Read works = set_seen b.pending slot None pending_seen (All-nil (SeenOf b))
    back_seen slot (live.Key turn) at Call works = set_seen b.pending slot None pending_seen (All-nil (SeenOf b))
    back_seen slot (live.Key turn) at Read works = set_seen b.pending slot None pending_seen (All-nil (SeenOf b))

  stop_seen : (spent : Bool) (x : SeenBook) (note : FaultNote) → Seen x → Seen (stopped_where spent x note)
  stop_seen true x note h = h
  stop_seen false x note h = h

  first_seen : (b first : SeenBook) → IsOpening b.plan b.files b.options first → Seen first
  first_seen b first opening =
      let x = opened b.plan b.files b.options opening.marks in
      subst Seen (sym opening.is)
      (All-append (SeenOf x) x.pending []
      (all_pieces_least x b.options.chunk) (All-nil (SeenOf x)))
    where
      all_pieces_least : (x : SeenBook) (chunk : ℕ) → All (SeenOf x) (pieces_of chunk b.files)
      all_pieces_least x chunk =
          All-weaker (λ (piece : Piece). piece.seen ≡ least_time) (SeenOf x) (λ piece e. seen_least x (found_in x piece) piece e) (pieces_of chunk b.files)
          (all_pieces (λ (piece : Piece). piece.seen ≡ least_time) (λ node item chunk len i. refl) chunk b.files [] (All-nil (λ (piece : Piece). piece.seen ≡ least_time)))

  pub keeps_seen : Keeps (Some told) AreWithin Seen
  keeps_seen = record {
    opens = first_seen;
    enrolls = λ b known h within. subst (λ (l : List Piece). All (SeenOf b) (b.pending ++ l)) (sym (enrolled_of piece_of b.slots refl)) h;
    takes = λ b slot next known h running free is within.
        take_cases b (λ (n : Next). Seen (with_slot n.rest slot (Some n.job)))
        (λ batch among. set_seen b h b.pending slot (Some (live.Batch batch)) (pending_seen b h) (All-nil (SeenOf b)))
        (λ batch oldest. set_seen b h b.pending slot (Some (live.Batch batch)) (pending_seen b h) (All-nil (SeenOf b)))
        (λ place cell found. set_seen b h b.pending slot (Some (with_key b place.at cell).job) (pending_seen b h) (All-nil (SeenOf b)))
        (λ piece later e. take_pending b h slot piece later e) next is;
    claims = λ b slot p piece attempted known h works may.
        set_seen b h b.pending slot (Some (live.Span piece (Some p))) (pending_seen b h) (one_seen b h piece (worked_seen b h slot piece attempted works.works));
    splits = λ b slot at piece attempted known h works inside behind within. split_seen b h slot at piece attempted known works behind;
    commits = λ b slot job receipt cells fired marks known h made. commit_seen b h slot job receipt known made.works made.given;
    fails = λ b slot at job cause known h works fresh unbroken.
        stop_seen (ends_run b job cause) (counted (given_back (with_slot b slot None) job at cause) cause) (note_of job at cause) (back_seen b h slot job at cause works);
    breaks = λ b slot at piece attempted known h works fresh is. broken_seen b h slot piece attempted (note_of (live.Span piece attempted) at Call) known works;
    stops = λ b known h. h;
  }
