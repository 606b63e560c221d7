-- Each offset lies in one pending, live or done range, or is dead: every kind of change keeps it.
use Rattle.std.proofs.Common.{◌≡◌, inl, inr, ℕ, ◌+◌, ◌<◌, ◌≤◌, Bool, true, false, cond, ℤ, List, [], ◌∷◌, ◌++◌, refl, sym, ap, subst, add-zero, arith}
use Rattle.std.specs.Prelude.{nat_lt, fold, slice_set, Option, Some, None}
use Rattle.std.specs.List.{All, sum_by}
use Rattle.std.proofs.lemmas.Bool.{cases_lt}
use Rattle.std.proofs.lemmas.Bool.Decides.{nat_tests}
use Rattle.std.proofs.lemmas.List.Elements.{All-nil, All-set, All-append, All-cons, All-head}
use Rattle.std.proofs.lemmas.List.Sums.{sum_by-cons, sum_by-append}
use Rattle.beam_values.specs.Cover.{Place, single, times_at, times_dead, times_done, times_listed, times_pending, whole}
use Rattle.beam_values.specs.declared.fault.Cause.{Cause}
use Rattle.beam_values.specs.declared.fault.Cause.TheVariants.{Call, Read}
use Rattle.beam_values.specs.declared.fault.FaultNote.{FaultNote}
use Rattle.beam_values.specs.declared.file_text.FileText.{FileText}
use Rattle.beam_values.specs.declared.piece.Dead.{Dead}
use Rattle.beam_values.specs.declared.piece.FileLen.{FileLen}
use Rattle.beam_values.specs.declared.piece.Piece.{Piece}
use Rattle.split_core.specs.Order.{with_pieces, first_pieces}
use Rattle.split_core.proofs.Chunks.{first_times}
use Rattle.book_core.specs.Book.{SeenBook}
use Rattle.book_core.specs.Changes.{blamed, broken_parts, counted, cut_around, cut_to, dead_of, done_of, ends_run, given_back, note_of, part_of, rest_of, spent_piece, stopped_where, tried_piece, with_slot}
use Rattle.book_core.specs.Facts.{AreSpentWell, ArePartitioned, IsAttemptedWithin}
use Rattle.book_core.specs.Jobs.{Next}
use Rattle.book_core.specs.Runs.{IsOpening, pieces_of}
use Rattle.book_core.specs.Steps.{Action}
use Rattle.book_core.specs.Work.{worked_to}
use Rattle.book_core.specs.declared.live.Live.{Live}
use Rattle.book_core.specs.declared.live.Live.TheVariants as live
use Rattle.book_core.proofs.Broken.{blamed_below, blamed_from}
use Rattle.book_core.proofs.Cases.{Anything, Keeps}
use Rattle.book_core.proofs.PieceMoves.{all_pieces, out_all}
use Rattle.book_core.proofs.SetAside.{IsAside, one_more_dead, was_spent}
use Rattle.book_core.proofs.Slots.{All-slice_get}
use Rattle.book_core.proofs.Slotted.{one_weighs}
use Rattle.book_core.proofs.Sources.{IsAllowed, Kind, Stays, Splits, Does, Buries, Tries, Breaks, SourceStep, dead_by, done_by, into_of, out_of, residual_piece, residual_pieces, start_below}
use Rattle.book_core.proofs.Taking.{take_cases}
use Rattle.book_core.proofs.Weighing.{cut_weighs, empty_weighs, piece_at, with_done_weighs, with_pieces_weigh}

-- ---- the parts of a range that is broken

module _ (place : Place) (piece : Piece) where
  abbrev from_to : ℕ → ℕ → ℕ
  from_to from to = times_at piece.node piece.item (record { from = from; to = to }) place

  part_weighs : (from to : ℕ) → sum_by (piece_at place) (part_of piece from to) ≡ from_to from to
  part_weighs from to = by (nat_lt from to) refl
    where
      by : (t : Bool) → nat_lt from to ≡ t → sum_by (piece_at place) (cond t (rest_of piece (record { from = from; to = to }) ∷ []) []) ≡ from_to from to
      by true e = one_weighs (piece_at place) (rest_of piece (record { from = from; to = to }))
      by false e = sym (empty_weighs piece.node piece.item from to place (grind (arith, nat_tests)))

  around_weighs : (q : ℕ) → piece.range.from ≤ q → q < piece.range.to → sum_by (piece_at place) (cut_around piece q) ≡ piece_at place piece
  around_weighs q low high =
      omega (
        arith,
        sum_by-append (piece_at place) (part_of piece piece.range.from q) (part_of piece q (q + 1) ++ part_of piece (q + 1) piece.range.to),
        sum_by-append (piece_at place) (part_of piece q (q + 1)) (part_of piece (q + 1) piece.range.to),
        part_weighs piece.range.from q,
        part_weighs q (q + 1),
        part_weighs (q + 1) piece.range.to,
        cut_weighs piece.node piece.item piece.range.from q piece.range.to place low (omega (arith, high)),
        cut_weighs piece.node piece.item q (q + 1) piece.range.to place (omega arith) (omega (arith, high)),
      )

  module _ (attempted : Option ℕ) (within : IsAttemptedWithin (Some (live.Span piece attempted))) where
    broken_weighs : (note : FaultNote) → sum_by (piece_at place) (broken_parts piece attempted note) ≡ piece_at place piece
    broken_weighs note = by (nat_lt (piece.range.from + 1) piece.range.to) refl
      where
        by_offset : (inside : Bool) → sum_by (piece_at place) (cond inside (spent_piece piece note ∷ []) (rest_of piece piece.range ∷ [])) ≡ piece_at place piece
        by_offset true = one_weighs (piece_at place) (spent_piece piece note)
        by_offset false = one_weighs (piece_at place) (rest_of piece piece.range)

        by : (long : Bool) → nat_lt (piece.range.from + 1) piece.range.to ≡ long
            → sum_by (piece_at place) (cond long (cut_around piece (blamed piece attempted)) (cond (nat_lt piece.range.from piece.range.to) (spent_piece piece note ∷ []) (rest_of piece piece.range ∷ [])))
            ≡ piece_at place piece
        by true e =
            let some : piece.range.from < piece.range.to = grind (arith, nat_tests) in
            around_weighs (blamed piece attempted) (blamed_from piece attempted within some) (blamed_below piece attempted some)
        by false e = by_offset (nat_lt piece.range.from piece.range.to)

    -- ---- what is done of a range, and what is left

    residual_weighs : (seen : ℤ) → sum_by (piece_at place) (residual_pieces piece attempted seen) ≡ from_to (worked_to piece attempted) piece.range.to
    residual_weighs seen = by (nat_lt (worked_to piece attempted) piece.range.to) refl
      where
        by : (t : Bool) → nat_lt (worked_to piece attempted) piece.range.to ≡ t
            → sum_by (piece_at place) (cond t (residual_piece piece attempted seen ∷ []) []) ≡ from_to (worked_to piece attempted) piece.range.to
        by true e = one_weighs (piece_at place) (residual_piece piece attempted seen)
        by false e = sym (empty_weighs piece.node piece.item (worked_to piece attempted) piece.range.to place (grind (arith, nat_tests)))

    done_and_left : from_to piece.range.from (worked_to piece attempted) + from_to (worked_to piece attempted) piece.range.to ≡ piece_at place piece
    done_and_left =
        let start = start_below piece attempted within in
        elim (cases_lt piece.range.from piece.range.to) [
          | inl some ↦ sym (cut_weighs piece.node piece.item piece.range.from (worked_to piece attempted) piece.range.to place (omega arith) (omega arith))
          | inr none ↦
              omega (
                arith,
                empty_weighs piece.node piece.item piece.range.from (worked_to piece attempted) place (omega arith),
                empty_weighs piece.node piece.item (worked_to piece attempted) piece.range.to place (omega arith),
                empty_weighs piece.node piece.item piece.range.from piece.range.to place (omega arith),
              )
        ]

-- ---- every kind

abbrev dead_at : Place → Dead → ℕ
dead_at place d = times_at d.node d.item (single d.at) place

kind_weighs : (b : SeenBook) (slot : ℕ) (action : Action) (kind : Kind) → IsAllowed b slot action kind → All (IsAside b.options.attempts) (out_of kind) → (place : Place)
    → sum_by (piece_at place) (into_of kind) + times_done (done_by kind b.done) place + times_dead (dead_by kind b.dead) place
    ≡ sum_by (piece_at place) (out_of kind) + times_done b.done place + times_dead b.dead place
kind_weighs b slot action Stays allowed h place = omega arith
kind_weighs b slot action (Splits piece at) allowed h place =
    let rest = rest_of piece (record { from = at; to = piece.range.to }) in
    let front = cut_to piece (record { from = piece.range.from; to = at }) in
    omega (
      arith,
      sum_by-cons (piece_at place) rest (front ∷ []),
      one_weighs (piece_at place) front,
      one_weighs (piece_at place) piece,
      cut_weighs piece.node piece.item piece.range.from at piece.range.to place allowed.1 (omega (arith, allowed.2)),
    )
kind_weighs b slot action (Does piece attempted seen) allowed h place =
    omega (
      arith,
      residual_weighs place piece attempted allowed.1 seen,
      with_done_weighs place (done_of piece attempted) b.done,
      done_and_left place piece attempted allowed.1,
      one_weighs (piece_at place) piece,
    )
kind_weighs b slot action (Buries piece note) allowed h place =
    let one = (was_spent b.options.attempts piece piece.spent note allowed (All-head (IsAside b.options.attempts) piece [] h)).one in
    let same : from_to place piece piece.range.from (piece.range.from + 1) ≡ piece_at place piece = ap (from_to place piece piece.range.from) (sym one) in
    omega (arith, one_more_dead (dead_at place) (dead_of piece note) b.dead, same, one_weighs (piece_at place) piece)
kind_weighs b slot action (Tries piece) allowed h place = omega (arith, one_weighs (piece_at place) (tried_piece piece), one_weighs (piece_at place) piece)
kind_weighs b slot action (Breaks piece attempted note) allowed h place =
    omega (arith, broken_weighs place piece attempted allowed.within note, one_weighs (piece_at place) piece)

pub partition_kept : (b : SeenBook) (slot : ℕ) (action : Action) (new : SeenBook) → SourceStep b slot action new → AreSpentWell b → ArePartitioned b → ArePartitioned new
partition_kept b slot action new s aside h = record {
  times = λ place. omega (
    arith,
    h.times place,
    s.moves.weighs (piece_at place),
    ap (λ l. times_done l place) s.done,
    ap (λ l. times_dead l place) s.dead,
    kind_weighs b slot action s.kind s.allowed (out_all (all_pieces b) (all_pieces new) (out_of s.kind) (into_of s.kind) s.moves (IsAside b.options.attempts) aside.pieces) place,
    ap (λ l. times_listed l place) s.files,
  );
}

-- ---- the opening

pieces_weigh : (place : Place) (chunk : ℕ) (files : List FileLen) (pending : List Piece) → 1 ≤ chunk
    → times_pending (fold (λ pieces file. with_pieces (first_pieces file.node file.item file.len chunk) pieces) pending files) place
    ≡ times_pending pending place + times_listed files place
pieces_weigh place chunk [] pending some = sym (add-zero (times_pending pending place))
pieces_weigh place chunk (file ∷ files) pending some =
    omega (
      arith,
      pieces_weigh place chunk files (with_pieces (first_pieces file.node file.item file.len chunk) pending) some,
      with_pieces_weigh place (first_pieces file.node file.item file.len chunk) pending,
      first_times file.node file.item chunk file.len place some,
      sum_by-cons (λ f. times_at f.node f.item (whole f.len) place) file files,
    )

pub opening_partitioned : (b first : SeenBook) → IsOpening b.plan b.files b.options first → ArePartitioned first
opening_partitioned b first opening = subst ArePartitioned (sym opening.is) (record {
  times = λ place. omega (
    arith,
    pieces_weigh place b.options.chunk b.files [] opening.allowed.chunk.0,
    sum_by-append (piece_at place) (pieces_of b.options.chunk b.files) [],
  );
})

-- ---- live ranges were attempted within

abbrev AreWithin : List (Option Live) → Type 0
AreWithin slots = All IsAttemptedWithin slots

set_within : (slots : List (Option Live)) (slot : ℕ) (new : Option Live) → AreWithin slots → IsAttemptedWithin new → AreWithin (slice_set slots slot new)
set_within slots slot new h one = All-set IsAttemptedWithin slots slot new one h

same_attempt : (piece : Piece) (attempted : Option ℕ) (to : ℕ) → IsAttemptedWithin (Some (live.Span piece attempted))
    → IsAttemptedWithin (Some (live.Span (cut_to piece (record { from = piece.range.from; to = to })) attempted))
same_attempt piece None to h = tt
same_attempt piece (Some p) to h = h

back_within : (x : SeenBook) (job : Live) (at : ℕ) (cause : Cause) → AreWithin x.slots → AreWithin (given_back x job at cause).slots
back_within x (live.Span piece attempted) at cause h = h
back_within x (live.Batch batch) at cause h = h
back_within x (live.Key turn) at cause h = h

counted_within : (x : SeenBook) (cause : Cause) → AreWithin x.slots → AreWithin (counted x cause).slots
counted_within x Call h = h
counted_within x Read h = h

stopped_within : (ends : Bool) (x : SeenBook) (note : FaultNote) → AreWithin x.slots → AreWithin (stopped_where ends x note).slots
stopped_within true x note h = h
stopped_within false x note h = h

pub keeps_within : (told : Option (List FileText)) → Keeps told Anything (λ b. All IsAttemptedWithin b.slots)
keeps_within told = record {
  opens = λ b first opening. subst (λ (x : SeenBook). AreWithin x.slots) (sym opening.is) (All-nil IsAttemptedWithin);
  enrolls = λ b known h within. All-append IsAttemptedWithin b.slots (None ∷ []) h (All-cons IsAttemptedWithin None [] tt (All-nil IsAttemptedWithin));
  takes = λ b slot next known h running free is within.
      take_cases b (λ (n : Next). AreWithin (slice_set n.rest.slots slot (Some n.job)))
      (λ batch among. set_within b.slots slot (Some (live.Batch batch)) h tt)
      (λ batch oldest. set_within b.slots slot (Some (live.Batch batch)) h tt)
      (λ place cell found. set_within b.slots slot _ h tt)
      (λ piece later e. set_within b.slots slot (Some (live.Span piece None)) h tt) next is;
  claims = λ b slot p piece attempted known h works may. set_within b.slots slot (Some (live.Span piece (Some p))) h (may.from_start, works.fresh);
  splits = λ b slot at piece attempted known h works inside behind within.
      set_within b.slots slot _ h (same_attempt piece attempted at (All-slice_get IsAttemptedWithin b.slots slot (Some (live.Span piece attempted)) works h));
  commits = λ b slot job receipt cells fired marks known h made. set_within b.slots slot None h tt;
  fails = λ b slot at job cause known h works fresh whole.
      let free = with_slot b slot None in
      let back = given_back free job at cause in
      stopped_within (ends_run b job cause) (counted back cause) (note_of job at cause)
      (counted_within back cause (back_within free job at cause (set_within b.slots slot None h tt)));
  breaks = λ b slot at piece attempted known h works fresh breaks. set_within b.slots slot None h tt;
  stops = λ b known h. h;
}
