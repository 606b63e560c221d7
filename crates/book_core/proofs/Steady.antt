-- Steps that hold nothing back anew: enroll, claim and stop.
use Rattle.std.proofs.Common.{◌≡◌, ℕ, ◌+◌, ◌<◌, List, [], ◌∷◌, ◌++◌, length, refl, sym, ap, subst, arith, length-append}
use Rattle.std.specs.Prelude.{slice_get, slice_set, Option, Some, None}
use Rattle.std.specs.Option.{option_or}
use Rattle.std.proofs.lemmas.List.Sums.{sum_by-cons, sum_by-append}
use Rattle.std.proofs.lemmas.Option.{slice_get_within}
use Rattle.beam_values.specs.Tracking.{MayClaim, is_granted}
use Rattle.beam_values.specs.declared.outcome.StopCause.{StopCause}
use Rattle.beam_values.specs.declared.outcome.StopCause.TheVariants as stop
use Rattle.beam_values.specs.declared.piece.Piece.{Piece}
use Rattle.watermarks.specs.Holds.{SeenHolds}
use Rattle.book_core.specs.Book.{SeenBook, most_parts, places_kept, tracker_of}
use Rattle.book_core.specs.Calls.{CanClaim, Makes}
use Rattle.book_core.specs.Changes.{with_slot, or_stopped}
use Rattle.book_core.specs.Facts.{IsAttemptedWithin}
use Rattle.book_core.specs.Indexes.{IsIndexed, own_holds}
use Rattle.book_core.specs.Sane.{IsSane}
use Rattle.book_core.specs.Steps.{Action, Answer, Enroll, Enrolled, Claim, Claimed, Stop, Noted, IsWithinLimits}
use Rattle.book_core.specs.declared.live.Live.{Live}
use Rattle.book_core.specs.declared.live.Live.TheVariants as live
use Rattle.book_core.proofs.Holding.{bag_held, enroll_holds, set_holds}
use Rattle.book_core.proofs.Limits.{pieces_in, batches_in, live_count, batch_count, batches_after, kept_same}
use Rattle.book_core.proofs.SaneAlways.{step_sane}
use Rattle.book_core.proofs.Slots.{All-slice_get}

-- a step from a book as contracts see it
pub makes_seen : (b seen new : SeenBook) (slot : ℕ) (action : Action) (answer : Answer) → b ≡ seen → Makes b slot action answer new → Makes seen slot action answer new
makes_seen b seen new slot action answer e h = subst (λ (d : SeenBook). Makes d slot action answer new) e h

-- ---- enroll

abbrev enrolled : SeenBook → SeenBook
enrolled b = record b { slots = b.slots ++ None ∷ [] }

enrolled_places : (b : SeenBook) → places_kept (enrolled b) ≡ places_kept b
enrolled_places b =
    ap (most_parts b.plan)
    (omega (arith, live_count (b.slots ++ None ∷ []), live_count b.slots, sum_by-append pieces_in b.slots (None ∷ []), sum_by-cons pieces_in None []))

enrolled_within : (b : SeenBook) → length b.slots + 1 < 4294967295 → IsWithinLimits b → IsWithinLimits (enrolled b)
enrolled_within b less h = record {
  commits = h.commits;
  panes = h.panes;
  dropped = h.dropped;
  cells = h.cells;
  keys = h.keys;
  waiting = h.waiting;
  slots = omega (arith, length-append b.slots (None ∷ []), less);
  pieces = omega (arith, h.pieces, enrolled_places b);
}

makes_enrolled : (b : SeenBook) → length b.slots + 1 < 4294967295 → IsSane b → Makes b (length b.slots) Enroll (Enrolled (length b.slots)) (enrolled b)
makes_enrolled b less sane = λ told. (refl, refl, refl, enrolled_within b less sane.formed.within)

pub makes_enroll : (b : SeenBook) (slots : List (Option Live)) (number : ℕ) → length b.slots + 1 < 4294967295 → slots ≡ b.slots ++ None ∷ [] → number ≡ length b.slots → IsSane b
    → Makes b number Enroll (Enrolled number) (record b { slots = slots })
makes_enroll b slots number less e is sane =
    subst (λ n. Makes b n Enroll (Enrolled n) (record b { slots = slots })) (sym is)
    (subst (λ (s : List (Option Live)). Makes b (length b.slots) Enroll (Enrolled (length b.slots)) (record b { slots = s })) (sym e) (makes_enrolled b less sane))

enrolled_indexed : (b : SeenBook) (held : List SeenHolds) (piece_room batch_room : ℕ) → length b.slots + 1 < 4294967295
    → IsIndexed b held piece_room batch_room → IsIndexed (enrolled b) held piece_room batch_room
enrolled_indexed b held piece_room batch_room less h = record {
  sane = step_sane None b (enrolled b) (length b.slots) Enroll (Enrolled (length b.slots)) (makes_enrolled b less h.sane None) h.sane;
  sized = h.sized;
  holds_back = bag_held held (own_holds b) (own_holds (enrolled b)) (enroll_holds b) h.holds_back;
  pieces = omega (arith, h.pieces, enrolled_places b);
  batches = omega (arith, h.batches, batch_count (b.slots ++ None ∷ []), batch_count b.slots, sum_by-append batches_in b.slots (None ∷ []), sum_by-cons batches_in None []);
}

pub enroll_indexed : (b : SeenBook) (held : List SeenHolds) (piece_room batch_room : ℕ) (slots : List (Option Live)) → length b.slots + 1 < 4294967295
    → slots ≡ b.slots ++ None ∷ [] → IsIndexed b held piece_room batch_room → IsIndexed (record b { slots = slots }) held piece_room batch_room
enroll_indexed b held piece_room batch_room slots less e h =
    subst (λ (s : List (Option Live)). IsIndexed (record b { slots = s }) held piece_room batch_room) (sym e) (enrolled_indexed b held piece_room batch_room less h)

-- ---- claim

pub attempted_within : (b : SeenBook) (slot : ℕ) (piece : Piece) (attempted : Option ℕ) → IsSane b → slice_get b.slots slot ≡ Some (Some (live.Span piece attempted))
    → IsAttemptedWithin (Some (live.Span piece attempted))
attempted_within b slot piece attempted sane works =
    All-slice_get IsAttemptedWithin b.slots slot (Some (live.Span piece attempted)) works sane.attempted

pub works_within : (b : SeenBook) (slot : ℕ) (job : Live) → slice_get b.slots slot ≡ Some (Some job) → slot < length b.slots
works_within b slot job works = slice_get_within b.slots slot (Some job) works

pub may_claim : (b : SeenBook) (slot p : ℕ) (piece : Piece) (attempted : Option ℕ) → slice_get b.slots slot ≡ Some (Some (live.Span piece attempted)) → CanClaim b slot p
    → MayClaim (tracker_of piece attempted) p
may_claim b slot p piece attempted works can =
    let works_too = can.works.works in
    let piece_is : can.piece ≡ piece = cc in
    let attempted_is : can.attempted ≡ attempted = cc in
    subst (λ (q : Piece). MayClaim (tracker_of q attempted) p) piece_is
    (subst (λ (a : Option ℕ). MayClaim (tracker_of can.piece a) p) attempted_is can.may)

claimed_indexed : (b : SeenBook) (held : List SeenHolds) (piece_room batch_room : ℕ) (slot p : ℕ) (piece : Piece) (attempted : Option ℕ)
    → slice_get b.slots slot ≡ Some (Some (live.Span piece attempted)) → piece.spent ≡ None → MayClaim (tracker_of piece attempted) p
    → IsIndexed b held piece_room batch_room → IsIndexed (with_slot b slot (Some (live.Span piece (Some p)))) held piece_room batch_room
claimed_indexed b held piece_room batch_room slot p piece attempted works fresh may h =
    let old = Some (live.Span piece attempted) in
    let new = Some (live.Span piece (Some p)) in
    record {
      sane = step_sane None b (with_slot b slot new) slot (Claim p) (Claimed (is_granted (tracker_of piece attempted) p))
          (record { piece = piece; attempted = attempted; works = record { works = works; fresh = fresh }; may = may; answer = refl; is = refl }) h.sane;
      sized = h.sized;
      holds_back = bag_held held (own_holds b) (own_holds (with_slot b slot new)) (set_holds b slot old new works (λ w. refl)) h.holds_back;
      pieces = omega (arith, h.pieces, kept_same b.plan b.slots slot old new works refl);
      batches = omega (arith, h.batches, batches_after b.slots slot old new works);
    }

pub claim_indexed : (b : SeenBook) (held : List SeenHolds) (piece_room batch_room : ℕ) (slot p : ℕ) (piece : Piece) (attempted : Option ℕ) (slots : List (Option Live))
    → slice_get b.slots slot ≡ Some (Some (live.Span piece attempted)) → piece.spent ≡ None → CanClaim b slot p → slots ≡ slice_set b.slots slot (Some (live.Span piece (Some p)))
    → IsIndexed b held piece_room batch_room → IsIndexed (record b { slots = slots }) held piece_room batch_room
claim_indexed b held piece_room batch_room slot p piece attempted slots works fresh can e h =
    subst (λ (s : List (Option Live)). IsIndexed (record b { slots = s }) held piece_room batch_room) (sym e)
    (claimed_indexed b held piece_room batch_room slot p piece attempted works fresh (may_claim b slot p piece attempted works can) h)

-- ---- stop

pub stop_indexed : (b : SeenBook) (held : List SeenHolds) (piece_room batch_room : ℕ) (cause : Option StopCause) → cause ≡ or_stopped b.stopped stop.NoMemory
    → IsIndexed b held piece_room batch_room → IsIndexed (record b { stopped = cause }) held piece_room batch_room
stop_indexed b held piece_room batch_room cause e h = record {
  sane = step_sane None b (record b { stopped = cause }) 0 Stop Noted (ap (λ (s : Option StopCause). record b { stopped = s }) e) h.sane;
  sized = h.sized;
  holds_back = h.holds_back;
  pieces = h.pieces;
  batches = h.batches;
}

pub or_is : (kept : Option StopCause) (new : StopCause) → option_or kept (Some new) ≡ or_stopped kept new
or_is None new = refl
or_is (Some kept) new = refl
