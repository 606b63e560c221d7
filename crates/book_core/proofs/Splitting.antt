-- A live range is split: what is kept of the book's indexes.
use Rattle.std.proofs.Common.{◌≡◌, ℕ, ◌+◌, ◌≤◌, ◌<◌, Bool, true, false, cond, List, ◌∷◌, length, refl, sym, ap, subst, ◌∙◌, arith}
use Rattle.std.specs.Prelude.{slice_get, slice_set, nat_lt, min, Option, Some, None}
use Rattle.std.proofs.lemmas.Bool.Decides.{nat_tests}
use Rattle.std.proofs.lemmas.List.{length-set}
use Rattle.beam_values.specs.Intervals.{Offsets}
use Rattle.beam_values.specs.Tracking.{Tracked, split_point_of, residual, primary}
use Rattle.beam_values.specs.declared.piece.Piece.{Piece}
use Rattle.beam_model.specs.Holds.{Hold, piece_hold}
use Rattle.split_core.specs.Order.{with_piece}
use Rattle.split_core.proofs.Ordered.{length-with_piece}
use Rattle.watermarks.specs.Holds.{SeenHolds}
use Rattle.book_core.specs.Book.{SeenBook, places_kept, tracker_of}
use Rattle.book_core.specs.Calls.{Makes}
use Rattle.book_core.specs.Changes.{with_slot, split_off, cut_to, rest_of}
use Rattle.book_core.specs.Indexes.{IsIndexed, AreHeldIn, marks_in, own_holds}
use Rattle.book_core.specs.Sane.{IsSane}
use Rattle.book_core.specs.Steps.{Split, SplitAt, IsWithinLimits}
use Rattle.book_core.specs.declared.live.Live.{Live}
use Rattle.book_core.specs.declared.live.Live.TheVariants as live
use Rattle.book_core.proofs.HeldMarks.{held_within, held_as}
use Rattle.book_core.proofs.Holding.{bag_held, free_holds, split_holds}
use Rattle.book_core.proofs.Limits.{batches_after, kept_same}
use Rattle.book_core.proofs.SaneAlways.{step_sane}

-- ---- what is refused changes only the room

pub indexed_room : (b : SeenBook) (held new : List SeenHolds) (piece_room batch_room more : ℕ) → ((n : ℕ) → marks_in new n ≡ marks_in held n) → length new ≡ length held
    → piece_room ≤ more → IsIndexed b held piece_room batch_room → IsIndexed b new more batch_room
indexed_room b held new piece_room batch_room more same sized enough h = record {
  sane = h.sane;
  sized = sized ∙ h.sized;
  holds_back = held_as held new (own_holds b) same h.holds_back;
  pieces = omega (arith, h.pieces, enough);
  batches = h.batches;
}

pub indexed_pending : (b : SeenBook) (held : List SeenHolds) (piece_room batch_room : ℕ) (pending : List Piece) → pending ≡ b.pending
    → IsIndexed b held piece_room batch_room → IsIndexed (record b { pending = pending }) held piece_room batch_room
indexed_pending b held piece_room batch_room pending e h =
    subst (λ (p : List Piece). IsIndexed (record b { pending = p }) held piece_room batch_room) (sym e) h

-- ---- a split

pub node_within : (b : SeenBook) (held : List SeenHolds) (piece_room batch_room slot : ℕ) (piece : Piece) (attempted : Option ℕ)
    → slice_get b.slots slot ≡ Some (Some (live.Span piece attempted)) → IsIndexed b held piece_room batch_room → piece.node < length held
node_within b held piece_room batch_room slot piece attempted works h =
    held_within held (piece_hold b.plan piece) (own_holds (with_slot b slot None))
    (bag_held held (own_holds b) (piece_hold b.plan piece ∷ own_holds (with_slot b slot None)) (free_holds b slot piece attempted works) h.holds_back)

-- where a range is cut, and its two parts
pub record IsCut (piece : Piece) (point at : ℕ) (rest front : Offsets) : Type 0 where
  pub at_point : at ≡ point
  pub inside : at < piece.range.to
  pub rest_is : rest ≡ record { from = at; to = piece.range.to }
  pub front_is : front ≡ record { from = piece.range.from; to = at }

some_residual : (s to : ℕ) (rest : Offsets) (t : Bool) → nat_lt s to ≡ t → Some rest ≡ cond t (Some (record { from = s; to = to })) None → (s < to) × (record { from = s; to = to } ≡ rest)
some_residual s to rest true less e = (grind (arith, nat_tests), cc)
some_residual s to rest false less e = absurd (cc)

pub is_cut : (piece : Piece) (attempted : Option ℕ) (num den at : ℕ) (rest front : Offsets) (after : Tracked)
    → Some rest ≡ residual (split_point_of (tracker_of piece attempted) num den) piece.range.to
    → after ≡ primary (tracker_of piece attempted) (split_point_of (tracker_of piece attempted) num den) → front ≡ after.range → at ≡ rest.from
    → IsCut piece (split_point_of (tracker_of piece attempted) num den) at rest front
is_cut piece attempted num den at rest front after answer e of_after of_rest =
    let point = split_point_of (tracker_of piece attempted) num den in
    let parts = some_residual point piece.range.to rest (nat_lt point piece.range.to) refl answer in
    let less : point < piece.range.to = parts.0 in
    let same : at ≡ point = of_rest ∙ sym (ap (λ (o : Offsets). o.from) parts.1) in
    let least : min point piece.range.to ≡ point = omega (arith, less) in
    record {
      at_point = same;
      inside = omega (arith, same, less);
      rest_is = sym parts.1 ∙ ap (λ (n : ℕ). record { from = n; to = piece.range.to }) (sym same);
      front_is = of_after ∙ ap (λ (t : Tracked). t.range) e ∙ ap (λ (n : ℕ). record { from = piece.range.from; to = n }) (least ∙ sym same);
    }

split_within : (b : SeenBook) (slot : ℕ) (piece : Piece) (attempted : Option ℕ) (at : ℕ) → slice_get b.slots slot ≡ Some (Some (live.Span piece attempted))
    → length b.pending + places_kept b + 1 < 4294967295 → IsWithinLimits b → IsWithinLimits (split_off b slot piece attempted at)
split_within b slot piece attempted at works less h =
    let rest = rest_of piece (record { from = at; to = piece.range.to }) in
    let front = Some (live.Span (cut_to piece (record { from = piece.range.from; to = at })) attempted) in
    record {
      commits = h.commits;
      panes = h.panes;
      dropped = h.dropped;
      cells = h.cells;
      keys = h.keys;
      waiting = h.waiting;
      slots = omega (arith, h.slots, length-set b.slots slot front);
      pieces = omega (
        arith,
        less,
        length-with_piece rest b.pending,
        kept_same b.plan b.slots slot (Some (live.Span piece attempted)) front works refl,
      );
    }

pub makes_split : (b : SeenBook) (slot num den at : ℕ) (piece : Piece) (attempted : Option ℕ) → slice_get b.slots slot ≡ Some (Some (live.Span piece attempted)) → piece.spent ≡ None
    → at ≡ split_point_of (tracker_of piece attempted) num den → at < piece.range.to → length b.pending + places_kept b + 1 < 4294967295 → IsSane b
    → Makes b slot (Split num den) (SplitAt (Some at)) (split_off b slot piece attempted at)
makes_split b slot num den at piece attempted works fresh point inside less sane = λ told.
    (record { piece = piece; attempted = attempted; works = record { works = works; fresh = fresh }; point = point; inside = inside; is = refl }, split_within b slot piece attempted at works less sane.formed.within)

-- the book after a split, as its parts are written
parts_are : (b : SeenBook) (slot at : ℕ) (piece : Piece) (attempted : Option ℕ) (point : ℕ) (rest front : Offsets) (pending : List Piece) (slots : List (Option Live)) → IsCut piece point at rest front
    → pending ≡ with_piece (record piece { range = rest; attempts = 0 }) b.pending
    → slots ≡ slice_set b.slots slot (Some (live.Span (record piece { range = front }) attempted))
    → record b { pending = pending; slots = slots } ≡ split_off b slot piece attempted at
parts_are b slot at piece attempted point rest front pending slots cut of_pending of_slots =
    let pending_is = of_pending ∙ ap (λ (o : Offsets). with_piece (record piece { range = o; attempts = 0 }) b.pending) cut.rest_is in
    let slots_are = of_slots ∙ ap (λ (o : Offsets). slice_set b.slots slot (Some (live.Span (record piece { range = o }) attempted))) cut.front_is in
    ap (λ (p : List Piece). record b { pending = p; slots = slots }) pending_is
    ∙ ap (λ (s : List (Option Live)). record b { pending = with_piece (rest_of piece (record { from = at; to = piece.range.to })) b.pending; slots = s }) slots_are

pub makes_cut : (b : SeenBook) (slot num den at : ℕ) (piece : Piece) (attempted : Option ℕ) (rest front : Offsets) (pending : List Piece) (slots : List (Option Live))
    → slice_get b.slots slot ≡ Some (Some (live.Span piece attempted)) → piece.spent ≡ None → IsCut piece (split_point_of (tracker_of piece attempted) num den) at rest front
    → pending ≡ with_piece (record piece { range = rest; attempts = 0 }) b.pending
    → slots ≡ slice_set b.slots slot (Some (live.Span (record piece { range = front }) attempted))
    → length b.pending + places_kept b + 1 < 4294967295 → IsSane b
    → Makes b slot (Split num den) (SplitAt (Some at)) (record b { pending = pending; slots = slots })
makes_cut b slot num den at piece attempted rest front pending slots works fresh cut of_pending of_slots less sane =
    subst (Makes b slot (Split num den) (SplitAt (Some at))) (sym (parts_are b slot at piece attempted _ rest front pending slots cut of_pending of_slots))
    (makes_split b slot num den at piece attempted works fresh cut.at_point cut.inside less sane)

off_indexed : (b : SeenBook) (held kept new : List SeenHolds) (piece_room more batch_room slot num den at : ℕ) (piece : Piece) (attempted : Option ℕ)
    → slice_get b.slots slot ≡ Some (Some (live.Span piece attempted))
    → Makes b slot (Split num den) (SplitAt (Some at)) (split_off b slot piece attempted at)
    → ((n : ℕ) → marks_in kept n ≡ marks_in held n)
    → ((holds : List Hold) → AreHeldIn kept holds → AreHeldIn new (piece_hold b.plan piece ∷ holds)) → length new ≡ length held → piece_room ≤ more
    → IsIndexed b held piece_room batch_room → IsIndexed (split_off b slot piece attempted at) new more batch_room
off_indexed b held kept new piece_room more batch_room slot num den at piece attempted works step same add sized enough h =
    let hold = piece_hold b.plan piece in
    let rest = own_holds (with_slot b slot None) in
    let old_held = bag_held kept (own_holds b) (hold ∷ rest) (free_holds b slot piece attempted works) (held_as held kept (own_holds b) same h.holds_back) in
    let new_held = add (hold ∷ rest) old_held in
    record {
      sane = step_sane None b (split_off b slot piece attempted at) slot (Split num den) (SplitAt (Some at)) (step None) h.sane;
      sized = sized ∙ h.sized;
      holds_back = bag_held new (hold ∷ own_holds b) (own_holds (split_off b slot piece attempted at)) (split_holds b slot piece attempted at works)
          (add (own_holds b) (held_as held kept (own_holds b) same h.holds_back));
      pieces = omega (arith, h.pieces, enough, kept_same b.plan b.slots slot (Some (live.Span piece attempted)) (Some (live.Span (cut_to piece (record { from = piece.range.from; to = at })) attempted)) works refl);
      batches = omega (arith, h.batches, batches_after b.slots slot (Some (live.Span piece attempted)) (Some (live.Span (cut_to piece (record { from = piece.range.from; to = at })) attempted)) works);
    }

pub cut_indexed : (b : SeenBook) (held kept new : List SeenHolds) (piece_room more batch_room slot num den at : ℕ) (piece : Piece) (attempted : Option ℕ) (rest front : Offsets)
    (pending : List Piece) (slots : List (Option Live))
    → slice_get b.slots slot ≡ Some (Some (live.Span piece attempted)) → piece.spent ≡ None → IsCut piece (split_point_of (tracker_of piece attempted) num den) at rest front
    → pending ≡ with_piece (record piece { range = rest; attempts = 0 }) b.pending
    → slots ≡ slice_set b.slots slot (Some (live.Span (record piece { range = front }) attempted))
    → length b.pending + places_kept b + 1 < 4294967295
    → ((n : ℕ) → marks_in kept n ≡ marks_in held n)
    → ((holds : List Hold) → AreHeldIn kept holds → AreHeldIn new (piece_hold b.plan piece ∷ holds)) → length new ≡ length held → piece_room ≤ more
    → IsIndexed b held piece_room batch_room → IsIndexed (record b { pending = pending; slots = slots }) new more batch_room
cut_indexed b held kept new piece_room more batch_room slot num den at piece attempted rest front pending slots works fresh cut of_pending of_slots less same add sized enough h =
    subst (λ (d : SeenBook). IsIndexed d new more batch_room) (sym (parts_are b slot at piece attempted _ rest front pending slots cut of_pending of_slots))
    (off_indexed b held kept new piece_room more batch_room slot num den at piece attempted works
    (makes_split b slot num den at piece attempted works fresh cut.at_point cut.inside less h.sane) same add sized enough h)
