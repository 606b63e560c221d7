use Rattle.std.proofs.Common.{◌≡◌, ℤ, List, ◌∷◌, ◌<◌, ◌+◌, length, arith, ap, refl, subst, ◌∙◌}
use Rattle.std.specs.Prelude.{slice_get, Option, Some}
use Rattle.std.specs.List.{flat_map}
use Rattle.beam_model.specs.Holds.{Hold, piece_hold}
use Rattle.book_core.specs.Book.{most_parts, piece_of, places_kept, tracker_of}
use Rattle.beam_values.specs.Tracking.{Tracked, split_point_of, residual, primary}
use Rattle.beam_values.specs.declared.plan.Plan.{Plan}
use Rattle.book_core.specs.Indexes.{AreHeldIn}
use Rattle.book_core.specs.Inside.{data_of}
use Rattle.book_core.specs.declared.live.Live.{Live}
use Rattle.book_core.specs.Steps.{Split, SplitAt}
use Rattle.book_core.specs.declared.live.Live.TheVariants as live
use Rattle.book_core.proofs.Splitting.{IsCut, is_cut, indexed_room, indexed_pending, node_within, cut_indexed, makes_cut}
use Rattle.book_core.proofs.Steady.{attempted_within, works_within, makes_seen}
use Rattle.book_core.proofs.book.Book.split.Goals as goal

pub tracker_of-tracker-requires : goal.tracker_of-tracker-requires
tracker_of-tracker-requires c =
    let works : slice_get c.self.inside.slots.items c.args.slot ≡ Some (Some (live.Span c.in-Some.piece c.in-Some.attempted)) = cc (c.in-Some.ensures.0, c.as_slice.ensures.value) in
    attempted_within (data_of c.self.inside) c.args.slot c.in-Some.piece c.in-Some.attempted c.self.invariant.indexed.sane works

pub keep_room-requires : goal.keep_room-requires
keep_room-requires c =
    let works : slice_get c.self.inside.slots.items c.args.slot ≡ Some (Some (live.Span c.in-Some.piece c.in-Some.attempted)) = cc (c.in-Some.ensures.0, c.as_slice.ensures.value) in
    node_within (data_of c.self.inside) c.self.inside.held c.self.inside.pieces.room c.self.inside.returned.room c.args.slot c.in-Some.piece c.in-Some.attempted works c.self.invariant.indexed

pub invariant_of-self : goal.invariant_of-self
invariant_of-self c = record {
  indexed =
      indexed_room (data_of c.self.inside) c.self.inside.held c.keep_room.new.self c.self.inside.pieces.room c.self.inside.returned.room c.self.inside.pieces.room
      c.in_err-keep_room.ensures.marks c.in_err-keep_room.ensures.sized (omega arith) c.self.invariant.indexed;
  grouped = c.self.invariant.grouped;
  counted = c.self.invariant.counted;
}

pub invariant_of-self-in_err-add_residual : goal.invariant_of-self-in_err-add_residual
invariant_of-self-in_err-add_residual c = record {
  indexed =
      indexed_pending (data_of c.self.inside) c.keep_room.new.self c.add_residual.new.self.room c.self.inside.returned.room c.add_residual.new.self.pending
      (ap (λ p. p.pending) c.in_err-add_residual.ensures.err)
      (indexed_room (data_of c.self.inside) c.self.inside.held c.keep_room.new.self c.self.inside.pieces.room c.self.inside.returned.room c.add_residual.new.self.room
      c.in_ok-keep_room.ensures.marks c.in_ok-keep_room.ensures.sized c.in_err-add_residual.ensures.kept c.self.invariant.indexed);
  grouped = c.self.invariant.grouped;
  counted = c.self.invariant.counted;
}

pub add_kept-requires-clause-within : goal.add_kept-requires-clause-within
add_kept-requires-clause-within c =
    let works : slice_get c.self.inside.slots.items c.args.slot ≡ Some (Some (live.Span c.in-Some.piece c.in-Some.attempted)) = cc (c.in-Some.ensures.0, c.as_slice.ensures.value) in
    omega (
      arith,
      node_within (data_of c.self.inside) c.self.inside.held c.self.inside.pieces.room c.self.inside.returned.room c.args.slot c.in-Some.piece c.in-Some.attempted works c.self.invariant.indexed,
      c.in_ok-keep_room.ensures.sized,
    )

pub index_mut-requires : goal.index_mut-requires
index_mut-requires c =
    let works : slice_get c.self.inside.slots.items c.args.slot ≡ Some (Some (live.Span c.in-Some.piece c.in-Some.attempted)) = cc (c.in-Some.ensures.0, c.as_slice.ensures.value) in
    omega (arith, works_within (data_of c.self.inside) c.args.slot (live.Span c.in-Some.piece c.in-Some.attempted) works, c.self.inside.slots.ok)

-- a place more has a number
few_kept : (c : goal.After-from) → length c.self.inside.pieces.pending + places_kept (data_of c.self.inside) + 1 < 4294967295
few_kept c =
    let worked_is = c.count_pieces-worked.ensures.exact ∙ ap (λ (s : List (Option Live)). length (flat_map piece_of s)) c.as_slice-2.ensures.value in
    let places_are = c.most_parts.ensures ∙ ap (λ (plan : Plan). most_parts plan c.count_pieces-worked.result) c.plan.ensures.value ∙ ap (most_parts c.self.inside.graph) worked_is in
    omega (arith, c.if-len-most_parts.false, c.len.ensures, places_are)

pub invariant_of-self-2 : goal.invariant_of-self-2
invariant_of-self-2 c = record {
  indexed =
      let works : slice_get c.self.inside.slots.items c.args.slot ≡ Some (Some (live.Span c.in-Some.piece c.in-Some.attempted)) = cc (c.in-Some.ensures.0, c.as_slice.ensures.value) in
      let cut : IsCut c.in-Some.piece (split_point_of (tracker_of c.in-Some.piece c.in-Some.attempted) c.args.num c.args.den) c.from.result c.in-Some-try_split.rest c.range.result =
      is_cut c.in-Some.piece c.in-Some.attempted c.args.num c.args.den c.from.result c.in-Some-try_split.rest c.range.result c.try_split.new.self
      (subst (λ (t : Tracked). Some c.in-Some-try_split.rest ≡ residual (split_point_of t c.args.num c.args.den) t.range.to) c.tracker_of-tracker.ensures c.in-Some-try_split.ensures.answer)
      (subst (λ (t : Tracked). c.try_split.new.self ≡ primary t (split_point_of t c.args.num c.args.den)) c.tracker_of-tracker.ensures c.in-Some-try_split.ensures.after)
      c.range.ensures c.from.ensures.value in
      let less : length c.self.inside.pieces.pending + places_kept (data_of c.self.inside) + 1 < 4294967295 = few_kept c in
      let mark_is : c.mark_of_piece-mark.result ≡ (piece_hold c.self.inside.graph c.in-Some.piece).mark =
      c.mark_of_piece-mark.ensures ∙ ap (λ (plan : Plan). (piece_hold plan c.in-Some.piece).mark) c.plan-2.ensures.value in
      let add : (holds : List Hold) → AreHeldIn c.keep_room.new.self holds → AreHeldIn c.add_kept.new.self (piece_hold c.self.inside.graph c.in-Some.piece ∷ holds) =
      subst (λ (m : ℤ). (holds : List Hold) → AreHeldIn c.keep_room.new.self holds → AreHeldIn c.add_kept.new.self (record { node = c.in-Some.piece.node; mark = m } ∷ holds)) mark_is c.add_kept.ensures.added in
      cut_indexed (data_of c.self.inside) c.self.inside.held c.keep_room.new.self c.add_kept.new.self c.self.inside.pieces.room c.add_residual.new.self.room c.self.inside.returned.room
      c.args.slot c.args.num c.args.den c.from.result c.in-Some.piece c.in-Some.attempted c.in-Some-try_split.rest c.range.result _ _ works c.in-Some.ensures.1 cut
      c.in_ok-add_residual.ensures.ok refl less c.in_ok-keep_room.ensures.marks
      add (c.add_kept.ensures.sized ∙ c.in_ok-keep_room.ensures.sized) c.in_ok-add_residual.ensures.kept c.self.invariant.indexed;
  grouped = c.self.invariant.grouped;
  counted = c.self.invariant.counted;
}

pub returns-clause-ok : goal.returns-clause-ok
returns-clause-ok c =
    let works : slice_get c.self.inside.slots.items c.args.slot ≡ Some (Some (live.Span c.in-Some.piece c.in-Some.attempted)) = cc (c.in-Some.ensures.0, c.as_slice.ensures.value) in
    let cut : IsCut c.in-Some.piece (split_point_of (tracker_of c.in-Some.piece c.in-Some.attempted) c.args.num c.args.den) c.from.result c.in-Some-try_split.rest c.range.result =
    is_cut c.in-Some.piece c.in-Some.attempted c.args.num c.args.den c.from.result c.in-Some-try_split.rest c.range.result c.try_split.new.self
    (subst (λ (t : Tracked). Some c.in-Some-try_split.rest ≡ residual (split_point_of t c.args.num c.args.den) t.range.to) c.tracker_of-tracker.ensures c.in-Some-try_split.ensures.answer)
    (subst (λ (t : Tracked). c.try_split.new.self ≡ primary t (split_point_of t c.args.num c.args.den)) c.tracker_of-tracker.ensures c.in-Some-try_split.ensures.after)
    c.range.ensures c.from.ensures.value in
    let less : length c.self.inside.pieces.pending + places_kept (data_of c.self.inside) + 1 < 4294967295 = few_kept c in
    makes_seen (data_of c.self.inside) _ _ c.args.slot (Split c.args.num c.args.den) (SplitAt (Some c.from.result)) c.self.view_is
    (makes_cut (data_of c.self.inside) c.args.slot c.args.num c.args.den c.from.result c.in-Some.piece c.in-Some.attempted c.in-Some-try_split.rest c.range.result _ _ works c.in-Some.ensures.1 cut
    c.in_ok-add_residual.ensures.ok refl less c.self.invariant.indexed.sane)
