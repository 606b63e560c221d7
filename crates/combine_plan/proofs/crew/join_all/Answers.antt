use Rattle.std.proofs.Common.{rules, ◌≡◌, ◌∷◌, ◌++◌, [], List, map, sym, ap, ◌∙◌, subst, append_assoc}
use Rattle.std.specs.Vec.Iter.{into_iter_items}
use Rattle.std.proofs.lemmas.List.{append-nil, nil_from_length}
use Rattle.std.proofs.lemmas.Result.{err_from_is_err_and}
use Rattle.beam_values.specs.declared.piece.Done.{Done}
use Rattle.split_core.specs.Partition.{range_of}
use Rattle.combine_plan.specs.Combined.{known_of}
use Rattle.combine_plan.specs.Dealing.{ranges_in}
use Rattle.combine_plan.specs.Folding.{IsFold}
use Rattle.combine_plan.specs.Hands.{hands_of}
use Rattle.combine_plan.specs.declared.crew.Seat.{Seat}
use Rattle.combine_plan.proofs.Seen.{fold_both, fold_none, join_refused}
use Rattle.combine_plan.proofs.Seats.{hands_push, refused_at, seat_at, table_at, unjoined_at}
use Rattle.combine_plan.proofs.crew.join_all.Goals as goal

pub loop-seat-init : goal.loop-seat-init
loop-seat-init g c = record {
  whole = search rules;
  fold = λ scene all. fold_none g.C.Combiner.stands (known_of scene.shelf scene.store) scene.plan c.new-partials.result c.new-partials.ensures.stands;
}

pub returns-in_err-others-clause-unjoined : goal.returns-in_err-others-clause-unjoined
returns-in_err-others-clause-unjoined g c =
    let seat = c.in-Some.seat in
    let before = c.loop-seat.yielded in
    let after = into_iter_items c.next.new.self in
    let items : into_iter_items c.loop-seat.seat-iterator ≡ seat ∷ after = search rules in
    let split = c.loop-seat.invariant.whole ∙ ap (λ l. before ++ l) items in
    let p = err_from_is_err_and c.from_residual.result c.from_residual.ensures.1 in
    rw (p.1, p.2) (λ scene all.
    refused_at g.C.Combiner.stands g.C.Combiner.takes scene before seat after c.args.seats.items split (seat_at g.C.Combiner.stands g.C.Combiner.takes scene before seat after c.args.seats.items split all)
    c.in_err-others.field-0.0 c.in_err-others.was)

pub returns-in_err-join-clause-unjoined : goal.returns-in_err-join-clause-unjoined
returns-in_err-join-clause-unjoined g c =
    let stands = g.C.Combiner.stands in
    let takes = g.C.Combiner.takes in
    let seat = c.in-Some.seat in
    let before = c.loop-seat.yielded in
    let after = into_iter_items c.next.new.self in
    let seats = c.args.seats.items in
    let items : into_iter_items c.loop-seat.seat-iterator ≡ seat ∷ after = search rules in
    let split = c.loop-seat.invariant.whole ∙ ap (λ l. before ++ l) items in
    let p = err_from_is_err_and c.from_residual-in_err-join.result c.from_residual-in_err-join.ensures.1 in
    rw (p.1, p.2) (λ scene all.
    unjoined_at stands takes scene before seat after seats split c.in_err-join.field-0.0
    (join_refused stands (known_of scene.shelf scene.store) scene.plan takes scene.shelf scene.store scene.attempts (ranges_in (hands_of before)) (map range_of seat.hand) c.loop-seat.partials
    c.in_ok-others.others (c.loop-seat.invariant.fold scene all) (table_at stands takes scene seat (seat_at stands takes scene before seat after seats split all) c.in_ok-others.others c.in_ok-others.was)
    c.in_err-join.field-0.0 c.in_err-join.ensures.refused))

pub loop-seat-preserved : goal.loop-seat-preserved
loop-seat-preserved g c =
    let stands = g.C.Combiner.stands in
    let takes = g.C.Combiner.takes in
    let seat = c.in-Some.seat in
    let before = c.loop-seat.yielded in
    let after = into_iter_items c.next.new.self in
    let seats = c.args.seats.items in
    let items : into_iter_items c.loop-seat.seat-iterator ≡ seat ∷ after = search rules in
    let split = c.loop-seat.invariant.whole ∙ ap (λ l. before ++ l) items in
    record {
      whole = split ∙ sym (append_assoc before (seat ∷ []) after);
      fold = λ scene all.
          let known = known_of scene.shelf scene.store in
          subst (λ (ranges : List Done). IsFold stands known scene.plan ranges c.join.new.partials) (sym (hands_push before seat))
          (fold_both stands known scene.plan (ranges_in (hands_of before)) (map range_of seat.hand) c.loop-seat.partials c.in_ok-others.others c.join.new.partials (c.loop-seat.invariant.fold scene all)
          (table_at stands takes scene seat (seat_at stands takes scene before seat after seats split all) c.in_ok-others.others c.in_ok-others.was) c.in_ok-join.ensures.ok);
    }

pub returns-clause-joined : goal.returns-clause-joined
returns-clause-joined g c = λ scene all.
    let before = c.loop-seat.yielded in
    let none = nil_from_length (into_iter_items c.loop-seat.seat-iterator) (sym c.loop-seat.seat-iterator.rest.ok.0 ∙ c.in-None.ensures.steps.0) in
    let whole = c.loop-seat.invariant.whole ∙ ap (λ l. before ++ l) none ∙ append-nil before in
    subst (λ (l : List (Seat _)). IsFold g.C.Combiner.stands (known_of scene.shelf scene.store) scene.plan (ranges_in (hands_of l)) c.loop-seat.partials) (sym whole) (c.loop-seat.invariant.fold scene all)
