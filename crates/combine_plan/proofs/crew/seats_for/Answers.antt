use Rattle.std.proofs.Common.{rules, ◌≡◌, ◌∷◌, ◌++◌, [], List, sym, ap, ◌∙◌, append_assoc}
use Rattle.std.specs.Vec.Iter.{into_iter_items}
use Rattle.std.proofs.lemmas.List.{map-append}
use Rattle.beam_values.specs.declared.piece.Piece.{Piece}
use Rattle.combine_plan.specs.Hands.{hands_of}
use Rattle.combine_plan.specs.declared.crew.Seat.{Seat}
use Rattle.combine_plan.proofs.crew.seats_for.Goals as goal

pub loop-hand-preserved : goal.loop-hand-preserved
loop-hand-preserved g c =
    let i = c.loop-hand.invariant in
    let hand = c.in-Some.hand in
    let before = c.loop-hand.yielded in
    let items : into_iter_items c.loop-hand.hand-iterator ≡ hand ∷ into_iter_items c.next.new.self = search rules in
    record {
      whole = i.whole ∙ ap (λ l. before ++ l) items ∙ sym (append_assoc before (hand ∷ []) (into_iter_items c.next.new.self));
      seats = ap hands_of c.in_ok-push.ensures.items ∙ map-append (λ (s : Seat _). s.hand) c.loop-hand.seats.items _ ∙ ap (λ (l : List (List Piece)). l ++ hand ∷ []) i.seats;
    }
