use Rattle.std.proofs.Common.{List, ◌∷◌, ◌++◌, [], map, sym, ap, ◌∙◌, subst}
use Rattle.std.proofs.lemmas.List.{map-append}
use Rattle.beam_values.specs.declared.piece.Done.{Done}
use Rattle.beam_values.specs.declared.piece.Piece.{Piece}
use Rattle.split_core.specs.Partition.{IsPartition, range_of}
use Rattle.split_core.specs.SeenPieces.{SeenPieces}
use Rattle.combine_plan.proofs.pieces.cut_item.Goals as goal

pub loop-piece-init : goal.loop-piece-init
loop-piece-init c = λ items held.
    let out = map range_of c.args.pieces.now.items in
    let none = sym (ap (λ (p : SeenPieces). p.pending) c.new-pending.ensures) in
    c.in_ok-initial.ensures.cover items out (subst (λ (l : List Piece). IsPartition items l out) none held)

pub loop-piece-preserved : goal.loop-piece-preserved
loop-piece-preserved c = λ items held.
    let out = map range_of c.loop-piece.pieces.items in
    let all = items ++ c.args.item.now ∷ [] in
    let piece = c.in-Some.piece in
    let more = ap (map range_of) c.in_ok-push.ensures.items ∙ map-append range_of c.loop-piece.pieces.items (piece ∷ []) in
    subst (λ (l : List Done). IsPartition all c.take.new.self.pending l) (sym more) (c.in-Some.ensures.cover all out (c.loop-piece.invariant items held))

pub returns : goal.returns
returns c = λ items held.
    let none = c.in_default.ensures.first in
    subst (λ (l : List Piece). IsPartition (items ++ c.args.item.now ∷ []) l (map range_of c.loop-piece.pieces.items)) none (c.loop-piece.invariant items held)
