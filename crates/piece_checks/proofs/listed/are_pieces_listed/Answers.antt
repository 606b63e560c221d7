use Rattle.std.proofs.Common.{refl, sym, subst, ◌∙◌, arith, take_all}
use Rattle.std.specs.List.{All}
use Rattle.std.proofs.lemmas.Bool.{false≢true}
use Rattle.std.proofs.lemmas.List.Elements.{All-more}
use Rattle.beam_values.specs.declared.piece.Piece.{Piece}
use Rattle.split_core.specs.Partition.{IsListed}
use Rattle.piece_checks.proofs.listed.are_pieces_listed.Goals as goal

pub returns-then-not-is_listed : goal.returns-then-not-is_listed
returns-then-not-is_listed c = (
  λ fails. absurd (false≢true fails),
  λ all. sym c.if-not-is_listed.true ∙ c.is_listed.ensures.1
      (subst (λ (piece : Piece). IsListed c.args.files.now piece.node piece.item) (sym c.piece-item.is) (all c.loop-piece.piece-index c.piece-item.result c.loop-piece-test.true)),
)

pub loop-piece-preserved : goal.loop-piece-preserved
loop-piece-preserved c =
    All-more (λ (piece : Piece). IsListed c.args.files.now piece.node piece.item) c.args.pieces.now c.loop-piece.piece-index c.piece-item.result c.loop-piece-test.true
    c.loop-piece.invariant (subst (λ (piece : Piece). IsListed c.args.files.now piece.node piece.item) c.piece-item.is (c.is_listed.ensures.0 c.if-not-is_listed.false))

pub returns : goal.returns
returns c =
    let whole = take_all c.loop-piece.piece-index c.args.pieces.now (omega arith) in
    (λ yes. subst (All (λ (piece : Piece). IsListed c.args.files.now piece.node piece.item)) whole c.loop-piece.invariant, λ all. refl)
