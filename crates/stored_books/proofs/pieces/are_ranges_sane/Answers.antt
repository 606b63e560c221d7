use Rattle.std.proofs.Common.{List, sym}
use Rattle.std.specs.List.{All}
use Rattle.beam_values.specs.declared.piece.Dead.{Dead}
use Rattle.beam_values.specs.declared.piece.Done.{Done}
use Rattle.beam_values.specs.declared.piece.FileLen.{FileLen}
use Rattle.beam_values.specs.declared.piece.Piece.{Piece}
use Rattle.piece_checks.specs.Tiles.{AreTiled}
use Rattle.split_core.specs.Partition.{IsListed}
use Rattle.stored_books.proofs.Tests.{alike, decided_by, fails_with}
use Rattle.stored_books.proofs.pieces.are_ranges_sane.Goals as goal

abbrev PiecesListed : List FileLen → List Piece → Type 0
PiecesListed files pieces = All (λ piece. IsListed files piece.node piece.item) pieces

abbrev DoneListed : List FileLen → List Done → Type 0
DoneListed files done = All (λ d. IsListed files d.node d.item) done

pub returns-then-not-are_pieces_listed : goal.returns-then-not-are_pieces_listed
returns-then-not-are_pieces_listed c =
    fails_with c.are_pieces_listed.ensures c.if-not-are_pieces_listed.true
    (λ sane. alike PiecesListed (sym c.as_slice-files.ensures) (sym c.as_slice-pending.ensures) sane.pending)

pub returns-then-not-are_done_listed : goal.returns-then-not-are_done_listed
returns-then-not-are_done_listed c =
    fails_with c.are_done_listed.ensures c.if-not-are_done_listed.true
    (λ sane. alike DoneListed (sym c.as_slice-files.ensures) (sym c.as_slice-done.ensures) sane.done)

pub returns : goal.returns
returns c =
    let files = c.as_slice-files.ensures in
    let pending = c.as_slice-pending.ensures in
    let done = c.as_slice-done.ensures in
    let dead = c.as_slice.ensures in
    let stored = c.args.stored.now in
    decided_by c.are_tiled.result c.are_tiled.ensures
    (λ tiled. record {
      pending = alike PiecesListed files pending (c.are_pieces_listed.ensures.0 c.if-not-are_pieces_listed.false);
      done = alike DoneListed files done (c.are_done_listed.ensures.0 c.if-not-are_done_listed.false);
      tiled = alike (λ (f : List FileLen) (p : List Piece). AreTiled f p stored.done stored.dead) files pending
          (alike (λ (o : List Done) (x : List Dead). AreTiled c.as_slice-files.result.now c.as_slice-pending.result.now o x) done dead tiled);
    })
    (λ sane. alike (λ (f : List FileLen) (p : List Piece). AreTiled f p c.as_slice-done.result.now c.as_slice.result.now) (sym files) (sym pending)
    (alike (λ (o : List Done) (x : List Dead). AreTiled stored.files stored.pending o x) (sym done) (sym dead) sane.tiled))
