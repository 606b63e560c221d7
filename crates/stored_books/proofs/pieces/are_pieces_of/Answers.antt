use Rattle.std.proofs.Common.{ℕ, List, length, sym, subst, arith}
use Rattle.std.specs.List.{All}
use Rattle.beam_values.specs.declared.piece.Piece.{Piece}
use Rattle.piece_checks.specs.Attempts.{AreFaultsEnough, IsPieceTried}
use Rattle.piece_checks.specs.declared.attempts.Faults.{Faults}
use Rattle.stored_books.proofs.Tests.{alike}
use Rattle.stored_books.proofs.pieces.are_pieces_of.Goals as goal

pub returns : goal.returns
returns c =
    let stored = c.args.stored.now in
    let limit = stored.options.attempts in
    let pending = c.as_slice-pending.ensures in
    let dead = c.len-dead.ensures in
    let faults = c.faults_of.ensures.those in (
      λ enough. record {
        fewer = omega (arith, c.if-len-dead.false, c.len.ensures, dead);
        each = subst (All (IsPieceTried limit)) pending (c.are_pieces_tried.ensures.0 c.if-not-are_pieces_tried.false);
        enough = alike (λ (f : Faults) (l : List Piece). AreFaultsEnough f limit (length stored.dead) l) faults pending
            (subst (λ (n : ℕ). AreFaultsEnough c.faults_of.result limit n c.as_slice-pending.result.now) dead (c.are_faults_enough.ensures.0 enough));
        calls = c.faults_of.ensures.calls;
        reads = c.faults_of.ensures.reads;
      },
      λ tried.
          c.are_faults_enough.ensures.1
          (subst (λ (n : ℕ). AreFaultsEnough c.faults_of.result limit n c.as_slice-pending.result.now) (sym dead)
          (alike (λ (f : Faults) (l : List Piece). AreFaultsEnough f limit (length stored.dead) l) (sym faults) (sym pending) tried.enough)),
    )
