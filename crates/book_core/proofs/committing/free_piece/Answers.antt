use Rattle.std.proofs.Common.{◌∷◌, ℤ, List, sym, subst}
use Rattle.std.specs.Prelude.{Contains}
use Rattle.beam_model.specs.Holds.{Hold, piece_hold}
use Rattle.book_core.specs.Indexes.{marks_in, AreHeldIn}
use Rattle.book_core.proofs.HeldMarks.{held_mark, held_within}
use Rattle.book_core.proofs.committing.free_piece.Goals as goal

pub remove-requires-clause-within : goal.remove-requires-clause-within
remove-requires-clause-within c = held_within c.args.held.now (piece_hold c.args.plan.now c.args.piece.now) c.requires.holds.0 c.requires.holds.1

pub remove-requires-clause-held : goal.remove-requires-clause-held
remove-requires-clause-held c =
    subst (λ (m : ℤ). Contains (marks_in c.args.held.now c.args.piece.now.node) m) (sym c.mark_of_piece.ensures)
    (held_mark c.args.held.now (piece_hold c.args.plan.now c.args.piece.now) c.requires.holds.0 c.requires.holds.1)

pub returns-clause-freed : goal.returns-clause-freed
returns-clause-freed c =
    subst (λ (m : ℤ). (holds : List Hold) → AreHeldIn c.args.held.now (record { node = c.args.piece.now.node; mark = m } ∷ holds) → AreHeldIn c.remove.new.self holds)
    c.mark_of_piece.ensures c.remove.ensures.removed
