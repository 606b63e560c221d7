use Rattle.std.proofs.Common.{subst, sym}
use Rattle.std.specs.List.{All}
use Rattle.cell_index.specs.Indexes.{IsOfKey}
use Rattle.cell_index.specs.declared.guesses.Guesses.{Guesses}
use Rattle.cell_index.proofs.guesses.Guesses.spread.Goals as goal
use Rattle.cell_index.proofs.guesses.Guesses.spread.Goals.{in-Some, in_default}

pub loop-at-preserved : goal.loop-at-preserved
loop-at-preserved c = λ places all.
    let was = c.loop-at.invariant places all in
    let left = c.take_out.ensures.left places was in
    let P : Guesses → Type 0 = λ guesses. All (IsOfKey places) guesses.slots.items in
    elim c.match-take_out.branch [
      | in-Some w ↦ subst P (sym w.self-is) (w.note.ensures places left (w.in-Some.ensures.taken places was))
      | in_default w ↦ subst P (sym w.self-is) left
    ]
