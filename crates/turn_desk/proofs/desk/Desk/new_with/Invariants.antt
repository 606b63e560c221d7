use Rattle.turn_desk.specs.Notes.{opening_note}
use Rattle.turn_desk.proofs.desk.Desk.new_with.Given as goal

abbrev pub ghost-of : goal.ghost-of
ghost-of g a = opening_note g.V.Held.opening
