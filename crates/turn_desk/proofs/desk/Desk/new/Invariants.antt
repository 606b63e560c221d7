use Rattle.turn_desk.proofs.desk.Desk.new.Given as goal

abbrev pub ghost-of : goal.ghost-of
ghost-of g a = g.constant
