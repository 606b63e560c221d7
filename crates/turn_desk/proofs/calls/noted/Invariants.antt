use Rattle.turn_desk.proofs.calls.noted.Given as goal

abbrev pub ghost-of : goal.ghost-of
ghost-of g a = g.note
