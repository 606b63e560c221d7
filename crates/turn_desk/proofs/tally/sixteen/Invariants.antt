use Rattle.turn_desk.proofs.tally.sixteen.Given as goal

abbrev pub ghost-new : goal.ghost-new
ghost-new g a = 16
