use Rattle.turn_desk.proofs.desk.Desk.give.Given as goal

abbrev pub ghost-noted : goal.ghost-noted
ghost-noted g a = let turn = a._turn.now in g.M.Change.new_note a._by.now turn.hold.lent.value turn.hold.seat.me.0.note turn.value
