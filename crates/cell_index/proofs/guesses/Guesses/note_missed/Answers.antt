use Rattle.cell_index.proofs.guesses.Guesses.note_missed.Goals as goal

pub returns : goal.returns
returns c = λ places all own. c.note.ensures places (c.make_room.ensures places all) own
