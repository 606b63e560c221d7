use Rattle.turn_desk.specs.Seen.{present_value, turn_note}
use Rattle.worker_table.specs.Moves.{number_in, owners_after}
use Rattle.worker_table.specs.Turns.{first_entry}
use Rattle.worker_table.proofs.pass.Table.turn.Given as goal

abbrev pub ghost-owned_by : goal.ghost-owned_by
ghost-owned_by g a =
    let note = turn_note a._of.now.value in
    owners_after (number_in note.numbers) (first_entry note) (g.A.Act.deed a._by.now.value a._with.now) (present_value a._of.now.value).owners.value
