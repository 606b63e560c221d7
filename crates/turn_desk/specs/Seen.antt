-- What contracts see of a desk, a pass and a turn.
use Rattle.std.specs.Prelude.{◌≡◌, Some}
use Rattle.turn_desk.specs.declared.held.Held.{Ghosts}
use Rattle.turn_desk.specs.declared.held.Note.{Note}
use Rattle.turn_desk.specs.declared.desk.Desk.{Desk}
use Rattle.turn_desk.specs.declared.desk.Pass.{Pass}
use Rattle.turn_desk.specs.declared.desk.Turn.{Turn}

-- what the desk was made with, and what stays
abbrev pub constant_of : {V A C : Type 0} → Desk V A C → C
constant_of desk = desk.table.shared.key.value

module _ {V A C : Type 0} {g : Ghosts V A C} where
  abbrev pub note_of : Pass V A C g → Note A
  note_of pass = pass.seat.me.0.note

  abbrev pub turn_note : Turn V A C g → Note A
  turn_note turn = turn.hold.seat.me.0.note

  -- the value as the turn was given it
  abbrev pub lent_value : Turn V A C g → V
  lent_value turn = turn.hold.lent.value

  -- the value as it now is
  abbrev pub present_value : Turn V A C g → V
  present_value turn = turn.value

  -- the pass is of this desk
  abbrev pub IsPassOf : Desk V A C → Pass V A C g → Type 0
  IsPassOf desk pass = (pass.seat.table_id ≡ desk.table.shared.table_id) × (pass.seat.me.0.constant ≡ Some (constant_of desk))

  -- the turn is of this desk
  abbrev pub IsTurnOf : Desk V A C → Turn V A C g → Type 0
  IsTurnOf desk turn = (turn.hold.seat.table_id ≡ desk.table.shared.table_id) × (turn.hold.seat.me.0.constant ≡ Some (constant_of desk))

  -- the turn, where this value is present
  abbrev pub with_value : Turn V A C g → V → Turn V A C g
  with_value turn value = record turn { value = value }
