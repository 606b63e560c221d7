-- The forms of source items, their pieces and what failed.
use Rattle.std.specs.Prelude.{ℕ, ℤ, List, [], ◌∷◌, Option}
use Rattle.beam_values.specs.declared.fault.Cause.{Cause}
use Rattle.beam_values.specs.declared.fault.Cause.TheVariants.{Call, Read}
use Rattle.beam_values.specs.declared.fault.FaultNote.{FaultNote}
use Rattle.beam_values.specs.declared.piece.Dead.{Dead}
use Rattle.beam_values.specs.declared.piece.Done.{Done}
use Rattle.beam_values.specs.declared.piece.FileLen.{FileLen}
use Rattle.beam_values.specs.declared.piece.Piece.{Piece}
use Rattle.beam_values.specs.Intervals.{Offsets}
use Rattle.value_forms.specs.Enums.{names_form}
use Rattle.value_forms.specs.Forms.{Form, option_form}
use Rattle.value_forms.specs.Numbers.{u32_form, bits_form, time_form}
use Rattle.value_forms.specs.Structs.{no_more, ◌&◌, struct_form}
use Rattle.value_forms.specs.Windows.{range_form}

abbrev pub cause_place : Cause → ℕ
cause_place Call = 0
cause_place Read = 1

abbrev pub cause_names : List Cause
cause_names = Call ∷ Read ∷ []

abbrev pub cause_form : Form Cause
cause_form = names_form cause_names cause_place

abbrev pub note_fields : FaultNote → ℕ × (ℕ × (ℕ × (ℕ × (Cause × Unit {0}))))
note_fields n = (n.node, (n.item, (n.at, (n.attempt, (n.cause, tt)))))

abbrev pub note_of : ℕ × (ℕ × (ℕ × (ℕ × (Cause × Unit {0})))) → FaultNote
note_of x = record { node = x.0; item = x.1.0; at = x.1.1.0; attempt = x.1.1.1.0; cause = x.1.1.1.1.0 }

abbrev pub note_form : Form FaultNote
note_form = struct_form (u32_form & u32_form & u32_form & u32_form & cause_form & no_more) note_fields note_of

abbrev pub file_fields : FileLen → ℕ × (ℕ × (ℕ × Unit {0}))
file_fields f = (f.node, (f.item, (f.len, tt)))

abbrev pub file_of : ℕ × (ℕ × (ℕ × Unit {0})) → FileLen
file_of x = record { node = x.0; item = x.1.0; len = x.1.1.0 }

abbrev pub file_form : Form FileLen
file_form = struct_form (u32_form & u32_form & bits_form & no_more) file_fields file_of

abbrev pub piece_fields : Piece → ℕ × (ℕ × (Offsets × (ℤ × (ℕ × (Option FaultNote × Unit {0})))))
piece_fields p = (p.node, (p.item, (p.range, (p.seen, (p.attempts, (p.spent, tt))))))

abbrev pub piece_of : ℕ × (ℕ × (Offsets × (ℤ × (ℕ × (Option FaultNote × Unit {0}))))) → Piece
piece_of x = record { node = x.0; item = x.1.0; range = x.1.1.0; seen = x.1.1.1.0; attempts = x.1.1.1.1.0; spent = x.1.1.1.1.1.0 }

-- The piece `[10, 27)` of the item 0 of the node 0, of which nothing was seen and no work failed, is
-- `Seq[Int(0), Int(0), Seq[Int(10), Int(27)], Int(-9223372036854775), Int(0), Seq[]]`.
abbrev pub piece_form : Form Piece
piece_form = struct_form (u32_form & u32_form & range_form & time_form & u32_form & option_form note_form & no_more) piece_fields piece_of

abbrev pub done_fields : Done → ℕ × (ℕ × (Offsets × Unit {0}))
done_fields d = (d.node, (d.item, (d.range, tt)))

abbrev pub done_of : ℕ × (ℕ × (Offsets × Unit {0})) → Done
done_of x = record { node = x.0; item = x.1.0; range = x.1.1.0 }

abbrev pub done_form : Form Done
done_form = struct_form (u32_form & u32_form & range_form & no_more) done_fields done_of

abbrev pub dead_fields : Dead → ℕ × (ℕ × (ℕ × (FaultNote × Unit {0})))
dead_fields d = (d.node, (d.item, (d.at, (d.note, tt))))

abbrev pub dead_of : ℕ × (ℕ × (ℕ × (FaultNote × Unit {0}))) → Dead
dead_of x = record { node = x.0; item = x.1.0; at = x.1.1.0; note = x.1.1.1.0 }

abbrev pub dead_form : Form Dead
dead_form = struct_form (u32_form & u32_form & bits_form & note_form & no_more) dead_fields dead_of
