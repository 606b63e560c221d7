use Rattle.std.proofs.Common.{◌≡◌, ◌++◌, ℕ, OnOk, codes, decimal, sym, subst}
use Rattle.beam_text.specs.declared.refusal.ScheduleRefusal.{ScheduleRefusal}
use Rattle.command_ends.specs.Notes.{schedule_text}
use Rattle.command_ends.proofs.notes.push_schedule.Goals as goal

pub returns-in-Line : goal.returns-in-Line
returns-in-Line c =
    let call = c.push_number in
    subst (λ (r : ScheduleRefusal). OnOk call.result (call.new.line ≡ c.args.line.now ++ schedule_text r)) (sym c.in-Line.is)
    (subst (λ (n : ℕ). OnOk call.result (call.new.line ≡ c.args.line.now ++ (codes "bad schedule: line " ++ decimal n))) c.into.ensures call.ensures)

pub returns-in-NotAllowed : goal.returns-in-NotAllowed
returns-in-NotAllowed c =
    let call = c.push_number-in-NotAllowed in
    subst (λ (r : ScheduleRefusal). OnOk call.result (call.new.line ≡ c.args.line.now ++ schedule_text r)) (sym c.in-NotAllowed.is)
    (subst (λ (n : ℕ). OnOk call.result (call.new.line ≡ c.args.line.now ++ (codes "bad schedule: not allowed " ++ decimal n))) c.into-in-NotAllowed.ensures call.ensures)

pub returns-in-Length : goal.returns-in-Length
returns-in-Length c =
    let call = c.push_number-in-Length in
    subst (λ (r : ScheduleRefusal). OnOk call.result (call.new.line ≡ c.args.line.now ++ schedule_text r)) (sym c.in-Length.is) call.ensures
