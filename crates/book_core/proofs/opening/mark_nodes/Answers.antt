use Rattle.std.proofs.Common.{ℤ, List, arith, subst, ◌∙◌}
use Rattle.beam_values.specs.Marks.{AreMarks}
use Rattle.watermarks.specs.Holds.{hold_at}
use Rattle.book_core.proofs.Opened.{marks_written}
use Rattle.book_core.proofs.opening.mark_nodes.Goals as goal

pub returns : goal.returns
returns c =
    marks_written c.args.plan.now c.args.held.now c.in_ok-least.least.items c.in_ok-marks.marks.items c.stage_marks.new.marks c.in_ok-marks.marks.len c.from_vec.result
    c.in_ok-least.ensures (subst (λ (l : List ℤ). AreMarks c.args.plan.now (hold_at l) c.stage_marks.new.marks) c.as_slice.ensures.value c.stage_marks.ensures)
    (c.stage_marks.ensures.sized ∙ omega (arith, c.in_ok-marks.ensures.len, c.len.ensures)) c.from_vec.ensures
