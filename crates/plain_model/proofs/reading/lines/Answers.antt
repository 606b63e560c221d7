use Rattle.std.proofs.Common.{sym, ap, ◌∙◌, arith}
use Rattle.beam_values.specs.Lines.{first_line}
use Rattle.beam_values.proofs.Spreads.{spread-empty}
use Rattle.plain_model.specs.Emissions.{line_from}
use Rattle.plain_model.proofs.FileLines.{line_more, line_same}
use Rattle.plain_model.proofs.reading.lines.Goals.{then-starts_line+in_ok-from_slice+in_ok-push, else-starts_line}
use Rattle.plain_model.proofs.reading.lines.Goals as goal

pub loop-p-init : goal.loop-p-init
loop-p-init c = c.new-lines.ensures ∙ sym (spread-empty (line_from c.args.file.now) 0 0 (omega arith))

pub loop-p-preserved : goal.loop-p-preserved
loop-p-preserved c = elim c.if-starts_line.branch [
  | then-starts_line+in_ok-from_slice+in_ok-push w ↦
      line_more c.args.file.now c.loop-p.lines c.loop-p.p c.loop-p.invariant w.in_ok-from_slice.field-0 c.if-starts_line.lines (sym w.if-starts_line.ensures)
      (w.in_ok-from_slice.ensures ∙ w.first_line-line.ensures.text ∙ ap first_line w.split_at.ensures.back)
      (w.lines-is ∙ w.in_ok-push.ensures.ok)
  | else-starts_line w ↦ w.lines-is ∙ line_same c.args.file.now c.loop-p.lines c.loop-p.p c.loop-p.invariant (sym w.if-starts_line.ensures)
]
