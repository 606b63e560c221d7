use Rattle.std.proofs.Common.{◌∙◌, sym}
use Rattle.sdf_library.proofs.Telling.{line_refused}
use Rattle.sdf_library.proofs.work.files.TimedLinesPositionWork.tell.Goals as goal

pub returns-in_err-emit_line : goal.returns-in_err-emit_line
returns-in_err-emit_line c =
    let line = c.in-Some.ensures in
    line_refused c.args._args.now c.args.bytes.now c.args.base c.args.len c.args.p c.args.out.now c.emit_line.new.out c.in_err-emit_line.field-0.0 _ c.from_residual.ensures.1
    line.whole (sym line.starts ∙ c.if-line.true) (rw (← line.text) c.in_err-emit_line.ensures)
