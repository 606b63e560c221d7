use Rattle.std.proofs.Common.{ℕ, List, ap, ◌∙◌}
use Rattle.beam_values.specs.declared.plan.Plan.{Plan}
use Rattle.plan_drawing.specs.Drawing.{drawing_of}
use Rattle.beam_draw.proofs.Drawn.{text_written}
use Rattle.beam_draw.proofs.top.draw_read.Goals as goal

pub returns-in-Ok-clause-ends : goal.returns-in-Ok-clause-ends
returns-in-Ok-clause-ends g c =
    let read = c.args.read.now in
    text_written _ c.as_slice-in-Ok.result.now (drawing_of read.names read.graph) c.written.result
    (c.as_slice-in-Ok.ensures ∙ c.in-Ok.ensures ∙ ap (λ (names : List (List ℕ)). drawing_of names c.plan.result.now) c.as_slice.ensures
    ∙ ap (λ (plan : Plan). drawing_of read.names plan) c.plan.ensures.value)
    c.written.ensures.ends
