use Rattle.std.proofs.Common.{List, ℕ, ◌++◌, ap, map, ◌∙◌, arith, codes, FitsSigned, w64}
use Rattle.std.proofs.lemmas.Int.{to_z-of_z}
use Rattle.std.proofs.lemmas.Result.{on_ok_weaker}
use Rattle.std.specs.List.{flat_map}
use Rattle.beam_values.specs.declared.plan.Bar.{Bar}
use Rattle.plan_drawing.specs.Labels.{bar_line, early_lines, late_lines, line_break, milliseconds}
use Rattle.plan_drawing.specs.Words.{mode_word}
use Rattle.plan_drawing.proofs.Joined.{three_then_two}
use Rattle.plan_drawing.proofs.lines.push_trigger.Goals as goal

pub returns : goal.returns
returns c =
    let trigger = c.args.trigger.now in
    let fits : FitsSigned w64 c.args.trigger.now.lateness = record { sfits = omega arith } in
    let lateness = simp to_z-of_z at c.in_ok-push_span_line.ensures in
    on_ok_weaker c.push_line.result
    (λ added. three_then_two c.args.out.now c.push_early.new.out c.push_bars.new.out c.push_late.new.out c.push_span_line.new.out c.push_line.new.out
    (codes "lateness " ++ milliseconds trigger.lateness) (mode_word trigger.mode)
    (early_lines trigger.early) (map (bar_line (codes "early ")) trigger.early_bars) (late_lines trigger.late trigger.late_bars)
    c.in_ok-push_early.ensures
    (c.in_ok-push_bars.ensures ∙ ap (λ (bars : List Bar). c.push_early.new.out ++ flat_map (λ line. line_break ++ line) (map (bar_line (codes "early ")) bars)) c.as_slice.ensures)
    (c.in_ok-push_late.ensures ∙ ap (λ (bars : List Bar). c.push_bars.new.out ++ flat_map (λ line. line_break ++ line) (late_lines trigger.late bars)) c.as_slice-2.ensures)
    lateness
    (added ∙ ap (λ (word : List ℕ). c.push_span_line.new.out ++ (line_break ++ word)) c.mode_word.ensures))
    c.push_line.ensures
