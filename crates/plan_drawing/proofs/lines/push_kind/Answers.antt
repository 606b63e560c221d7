use Rattle.std.proofs.Common.{List, ℕ, ◌++◌, ap, ◌∙◌, codes}
use Rattle.std.proofs.lemmas.Result.{on_ok_weaker}
use Rattle.plan_drawing.specs.Labels.{args_lines, line_break, log_lines}
use Rattle.plan_drawing.specs.Words.{state_word}
use Rattle.plan_drawing.proofs.Joined.{first_then_both}
use Rattle.plan_drawing.proofs.lines.push_kind.Goals as goal

pub returns-in_ok-push_args-in-Stateful : goal.returns-in_ok-push_args-in-Stateful
returns-in_ok-push_args-in-Stateful c =
    let node = c.in-Stateful in
    rw node.is
    (on_ok_weaker c.push_log.result
    (first_then_both c.args.out.now c.push_word_line-in-Stateful.new.out c.push_args-in-Stateful.new.out c.push_log.new.out
    (codes "stateful " ++ state_word node.work) (args_lines node.args) (log_lines node.log)
    (c.in_ok-push_word_line-in-Stateful.ensures ∙ ap (λ (word : List ℕ). c.args.out.now ++ (line_break ++ (codes "stateful " ++ word))) c.state_word.ensures)
    c.in_ok-push_args-in-Stateful.ensures)
    c.push_log.ensures)
