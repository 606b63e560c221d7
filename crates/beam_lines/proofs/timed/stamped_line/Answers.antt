use Rattle.std.proofs.Common.{◌≡◌, ◌+◌, ◌∷◌, ◌∙◌, sym, ap, drop, Some, None, pos, ◌-ℤ◌, rules}
use Rattle.beam_values.specs.Functions.{timed_as}
use Rattle.beam_lines.proofs.Stamps.{minus}
use Rattle.beam_lines.specs.Shown.{stamped}
use Rattle.beam_lines.proofs.timed.stamped_line.Goals as goal

pub returns-in-Some : goal.returns-in-Some
returns-in-Some c =
    let rest = c.in-Some-eq45-default.rest.now in
    let line : c.args.line.now ≡ 45 ∷ rest = c.in-Some-eq45-default.ensures.cases.0 ∙ ap (λ byte. byte ∷ rest) c.in-Some-eq45-default.field-0-0-test in
    let time : c.new.result ≡ Some (pos 0 -ℤ pos c.in-Some.stamp.magnitude) = search rules in
    c.timed_text.ensures
    ∙ ap (λ t. timed_as t (drop (c.in-Some.stamp.len + 1) rest)) time
    ∙ ap (λ n. timed_as (Some (pos 0 -ℤ pos c.in-Some.stamp.magnitude)) (drop (n + 1) rest)) c.in-Some.ensures.len
    ∙ sym (ap stamped line ∙ minus rest (Some c.in-Some.stamp.magnitude) (sym c.in-Some.ensures.value))

pub returns-in-None : goal.returns-in-None
returns-in-None c =
    let rest = c.in-Some-eq45-default.rest.now in
    let line : c.args.line.now ≡ 45 ∷ rest = c.in-Some-eq45-default.ensures.cases.0 ∙ ap (λ byte. byte ∷ rest) c.in-Some-eq45-default.field-0-0-test in
    sym (ap stamped line ∙ minus rest None (sym c.in-None.ensures.value))
