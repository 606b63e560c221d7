use Rattle.std.proofs.Common.{◌≡◌, ◌∙◌}
use Rattle.std.proofs.lemmas.Result.{IfOk-weaker}
use Rattle.beam_values.specs.Functions as functions
use Rattle.beam_values.specs.declared.value.Value.TheVariants.{Blob}
use Rattle.beam_model.specs.Positions as model
use Rattle.plain_model.specs.Emissions.{shown}
use Rattle.beam_model.proofs.MadeLines.{made_emits}
use Rattle.plain_model.proofs.positions.made_emission.Goals as goal

pub returns : goal.returns
returns c =
    IfOk-weaker c.emits_one.result (λ emitted. shown emitted ≡ model.emits_one (Blob c.in_ok-text.text) c.time_at-time.result)
    (λ emitted. shown emitted ≡ model.line_emission (functions.timed_line (model.made_line c.args.number c.args.p)))
    (λ emitted e. e ∙ made_emits c.args.number c.args.p c.in_ok-text.text c.time_at-time.result c.requires.number c.requires.counted c.in_ok-text.ensures c.time_at-time.ensures)
    c.emits_one.ensures
