use Rattle.std.proofs.Common.{◌≡◌, ◌+◌, ◌-◌, ◌∙◌, Some, ap, sym, arith}
use Rattle.std.specs.Prelude.{slice_get}
use Rattle.beam_model.specs.Texts.{fields}
use Rattle.dofn_library.proofs.Fields.{first_field, past_the_last, after_the_first}
use Rattle.combine_views.proofs.texts.field.Goals as goal

pub returns-then-front-rest : goal.returns-then-front-rest
returns-then-front-rest c =
    sym (c.loop-passed.invariant ∙ past_the_last c.loop-passed.rest.now c.key_field.result.0.now c.args.number c.loop-passed._passed c.key_field.ensures.key (omega arith) (omega arith))

pub loop-passed-preserved : goal.loop-passed-preserved
loop-passed-preserved c =
    c.loop-passed.invariant
    ∙ after_the_first c.loop-passed.rest.now c.key_field.result.0.now c.args.number c.loop-passed._passed c.key_field.ensures.key c.if-front-rest.false (omega arith)
    ∙ ap (λ text. slice_get (fields text) (c.args.number - (c.loop-passed._passed + 1))) (sym c.key_field.ensures.part)

pub returns : goal.returns
returns c =
    let all : c.args.number - c.loop-passed._passed ≡ 0 = omega arith in
    sym (c.loop-passed.invariant ∙ ap (slice_get (fields c.loop-passed.rest.now)) all ∙ first_field c.loop-passed.rest.now ∙ ap Some (sym c.key_field-2.ensures.key))
