use Rattle.std.proofs.Common.{◌∙◌, Some, take, ap, sym, arith, rules}
use Rattle.std.specs.Option.{option_map}
use mir.Val.{SFits}
use mir.Syntax.{w64}
use Rattle.std.proofs.lemmas.Int.{ints}
use Rattle.beam_model.specs.Values.{as_int, numbers_in}
use Rattle.beam_model.specs.Functions.{sum_of}
use Rattle.dofn_library.proofs.NumbersIn.{numbers_more, no_numbers, sum_more}
use Rattle.dofn_library.proofs.numbers.sum_of.Goals as goal

pub returns-in_err-number : goal.returns-in_err-number
returns-in_err-number c =
    let none = no_numbers c.args.items.now c.loop-item.item-index c.item-item.result (omega arith) (c.in_err-number.ensures ∙ ap as_int c.item-item.is) in
    c.from_residual.ensures ∙ ap (option_map sum_of) (sym none)

pub loop-item-preserved : goal.loop-item-preserved
loop-item-preserved c =
    let more = numbers_more c.args.items.now c.loop-item.item-index c.item-item.result c.in_ok-number.number (omega arith) (c.in_ok-number.ensures ∙ ap as_int c.item-item.is) in
    let fits : SFits w64 c.in_ok-number.number = search rules in
    record {
      summed = ap (option_map sum_of) more ∙ sum_more (numbers_in (take c.loop-item.item-index c.args.items.now)) _ c.in_ok-number.number c.loop-item.invariant.summed ∙ ap Some (omega (arith, ints));
      above = omega (arith, ints);
      below = omega (arith, ints);
    }
