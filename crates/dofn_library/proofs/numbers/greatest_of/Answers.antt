use Rattle.std.proofs.Common.{◌∙◌, Some, None, take, ap, sym, arith, rules}
use Rattle.std.specs.Option.{option_map}
use Rattle.beam_values.specs.declared.value.Value.TheVariants.{Int}
use Rattle.beam_values.specs.declared.value.Value.TheViews.{rolls-Null, rolls-Int}
use mir.Val.{SFits}
use mir.Syntax.{w64}
use Rattle.std.proofs.lemmas.Int.{to_z-of_z}
use Rattle.std.proofs.lemmas.List.{take_all}
use Rattle.beam_model.specs.Values.{as_int, numbers_in}
use Rattle.beam_model.specs.Functions.{greatest_of}
use Rattle.dofn_library.proofs.NumbersIn.{numbers_more, no_numbers, greatest_so_far, greatest_more, greatest_is}
use Rattle.dofn_library.proofs.numbers.greatest_of.Goals as goal
use Rattle.dofn_library.proofs.numbers.greatest_of.Goals.{in-Some, in-None}

pub returns-in_err-number : goal.returns-in_err-number
returns-in_err-number c =
    let none = no_numbers c.args.items.now c.loop-item.item-index c.item-item.result (omega arith) (c.in_err-number.ensures ∙ ap as_int c.item-item.is) in
    c.from_residual.ensures ∙ ap (option_map greatest_of) (sym none)

pub loop-item-preserved : goal.loop-item-preserved
loop-item-preserved c =
    let more = numbers_more c.args.items.now c.loop-item.item-index c.item-item.result c.in_ok-number.number (omega arith) (c.in_ok-number.ensures ∙ ap as_int c.item-item.is) in
    ap (option_map greatest_so_far) more
    ∙ greatest_more (numbers_in (take c.loop-item.item-index c.args.items.now)) _ c.in_ok-number.number c.loop-item.invariant
    ∙ ap Some (elim c.match-greatest.branch [
      | in-Some w ↦
          let before : SFits w64 w.in-Some.greatest = search rules in
          let added : SFits w64 c.in_ok-number.number = search rules in
          rw w.in-Some.is (grind (arith, to_z-of_z, w.max.ensures.value))
      | in-None w ↦
          let added : SFits w64 c.in_ok-number.number = search rules in
          rw w.in-None.is (grind (arith, to_z-of_z))
    ])

pub returns-in-Some-greatest : goal.returns-in-Some-greatest
returns-in-Some-greatest c =
    let fits : SFits w64 c.in-Some-greatest.greatest = search rules in
    let whole = take_all c.loop-item.item-index c.args.items.now (omega arith) in
    let most = greatest_is (numbers_in c.args.items.now) (Some c.in-Some-greatest.greatest)
    (ap (λ items. option_map greatest_so_far (numbers_in items)) (sym whole) ∙ c.loop-item.invariant ∙ ap Some c.in-Some-greatest.is) in
    let same = to_z-of_z w64 c.in-Some-greatest.greatest fits in
    ap (λ n. Some (Int n)) same ∙ ap Some (sym (rolls-Int c.in-Some-greatest.greatest)) ∙ sym most

pub returns-in-None-greatest : goal.returns-in-None-greatest
returns-in-None-greatest c =
    let whole = take_all c.loop-item.item-index c.args.items.now (omega arith) in
    let most = greatest_is (numbers_in c.args.items.now) None
    (ap (λ items. option_map greatest_so_far (numbers_in items)) (sym whole) ∙ c.loop-item.invariant ∙ ap Some c.in-None-greatest.is) in
    ap Some (sym rolls-Null) ∙ sym most
