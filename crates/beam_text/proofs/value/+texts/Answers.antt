use Rattle.std.proofs.Common.{◌∷◌, []}
use Rattle.std.proofs.lemmas.Result.{on_ok_weaker}
use Rattle.beam_text.proofs.Fronts.{front_of_more, front_of_front, on_err}
use Rattle.beam_text.proofs.ValueTexts.{pair_added, seq_added}
use Rattle.beam_text.proofs.value.+texts.Goals as goal

pub append_items-returns-in_err-append_item-2-clause-err : goal.append_items-returns-in_err-append_item-2-clause-err
append_items-returns-in_err-append_item-2-clause-err t c =
    let old = c.args.out.now in
    on_err c.from_residual-in_err-append_item-2.result
    (front_of_front old c.push.new.self c.append_item-in-loop-item.new.out
    (front_of_front old c.loop-item.out c.push.new.self c.loop-item.invariant.kept (front_of_more c.loop-item.out (44 ∷ []) c.push.new.self c.in_ok-push.ensures.ok))
    c.in_err-append_item-2.ensures.err)

pub append_value-returns-in_err-append_value-in-Pair-2-clause-err : goal.append_value-returns-in_err-append_value-in-Pair-2-clause-err
append_value-returns-in_err-append_value-in-Pair-2-clause-err t c =
    let old = c.args.out.now in
    let begun = front_of_more old (40 ∷ []) c.push.new.self c.in_ok-push-in-Pair.ensures.ok in
    let key = front_of_front old c.push.new.self c.append_value.new.out begun (front_of_more c.push.new.self _ c.append_value.new.out c.in_ok-append_value-in-Pair.ensures.ok) in
    let comma = front_of_front old c.append_value.new.out c.push-in-Pair.new.self key (front_of_more c.append_value.new.out (44 ∷ []) c.push-in-Pair.new.self c.in_ok-push-in-Pair-2.ensures.ok) in
    on_err c.from_residual-in_err-append_value-in-Pair-2.result
    (front_of_front old c.push-in-Pair.new.self c.append_value-in-Pair.new.out comma c.in_err-append_value-in-Pair-2.ensures.err)

pub append_value-returns-in_err-append_items-in-Seq-clause-err : goal.append_value-returns-in_err-append_items-in-Seq-clause-err
append_value-returns-in_err-append_items-in-Seq-clause-err t c =
    let old = c.args.out.now in
    on_err c.from_residual-in_err-append_items-in-Seq.result
    (front_of_front old c.push-in-Seq.new.self c.append_items.new.out
    (front_of_more old (91 ∷ []) c.push-in-Seq.new.self c.in_ok-push-in-Seq.ensures.ok)
    c.in_err-append_items-in-Seq.ensures.err)

pub append_value-returns-in_ok-append_value-in-Pair-2-clause-ok : goal.append_value-returns-in_ok-append_value-in-Pair-2-clause-ok
append_value-returns-in_ok-append_value-in-Pair-2-clause-ok t c =
    let key = c.in_ok-append_value-in-Pair.ensures.ok in
    let part = c.in_ok-append_value-in-Pair-2.ensures.ok in
    on_ok_weaker c.push-in-Pair-2.result
    (pair_added c.args.value.now c.in-Pair.key c.in-Pair.part c.args.out.now c.push.new.self c.append_value.new.out c.push-in-Pair.new.self c.append_value-in-Pair.new.out c.push-in-Pair-2.new.self
    c.in-Pair.is c.in_ok-push-in-Pair.ensures.ok
    (cc (key, c.get.ensures))
    c.in_ok-push-in-Pair-2.ensures.ok
    (cc (part, c.get-in-Pair.ensures)))
    c.push-in-Pair-2.ensures.ok

pub append_value-returns-in_ok-append_items-in-Seq-clause-ok : goal.append_value-returns-in_ok-append_items-in-Seq-clause-ok
append_value-returns-in_ok-append_items-in-Seq-clause-ok t c =
    let items = c.in_ok-append_items-in-Seq.ensures.ok in
    on_ok_weaker c.push-in-Seq-2.result
    (seq_added c.args.value.now c.in-Seq.items c.args.out.now c.push-in-Seq.new.self c.append_items.new.out c.push-in-Seq-2.new.self
    c.in-Seq.is c.in_ok-push-in-Seq.ensures.ok
    (cc (items, c.as_slice-in-Seq.ensures)))
    c.push-in-Seq-2.ensures.ok
