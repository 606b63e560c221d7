use Rattle.std.proofs.lemmas.List.{nil_from_length}
use Rattle.std.proofs.lemmas.Result.{err_from_is_err_and}
use Rattle.beam_coders.specs.Reading.{value_at}
use Rattle.beam_coders.proofs.ItemsReading.{goes_on, ends, is_done}
use Rattle.beam_coders.proofs.ValueReading.{read_deep, read_none, read_tag}
use Rattle.beam_coders.proofs.reading.+reads.Goals as goal

pub value_of-returns-then-depth-eq0 : goal.value_of-returns-then-depth-eq0
value_of-returns-then-depth-eq0 t c = read_deep c.args.depth c.args.bytes.now c.if-depth-eq0.true

pub value_of-returns-in_default : goal.value_of-returns-in_default
value_of-returns-in_default t c = read_none c.args.depth c.args.bytes.now c.if-depth-eq0.false (nil_from_length c.args.bytes.now c.in_default.ensures.cases)

pub value_of-returns : goal.value_of-returns
value_of-returns t c =
    read_tag _ c.args.depth c.in-Some.tag.now c.args.bytes.now c.in-Some.rest.now c.if-depth-eq0.false c.in-Some.ensures.cases.0 c.tagged_of.result c.tagged_of.ensures

pub items_of-returns-in_err-item : goal.items_of-returns-in_err-item
items_of-returns-in_err-item t c =
    let p = err_from_is_err_and c.from_residual.result c.from_residual.ensures.1 in
    rw (p.1, p.2) (ends (value_at c.args.depth) c.in_err-item.field-0.0 c.loop.items c.args.count c.loop.counter c.loop.rest.now _ c.loop-test.true c.in_err-item.ensures c.loop.invariant)

pub items_of-loop-preserved : goal.items_of-loop-preserved
items_of-loop-preserved t c =
    rw c.in_ok-push.ensures.ok (goes_on (value_at c.args.depth) c.loop.items c.args.count c.loop.counter c.loop.rest.now c.in_ok-item.item c.in_ok-item.after.now _ c.loop-test.true c.in_ok-item.ensures c.loop.invariant)

pub items_of-returns : goal.items_of-returns
items_of-returns t c = is_done (value_at c.args.depth) c.loop.items c.args.count c.loop.counter c.loop.rest.now _ c.loop-test.false c.loop.invariant
