use Rattle.std.proofs.Common.{map}
use Rattle.std.proofs.lemmas.Result.{err_from_is_err_and}
use Rattle.serde_json.specs.View.{view}
use Rattle.plan_reader.specs.Forms.{string_in}
use Rattle.plan_reader.proofs.Turns.{items_list_of_view, one_refused}
use Rattle.plan_reader.proofs.forms.strings_of.Goals as goal

pub returns-in_err-string_in : goal.returns-in_err-string_in
returns-in_err-string_in c =
    let p = err_from_is_err_and c.from_residual-in_err-string_in.result c.from_residual-in_err-string_in.ensures.1 in
    rw (p.1, p.2, items_list_of_view)
    (one_refused view (λ _ d. string_in c.args.place d) c.args.items.now c.loop-item.item-index (map (λ string. string.now) c.loop-item.strings.items)
    c.item-item.result c.in_err-string_in.field-0.0 c.loop-item-test.true (cc) c.in_err-string_in.ensures c.loop-item.invariant)
