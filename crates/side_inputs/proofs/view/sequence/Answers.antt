use Rattle.std.proofs.Common.{◌∙◌, ap, sym, rules}
use Rattle.beam_values.specs.Orders.{value_cmp}
use Rattle.beam_values.specs.declared.value.Value.TheVariants.{rolls-Seq}
use Rattle.beam_values.proofs.Sorts.{sorted_from_sort_by}
use Rattle.beam_model.proofs.Ascending.{value_total}
use Rattle.beam_model.specs.Values.{seq}
use Rattle.side_inputs.proofs.StableSorts.{stable_sort_is_ascending, stable_from_sort_by}
use Rattle.side_inputs.proofs.view.sequence.Goals as goal

pub returns : goal.returns
returns c =
    let up = sorted_from_sort_by value_cmp value_total c.sort_by.new.self.items c.in_ok-sort_by.ensures.sorted (λ a r q k. search rules) in
    let stable = stable_from_sort_by c.args.values.items c.sort_by.new.self.items c.in_ok-sort_by.ensures.stable (λ a r q k. search rules) in
    sym (rolls-Seq c.from_vec.result) ∙ ap seq (c.from_vec.ensures ∙ stable_sort_is_ascending c.args.values.items c.sort_by.new.self.items up stable)
