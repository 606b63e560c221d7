use Rattle.std.proofs.Common.{rules}
use Rattle.std.specs.Borrow.{Bor}
use Rattle.std.proofs.lemmas.Cmp.{on_total}
use Rattle.std.proofs.lemmas.Result.{on_ok_weaker}
use Rattle.beam_values.specs.declared.log.KeyLog.{KeyLog}
use Rattle.beam_model.specs.Rendering.{log_cmp}
use Rattle.beam_text.proofs.Sorts.{adds_logs, log_total}
use Rattle.beam_values.proofs.Sorts.{sorted_from_sort_by}
use Rattle.beam_text.proofs.logs.push_logs.Goals as goal

pub returns : goal.returns
returns c =
    on_ok_weaker c.push_sorted_logs.result
    (adds_logs c.args.plan.now c.args.logs.now c.in_ok-printed.printed.items c.sort_by.new.self.items c.as_slice.result.now c.args.out.now c.push_sorted_logs.new.out
    c.in_ok-printed.ensures
    c.in_ok-sort_by.ensures.permutation
    (sorted_from_sort_by (λ x y. log_cmp x.now y.now) (on_total (λ (x : Bor KeyLog). x.now) log_total) c.sort_by.new.self.items c.in_ok-sort_by.ensures.sorted (λ a r q k. search rules))
    c.as_slice.ensures.value)
    c.push_sorted_logs.ensures
