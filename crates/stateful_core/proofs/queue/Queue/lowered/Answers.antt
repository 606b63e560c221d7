use Rattle.std.proofs.Common.{ℤ, List, ap, sym, ◌∙◌, drop}
use Rattle.std.specs.Prelude.{fold, slice_get}
use Rattle.std.specs.Int.{int_min}
use Rattle.std.proofs.lemmas.List.{drop-map}
use Rattle.stateful_core.specs.Minima.{lowered}
use Rattle.stateful_core.specs.Queues.{SeenQueue, holds_of}
use Rattle.stateful_core.specs.declared.waiting.Waiting.{Waiting}
use Rattle.stateful_core.proofs.LowRuns.{lowered_behind}
use Rattle.stateful_core.proofs.queue.Queue.lowered.Goals as goal

pub returns : goal.returns
returns c =
    let items = c.self.inside.elements.items in
    c.lowered.ensures
    ∙ ap (lowered c.args.mark) (c.behind.ensures ∙ ap (λ (l : List ℤ). slice_get l c.args.from) c.self.invariant.lows)
    ∙ sym (lowered_behind c.args.mark (holds_of items) c.args.from)
    ∙ ap (fold int_min c.args.mark) (drop-map (λ (w : Waiting). w.hold) c.args.from items)
    ∙ ap (λ (q : SeenQueue). fold int_min c.args.mark (holds_of (drop c.args.from q.items))) c.self.view_is
