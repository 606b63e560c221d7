use Rattle.std.proofs.Common.{arith, ap, sym, ◌∙◌, drop}
use Rattle.std.proofs.lemmas.List.{drop-drop, drop-map}
use Rattle.stateful_core.specs.Minima.{lows_of}
use Rattle.stateful_core.specs.Queues.{holds_of}
use Rattle.stateful_core.specs.declared.waiting.Waiting.{Waiting}
use Rattle.stateful_core.proofs.LowRuns.{lows_rest}
use Rattle.stateful_core.proofs.queue.Queue.remove_oldest.Goals as goal

pub loop-place-preserved : goal.loop-place-preserved
loop-place-preserved c =
    let inv = c.loop-place.invariant in
    let items = c.loop-place.self-inside.elements.items in
    record {
      items = c.pop_front-oldest.ensures.rest ∙ ap (drop 1) inv.items ∙ drop-drop 1 c.loop-place._place c.self.inside.elements.items;
      kept = inv.kept;
      queue = record {
        room = omega (arith, inv.queue.room, c.pop_front-oldest.ensures.len, c.pop_front-oldest.ensures.capacity);
        low_room = omega (arith, inv.queue.low_room, c.remove_first.ensures.room);
        lows = c.remove_first.ensures.lows ∙ ap (drop 1) inv.queue.lows ∙ lows_rest (holds_of items)
            ∙ ap lows_of (drop-map (λ (w : Waiting). w.hold) 1 items ∙ ap holds_of (sym c.pop_front-oldest.ensures.rest));
      };
    }
