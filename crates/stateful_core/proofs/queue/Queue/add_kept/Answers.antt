use Rattle.std.proofs.Common.{arith, List, ap, sym, ◌∙◌, ◌≡◌, map, length, ◌++◌, ◌∷◌, []}
use Rattle.std.specs.Int.{int_min}
use Rattle.std.proofs.lemmas.List.{length-map, map-append}
use Rattle.stateful_core.specs.Minima.{lows_of}
use Rattle.stateful_core.specs.Queues.{holds_of}
use Rattle.stateful_core.specs.declared.waiting.Waiting.{Waiting}
use Rattle.stateful_core.proofs.LowRuns.{lows_push, lows_sized}
use Rattle.stateful_core.proofs.queue.Queue.add_kept.Goals as goal

pub add_kept-requires-clause-few : goal.add_kept-requires-clause-few
add_kept-requires-clause-few c =
    let items = c.self.inside.elements.items in
    let sized : length c.self.inside.minima.lows ≡ length items = ap length c.self.invariant.lows ∙ lows_sized (holds_of items) ∙ length-map items (λ (w : Waiting). w.hold) in
    omega (arith, sized)

pub invariant_of-self : goal.invariant_of-self
invariant_of-self c =
    let items = c.self.inside.elements.items in
    let some = c.requires in
    record {
      room = omega arith;
      low_room = omega (arith, c.self.invariant.low_room, c.add_kept.ensures.used);
      lows = c.add_kept.ensures.lows
          ∙ ap (λ l. map (int_min c.args.waiting.hold) l ++ c.args.waiting.hold ∷ []) c.self.invariant.lows
          ∙ sym (lows_push (holds_of items) c.args.waiting.hold)
          ∙ ap lows_of (sym (map-append (λ (w : Waiting). w.hold) items (c.args.waiting ∷ [])) ∙ ap holds_of (sym {A = List Waiting} c.push_back_reserved.ensures.items));
    }
