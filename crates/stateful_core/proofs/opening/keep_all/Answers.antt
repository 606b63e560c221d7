use Rattle.std.proofs.Common.{arith, subst, ◌<◌, ◌≤◌, ◌∙◌, length, List, ℕ}
use Rattle.std.proofs.lemmas.List.{take_all}
use Rattle.stateful_core.specs.Names.{AreRoomy}
use Rattle.stateful_core.proofs.Roomy.{roomy_more}
use Rattle.stateful_core.proofs.opening.keep_all.Goals as goal

pub loop-k-preserved : goal.loop-k-preserved
loop-k-preserved c =
    let less : c.loop-k.k < length c.args.routes.now.items = omega (arith, c.loop-k-test.true, c.len-k-end.ensures) in
    record {
      cells = c.keep_one.ensures.cells ∙ c.loop-k.invariant.cells;
      len = c.keep_one.ensures.len ∙ c.loop-k.invariant.len;
      capacity = c.keep_one.ensures.capacity ∙ c.loop-k.invariant.capacity;
      roomy = roomy_more c.args.first c.args.routes.now.items c.loop-k.k c.index.result.now c.loop-k.slots.items c.keep_one.new.slots.items less c.index.ensures
          c.in_ok-keep_one.ensures.ok c.loop-k.invariant.roomy;
    }

pub returns-clause-ok : goal.returns-clause-ok
returns-clause-ok c =
    let past : length c.args.routes.now.items ≤ c.loop-k.k = omega (arith, c.loop-k-test.false, c.len-k-end.ensures) in
    subst (λ (l : List ℕ). AreRoomy c.args.first l c.loop-k.slots.items) (take_all c.loop-k.k c.args.routes.now.items past) c.loop-k.invariant.roomy
