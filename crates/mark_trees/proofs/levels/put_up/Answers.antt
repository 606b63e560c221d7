use Rattle.std.proofs.Common.{ap, arith, sym, ◌∙◌}
use Rattle.std.specs.Prelude.{slice_get}
use Rattle.mark_trees.specs.Halves.{put_up}
use Rattle.mark_trees.specs.Levels.{lists_of}
use Rattle.mark_trees.proofs.PutUp.{levels_above, lists_sized, put_stands, put_step}
use Rattle.mark_trees.proofs.levels.put_up.Goals as goal

pub returns-then-stands : goal.returns-then-stands
returns-then-stands c =
    let inv = c.loop-k.invariant in
    put_stands c.args.levels.now.items c.loop-k.levels.items c.loop-k.k c.loop-k.at c.loop-k.marks (put_up (lists_of c.args.levels.now.items) c.args.at c.args.marks)
    (ap (λ l. slice_get l c.loop-k.at) (sym c.level_at.ensures) ∙ c.stands.ensures c.if-stands.true) inv.levels inv.same inv.made

pub loop-k-preserved : goal.loop-k-preserved
loop-k-preserved c =
    let inv = c.loop-k.invariant in
    let step = put_step c.args.levels.now.items c.loop-k.levels.items c.put_at-marks.new.levels.items c.loop-k.k c.loop-k.at c.loop-k.marks c.put_at-marks.result
    (put_up (lists_of c.args.levels.now.items) c.args.at c.args.marks) (omega (arith, c.loop-k-test.true, inv.sized, c.len-k-end.ensures)) inv.same c.put_at-marks.ensures inv.made inv.room in
    record {
      same = step.same;
      sized = step.sized inv.sized;
      levels = levels_above (lists_of c.args.levels.now.items) c.loop-k.k (omega (arith, c.loop-k-test.true, inv.sized, c.len-k-end.ensures, lists_sized c.args.levels.now.items)) inv.levels;
      made = step.made;
      room = step.room;
    }
