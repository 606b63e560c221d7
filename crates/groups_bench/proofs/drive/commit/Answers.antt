use Rattle.groups_bench.proofs.Upwards.{rises_from}
use Rattle.groups_bench.proofs.drive.commit.Goals as goal

pub commit-requires-clause-rises : goal.commit-requires-clause-rises
commit-requires-clause-rises g c = rises_from c.args.plan.now c.args.before c.args.hold c.stage_marks.new.marks c.requires.checked c.stage_marks.ensures c.requires.upwards
