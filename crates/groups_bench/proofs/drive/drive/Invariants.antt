use Rattle.std.proofs.Common.{◌≡◌}
use Rattle.groups_bench.proofs.drive.drive.Given as goal

abbrev pub invariant-loop-part : goal.invariant-loop-part
invariant-loop-part g l = l.groups.plan ≡ l.plan
