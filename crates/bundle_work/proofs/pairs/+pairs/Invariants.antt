use Rattle.std.proofs.Common.{◌+◌, ◌-◌, ◌*◌, length}
use Rattle.bundle_work.proofs.pairs.+pairs.Given as goal

abbrev pub decreases-each_pair : goal.decreases-each_pair
decreases-each_pair g l = 4 * length l.kits.now

abbrev pub decreases-beside : goal.decreases-beside
decreases-beside g l = 4 * (length l.kits.now + length l.other_kits.now) - 1

abbrev pub decreases-beside-here : goal.decreases-beside-here
decreases-beside-here g l = 4 * length l.kits.now + 1

abbrev pub decreases-beside-there : goal.decreases-beside-there
decreases-beside-there g l = 4 * length l.other_kits.now + 1
