use Rattle.std.proofs.Common.{length}
use Rattle.combine_lift.proofs.view_hash.hash_of_text.Given as goal

abbrev pub decreases-loop-word : goal.decreases-loop-word
decreases-loop-word l = length l.rest
