use Rattle.std.proofs.Common.{◌≡◌}
use Rattle.schedule_replay.proofs.LiveRanges.{live_below}
use Rattle.schedule_replay.proofs.ending.live_ranges.Given as goal

abbrev pub invariant-loop-slot : goal.invariant-loop-slot
invariant-loop-slot l = l.live.items ≡ live_below l.book l.slot
