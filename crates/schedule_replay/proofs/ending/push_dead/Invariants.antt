use Rattle.std.proofs.Common.{◌≡◌, ◌++◌, take}
use Rattle.std.specs.List.{flat_map}
use Rattle.schedule_replay.specs.Replays.{position_of}
use Rattle.schedule_replay.proofs.ending.push_dead.Given as goal

abbrev pub invariant-loop-position : goal.invariant-loop-position
invariant-loop-position l = l.out ≡ l.fn.out ++ flat_map position_of (take l.position-index l.dead)
