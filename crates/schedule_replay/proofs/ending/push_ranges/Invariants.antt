use Rattle.std.proofs.Common.{◌≡◌, ◌++◌, take}
use Rattle.std.specs.List.{flat_map}
use Rattle.beam_values.specs.declared.piece.Done.{Done}
use Rattle.schedule_words.specs.Told.{range_line}
use Rattle.schedule_replay.proofs.ending.push_ranges.Given as goal

abbrev pub invariant-loop-done : goal.invariant-loop-done
invariant-loop-done l = l.out ≡ l.fn.out ++ flat_map (λ (d : Done). range_line l.word d.node d.item d.range) (take l.done-index l.ranges)
