use Rattle.std.proofs.Common.{◌≡◌, ◌-◌, ◌+◌, ◌*◌}
use Rattle.beam_coders.specs.Reading.{items_at, value_at}
use Rattle.beam_coders.proofs.ItemsReading.{with_front}
use Rattle.beam_coders.proofs.reading.+reads.Given as goal

abbrev pub decreases-value_of : goal.decreases-value_of
decreases-value_of l = 3 * l.depth

abbrev pub decreases-tagged_of : goal.decreases-tagged_of
decreases-tagged_of l = 3 * l.depth + 2

abbrev pub decreases-items_of : goal.decreases-items_of
decreases-items_of l = 3 * l.depth + 1

-- what was read and what is left make the whole
abbrev pub invariant-items_of-loop : goal.invariant-items_of-loop
invariant-items_of-loop l = with_front l.items (items_at (value_at l.depth) (l.count - l.counter) l.rest) ≡ items_at (value_at l.depth) l.count l.bytes
