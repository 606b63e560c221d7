use Rattle.std.proofs.Common.{◌≡◌, ◌++◌, take, drop}
use Rattle.trigger_algebra.specs.Staircases.{insert_count}
use Rattle.trigger_algebra.proofs.normal_form.add_count.Given as goal

-- the place is among those that are left
abbrev pub invariant-loop-at : goal.invariant-loop-at
invariant-loop-at l = take l.at l.other-items ++ insert_count l.count (drop l.at l.other-items) ≡ insert_count l.count l.other-items
