use Rattle.std.specs.Prelude.{length, ◌-◌, ◌≡◌, ◌≤◌, take}
use Rattle.sdf_library.proofs.pager.add_blank.Given as goal

abbrev pub invariant-loop-blank : goal.invariant-loop-blank
invariant-loop-blank l = record {
  within : length l.bytes.items ≤ l.most;
  longer : length l.initial.bytes.items ≤ length l.bytes.items;
  front : take (length l.initial.bytes.items) l.bytes.items ≡ l.initial.bytes.items;
}

abbrev pub decreases-loop-blank : goal.decreases-loop-blank
decreases-loop-blank l = l.most - length l.bytes.items
