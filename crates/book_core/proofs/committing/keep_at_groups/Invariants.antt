use Rattle.std.proofs.Common.{◌≡◌, ℕ, ◌<◌, ◌≤◌, true, length}
use Rattle.std.specs.Prelude.{slice_get, Some}
use Rattle.beam_values.specs.Nodes.{is_group_kind}
use Rattle.beam_values.specs.declared.plan.Node.{Node}
use Rattle.book_core.specs.Committing.{HasRoom}
use Rattle.book_core.specs.Indexes.{marks_in, room_in}
use Rattle.book_core.proofs.Rooms.{lists_of}
use Rattle.book_core.proofs.committing.keep_at_groups.Given as goal

abbrev pub invariant-loop-n : goal.invariant-loop-n
invariant-loop-n l = record {
  rooms : (k : ℕ) (node : Node) → k < l.n → slice_get l.nodes k ≡ Some node → is_group_kind node.kind ≡ true → HasRoom l.queues.items l.held k l.places;
  panes : lists_of l.queues.items ≡ lists_of l.initial.queues.items;
  marks : (k : ℕ) → marks_in l.held k ≡ marks_in l.initial.held k;
  kept : (k : ℕ) → room_in l.initial.held k ≤ room_in l.held k;
  sized : length l.held ≡ length l.initial.held;
}
