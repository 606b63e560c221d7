use Rattle.std.proofs.Common.{◌≡◌, ◌+◌, ◌++◌, length, map, vec_capacity}
use Rattle.std.specs.List.{AllByRecursion, sum_by}
use Rattle.std.specs.Vec.Iter.{into_iter_items}
use Rattle.turn_desk.specs.Notes.{size_of}
use Rattle.worker_table.specs.Passes.{IsOf, entry_of, note_of_pass}
use Rattle.worker_loop.specs.Workers.{HasSat, no_faults, share_with}
use Rattle.worker_loop.proofs.crew.gather.Given as goal

abbrev pub invariant-loop-seat : goal.invariant-loop-seat
invariant-loop-seat l = record {
  whole : l.fn.seats.items ≡ l.yielded ++ into_iter_items l.seat-iterator;
  left : AllByRecursion (HasSat l.table) (into_iter_items l.seat-iterator);
  table : IsOf l.table l.pass;
  about : (note_of_pass l.pass).about ≡ (note_of_pass l.fn.pass).about ++ map (λ seat. entry_of seat.pass) l.yielded;
  size : size_of (note_of_pass l.pass) ≡ size_of (note_of_pass l.fn.pass) + length l.yielded;
  ends : l.ends.items ≡ map (λ seat. seat.end) l.yielded;
  room : vec_capacity l.ends ≡ vec_capacity l.fn.ends;
  share : l.share ≡ share_with no_faults (sum_by (λ seat. (entry_of seat.pass).calls) l.yielded) (sum_by (λ seat. (entry_of seat.pass).reads) l.yielded);
}
