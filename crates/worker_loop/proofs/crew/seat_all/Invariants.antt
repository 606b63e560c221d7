use Rattle.std.proofs.Common.{◌≡◌, ◌+◌, length, vec_capacity}
use Rattle.std.specs.List.{AllByRecursion}
use Rattle.turn_desk.specs.Notes.{size_of}
use Rattle.worker_table.specs.Passes.{IsOf, note_of_pass}
use Rattle.worker_loop.specs.Workers.{IsReady}
use Rattle.worker_loop.proofs.crew.seat_all.Given as goal

abbrev pub invariant-loop : goal.invariant-loop
invariant-loop l = record {
  table : IsOf l.table l.pass;
  about : (note_of_pass l.pass).about ≡ (note_of_pass l.fn.pass).about;
  size : size_of (note_of_pass l.pass) + l.counter ≡ size_of (note_of_pass l.fn.pass);
  free : (note_of_pass l.pass).free + l.counter ≡ (note_of_pass l.fn.pass).free;
  len : length l.seats.items ≡ l.counter;
  room : vec_capacity l.seats ≡ vec_capacity l.initial.seats;
  ready : AllByRecursion (IsReady l.table) l.seats.items;
}
