use Rattle.std.proofs.Common.{◌≡◌, ◌+◌, ◌<◌, vec_len}
use Rattle.std.specs.Prelude.{All}
use Rattle.turn_desk.specs.Notes.{size_of}
use Rattle.turn_desk.specs.Seen.{note_of, IsPassOf}
use Rattle.turn_desk.specs.Tally.{first_note}
use Rattle.turn_desk.proofs.tally.split_off.Given as goal

abbrev pub invariant-loop-place : goal.invariant-loop-place
invariant-loop-place l = record {
  desk : IsPassOf l.desk l.pass;
  free : (note_of l.pass).free + l.place ≡ 4294967295;
  size : size_of (note_of l.pass) + l.place ≡ size_of (note_of l.fn.pass);
  length : vec_len l.workers ≡ l.place;
  workers : All (λ w. IsPassOf l.desk w.pass × (w.place < l.count) × (note_of w.pass ≡ first_note w.place 0)) l.workers.items;
}
