use Rattle.std.proofs.Common.{length}
use Rattle.beam_text.proofs.Written.{IsBegun, IsLeft}
use Rattle.beam_text.proofs.writes.push_writes.Given as goal

abbrev pub invariant-loop-i : goal.invariant-loop-i
invariant-loop-i l = record {
  begun : IsBegun l.labelled l.written l.nodes l.i l.fn.out l.out;
  left : IsLeft l.i (length l.nodes) l.written l.lists.items;
}
