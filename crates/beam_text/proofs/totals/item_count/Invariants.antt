use Rattle.std.proofs.Common.{◌≡◌, ◌*◌, ◌≤◌, length, take}
use Rattle.beam_text.specs.Parts.{items_in}
use Rattle.beam_text.proofs.totals.item_count.Given as goal

abbrev pub invariant-loop-arrival : goal.invariant-loop-arrival
invariant-loop-arrival l = record {
  counted : l.count ≡ length (items_in (take l.arrival-index l.written));
  bound : l.count ≤ 18446744073709551615 * l.arrival-index;
}
