use Rattle.std.proofs.Common.{◌≡◌, ◌*◌, ◌≤◌, sum_by, take}
use Rattle.beam_text.proofs.totals.position_count.Given as goal

abbrev pub invariant-loop-file : goal.invariant-loop-file
invariant-loop-file l = record {
  counted : l.count ≡ sum_by (λ file. file.len) (take l.file-index l.files);
  bound : l.count ≤ 18446744073709551615 * l.file-index;
}
