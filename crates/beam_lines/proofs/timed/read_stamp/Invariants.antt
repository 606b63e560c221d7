use Rattle.std.proofs.Common.{◌≡◌, ◌^◌, ◌<◌, true, take}
use Rattle.std.specs.List.{list_all}
use Rattle.std.specs.Char.{is_ascii_digit}
use Rattle.beam_values.specs.Functions.{digits_value}
use Rattle.beam_lines.proofs.timed.read_stamp.Given as goal

abbrev pub invariant-loop-len : goal.invariant-loop-len
invariant-loop-len l = record {
  number : l.value ≡ digits_value (take l.len l.text);
  digits : list_all is_ascii_digit (take l.len l.text) ≡ true;
  small : l.value < 10 ^ l.len;
}
