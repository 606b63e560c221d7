use Rattle.std.proofs.Common.{◌-◌, length, take, drop, sym}
use Rattle.std.proofs.lemmas.List.Elements.{All-same}
use Rattle.beam_text.specs.Parts.{IsPlain}
use Rattle.beam_text.proofs.PlainBytes.{all_by_ends, both_hold}
use Rattle.beam_text.proofs.value.ends_are_plain.Goals as goal

pub returns : goal.returns
returns c both =
    let bytes = c.args.bytes.now in
    let holds = both_hold c.each_is_plain.result c.each_is_plain-2.result both in
    all_by_ends IsPlain c.args.count bytes c.requires.long c.requires.short
    (All-same IsPlain (take c.args.count bytes) c.split_at.result.0.now (sym c.split_at.ensures.front) (c.each_is_plain.ensures holds.0))
    (All-same IsPlain (drop (length bytes - c.args.count) bytes) c.split_at-2.result.1.now (sym c.split_at-2.ensures.back) (c.each_is_plain-2.ensures holds.1))
