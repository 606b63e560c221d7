use Rattle.std.proofs.Common.{Some, None, ◌==◌}
use Rattle.beam_lines.proofs.Finding.{position_or_len_found}
use Rattle.beam_lines.proofs.line.len_before.Goals as goal

pub returns-in-Some-clause-value : goal.returns-in-Some-clause-value
returns-in-Some-clause-value c = position_or_len_found (λ b. b == c.args.byte) c.args.text.now (Some c.in-Some.at) c.in-Some.ensures

pub returns-in-None-clause-value : goal.returns-in-None-clause-value
returns-in-None-clause-value c = position_or_len_found (λ b. b == c.args.byte) c.args.text.now None c.in-None.ensures
