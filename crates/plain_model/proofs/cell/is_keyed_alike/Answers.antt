use Rattle.std.proofs.Common.{◌∙◌}
use Rattle.plain_model.proofs.Merging.{keyed_alike}
use Rattle.plain_model.proofs.cell.is_keyed_alike.Goals as goal

pub returns : goal.returns
returns c = c.eq.ensures ∙ keyed_alike c.args.element.now c.args.other.now c.cmp_keys.result c.cmp_keys.ensures
