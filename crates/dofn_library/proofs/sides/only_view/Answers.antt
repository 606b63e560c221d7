use Rattle.std.proofs.Common.{◌∙◌, ap, pos, arith}
use Rattle.beam_model.specs.Functions.{value_tagged}
use Rattle.dofn_library.proofs.JoinedParts.{another_view}
use Rattle.dofn_library.proofs.sides.only_view.Goals as goal

pub returns-then-is_some : goal.returns-then-is_some
returns-then-is_some c =
    another_view c.args.parts.now c.loop-part.part-index c.part-item.result c.in-Some.view.now c.loop-part.only (omega arith) c.loop-part.invariant c.if-is_some.ensures
    (c.in-Some.ensures ∙ ap (value_tagged (pos 0)) c.part-item.is)
