use Rattle.std.proofs.Common.{arith, sym, ◌∙◌}
use Rattle.std.proofs.lemmas.List.{take_all}
use Rattle.keyed_state.proofs.state.KeyState.copy.Goals as goal

pub returns : goal.returns
returns c =
    let done = c.loop-i.invariant in
    sym (take_all c.loop-i.i c.loop-i.cells (omega arith)) ∙ done.copied ∙ take_all c.loop-i.i c.self.inside.cells (omega arith) ∙ c.self.view_is
