use Rattle.group_cells.proofs.groups.standing.Listed.with.Goals as goal

pub returns : goal.returns
returns c = λ test h. (c.add.ensures.mark, c.in_ok-add.ensures.listed test h (c.is_met.ensures.none h.apart c.if-is_met.false))
