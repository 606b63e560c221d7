use Rattle.std.proofs.Common.{take}
use Rattle.plain_model.proofs.Merging.{IsMergedUpTo}
use Rattle.plain_model.proofs.sessions.in_sessions.Given as goal

-- the elements passed so far are in their sessions
abbrev pub invariant-loop-element : goal.invariant-loop-element
invariant-loop-element l = IsMergedUpTo l.elements (take l.element-index l.elements) l.sessioned.items
