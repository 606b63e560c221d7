use Rattle.std.proofs.Common.{◌≡◌, true, take}
use Rattle.std.specs.List.{All}
use Rattle.beam_values.specs.Grouping.{key_of}
use Rattle.beam_model.specs.Sessions.{is_keyed}
use Rattle.plain_model.specs.Sessions.{IsSettled}
use Rattle.plain_model.proofs.sessions.first_extending.Given as goal

-- the windows of the key that were passed so far are settled
abbrev pub invariant-loop-other : goal.invariant-loop-other
invariant-loop-other l =
    All (λ e. is_keyed (key_of l.element) e ≡ true → IsSettled l.session e.span) (take l.other-index l.elements)
