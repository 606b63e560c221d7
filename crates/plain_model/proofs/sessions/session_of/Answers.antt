use Rattle.std.proofs.Common.{sym}
use Rattle.plain_model.proofs.Merging.{session_known}
use Rattle.plain_model.proofs.sessions.session_of.Goals as goal

pub returns-then-is_keyed_alike-clause-session : goal.returns-then-is_keyed_alike-clause-session
returns-then-is_keyed_alike-clause-session c =
    session_known c.args.element.now c.args.elements.now c.args.sessioned.now c.loop-earlier.earlier-index c.earlier-item.result c.loop-earlier-test.true c.earlier-item.is c.requires.known (sym c.if-is_keyed_alike.ensures)
