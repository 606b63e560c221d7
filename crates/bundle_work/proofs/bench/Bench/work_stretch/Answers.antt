use Rattle.std.proofs.Common.{refl}
use Rattle.bundle_work.proofs.Claiming.{can_claim, can_later}
use Rattle.bundle_work.proofs.Stretching.{latest_low, stretch_claimed, stretch_cut, stretch_cut_first, stretch_refused, trail_low}
use Rattle.bundle_work.proofs.bench.Bench.work_stretch.Goals as goal

pub claim_end-end-requires-clause-may : goal.claim_end-end-requires-clause-may
claim_end-end-requires-clause-may g c =
    let plan = c.args.graph.now in
    let piece = c.args.piece.now in
    let before = g.C.Claims.known c.args.claims.now c.args.pass.now in
    let from = c.args.from.next in
    let ahead = c.in-Worked.ensures.ahead in
    let new = c.work_ahead.new.self in
    let low = latest_low plan piece (g.S.Store.opened c.args.kit.now.store c.args.self.now.pager.file) c.args.self.now.pager.len from c.in-Worked.last c.in-Worked.onward.next c.args.self.now.staging new.staging new.trail ahead.0
    ahead.1 in
    can_claim piece before c.in-Worked.last (can_later piece before from c.in-Worked.last c.requires.may low.0)

pub returns-then-last-end-clause-done : goal.returns-then-last-end-clause-done
returns-then-last-end-clause-done g c =
    let claims = c.args.claims.now in
    let end = c.claim_end-end.result in
    let ahead = c.in-Worked.ensures.ahead in
    let told = c.claim_end-end.ensures in
    let new = c.work_ahead.new.self in
    stretch_claimed c.args.graph.now c.args.piece.now (g.S.Store.opened c.args.kit.now.store c.args.self.now.pager.file) c.args.self.now.pager.len c.args.from.next c.in-Worked.last end
    (g.C.Claims.known claims c.args.pass.now) (g.C.Claims.known claims c.claim_end-end.new.pass) c.requires.may told.told told.end
    (record { next = c.in-Worked.onward.next; end = end; room = c.in-Worked.onward.room }) c.args.self.now.staging new.staging new.trail ahead.0 ahead.1 refl c.if-last-end.true

pub returns-else-last-end-clause-done : goal.returns-else-last-end-clause-done
returns-else-last-end-clause-done g c =
    let claims = c.args.claims.now in
    let end = c.claim_end-end.result in
    let ahead = c.in-Worked.ensures.ahead in
    let told = c.claim_end-end.ensures in
    let new = c.work_ahead.new.self in
    stretch_cut c.args.graph.now c.args.piece.now (g.S.Store.opened c.args.kit.now.store c.args.self.now.pager.file) c.args.self.now.pager.len c.args.from.next c.in-Worked.last end
    (g.C.Claims.known claims c.args.pass.now) (g.C.Claims.known claims c.claim_end-end.new.pass) c.requires.may told.told told.end
    c.in-Worked.onward.next c.args.self.now.staging new.staging c.cut_back.new.self.staging new.trail ahead.0 ahead.1 c.if-last-end.false c.cut_back.ensures.staging

pub claim_end-end-requires-in-Refused-clause-may : goal.claim_end-end-requires-in-Refused-clause-may
claim_end-end-requires-in-Refused-clause-may g c =
    let piece = c.args.piece.now in
    let before = g.C.Claims.known c.args.claims.now c.args.pass.now in
    let from = c.args.from.next in
    let new = c.work_ahead.new.self in
    let low = trail_low c.args.graph.now piece (g.S.Store.opened c.args.kit.now.store c.args.self.now.pager.file) c.args.self.now.pager.len from c.in-Refused.p c.args.self.now.staging new.staging new.trail
    c.in-Refused.ensures.ahead.0 in
    can_claim piece before c.in-Refused.p (can_later piece before from c.in-Refused.p c.requires.may low)

pub returns-then-p-end-clause-refused : goal.returns-then-p-end-clause-refused
returns-then-p-end-clause-refused g c =
    let claims = c.args.claims.now in
    let told = c.claim_end-end-in-Refused.ensures in
    let new = c.work_ahead.new.self in
    stretch_refused c.args.graph.now c.args.piece.now (g.S.Store.opened c.args.kit.now.store c.args.self.now.pager.file) c.args.self.now.pager.len c.args.from.next c.in-Refused.p c.claim_end-end-in-Refused.result
    (g.C.Claims.known claims c.args.pass.now) (g.C.Claims.known claims c.claim_end-end-in-Refused.new.pass) c.requires.may told.told told.end
    c.args.self.now.staging new.staging new.trail _ _ c.in-Refused.refusal c.in-Refused.ensures.ahead.0 c.if-p-end.true c.in-Refused.ensures.refused

pub returns-else-p-end-clause-done : goal.returns-else-p-end-clause-done
returns-else-p-end-clause-done g c =
    let claims = c.args.claims.now in
    let told = c.claim_end-end-in-Refused.ensures in
    let new = c.work_ahead.new.self in
    stretch_cut_first c.args.graph.now c.args.piece.now (g.S.Store.opened c.args.kit.now.store c.args.self.now.pager.file) c.args.self.now.pager.len c.args.from.next c.in-Refused.p c.claim_end-end-in-Refused.result
    (g.C.Claims.known claims c.args.pass.now) (g.C.Claims.known claims c.claim_end-end-in-Refused.new.pass) c.requires.may told.told told.end
    c.args.self.now.staging new.staging c.cut_back-in-Refused.new.self.staging new.trail c.in-Refused.ensures.ahead.0 c.if-p-end.false c.cut_back-in-Refused.ensures.staging
