use Rattle.std.proofs.Common.{◌∙◌, length, ap, arith, rules}
use Rattle.bundle_work.proofs.Answered.{able_onward, texts_later}
use Rattle.bundle_work.proofs.Stretching.{trail_more, worked_first}
use Rattle.bundle_work.proofs.bench.Bench.work_ahead.Goals as goal

pub returns-then-not-goes_on-clause-ahead : goal.returns-then-not-goes_on-clause-ahead
returns-then-not-goes_on-clause-ahead g c =
    let i = c.positions.invariant in
    let plan = c.args.graph.now in
    let piece = c.args.piece.now in
    let opening = g.S.Store.opened c.args.kit.now.store c.args.self.now.pager.file in
    let len = c.args.self.now.pager.len in
    let later = c.positions.self.pager in
    let p = c.positions.at.next in
    let staged = c.positions.self.staging in
    let new = c.work_noted.new.self in
    let done = c.in-Ok.ensures in
    let texts = texts_later g.F.Shelf.faults g.F.Shelf.strict g.S.Store.faults g.S.Store.files g.S.Store.opened plan piece.node c.args.kit.now c.positions.kit c.args.self.now.pager later i.stays in
    let has = worked_first plan piece opening (g.S.Store.opened c.positions.kit.store later.file) len later.len texts p staged new.staging c.in-Ok.step done.worked in
    let trail = trail_more plan piece opening len c.args.from.next p c.after-at.result.next c.args.self.now.staging staged new.staging c.positions.self.trail new.trail c.in-Ok.step i.trail has done.next.0 c.requires.fits done.noted c.after-at.ensures.next in
    (trail.0, trail.1, omega (arith, i.inside, i.end))

pub positions-preserved : goal.positions-preserved
positions-preserved g c =
    let i = c.positions.invariant in
    let plan = c.args.graph.now in
    let piece = c.args.piece.now in
    let opening = g.S.Store.opened c.args.kit.now.store c.args.self.now.pager.file in
    let len = c.args.self.now.pager.len in
    let later = c.positions.self.pager in
    let p = c.positions.at.next in
    let staged = c.positions.self.staging in
    let new = c.work_noted.new.self in
    let done = c.in-Ok.ensures in
    let texts = texts_later g.F.Shelf.faults g.F.Shelf.strict g.S.Store.faults g.S.Store.files g.S.Store.opened plan piece.node c.args.kit.now c.positions.kit c.args.self.now.pager later i.stays in
    let has = worked_first plan piece opening (g.S.Store.opened c.positions.kit.store later.file) len later.len texts p staged new.staging c.in-Ok.step done.worked in
    record {
      trail = (trail_more plan piece opening len c.args.from.next p c.after-at.result.next c.args.self.now.staging staged new.staging c.positions.self.trail new.trail c.in-Ok.step i.trail has done.next.0 c.requires.fits done.noted c.after-at.ensures.next).0;
      end = c.after-at.ensures.end ∙ i.end;
      inside = c.goes_on.ensures.inside (search rules);
      room = c.goes_on.ensures.room (search rules);
      few = omega (arith, i.few, ap length done.noted, c.goes_on.ensures.left (search rules));
      stays = able_onward g.F.Shelf.faults g.F.Shelf.strict g.S.Store.faults g.S.Store.files g.S.Store.opened plan piece.node c.args.kit.now c.positions.kit c.work_noted.new.kit c.args.self.now.pager later new.pager i.stays
          done.stays;
    }
