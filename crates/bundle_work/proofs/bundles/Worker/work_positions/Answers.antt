use Rattle.std.proofs.Common.{ℕ, ◌<◌, ap, refl, subst, ◌∙◌, arith}
use Rattle.std.specs.Prelude.{Err, nat_lt}
use Rattle.std.proofs.lemmas.Result.{err_from_is_err_and}
use Rattle.chain_exec.specs.Causes.{observed_shelf}
use Rattle.bundle_work.specs.Bundles.{IsRefusedAt, counts_of}
use Rattle.bundle_work.specs.Stretches.{IsAllClaimed, IsCutAt, IsStretchDone}
use Rattle.bundle_work.specs.declared.bench.Stretch.{Stretch}
use Rattle.bundle_work.specs.declared.bench.Stretch.TheVariants.{Claimed, Cut}
use Rattle.bundle_work.proofs.Answered.{able_onward, texts_later}
use Rattle.bundle_work.proofs.Claiming.{can_claim, claim_made, end_refused, stretch_refused_first}
use Rattle.bundle_work.proofs.Stretching.{done_first, first_refused, under_can, under_cut, under_done, under_first, under_more, under_past}
use Rattle.bundle_work.proofs.bundles.Worker.work_positions.Goals as goal

pub returns-in_err-step-clause-claims : goal.returns-in_err-step-clause-claims
returns-in_err-step-clause-claims g c = g.met.C.Claims.stays_same c.args.claims.now c.args.pass.now

pub returns-in_err-step-clause-end : goal.returns-in_err-step-clause-end
returns-in_err-step-clause-end g c =
    let plan = c.args.graph.now in
    let piece = c.args.piece.now in
    let opening = g.S.Store.opened c.args.kit.now.store c.args.self.now.bench.pager.file in
    let len = c.args.self.now.bench.pager.len in
    let known = g.C.Claims.known c.args.claims.now c.args.pass.now in
    let refusal = c.in_err-step.field-0.0 in
    let p = err_from_is_err_and c.from_residual.result c.from_residual.ensures.1 in
    let claim = c.requires.claimed in
    let shelf = observed_shelf g.F.Shelf.strict g.F.Shelf.faults c.args.kit.now.shelf c.work_next.new.kit.shelf in
    let store = counts_of g.S.Store.faults c.args.kit.now.store c.work_next.new.kit.store in
    end_refused shelf store plan opening len piece known _ claim.now piece.range.from claim.claimed refusal
    (first_refused plan piece opening len c.args.end known shelf store refusal claim c.requires.inside
    (subst (λ (q : ℕ). IsRefusedAt shelf store plan piece.node opening len q refusal) c.from-p.ensures.value c.in_err-step.ensures.refused))
    c.from_residual.result (p.1 ∙ ap Err p.2)

pub stretches-init : goal.stretches-init
stretches-init g c =
    let plan = c.args.graph.now in
    let piece = c.args.piece.now in
    let inside : c.from-p.result < c.args.end = omega (arith, c.from-p.ensures.value, c.requires.inside) in
    record {
      own = c.requires.own;
      only = g.met.C.Claims.stays_same c.args.claims.now c.args.pass.now;
      under = under_first plan piece (g.S.Store.opened c.args.kit.now.store c.args.self.now.bench.pager.file) c.args.self.now.bench.pager.len (g.C.Claims.known c.args.claims.now c.args.pass.now) c.from-p.result c.args.end
          c.args.self.now.bench.staging c.work_next.new.self.staging c.in_ok-step.step c.requires.claimed c.from-p.ensures.value inside c.in_ok-step.ensures.worked c.in_ok-step.ensures.next.0
          (c.outputs_are_fit.ensures piece.node c.requires.able.source);
      stays = c.in_ok-step.ensures.stays;
      readers = refl;
      place = refl;
    }

pub claim_end-end-requires-clause-may : goal.claim_end-end-requires-clause-may
claim_end-end-requires-clause-may g c =
    let plan = c.args.graph.now in
    let piece = c.args.piece.now in
    let known = g.C.Claims.known c.args.claims.now c.stretches.pass in
    can_claim piece known c.stretches.at.next
    (under_can plan piece (g.S.Store.opened c.args.kit.now.store c.args.self.now.bench.pager.file) c.args.self.now.bench.pager.len known c.stretches.at.next c.stretches.at.end c.args.self.now.bench.staging
    c.stretches.self.bench.staging c.stretches.invariant.under)

pub work_stretch-requires-clause-may : goal.work_stretch-requires-clause-may
work_stretch-requires-clause-may g c κs within =
    under_can c.args.graph.now c.args.piece.now (g.S.Store.opened c.args.kit.now.store c.args.self.now.bench.pager.file) c.args.self.now.bench.pager.len (g.C.Claims.known c.args.claims.now c.stretches.pass) c.stretches.at.next
    c.stretches.at.end c.args.self.now.bench.staging c.stretches.self.bench.staging c.stretches.invariant.under

pub work_stretch-requires-clause-reaches : goal.work_stretch-requires-clause-reaches
work_stretch-requires-clause-reaches g c κs within = omega (arith, c.stretches.invariant.under.below, c.requires.reaches, c.stretches.invariant.stays.len)

pub work_stretch-requires-clause-fits : goal.work_stretch-requires-clause-fits
work_stretch-requires-clause-fits g c κs within = c.outputs_are_fit.ensures c.args.piece.now.node c.requires.able.source

pub returns-in_err-onward-clause-claims : goal.returns-in_err-onward-clause-claims
returns-in_err-onward-clause-claims g c =
    g.met.C.Claims.stays_on c.args.claims.now c.args.pass.now c.stretches.pass c.work_stretch.new.pass c.stretches.invariant.only c.in_err-onward.ensures.claims

pub returns-in_err-onward-clause-end : goal.returns-in_err-onward-clause-end
returns-in_err-onward-clause-end g c =
    let i = c.stretches.invariant in
    let plan = c.args.graph.now in
    let piece = c.args.piece.now in
    let opening = g.S.Store.opened c.args.kit.now.store c.args.self.now.bench.pager.file in
    let pager = c.args.self.now.bench.pager in
    let later = c.stretches.self.bench.pager in
    let known = g.C.Claims.known c.args.claims.now c.work_stretch.new.pass in
    let refusal = c.in_err-onward.field-0.0 in
    let refused = stretch_refused_first g.F.Shelf.faults g.F.Shelf.strict g.S.Store.faults g.S.Store.files g.S.Store.opened c.args.kit.now.shelf c.stretches.kit.shelf c.work_stretch.new.kit.shelf c.args.kit.now.store
    c.stretches.kit.store c.work_stretch.new.kit.store i.stays.kept plan pager.file later.file pager.len later.len i.stays.file i.stays.len piece known refusal c.in_err-onward.ensures.refused in
    let p = err_from_is_err_and c.from_residual-in_err-onward.result c.from_residual-in_err-onward.ensures.1 in
    end_refused _ _ plan opening pager.len piece known _ refused.now refused.last refused.claimed refusal refused.refused c.from_residual-in_err-onward.result (p.1 ∙ ap Err p.2)

pub returns-in_err-onward-clause-stays : goal.returns-in_err-onward-clause-stays
returns-in_err-onward-clause-stays g c =
    able_onward g.F.Shelf.faults g.F.Shelf.strict g.S.Store.faults g.S.Store.files g.S.Store.opened c.args.graph.now c.args.piece.now.node c.args.kit.now c.stretches.kit c.work_stretch.new.kit c.args.self.now.bench.pager
    c.stretches.self.bench.pager c.work_stretch.new.self.pager c.stretches.invariant.stays c.in_err-onward.ensures.stays

pub stretches-smaller : goal.stretches-smaller
stretches-smaller g c =
    let plan = c.args.graph.now in
    let piece = c.args.piece.now in
    let later = c.stretches.self.bench.pager in
    let p = c.stretches.at.next in
    let before = g.C.Claims.known c.args.claims.now c.stretches.pass in
    let after = g.C.Claims.known c.args.claims.now c.work_stretch.new.pass in
    let opening = g.S.Store.opened c.stretches.kit.store later.file in
    let done : IsAllClaimed plan opening later.len piece p after c.in-Claimed.onward c.stretches.self.bench.staging c.work_stretch.new.self.staging =
    subst (λ (s : Stretch). IsStretchDone plan opening later.len piece p before after c.stretches.self.bench.staging c.work_stretch.new.self.staging s) c.in-Claimed.is c.in_ok-onward.ensures.done in
    let inside : p < c.stretches.at.end = omega (arith, c.if-at.false) in
    omega (arith, inside, c.stretches.invariant.under.below, done.first, done.worked.ordered)

pub stretches-preserved : goal.stretches-preserved
stretches-preserved g c =
    let i = c.stretches.invariant in
    let claims = c.args.claims.now in
    let plan = c.args.graph.now in
    let piece = c.args.piece.now in
    let opening = g.S.Store.opened c.args.kit.now.store c.args.self.now.bench.pager.file in
    let len = c.args.self.now.bench.pager.len in
    let later = c.stretches.self.bench.pager in
    let onward = g.S.Store.opened c.stretches.kit.store later.file in
    let p = c.stretches.at.next in
    let before = g.C.Claims.known claims c.stretches.pass in
    let after = g.C.Claims.known claims c.work_stretch.new.pass in
    let receipt = c.stretches.self.bench.staging in
    let new = c.work_stretch.new.self.staging in
    let texts = texts_later g.F.Shelf.faults g.F.Shelf.strict g.S.Store.faults g.S.Store.files g.S.Store.opened plan piece.node c.args.kit.now c.stretches.kit c.args.self.now.bench.pager later i.stays in
    let done : IsAllClaimed plan opening len piece p after c.in-Claimed.onward receipt new =
    done_first plan piece opening onward len later.len texts p before after receipt new (Claimed c.in-Claimed.onward)
    (subst (λ (s : Stretch). IsStretchDone plan onward later.len piece p before after receipt new s) c.in-Claimed.is c.in_ok-onward.ensures.done) in
    record {
      own = c.in_ok-onward.ensures.own;
      only = g.met.C.Claims.stays_on claims c.args.pass.now c.stretches.pass c.work_stretch.new.pass i.only c.in_ok-onward.ensures.claims;
      under = under_more plan piece opening len before p c.stretches.at.end c.args.self.now.bench.staging receipt i.under after c.in-Claimed.onward new done;
      stays = able_onward g.F.Shelf.faults g.F.Shelf.strict g.S.Store.faults g.S.Store.files g.S.Store.opened plan piece.node c.args.kit.now c.stretches.kit c.work_stretch.new.kit c.args.self.now.bench.pager later
          c.work_stretch.new.self.pager i.stays c.in_ok-onward.ensures.stays;
      readers = i.readers;
      place = i.place;
    }

pub returns-after-stretches-clause-end : goal.returns-after-stretches-clause-end
returns-after-stretches-clause-end g c =
    let under = c.stretches.invariant.under in
    record {
      now = under.now;
      last = under.last;
      claimed = under.claimed;
      worked = under_done c.args.graph.now c.args.piece.now (g.S.Store.opened c.args.kit.now.store c.args.self.now.bench.pager.file) c.args.self.now.bench.pager.len (g.C.Claims.known c.args.claims.now c.stretches.pass)
          c.stretches.at.next c.stretches.at.end c.args.self.now.bench.staging c.stretches.self.bench.staging under c.requires.nothing;
      refused = tt;
    }

pub returns-then-at-clause-claims : goal.returns-then-at-clause-claims
returns-then-at-clause-claims g c =
    g.met.C.Claims.stays_on c.args.claims.now c.args.pass.now c.stretches.pass c.claim_end-end.new.pass c.stretches.invariant.only c.claim_end-end.ensures.stays

pub returns-then-at-clause-end : goal.returns-then-at-clause-end
returns-then-at-clause-end g c =
    let under = c.stretches.invariant.under in
    let plan = c.args.graph.now in
    let piece = c.args.piece.now in
    let opening = g.S.Store.opened c.args.kit.now.store c.args.self.now.bench.pager.file in
    let len = c.args.self.now.bench.pager.len in
    let p = c.stretches.at.next in
    let before = g.C.Claims.known c.args.claims.now c.stretches.pass in
    let after = g.C.Claims.known c.args.claims.now c.claim_end-end.new.pass in
    let end = c.claim_end-end.result in
    let can = under_can plan piece opening len before p c.stretches.at.end c.args.self.now.bench.staging c.stretches.self.bench.staging under in
    let made = claim_made piece before p (nat_lt p end) end after can c.claim_end-end.ensures.told c.claim_end-end.ensures.end in
    record {
      now = made.now;
      last = p;
      claimed = made.claimed;
      worked = under_past plan piece opening len before p c.stretches.at.end c.args.self.now.bench.staging c.stretches.self.bench.staging under c.requires.nothing end after made c.if-at.true;
      refused = tt;
    }

pub returns-in-Cut-clause-claims : goal.returns-in-Cut-clause-claims
returns-in-Cut-clause-claims g c =
    g.met.C.Claims.stays_on c.args.claims.now c.args.pass.now c.stretches.pass c.work_stretch.new.pass c.stretches.invariant.only c.in_ok-onward.ensures.claims

pub returns-in-Cut-clause-end : goal.returns-in-Cut-clause-end
returns-in-Cut-clause-end g c =
    let i = c.stretches.invariant in
    let claims = c.args.claims.now in
    let plan = c.args.graph.now in
    let piece = c.args.piece.now in
    let opening = g.S.Store.opened c.args.kit.now.store c.args.self.now.bench.pager.file in
    let len = c.args.self.now.bench.pager.len in
    let later = c.stretches.self.bench.pager in
    let onward = g.S.Store.opened c.stretches.kit.store later.file in
    let p = c.stretches.at.next in
    let before = g.C.Claims.known claims c.stretches.pass in
    let after = g.C.Claims.known claims c.work_stretch.new.pass in
    let receipt = c.stretches.self.bench.staging in
    let new = c.work_stretch.new.self.staging in
    let texts = texts_later g.F.Shelf.faults g.F.Shelf.strict g.S.Store.faults g.S.Store.files g.S.Store.opened plan piece.node c.args.kit.now c.stretches.kit c.args.self.now.bench.pager later i.stays in
    let cut : IsCutAt plan opening len piece p before after receipt new =
    done_first plan piece opening onward len later.len texts p before after receipt new Cut
    (subst (λ (s : Stretch). IsStretchDone plan onward later.len piece p before after receipt new s) c.in-Cut.is c.in_ok-onward.ensures.done) in
    record {
      now = cut.now;
      last = cut.last;
      claimed = cut.claimed;
      worked = under_cut plan piece opening len before p c.stretches.at.end c.args.self.now.bench.staging receipt i.under c.requires.nothing after new cut;
      refused = tt;
    }

pub returns-in-Cut-clause-stays : goal.returns-in-Cut-clause-stays
returns-in-Cut-clause-stays g c =
    able_onward g.F.Shelf.faults g.F.Shelf.strict g.S.Store.faults g.S.Store.files g.S.Store.opened c.args.graph.now c.args.piece.now.node c.args.kit.now c.stretches.kit c.work_stretch.new.kit c.args.self.now.bench.pager
    c.stretches.self.bench.pager c.work_stretch.new.self.pager c.stretches.invariant.stays c.in_ok-onward.ensures.stays
