use Rattle.std.proofs.Common.{◌+◌, ◌-◌, ◌<◌, ◌≤◌, ℕ, refl, rules, ap, ◌∙◌, arith}
use Rattle.beam_ports.specs.Observed.{observed_store}
use Rattle.beam_values.specs.declared.options.Options.{Options}
use Rattle.bundle_work.proofs.Answered.{kit_onward, kit_same}
use Rattle.chain_exec.specs.Causes.{observed_shelf}
use Rattle.lone_worker.specs.declared.work.ClaimEnd.{ClaimEnd}
use Rattle.lone_worker.specs.declared.work.ClaimEnd.TheVariants as claim
use Rattle.schedule_replay.specs.Shown.{shown}
use Rattle.schedule_replay.specs.Standing.{emitted_after}
use Rattle.schedule_replay.proofs.Drained.{claim_line, lines_none, lines_then, none_same}
use Rattle.schedule_replay.proofs.Onward.{claim_rests, claims_fewer, claims_on, claims_stop, counts_on, not_worked}
use Rattle.schedule_replay.proofs.stand.Stand.claim_all.Goals as goal

pub claims-init : goal.claims-init
claims-init g c =
    let r = c.requires.1.1.1.1 in
    let same = ap (λ (o : Options). o.bundle) c.options-left.ensures in
    let bundle = same ∙ ap (λ (o : Options). o.bundle) r.1.1.1.0.inside.options in
    let some : 1 ≤ c.options-left.result.bundle = omega (arith, c.is_sane.ensures.formed.allowed.bundle.0, same) in
    record {
      emitted = 0;
      counted = omega (arith, bundle);
      lines = lines_none g.base (observed_shelf g.F.Shelf.strict g.F.Shelf.faults c.args.kit.now.shelf c.args.kit.now.shelf) (observed_store g.S.Store.files g.S.Store.faults c.args.kit.now.store c.args.kit.now.store) 0
          (shown c.args.self.now) (none_same g.base g.F.Shelf.strict g.F.Shelf.faults g.S.Store.files g.S.Store.faults c.args.kit.now.shelf c.args.kit.now.store);
      may = r.1.1.1.1.1;
      attempted = λ none. absurd (omega (arith, none, some));
      standing = r.1.1.1.0;
      others = r.1.1.1.1.0;
      rounds = refl;
      reading = r.1.1.0;
      kept = kit_same g.F.Shelf.faults g.F.Shelf.strict g.S.Store.faults g.S.Store.files g.S.Store.opened c.args.kit.now.shelf c.args.kit.now.store;
      files = refl;
    }

pub claim-requires : goal.claim-requires
claim-requires g c κs within =
    let r = c.requires.1.1.1.1 in
    let i = c.claims.invariant in
    (search rules, (search rules, (search rules, (search rules, (r.0, (λ is. i.kept.strict ∙ r.1.0 is, (i.reading, (i.standing, i.may))))))))

pub claims-smaller : goal.claims-smaller
claims-smaller g c =
    let shelf = observed_shelf g.F.Shelf.strict g.F.Shelf.faults c.claims.kit.shelf c.claim.new.kit.shelf in
    let store = observed_store g.S.Store.files g.S.Store.faults c.claims.kit.store c.claim.new.kit.store in
    let ok = c.in_ok-_p in
    claims_fewer g.base shelf store (shown c.claims.self) (shown c.claim.new.self) ok._p ok.claim ok.ensures.done c.in-Worked.emitted c.in-Worked.is ok.ensures.standing.inside.files

pub claims-preserved : goal.claims-preserved
claims-preserved g c =
    let i = c.claims.invariant in
    let s = shown c.claims.self in
    let new = shown c.claim.new.self in
    let shelf = observed_shelf g.F.Shelf.strict g.F.Shelf.faults c.claims.kit.shelf c.claim.new.kit.shelf in
    let store = observed_store g.S.Store.files g.S.Store.faults c.claims.kit.store c.claim.new.kit.store in
    let ok = c.in_ok-_p in
    let left = c.claims.left in
    let emitted = c.in-Worked.emitted in
    let few : i.emitted < g.base.setting.options.bundle = omega (arith, i.counted, c.claims-test.true) in
    record {
      emitted = emitted_after i.emitted ok.claim;
      counted = ap (λ (end : ClaimEnd). emitted_after i.emitted end + (left - c.from-left.result)) c.in-Worked.is
          ∙ ap (λ (n : ℕ). emitted_after i.emitted (claim.Worked emitted) + (left - n)) c.from-left.ensures
          ∙ counts_on i.emitted left emitted c.claims-test.true
          ∙ i.counted;
      lines = lines_then g.base g.F.Shelf.strict g.F.Shelf.faults g.S.Store.files g.S.Store.faults c.args.kit.now.shelf c.claims.kit.shelf c.claim.new.kit.shelf c.args.kit.now.store c.claims.kit.store c.claim.new.kit.store 0 i.emitted
          (emitted_after i.emitted ok.claim) (shown c.args.self.now) s new i.lines (claim_line g.base shelf store i.emitted s new ok._p ok.claim few i.may ok.ensures.done);
      may = claims_on g.base shelf store s new ok._p ok.claim ok.ensures.done emitted c.in-Worked.is i.may;
      attempted = λ none. ok.ensures.attempted;
      standing = ok.ensures.standing;
      others = claim_rests g.base shelf store s new ok._p ok.claim ok.ensures.done i.others;
      rounds = ok.ensures.rounds ∙ i.rounds;
      reading = c.claim.ensures.reading;
      kept = kit_onward g.F.Shelf.faults g.F.Shelf.strict g.S.Store.faults g.S.Store.files g.S.Store.opened c.args.kit.now.shelf c.claims.kit.shelf c.claim.new.kit.shelf c.args.kit.now.store c.claims.kit.store c.claim.new.kit.store
          i.kept c.claim.ensures.kept;
      files = c.claim.ensures.files ∙ i.files;
    }

pub returns-in-Refused : goal.returns-in-Refused
returns-in-Refused g c =
    let i = c.claims.invariant in
    let s = shown c.claims.self in
    let new = shown c.claim.new.self in
    let shelf = observed_shelf g.F.Shelf.strict g.F.Shelf.faults c.claims.kit.shelf c.claim.new.kit.shelf in
    let store = observed_store g.S.Store.files g.S.Store.faults c.claims.kit.store c.claim.new.kit.store in
    let ok = c.in_ok-_p in
    let few : i.emitted < g.base.setting.options.bundle = omega (arith, i.counted, c.claims-test.true) in
    record {
      worked = record {
        emitted = emitted_after i.emitted ok.claim;
        lines = lines_then g.base g.F.Shelf.strict g.F.Shelf.faults g.S.Store.files g.S.Store.faults c.args.kit.now.shelf c.claims.kit.shelf c.claim.new.kit.shelf c.args.kit.now.store c.claims.kit.store c.claim.new.kit.store 0
            i.emitted (emitted_after i.emitted ok.claim) (shown c.args.self.now) s new i.lines (claim_line g.base shelf store i.emitted s new ok._p ok.claim few i.may ok.ensures.done);
        ends = claims_stop g.base shelf store s new ok._p ok.claim ok.ensures.done (not_worked ok.claim c.in-Refused.is) g.base.setting.options.bundle (emitted_after i.emitted ok.claim);
      };
      attempted = ok.ensures.attempted;
      standing = ok.ensures.standing;
      others = claim_rests g.base shelf store s new ok._p ok.claim ok.ensures.done i.others;
      rounds = ok.ensures.rounds ∙ i.rounds;
      reading = c.claim.ensures.reading;
      kept = kit_onward g.F.Shelf.faults g.F.Shelf.strict g.S.Store.faults g.S.Store.files g.S.Store.opened c.args.kit.now.shelf c.claims.kit.shelf c.claim.new.kit.shelf c.args.kit.now.store c.claims.kit.store c.claim.new.kit.store
          i.kept c.claim.ensures.kept;
      files = c.claim.ensures.files ∙ i.files;
    }

pub returns-in_err-_p-clause-kept : goal.returns-in_err-_p-clause-kept
returns-in_err-_p-clause-kept g c =
    kit_onward g.F.Shelf.faults g.F.Shelf.strict g.S.Store.faults g.S.Store.files g.S.Store.opened c.args.kit.now.shelf c.claims.kit.shelf c.claim.new.kit.shelf c.args.kit.now.store c.claims.kit.store c.claim.new.kit.store
    c.claims.invariant.kept c.claim.ensures.kept
