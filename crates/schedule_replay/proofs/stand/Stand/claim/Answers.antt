use Rattle.std.proofs.Common.{◌≡◌, List, length, map, ap, ◌∙◌, sym, rules, refl, arith}
use Rattle.std.specs.Prelude.{Option, Some, None, slice_set}
use Rattle.std.proofs.lemmas.List.{length-set}
use Rattle.std.proofs.lemmas.Option.{slice_get_within}
use Rattle.beam_ports.specs.Observed.{observed_store}
use Rattle.chain_exec.specs.Causes.{observed_shelf}
use Rattle.lone_worker.specs.Work.{is_granted}
use Rattle.lone_worker.specs.declared.work.Work.{Work}
use Rattle.lone_worker.proofs.Slots.{set_twice}
use Rattle.schedule_replay.specs.Shown.{shown_slot}
use Rattle.schedule_replay.specs.Stands.{may_claim}
use Rattle.schedule_replay.proofs.Claimed.{claim_attempts, claim_stands, has_claimed}
use Rattle.schedule_replay.proofs.Noted.{has_work, seen_work, slot_works}
use Rattle.schedule_replay.proofs.stand.Stand.claim.Goals as goal

pub take_out-requires : goal.take_out-requires
take_out-requires g c =
    let r = c.requires.1.1.1.1 in
    let old = c.args.self.now in
    let slot = c.args.slot in
    let work = has_work old slot may_claim refl refl r.1.1.1.1 in
    slice_get_within old.works.items slot (Some work.0) work.1

pub unreachable-requires : goal.unreachable-requires
unreachable-requires g c =
    let r = c.requires.1.1.1.1 in
    let old = c.args.self.now in
    let slot = c.args.slot in
    let work = has_work old slot may_claim refl refl r.1.1.1.1 in
    let one : Some None ≡ Some (Some work.0) = sym c.in_default.ensures.work ∙ work.1 in
    cc

pub claim-claimed-requires : goal.claim-claimed-requires
claim-claimed-requires g c κs within =
    let r = c.requires.1.1.1.1 in
    let old = c.args.self.now in
    let slot = c.args.slot in
    let work = c.in-Some.work in
    let has = c.in-Some.ensures.work in
    let works = slot_works g.base old r.1.1.1.0 slot work has in
    let may = ap may_claim (sym (seen_work old slot work has)) ∙ r.1.1.1.1 in
    (search rules, (search rules, (search rules, (search rules, (r.0, (r.1.0, (r.1.1.0, (works.1, (works.0, may)))))))))

pub index_mut-requires : goal.index_mut-requires
index_mut-requires g c =
    let r = c.requires.1.1.1.1 in
    let old = c.args.self.now in
    let slot = c.args.slot in
    let work = c.in-Some.work in
    let has = c.in-Some.ensures.work in
    omega (arith, slice_get_within old.works.items slot (Some work) has, ap length c.in-Some.ensures.free, length-set old.works.items slot None, c.take_out.new.works.ok)

pub returns-in-Ok-clause-done : goal.returns-in-Ok-clause-done
returns-in-Ok-clause-done g c =
    let r = c.requires.1.1.1.1 in
    let old = c.args.self.now in
    let slot = c.args.slot in
    let work = c.in-Some.work in
    let has = c.in-Some.ensures.work in
    let shelf = observed_shelf g.F.Shelf.strict g.F.Shelf.faults c.args.kit.now.shelf c.claim-claimed.new.kit.shelf in
    let store = observed_store g.S.Store.files g.S.Store.faults c.args.kit.now.store c.claim-claimed.new.kit.store in
    let later = c.claim-claimed.new.work in
    let after : slice_set c.take_out.new.works.items slot (Some later) ≡ slice_set old.works.items slot (Some later) =
    ap (λ (l : List (Option Work)). slice_set l slot (Some later)) c.in-Some.ensures.free ∙ set_twice old.works.items slot None (Some later) in
    has_claimed g.base old r.1.1.1.0 slot work later has c.claim-claimed.new.book shelf store _ (ap (map shown_slot) after) c.in-Ok.ensures.kept.counts c.in-Ok.ensures.kept.reading.counts c.in-Ok.claim c.in-Ok.ensures.step
    c.in-Ok.ensures.done

pub returns-in-Ok-clause-standing : goal.returns-in-Ok-clause-standing
returns-in-Ok-clause-standing g c =
    let r = c.requires.1.1.1.1 in
    let old = c.args.self.now in
    let slot = c.args.slot in
    let work = c.in-Some.work in
    let has = c.in-Some.ensures.work in
    let shelf = observed_shelf g.F.Shelf.strict g.F.Shelf.faults c.args.kit.now.shelf c.claim-claimed.new.kit.shelf in
    let store = observed_store g.S.Store.files g.S.Store.faults c.args.kit.now.store c.claim-claimed.new.kit.store in
    let later = c.claim-claimed.new.work in
    let after : slice_set c.take_out.new.works.items slot (Some later) ≡ slice_set old.works.items slot (Some later) =
    ap (λ (l : List (Option Work)). slice_set l slot (Some later)) c.in-Some.ensures.free ∙ set_twice old.works.items slot None (Some later) in
    claim_stands g.base old r.1.1.1.0 slot work later has c.claim-claimed.new.book shelf store c.in-Ok.claim c.in-Ok.ensures.step _ refl after c.is_sane.ensures.held c.in-Ok.ensures.done c.in-Ok.ensures.work

pub returns-in-Ok-clause-attempted : goal.returns-in-Ok-clause-attempted
returns-in-Ok-clause-attempted g c =
    let r = c.requires.1.1.1.1 in
    let old = c.args.self.now in
    let slot = c.args.slot in
    let work = c.in-Some.work in
    let has = c.in-Some.ensures.work in
    let shelf = observed_shelf g.F.Shelf.strict g.F.Shelf.faults c.args.kit.now.shelf c.claim-claimed.new.kit.shelf in
    let store = observed_store g.S.Store.files g.S.Store.faults c.args.kit.now.store c.claim-claimed.new.kit.store in
    claim_attempts g.base old r.1.1.1.0 slot work c.claim-claimed.new.work has c.claim-claimed.new.book shelf store c.in-Ok.claim c.in-Ok.ensures.step

pub returns-in-Ok-clause-rounds : goal.returns-in-Ok-clause-rounds
returns-in-Ok-clause-rounds g c =
    let r = c.requires.1.1.1.1 in
    let old = c.args.self.now in
    let slot = c.args.slot in
    let work = c.in-Some.work in
    let has = c.in-Some.ensures.work in
    c.rounds_are_bounded.ensures.claim old.book c.claim-claimed.new.book slot work.next (is_granted c.in-Ok.claim) (c.in-Ok.ensures.step g.base.setting.known.told)
