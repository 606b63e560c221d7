use Rattle.std.proofs.Common.{◌≡◌, Bool, List, length, map, ap, ◌∙◌, sym, rules, refl, arith}
use Rattle.std.specs.Prelude.{Option, Some, None, slice_set, Result, Ok, Err, IfOk, OnOk}
use Rattle.std.proofs.lemmas.List.{length-set}
use Rattle.std.proofs.lemmas.Option.{slice_get_within}
use Rattle.std.proofs.lemmas.Result.{IfOk-weaker}
use Rattle.beam_ports.specs.Observed.{observed_store}
use Rattle.chain_exec.specs.Causes.{observed_shelf}
use Rattle.lone_worker.specs.declared.work.Work.{Work}
use Rattle.lone_worker.proofs.Slots.{set_twice}
use Rattle.schedule_replay.specs.Shown.{shown_slot}
use Rattle.schedule_replay.specs.Stands.{may_run}
use Rattle.schedule_replay.proofs.Noted.{has_work, seen_work, slot_works}
use Rattle.schedule_replay.proofs.Ran.{has_run, run_stands}
use Rattle.schedule_replay.proofs.stand.Stand.run.Goals as goal

-- where it is answered whether the job was worked, one thing follows from what is said of that and from another
stands_where : {A B E : Type 0} (P : Bool → Type 0) → ((worked : Bool) → P worked → A → B) → (r : Result Bool E) → IfOk r P → OnOk r A → OnOk r B
stands_where P then (Ok worked) done at = then worked done at
stands_where P then (Err e) done at = tt

pub take_out-requires : goal.take_out-requires
take_out-requires g c =
    let r = c.requires.1.1.1.1 in
    let old = c.args.self.now in
    let slot = c.args.slot in
    let work = has_work old slot may_run refl refl r.1.1.1.1 in
    slice_get_within old.works.items slot (Some work.0) work.1

pub unreachable-requires : goal.unreachable-requires
unreachable-requires g c =
    let r = c.requires.1.1.1.1 in
    let old = c.args.self.now in
    let slot = c.args.slot in
    let work = has_work old slot may_run refl refl r.1.1.1.1 in
    let one : Some None ≡ Some (Some work.0) = sym c.in_default.ensures.work ∙ work.1 in
    cc

pub run-worked-requires : goal.run-worked-requires
run-worked-requires g c κs within =
    let r = c.requires.1.1.1.1 in
    let old = c.args.self.now in
    let slot = c.args.slot in
    let work = c.in-Some.work in
    let has = c.in-Some.ensures.work in
    let works = slot_works g.base old r.1.1.1.0 slot work has in
    let may = ap may_run (sym (seen_work old slot work has)) ∙ r.1.1.1.1 in
    (search rules, (search rules, (search rules, (search rules, (r.0, (r.1.0, (r.1.1.0, (works.1, (works.0, may)))))))))

pub index_mut-requires : goal.index_mut-requires
index_mut-requires g c =
    let r = c.requires.1.1.1.1 in
    let old = c.args.self.now in
    let slot = c.args.slot in
    let work = c.in-Some.work in
    let has = c.in-Some.ensures.work in
    omega (arith, slice_get_within old.works.items slot (Some work) has, ap length c.in-Some.ensures.free, length-set old.works.items slot None, c.take_out.new.works.ok)

pub returns-clause-done : goal.returns-clause-done
returns-clause-done g c =
    let r = c.requires.1.1.1.1 in
    let old = c.args.self.now in
    let slot = c.args.slot in
    let work = c.in-Some.work in
    let has = c.in-Some.ensures.work in
    let shelf = observed_shelf g.F.Shelf.strict g.F.Shelf.faults c.args.kit.now.shelf c.run-worked.new.kit.shelf in
    let store = observed_store g.S.Store.files g.S.Store.faults c.args.kit.now.store c.run-worked.new.kit.store in
    let may = ap may_run (sym (seen_work old slot work has)) ∙ r.1.1.1.1 in
    let later = c.run-worked.new.work in
    let after : slice_set c.take_out.new.works.items slot (Some later) ≡ slice_set old.works.items slot (Some later) =
    ap (λ (l : List (Option Work)). slice_set l slot (Some later)) c.in-Some.ensures.free ∙ set_twice old.works.items slot None (Some later) in
    IfOk-weaker c.run-worked.result _ _
    (λ worked done. has_run g.base old r.1.1.1.0 slot work later has may c.run-worked.new.book c.run-worked.ensures.book shelf store _ (ap (map shown_slot) after) c.run-worked.ensures.kept.counts
    c.run-worked.ensures.kept.reading.counts worked done) c.run-worked.ensures.done

pub returns-clause-standing : goal.returns-clause-standing
returns-clause-standing g c =
    let r = c.requires.1.1.1.1 in
    let old = c.args.self.now in
    let slot = c.args.slot in
    let work = c.in-Some.work in
    let has = c.in-Some.ensures.work in
    let shelf = observed_shelf g.F.Shelf.strict g.F.Shelf.faults c.args.kit.now.shelf c.run-worked.new.kit.shelf in
    let store = observed_store g.S.Store.files g.S.Store.faults c.args.kit.now.store c.run-worked.new.kit.store in
    let may = ap may_run (sym (seen_work old slot work has)) ∙ r.1.1.1.1 in
    let later = c.run-worked.new.work in
    let after : slice_set c.take_out.new.works.items slot (Some later) ≡ slice_set old.works.items slot (Some later) =
    ap (λ (l : List (Option Work)). slice_set l slot (Some later)) c.in-Some.ensures.free ∙ set_twice old.works.items slot None (Some later) in
    stands_where _
    (λ worked done at. run_stands g.base old r.1.1.1.0 slot work later has may c.run-worked.new.book c.run-worked.ensures.book shelf store _ refl after worked done at) c.run-worked.result c.run-worked.ensures.done c.run-worked.ensures.work
