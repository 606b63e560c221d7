use Rattle.std.proofs.Common.{◌≡◌, true, false, map, ap, ◌∙◌, sym, refl}
use Rattle.std.specs.Prelude.{Some, None}
use Rattle.std.proofs.lemmas.Option.{slice_get_within}
use Rattle.book_core.specs.Steps.{Retried, Spent}
use Rattle.lone_worker.proofs.Rounds.{breaks_none}
use Rattle.schedule_replay.specs.Shown.{shown_slot}
use Rattle.schedule_replay.specs.Stands.{may_fail}
use Rattle.schedule_replay.proofs.Ended.{can_fail_now, fail_stands, has_failed}
use Rattle.schedule_replay.proofs.Noted.{has_work, seen_work}
use Rattle.schedule_replay.proofs.stand.Stand.fail.Goals as goal

pub take_out-requires : goal.take_out-requires
take_out-requires g c =
    let old = c.args.self.now in
    let slot = c.args.slot in
    let work = has_work old slot may_fail refl refl c.requires.1 in
    slice_get_within old.works.items slot (Some work.0) work.1

pub unreachable-requires : goal.unreachable-requires
unreachable-requires g c =
    let old = c.args.self.now in
    let slot = c.args.slot in
    let work = has_work old slot may_fail refl refl c.requires.1 in
    let one : Some None ≡ Some (Some work.0) = sym c.in_default.ensures.work ∙ work.1 in
    cc

pub fail-requires : goal.fail-requires
fail-requires g c =
    let old = c.args.self.now in
    let slot = c.args.slot in
    let work = c.in-Some.work in
    let has = c.in-Some.ensures.work in
    let may = ap may_fail (sym (seen_work old slot work has)) ∙ c.requires.1 in
    can_fail_now g.base old c.requires.0 slot work has may

pub returns-in-Retry-clause-done : goal.returns-in-Retry-clause-done
returns-in-Retry-clause-done g c =
    let old = c.args.self.now in
    let slot = c.args.slot in
    let work = c.in-Some.work in
    let has = c.in-Some.ensures.work in
    has_failed g.base old c.requires.0 slot work has c.fail.new.self _ (ap (map shown_slot) c.in-Some.ensures.free) c.last_fault-at.result.0 c.last_fault-at.result.1 Retried
    (c.in-Retry.ensures g.base.setting.known.told) c.last_fault-at.ensures.at c.last_fault-at.ensures.cause false refl

pub returns-in-Retry-clause-standing : goal.returns-in-Retry-clause-standing
returns-in-Retry-clause-standing g c =
    let old = c.args.self.now in
    let slot = c.args.slot in
    let work = c.in-Some.work in
    let has = c.in-Some.ensures.work in
    fail_stands g.base old c.requires.0 slot work has _ c.in-Some.ensures.free c.is_sane.ensures.held c.last_fault-at.result.0 c.last_fault-at.result.1 Retried (c.in-Retry.ensures g.base.setting.known.told)

pub returns-in-Retry-clause-rounds : goal.returns-in-Retry-clause-rounds
returns-in-Retry-clause-rounds g c =
    let old = c.args.self.now in
    let slot = c.args.slot in
    λ inside. c.rounds_are_bounded.ensures.fail old.book c.fail.new.self slot c.last_fault-at.result.0 c.last_fault-at.result.1 Retried c.is_sane.ensures
    (breaks_none old.book slot c.last_fault-at.result.1 inside) (c.in-Retry.ensures g.base.setting.known.told)

pub returns-in-Spent-clause-done : goal.returns-in-Spent-clause-done
returns-in-Spent-clause-done g c =
    let old = c.args.self.now in
    let slot = c.args.slot in
    let work = c.in-Some.work in
    let has = c.in-Some.ensures.work in
    has_failed g.base old c.requires.0 slot work has c.fail.new.self _ (ap (map shown_slot) c.in-Some.ensures.free) c.last_fault-at.result.0 c.last_fault-at.result.1 (Spent c.in-Spent._note)
    (c.in-Spent.ensures g.base.setting.known.told) c.last_fault-at.ensures.at c.last_fault-at.ensures.cause true refl

pub returns-in-Spent-clause-standing : goal.returns-in-Spent-clause-standing
returns-in-Spent-clause-standing g c =
    let old = c.args.self.now in
    let slot = c.args.slot in
    let work = c.in-Some.work in
    let has = c.in-Some.ensures.work in
    fail_stands g.base old c.requires.0 slot work has _ c.in-Some.ensures.free c.is_sane.ensures.held c.last_fault-at.result.0 c.last_fault-at.result.1 (Spent c.in-Spent._note) (c.in-Spent.ensures g.base.setting.known.told)

pub returns-in-Spent-clause-rounds : goal.returns-in-Spent-clause-rounds
returns-in-Spent-clause-rounds g c =
    let old = c.args.self.now in
    let slot = c.args.slot in
    λ inside. c.rounds_are_bounded.ensures.fail old.book c.fail.new.self slot c.last_fault-at.result.0 c.last_fault-at.result.1 (Spent c.in-Spent._note) c.is_sane.ensures
    (breaks_none old.book slot c.last_fault-at.result.1 inside) (c.in-Spent.ensures g.base.setting.known.told)
