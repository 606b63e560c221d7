use Rattle.std.proofs.Common.{◌≡◌, map, ap, ◌∙◌, sym, refl, arith}
use Rattle.std.specs.Prelude.{Some, None}
use Rattle.std.proofs.lemmas.Option.{slice_get_within}
use Rattle.book_core.specs.Steps.{Commit, Committed, Step}
use Rattle.known_jobs.specs.Known.{goes_on_at}
use Rattle.schedule_replay.specs.Shown.{shown_slot}
use Rattle.schedule_replay.specs.Stands.{may_commit}
use Rattle.schedule_replay.proofs.Ended.{commit_can, commit_stands, drops_grow, has_committed, panes_grow}
use Rattle.schedule_replay.proofs.Noted.{has_work, seen_work}
use Rattle.schedule_replay.proofs.stand.Stand.commit.Goals as goal

pub take_out-requires : goal.take_out-requires
take_out-requires g c =
    let old = c.args.self.now in
    let slot = c.args.slot in
    let work = has_work old slot may_commit refl refl c.requires.1.1 in
    slice_get_within old.works.items slot (Some work.0) work.1

pub unreachable-requires : goal.unreachable-requires
unreachable-requires g c =
    let old = c.args.self.now in
    let slot = c.args.slot in
    let work = has_work old slot may_commit refl refl c.requires.1.1 in
    let one : Some None ≡ Some (Some work.0) = sym c.in_default.ensures.work ∙ work.1 in
    cc

pub commit-requires : goal.commit-requires
commit-requires g c =
    let old = c.args.self.now in
    let slot = c.args.slot in
    let work = c.in-Some.work in
    let has = c.in-Some.ensures.work in
    let may = ap may_commit (sym (seen_work old slot work has)) ∙ c.requires.1.1 in
    (commit_can g.base old c.requires.0 slot work has c.is_sane.ensures.held c.requires.1.0 may c.into_receipt.result c.into_receipt.ensures.same c.into_receipt.ensures.time).0

pub overflow_sub-result : goal.overflow_sub-result
overflow_sub-result g c =
    let old = c.args.self.now in
    let slot = c.args.slot in
    let work = c.in-Some.work in
    let has = c.in-Some.ensures.work in
    let may = ap may_commit (sym (seen_work old slot work has)) ∙ c.requires.1.1 in
    let can = commit_can g.base old c.requires.0 slot work has c.is_sane.ensures.held c.requires.1.0 may c.into_receipt.result c.into_receipt.ensures.same c.into_receipt.ensures.time in
    let made = c.in-Ok.ensures.ok g.base.setting.known.told can.1 in
    let step : Step g.base.setting.known.told old.book slot Commit Committed c.commit.new.self = (c.into_receipt.result, made.0, made.1) in
    omega (arith, panes_grow g.base old c.requires.0 slot work has c.commit.new.self step, c.fired-fired.ensures, c.fired.ensures)

pub overflow_sub-result-in-Ok : goal.overflow_sub-result-in-Ok
overflow_sub-result-in-Ok g c =
    let old = c.args.self.now in
    let slot = c.args.slot in
    let work = c.in-Some.work in
    let has = c.in-Some.ensures.work in
    let may = ap may_commit (sym (seen_work old slot work has)) ∙ c.requires.1.1 in
    let can = commit_can g.base old c.requires.0 slot work has c.is_sane.ensures.held c.requires.1.0 may c.into_receipt.result c.into_receipt.ensures.same c.into_receipt.ensures.time in
    let made = c.in-Ok.ensures.ok g.base.setting.known.told can.1 in
    let step : Step g.base.setting.known.told old.book slot Commit Committed c.commit.new.self = (c.into_receipt.result, made.0, made.1) in
    omega (arith, drops_grow g.base old c.requires.0 slot work has c.commit.new.self step, c.dropped-dropped.ensures, c.dropped.ensures)

pub returns-in-Ok-clause-done : goal.returns-in-Ok-clause-done
returns-in-Ok-clause-done g c =
    let old = c.args.self.now in
    let slot = c.args.slot in
    let work = c.in-Some.work in
    let has = c.in-Some.ensures.work in
    let may = ap may_commit (sym (seen_work old slot work has)) ∙ c.requires.1.1 in
    let can = commit_can g.base old c.requires.0 slot work has c.is_sane.ensures.held c.requires.1.0 may c.into_receipt.result c.into_receipt.ensures.same c.into_receipt.ensures.time in
    let made = c.in-Ok.ensures.ok g.base.setting.known.told can.1 in
    let step : Step g.base.setting.known.told old.book slot Commit Committed c.commit.new.self = (c.into_receipt.result, made.0, made.1) in
    has_committed g.base old c.requires.0 slot work has c.commit.new.self _ (ap (map shown_slot) c.in-Some.ensures.free) step _ _ (grind (arith, c.fired.ensures, c.fired-fired.ensures)) (grind (arith, c.dropped.ensures, c.dropped-dropped.ensures))

pub returns-in-Ok-clause-standing : goal.returns-in-Ok-clause-standing
returns-in-Ok-clause-standing g c =
    let old = c.args.self.now in
    let slot = c.args.slot in
    let work = c.in-Some.work in
    let has = c.in-Some.ensures.work in
    let may = ap may_commit (sym (seen_work old slot work has)) ∙ c.requires.1.1 in
    let can = commit_can g.base old c.requires.0 slot work has c.is_sane.ensures.held c.requires.1.0 may c.into_receipt.result c.into_receipt.ensures.same c.into_receipt.ensures.time in
    let made = c.in-Ok.ensures.ok g.base.setting.known.told can.1 in
    let step : Step g.base.setting.known.told old.book slot Commit Committed c.commit.new.self = (c.into_receipt.result, made.0, made.1) in
    commit_stands g.base old c.requires.0 slot work has _ c.in-Some.ensures.free c.is_sane.ensures.held step

pub returns-in-Ok-clause-rounds : goal.returns-in-Ok-clause-rounds
returns-in-Ok-clause-rounds g c =
    let old = c.args.self.now in
    let slot = c.args.slot in
    let work = c.in-Some.work in
    let has = c.in-Some.ensures.work in
    let may = ap may_commit (sym (seen_work old slot work has)) ∙ c.requires.1.1 in
    let can = commit_can g.base old c.requires.0 slot work has c.is_sane.ensures.held c.requires.1.0 may c.into_receipt.result c.into_receipt.ensures.same c.into_receipt.ensures.time in
    let made = c.in-Ok.ensures.ok g.base.setting.known.told can.1 in
    let step : Step g.base.setting.known.told old.book slot Commit Committed c.commit.new.self = (c.into_receipt.result, made.0, made.1) in
    λ attempted. c.rounds_are_bounded.ensures.commit g.base.setting.known.told old.book c.commit.new.self slot c.is_sane.ensures step (goes_on_at old.book slot attempted)
