use denote.Param.Send.{sendable}
use Rattle.std.proofs.Common.{◌≡◌, ◌+◌, List, Some, sym, ap, subst, ◌∙◌}
use Rattle.beam_ports.specs.declared.store.Opened.{Opened}
use Rattle.beam_values.specs.declared.plan.Plan.{Plan}
use Rattle.bundle_work.specs.Openings.{AreOpened, file_names}
use Rattle.bundle_work.specs.Reading.{opened_lengths}
use Rattle.run_engine.specs.Pausing.{IsFirstBook}
use Rattle.run_engine.proofs.OneKit.{kit_alone, one_free, one_idle, seen_alone}
use Rattle.run_engine.proofs.Paused.{first_files, first_plan, first_slots, given_up, of_files, stops, told_files}
use Rattle.run_engine.proofs.PlanEnds.{complete}
use Rattle.run_engine.proofs.pausing.pause_plan.Goals as goal

pub work_alone-end-requires : goal.work_alone-end-requires
work_alone-end-requires g c κs within =
    let f = g.F.Shelf in
    let s = g.S.Store in
    let kit = c.args.kit.now in
    let plan = c.args.graph in
    let options = c.args.options.now in
    let b = c.in-Ok.book in
    let first = subst (λ (l : List Opened). IsFirstBook plan l options b) c.as_slice.ensures c.in-Ok.ensures.book in
    let same = first_plan f s plan options kit kit c.requires.opened b first in
    let slots = first_slots f s plan options kit kit c.requires.opened b first in
    let opened = subst (λ (p : Plan). AreOpened (s.files kit.store) (s.opened kit.store) (file_names p) kit.files) (sym same) c.requires.opened in
    let lengths = ap (λ (p : Plan). opened_lengths p kit.files) same ∙ sym (first_files f s plan options kit kit c.requires.opened b first) in (
      within.0,
      (
        within.1,
        (
          search (c.type_bounds.send-F, sendable) depth 40,
          (search (c.type_bounds.send-S, sendable) depth 40, (one_free b slots, (one_idle b slots, (c.in-Ok.ensures.plan ∙ sym same, kit_alone f s b kit opened lengths)))),
        ),
      ),
    )

pub returns-in-Finished-clause-paused : goal.returns-in-Finished-clause-paused
returns-in-Finished-clause-paused g c =
    let kit = c.args.kit.now in
    let plan = c.args.graph in
    let options = c.args.options.now in
    let enrolled = c.in-Ok.book in
    let first = subst (λ (l : List Opened). IsFirstBook plan l options enrolled) c.as_slice.ensures c.in-Ok.ensures.book in
    stops g.F.Shelf g.S.Store plan options kit c.work_alone-end.new.kit c.requires.opened enrolled first c.work_alone-end.new.book c.work_alone-end.ensures.run c.work_alone-end.result c.work_alone-end.ensures.counted c.args.commits
    c.honest_runs_are_runs.ensures c.books_with_no_job_left_are_through.ensures c.in-Finished.is c.work_alone-end.ensures.ended

pub returns-in-Finished-clause-lengths : goal.returns-in-Finished-clause-lengths
returns-in-Finished-clause-lengths g c =
    let kit = c.args.kit.now in
    let plan = c.args.graph in
    let options = c.args.options.now in
    let enrolled = c.in-Ok.book in
    let first = subst (λ (l : List Opened). IsFirstBook plan l options enrolled) c.as_slice.ensures c.in-Ok.ensures.book in
    of_files g.F.Shelf g.S.Store plan options kit c.work_alone-end.new.kit c.requires.opened enrolled first c.work_alone-end.new.book c.work_alone-end.ensures.run

pub returns-in-Spent-clause-refused : goal.returns-in-Spent-clause-refused
returns-in-Spent-clause-refused g c =
    let kit = c.args.kit.now in
    let plan = c.args.graph in
    let options = c.args.options.now in
    let enrolled = c.in-Ok.book in
    let first = subst (λ (l : List Opened). IsFirstBook plan l options enrolled) c.as_slice.ensures c.in-Ok.ensures.book in
    given_up g.F.Shelf g.S.Store plan options kit c.work_alone-end.new.kit c.requires.opened enrolled first c.work_alone-end.new.book c.work_alone-end.ensures.run c.in-Spent._note c.in-Spent.ensures.counted (Some (c.args.commits + 1))
    c.in-Spent.ensures.ended c.is_sane.ensures c.end_or_none.result c.end_or_none.ensures

pub returns-in-Spent-clause-complete : goal.returns-in-Spent-clause-complete
returns-in-Spent-clause-complete g c =
    let kit = c.args.kit.now in
    let plan = c.args.graph in
    let options = c.args.options.now in
    let enrolled = c.in-Ok.book in
    let first = subst (λ (l : List Opened). IsFirstBook plan l options enrolled) c.as_slice.ensures c.in-Ok.ensures.book in
    let refused =
    given_up g.F.Shelf g.S.Store plan options kit c.work_alone-end.new.kit c.requires.opened enrolled first c.work_alone-end.new.book c.work_alone-end.ensures.run c.in-Spent._note c.in-Spent.ensures.counted
    (Some (c.args.commits + 1)) c.in-Spent.ensures.ended c.is_sane.ensures c.end_or_none.result c.end_or_none.ensures in
    complete (seen_alone g.F.Shelf g.S.Store kit c.work_alone-end.new.kit) plan options c.honest_runs_are_runs.ensures c.runs_without_poison_fail_by_reads.ensures.reads c.runs_that_set_aside_are_stopped_by_reads.ensures
    c.runs_without_poison_positions_fail_by_reads.ensures c.end_or_none.result.status c.end_or_none.result.outcome refused.end

pub returns-in-Spent-clause-told_lengths : goal.returns-in-Spent-clause-told_lengths
returns-in-Spent-clause-told_lengths g c =
    let kit = c.args.kit.now in
    let plan = c.args.graph in
    let options = c.args.options.now in
    let enrolled = c.in-Ok.book in
    let first = subst (λ (l : List Opened). IsFirstBook plan l options enrolled) c.as_slice.ensures c.in-Ok.ensures.book in
    told_files g.F.Shelf g.S.Store plan options kit c.work_alone-end.new.kit c.requires.opened enrolled first c.work_alone-end.new.book c.work_alone-end.ensures.run c.end_or_none.result c.end_or_none.ensures
