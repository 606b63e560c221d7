use Rattle.std.proofs.Common.{List, length, sym, subst, ap, ◌∙◌}
use Rattle.std.specs.Option.{option_copied, option_map}
use Rattle.beam_values.specs.declared.marks.StageMarks.{StageMarks}
use Rattle.group_cells.specs.Commits.{AreRounds, IsCommitted}
use Rattle.stateful_core.specs.Cells.{key_holds}
use Rattle.stateful_core.specs.Opening.{done_of}
use Rattle.stateful_core.specs.Placing.{place}
use Rattle.watermarks.specs.Holds.{hold_at}
use Rattle.book_core.specs.KeyCells.{cells_in}
use Rattle.book_core.specs.Indexes.{AreLeastWith}
use Rattle.book_core.proofs.CommitFired.{all_written, fired_as, rises_as}
use Rattle.book_core.proofs.committing.fire.Goals as goal

pub commit_groups-requires-clause-holds : goal.commit_groups-requires-clause-holds
commit_groups-requires-clause-holds c = ap length c.as_slice.ensures.value ∙ c.in_ok-holds.ensures.sized ∙ c.requires.held

pub commit_groups-requires-clause-rises : goal.commit_groups-requires-clause-rises
commit_groups-requires-clause-rises c =
    let came = key_holds (place c.args.plan.now c.args.before.now (option_map done_of (option_copied c.args.done)) c.args.arrivals.now (cells_in c.args.keys.now)) in
    rises_as c.args.plan.now c.args.held.now came c.as_slice.result.now c.args.before.now c.as_mut_slice.result.now
    (subst (AreLeastWith c.args.plan.now c.args.held.now came) (sym c.as_slice.ensures.value) c.in_ok-holds.ensures.least)
    (c.as_mut_slice.ensures.value ∙ c.in_ok-marks.ensures.items) c.requires.rises

pub returns-clause-rounds : goal.returns-clause-rounds
returns-clause-rounds c =
    subst (λ (l : List StageMarks). AreRounds c.args.plan.now c.args.commit l c.from_vec.result c.args.arrivals.now c.args.groups.now.cells c.commit_groups.new.groups.cells c.in_ok-panes.panes)
    (c.as_mut_slice.ensures.value ∙ c.in_ok-marks.ensures.items)
    (subst (λ (l : List StageMarks). AreRounds c.args.plan.now c.args.commit c.as_mut_slice.result.now l c.args.arrivals.now c.args.groups.now.cells c.commit_groups.new.groups.cells c.in_ok-panes.panes)
    (sym (all_written c.commit_groups.new.marks c.in_ok-marks.marks.items c.in_ok-marks.marks.len c.from_vec.result c.from_vec.ensures
    (c.in_ok-panes.ensures.committed.marks.sized ∙ sym c.requires.marks ∙ sym c.in_ok-marks.ensures.len)))
    c.in_ok-panes.ensures.rounds)

pub returns-clause-committed : goal.returns-clause-committed
returns-clause-committed c =
    let came = key_holds (place c.args.plan.now c.args.before.now (option_map done_of (option_copied c.args.done)) c.args.arrivals.now (cells_in c.args.keys.now)) in
    fired_as c.args.plan.now c.args.commit c.args.held.now came c.as_slice.result.now c.args.before.now c.from_vec.result c.args.arrivals.now c.commit_groups.new.arrivals
    c.args.groups.now c.commit_groups.new.groups c.in_ok-panes.panes
    (subst (AreLeastWith c.args.plan.now c.args.held.now came) (sym c.as_slice.ensures.value) c.in_ok-holds.ensures.least)
    (subst (λ (l : List StageMarks). IsCommitted c.args.plan.now c.args.commit l c.from_vec.result (hold_at c.as_slice.result.now) c.args.arrivals.now c.commit_groups.new.arrivals c.args.groups.now c.commit_groups.new.groups c.in_ok-panes.panes)
    (c.as_mut_slice.ensures.value ∙ c.in_ok-marks.ensures.items)
    (subst (λ (l : List StageMarks). IsCommitted c.args.plan.now c.args.commit c.as_mut_slice.result.now l (hold_at c.as_slice.result.now) c.args.arrivals.now c.commit_groups.new.arrivals c.args.groups.now c.commit_groups.new.groups c.in_ok-panes.panes)
    (sym (all_written c.commit_groups.new.marks c.in_ok-marks.marks.items c.in_ok-marks.marks.len c.from_vec.result c.from_vec.ensures
    (c.in_ok-panes.ensures.committed.marks.sized ∙ sym c.requires.marks ∙ sym c.in_ok-marks.ensures.len)))
    c.in_ok-panes.ensures.committed))
