use denote.Param.Send.{sendable}
use Rattle.std.proofs.Common.{sym, ap, subst, ◌∙◌}
use Rattle.beam_values.specs.declared.plan.Plan.{Plan}
use Rattle.bundle_work.specs.Openings.{AreOpened, file_names}
use Rattle.bundle_work.specs.Reading.{opened_lengths}
use Rattle.run_engine.proofs.OneKit.{kit_alone, one_free, one_idle}
use Rattle.run_engine.proofs.Resumed.{goes_to_end}
use Rattle.run_engine.proofs.resuming.resume_book.Goals as goal

pub work_alone-end-requires : goal.work_alone-end-requires
work_alone-end-requires g c κs within =
    let f = g.F.Shelf in
    let s = g.S.Store in
    let kit = c.args.kit.now in
    let b = c.args.book in
    let same = c.requires.plan in
    let opened = subst (λ (p : Plan). AreOpened (s.files kit.store) (s.opened kit.store) (file_names p) kit.files) (sym same) c.requires.opened in
    let lengths = ap (λ (p : Plan). opened_lengths p kit.files) same ∙ c.requires.lengths in (
      within.0,
      (
        within.1,
        (
          search (c.type_bounds.send-F, sendable) depth 40,
          (search (c.type_bounds.send-S, sendable) depth 40, (one_free b c.requires.slot, (one_idle b c.requires.slot, (sym same, kit_alone f s b kit opened lengths)))),
        ),
      ),
    )

pub returns-in-Finished-clause-ended : goal.returns-in-Finished-clause-ended
returns-in-Finished-clause-ended g c =
    goes_to_end g.F.Shelf g.S.Store c.args.kit.now c.work_alone-end.new.kit c.args.book c.work_alone-end.new.book c.is_sane.ensures c.work_alone-end.ensures.run c.work_alone-end.result c.work_alone-end.ensures.counted
    c.work_alone-end.ensures.ended c.end_or_none.result c.in-Finished.is c.end_or_none.ensures
