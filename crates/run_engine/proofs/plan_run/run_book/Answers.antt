use Rattle.std.proofs.Common.{◌≡◌, ◌+◌, ◌++◌, List, refl, sym, ap, subst, ◌∙◌, arith}
use denote.Param.Send.{sendable}
use Rattle.std.specs.List.{AllByRecursion, sum_by}
use Rattle.std.proofs.lemmas.List.Sums.{sum_by-cons}
use Rattle.beam_values.specs.declared.plan.Plan.{Plan}
use Rattle.book_core.specs.Book.{SeenBook}
use Rattle.turn_desk.specs.declared.held.Note.{Note}
use Rattle.worker_table.specs.Ends.{IsEnded}
use Rattle.worker_table.specs.Notes.{Entry, fresh}
use Rattle.known_jobs.specs.Jobs.{Setting}
use Rattle.worker_table.specs.Passes.{note_of_pass, setting_of}
use Rattle.bundle_work.specs.Openings.{AreOpened, file_names}
use Rattle.worker_loop.specs.Workers.{sum_calls, sum_reads}
use Rattle.bundle_work.specs.declared.kit.Kit.{Kit}
use Rattle.bundle_work.proofs.Answered.{kit_same}
use Rattle.worker_loop.proofs.Crews.{each_same}
use Rattle.run_engine.specs.Kits.{observed_kits}
use Rattle.run_engine.specs.Openings.{AreOpenedByAll}
use Rattle.run_engine.specs.PlanRun.{lengths_of_first}
use Rattle.bundle_work.specs.Reading.{opened_lengths}
use Rattle.run_engine.proofs.PlanRuns.{first_is, first_lengths_are, if_ok, if_outcome, kits_fit, lengths_of_all, of_first, opening_reached, plan_ends, some_ended, told_each}
use Rattle.run_engine.proofs.plan_run.run_book.Goals as goal

pub returns-in_err-lengths-clause-kept : goal.returns-in_err-lengths-clause-kept
returns-in_err-lengths-clause-kept g c =
    each_same _ (λ kit. (refl, kit_same g.F.Shelf.faults g.F.Shelf.strict g.S.Store.faults g.S.Store.files g.S.Store.opened kit.shelf kit.store)) c.args.kits.now

pub returns-in_err-plan-clause-kept : goal.returns-in_err-plan-clause-kept
returns-in_err-plan-clause-kept g c =
    each_same _ (λ kit. (refl, kit_same g.F.Shelf.faults g.F.Shelf.strict g.S.Store.faults g.S.Store.files g.S.Store.opened kit.shelf kit.store)) c.args.kits.now

pub returns-in_err-book-clause-kept : goal.returns-in_err-book-clause-kept
returns-in_err-book-clause-kept g c =
    each_same _ (λ kit. (refl, kit_same g.F.Shelf.faults g.F.Shelf.strict g.S.Store.faults g.S.Store.files g.S.Store.opened kit.shelf kit.store)) c.args.kits.now

pub returns-in_err-table-clause-kept : goal.returns-in_err-table-clause-kept
returns-in_err-table-clause-kept g c =
    each_same _ (λ kit. (refl, kit_same g.F.Shelf.faults g.F.Shelf.strict g.S.Store.faults g.S.Store.files g.S.Store.opened kit.shelf kit.store)) c.args.kits.now

pub table_for-requires : goal.table_for-requires
table_for-requires g c κs within = (
  within.0,
  (
    within.1,
    (
      search (c.type_bounds.send-F, sendable) depth 40,
      (
        search (c.type_bounds.send-S, sendable) depth 40,
        (opening_reached _ c.args.graph c.in_ok-lengths.lengths c.args.options.now c.in_ok-book.book c.in_ok-book.ensures, ap (λ (b : SeenBook). b.slots) c.in_ok-book.ensures.is),
      ),
    ),
  ),
)

pub work_all-requires-clause-kits : goal.work_all-requires-clause-kits
work_all-requires-clause-kits g c κs within =
    let kits = c.args.kits.now in
    let plan = c.args.graph in
    let setting = setting_of c.in_ok-table.table in
    let first = c.index-kits-0.result in
    let of_plan : setting.plan ≡ plan = ap (λ (s : Setting). s.plan) c.in_ok-table.ensures.setting ∙ ap (λ (b : SeenBook). b.plan) c.in_ok-book.ensures.is in
    let of_files = ap (λ (s : Setting). s.files) c.in_ok-table.ensures.setting ∙ ap (λ (b : SeenBook). b.files) c.in_ok-book.ensures.is in
    let shown = c.as_slice.ensures ∙ ap (λ (k : Kit _ _). k.files) (sym c.index-kits-0.is) in
    let lengths = of_files ∙ c.in_ok-lengths.ensures.exact ∙ ap (opened_lengths plan) shown ∙ first_is plan kits first c.requires.some c.index-kits-0.is in
    kits_fit g.F.Shelf.strict g.S.Store.files g.S.Store.opened setting kits (ap (λ (s : Setting). s.known) c.in_ok-table.ensures.setting)
    (subst (λ (p : Plan). AreOpenedByAll g.S.Store.files g.S.Store.opened p kits) (sym of_plan) c.requires.opened) (ap (λ (p : Plan). lengths_of_first p kits) of_plan ∙ sym lengths)

pub returns-clause-ended : goal.returns-clause-ended
returns-clause-ended g c =
    let kits = c.args.kits.now in
    let plan = c.args.graph in
    let setting = setting_of c.in_ok-table.table in
    let first = c.index-kits-0.result in
    let seen = observed_kits g.F.Shelf g.S.Store kits c.work_all.new.kits in
    let of_book = c.in_ok-table.ensures.setting in
    let opening = c.in_ok-book.ensures.is in
    let of_plan : setting.plan ≡ plan = ap (λ (s : Setting). s.plan) of_book ∙ ap (λ (b : SeenBook). b.plan) opening in
    let of_files : setting.files ≡ c.in_ok-lengths.lengths = ap (λ (s : Setting). s.files) of_book ∙ ap (λ (b : SeenBook). b.files) opening in
    let with_options : setting.options ≡ c.args.options.now = ap (λ (s : Setting). s.options) of_book ∙ ap (λ (b : SeenBook). b.options) opening in
    let shown = c.as_slice.ensures ∙ ap (λ (k : Kit _ _). k.files) (sym c.index-kits-0.is) in
    let opened = of_first (λ kit. AreOpened (g.S.Store.files kit.store) (g.S.Store.opened kit.store) (file_names plan) kit.files) kits first first c.requires.some c.index-kits-0.is c.requires.opened.each in
    let tells = of_first (λ kit. _) kits first first c.requires.some c.index-kits-0.is (told_each g.F.Shelf.strict g.S.Store.files g.S.Store.opened kits) in
    let lengths = first_lengths_are (g.S.Store.files first.store) (g.S.Store.opened first.store) plan first.files c.as_slice.result.now c.in_ok-lengths.lengths shown c.in_ok-lengths.ensures.items opened in
    let all = lengths_of_all seen.store.files (g.S.Store.files first.store) plan c.in_ok-lengths.lengths tells lengths in
    let worked = c.in_ok-_all.ensures.worked in
    let about = worked.behind ∙ ap (λ (n : Note (List Entry)). n.about ++ worked.entries) c.in_ok-table.ensures.note in
    let ended = subst (AllByRecursion (λ (e : Entry). IsEnded c.close.result e.ending)) about c.close.ensures.ended in
    let calls = c.close.ensures.calls in
    let reads = c.close.ensures.reads in
    let same_calls : sum_by (λ (e : Entry). e.calls) (note_of_pass c.work_all.new.pass).about ≡ 0 + sum_calls worked.entries = ap (sum_by (λ (e : Entry). e.calls)) about ∙ sum_by-cons (λ (e : Entry). e.calls) fresh worked.entries in
    let same_reads : sum_by (λ (e : Entry). e.reads) (note_of_pass c.work_all.new.pass).about ≡ 0 + sum_reads worked.entries = ap (sum_by (λ (e : Entry). e.reads)) about ∙ sum_by-cons (λ (e : Entry). e.reads) fresh worked.entries in
    if_ok c.end_of.result
    (λ end is. plan_ends seen refl refl plan c.args.options.now setting (ap (λ (s : Setting). s.known) of_book) of_plan with_options
    (λ told same. of_files ∙ all.told_are told same) c.close.result c.close.ensures.book c.honest_runs_are_runs.ensures c.attempts_are_counted.ensures.noted
    (omega (arith, calls, same_calls, worked.calls)) (omega (arith, reads, same_reads, worked.reads)) c.requires.allowed.attempts.1 c.in_ok-_all._all.ends worked.entries
    (some_ended c.in_ok-_all._all.ends kits c.in_ok-_all.ensures.count c.requires.some) worked.ended ended.1 end is)
    c.end_of.ensures

pub returns-clause-lengths : goal.returns-clause-lengths
returns-clause-lengths g c =
    let kits = c.args.kits.now in
    let plan = c.args.graph in
    let first = c.index-kits-0.result in
    let of_files = ap (λ (s : Setting). s.files) c.in_ok-table.ensures.setting ∙ ap (λ (b : SeenBook). b.files) c.in_ok-book.ensures.is in
    let shown = c.as_slice.ensures ∙ ap (λ (k : Kit _ _). k.files) (sym c.index-kits-0.is) in
    let exact = c.in_ok-lengths.ensures.exact ∙ ap (opened_lengths plan) shown in
    if_ok c.end_of.result (λ end is. if_outcome (λ o. o.files ≡ lengths_of_first plan kits) end.outcome is.outcome is.some (is.of_book.files ∙ c.close.ensures.book.files ∙ of_files ∙ exact ∙ first_is plan kits first c.requires.some c.index-kits-0.is)) c.end_of.ensures
