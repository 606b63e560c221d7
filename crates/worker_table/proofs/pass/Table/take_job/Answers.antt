use Rattle.std.proofs.Common.{refl}
use Rattle.book_core.specs.Steps.{Take}
use Rattle.worker_table.specs.Calls.{take_answer}
use Rattle.worker_table.specs.Passes.{setting_of}
use Rattle.worker_table.proofs.Tells.{keeps_slot, take_tells}
use Rattle.worker_table.proofs.Turning.{at_slot, retold, seated}
use Rattle.worker_table.proofs.pass.Table.take_job.Goals as goal

pub returns-clause-turn : goal.returns-clause-turn
returns-clause-turn g c = let t = c.turn.ensures.turn in at_slot _ _ _ c.slot-slot.ensures.noted (retold _ _ _ _ _ _ t (t.made (setting_of c.args.self.now).known.told))

pub returns-clause-told : goal.returns-clause-told
returns-clause-told g c =
    let t = c.turn.ensures.turn in
    let setting = setting_of c.args.self.now in
    let stepped = retold _ _ _ _ _ _ t (t.made setting.known.told) in
    take_tells _ _ _ c.slot-slot.result c.jobs_are_known_as_they_are_taken.ensures.known c.jobs_are_known_as_they_are_taken.ensures.inside
    (λ b book. c.books_are_sane.ensures.reached setting.known.told b (c.honest_runs_are_runs.ensures setting.known b book.reached)) c.turn.result stepped

pub returns-clause-stays : goal.returns-clause-stays
returns-clause-stays g c =
    let t = c.turn.ensures.turn in
    keeps_slot _ _ _ c.slot-slot.result Take (take_answer c.turn.result) (λ n. refl) (λ n. refl) (retold _ _ _ _ _ _ t (t.made (setting_of c.args.self.now).known.told))

pub returns-clause-table : goal.returns-clause-table
returns-clause-table g c = seated c.args.self.now c.args.pass.now c.turn.new.pass c.requires.table c.turn.ensures.seat c.turn.ensures.slot (returns-clause-stays g c).slot
