use Rattle.std.proofs.Common.{◌≡◌, inl, Option, Some, None, Result, Ok, refl, sym, subst}
use Rattle.beam_values.specs.declared.fault.Cause.TheVariants.{Call}
use Rattle.bundle_commit.specs.declared.job.Job.{Job}
use Rattle.book_core.specs.declared.live.Taken.{Taken}
use Rattle.book_core.specs.declared.live.Taken.TheVariants as taken
use Rattle.known_jobs.specs.Calls.{CanFailAs}
use Rattle.known_jobs.specs.Jobs.{KnownJob, Setting}
use Rattle.worker_table.specs.Calls.{AfterTake}
use Rattle.worker_table.specs.Notes.{Entry}
use Rattle.worker_table.specs.Passes.{entry_of, setting_of}
use Rattle.book_tests.proofs.table.fail_and_stop.Goals as goal

taken_job : {E : Type 0} (setting : Setting) (r : Result Taken E) (t : Taken) (job : Job) (e e' : Entry) → r ≡ Ok t → t ≡ taken.Job job → AfterTake setting r e e' → e'.job ≡ Some (record { job = job; attempted = None })
taken_job {E = E} setting r t job e e' got is told =
    (subst (λ (x : Taken). AfterTake {E = E} setting (Ok x) e e') is (subst (λ (x : Result Taken E). AfterTake {E = E} setting x e e') got told)).0

pub fail-failure-requires-clause-honest : goal.fail-failure-requires-clause-honest
fail-failure-requires-clause-honest g c =
    let setting = setting_of c.args.table.now in
    let known = taken_job setting c.take_job.result c.in-Ok-Job.field-0 c.in-Ok-Job.job (entry_of c.enroll.new.pass) (entry_of c.take_job.new.pass) c.in-Ok-Job.is c.in-Ok-Job.field-0-is c.take_job.ensures.told in
    subst (λ (k : Option KnownJob). CanFailAs setting k 0 Call) (sym known) (c.if-is_fresh.ensures refl, inl c.requires.loose)
