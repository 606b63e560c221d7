-- A batch or a key job is run whole, and no position is claimed of it.
use Rattle.std.proofs.Common.{◌≡◌, ℕ, true, false, List, [], ◌∷◌, map, sym, ap, ◌∙◌, subst}
use Rattle.std.specs.Prelude.{Option, Some, None}
use Rattle.std.specs.List.{list_any}
use Rattle.beam_values.specs.declared.arrival.Arrival.{Arrival}
use Rattle.beam_model.specs.Chains.{Arrives, Output}
use Rattle.beam_model.specs.Spread.{is_poison}
use Rattle.bundle_commit.specs.declared.job.Job.{Job}
use Rattle.bundle_commit.specs.declared.job.Job.TheVariants as job
use Rattle.bundle_commit.specs.declared.job.Receipt.{Receipt}
use Rattle.book_core.specs.Book.{SeenBook}
use Rattle.known_jobs.specs.Calls.{CanCommitAs}
use Rattle.known_jobs.specs.Jobs.{KnownJob, Setting, known_at, known_in}
use Rattle.lone_worker.specs.Claims.{AreClaims, ClaimsLead, MadeClaim}
use Rattle.lone_worker.specs.Work.{Base, IsJobAt, IsSound, IsWholeAt, may_run_in}
use Rattle.lone_worker.specs.declared.work.Stage.{Stage}
use Rattle.lone_worker.specs.declared.work.Work.{Work}
use Rattle.lone_worker.proofs.Ranges.{none_behind}

-- it is known as it was taken
pub run_known : (base : Base) (known : Option KnownJob) (whole : Job) (stage : Stage) (work : Work) → may_run_in whole stage ≡ true → IsJobAt base known whole work
    → known ≡ Some (record { job = whole; attempted = None })
run_known base known (job.Span piece) stage work may at = absurd (cc)
run_known base known (job.Batch node first panes attempts) stage work may at = at.0
run_known base known (job.Key node cell key span inputs state timers attempts) stage work may at = at.0

-- so it is after it was run
pub whole_at : (base : Base) (known : Option KnownJob) (whole : Job) (stage : Stage) (work : Work) → may_run_in whole stage ≡ true → known ≡ Some (record { job = whole; attempted = None })
    → IsWholeAt base known work.stage work.receipt → IsJobAt base known whole work
whole_at base known (job.Span piece) stage work may is at = absurd (cc)
whole_at base known (job.Batch node first panes attempts) stage work may is at = (is, at)
whole_at base known (job.Key node cell key span inputs state timers attempts) stage work may is at = (is, at)

abbrev job_or : Job → Option KnownJob → Job
job_or other None = other
job_or other (Some known) = known.job

no_claims : (b new : SeenBook) (slot : ℕ) (whole : Job) (stage : Stage) → may_run_in whole stage ≡ true → known_at b slot ≡ Some (record { job = whole; attempted = None })
    → (claims : List MadeClaim) → ClaimsLead slot b claims new → new ≡ b
no_claims b new slot whole stage may is [] lead = lead
no_claims b new slot whole stage may is (claim ∷ later) lead =
    let step = lead.1 in
    let range : KnownJob = record { job = job.Span step.piece; attempted = step.attempted } in
    let all : KnownJob = record { job = whole; attempted = None } in
    let known : known_at b slot ≡ Some range = ap (known_in b.panes) step.works.works in
    let one : Some range ≡ Some all = sym known ∙ is in
    let same : job.Span step.piece ≡ whole = ap (job_or whole) one in
    let never : false ≡ true = subst (λ (j : Job). may_run_in j stage ≡ true) (sym same) may in
    absurd (cc)

-- nothing changes in the book
pub none_claimed : (b new : SeenBook) (slot : ℕ) (whole : Job) (stage : Stage) → may_run_in whole stage ≡ true → known_at b slot ≡ Some (record { job = whole; attempted = None })
    → AreClaims slot b new → new ≡ b
none_claimed b new slot whole stage may is are = no_claims b new slot whole stage may is are.claims are.lead

arrived : (arrivals : List Arrival) (outputs : List Output) → map Arrives arrivals ≡ outputs → list_any is_poison outputs ≡ false
arrived arrivals outputs is = none_behind [] arrivals outputs is

-- what it brings is no poison
pub run_sound : (setting : Setting) (known : Option KnownJob) (whole : Job) (stage : Stage) (receipt : Receipt) → may_run_in whole stage ≡ true → known ≡ Some (record { job = whole; attempted = None })
    → CanCommitAs setting known receipt → IsSound setting known
run_sound setting known (job.Span piece) stage receipt may is given = absurd (cc)
run_sound setting known (job.Batch node first panes attempts) stage receipt may is given =
    let told = (subst (λ (k : Option KnownJob). CanCommitAs setting k receipt) is given).1 in
    subst (IsSound setting) (sym is) (λ known. arrived receipt.arrivals _ told.0)
run_sound setting known (job.Key node cell key span inputs state timers attempts) stage receipt may is given =
    let told = (subst (λ (k : Option KnownJob). CanCommitAs setting k receipt) is given).1 in
    subst (IsSound setting) (sym is) (λ known. arrived receipt.arrivals _ told.arrives)
