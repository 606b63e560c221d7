-- A worker that owns a piece, which isn't spent, goes on where its work ends well.
use Rattle.std.proofs.Common.{◌≡◌, ℕ, ◌<◌, ◌≤◌, Option, Some, None, sym, ap, subst, ◌∙◌, arith}
use Rattle.beam_values.specs.declared.piece.Piece.{Piece}
use Rattle.book_core.specs.Work.{worked_to}
use Rattle.bundle_commit.specs.declared.job.Job.TheVariants as job
use Rattle.known_jobs.specs.Calls.{HasAttemptedIn}
use Rattle.combine_plan.specs.Owning.{IsFromStart}

pub onward : (first later : Piece) (attempted : Option ℕ) → later ≡ first → first.spent ≡ None → first.range.from < first.range.to → IsFromStart later.range.from attempted
    → HasAttemptedIn (job.Span later) attempted → first.range.from < worked_to later attempted
onward first later (Some last) same fresh some behind attempted = omega (arith, ap (λ (p : Piece). p.range.from) same, ap (λ (p : Piece). p.range.to) same, some, behind)
onward first later None same fresh some behind attempted =
    let none = attempted (ap (λ (p : Piece). p.spent) same ∙ fresh) in
    absurd (omega (arith, ap (λ (p : Piece). p.range.from) same, ap (λ (p : Piece). p.range.to) same, none, some))
