-- A slot claims the next position of its range.
use Rattle.std.proofs.Common.{◌≡◌, ◌⊎◌, ℕ, true, false, refl}
use Rattle.std.specs.Prelude.{IsSomeAnd, None, nat_lt}
use Rattle.beam_values.specs.declared.piece.Piece.{Piece}
use Rattle.bundle_commit.specs.declared.job.Job.TheVariants as job
use Rattle.book_core.specs.Book.{SeenBook}
use Rattle.book_core.specs.Calls.{CanClaim, Makes, live_piece}
use Rattle.book_core.specs.Facts.{AreHeldOnce}
use Rattle.book_core.specs.Steps.{Claim, Claimed}
use Rattle.known_jobs.specs.Calls.{CanClaimAs}
use Rattle.known_jobs.specs.Carried as carried
use Rattle.known_jobs.specs.Jobs.{known_at, setting_for}
use Rattle.known_jobs.specs.Known.{known_where}
use Rattle.known_jobs.proofs.Claims.{claim_ends, claim_told}
use Rattle.bundle_work.specs.Stretches.{CanClaimFrom}
use Rattle.bundle_work.proofs.Claiming.{IsClaimOf, can_claim, claim_made}
use Rattle.lone_worker.specs.Work.{Base, IsFresh, IsGoing, IsWorkAt, may_claim_in}
use Rattle.lone_worker.specs.declared.work.Work.{Work}
use Rattle.lone_worker.proofs.Ranges.{can_go}
use Rattle.lone_worker.proofs.Works.{goes, opened}

module _ (base : Base) (b : SeenBook) (slot : ℕ) (piece : Piece) (held : AreHeldOnce b) (work : Work) (is : work.job ≡ job.Span piece) (may : may_claim_in work.job work.stage ≡ true)
    (at : IsWorkAt base (known_at b slot) work) where
  pub going : IsFresh piece (known_at b slot) work.next work.staged ⊎ IsGoing base piece (known_at b slot) work.next work.staged
  going = goes base (known_at b slot) work piece is at (opened base (known_at b slot) work piece is may)

  pub can : CanClaimFrom piece (known_at b slot) work.next
  can = can_go base piece (known_at b slot) work.next work.staged going

  may_claim : CanClaimAs (known_at b slot) work.next
  may_claim = can_claim piece (known_at b slot) work.next can

  -- the book allows it
  pub allowed : CanClaim b slot work.next
  allowed =
      carried.can_claim (setting_for (record { told = None; strict = false }) b) b slot (known_at b slot) refl (known_where (λ known. CanClaimAs known work.next) (λ h. h) b slot held may_claim) work.next may_claim

  -- what is known after it
  pub made : (new : SeenBook) (end : ℕ) → Makes b slot (Claim work.next) (Claimed (nat_lt work.next end)) new → IsSomeAnd (live_piece new slot) (λ piece. piece.range.to ≡ end)
      → IsClaimOf piece can.now (known_at b slot) work.next end (known_at new slot)
  made new end makes ends =
      claim_made piece (known_at b slot) work.next (nat_lt work.next end) end (known_at new slot) can
      (claim_told b new slot work.next (nat_lt work.next end) (known_at b slot) (known_where (λ known. CanClaimAs known work.next) (λ h. h) b slot held may_claim) (makes None))
      (claim_ends new slot end ends)
