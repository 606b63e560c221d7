-- What a claim of a slot leaves of its range, and of the job as it was known.
use Rattle.std.proofs.Common.{◌≡◌, ℕ, Bool, List, sym, ap, ◌∙◌, subst}
use Rattle.std.specs.Prelude.{Option, Some, None, IsSomeAnd, nat_lt}
use Rattle.std.proofs.lemmas.Option.{slice_get_within}
use Rattle.beam_values.specs.declared.cell.Pane.{Pane}
use Rattle.beam_values.specs.declared.piece.Piece.{Piece}
use Rattle.bundle_commit.specs.declared.job.Job.TheVariants as job
use Rattle.book_core.specs.Book.{SeenBook, slot_at}
use Rattle.book_core.specs.Calls.{Makes, live_piece, piece_in}
use Rattle.book_core.specs.Steps.{Claim, Claimed, IsClaiming, Step}
use Rattle.book_core.specs.declared.live.Live.{Live}
use Rattle.book_core.specs.declared.live.Live.TheVariants as live
use Rattle.book_core.proofs.HeldMarks.{slice_get-set_same}
use Rattle.known_jobs.specs.Calls.{AfterClaim, EndsAt}
use Rattle.known_jobs.specs.Jobs.{IsJobOf, KnownJob, known_at, known_in}

-- the slot works the range as it was
claimed_at : (b new : SeenBook) (slot p : ℕ) (granted : Bool) (step : IsClaiming b slot p granted new) → slot_at new slot ≡ Some (Some (live.Span step.piece (Some p)))
claimed_at b new slot p granted step =
    ap (λ (x : SeenBook). slot_at x slot) step.is
    ∙ slice_get-set_same b.slots slot (Some (live.Span step.piece (Some p))) (slice_get_within b.slots slot (Some (live.Span step.piece step.attempted)) step.works.works)

claim_stays : (b new : SeenBook) (slot p : ℕ) (granted : Bool) (step : IsClaiming b slot p granted new) → live_piece new slot ≡ Some step.piece
claim_stays b new slot p granted step = ap piece_in (claimed_at b new slot p granted step)

pub claimed_live : (b new : SeenBook) (slot p : ℕ) (granted : Bool) → Makes b slot (Claim p) (Claimed granted) new → live_piece new slot ≡ None → ⊥
claimed_live b new slot p granted makes none =
    let there = claim_stays b new slot p granted (makes None) in
    cc

-- it is granted below the end of that range
pub claimed_step : (b new : SeenBook) (slot p : ℕ) (granted : Bool) (piece : Piece) (end : ℕ) → Makes b slot (Claim p) (Claimed granted) new → live_piece new slot ≡ Some piece
    → end ≡ piece.range.to → Makes b slot (Claim p) (Claimed (nat_lt p end)) new
claimed_step b new slot p granted piece end makes found ends = λ told.
    let step : Step told b slot (Claim p) (Claimed granted) new = makes told in
    let one : Some step.piece ≡ Some piece = sym (claim_stays b new slot p granted step) ∙ found in
    let is : step.piece ≡ piece = cc in
    record {
      piece = step.piece;
      attempted = step.attempted;
      works = step.works;
      may = step.may;
      answer = ap (nat_lt p) (ends ∙ ap (λ (x : Piece). x.range.to) (sym is));
      is = step.is;
    }

-- the job is known as it was, but for what others took of its range; and the position is attempted
pub claim_told : (b new : SeenBook) (slot p : ℕ) (granted : Bool) (known : Option KnownJob) → IsJobOf b.panes known (slot_at b slot) → IsClaiming b slot p granted new
    → AfterClaim known p granted (known_at new slot)
claim_told b new slot p granted known fit step =
    by known (subst (IsJobOf b.panes known) step.works.works fit) (ap (known_in new.panes) (claimed_at b new slot p granted step))
  where
    by : (known : Option KnownJob) → IsJobOf b.panes known (Some (Some (live.Span step.piece step.attempted)))
        → known_at new slot ≡ Some (record { job = job.Span step.piece; attempted = Some p }) → AfterClaim known p granted (known_at new slot)
    by (Some known) fit is = record {
      noted = fit.0;
      attempted = step.attempted;
      was = ap Some fit.1;
      now = step.piece;
      short = fit.2;
      is = is;
      answer = step.answer;
    }
    by None fit is = absurd fit

ends_in : (panes : List Pane) (slot : Option (Option Live)) (end : ℕ) → IsSomeAnd (piece_in slot) (λ piece. piece.range.to ≡ end) → EndsAt (known_in panes slot) end
ends_in panes (Some (Some (live.Span piece attempted))) end is = is
ends_in panes (Some (Some (live.Batch batch))) end is = absurd is
ends_in panes (Some (Some (live.Key turn))) end is = absurd is
ends_in panes (Some None) end is = absurd is
ends_in panes None end is = absurd is

pub claim_ends : (new : SeenBook) (slot end : ℕ) → IsSomeAnd (live_piece new slot) (λ piece. piece.range.to ≡ end) → EndsAt (known_at new slot) end
claim_ends new slot end is = ends_in new.panes (slot_at new slot) end is
