-- A slot's range was split, or it couldn't be.
use Rattle.std.proofs.Common.{◌≡◌, ◌==◌, inl, inr, ℕ, ◌<◌, ◌≤◌, Bool, true, false, List, [], ◌∷◌, length, refl, sym, ap, ◌∙◌, subst, arith}
use Rattle.std.specs.Prelude.{Option, Some, None, slice_get, slice_set}
use Rattle.std.proofs.lemmas.Bool.{eqb-true}
use Rattle.std.proofs.lemmas.Bool.Decides.{nat_tests}
use Rattle.std.proofs.lemmas.List.{append-nil, length-set}
use Rattle.std.proofs.lemmas.Option.{slice_get_within}
use Rattle.beam_values.specs.Tracking.{first_unattempted}
use Rattle.beam_values.specs.declared.cell.Pane.{Pane}
use Rattle.beam_values.specs.declared.fault.FaultNote.{FaultNote}
use Rattle.beam_values.specs.declared.file_text.FileText.{FileText}
use Rattle.beam_values.specs.declared.piece.Piece.{Piece}
use Rattle.beam_values.specs.declared.plan.Plan.{Plan}
use Rattle.bundle_commit.specs.declared.job.Job.{Job}
use Rattle.bundle_commit.specs.declared.job.Job.TheVariants as job
use Rattle.bundle_commit.specs.declared.job.Receipt.{Receipt}
use Rattle.book_core.specs.Book.{SeenBook, slot_at}
use Rattle.book_core.specs.Calls.{Makes, live_piece, piece_in as live_in}
use Rattle.book_core.specs.Changes.{cut_to}
use Rattle.book_core.specs.Facts.{AreHeldOnce}
use Rattle.book_core.specs.Jobs.{attempted_of, job_of}
use Rattle.book_core.specs.Steps.{CanCommit, IsSplitting, Split, SplitAt}
use Rattle.book_core.specs.Work.{IsGiven}
use Rattle.book_core.specs.declared.live.Live.{Live}
use Rattle.book_core.specs.declared.live.Live.TheVariants as live
use Rattle.book_core.proofs.Reaching.{step_same}
use Rattle.known_jobs.specs.Calls.{CanCommitAs}
use Rattle.known_jobs.specs.Carried.{can_commit}
use Rattle.known_jobs.specs.Jobs.{IsJobOf, KnownJob, known_at, known_in}
use Rattle.known_jobs.specs.Known.{known_fit, known_split, split_behind}
use Rattle.bundle_work.specs.Stretches.{attempted_of as attempted_in}
use Rattle.lone_worker.specs.Work.{Base, IsJobAt, IsRangeAt, IsRangeOf, IsRangeOver}
use Rattle.lone_worker.specs.declared.work.Stage.{Stage}
use Rattle.lone_worker.specs.declared.work.Stage.TheVariants as stage
use Rattle.lone_worker.specs.declared.work.Work.{Work}
use Rattle.lone_worker.proofs.Leading.{in_same}
use Rattle.schedule_replay.specs.Shown.{shown}
use Rattle.schedule_replay.specs.Standing.{HasSplit, IsSlotAt, IsStanding}
use Rattle.schedule_replay.specs.declared.stand.Stand.{Stand as Stood}
use Rattle.schedule_replay.proofs.Slotted.{known_other}
use Rattle.schedule_replay.proofs.Steps.{set_at, stands_still}

-- ---- a range that was split is worked as before

abbrev known_span : Piece → Option ℕ → KnownJob
known_span piece attempted = record { job = job.Span piece; attempted = attempted }

abbrev piece_in : Piece → Job → Piece
piece_in other (job.Span piece) = piece
piece_in other _ = other

abbrev piece_known : Piece → Option KnownJob → Piece
piece_known other None = other
piece_known other (Some known) = piece_in other known.job

abbrev job_or : Job → Option KnownJob → Job
job_or other None = other
job_or other (Some known) = known.job

abbrev cut_at : Piece → ℕ → Piece
cut_at piece to = cut_to piece (record { from = piece.range.from; to = to })

module _ (base : Base) (known after : Option KnownJob) (was : Piece) (attempted : Option ℕ) (to : ℕ) (is : known ≡ Some (known_span was attempted)) (now : after ≡ Some (known_span (cut_at was to) attempted))
    (behind : first_unattempted was.range.from attempted ≤ to) (inside : to < was.range.to) (ordered : was.range.from ≤ to)
    (given : (receipt : Receipt) → CanCommitAs base.setting known receipt → CanCommitAs base.setting after receipt) where
  range_then : (piece : Piece) (tried : Option ℕ) → IsRangeOf piece tried known → IsRangeOf piece tried after
  range_then piece tried range =
      let one : Some (known_span range.now tried) ≡ Some (known_span was attempted) = sym range.claimed.is ∙ is in
      let last : tried ≡ attempted = ap attempted_in one in
      let same : range.now ≡ was = ap (piece_known was) one in
      let whole : was ≡ cut_to piece (record { from = piece.range.from; to = was.range.to }) =
      sym same ∙ range.claimed.same ∙ ap (λ (p : Piece). cut_to piece (record { from = piece.range.from; to = p.range.to })) same in
      record {
        now = cut_at was to;
        claimed = record {
          is = now ∙ ap (λ (a : Option ℕ). Some (known_span (cut_at was to) a)) (sym last);
          same = ap (λ (p : Piece). cut_at p to) whole;
          below = omega (arith, ap (λ (p : Piece). p.range.to) same, range.claimed.below, inside);
        };
        ordered = ordered;
      }

  last_below : (last : ℕ) (piece : Piece) → IsRangeOf piece (Some last) known → last < to
  last_below last piece range =
      let one : Some (known_span range.now (Some last)) ≡ Some (known_span was attempted) = sym range.claimed.is ∙ is in
      let tried : first_unattempted was.range.from (Some last) ≡ first_unattempted was.range.from attempted = ap (first_unattempted was.range.from) (ap attempted_in one) in
      omega (arith, tried, behind)

  over_then : (spent : Option FaultNote) (piece : Piece) (staged : Receipt) → IsRangeOver base spent piece known staged → IsRangeOver base spent piece after staged
  over_then None piece staged over = (record { last = over.0.last; range = range_then piece (Some over.0.last) over.0.range }, given staged over.1)
  over_then (Some note) piece staged over = (range_then piece None over.0, over.1)

  range_at : (piece : Piece) (next : ℕ) (s : Stage) (staged : Receipt) → IsRangeAt base known piece next s staged → IsRangeAt base after piece next s staged
  unfolding range_then
  range_at piece next stage.Open staged (inl fresh) = inl (record { range = range_then piece None fresh.range; fresh = fresh.fresh; first = fresh.first; empty = fresh.empty })
  range_at piece next stage.Open staged (inr going) = inr (record {
    last = going.last;
    range = range_then piece (Some going.last) going.range;
    inside = last_below going.last piece going.range;
    fresh = going.fresh;
    place = going.place;
    reader = going.reader;
    at = going.at;
    is_for = going.is_for;
    worked = going.worked;
  })
  range_at piece next stage.Over staged at = over_then piece.spent piece staged at
  range_at piece next (stage.Faulted node cause) staged at = record {
    last = at.last;
    range = range_then piece (Some at.last) at.range;
    from_start = at.from_start;
    inside = last_below at.last piece at.range;
  }

  other_job : (whole : Job) → ((piece : Piece) → whole ≡ job.Span piece → ⊥) → known ≡ Some (record { job = whole; attempted = None }) → ⊥
  other_job whole other at =
      let one : Some (record { job = whole; attempted = None }) ≡ Some (known_span was attempted) = sym at ∙ is in
      let same : whole ≡ job.Span was = ap (job_or whole) one in
      other was same

  pub work_then : (whole : Job) (work : Work) → IsJobAt base known whole work → IsJobAt base after whole work
  work_then (job.Span piece) work at = (range_at piece work.next work.stage work.staged at.0, at.1)
  work_then (job.Batch node first panes attempts) work at = absurd (other_job (job.Batch node first panes attempts) (λ piece e. cc) at.0)
  work_then (job.Key node cell key span inputs state timers attempts) work at = absurd (other_job (job.Key node cell key span inputs state timers attempts) (λ piece e. cc) at.0)

-- ---- the book after a split

module _ (base : Base) (old : Stood) (standing : IsStanding base old) (slot num den : ℕ) (new : SeenBook) where
  abbrev b : SeenBook
  b = old.book

  -- its ends are in order, as those of each live range
  module _ (at : ℕ) (held : AreHeldOnce b) (makes : Makes b slot (Split num den) (SplitAt (Some at)) new) (live_ordered : (piece : Piece) → live_piece new slot ≡ Some piece → piece.range.from ≤ piece.range.to) where
    abbrev step : IsSplitting b slot num den at new
    step = (makes base.setting.known.told).0

    abbrev piece : Piece
    piece = step.piece

    abbrev live_then : Live
    live_then = live.Span (cut_at piece at) step.attempted

    behind : first_unattempted piece.range.from step.attempted ≤ at
    behind = split_behind piece step.attempted num den at step.point

    known_is : known_at b slot ≡ Some (known_span piece step.attempted)
    known_is = ap (known_in b.panes) step.works.works

    slots : new.slots ≡ slice_set b.slots slot (Some live_then)
    slots = ap (λ (x : SeenBook). x.slots) step.is

    at_then : slot_at new slot ≡ Some (Some live_then)
    at_then = set_at b new slot (Some live_then) (record { slots = slots; more = []; panes = ap (λ (x : SeenBook). x.panes) step.is ∙ sym (append-nil b.panes) }) (slice_get_within b.slots slot (Some (live.Span piece step.attempted)) step.works.works)

    ordered : piece.range.from ≤ at
    ordered = live_ordered (cut_at piece at) (ap live_in at_then)

    known_then : known_at new slot ≡ Some (known_span (cut_at piece at) step.attempted)
    known_then = ap (known_in new.panes) at_then

    fit_then : IsJobOf new.panes (known_at b slot) (slot_at new slot)
    fit_then =
        let fit = subst (IsJobOf b.panes (known_at b slot)) step.works.works (known_fit b slot (known_span piece step.attempted) held known_is) in
        let cut = known_split b.panes (known_at b slot) piece step.attempted at behind step.inside fit in
        subst (IsJobOf new.panes (known_at b slot)) (sym at_then) (subst (λ (p : List Pane). IsJobOf p (known_at b slot) (Some (Some live_then))) (sym (ap (λ (x : SeenBook). x.panes) step.is)) cut)

    plan_then : new.plan ≡ base.setting.plan
    plan_then = ap (λ (x : SeenBook). x.plan) step.is ∙ standing.inside.plan

    given_to : (told : Option (List FileText)) (receipt : Receipt) → CanCommit told new slot receipt → IsGiven told base.setting.plan (job.Span (cut_at piece at)) step.attempted receipt
    given_to told receipt can =
        let one : Some (Some can.job) ≡ Some (Some live_then) = sym can.works ∙ at_then in
        let same : can.job ≡ live_then = cc in
        let given : IsGiven told new.plan (job_of new.panes live_then) (attempted_of live_then) receipt = subst (λ (l : Live). IsGiven told new.plan (job_of new.panes l) (attempted_of l) receipt) same can.given in
        subst (λ (p : Plan). IsGiven told p (job.Span (cut_at piece at)) step.attempted receipt) plan_then given

    given_then : (receipt : Receipt) → CanCommitAs base.setting (known_at b slot) receipt → CanCommitAs base.setting (known_at new slot) receipt
    given_then receipt given =
        let can = can_commit base.setting new slot (known_at b slot) plan_then fit_then receipt given in
        subst (λ (k : Option KnownJob). CanCommitAs base.setting k receipt) (sym known_then) (given_to None receipt can.0, given_to base.setting.known.told receipt can.1)

    own : (noted : Option (Option Work)) → IsSlotAt base (known_at b slot) noted → IsSlotAt base (known_at new slot) noted
    own None is = tt
    own (Some None) is = let never : None ≡ Some (known_span piece step.attempted) = sym is ∙ known_is in absurd (cc)
    own (Some (Some work)) is = (work_then base (known_at b slot) (known_at new slot) piece step.attempted at known_is known_then behind step.inside ordered given_then work.job work is.0, is.1, is.2)

    others : (other : ℕ) → (other ≡ slot → ⊥) → known_at new other ≡ known_at b other
    others other apart = known_other b new slot other (Some live_then) slots (ap (λ (x : SeenBook). x.panes) step.is) apart

    stands : IsStanding base (record { book = new; works = old.works })
    stands = record {
      inside = in_same base.setting b new (step_same base.setting.known.told b new slot (Split num den) (SplitAt (Some at)) (makes base.setting.known.told)) standing.inside;
      count = standing.count ∙ sym (ap length slots ∙ length-set b.slots slot (Some live_then));
      some = standing.some;
      each = λ other. by other (other == slot) refl;
    }
      where
        by : (other : ℕ) (same : Bool) → (other == slot) ≡ same → IsSlotAt base (known_at new other) (slice_get old.works.items other)
        by other true is =
            let one : other ≡ slot = eqb-true other slot is in
            subst (λ (k : ℕ). IsSlotAt base (known_at new k) (slice_get old.works.items k)) (sym one) (own (slice_get old.works.items slot) (standing.each slot))
        by other false is =
            let apart : other ≡ slot → ⊥ = λ one. grind (arith, nat_tests) in
            subst (λ (k : Option KnownJob). IsSlotAt base k (slice_get old.works.items other)) (sym (others other apart)) (standing.each other)

  -- it was split, or it couldn't be
  pub split_stands : (at : Option ℕ) → AreHeldOnce b → Makes b slot (Split num den) (SplitAt at) new → ((piece : Piece) → live_piece new slot ≡ Some piece → piece.range.from ≤ piece.range.to)
      → IsStanding base (record { book = new; works = old.works })
  split_stands None held makes in_order = stands_still base old (record { book = new; works = old.works }) standing (makes None).1 refl
  split_stands (Some at) held makes in_order = stands at held makes in_order

  pub has_split : (at : Option ℕ) → Makes b slot (Split num den) (SplitAt at) new
      → HasSplit base.setting.known.told (shown old) (record { book = new; works = (shown old).works }) slot num den at
  has_split at makes = record {
    steps = record { slot = slot; action = Split num den; answer = SplitAt at } ∷ [];
    done = record { at = at; made = record { step = makes base.setting.known.told; made = refl }; none = refl; same = refl; printed = refl };
  }
