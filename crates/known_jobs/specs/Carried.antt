-- What holds of a job as it is known holds of the job as the book has it: others have at most shortened its range. So what may be done with it may be done with its slot.
use Rattle.std.proofs.Common.{◌≡◌, inl, inr, ℕ, ◌<◌, ◌≤◌, min, Bool, true, false, List, refl, sym, ap, ◌∙◌, subst, arith}
use Rattle.std.specs.Prelude.{Option, Some, None}
use Rattle.beam_values.specs.Intervals.{Offsets}
use Rattle.beam_values.specs.Tracking.{MayClaim, first_unattempted}
use Rattle.beam_values.specs.declared.cell.Pane.{Pane}
use Rattle.beam_values.specs.declared.fault.Cause.{Cause}
use Rattle.beam_values.specs.declared.fault.Cause.TheVariants.{Call, Read}
use Rattle.beam_values.specs.declared.fault.FaultNote.{FaultNote}
use Rattle.beam_values.specs.declared.file_text.FileText.{FileText}
use Rattle.beam_values.specs.declared.piece.Piece.{Piece}
use Rattle.beam_values.specs.declared.plan.Plan.{Plan}
use Rattle.beam_model.specs.Coverings.{item_at}
use Rattle.beam_model.specs.Positions.{SourceItem}
use Rattle.bundle_commit.specs.declared.job.Job.TheVariants as job
use Rattle.bundle_commit.specs.declared.job.Receipt.{Receipt}
use Rattle.book_core.specs.Book.{SeenBook, slot_at, tracker_of}
use Rattle.book_core.specs.Calls.{CanClaim, CanFail}
use Rattle.book_core.specs.Changes.{cut_to}
use Rattle.book_core.specs.Jobs.{attempted_of, job_of}
use Rattle.book_core.specs.Runs.{IsHonestAction}
use Rattle.book_core.specs.Steps.{CanCommit, Fail, IsFree, IsFresh, IsWorking}
use Rattle.book_core.specs.Work.{Surroundings, IsGiven, IsHonest, IsOfSpent, IsWorkOn, IsWorkOnItem, IsWorkOnRange, is_known, items_told, worked_to}
use Rattle.book_core.specs.declared.live.Live.{Live}
use Rattle.book_core.specs.declared.live.Live.TheVariants as live
use Rattle.known_jobs.specs.Calls.{CanClaimAs, CanCommitAs, CanFailAs, IsFreshJob}
use Rattle.known_jobs.specs.Jobs.{IsJobOf, IsKnownAs, IsShortened, KnownJob, Setting}

-- ---- a shortened range

module _ (plan : Plan) (noted : Piece) (range : Offsets) (start : range.from ≡ noted.range.from) where
  work_cut : (upto : ℕ) (item : SourceItem) (receipt : Receipt) → IsWorkOn plan noted upto item receipt → IsWorkOn plan (cut_to noted range) upto item receipt
  work_cut upto item receipt work = subst (λ (from : ℕ). IsWorkOn plan (cut_to noted (record { from = from; to = range.to })) upto item receipt) (sym start) (record { arrivals = work.arrivals; seen = work.seen })

  item_cut : (upto : ℕ) (item : Option SourceItem) (receipt : Receipt) → IsWorkOnItem plan noted upto item receipt → IsWorkOnItem plan (cut_to noted range) upto item receipt
  item_cut upto (Some item) receipt work = work_cut upto item receipt work
  item_cut upto None receipt work = work

  range_cut : (known : Bool) (told : Option (List FileText)) (upto : ℕ) (receipt : Receipt) → IsWorkOnRange known told plan noted upto receipt → IsWorkOnRange known told plan (cut_to noted range) upto receipt
  range_cut true told upto receipt work = item_cut upto (item_at (items_told told plan) noted.node noted.item) receipt work
  range_cut false told upto receipt work = record { at_barriers = work.at_barriers; gaps = work.gaps; ends = work.ends; times = work.times; seen = work.seen; seen_time = work.seen_time }

-- it is worked as far as the range that was known
worked_same : (noted now : Piece) (attempted : Option ℕ) → IsShortened noted attempted now → worked_to now attempted ≡ worked_to noted attempted
worked_same noted now attempted short =
    ap (λ (p : Piece). min (first_unattempted p.range.from attempted) now.range.to) short.same
    ∙ (let below = short.below in
    let above : first_unattempted noted.range.from attempted ≤ noted.range.to → first_unattempted noted.range.from attempted ≤ now.range.to = short.above in
    let past : noted.range.to < first_unattempted noted.range.from attempted → now.range.to ≡ noted.range.to = short.past in
    least (first_unattempted noted.range.from attempted) noted.range.to now.range.to below above past)
  where
    least : (next to end : ℕ) → end ≤ to → (next ≤ to → next ≤ end) → (to < next → end ≡ to) → min next end ≡ min next to
    least next to end below above past = grind arith

spent_cut : (noted : Piece) (range : Offsets) (receipt : Receipt) (spent : Option FaultNote) → IsOfSpent spent noted receipt → IsOfSpent spent (cut_to noted range) receipt
spent_cut noted range receipt None given = given
spent_cut noted range receipt (Some note) given = given

given_span : (told : Option (List FileText)) (plan : Plan) (noted now : Piece) (attempted : Option ℕ) (receipt : Receipt) → IsShortened noted attempted now
    → IsGiven told plan (job.Span noted) attempted receipt → IsGiven told plan (job.Span now) attempted receipt
given_span told plan noted now attempted receipt short given =
    let range : Offsets = record { from = noted.range.from; to = now.range.to } in
    let cut : Piece = cut_to noted range in
    let worked : worked_to now attempted ≡ worked_to noted attempted = worked_same noted now attempted short in
    let here = range_cut plan noted range refl (is_known told plan noted.node) told (worked_to noted attempted) receipt given.0 in
    let there = subst (λ (upto : ℕ). IsWorkOnRange (is_known told plan cut.node) told plan cut upto receipt) (sym worked) here in (
      subst (λ (p : Piece). IsWorkOnRange (is_known told plan p.node) told plan p (worked_to now attempted) receipt) (sym short.same) there,
      given.1,
      subst (λ (p : Piece). IsOfSpent p.spent p receipt) (sym short.same) (spent_cut noted range receipt noted.spent given.2),
    )

honest_span : (known : Surroundings) (plan : Plan) (noted now : Piece) (attempted : Option ℕ) (at : ℕ) (cause : Cause) → IsShortened noted attempted now
    → IsHonest known plan (job.Span noted) attempted at cause → IsHonest known plan (job.Span now) attempted at cause
honest_span known plan noted now attempted at Read short (file, node) =
    let cut : Piece = cut_to noted (record { from = noted.range.from; to = now.range.to }) in
    subst (λ (p : Piece). IsHonest known plan (job.Span p) attempted at Read) (sym short.same) (file, node)
honest_span known plan noted now attempted at Call short (inl loose) = inl loose
honest_span known plan noted now attempted at Call short (inr (inl unknown)) =
    subst (λ (p : Piece). IsHonest known plan (job.Span p) attempted at Call) (sym short.same) (inr (inl unknown))
honest_span known plan noted now None at Call short (inr (inr poison)) = absurd poison
honest_span known plan noted now (Some p) at Call short (inr (inr poison)) =
    let above = short.above in
    let inside : p < now.range.to = let i = poison.1 in omega (arith, above (omega arith)) in
    subst (λ (q : Piece). IsHonest known plan (job.Span q) (Some p) at Call) (sym short.same) (inr (inr (poison.0, inside, poison.2)))

-- ---- a job that is known

given_carries : (told : Option (List FileText)) (plan : Plan) (panes : List Pane) (known : KnownJob) (now : Live) (receipt : Receipt) → IsKnownAs panes known now
    → IsGiven told plan known.job known.attempted receipt → IsGiven told plan (job_of panes now) (attempted_of now) receipt
given_carries told plan panes known (live.Span now attempted) receipt is given =
    given_span told plan is.0 now attempted receipt is.2 (subst (λ (k : KnownJob). IsGiven told plan k.job k.attempted receipt) is.1 given)
given_carries told plan panes known (live.Batch batch) receipt is given = subst (λ (k : KnownJob). IsGiven told plan k.job k.attempted receipt) is.0 given
given_carries told plan panes known (live.Key turn) receipt is given = subst (λ (k : KnownJob). IsGiven told plan k.job k.attempted receipt) is given

honest_carries : (known : Surroundings) (plan : Plan) (panes : List Pane) (job : KnownJob) (now : Live) (at : ℕ) (cause : Cause) → IsKnownAs panes job now
    → IsHonest known plan job.job job.attempted at cause → IsHonest known plan (job_of panes now) (attempted_of now) at cause
honest_carries known plan panes job (live.Span now attempted) at cause is honest =
    honest_span known plan is.0 now attempted at cause is.2 (subst (λ (k : KnownJob). IsHonest known plan k.job k.attempted at cause) is.1 honest)
honest_carries known plan panes job (live.Batch batch) at cause is honest = subst (λ (k : KnownJob). IsHonest known plan k.job k.attempted at cause) is.0 honest
honest_carries known plan panes job (live.Key turn) at cause is honest = subst (λ (k : KnownJob). IsHonest known plan k.job k.attempted at cause) is honest

-- ---- what the book's calls ask

-- what the slot works, where a job is known
works_known : (b : SeenBook) (i : ℕ) (known : KnownJob) → IsJobOf b.panes (Some known) (slot_at b i) → (now : Live) × IsWorking b i now × IsKnownAs b.panes known now
works_known b i known fit = by (slot_at b i) refl fit
  where
    by : (slot : Option (Option Live)) → slot_at b i ≡ slot → IsJobOf b.panes (Some known) slot → (now : Live) × IsWorking b i now × IsKnownAs b.panes known now
    by (Some (Some now)) at fit = (now, at, fit)
    by None at fit = absurd fit
    by (Some None) at fit = absurd fit

module _ (setting : Setting) (b : SeenBook) (i : ℕ) (known : Option KnownJob) (plan : b.plan ≡ setting.plan) (fit : IsJobOf b.panes known (slot_at b i)) where
  pub free_slot : known ≡ None → IsFree b i
  free_slot none = by (slot_at b i) refl (subst (λ (k : Option KnownJob). IsJobOf b.panes k (slot_at b i)) none fit)
    where
      by : (slot : Option (Option Live)) → slot_at b i ≡ slot → IsJobOf b.panes None slot → IsFree b i
      by (Some None) at fit = at
      by None at fit = absurd fit
      by (Some (Some now)) at fit = absurd fit

  pub can_claim : (p : ℕ) → CanClaimAs known p → CanClaim b i p
  can_claim p may = of known fit may
    where
      by : (job : KnownJob) (now : Live) → CanClaimAs (Some job) p → IsWorking b i now → IsKnownAs b.panes job now → CanClaim b i p
      by job (live.Span now attempted) may works is =
          let noted : (is.0.spent ≡ None) × MayClaim (tracker_of is.0 attempted) p = subst (λ (k : KnownJob). CanClaimAs (Some k) p) is.1 may in
          let may_noted : MayClaim (tracker_of is.0 attempted) p = noted.1 in
          record {
            piece = now;
            attempted = attempted;
            works = record { works = works; fresh = ap (λ (q : Piece). q.spent) is.2.same ∙ noted.0 };
            may = subst (λ (q : Piece). MayClaim (tracker_of q attempted) p) (sym is.2.same) (record { from_start = may_noted.from_start; ascending = may_noted.ascending });
          }
      by job (live.Batch batch) may works is = absurd (subst (λ (k : KnownJob). CanClaimAs (Some k) p) is.0 may)
      by job (live.Key turn) may works is = absurd (subst (λ (k : KnownJob). CanClaimAs (Some k) p) is may)

      of : (job : Option KnownJob) → IsJobOf b.panes job (slot_at b i) → CanClaimAs job p → CanClaim b i p
      of (Some job) fit may = let w = works_known b i job fit in by job w.0 may w.1 w.2
      of None fit may = absurd may

  pub can_commit : (receipt : Receipt) → CanCommitAs setting known receipt → CanCommit None b i receipt × CanCommit setting.known.told b i receipt
  can_commit receipt given = of known fit given
    where
      by : (told : Option (List FileText)) (job : KnownJob) → IsJobOf b.panes (Some job) (slot_at b i) → IsGiven told setting.plan job.job job.attempted receipt → CanCommit told b i receipt
      by told job fit given =
          let w = works_known b i job fit in record {
            job = w.0;
            works = w.1;
            given = given_carries told b.plan b.panes job w.0 receipt w.2 (subst (λ (p : Plan). IsGiven told p job.job job.attempted receipt) (sym plan) given);
          }

      of : (job : Option KnownJob) → IsJobOf b.panes job (slot_at b i) → CanCommitAs setting job receipt → CanCommit None b i receipt × CanCommit setting.known.told b i receipt
      of (Some job) fit given = (by None job fit given.0, by setting.known.told job fit given.1)
      of None fit given = absurd given

  fresh_now : (job : KnownJob) (now : Live) → IsKnownAs b.panes job now → IsFreshJob job.job → IsFresh now
  fresh_now job (live.Span now attempted) is fresh =
      let noted : is.0.spent ≡ None = subst (λ (k : KnownJob). IsFreshJob k.job) is.1 fresh in
      ap (λ (q : Piece). q.spent) is.2.same ∙ noted
  fresh_now job (live.Batch batch) is fresh = tt
  fresh_now job (live.Key turn) is fresh = tt

  pub can_fail : (at : ℕ) (cause : Cause) → CanFailAs setting known at cause → CanFail b i
  can_fail at cause may = of known fit may
    where
      of : (job : Option KnownJob) → IsJobOf b.panes job (slot_at b i) → CanFailAs setting job at cause → CanFail b i
      of (Some job) fit may = let w = works_known b i job fit in (w.0, record { works = w.1; fresh = fresh_now job w.0 w.2 may.0 })
      of None fit may = absurd may

  pub fails_honestly : (at : ℕ) (cause : Cause) → CanFailAs setting known at cause → IsHonestAction setting.known b i (Fail at cause)
  fails_honestly at cause may = of known fit may
    where
      of : (job : Option KnownJob) → IsJobOf b.panes job (slot_at b i) → CanFailAs setting job at cause → IsHonestAction setting.known b i (Fail at cause)
      of (Some job) fit may = λ now works.
          let here : IsKnownAs b.panes job now = subst (IsJobOf b.panes (Some job)) works fit in
          honest_carries setting.known b.plan b.panes job now at cause here (subst (λ (p : Plan). IsHonest setting.known p job.job job.attempted at cause) (sym plan) may.1)
      of None fit may = absurd may
