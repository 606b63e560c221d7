-- What a slot works after it took a job, claimed a position and committed.
use Rattle.std.proofs.Common.{◌≡◌, ℕ, Bool, List, [], ◌∷◌, ◌++◌, length, map, refl, sym, ap, subst, ◌∙◌}
use Rattle.std.specs.Prelude.{Option, Some, None, ◌≤ℤ◌, ◌+ℤ◌, true, false, slice_get, slice_set}
use Rattle.std.specs.List.{All}
use Rattle.std.proofs.lemmas.List.Elements.{All-weaker}
use Rattle.std.proofs.lemmas.Option.{slice_get_within}
use Rattle.beam_values.specs.Intervals.{Interval}
use Rattle.beam_values.specs.Nodes.{strategy_of}
use Rattle.beam_values.specs.Strategies.{greatest_length}
use Rattle.beam_values.specs.Times.{greatest_time}
use Rattle.beam_values.specs.declared.fault.FaultNote.{FaultNote}
use Rattle.beam_values.specs.declared.arrival.Arrival.{Arrival}
use Rattle.beam_values.specs.declared.cell.Pane.{Pane}
use Rattle.beam_values.specs.declared.element.Element.{Element}
use Rattle.beam_values.specs.declared.file_text.FileText.{FileText}
use Rattle.beam_values.specs.declared.piece.Piece.{Piece}
use Rattle.beam_values.specs.declared.plan.Plan.{Plan}
use Rattle.beam_model.specs.Chains.{Output, Arrives, chain}
use Rattle.beam_model.specs.Flow.{batch_outputs}
use Rattle.beam_model.specs.Reach.{reaches_barrier}
use Rattle.bundle_commit.specs.declared.job.Job.{Job}
use Rattle.bundle_commit.specs.declared.job.Job.TheVariants as job
use Rattle.bundle_commit.specs.declared.job.Receipt.{Receipt}
use Rattle.group_cells.specs.Commits.{HasGap, HasLength}
use Rattle.book_core.specs.Book.{SeenBook}
use Rattle.book_core.specs.Changes.{with_slot}
use Rattle.book_core.specs.Jobs.{Next, attempted_of, job_of, with_key}
use Rattle.book_core.specs.Steps.{CanCommit, IsClaiming, IsCommitting, IsFree, IsTaking, IsWorking}
use Rattle.book_core.specs.Work.{is_known, worked_to, IsGiven, IsPlausible, IsWorkOnRange, IsOfSpent}
use Rattle.book_core.specs.declared.live.Live.{Live}
use Rattle.book_core.specs.declared.live.Live.TheVariants as live
use Rattle.book_core.proofs.SaneResults.{take_stays}
use Rattle.book_core.proofs.HeldMarks.{slice_get-set_same}
use Rattle.book_core.proofs.HeldOnce.{get_at_end}
use Rattle.book_core.proofs.Taking.{take_cases}

set_works : (slots : List (Option Live)) (slot : ℕ) (old : Option Live) (new : Option Live) → slice_get slots slot ≡ Some old → slice_get (slice_set slots slot new) slot ≡ Some new
set_works slots slot old new at = slice_get-set_same slots slot new (slice_get_within slots slot old at)

pub enrolled_free : (b new : SeenBook) (number : ℕ) → number ≡ length b.slots → new ≡ record b { slots = b.slots ++ None ∷ [] } → IsFree new number
enrolled_free b new number e is =
    subst (λ (d : SeenBook). IsFree d number) (sym is)
    (subst (λ (n : ℕ). slice_get (b.slots ++ None ∷ []) n ≡ Some None) (sym e) (get_at_end b.slots None []))

module _ (b new : SeenBook) (slot : ℕ) where
  pub taken_range : (piece : Piece) → IsTaking b slot (job.Span piece) new → IsWorking new slot (live.Span piece None)
  taken_range piece step =
      subst (λ (d : SeenBook). IsWorking d slot (live.Span piece None)) (sym step.is)
      (take_cases b (λ (n : Next). job.Span piece ≡ job_of b.panes n.job → IsWorking (with_slot n.rest slot (Some n.job)) slot (live.Span piece None))
      (λ batch among e. absurd (cc))
      (λ batch oldest e. absurd (cc))
      (λ place cell found e. absurd (cc))
      (λ first later parts e.
      let same : first ≡ piece = cc in
      set_works b.slots slot None (Some (live.Span first None)) step.free ∙ ap (λ (p : Piece). Some (Some (live.Span p None))) same)
      step.next step.is_next step.handed)

  pub taken_plan : (handed : Job) → IsTaking b slot handed new → new.plan ≡ b.plan
  taken_plan handed step =
      ap (λ (d : SeenBook). d.plan) step.is ∙ (take_stays b slot step.next step.is_next).plan

  pub taken_batch : (handed : Job) → IsTaking b slot handed new → (works : Live) × IsWorking new slot works × (handed ≡ job_of new.panes works)
  taken_batch handed step = (
    step.next.job,
    subst (λ (d : SeenBook). IsWorking d slot step.next.job) (sym step.is)
        (take_cases b (λ (n : Next). IsWorking (with_slot n.rest slot (Some n.job)) slot n.job)
        (λ batch among. set_works b.slots slot None (Some (live.Batch batch)) step.free)
        (λ batch oldest. set_works b.slots slot None (Some (live.Batch batch)) step.free)
        (λ place cell found. set_works b.slots slot None (Some (with_key b place.at cell).job) step.free)
        (λ first later parts. set_works b.slots slot None (Some (live.Span first None)) step.free)
        step.next step.is_next),
    step.handed ∙ ap (λ (l : List Pane). job_of l step.next.job) (sym (ap (λ (d : SeenBook). d.panes) step.is ∙ (take_stays b slot step.next step.is_next).panes)),
  )

  pub claimed_works : (p : ℕ) (piece : Piece) (granted : Bool) → IsWorking b slot (live.Span piece None) → IsClaiming b slot p granted new
      → IsWorking new slot (live.Span piece (Some p)) × (new.plan ≡ b.plan)
  claimed_works p piece granted works step =
      let there = step.works in
      let same : step.piece ≡ piece = cc in (
        subst (λ (d : SeenBook). IsWorking d slot (live.Span piece (Some p))) (sym step.is)
            (set_works b.slots slot (Some (live.Span piece None)) (Some (live.Span step.piece (Some p))) works ∙ ap (λ (x : Piece). Some (Some (live.Span x (Some p)))) same),
        ap (λ (d : SeenBook). d.plan) step.is,
      )

  pub committed_free : (told : Option (List FileText)) (receipt : Receipt) → IsCommitting told b slot receipt new → IsFree new slot × (new.plan ≡ b.plan)
  committed_free told receipt step = (
    subst (λ (d : SeenBook). IsFree d slot) (sym step.commit.is) (set_works b.slots slot (Some step.job) None step.works),
    ap (λ (d : SeenBook). d.plan) step.commit.is,
  )

-- what each pane's element brings alone
pub each_arrives : (plan : Plan) (node to : ℕ) (panes : List Pane) → ((e : Element) → chain plan node e ≡ Arrives (record { node = to; element = e }) ∷ [])
    → map Arrives (map (λ (pane : Pane). record { node = to; element = pane.element }) panes) ≡ batch_outputs plan node panes
each_arrives plan node to [] h = refl
each_arrives plan node to (pane ∷ panes) h =
    ap (λ (l : List Output). Arrives (record { node = to; element = pane.element }) ∷ l) (each_arrives plan node to panes h)
    ∙ ap (λ (l : List Output). l ++ batch_outputs plan node panes) (sym (h pane.element))

-- a batch that is worked, as it was handed out
pub batch_given : (b : SeenBook) (node first attempts : ℕ) (panes : List Pane) (works : Live) → job.Batch node first panes attempts ≡ job_of b.panes works
    → (P : Job → Option ℕ → Type 0) → P (job.Batch node first panes attempts) None → P (job_of b.panes works) (attempted_of works)
batch_given b node first attempts panes (live.Span piece attempted) e P h = absurd (cc)
batch_given b node first attempts panes (live.Key turn) e P h = absurd (cc)
batch_given b node first attempts panes (live.Batch batch) e P h = subst (λ (j : Job). P j None) e h

-- ---- receipts that may be placed

-- what came of the panes of a batch, each alone
pub batch_can : (b new : SeenBook) (slot node first attempts to : ℕ) (panes : List Pane) (receipt : Receipt) → IsTaking b slot (job.Batch node first panes attempts) new
    → ((e : Element) → chain b.plan node e ≡ Arrives (record { node = to; element = e }) ∷ [])
    → receipt.arrivals ≡ map (λ (pane : Pane). record { node = to; element = pane.element }) panes → receipt.logged ≡ None → CanCommit None new slot receipt
batch_can b new slot node first attempts to panes receipt step onward is none =
    let works = taken_batch b new slot (job.Batch node first panes attempts) step in
    let same = taken_plan b new slot (job.Batch node first panes attempts) step in
    record {
      job = works.0;
      works = works.1;
      given =
          batch_given new node first attempts panes works.0 works.2 (λ (j : Job) (a : Option ℕ). IsGiven None new.plan j a receipt)
          (ap (map Arrives) is ∙ each_arrives new.plan node to panes (λ e. ap (λ (p : Plan). chain p node e) same ∙ onward e), none);
    }

-- what is claimed isn't spent
fresh_range : (b new : SeenBook) (slot p : ℕ) (piece : Piece) (granted : Bool) → IsWorking b slot (live.Span piece None) → IsClaiming b slot p granted new → piece.spent ≡ None
fresh_range b new slot p piece granted works claim =
    let own = claim.works.works in
    let same : claim.piece ≡ piece = cc in
    sym (ap (λ (x : Piece). x.spent) same) ∙ claim.works.fresh

of_fresh : (piece : Piece) (receipt : Receipt) (spent : Option FaultNote) → spent ≡ None → IsOfSpent spent piece receipt
of_fresh piece receipt None e = tt
of_fresh piece receipt (Some note) e = absurd (cc)

-- what came of a range of a file that isn't told
pub range_can : (b new claimed : SeenBook) (slot p : ℕ) (piece : Piece) (granted : Bool) (receipt : Receipt) → IsTaking b slot (job.Span piece) new → IsClaiming new slot p granted claimed
    → is_known None b.plan piece.node ≡ false → IsPlausible b.plan piece receipt → receipt.logged ≡ None → CanCommit None claimed slot receipt
range_can b new claimed slot p piece granted receipt step claim unknown plausible none =
    let after = claimed_works new claimed slot p piece granted (taken_range b new slot piece step) claim in
    let same : claimed.plan ≡ b.plan = after.1 ∙ taken_plan b new slot (job.Span piece) step in
    record {
      job = live.Span piece (Some p);
      works = after.0;
      given = (
        subst (λ (plan : Plan). IsWorkOnRange (is_known None plan piece.node) None plan piece (worked_to piece (Some p)) receipt) (sym same)
            (subst (λ (t : Bool). IsWorkOnRange t None b.plan piece (worked_to piece (Some p)) receipt) (sym unknown) plausible),
        none,
        of_fresh piece receipt piece.spent (fresh_range new claimed slot p piece granted (taken_range b new slot piece step) claim),
      );
    }

pub plausible_at : (plan : Plan) (node : ℕ) (piece : Piece) (receipt : Receipt) → reaches_barrier plan piece.node node ≡ true → ((span : Interval) → HasLength (strategy_of plan node) span)
    → All (λ (arrival : Arrival). arrival.node ≡ node) receipt.arrivals → All (λ (arrival : Arrival). arrival.element.span.end ≤ℤ (greatest_time +ℤ greatest_length)) receipt.arrivals
    → All (λ (arrival : Arrival). arrival.element.time ≤ℤ greatest_time) receipt.arrivals → piece.seen ≤ℤ receipt.seen → receipt.seen ≤ℤ greatest_time → IsPlausible plan piece receipt
plausible_at plan node piece receipt reaches fixed at ends times seen time = record {
  at_barriers =
      All-weaker (λ (arrival : Arrival). arrival.node ≡ node) (λ (arrival : Arrival). reaches_barrier plan piece.node arrival.node ≡ true)
      (λ arrival e. subst (λ (n : ℕ). reaches_barrier plan piece.node n ≡ true) (sym e) reaches) receipt.arrivals at;
  gaps =
      All-weaker (λ (arrival : Arrival). arrival.node ≡ node) (HasGap plan)
      (λ arrival e group. subst (λ (n : ℕ). HasLength (strategy_of plan n) arrival.element.span) (sym e) (fixed arrival.element.span)) receipt.arrivals at;
  ends = ends;
  times = times;
  seen = seen;
  seen_time = time;
}
