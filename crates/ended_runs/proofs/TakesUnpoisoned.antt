-- A run that takes no job of a kind works none, as none that is poison: splits only shorten what was taken, and panes stay what they are.
use Rattle.std.proofs.Common.{◌≡◌, inl, inr, ℕ, ◌<◌, Bool, true, false, List, [], ◌∷◌, ◌++◌, map, refl, sym, subst, ap, ◌∙◌, arith}
use Rattle.std.specs.Prelude.{Option, Some, None, slice_set}
use Rattle.std.specs.List.{All, flat_map, list_any}
use Rattle.std.proofs.lemmas.Bool.{cases_lt, false≢true}
use Rattle.std.proofs.lemmas.List.Elements.{All-cons, All-head, All-nil, All-push, All-set, All-tail, All-weaker}
use Rattle.beam_values.proofs.Spreads.{spread-empty}
use Rattle.beam_values.specs.declared.cell.Pane.{Pane}
use Rattle.beam_values.specs.declared.fault.Cause.{Cause}
use Rattle.beam_values.specs.declared.fault.Cause.TheVariants.{Call, Read}
use Rattle.beam_values.specs.declared.fault.FaultNote.{FaultNote}
use Rattle.beam_values.specs.declared.file_text.FileText.{FileText}
use Rattle.beam_values.specs.declared.piece.Piece.{Piece}
use Rattle.beam_values.specs.declared.plan.Plan.{Plan}
use Rattle.beam_model.specs.Coverings.{item_at, spread_of}
use Rattle.beam_model.specs.Positions.{SourceItem, item_len, items}
use Rattle.beam_model.specs.Spread.{is_poison, outputs_at}
use Rattle.beam_ports.specs.Observed.{WhereTold}
use Rattle.bundle_commit.specs.declared.job.Job.{Job}
use Rattle.bundle_commit.specs.declared.job.Job.TheVariants as job
use Rattle.book_core.specs.Book.{SeenBook, batch_of, held_at, held_in, live_batches, pane_at, panes_of, queued}
use Rattle.book_core.specs.Changes.{counted, cut_to, ends_run, failed_where, given_back, is_broken, note_of, stopped_where, with_slot}
use Rattle.book_core.specs.Facts.{AreHeldOnce, IsHeldPane}
use Rattle.book_core.specs.Jobs.{Due, GivenBack, Oldest, first_pane, job_of, without_due}
use Rattle.book_core.specs.Runs.{AreTold, HonestlyReached}
use Rattle.book_core.specs.Steps.{Action, Enroll, Take, Claim, Split, Commit, Fail, Stop, Answer, Enrolled, TakenJob, Nothing, Finished, Stopped, Claimed, SplitAt, Committed, Noted, NoMemory, IsTaking, IsWorking, Step}
use Rattle.book_core.specs.Work.{IsPoisonJob, Surroundings, items_told}
use Rattle.book_core.specs.declared.live.Batch.{Batch}
use Rattle.book_core.specs.declared.live.Live.{Live}
use Rattle.book_core.specs.declared.live.Live.TheVariants as live
use Rattle.book_core.specs.declared.live.WaitingPane.{WaitingPane}
use Rattle.book_core.proofs.HeldOnce.{get_front}
use Rattle.book_core.proofs.Reaching.{HasSamePlan, opening_of}
use Rattle.book_core.proofs.SaneAlways.{opened_sane}
use Rattle.book_core.proofs.Slots.{All-slice_get}
use Rattle.book_core.proofs.Slotted.{All-append_right, All-of_flat_map}
use Rattle.ended_runs.specs.RunsOn.{IsAtRest, TakesNoAfter, TakesNoPoisonAfter, TakesNoPoisonBesideAfter}
use Rattle.ended_runs.specs.Unpoisoned.{IsPoisonBeside, TakesNo}
use Rattle.ended_runs.proofs.Poisons.{any_in_front}
use Rattle.ended_runs.proofs.RunsOn.{IsOn, kept_on, on_after}
use Rattle.ended_runs.proofs.Unpoisoned.{WorksNoPoison, take_keeps}

all_both : {X : Type 0} (P Q R : X → Type 0) → ((x : X) → P x → Q x → R x) → (xs : List X) → All P xs → All Q xs → All R xs
all_both P Q R holds [] ps qs = All-nil R
all_both P Q R holds (x ∷ xs) ps qs = All-cons R x xs (holds x (All-head P x xs ps) (All-head Q x xs qs)) (all_both P Q R holds xs (All-tail P x xs ps) (All-tail Q x xs qs))

-- ---- what of a book says which jobs are poison

abbrev Shape : Type 0
Shape = Plan × (List Pane × List (Option Live))

abbrev shape_of : SeenBook → Shape
shape_of b = (b.plan, (b.panes, b.slots))

due_shape : (b : SeenBook) (d : Due) → shape_of (without_due b d).rest ≡ shape_of b
due_shape b (GivenBack batch) = refl
due_shape b (Oldest batch) = refl

counted_shape : (b : SeenBook) (slot : ℕ) (job : Live) (at : ℕ) (cause : Cause) → shape_of (counted (given_back (with_slot b slot None) job at cause) cause) ≡ (b.plan, (b.panes, slice_set b.slots slot None))
counted_shape b slot (live.Span piece attempted) at Call = refl
counted_shape b slot (live.Span piece attempted) at Read = refl
counted_shape b slot (live.Batch batch) at Call = refl
counted_shape b slot (live.Batch batch) at Read = refl
counted_shape b slot (live.Key turn) at Call = refl
counted_shape b slot (live.Key turn) at Read = refl

stopped_shape : (spent : Bool) (b : SeenBook) (note : FaultNote) → shape_of (stopped_where spent b note) ≡ shape_of b
stopped_shape true b note = refl
stopped_shape false b note = refl

failed_shape : (broken : Bool) (b : SeenBook) (slot at : ℕ) (job : Live) (cause : Cause) → shape_of (failed_where broken b slot job at cause) ≡ (b.plan, (b.panes, slice_set b.slots slot None))
failed_shape true b slot at (live.Span piece attempted) cause = refl
failed_shape _ b slot at job cause =
    stopped_shape (ends_run b job cause) (counted (given_back (with_slot b slot None) job at cause) cause) (note_of job at cause) ∙ counted_shape b slot job at cause

-- ---- a range that is cut

cut_poison : (plan : Plan) (from at to : ℕ) (item : Option SourceItem) → at < to → list_any is_poison (spread_of plan (record { from = from; to = at }) item) ≡ true
    → list_any is_poison (spread_of plan (record { from = from; to = to }) item) ≡ true
cut_poison plan from at to None inside any = any
cut_poison plan from at to (Some item) inside any = elim (cases_lt at from) [
  | inl before ↦ absurd (false≢true (sym (ap (list_any is_poison) (spread-empty (outputs_at plan item) from at (omega (arith, before)))) ∙ any))
  | inr behind ↦ any_in_front (outputs_at plan item) from at to behind (omega (arith, inside)) any
]

-- ---- a kind of jobs that has a range if it has a front of it

module _ (known : Surroundings) (IsBad : Plan → Job → Type 0)
    (cut_bad : (plan : Plan) (piece : Piece) (at : ℕ) → at < piece.range.to → IsBad plan (job.Span (cut_to piece (record { from = piece.range.from; to = at }))) → IsBad plan (job.Span piece)) where
  -- what a slot works isn't of the kind
  abbrev IsCleanJob : Plan → List Pane → Live → Type 0
  IsCleanJob plan panes job = IsBad plan (job_of panes job) → ⊥

  abbrev IsClean : Plan → List Pane → Option Live → Type 0
  IsClean plan panes None = Unit {0}
  IsClean plan panes (Some job) = IsCleanJob plan panes job

  abbrev AreClean : Shape → Type 0
  AreClean (plan, (panes, slots)) = All (IsClean plan panes) slots

  cut_clean : (plan : Plan) (panes : List Pane) (piece : Piece) (attempted : Option ℕ) (at : ℕ) → at < piece.range.to → IsCleanJob plan panes (live.Span piece attempted)
      → IsCleanJob plan panes (live.Span (cut_to piece (record { from = piece.range.from; to = at })) attempted)
  cut_clean plan panes piece attempted at inside clean = λ bad. clean (cut_bad plan piece at inside bad)

  -- ---- panes that fire later

  module _ (b : SeenBook) (fired : List Pane) where
    panes_stay : (waiting : List WaitingPane) (node : ℕ) → All (IsHeldPane b) (held_at node waiting) → panes_of (b.panes ++ fired) waiting ≡ panes_of b.panes waiting
    panes_stay [] node held = refl
    panes_stay (first ∷ later) node held =
        let own = All-head (IsHeldPane b) _ _ held in
        let there = get_front b.panes fired first.pane own.0 own.1 ∙ sym own.1 in
        let here : pane_at (b.panes ++ fired) first ≡ pane_at b.panes first = ap (λ (found : Option Pane). elim found [ Some pane ↦ pane ∷ [] | None ↦ [] ]) there in
        ap (λ (front : List Pane). front ++ panes_of (b.panes ++ fired) later) here
        ∙ ap (λ (rest : List Pane). pane_at b.panes first ++ rest) (panes_stay later node (All-tail (IsHeldPane b) _ _ held))

    slot_stays : (job : Option Live) → All (λ (batch : Batch). All (IsHeldPane b) (held_in batch)) (batch_of job) → IsClean b.plan b.panes job → IsClean b.plan (b.panes ++ fired) job
    slot_stays None held clean = tt
    slot_stays (Some (live.Span piece attempted)) held clean = clean
    slot_stays (Some (live.Key turn)) held clean = clean
    slot_stays (Some (live.Batch batch)) held clean = λ bad.
        let same = panes_stay batch.panes batch.node (All-head (λ (x : Batch). All (IsHeldPane b) (held_in x)) batch [] held) in
        clean (subst (λ (panes : List Pane). IsBad b.plan (job.Batch batch.node (first_pane batch) panes batch.attempts)) same bad)

    fired_clean : AreHeldOnce b → AreClean (shape_of b) → AreClean (b.plan, (b.panes ++ fired, b.slots))
    fired_clean held clean =
        let lives = All-append_right (IsHeldPane b) (flat_map held_in b.returned) (flat_map held_in (live_batches b)) (All-append_right (IsHeldPane b) (queued b) _ held.panes) in
        all_both (λ (job : Option Live). All (λ (batch : Batch). All (IsHeldPane b) (held_in batch)) (batch_of job)) (IsClean b.plan b.panes) (IsClean b.plan (b.panes ++ fired)) slot_stays b.slots
        (All-of_flat_map (λ (batch : Batch). All (IsHeldPane b) (held_in batch)) batch_of b.slots (All-of_flat_map (IsHeldPane b) held_in (live_batches b) lives)) clean

  -- ---- one step

  set_clean : (plan : Plan) (panes : List Pane) (slots : List (Option Live)) (slot : ℕ) (job : Option Live) → IsClean plan panes job → AreClean (plan, (panes, slots))
      → AreClean (plan, (panes, slice_set slots slot job))
  set_clean plan panes slots slot job one clean = All-set (IsClean plan panes) slots slot job one clean

  shaped : (new : SeenBook) (shape : Shape) → shape_of new ≡ shape → AreClean shape → AreClean (shape_of new)
  shaped new shape is clean = subst AreClean (sym is) clean

  working : (b : SeenBook) (slot : ℕ) (job : Live) → AreClean (shape_of b) → IsWorking b slot job → IsCleanJob b.plan b.panes job
  working b slot job clean works = All-slice_get (IsClean b.plan b.panes) b.slots slot (Some job) works clean

  step_clean : (b new : SeenBook) (slot : ℕ) (action : Action) (answer : Answer) → Step known.told b slot action answer new → AreHeldOnce b
      → ((new : SeenBook) (slot : ℕ) (job : Job) → IsTaking b slot job new → IsBad b.plan job → ⊥) → AreClean (shape_of b) → AreClean (shape_of new)
  step_clean b new slot Enroll (Enrolled number) step held takes clean =
      shaped new (b.plan, (b.panes, b.slots ++ None ∷ [])) (ap shape_of step.2) (All-push (IsClean b.plan b.panes) b.slots None clean tt)
  step_clean b new slot Enroll NoMemory step held takes clean = shaped new (shape_of b) (ap shape_of step) clean
  step_clean b new slot Take (TakenJob job) step held takes clean =
      let rest = take_keeps shape_of b (λ ps. refl) (due_shape b) (λ cells. refl) step.next step.is_next in
      let one : IsCleanJob b.plan b.panes step.next.job = λ bad. takes new slot job step (subst (IsBad b.plan) (sym step.handed) bad) in
      shaped new (b.plan, (b.panes, slice_set b.slots slot (Some step.next.job)))
      (ap shape_of step.is ∙ ap (λ (shape : Shape). (shape.0, (shape.1.0, slice_set shape.1.1 slot (Some step.next.job)))) rest)
      (set_clean b.plan b.panes b.slots slot (Some step.next.job) one clean)
  step_clean b new slot Take Nothing step held takes clean = shaped new (shape_of b) (ap shape_of step.4) clean
  step_clean b new slot Take Finished step held takes clean = shaped new (shape_of b) (ap shape_of step.4) clean
  step_clean b new slot Take Stopped step held takes clean = shaped new (shape_of b) (ap shape_of step.2) clean
  step_clean b new slot Take NoMemory step held takes clean = shaped new (shape_of b) (ap shape_of step.1) clean
  step_clean b new slot (Claim p) (Claimed granted) step held takes clean =
      shaped new (b.plan, (b.panes, slice_set b.slots slot (Some (live.Span step.piece (Some p))))) (ap shape_of step.is)
      (set_clean b.plan b.panes b.slots slot (Some (live.Span step.piece (Some p))) (working b slot (live.Span step.piece step.attempted) clean step.works.works) clean)
  step_clean b new slot (Split num den) (SplitAt (Some at)) step held takes clean =
      let split = step.0 in
      let front = live.Span (cut_to split.piece (record { from = split.piece.range.from; to = at })) split.attempted in
      shaped new (b.plan, (b.panes, slice_set b.slots slot (Some front))) (ap shape_of split.is)
      (set_clean b.plan b.panes b.slots slot (Some front)
      (cut_clean b.plan b.panes split.piece split.attempted at split.inside (working b slot (live.Span split.piece split.attempted) clean split.works.works)) clean)
  step_clean b new slot (Split num den) (SplitAt None) step held takes clean = shaped new (shape_of b) (ap shape_of step.1) clean
  step_clean b new slot (Split num den) NoMemory step held takes clean = shaped new (shape_of b) (ap shape_of step) clean
  step_clean b new slot Commit Committed step held takes clean =
      let commit = step.1.commit in
      shaped new (b.plan, (b.panes ++ commit.fired, slice_set b.slots slot None)) (ap shape_of commit.is)
      (set_clean b.plan (b.panes ++ commit.fired) b.slots slot None tt (fired_clean b commit.fired held clean))
  step_clean b new slot Commit NoMemory step held takes clean = shaped new (shape_of b) (ap shape_of step.1) clean
  step_clean b new slot (Fail at cause) answer step held takes clean =
      shaped new (b.plan, (b.panes, slice_set b.slots slot None)) (ap shape_of step.is ∙ failed_shape (is_broken b step.job cause) b slot at step.job cause)
      (set_clean b.plan b.panes b.slots slot None tt clean)
  step_clean b new slot Stop Noted step held takes clean = shaped new (shape_of b) (ap shape_of step) clean
  step_clean b new slot _ _ step held takes clean = absurd step

  -- ---- all steps

  module _ (first : SeenBook) (rest : IsAtRest first) (takes : TakesNoAfter IsBad known first) where
    works_none : (b : SeenBook) → IsOn known first b → (slot : ℕ) (job : Live) → IsWorking b slot job → IsBad b.plan (job_of b.panes job) → ⊥
    works_none b on slot job works =
        let idle = All-weaker (λ (job : Option Live). job ≡ None) (IsClean first.plan first.panes) (λ job none. subst (IsClean first.plan first.panes) (sym none) tt) first.slots rest.idle in
        working b slot job
        (kept_on known first (λ (x : SeenBook). AreClean (shape_of x))
        (λ x new slot action answer at step honest. step_clean x new slot action answer step at.sane.held
        (λ new slot job step bad. takes x new at.steps slot job at.run step (subst (λ (p : Plan). IsBad p job) at.same.plan bad)))
        rest.sane idle on.steps b on.run) works

-- ---- from what is taken

-- no slot works a batch or a key job that is poison
abbrev pub WorksNoPoisonBeside : SeenBook → Type 0
WorksNoPoisonBeside b = (slot : ℕ) (job : Live) → IsWorking b slot job → IsPoisonBeside b.plan (job_of b.panes job) → ⊥

module _ (known : Surroundings) (first : SeenBook) (rest : IsAtRest first) where
  pub works_no_poison : TakesNoPoisonAfter known first → (b : SeenBook) → IsOn known first b → WorksNoPoison known b
  works_no_poison =
      works_none known (IsPoisonJob known.told)
      (λ plan piece at inside bad. cut_poison plan piece.range.from at piece.range.to (item_at (items_told known.told plan) piece.node piece.item) inside bad) first rest

  pub works_no_poison_beside : TakesNoPoisonBesideAfter known first → (b : SeenBook) → IsOn known first b → WorksNoPoisonBeside b
  works_no_poison_beside = works_none known IsPoisonBeside (λ plan piece at inside bad. bad) first rest

-- ---- a run from an opening

-- each book to which steps lead from the opening is of its plan, its options and its files
pub opened_takes_none : (IsBad : Plan → Job → Type 0) (known : Surroundings) (b : SeenBook) (reached : HonestlyReached known b) → WhereTold known.told (λ told. AreTold told b)
    → TakesNo IsBad known b.plan b.options → TakesNoAfter IsBad known reached.first
opened_takes_none IsBad known b reached lengths none x new steps slot job run step bad =
    let first = reached.first in
    let own = subst (HasSamePlan b) (sym reached.opening.is) (record { plan = refl; files = refl; options = refl }) in
    let on = (on_after known first (opened_sane b.plan b.files b.options first reached.opening) steps x run).same in
    let same : HasSamePlan b x = record { plan = on.plan ∙ own.plan; files = on.files ∙ own.files; options = on.options ∙ own.options } in
    none x new slot job (record { first = first; opening = opening_of first b x same reached.opening; steps = steps; run = run }) same.plan same.options
    (λ told is. same.files ∙ lengths told is ∙ ap (λ (p : Plan). map item_len (items told p)) (sym same.plan)) step (subst (λ (p : Plan). IsBad p job) own.plan bad)

pub where_told : (known : Surroundings) (told : List FileText) (b : SeenBook) → known.told ≡ Some told → AreTold told b → WhereTold known.told (λ files. AreTold files b)
where_told known told b tells lengths = λ files is. of files (cc (tells, is))
  where
    of : (files : List FileText) → told ≡ files → AreTold files b
    of files is = subst (λ (t : List FileText). AreTold t b) is lengths
