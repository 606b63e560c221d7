-- How a drain goes on after a line of it, and when a job of it ends.
use Rattle.std.proofs.Common.{◌≡◌, ◌⊎◌, inl, inr, ℕ, ◌+◌, ◌-◌, ◌==◌, ◌&&◌, ◌||◌, ◌<◌, ◌≤◌, Bool, true, false, List, [], ◌∷◌, refl, sym, ap, ◌∙◌, subst, arith}
use Rattle.std.specs.Int.{from_bool}
use Rattle.std.specs.Option.{option_and_then}
use Rattle.std.specs.Prelude.{Option, Some, None, nat_le, nat_lt, if◌then◌else◌, slice_get, slice_set}
use Rattle.std.specs.List.{list_any}
use Rattle.std.proofs.lemmas.Bool.{and_parts}
use Rattle.std.proofs.lemmas.Bool.Decides.{nat_tests}
use Rattle.std.proofs.lemmas.Option.{slice_get_within}
use Rattle.beam_values.specs.declared.fault.FaultNote.{FaultNote}
use Rattle.beam_values.specs.declared.file_text.FileText.{FileText}
use Rattle.beam_values.specs.declared.piece.FileLen.{FileLen}
use Rattle.beam_values.specs.declared.piece.Piece.{Piece}
use Rattle.beam_values.specs.declared.plan.Plan.{Plan}
use Rattle.beam_ports.specs.Observed.{ObservedStore}
use Rattle.bundle_commit.specs.declared.job.Job.{Job}
use Rattle.bundle_commit.specs.declared.job.Job.TheVariants as job
use Rattle.book_core.specs.Book.{SeenBook}
use Rattle.book_core.specs.Changes.{cut_to}
use Rattle.book_core.specs.Steps.{Answer, Finished, IsIdle, Nothing, Step, Stopped, Take, TakenJob}
use Rattle.book_core.proofs.HeldMarks.{slice_get-set_other, slice_get-set_same}
use Rattle.chain_exec.specs.Causes.{ObservedShelf}
use Rattle.known_jobs.specs.Calls.{holds_end}
use Rattle.lone_worker.specs.Work.{Base, IsNextOfJob, first_of, first_stage, may_claim_in, stage_by}
use Rattle.lone_worker.specs.declared.work.ClaimEnd.{ClaimEnd}
use Rattle.lone_worker.specs.declared.work.ClaimEnd.TheVariants as claim
use Rattle.lone_worker.specs.declared.work.Stage.{Stage}
use Rattle.lone_worker.specs.declared.work.Stage.TheVariants as stage
use Rattle.schedule_words.specs.declared.line.Line.TheVariants as line
use Rattle.schedule_words.specs.declared.told.Claimed.{Claimed as ClaimTold}
use Rattle.schedule_words.specs.declared.told.Claimed.TheVariants as claimed
use Rattle.schedule_words.specs.declared.told.Took.{Took}
use Rattle.schedule_replay.specs.Draining.{OthersRest, ends_job, has_ended, is_over, may_work}
use Rattle.schedule_replay.specs.Drains.{drain_line, line_of_stage, stopped_by}
use Rattle.schedule_replay.specs.Lines.{IsClaimed, IsWorkedOn, stage_of, took_of, work_of}
use Rattle.schedule_replay.specs.Standing.{HasClaimed, HasRun, HasTaken, claimed_of, emitted_after}
use Rattle.schedule_replay.specs.Stands.{Stand, Working, has_job, may_claim, may_commit, may_run, may_take, work_at}
use Rattle.schedule_replay.specs.Works.{Fault, Worked}

-- ---- the first slot's work is set

module _ (s new : Stand) (work : Option Working) (after : new.works ≡ slice_set s.works 0 work) where
  -- the others rest
  pub others_then : OthersRest s → OthersRest new
  others_then rest = λ other apart. ap has_job (ap (λ (l : List (Option Working)). slice_get l other) after ∙ slice_get-set_other s.works 0 other work apart) ∙ rest other apart

  pub first_then : (was : Option Working) → work_at s 0 ≡ Some was → work_at new 0 ≡ Some work
  first_then was at = ap (λ (l : List (Option Working)). slice_get l 0) after ∙ slice_get-set_same s.works 0 work (slice_get_within s.works 0 was at)

-- ---- lengths

-- all files together
pub all_lens : List FileLen → ℕ
all_lens [] = 0
all_lens (file ∷ files) = file.len + all_lens files

abbrev pub next_of : Option (Option Working) → ℕ
next_of (Some (Some work)) = work.next
next_of _ = 0

within_all : (piece : Piece) (files : List FileLen) → list_any (holds_end piece) files ≡ true → piece.range.to ≤ all_lens files
unfolding all_lens
within_all piece [] holds = absurd (cc)
within_all piece (file ∷ files) holds = by (holds_end piece file) refl holds (within_all piece files)
  where
    by : (here : Bool) → holds_end piece file ≡ here → (here || list_any (holds_end piece) files) ≡ true → (list_any (holds_end piece) files ≡ true → piece.range.to ≤ all_lens files)
        → piece.range.to ≤ file.len + all_lens files
    by true is holds later =
        let low : nat_le piece.range.to file.len ≡ true = (and_parts (file.node == piece.node && file.item == piece.item) (nat_le piece.range.to file.len) is).1 in
        grind (arith, nat_tests)
    by false is holds later = omega (arith, later holds)

next_within : (told : Option (List FileText)) (plan : Plan) (files : List FileLen) (whole : Job) (p next : ℕ) → IsNextOfJob told plan files whole p next → (p < next) × (next ≤ all_lens files)
next_within told plan files (job.Span piece) p next is = (is.behind, within_all (cut_to piece (record { from = p; to = next })) files is.inside)
next_within told plan files (job.Batch node first panes attempts) p next is = absurd is
next_within told plan files (job.Key node cell key span inputs state timers attempts) p next is = absurd is

-- ---- after a claim

module _ (told : Option (List FileText)) (b : SeenBook) (work later : Working) (what : ClaimTold) where
  on_worked : (fault : Option Fault) → IsWorkedOn told b work fault what later → what ≡ claimed.Worked → (next : ℕ) × IsNextOfJob told b.plan b.files work.job work.next next × (later ≡ record work { next = next })
  on_worked None on is = (on.1, on.2, on.3)
  on_worked (Some fault) on is = let never : claimed.Faulted ≡ claimed.Worked = sym on.0 ∙ is in absurd (cc)

  claim_onward : (slot : ℕ) (granted : Bool) (works : List Worked) → IsClaimed told b slot work granted works what later → what ≡ claimed.Worked
      → (next : ℕ) × IsNextOfJob told b.plan b.files work.job work.next next × (later ≡ record work { next = next })
  claim_onward slot false works came is = let never : claimed.Refused ≡ claimed.Worked = sym came.1 ∙ is in absurd (cc)
  claim_onward slot true works came is = on_worked came.0 came.4 is

  on_stopped : (fault : Option Fault) → IsWorkedOn told b work fault what later → (what ≡ claimed.Worked → ⊥) → (bundle emitted : ℕ) (whole : Job) → ends_job (line_of_stage bundle emitted whole later.stage) ≡ true
  on_stopped None on other bundle emitted whole = absurd (other on.0)
  on_stopped (Some fault) on other bundle emitted whole = ap (λ (w : Working). ends_job (line_of_stage bundle emitted whole w.stage)) on.1

  claim_stops : (slot : ℕ) (granted : Bool) (works : List Worked) → IsClaimed told b slot work granted works what later → (what ≡ claimed.Worked → ⊥) → (bundle emitted : ℕ) (whole : Job)
      → ends_job (line_of_stage bundle emitted whole later.stage) ≡ true
  claim_stops slot false works came other bundle emitted whole = ap (λ (w : Working). ends_job (line_of_stage bundle emitted whole w.stage)) came.2
  claim_stops slot true works came other bundle emitted whole = on_stopped came.0 came.4 other bundle emitted whole

module _ (base : Base) (shelf : ObservedShelf) (store : ObservedStore) (s new : Stand) (p : ℕ) (end : ClaimEnd) (has : HasClaimed base shelf store s new 0 p end) where
  abbrev prior : Working
  prior = has.done.work

  abbrev later : Working
  later = has.done.later

  now_works : work_at new 0 ≡ Some (Some later)
  now_works = first_then s new (Some later) has.done.after (Some prior) has.done.has

  pub claim_rests : OthersRest s → OthersRest new
  claim_rests rest = others_then s new (Some later) has.done.after rest

  -- the position was worked
  module _ (emitted : Bool) (is : end ≡ claim.Worked emitted) where
    onward : (next : ℕ) × IsNextOfJob base.setting.known.told new.book.plan new.book.files prior.job prior.next next × (later ≡ record prior { next = next })
    onward = claim_onward base.setting.known.told new.book prior later has.done.what 0 has.done.granted has.works has.done.came (has.what ∙ ap claimed_of is)

    pub claims_on : may_claim (work_at s 0) ≡ true → may_claim (work_at new 0) ≡ true
    claims_on may =
        ap may_claim now_works
        ∙ ap (λ (w : Working). may_claim_in w.job w.stage) onward.2
        ∙ sym (ap may_claim has.done.has)
        ∙ may

    pub claims_fewer : new.book.files ≡ base.setting.files → all_lens base.setting.files - next_of (work_at new 0) < all_lens base.setting.files - next_of (work_at s 0)
    claims_fewer files =
        let within = next_within base.setting.known.told new.book.plan new.book.files prior.job prior.next onward.0 onward.1 in
        let now : next_of (work_at new 0) ≡ onward.0 = ap next_of now_works ∙ ap (λ (w : Working). w.next) onward.2 in
        let was : next_of (work_at s 0) ≡ prior.next = ap next_of has.done.has in
        let same : all_lens new.book.files ≡ all_lens base.setting.files = ap all_lens files in
        omega (arith, within.0, within.1, now, was, same)

  -- it was refused, or its work failed
  pub claims_stop : (claimed_of end ≡ claimed.Worked → ⊥) → (bundle emitted : ℕ) → ends_job (drain_line bundle emitted (work_at new 0)) ≡ true
  claims_stop other bundle emitted =
      ap (λ (w : Option (Option Working)). ends_job (drain_line bundle emitted w)) now_works
      ∙ claim_stops base.setting.known.told new.book prior later has.done.what 0 has.done.granted has.works has.done.came (λ is. other (sym has.what ∙ is)) bundle emitted later.job

-- it was refused or failed, and so not worked
pub not_worked : (end : ClaimEnd) → (end ≡ claim.Refused) ⊎ (end ≡ claim.Faulted) → claimed_of end ≡ claimed.Worked → ⊥
not_worked claim.Refused is same = absurd (cc)
not_worked (claim.Worked emitted) (inl is) same = absurd (cc)
not_worked (claim.Worked emitted) (inr is) same = absurd (cc)
not_worked claim.Faulted is same = absurd (cc)

-- ---- after a run

module _ (base : Base) (shelf : ObservedShelf) (store : ObservedStore) (s new : Stand) (worked : Bool) (has : HasRun base shelf store s new 0 worked) where
  abbrev ran : Working
  ran = record has.done.work { stage = stage_of has.done.fault }

  pub run_rests : OthersRest s → OthersRest new
  run_rests rest = others_then s new (Some ran) has.done.after rest

  over : (fault : Option Fault) (bundle emitted : ℕ) (whole : Job) → ends_job (line_of_stage bundle emitted whole (stage_of fault)) ≡ true
  over None bundle emitted whole = refl
  over (Some fault) bundle emitted whole = refl

  pub runs_stop : (bundle emitted : ℕ) → ends_job (drain_line bundle emitted (work_at new 0)) ≡ true
  runs_stop bundle emitted =
      ap (λ (w : Option (Option Working)). ends_job (drain_line bundle emitted w)) (first_then s new (Some ran) has.done.after (Some has.done.work) has.done.has)
      ∙ over has.done.fault bundle emitted has.done.work.job

-- ---- after a take

module _ (told : Option (List FileText)) (s new : Stand) (what : Took) (has : HasTaken told s new 0 what) where
  pub take_rests : OthersRest s → OthersRest new
  take_rests rest = others_then s new (work_of has.answer) has.done.later rest

  now_takes : may_take (work_at s 0) ≡ true → work_at new 0 ≡ Some (work_of has.answer)
  now_takes free = by (work_at s 0) refl free
    where
      by : (at : Option (Option Working)) → work_at s 0 ≡ at → may_take at ≡ true → work_at new 0 ≡ Some (work_of has.answer)
      by None at free = absurd (cc)
      by (Some None) at free = first_then s new (work_of has.answer) has.done.later None at
      by (Some (Some work)) at free = absurd (cc)

  range_begins : (piece : Piece) (spent : Option FaultNote) → may_work (Some (Some (record { job = job.Span piece; next = piece.range.from; stage = stage_by spent }))) ≡ true
  range_begins piece None = refl
  range_begins piece (Some note) = refl

  begins : (whole : Job) → may_work (Some (Some (record { job = whole; next = first_of whole; stage = first_stage whole }))) ≡ true
  begins (job.Span piece) = range_begins piece piece.spent
  begins (job.Batch node first panes attempts) = refl
  begins (job.Key node cell key span inputs state timers attempts) = refl

  -- a job, since the book is idle: it is worked on
  pub take_works : may_take (work_at s 0) ≡ true → IsIdle s.book → stopped_by what ≡ None → may_work (work_at new 0) ≡ true
  take_works free idle on = ap may_work (now_takes free) ∙ by has.answer has.done.is has.done.made.step
    where
      by : (answer : Answer) → took_of answer ≡ Some what → Step told s.book 0 Take answer new.book → may_work (Some (work_of answer)) ≡ true
      by (TakenJob whole) is step = begins whole
      by Nothing is step = absurd (step.3 idle)
      by Finished is step = let ends : Some false ≡ stopped_by what = ap (option_and_then stopped_by) is in absurd (cc)
      by Stopped is step = let ends : Some true ≡ stopped_by what = ap (option_and_then stopped_by) is in absurd (cc)
      by _ is step = absurd (cc)

-- ---- a job ends

-- as many as are in a bundle emitted a value
pub full_ends : (bundle emitted : ℕ) → bundle ≤ emitted → (work : Option (Option Working)) → may_claim work ≡ true → ends_job (drain_line bundle emitted work) ≡ true
full_ends bundle emitted full None may = absurd (cc)
full_ends bundle emitted full (Some None) may = absurd (cc)
full_ends bundle emitted full (Some (Some work)) may = by work.job work.stage may
  where
    past : nat_lt emitted bundle ≡ false
    past = grind (arith, nat_tests)

    by : (whole : Job) (at : Stage) → may_claim_in whole at ≡ true → ends_job (line_of_stage bundle emitted whole at) ≡ true
    by (job.Span piece) stage.Open may = ap (λ (b : Bool). ends_job (if b then line.Claim 0 else line.Commit 0)) past
    by (job.Span piece) stage.Over may = absurd (cc)
    by (job.Span piece) (stage.Faulted at cause) may = absurd (cc)
    by (job.Batch node first panes attempts) at may = absurd (cc)
    by (job.Key node cell key span inputs state timers attempts) at may = absurd (cc)

-- the slot is free then, and the others rest
module _ (s new : Stand) (after : new.works ≡ slice_set s.works 0 None) where
  pub last_rests : OthersRest s → OthersRest new
  last_rests rest = others_then s new None after rest

  pub last_frees : has_job (work_at s 0) ≡ true → may_take (work_at new 0) ≡ true
  last_frees works = by (work_at s 0) refl works
    where
      by : (at : Option (Option Working)) → work_at s 0 ≡ at → has_job at ≡ true → may_take (work_at new 0) ≡ true
      by None at works = absurd (cc)
      by (Some None) at works = absurd (cc)
      by (Some (Some work)) at works = ap may_take (first_then s new None after (Some work) at)

-- what is committed is worked
pub commits_job : (work : Option (Option Working)) → may_commit work ≡ true → has_job work ≡ true
commits_job None may = absurd (cc)
commits_job (Some None) may = absurd (cc)
commits_job (Some (Some work)) may = refl

-- ---- which way a job is worked

pub works_job : (work : Option (Option Working)) → may_work work ≡ true → has_job work ≡ true
works_job None may = absurd (cc)
works_job (Some None) may = absurd (cc)
works_job (Some (Some work)) may = refl

-- a job that is neither claimed from nor run is over
pub over_where : (work : Option (Option Working)) → may_work work ≡ true → may_claim work ≡ false → may_run work ≡ false → has_ended work ≡ true
over_where work may no_claim no_run =
    let rest : (may_run work || has_ended work) ≡ true = subst (λ (b : Bool). (b || (may_run work || has_ended work)) ≡ true) no_claim may in
    subst (λ (b : Bool). (b || has_ended work) ≡ true) no_run rest

over_stage : (bundle emitted : ℕ) (whole : Job) (at : Stage) → is_over at ≡ true → ends_job (line_of_stage bundle emitted whole at) ≡ true
over_stage bundle emitted whole stage.Open over = absurd (cc)
over_stage bundle emitted whole stage.Over over = refl
over_stage bundle emitted whole (stage.Faulted at cause) over = absurd (cc)

-- and is committed next
pub over_ends : (bundle emitted : ℕ) (work : Option (Option Working)) → has_ended work ≡ true → ends_job (drain_line bundle emitted work) ≡ true
over_ends bundle emitted None over = absurd (cc)
over_ends bundle emitted (Some None) over = absurd (cc)
over_ends bundle emitted (Some (Some work)) over = over_stage bundle emitted work.job work.stage over

-- one more position emitted a value, or none did
pub counts_on : (before left : ℕ) (emitted : Bool) → 0 < left → emitted_after before (claim.Worked emitted) + (left - from_bool emitted) ≡ before + left
counts_on before left true some = omega arith
counts_on before left false some = omega arith
