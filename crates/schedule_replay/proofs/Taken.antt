-- A slot took a job, or got none.
use Rattle.std.proofs.Common.{◌≡◌, inl, ℕ, ◌≤◌, List, [], ◌∷◌, map, refl, sym, ap, ◌∙◌, subst, arith}
use Rattle.std.specs.Prelude.{Option, Some, None, slice_get, slice_set}
use Rattle.std.proofs.lemmas.Option.{slice_get_within}
use Rattle.beam_values.specs.declared.fault.FaultNote.{FaultNote}
use Rattle.beam_values.specs.declared.piece.Piece.{Piece}
use Rattle.bundle_commit.specs.declared.job.Job.{Job}
use Rattle.bundle_commit.specs.declared.job.Job.TheVariants as job
use Rattle.book_core.specs.Book.{SeenBook}
use Rattle.book_core.specs.Calls.{Makes}
use Rattle.book_core.specs.Facts.{AreHeldOnce}
use Rattle.book_core.specs.Runs.{MadeStep}
use Rattle.book_core.specs.Steps.{Answer, IsTaking, Take, TakenJob}
use Rattle.known_jobs.specs.Calls.{IsJobIn}
use Rattle.known_jobs.specs.Jobs.{KnownJob, known_at}
use Rattle.lone_worker.specs.Work.{Base, IsJobAt, IsRangeAt, IsRangeOf, IsRangeOver, first_of, first_stage, nothing_staged, seen_of, stage_by}
use Rattle.lone_worker.specs.declared.work.Work.{Work}
use Rattle.schedule_words.specs.declared.told.Took.{Took}
use Rattle.schedule_replay.specs.Lines.{took_job, took_of, work_of}
use Rattle.schedule_replay.specs.Shown.{shown, shown_slot}
use Rattle.schedule_replay.specs.Standing.{HasTaken, IsFailable, IsOrdered, IsSlotAt, IsStanding}
use Rattle.schedule_replay.specs.Stands.{Working}
use Rattle.schedule_replay.specs.declared.stand.Stand.{Stand as Stood}
use Rattle.schedule_replay.proofs.Slotted.{shown_set}
use Rattle.schedule_replay.proofs.Steps.{none_set, stands_still, stands_then, taking_sets}

abbrev pub started : Job → Work
started whole = record { job = whole; next = first_of whole; stage = first_stage whole; staged = record { arrivals = []; seen = seen_of whole; logged = None }; receipt = None }

module _ (base : Base) (known : Option KnownJob) where
  module _ (piece : Piece) (taken : known ≡ Some (record { job = job.Span piece; attempted = None })) (ordered : piece.range.from ≤ piece.range.to) where
    whole_range : IsRangeOf piece None known
    whole_range = record { now = piece; claimed = record { is = taken; same = refl; below = omega arith }; ordered = ordered }

    -- a spent piece is over
    starts_range : (spent : Option FaultNote) → piece.spent ≡ spent → IsRangeAt base known piece piece.range.from (stage_by spent) (nothing_staged piece)
    starts_range None is = inl (record { fresh = is; range = whole_range; first = refl; empty = refl })
    starts_range (Some note) is = subst (λ (spent : Option FaultNote). IsRangeOver base spent piece known (nothing_staged piece)) (sym is) (whole_range, refl)

  starts_job : (whole : Job) → known ≡ Some (record { job = whole; attempted = None }) → IsOrdered whole → IsJobAt base known whole (started whole)
  starts_job (job.Span piece) taken ordered = (starts_range piece taken ordered piece.spent refl, refl)
  starts_job (job.Batch node first panes attempts) taken ordered = (taken, refl)
  starts_job (job.Key node cell key span inputs state timers attempts) taken ordered = (taken, refl)

-- and nothing of it failed
begins_failable : (piece : Piece) (spent : Option FaultNote) → IsFailable (job.Span piece) (stage_by spent)
begins_failable piece None = tt
begins_failable piece (Some note) = tt

starts_failable : (whole : Job) → IsFailable whole (first_stage whole)
starts_failable (job.Span piece) = begins_failable piece piece.spent
starts_failable (job.Batch node first panes attempts) = tt
starts_failable (job.Key node cell key span inputs state timers attempts) = tt

module _ (base : Base) (old : Stood) (slot : ℕ) (free : slice_get old.works.items slot ≡ Some None) where
  abbrev b : SeenBook
  b = old.book

  abbrev steps : Answer → List MadeStep
  steps answer = record { slot = slot; action = Take; answer = answer } ∷ []

  -- ---- a job

  pub taken_stands : (fin : Stood) (whole : Job) → IsStanding base old → AreHeldOnce b → IsTaking b slot whole fin.book → known_at fin.book slot ≡ Some (record { job = whole; attempted = None }) → IsOrdered whole
      → IsJobIn base.setting whole → fin.works.items ≡ slice_set old.works.items slot (Some (started whole)) → IsStanding base fin
  taken_stands fin whole standing held step taken ordered inside after =
      let own : IsSlotAt base (known_at fin.book slot) (Some (Some (started whole))) = (starts_job base (known_at fin.book slot) whole taken ordered, inside, starts_failable whole) in
      stands_then base old fin.book fin slot (Some (started whole)) standing (slice_get_within old.works.items slot None free) (Some step.next.job) base.setting.known.told Take (TakenJob whole) held step
      (taking_sets b fin.book slot whole step) own refl after

  pub taken_job : (new : SeenBook) (works : List (Option Working)) (whole : Job) (what : Took) → what ≡ took_job whole → Makes b slot Take (TakenJob whole) new
      → works ≡ map shown_slot (slice_set old.works.items slot (Some (started whole))) → HasTaken base.setting.known.told (shown old) (record { book = new; works = works }) slot what
  taken_job new works whole what is makes after = record {
    answer = TakenJob whole;
    steps = steps (TakenJob whole);
    done = record {
      made = record { step = makes base.setting.known.told; made = refl };
      none = refl;
      later = after ∙ shown_set old.works.items slot (Some (started whole));
      is = ap Some (sym is);
      printed = refl;
    };
  }

  -- ---- none

  pub none_stands : (fin : Stood) → IsStanding base old → fin.book ≡ b → fin.works.items ≡ old.works.items → IsStanding base fin
  none_stands fin standing same after = stands_still base old fin standing same after

  pub taken_none : (new : SeenBook) (works : List (Option Working)) (answer : Answer) (what : Took) → took_of answer ≡ Some what → work_of answer ≡ None → Makes b slot Take answer new
      → works ≡ map shown_slot old.works.items → HasTaken base.setting.known.told (shown old) (record { book = new; works = works }) slot what
  taken_none new works answer what is none makes after = record {
    answer = answer;
    steps = steps answer;
    done = record {
      made = record { step = makes base.setting.known.told; made = refl };
      none = refl;
      later =
          after
          ∙ ap (map shown_slot) (none_set old.works.items slot free)
          ∙ shown_set old.works.items slot None
          ∙ sym (ap (slice_set (shown old).works slot) none);
      is = is;
      printed = refl;
    };
  }
