-- What the code tells of the slots, as they are seen: no slot works, so the book is idle; a job that is run, or is over, goes on where it is committed; and a
-- work that failed may be failed.
use Rattle.std.proofs.Common.{◌≡◌, ℕ, zero, suc, ◌<◌, Bool, true, false, List, length, refl, sym, ap, ◌∙◌, subst, arith}
use Rattle.std.specs.Prelude.{Option, Some, None, slice_get}
use Rattle.std.proofs.lemmas.List.Elements.{All-from_get_or}
use Rattle.std.proofs.lemmas.Option.{get_or_from_slice_get, slice_get-get_or}
use Rattle.beam_values.specs.declared.fault.FaultNote.{FaultNote}
use Rattle.beam_values.specs.declared.piece.Piece.{Piece}
use Rattle.bundle_commit.specs.declared.job.Job.{Job}
use Rattle.bundle_commit.specs.declared.job.Job.TheVariants as job
use Rattle.bundle_commit.specs.declared.job.Receipt.{Receipt}
use Rattle.book_core.specs.Steps.{IsIdle}
use Rattle.book_core.specs.declared.live.Live.{Live}
use Rattle.known_jobs.specs.Calls.{FailsInside, HasAttempted}
use Rattle.known_jobs.specs.Jobs.{known_at}
use Rattle.lone_worker.specs.Work.{Base, IsJobAt, IsRangeAt, IsRangeOver, may_run_in}
use Rattle.lone_worker.specs.declared.work.Stage.{Stage}
use Rattle.lone_worker.specs.declared.work.Stage.TheVariants as stage
use Rattle.lone_worker.specs.declared.work.Work.{Work}
use Rattle.schedule_replay.specs.Draining.{OthersRest, has_ended, has_failed, is_over}
use Rattle.schedule_replay.specs.Shown.{shown, shown_work}
use Rattle.schedule_replay.specs.Standing.{IsSlotAt, IsStanding}
use Rattle.schedule_replay.specs.Stands.{Working, has_job, may_fail, may_run, may_take, work_at}
use Rattle.schedule_replay.specs.declared.stand.Stand.{Stand as Stood}
use Rattle.schedule_replay.proofs.Fails.{fails_fresh, fails_inside}
use Rattle.schedule_replay.proofs.Slotted.{shown_at}
use Rattle.schedule_replay.proofs.Noted.{free_where, has_work, seen_work, slot_works}

-- what the code tells of a slot by what it keeps, as it is seen
pub tested : (tells : Option (Option Working) → Bool) (stood : Stood) (slot : ℕ) (items : List (Option Work)) (said is : Bool) → items ≡ stood.works.items → said ≡ tells (shown_work (slice_get items slot))
    → said ≡ is → tells (work_at (shown stood) slot) ≡ is
tested tells stood slot items said is same by answer =
    ap tells (shown_at stood.works.items slot)
    ∙ ap (λ (l : List (Option Work)). tells (shown_work (slice_get l slot))) (sym same)
    ∙ sym by
    ∙ answer

module _ (base : Base) (stood : Stood) (standing : IsStanding base stood) where
  -- ---- no slot works

  module _ (free : may_take (work_at (shown stood) 0) ≡ true) (rest : OthersRest (shown stood)) where
    none_works : (slot : ℕ) (work : Work) → slice_get stood.works.items slot ≡ Some (Some work) → ⊥
    none_works zero work at = let never : false ≡ true = sym (ap may_take (seen_work stood zero work at)) ∙ free in absurd (cc)
    none_works (suc slot) work at =
        let never : true ≡ false = sym (ap has_job (seen_work stood (suc slot) work at)) ∙ rest (suc slot) (λ (is : suc slot ≡ 0). omega (arith, is)) in
        absurd (cc)

    none_known : (slot : ℕ) → slot < length stood.book.slots → known_at stood.book slot ≡ None
    none_known slot within = by (slice_get stood.works.items slot) refl (standing.each slot)
      where
        by : (at : Option (Option Work)) → slice_get stood.works.items slot ≡ at → IsSlotAt base (known_at stood.book slot) at → known_at stood.book slot ≡ None
        by None at own =
            let inside : slot < length stood.works.items = omega (arith, standing.count, within) in
            let some = slice_get-get_or stood.works.items slot None inside in
            absurd (cc)
        by (Some None) at own = own
        by (Some (Some work)) at own = absurd (none_works slot work at)

    pub rests_idle : IsIdle stood.book
    rests_idle = All-from_get_or (λ (slot : Option Live). slot ≡ None) stood.book.slots None
        (λ slot within. get_or_from_slice_get stood.book.slots slot None None (free_where stood.book slot within (none_known slot within)))

  -- ---- a batch or a key job

  pub run_attempts : may_run (work_at (shown stood) 0) ≡ true → HasAttempted (known_at stood.book 0)
  run_attempts may =
      let has = has_work stood 0 may_run refl refl may in
      by has.0 has.0.job has.2 (slot_works base stood standing 0 has.0 has.1).0
    where
      by : (work : Work) (whole : Job) → may_run_in whole work.stage ≡ true → IsJobAt base (known_at stood.book 0) whole work → HasAttempted (known_at stood.book 0)
      by work (job.Span piece) may is = absurd (cc)
      by work (job.Batch node first panes attempts) may is = subst HasAttempted (sym is.0) tt
      by work (job.Key node cell key span inputs state timers attempts) may is = subst HasAttempted (sym is.0) tt

  -- ---- a job that is over

  over_attempts_by : (piece : Piece) (spent : Option FaultNote) (staged : Receipt) → piece.spent ≡ spent → IsRangeOver base spent piece (known_at stood.book 0) staged → HasAttempted (known_at stood.book 0)
  over_attempts_by piece None staged is over = subst HasAttempted (sym over.0.range.claimed.is) tt
  over_attempts_by piece (Some note) staged is over =
      let spent : over.0.now.spent ≡ Some note = ap (λ (p : Piece). p.spent) over.0.claimed.same ∙ is in
      subst HasAttempted (sym over.0.claimed.is) (λ none. let never : None ≡ Some note = sym none ∙ spent in absurd (cc))

  pub over_attempts : has_ended (work_at (shown stood) 0) ≡ true → HasAttempted (known_at stood.book 0)
  over_attempts ended =
      let has = has_work stood 0 has_ended refl refl ended in
      by has.0 has.0.job has.0.stage refl has.2 (slot_works base stood standing 0 has.0 has.1).0
    where
      by : (work : Work) (whole : Job) (s : Stage) → work.stage ≡ s → is_over s ≡ true → IsJobAt base (known_at stood.book 0) whole work → HasAttempted (known_at stood.book 0)
      by work whole stage.Open at over is = absurd (cc)
      by work whole (stage.Faulted node cause) at over is = absurd (cc)
      by work (job.Span piece) stage.Over at over is =
          let range = subst (λ (s : Stage). IsRangeAt base (known_at stood.book 0) piece work.next s work.staged) at is.0 in
          over_attempts_by piece piece.spent work.staged refl range
      by work (job.Batch node first panes attempts) stage.Over at over is = subst HasAttempted (sym is.0) tt
      by work (job.Key node cell key span inputs state timers attempts) stage.Over at over is = subst HasAttempted (sym is.0) tt

  -- ---- a work that failed

  pub failed_inside : has_failed (work_at (shown stood) 0) ≡ true → FailsInside (known_at stood.book 0)
  failed_inside failed =
      let has = has_work stood 0 has_failed refl refl failed in
      fails_inside base (known_at stood.book 0) has.0 has.2 (slot_works base stood standing 0 has.0 has.1).0

  pub failed_may : has_failed (work_at (shown stood) 0) ≡ true → may_fail (work_at (shown stood) 0) ≡ true
  failed_may failed =
      let has = has_work stood 0 has_failed refl refl failed in
      ap may_fail (seen_work stood 0 has.0 has.1) ∙ fails_fresh has.0.job has.0.stage (slot_works base stood standing 0 has.0 has.1).2 has.2
