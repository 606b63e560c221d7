-- What a call did is what its line does.
use Rattle.std.proofs.Common.{◌≡◌, ℕ, ◌<◌, zero, suc, Bool, true, false, List, [], ◌∷◌, length, not, refl, arith}
use Rattle.std.specs.Prelude.{Option, Some, None, is_none, slice_get}
use Rattle.std.specs.List.{list_all}
use Rattle.std.proofs.lemmas.List.{length-map}
use Rattle.beam_ports.specs.Observed.{ObservedStore}
use Rattle.chain_exec.specs.Causes.{ObservedShelf}
use Rattle.lone_worker.specs.Work.{Base}
use Rattle.schedule_words.specs.Told.{told_text}
use Rattle.schedule_words.specs.declared.line.Line.TheVariants as line
use Rattle.schedule_words.specs.declared.told.Told.TheVariants as answered
use Rattle.schedule_words.specs.declared.told.Took.{Took}
use Rattle.schedule_replay.specs.Draining.{OthersRest}
use Rattle.schedule_replay.specs.Shown.{shown, shown_slot}
use Rattle.schedule_replay.specs.Standing.{AreHonest, HasRun, HasTaken, IsStanding, IsWorked}
use Rattle.schedule_replay.specs.Stands.{Stand, Working, has_job, may_take, work_at}
use Rattle.schedule_replay.specs.declared.stand.Stand.{Stand as Stood}

module _ (base : Base) (shelf : ObservedShelf) (store : ObservedStore) (s new : Stand) (slot : ℕ) where
  -- a take works nothing
  pub take_works : AreHonest base shelf store [] → (what : Took) → HasTaken base.setting.known.told s new slot what
      → IsWorked base shelf store s new (line.Take slot) (told_text (answered.Taken slot what))
  take_works honest what has = record { steps = has.steps; works = []; done = (has.answer, what, has.done); honest = honest }

  pub run_works : (worked : Bool) → HasRun base shelf store s new slot worked → IsWorked base shelf store s new (line.RunJob slot) (told_text (answered.Ran slot (not worked)))
  run_works worked has = record { steps = []; works = has.works; done = has.done; honest = has.honest }

-- ---- a drain is allowed where no slot works

rests_at : (works : List (Option Working)) (slot : ℕ) → list_all is_none works ≡ true → has_job (slice_get works slot) ≡ false
rests_at [] slot all = refl
rests_at (None ∷ works) zero all = refl
rests_at (None ∷ works) (suc slot) all = rests_at works slot all
rests_at (Some work ∷ works) slot all = absurd (cc)

free_first : (works : List (Option Working)) → list_all is_none works ≡ true → 0 < length works → may_take (slice_get works 0) ≡ true
free_first [] all some = absurd (omega (arith, some))
free_first (None ∷ works) all some = refl
free_first (Some work ∷ works) all some = absurd (cc)

module _ (base : Base) (stood : Stood) (standing : IsStanding base stood) (all : list_all is_none (shown stood).works ≡ true) where
  pub drain_free : may_take (work_at (shown stood) 0) ≡ true
  drain_free = free_first (shown stood).works all (omega (arith, standing.some, length-map stood.works.items shown_slot))

  pub drain_rests : OthersRest (shown stood)
  drain_rests = λ other apart. rests_at (shown stood).works other all
