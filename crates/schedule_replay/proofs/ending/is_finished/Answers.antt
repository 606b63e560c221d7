use Rattle.std.proofs.Common.{◌≡◌, Bool, true, false, List, ap, sym, ◌∙◌}
use Rattle.std.specs.Prelude.{Option, slice_get}
use Rattle.std.proofs.lemmas.Bool.{false≢true}
use Rattle.lone_worker.specs.declared.work.Work.{Work}
use Rattle.schedule_replay.specs.Replays.{IsFinished}
use Rattle.schedule_replay.specs.Shown.{shown_work}
use Rattle.schedule_replay.specs.Stands.{may_take}
use Rattle.schedule_replay.proofs.Unfinished.{finished_by, first_free, ok_by, unfinished_at, unfinished_by}
use Rattle.schedule_replay.proofs.ending.is_finished.Goals as goal
use Rattle.schedule_replay.proofs.ending.is_finished.Goals.{in-Finished, in_default}

pub take-requires : goal.take-requires
take-requires c =
    let stood = c.args.stand.now in
    first_free c.requires.standing.0 stood c.requires.standing.1
    (ap (λ (works : List (Option Work)). may_take (shown_work (slice_get works 0))) (sym c.as_slice.ensures.value) ∙ sym c.may_take.ensures ∙ c.if-not-may_take.false)

pub returns-then-not-may_take-clause-unfinished : goal.returns-then-not-may_take-clause-unfinished
returns-then-not-may_take-clause-unfinished c =
    let stood = c.args.stand.now in
    λ _. unfinished_at c.requires.standing.0 stood c.requires.standing.1
    (ap (λ (works : List (Option Work)). may_take (shown_work (slice_get works 0))) (sym c.as_slice.ensures.value) ∙ sym c.may_take.ensures ∙ c.if-not-may_take.true)

pub returns-clause-finished : goal.returns-clause-finished
returns-clause-finished c =
    let b = c.args.stand.now.book in
    let new = c.take.new.self in
    let says = λ (finished : Bool). finished ≡ true → IsFinished b × (new ≡ b) in
    elim c.match-branch-2.branch [
      | in-Finished w ↦ ok_by says c.match-branch-2.result true w.result-is (λ _. finished_by b new 0 c.in_ok-take.field-0 w.in-Finished.is c.in_ok-take.ensures.ok)
      | in_default w ↦ ok_by says c.match-branch-2.result false w.result-is (λ yes. absurd (false≢true yes))
    ]

pub returns-clause-unfinished : goal.returns-clause-unfinished
returns-clause-unfinished c =
    let b = c.args.stand.now.book in
    let new = c.take.new.self in
    let says = λ (finished : Bool). finished ≡ false → IsFinished b → ⊥ in
    elim c.match-branch-2.branch [
      | in-Finished w ↦ ok_by says c.match-branch-2.result true w.result-is (λ no. absurd (false≢true (sym no)))
      | in_default w ↦ ok_by says c.match-branch-2.result false w.result-is (λ _. unfinished_by b new 0 c.in_ok-take.field-0 w.in_default.not-Finished c.in_ok-take.ensures.ok)
    ]
