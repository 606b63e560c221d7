use Rattle.std.proofs.Common.{refl, sym, ◌∙◌, get_or, length}
use Rattle.std.proofs.lemmas.Bool.{eqb-true}
use Rattle.stateful_core.proofs.FormedTimers.{allowed_none, allowed_one, one_allowed, one_long, some_allowed}
use Rattle.stateful_core.proofs.sane_data.are_timers_allowed.Goals as goal

pub returns-then-is_empty : goal.returns-then-is_empty
returns-then-is_empty c = (
  λ e. allowed_none c.args.work c.args.timers.now
      (eqb-true (length c.args.timers.now) 0 (sym c.is_empty.ensures ∙ c.if-is_empty.true)),
  λ h. refl,
)

pub returns-then-timers-gt1 : goal.returns-then-timers-gt1
returns-then-timers-gt1 c = (λ e. absurd (cc), λ h. absurd (some_allowed c.args.work c.args.timers.now c.if-timers-gt1.true h))

pub returns-then-timer-eq0 : goal.returns-then-timer-eq0
returns-then-timer-eq0 c =
    let one = one_long (length c.args.timers.now) (sym c.is_empty.ensures ∙ c.if-is_empty.false) c.if-timers-gt1.false in (
      λ e. allowed_one c.args.work c.args.timers.now c.index-timers-0.result one c.if-timer-eq0.true (c.is_allowed.ensures.0 e),
      λ h. c.is_allowed.ensures.1 (one_allowed c.args.work c.args.timers.now c.index-timers-0.result one h).1,
    )

pub returns-else-timer-eq0 : goal.returns-else-timer-eq0
returns-else-timer-eq0 c =
    let one = one_long (length c.args.timers.now) (sym c.is_empty.ensures ∙ c.if-is_empty.false) c.if-timers-gt1.false in (
      λ e. absurd (c.if-timer-eq0.false (eqb-true (get_or c.args.timers.now 0 c.index-timers-0.result).timer.name 0 e)),
      λ h. absurd (c.if-timer-eq0.false (one_allowed c.args.work c.args.timers.now c.index-timers-0.result one h).0),
    )
