use Rattle.std.proofs.Common.{refl, arith}
use Rattle.sdf_library.proofs.Telling.{two_within, made_refused, made_told}
use Rattle.sdf_library.proofs.work.made.MadePositionWork.tell.Goals as goal

pub returns-in_err-text : goal.returns-in_err-text
returns-in_err-text c =
    let limits = two_within 1000000 1000000 c.args.args.now c.requires.allowed in
    made_refused _ c.args.p _ _ _ _ limits.1 (omega (arith, c.requires.view.inside, c.requires.view.counted refl)) c.from_residual.ensures.1

pub returns-in_err-push_timed : goal.returns-in_err-push_timed
returns-in_err-push_timed c =
    let limits = two_within 1000000 1000000 c.args.args.now c.requires.allowed in
    made_refused _ c.args.p _ _ _ _ limits.1 (omega (arith, c.requires.view.inside, c.requires.view.counted refl)) c.from_residual-in_err-push_timed.ensures.1

pub returns : goal.returns
returns c =
    let limits = two_within 1000000 1000000 c.args.args.now c.requires.allowed in
    made_told _ c.args.p _ _ _ _ _ limits.1 (omega (arith, c.requires.view.inside, c.requires.view.counted refl))
    (rw (← c.second_argument-number.ensures) c.in_ok-text.ensures) (rw (← c.second_argument-number.ensures) c.time_at-time.ensures) c.in_ok-push_timed.ensures
