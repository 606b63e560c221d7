use Rattle.std.proofs.Common.{[], ◌∷◌, refl}
use Rattle.stateful_core.proofs.WorkedOnce.{enroll_once, take_once, give_back_once, done_once, other_once}
use Rattle.stateful_core.proofs.laws.each_live_cell_is_worked_by_one_slot.Goals as goal

pub returns-clause-enroll : goal.returns-clause-enroll
returns-clause-enroll c = λ slots cells h. enroll_once (λ keys. keys) slots cells [] h refl

pub returns-clause-take : goal.returns-clause-take
returns-clause-take c = λ slots cells slot at bundle cell h e is free. take_once (λ keys. keys) slots cells slot at bundle [] (at ∷ []) cell h e refl refl is free

pub returns-clause-give_back : goal.returns-clause-give_back
returns-clause-give_back c = λ slots cells slot at cell h e is. give_back_once (λ keys. keys) slots cells slot at (at ∷ []) [] cell h e refl refl is

pub returns-clause-place : goal.returns-clause-place
returns-clause-place c = λ plan before done arrivals slots cells slot cell h e is. done_once (λ keys. keys) plan before done arrivals slots cells slot (done.cell ∷ []) [] cell h e refl refl is

pub returns-clause-other : goal.returns-clause-other
returns-clause-other c = λ plan before arrivals slots cells slot keys h e. other_once (λ k. k) plan before arrivals slots cells slot keys keys h e refl
