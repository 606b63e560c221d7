-- Where a seat stands between turns and in a turn, as facts of which each has one proof.
use Rattle.std.specs.Prelude.{◌≡◌}
use Rattle.std.specs.Coded.{Coded, Coded-set, Unit-prop}
use Rattle.turn_desk.specs.declared.view.Stage.{Stage}
use Rattle.turn_desk.specs.declared.view.Stage.TheVariants.{Spent, Idle, Waits, InTurn}

module _ {V : Type 0} where
  abbrev pub IsIdle : Stage V → Type 0
  IsIdle Spent = ⊥
  IsIdle Idle = Unit {0}
  IsIdle (Waits t) = ⊥
  IsIdle (InTurn t x) = ⊥

  pub IsIdle-prop : (st : Stage V) → IsProp (IsIdle st)
  IsIdle-prop Spent = λ a b. absurd a
  IsIdle-prop Idle = Unit-prop
  IsIdle-prop (Waits t) = λ a b. absurd a
  IsIdle-prop (InTurn t x) = λ a b. absurd a

  -- it is in turn, and took the value x
  abbrev pub HasTaken : V → Stage V → Type 0
  HasTaken x Spent = ⊥
  HasTaken x Idle = ⊥
  HasTaken x (Waits t) = ⊥
  HasTaken x (InTurn t y) = y ≡ x

  pub HasTaken-prop : Coded V → (x : V) (st : Stage V) → IsProp (HasTaken x st)
  HasTaken-prop code x Spent = λ a b. absurd a
  HasTaken-prop code x Idle = λ a b. absurd a
  HasTaken-prop code x (Waits t) = λ a b. absurd a
  HasTaken-prop code x (InTurn t y) = Coded-set code y x
