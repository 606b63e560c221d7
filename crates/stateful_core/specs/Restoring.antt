-- Steps of giving key cells out as data, and of making them again.
use Rattle.std.specs.Prelude.{ℕ, ℤ, List, [], ◌∷◌, Option, Some}
use Rattle.stateful_core.specs.Ready.{AreKept}
use Rattle.stateful_core.specs.declared.data.SetTimer.{SetTimer}
use Rattle.stateful_core.specs.declared.restoring.Restored.{Restored}

-- the timer of a name, where it is set
abbrev pub one_timer : ℕ → Option ℤ → Option ℤ → List SetTimer
one_timer name (Some time) (Some hold) = record { timer = record { name = name; time = time }; hold = hold } ∷ []
one_timer name _ _ = []

-- cells that are made again are found and due, and no commit is prepared
abbrev pub AreRestored : Restored → Type 0
AreRestored restored = AreKept restored.index.numbers.places restored.trees.items restored.slots.items []
