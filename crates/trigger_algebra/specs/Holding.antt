-- When a composite trigger holds (Beam Programming Guide, Composite triggers).
use Rattle.std.specs.Prelude.{ℕ, ℤ, Bool, nat_le, int_le}
use Rattle.std.specs.List.{list_all, list_any}
use Rattle.trigger_algebra.specs.declared.when.When.{When}
use Rattle.trigger_algebra.specs.declared.when.When.TheOpen as layer
use Rattle.trigger_algebra.specs.declared.when.When.TheFolds.{fold-When}

-- one layer of a tree, with what holds of each inner tree in its place
abbrev pub holding_step : ℕ → ℤ → layer.When-F Bool → Bool
holding_step unseen past (layer.Count n) = nat_le n unseen
holding_step unseen past (layer.MarkAt delay) = int_le delay past
holding_step unseen past (layer.First trees) = list_any (λ tree. tree) trees
holding_step unseen past (layer.All trees) = list_all (λ tree. tree) trees

-- The tree holds where so many elements are unseen and the mark is `past` milliseconds past the window's end. All of a count of 2 and a mark of -5000 holds
-- with two unseen from 5000 before the end on, and never with one.
abbrev pub holds : When → ℕ → ℤ → Bool
holds when unseen past = fold-When Bool (holding_step unseen past) when
