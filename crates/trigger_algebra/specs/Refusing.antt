-- Which trees are no triggers, and the first reason (the limits are this profile's).
use Rattle.std.specs.Prelude.{ℕ, ◌+◌, ℤ, ◌-ℤ◌, pos, max, Bool, true, false, ◌&&◌, ◌||◌, not, if◌then◌else◌, nat_le, int_le, List, [], ◌∷◌, length, Option, Some, None}
use Rattle.std.specs.List.{flat_map, list_all, list_any}
use Rattle.beam_values.specs.Strategies.{greatest_length}
use Rattle.trigger_algebra.specs.declared.refusal.WhenRefusal.{WhenRefusal}
use Rattle.trigger_algebra.specs.declared.refusal.WhenRefusal.TheVariants as refusal
use Rattle.trigger_algebra.specs.declared.when.When.{When}
use Rattle.trigger_algebra.specs.declared.when.When.TheOpen as layer
use Rattle.trigger_algebra.specs.declared.when.When.TheFolds.{fold-When}

abbrev pub refusal_number : WhenRefusal → ℕ
refusal_number refusal.Depth = 1
refusal_number refusal.Leaves = 2
refusal_number refusal.Number = 3
refusal_number refusal.Empty = 4

abbrev pub greatest_of : List ℕ → ℕ
greatest_of [] = 0
greatest_of (n ∷ ns) = max n (greatest_of ns)

abbrev pub depth_step : layer.When-F ℕ → ℕ
depth_step (layer.Count n) = 1
depth_step (layer.MarkAt delay) = 1
depth_step (layer.First depths) = 1 + greatest_of depths
depth_step (layer.All depths) = 1 + greatest_of depths

-- how many levels a tree has; a count, a mark and an empty list are one
abbrev pub depth : When → ℕ
depth = fold-When ℕ depth_step

abbrev pub counts_step : layer.When-F (List ℕ) → List ℕ
counts_step (layer.Count n) = n ∷ []
counts_step (layer.MarkAt delay) = 1 ∷ []
counts_step (layer.First counts) = flat_map (λ some. some) counts
counts_step (layer.All counts) = flat_map (λ some. some) counts

-- How many elements each leaf asks for, in order; a mark asks for one, since no pane fires with nothing unseen.
abbrev pub counts_of : When → List ℕ
counts_of = fold-When (List ℕ) counts_step

-- the leaves of a tree are its counts and marks
abbrev pub leaves : When → ℕ
leaves when = length (counts_of when)

abbrev pub is_none_in : {X : Type 0} → List X → Bool
is_none_in [] = true
is_none_in (x ∷ xs) = false

abbrev pub emptiness_step : layer.When-F Bool → Bool
emptiness_step (layer.Count n) = false
emptiness_step (layer.MarkAt delay) = false
emptiness_step (layer.First trees) = is_none_in trees || list_any (λ tree. tree) trees
emptiness_step (layer.All trees) = is_none_in trees || list_any (λ tree. tree) trees

-- a list somewhere in the tree is empty
abbrev pub has_empty : When → Bool
has_empty = fold-When Bool emptiness_step

abbrev pub numbers_step : ℤ → ℤ → layer.When-F Bool → Bool
numbers_step least most (layer.Count n) = nat_le 1 n
numbers_step least most (layer.MarkAt delay) = int_le least delay && int_le delay most
numbers_step least most (layer.First trees) = list_all (λ tree. tree) trees
numbers_step least most (layer.All trees) = list_all (λ tree. tree) trees

-- each count is at least 1, and each mark within these bounds
abbrev pub are_numbers_within : ℤ → ℤ → When → Bool
are_numbers_within least most = fold-When Bool (numbers_step least most)

-- The first reason why a tree is no trigger, if there is one: it is more than 8 levels deep, has more than 32 leaves, has an empty list, or a number is out
-- of bounds.
abbrev pub refusal_of : When → Option WhenRefusal
refusal_of when =
    if not (nat_le (depth when) 8) then Some refusal.Depth
    else (if not (nat_le (leaves when) 32) then Some refusal.Leaves
    else (if has_empty when then Some refusal.Empty
    else (if not (are_numbers_within (pos 0 -ℤ greatest_length) greatest_length when) then Some refusal.Number else None)))
