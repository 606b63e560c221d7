use Rattle.std.proofs.Common.{◌≡◌, ◌++◌, drop, map}
use Rattle.plan_reader.specs.Placing.{plan_names}
use Rattle.plan_reader.proofs.placing.plan_names.Given as goal

-- what is copied and what is left are all names
abbrev pub invariant-loop-number : goal.invariant-loop-number
invariant-loop-number l =
    l.owned.items ++ plan_names (map (λ text. text.now) (drop l.number l.texts)) (drop l.number l.nodes) ≡ plan_names (map (λ text. text.now) l.texts) l.nodes
