use Rattle.std.proofs.Common.{◌≡◌, ◌≤◌, drop, length}
use Rattle.piece_checks.specs.Tiles.{fills}
use Rattle.piece_checks.proofs.tiles.fill.Given as goal

-- what is left is filled from the front on exactly where all is from its start on
abbrev pub invariant-loop-part : goal.invariant-loop-part
invariant-loop-part l =
    (l.front.place ≤ length l.items) × (fills l.items 0 l.parts ≡ fills (drop l.front.place l.items) l.front.at (drop l.part-index l.parts))
