use Rattle.std.proofs.Common.{take}
use Rattle.piece_checks.proofs.HeldPlaces.{AreNoted}
use Rattle.piece_checks.proofs.places.are_held_once.Given as goal

abbrev pub invariant-loop-place : goal.invariant-loop-place
invariant-loop-place l = AreNoted l.panes (take l.place-index l.held) l.seen.items
