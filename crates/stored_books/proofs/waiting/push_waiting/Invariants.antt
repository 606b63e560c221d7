use Rattle.std.proofs.Common.{◌≡◌, ◌++◌, take, flat_map}
use Rattle.stored_books.specs.Held.{own_place}
use Rattle.stored_books.proofs.waiting.push_waiting.Given as goal

abbrev pub invariant-loop-one : goal.invariant-loop-one
invariant-loop-one l = l.held.items ≡ l.fn.held.items ++ flat_map (own_place l.panes) (take l.one-index l.waiting)
