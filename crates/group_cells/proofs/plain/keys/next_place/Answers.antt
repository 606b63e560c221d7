use Rattle.std.proofs.Common.{sym}
use Rattle.group_cells.proofs.PlacedInTurn.{first_of_all}
use Rattle.group_cells.proofs.plain.keys.next_place.Goals as goal

pub returns-in_ok-copy_key-in-Some : goal.returns-in_ok-copy_key-in-Some
returns-in_ok-copy_key-in-Some c =
    let found = first_of_all c.args.left.now c.in-Some.first.now (sym c.in-Some.ensures.value) in
    (c.in-Some.first.now, found.0, found.1, (λ i. record { node = c.in-Some.first.now.node; key = c.in_ok-copy_key-in-Some.ensures i }))
