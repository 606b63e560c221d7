use Rattle.stored_books.proofs.Tests.{decided_by}
use Rattle.stored_books.proofs.keys.are_keys_sane.Goals as goal

pub returns : goal.returns
returns c = decided_by c.are_sane_keys.result c.are_sane_keys.ensures (λ both. record { formed = both.0; sane = both.1 })
    (λ tested. (tested.formed, tested.sane))
