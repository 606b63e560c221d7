use Rattle.std.proofs.Common.{◌≡◌, ◌*◌, ◌≤◌, take, length, sum_by}
use Rattle.stored_books.proofs.limits.count_waiting.Given as goal

abbrev pub invariant-loop-key : goal.invariant-loop-key
invariant-loop-key l = (l.count ≡ sum_by (λ key. length key.waiting) (take l.key-index l.keys)) × (l.count ≤ 18446744073709551615 * l.key-index)
