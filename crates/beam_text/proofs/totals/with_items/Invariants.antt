use Rattle.std.proofs.Common.{◌≡◌, ◌+ℤ◌, map, take}
use Rattle.std.specs.List.{fold}
use Rattle.beam_model.specs.Rendering.{number_or_zero}
use Rattle.beam_text.proofs.totals.with_items.Given as goal

abbrev pub invariant-loop-item : goal.invariant-loop-item
invariant-loop-item l = l.total ≡ fold (λ sum n. sum +ℤ n) l.sum (map number_or_zero (take l.item-index l.items))
