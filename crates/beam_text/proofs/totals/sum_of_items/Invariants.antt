use Rattle.std.proofs.Common.{◌≡◌, map, take}
use Rattle.beam_model.specs.Functions.{sum_of}
use Rattle.beam_model.specs.Rendering.{number_or_zero}
use Rattle.beam_text.specs.Parts.{items_in}
use Rattle.beam_text.proofs.totals.sum_of_items.Given as goal

abbrev pub invariant-loop-arrival : goal.invariant-loop-arrival
invariant-loop-arrival l = l.sum ≡ sum_of (map number_or_zero (items_in (take l.arrival-index l.written)))
