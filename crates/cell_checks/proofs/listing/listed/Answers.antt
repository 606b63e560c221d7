use Rattle.std.proofs.Common.{List, rules, subst}
use Rattle.std.specs.Borrow.{Bor}
use Rattle.std.specs.List.Sorted.{IsPermutation}
use Rattle.std.proofs.lemmas.Cmp.{on_total}
use Rattle.std.proofs.lemmas.List.Sorted.{IsPermutation-map}
use Rattle.beam_values.specs.declared.cell.Cell.{Cell}
use Rattle.beam_values.proofs.Sorts.{sorted_from_sort_by}
use Rattle.cell_checks.specs.Listing.{cells_in, listing_cmp}
use Rattle.cell_checks.proofs.Runs.{listing_total, sorted_map}
use Rattle.cell_checks.proofs.listing.listed.Goals as goal

pub returns-clause-those : goal.returns-clause-those
returns-clause-those c =
    subst (λ (l : List Cell). IsPermutation l (cells_in c.sort_by.new.self.items)) c.in_ok-listed.ensures
    (IsPermutation-map (λ (place : Bor Cell). place.now) c.in_ok-listed.listed.items c.sort_by.new.self.items c.in_ok-sort_by.ensures.permutation)

pub returns-clause-sorted : goal.returns-clause-sorted
returns-clause-sorted c =
    sorted_map (λ (place : Bor Cell). place.now) listing_cmp c.sort_by.new.self.items
    (sorted_from_sort_by (λ x y. listing_cmp x.now y.now) (on_total (λ (place : Bor Cell). place.now) listing_total) c.sort_by.new.self.items c.in_ok-sort_by.ensures.sorted (λ a r q k. search rules))
