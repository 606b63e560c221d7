use Rattle.std.proofs.Common.{◌≡◌, ◌≤ℤ◌, ◌∙◌, List, length, ap, arith, sym, subst}
use Rattle.std.specs.List.{filter}
use Rattle.std.proofs.lemmas.List.{take_at}
use Rattle.std.proofs.lemmas.List.Kept.{AllPairs-filter}
use Rattle.beam_values.specs.Bags.{IsSameBag}
use Rattle.beam_values.proofs.Bags.{bag_trans}
use Rattle.watermarks.specs.declared.listed.Held.{Held}
use Rattle.watermarks.specs.HeldMarks.{is_held, marks_of, AreAscending, AreHeld}
use Rattle.watermarks.proofs.KeptMarks.{ascending_as, held_only, held_marks}
use Rattle.watermarks.proofs.listed.settle.Goals as goal

-- the list that was sorted
sorted_is : (c : goal.After-drop_spent) → c.as_mut_slice-2.result.now ≡ c.sort_by_mark.new.items
sorted_is c =
    let size : length c.sort_by_mark.new.items ≡ c.args.items.now.len = omega (arith, c.sort_by_mark.auto.items, c.as_mut_slice.ensures.len) in
    c.as_mut_slice-2.ensures.value ∙ take_at c.sort_by_mark.new.items _ c.args.items.now.len size

-- what is left of it
left_is : (c : goal.After-drop_spent) → c.drop_spent.new.items.items ≡ filter is_held c.gather.new.items
left_is c =
    let size : length c.gather.new.items ≡ c.args.items.now.len = omega (arith, c.gather.auto.items, c.as_mut_slice-2.ensures.len) in
    c.drop_spent.ensures.items ∙ ap (filter is_held) (take_at c.gather.new.items _ c.args.items.now.len size)

pub returns-clause-same : goal.returns-clause-same
returns-clause-same c =
    let sorted = c.sort_by_mark.new.items in
    let gathered = c.gather.new.items in
    let first : IsSameBag (marks_of c.args.items.now.items) (marks_of sorted) =
    subst (λ (l : List Held). IsSameBag (marks_of l) (marks_of sorted)) c.as_mut_slice.ensures.value c.sort_by_mark.ensures.same in
    let second : IsSameBag (marks_of sorted) (marks_of gathered) = subst (λ (l : List Held). IsSameBag (marks_of l) (marks_of gathered)) (sorted_is c) c.gather.ensures.same in
    subst (λ (l : List Held). IsSameBag (marks_of c.args.items.now.items) (marks_of l)) (sym (left_is c))
    (held_marks c.args.items.now.items gathered (bag_trans (marks_of c.args.items.now.items) (marks_of sorted) (marks_of gathered) first second))

pub returns-clause-ascend : goal.returns-clause-ascend
returns-clause-ascend c =
    let seen = c.as_mut_slice-2.result.now in
    let gathered = c.gather.new.items in
    let asc : AreAscending seen = subst AreAscending (sym (sorted_is c)) c.sort_by_mark.ensures.ascend in
    subst AreAscending (sym (left_is c))
    (AllPairs-filter (λ (a b : Held). a.mark ≤ℤ b.mark) is_held gathered (ascending_as seen gathered c.gather.auto.items c.gather.ensures.marks asc))

pub returns-clause-held : goal.returns-clause-held
returns-clause-held c = subst AreHeld (sym (left_is c)) (held_only c.gather.new.items)
