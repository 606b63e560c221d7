use Rattle.std.proofs.Common.{◌≡◌, ◌≤ℤ◌, ◌∙◌, None, Some, ℤ, arith, subst, to_z, of_z, w64}
use Rattle.std.proofs.lemmas.Int.{to_z-of_z}
use Rattle.group_cells.specs.KnownWindows.{IsNextAfter}
use Rattle.group_cells.specs.declared.groups.standing.Standing.{Standing}
use Rattle.group_cells.proofs.ListedWindows.{none_met, not_some, some_back}
use Rattle.group_cells.proofs.WindowTests.{le_from}
use Rattle.group_cells.proofs.groups.standing.Listed.is_met.Goals as goal

pub returns-in-None-clause-none : goal.returns-in-None-clause-none
returns-in-None-clause-none c = λ apart off.
    let m = c.args.self.now.by_end in
    let same : to_z w64 (of_z w64 c.start.result) ≡ c.start.result = grind (arith, to_z-of_z, c.start.type_inv) in
    let from = same ∙ c.start.ensures.value in
    let next : IsNextAfter c.args.span.start m None = subst (λ z. IsNextAfter z m None) from c.in-None.ensures in
    none_met m c.args.span apart None next (λ first e. absurd (not_some first e))

pub returns-in-Some-clause-none : goal.returns-in-Some-clause-none
returns-in-Some-clause-none c = λ apart off.
    let m = c.args.self.now.by_end in
    let span = c.args.span in
    let end = c.in-Some.field-0-0 in
    let w = c.in-Some.window in
    let same : to_z w64 (of_z w64 c.start.result) ≡ c.start.result = grind (arith, to_z-of_z, c.start.type_inv) in
    let from = same ∙ c.start.ensures.value in
    let next : IsNextAfter span.start m (Some (end, w)) = subst (λ z. IsNextAfter z m (Some (end, w))) from c.in-Some.ensures in
    let starts : to_z w64 (of_z w64 c.start-in-Some.result) ≡ c.start-in-Some.result = grind (arith, to_z-of_z, c.start-in-Some.type_inv) in
    let ends : to_z w64 (of_z w64 c.end-end.result) ≡ c.end-end.result = grind (arith, to_z-of_z, c.end-end.type_inv) in
    let behind : span.end ≤ℤ w.span.start =
    subst (λ z. z ≤ℤ w.span.start) (ends ∙ c.end-end.ensures.value)
    (subst (λ z. to_z w64 (of_z w64 c.end-end.result) ≤ℤ z) (starts ∙ c.start-in-Some.ensures.value) (le_from (to_z w64 (of_z w64 c.start-in-Some.result)) (to_z w64 (of_z w64 c.end-end.result)) off)) in
    none_met m span apart (Some (end, w)) next (λ first e. subst (λ (n : ℤ × Standing). span.end ≤ℤ n.1.span.start) (some_back (end, w) first e) behind)
