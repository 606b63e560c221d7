-- How many entries of a cell are unseen once it took one, or others'.
use Rattle.std.proofs.Common.{◌≡◌, ℕ, ◌+◌, Bool, false, cond, not, List, [], ◌∷◌, ◌++◌, ap, arith}
use Rattle.std.specs.List.{count_by}
use Rattle.std.proofs.lemmas.List.Sums.{sum_by-cons}
use Rattle.beam_values.specs.declared.cell.Entry.{Entry}
use Rattle.group_cells.specs.Cells.{unseen_in}
use Rattle.group_cells.proofs.Counting.{count-append}

pub unseen_more : (entries : List Entry) (entry : Entry) → entry.shown ≡ false → unseen_in (entries ++ entry ∷ []) ≡ unseen_in entries + 1
unseen_more entries entry e =
    let one : count_by (λ (x : Entry). not x.shown) (entry ∷ []) ≡ cond (not entry.shown) 1 0 + count_by (λ (x : Entry). not x.shown) [] =
    sum_by-cons (λ (x : Entry). cond {A = ℕ} (not x.shown) 1 0) entry [] in
    let on : cond {A = ℕ} (not entry.shown) 1 0 ≡ 1 = ap (λ (b : Bool). cond {A = ℕ} (not b) 1 0) e in
    omega (arith, count-append (λ (x : Entry). not x.shown) entries (entry ∷ []), one, on)

pub unseen_both : (first more : List Entry) → unseen_in (first ++ more) ≡ unseen_in more + unseen_in first
unseen_both first more = omega (arith, count-append (λ (x : Entry). not x.shown) first more)
