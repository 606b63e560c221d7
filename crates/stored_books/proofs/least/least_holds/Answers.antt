use Rattle.std.proofs.Common.{◌≡◌, ℕ, ◌<◌, ℤ, List, length, sym, subst, ◌∙◌}
use Rattle.watermarks.specs.Holds.{hold_at}
use Rattle.stored_books.specs.Held.{data_holds, least_hold_of}
use Rattle.stored_books.proofs.FurtherHolds.{least_of, written_back}
use Rattle.stored_books.proofs.least.least_holds.Goals as goal

pub returns-clause-least : goal.returns-clause-least
returns-clause-least c =
    let plan = c.args.plan.now in
    let stored = c.args.stored.now in
    let made = c.in_ok-least.least in
    let new = c.hold_all.new.least in
    let old = c.as_mut_slice.ensures.value ∙ c.in_ok-least.ensures.items_if_clones_equal (λ y e. e) in
    let least = least_of (data_holds plan stored) c.as_mut_slice.result.now new c.len.result old c.hold_all.ensures in
    let whole = written_back made.len made.items new (sym made.ok.0)
    (subst (λ (l : List ℤ). length new ≡ length l) c.as_mut_slice.ensures.value c.hold_all.ensures.sized) in
    λ n within.
    subst (λ (l : List ℤ). hold_at l n ≡ least_hold_of plan stored n) (sym whole)
    (least.1 n (subst (λ (k : ℕ). n < k) (sym c.len.ensures) within))
