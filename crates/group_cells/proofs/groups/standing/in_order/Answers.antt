use Rattle.std.proofs.Common.{◌≡◌, ℕ, List, arith, subst, sym}
use Rattle.std.specs.Prelude.{◌↔◌, Contains}
use Rattle.std.specs.List.Sorted.{IsStrictlySortedBy}
use Rattle.std.specs.Ordering.{nat_cmp}
use Rattle.std.proofs.lemmas.List.{take_all}
use Rattle.std.proofs.lemmas.Result.{IfOk-weaker}
use Rattle.group_cells.specs.KnownWindows.{places_of}
use Rattle.group_cells.specs.declared.groups.standing.Standing.{Standing}
use Rattle.group_cells.proofs.MetPlaces.{placed_more}
use Rattle.group_cells.proofs.groups.standing.in_order.Goals as goal

pub loop-window-preserved : goal.loop-window-preserved
loop-window-preserved c =
    placed_more c.args.met.now c.loop-window.window-index c.window-item.result c.loop-window.places.keys c.insert.new.self.keys c.loop-window-test.true c.window-item.is c.in_ok-insert.ensures.keys c.loop-window.invariant

pub returns-clause-ascend : goal.returns-clause-ascend
returns-clause-ascend c =
    IfOk-weaker c.list_of.result (λ (list : List ℕ). list ≡ c.loop-window.places.keys) (IsStrictlySortedBy nat_cmp) (λ list is. subst (IsStrictlySortedBy nat_cmp) (sym is) c.list_of.ensures.ascend) c.list_of.ensures.list

pub returns-clause-same : goal.returns-clause-same
returns-clause-same c =
    IfOk-weaker c.list_of.result (λ (list : List ℕ). list ≡ c.loop-window.places.keys) (λ (list : List ℕ). (p : ℕ) → Contains list p ↔ Contains (places_of c.args.met.now) p)
    (λ list is. subst (λ (l : List ℕ). (p : ℕ) → Contains l p ↔ Contains (places_of c.args.met.now) p) (sym is)
    (subst (λ (l : List Standing). (p : ℕ) → Contains c.loop-window.places.keys p ↔ Contains (places_of l) p) (take_all c.loop-window.window-index c.args.met.now (omega (arith, c.loop-window-test.false))) c.loop-window.invariant))
    c.list_of.ensures.list
