use Rattle.std.proofs.Common.{◌≡◌, ◌≤ℤ◌, ◌<◌, ◌<ℤ◌, ◌∙◌, Some, ℤ, arith, subst, sym, to_z, of_z, w64}
use Rattle.std.proofs.lemmas.Int.{ints, to_z-of_z}
use Rattle.group_cells.specs.declared.groups.standing.Standing.{Standing}
use Rattle.group_cells.proofs.ListedWindows.{after_falls, ends_after, met_all, met_more, met_none, some_back, AreMetBy}
use Rattle.group_cells.proofs.groups.standing.Listed.met.Goals as goal

pub walk-init : goal.walk-init
walk-init c =
    let m = c.args.self.now.by_end in
    let span = c.args.span in
    let same : to_z w64 (of_z w64 c.start-after.result) ≡ c.start-after.result = grind (arith, to_z-of_z, c.start-after.type_inv) in
    subst (λ (z : ℤ). AreMetBy span m z c.new-met.result) (sym (same ∙ c.start-after.ensures.value)) (subst (AreMetBy span m span.start) (sym c.new-met.ensures) (met_none m span))

pub returns-then-end-start-clause-met : goal.returns-then-end-start-clause-met
returns-then-end-start-clause-met c = λ apart.
    let span = c.args.span in
    let end = c.in-Some.end in
    let w = c.in-Some.window in
    let behind : span.end ≤ℤ w.span.start = let h = c.if-end-start.true in omega (arith, ints, h, c.end.ensures.value, c.start.ensures.value) in
    met_all c.args.self.now.by_end span _ c.walk.met (Some (end, w)) c.walk.invariant c.in-Some.ensures (λ first e. subst (λ (n : ℤ × Standing). span.end ≤ℤ n.1.span.start) (some_back (end, w) first e) behind) apart

pub walk-smaller : goal.walk-smaller
walk-smaller c =
    let m = c.args.self.now.by_end in
    let same : to_z w64 (of_z w64 c.in-Some.end) ≡ c.in-Some.end = to_z-of_z w64 c.in-Some.end c.in-Some.ensures.3 in
    subst (λ (z : ℤ). ends_after z m < ends_after (to_z w64 c.walk.after-bits) m) (sym same) (after_falls m (to_z w64 c.walk.after-bits) (c.in-Some.end, c.in-Some.window) c.in-Some.ensures)

pub walk-preserved : goal.walk-preserved
walk-preserved c =
    let m = c.args.self.now.by_end in
    let span = c.args.span in
    let end = c.in-Some.end in
    let w = c.in-Some.window in
    let same : to_z w64 (of_z w64 end) ≡ end = to_z-of_z w64 end c.in-Some.ensures.3 in
    let less : w.span.start <ℤ span.end = let h = c.if-end-start.false in omega (arith, ints, h, c.end.ensures.value, c.start.ensures.value) in
    subst (λ (z : ℤ). AreMetBy span m z c.push.new.self) (sym same)
    (subst (AreMetBy span m end) (sym c.in_ok-push.ensures.ok) (met_more m span (to_z w64 c.walk.after-bits) c.walk.met (end, w) c.walk.invariant c.in-Some.ensures less))
