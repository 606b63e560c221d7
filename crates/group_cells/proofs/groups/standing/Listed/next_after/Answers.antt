use Rattle.std.proofs.Common.{◌≡◌, ◌≤ℤ◌, ◌<ℤ◌, ◌∙◌, FitsSigned, Some, ℤ, arith, subst, sym, to_z, of_z, w64}
use Rattle.std.proofs.lemmas.Int.{to_z-of_z}
use Rattle.group_cells.specs.KnownWindows.{window_at}
use Rattle.group_cells.specs.declared.groups.standing.Standing.{Standing}
use Rattle.group_cells.proofs.groups.standing.Listed.next_after.Goals as goal

pub returns-in-Some : goal.returns-in-Some
returns-in-Some c =
    let m = c.args.self.now.by_end in
    let w = c.in-Some.window.now in
    let first = c.in-Some.ensures in
    let end = first.0 in
    let same : to_z w64 (of_z w64 c.time_in.result) ≡ c.time_in.result = grind (arith, to_z-of_z, c.time_in.type_inv) in
    let at : c.time_in.result ≡ end = c.time_in.ensures ∙ sym first.1 in
    let fits : FitsSigned w64 end = subst (FitsSigned w64) at (record { sfits = c.time_in.type_inv }) in
    let time : to_z w64 (of_z w64 c.args.time) ≡ c.args.time = to_z-of_z w64 c.args.time c.ranges.time in
    let later : c.args.time <ℤ end = subst (λ (z : ℤ). z <ℤ end) time first.3 in
    let least : (e : ℤ) (t : Standing) → window_at m e ≡ Some t → c.args.time <ℤ e → end ≤ℤ e =
    subst (λ (z : ℤ). (e : ℤ) (t : Standing) → window_at m e ≡ Some t → z <ℤ e → end ≤ℤ e) time first.4 in
    subst (λ (z : ℤ). (window_at m z ≡ Some w) × (c.args.time <ℤ z) × ((e : ℤ) (t : Standing) → window_at m e ≡ Some t → c.args.time <ℤ e → z ≤ℤ e) × FitsSigned w64 z)
    (sym (same ∙ at)) (first.2, later, least, fits)
