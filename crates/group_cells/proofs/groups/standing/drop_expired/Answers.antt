use Rattle.std.proofs.Common.{◌≡◌, ◌∙◌, ℤ, ℕ, None, ap, arith, cond, sym, true, to_z, of_z, w64}
use Rattle.std.specs.Option.{is_some}
use Rattle.std.specs.Ordering.{int_cmp, is_eq}
use Rattle.std.proofs.lemmas.Bool.{false≢true}
use Rattle.std.proofs.lemmas.Int.{to_z-of_z}
use Rattle.beam_values.specs.Firing.{is_expired}
use Rattle.group_cells.specs.KnownWindows.{window_at}
use Rattle.group_cells.proofs.ListedWindows.{expired_left, removed_kept, removed_left}
use Rattle.group_cells.proofs.groups.standing.drop_expired.Goals as goal

pub expired-preserved : goal.expired-preserved
expired-preserved c =
    let m = c.expired.by_end in
    let end = c.in-Some.end in
    let same : to_z w64 (of_z w64 end) ≡ end = to_z-of_z w64 end c.in-Some.ensures.2 in
    let removed : (q : ℤ) → window_at c.remove.new.self q ≡ cond (is_eq (int_cmp end q)) None (window_at m q) =
    λ q. c.remove.ensures.updates.0 q ∙ ap (λ z. cond (is_eq (int_cmp z q)) None (window_at m q)) same in
    record {
      kept = λ e t there. c.expired.invariant.kept e t (removed_kept m c.remove.new.self end removed e t there);
      left = λ e t there off.
          removed_left m c.remove.new.self end removed e t (c.expired.invariant.left e t there off)
          (λ at. false≢true (sym off ∙ ap (λ z. is_expired c.args.rules.now.trigger z c.args.mark) (sym at) ∙ c.in-Some.ensures.1));
    }

pub expired-smaller : goal.expired-smaller
expired-smaller c =
    let m = c.expired.by_end in
    let end = c.in-Some.end in
    let same : to_z w64 (of_z w64 end) ≡ end = to_z-of_z w64 end c.in-Some.ensures.2 in
    let some : is_some c.remove.result ≡ true = ap is_some (c.remove.ensures.value ∙ ap (window_at m) same) ∙ c.in-Some.ensures.0 in
    omega (arith, c.remove.ensures.len, ap {B = ℕ} (λ b. cond b 1 0) some)

pub returns : goal.returns
returns c = λ apart.
    expired_left c.args.rules.now.trigger c.args.mark c.args.by_end.now c.expired.by_end apart c.expired.invariant.kept c.expired.invariant.left c.in_default.ensures
