use Rattle.std.proofs.Common.{◌≡◌, ◌∙◌, None, Some, ℤ, ap, arith, refl, subst, sym, to_z, of_z, w64}
use Rattle.std.proofs.lemmas.Int.{to_z-of_z}
use Rattle.beam_values.specs.Spans.{lies_in}
use Rattle.group_cells.specs.KnownWindows.{window_at, IsHolder, IsNextAfter}
use Rattle.group_cells.specs.declared.groups.standing.Standing.{Standing}
use Rattle.group_cells.proofs.ListedWindows.{no_holder, not_some, one_holder, some_back}
use Rattle.group_cells.proofs.groups.standing.Listed.holder.Goals as goal

pub returns-in_err-window : goal.returns-in_err-window
returns-in_err-window c = λ apart.
    let m = c.args.self.now.by_end in
    let span = c.args.span in
    let same : to_z w64 (of_z w64 c.start.result) ≡ c.start.result = grind (arith, to_z-of_z, c.start.type_inv) in
    let from = same ∙ c.start.ensures.value in
    let next : IsNextAfter span.start m None = subst (λ z. IsNextAfter z m None) from c.in_err-window.ensures in
    subst (IsHolder span m) (sym c.from_residual.ensures) (no_holder m span apart None c.start.ensures.ordered next (λ first e. absurd (not_some first e)))

pub returns-then-lies_in : goal.returns-then-lies_in
returns-then-lies_in c = λ apart.
    let m = c.args.self.now.by_end in
    let span = c.args.span in
    let end = c.in_ok-window.field-0-0 in
    let w = c.in_ok-window.window in
    let same : to_z w64 (of_z w64 c.start.result) ≡ c.start.result = grind (arith, to_z-of_z, c.start.type_inv) in
    let from = same ∙ c.start.ensures.value in
    let next : IsNextAfter span.start m (Some (end, w)) = subst (λ z. IsNextAfter z m (Some (end, w))) from c.in_ok-window.ensures in
    let ends = apart.ends end w next.0 in
    (w, subst (λ x. window_at m x ≡ Some w) (sym ends.0) next.0, refl, sym c.lies_in.ensures ∙ c.if-lies_in.true, one_holder m span apart (end, w) c.start.ensures.ordered next)

pub returns-else-lies_in : goal.returns-else-lies_in
returns-else-lies_in c = λ apart.
    let m = c.args.self.now.by_end in
    let span = c.args.span in
    let end = c.in_ok-window.field-0-0 in
    let w = c.in_ok-window.window in
    let same : to_z w64 (of_z w64 c.start.result) ≡ c.start.result = grind (arith, to_z-of_z, c.start.type_inv) in
    let from = same ∙ c.start.ensures.value in
    let next : IsNextAfter span.start m (Some (end, w)) = subst (λ z. IsNextAfter z m (Some (end, w))) from c.in_ok-window.ensures in
    no_holder m span apart (Some (end, w)) c.start.ensures.ordered next
    (λ first e. ap (λ (x : ℤ × Standing). lies_in span x.1.span) (sym (some_back (end, w) first e)) ∙ sym c.lies_in.ensures ∙ c.if-lies_in.false)
