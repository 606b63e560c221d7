use Rattle.std.proofs.Common.{FitsSigned, ◌≡◌, ◌∙◌, Option, ap, arith, refl, subst, sym, to_z, of_z, w64}
use Rattle.std.specs.Option.{IsSome}
use Rattle.std.proofs.lemmas.Int.{to_z-of_z}
use Rattle.beam_values.specs.Firing.{is_expired}
use Rattle.beam_model.specs.Panes.{GroupRules}
use Rattle.group_cells.specs.KnownWindows.{window_at}
use Rattle.group_cells.specs.declared.groups.standing.Standing.{Standing}
use Rattle.group_cells.proofs.groups.standing.first_expired.Goals as goal

pub returns-then-is_dropped : goal.returns-then-is_dropped
returns-then-is_dropped c =
    let m = c.args.by_end.now in
    let end = c.time_in-end.result in
    let same : to_z w64 (of_z w64 end) ≡ end = grind (arith, to_z-of_z, c.time_in-end.type_inv) in
    let there = ap (window_at m) (same ∙ c.time_in-end.ensures) ∙ c.in_ok-first.ensures.value in (
      subst (λ (o : Option Standing). IsSome o) (sym there) refl,
      ap (λ (r : GroupRules). is_expired r.trigger (to_z w64 (of_z w64 end)) c.args.mark) (sym c.rules.view_is) ∙ sym c.is_dropped.ensures ∙ c.if-is_dropped.true,
      subst (FitsSigned w64) (sym same) (record { sfits = c.time_in-end.type_inv }),
    )
