use Rattle.std.proofs.Common.{◌≡◌, ◌∙◌, Some, ap, arith, sym, to_z, of_z, w64}
use Rattle.std.proofs.lemmas.Int.{to_z-of_z}
use Rattle.group_cells.specs.KnownWindows.{window_at}
use Rattle.group_cells.proofs.WindowTests.{span_sound}
use Rattle.group_cells.proofs.groups.standing.Listed.has.Goals as goal

pub returns-in-Some-clause-there : goal.returns-in-Some-clause-there
returns-in-Some-clause-there c = λ on.
    let same : to_z w64 (of_z w64 c.end.result) ≡ c.end.result = grind (arith, to_z-of_z, c.end.type_inv) in
    let ends = same ∙ c.end.ensures.value in
    let w = c.in-Some.window.now in
    let is = span_sound w.span c.args.span (sym c.is_same_span.ensures ∙ on) in
    (w.place, ap (window_at c.args.self.now.by_end) (sym ends) ∙ sym c.in-Some.ensures.value ∙ (λ i. Some (record { span = is i; place = w.place })))
