use Rattle.std.proofs.Common.{◌≡◌, ◌∙◌, ◌==◌, Bool, ℕ, ℤ, ap, arith, false, subst, sym, true, to_z, of_z, w64}
use Rattle.std.proofs.lemmas.Int.{to_z-of_z}
use Rattle.std.specs.Prelude.{◌&&◌, ◌||◌, not}
use Rattle.std.proofs.lemmas.Result.{IfOk-weaker}
use Rattle.beam_values.specs.Firing.{is_expired}
use Rattle.beam_values.specs.Intervals.{Interval}
use Rattle.beam_values.specs.Spans.{same_span}
use Rattle.beam_model.specs.Panes.{GroupRules}
use Rattle.group_cells.specs.KnownWindows.{AreKnown, AreListed}
use Rattle.group_cells.proofs.KnownCells.{known_as, still_expired, yet_open}
use Rattle.group_cells.proofs.ListedWindows.{listed_as}
use Rattle.group_cells.proofs.groups.standing.Known.with_cell.Goals as goal

pub returns-then-is_dropped : goal.returns-then-is_dropped
returns-then-is_dropped c = λ mark test known.
    let trigger = c.args.rules.now.trigger in
    let same : to_z w64 (of_z w64 c.end.result) ≡ c.end.result = grind (arith, to_z-of_z, c.end.type_inv) in
    let ends = same ∙ c.end.ensures.value in
    let h = subst (AreKnown mark test) c.in-Apart.is known in
    let gone : is_expired trigger c.args.span.end mark ≡ true =
    (λ i. is_expired (ap (λ (r : GroupRules). r.trigger) (sym c.rules.view_is) i) (sym ends i) (sym h.0 i)) ∙ sym c.is_dropped.ensures ∙ c.if-is_dropped.true in (
      h.0,
      listed_as test (λ other s. test other s || (other == c.args.place && (not (is_expired trigger s.end mark) && same_span c.args.span s))) c.in-Apart.listed.by_end
          (still_expired trigger mark c.args.span c.args.place test gone) h.1,
    )

pub returns : goal.returns
returns c =
    let trigger = c.args.rules.now.trigger in
    let same : to_z w64 (of_z w64 c.end.result) ≡ c.end.result = grind (arith, to_z-of_z, c.end.type_inv) in
    let ends = same ∙ c.end.ensures.value in
    let place = c.args.place in
    let span = c.args.span in
    let listed = c.in-Apart.listed in
    IfOk-weaker c.with.result
    (λ known. (test : ℕ → Interval → Bool) → AreListed test listed.by_end → AreKnown listed.mark (λ other s. test other s || (other == place && same_span span s)) known)
    (λ known. (mark : ℤ) (test : ℕ → Interval → Bool) → AreKnown mark test c.args.self
    → AreKnown mark (λ other s. test other s || (other == place && (not (is_expired trigger s.end mark) && same_span span s))) known)
    (λ known f mark test k.
    let h = subst (AreKnown mark test) c.in-Apart.is k in
    let open_ : is_expired trigger span.end mark ≡ false =
    (λ i. is_expired (ap (λ (r : GroupRules). r.trigger) (sym c.rules.view_is) i) (sym ends i) (sym h.0 i)) ∙ sym c.is_dropped.ensures ∙ c.if-is_dropped.false in
    known_as mark (λ other s. test other s || (other == place && same_span span s)) (λ other s. test other s || (other == place && (not (is_expired trigger s.end mark) && same_span span s))) known
    (yet_open trigger mark span place test open_) (subst (λ m. AreKnown m (λ other s. test other s || (other == place && same_span span s)) known) h.0 (f test h.1)))
    c.with.ensures
