use Rattle.std.proofs.Common.{◌≡◌, ◌∷◌, ◌∙◌, List, ap, arith, get_or, length, subst, sym}
use Rattle.std.specs.List.{remove}
use Rattle.std.proofs.lemmas.List.{take_at}
use Rattle.beam_values.specs.Bags.{IsSameBag}
use Rattle.watermarks.specs.declared.listed.Held.{Held}
use Rattle.watermarks.specs.HeldMarks.{marks_of}
use Rattle.watermarks.proofs.KeptMarks.{marks_without}
use Rattle.watermarks.proofs.listed.take_out.Goals as goal

pub returns-then-index-eq0-clause-taken : goal.returns-then-index-eq0-clause-taken
returns-then-index-eq0-clause-taken c = λ d.
    let old = c.args.items.now.items in
    let low = c.lower.new.items in
    let at = c.args.at in
    let size : length low ≡ c.args.items.now.len = omega (arith, c.lower.auto.items, c.as_mut_slice.ensures.len) in
    let whole = take_at low _ c.args.items.now.len size in
    let read : c.index.result.now ≡ get_or low at c.index.result.now = c.index.ensures ∙ ap (λ (l : List Held). get_or l at c.index.result.now) whole in
    let none = ap (λ (h : Held). h.count) (sym read) ∙ c.if-index-eq0.true in
    let left = c.remove.ensures.items ∙ ap (λ (l : List Held). remove l at) whole in
    let same = ap marks_of left ∙ marks_without low at c.index.result.now (omega (arith, size, c.requires.within, c.args.items.now.ok)) none in
    subst (λ (l : List Held). IsSameBag (marks_of l) ((get_or l at d).mark ∷ marks_of c.remove.new.self.items)) c.as_mut_slice.ensures.value
    (subst (λ l. IsSameBag (marks_of c.as_mut_slice.result.now) ((get_or c.as_mut_slice.result.now at d).mark ∷ l)) (sym same) (c.lower.ensures.taken d))
