use Rattle.std.proofs.Common.{◌≡◌, ◌∷◌, List, ℤ, arith, length, subst, sym}
use Rattle.std.proofs.lemmas.List.{take_at}
use Rattle.beam_values.specs.Bags.{IsSameBag}
use Rattle.watermarks.specs.declared.listed.Held.{Held}
use Rattle.watermarks.specs.HeldMarks.{marks_of, ComesSo}
use Rattle.watermarks.specs.declared.listed.Coming.TheVariants.{Again}
use Rattle.watermarks.proofs.KeptMarks.{held}
use Rattle.watermarks.proofs.listed.Listed.add_kept.Goals as goal

pub returns-in-Again-clause-added : goal.returns-in-Again-clause-added
returns-in-Again-clause-added c =
    let d : Held = held c.args.m 0 in
    let seen = c.as_mut_slice.result.now in
    let again : ComesSo c.args.m seen Again = subst (λ (l : List Held). ComesSo c.args.m l Again) (sym c.as_mut_slice.ensures.value) (subst (λ (l : List Held). ComesSo c.args.m l Again) c.as_slice.ensures.value c.in-Again.ensures) in
    let size : length c.raise_last.new.items ≡ c.args.self.now.items.len = omega (arith, c.raise_last.auto.items, c.as_mut_slice.ensures.len) in
    subst (λ (l : List Held). IsSameBag (marks_of l) (c.args.m ∷ marks_of c.args.self.now.items.items)) (sym (take_at c.raise_last.new.items _ c.args.self.now.items.len size))
    (subst (λ (l : List Held). IsSameBag (marks_of c.raise_last.new.items) (c.args.m ∷ marks_of l)) c.as_mut_slice.ensures.value
    (subst (λ (z : ℤ). IsSameBag (marks_of c.raise_last.new.items) (z ∷ marks_of seen)) (again.1 d).0 (c.raise_last.ensures.added d)))
