use Rattle.std.proofs.Common.{◌≡◌, ◌+◌, ◌∷◌, ◌++◌, [], List, arith, length, subst, sym}
use Rattle.watermarks.specs.declared.listed.Held.{Held}
use Rattle.watermarks.specs.HeldMarks.{AreKept}
use Rattle.watermarks.proofs.KeptMarks.{held, kept_later}
use Rattle.watermarks.proofs.listed.Listed.add_ordered.Goals as goal

pub returns-clause-kept : goal.returns-clause-kept
returns-clause-kept c =
    let old = c.args.self.now.items.items in
    let size : length old + 1 ≡ c.len-self.result = omega (arith, c.len-self.ensures, c.push_reserved.ensures.len, c.requires.all, c.args.self.now.items.ok) in
    subst (λ (l : List Held). AreKept l c.len-self.result c.args.self.now.first c.args.self.now.lowest) (sym c.push_reserved.ensures.items)
    (subst (λ n. AreKept (old ++ held c.args.m 1 ∷ []) n c.args.self.now.first c.args.self.now.lowest) size
    (kept_later old c.args.self.now.first c.args.self.now.lowest c.args.m
    (subst (λ n. AreKept old n c.args.self.now.first c.args.self.now.lowest) c.requires.all c.requires.kept) c.requires.later))
