use Rattle.std.proofs.Common.{◌≡◌, ℕ, subst, arith}
use Rattle.book_core.specs.Calls.{Makes}
use Rattle.book_core.specs.Steps.{Split, SplitAt}
use Rattle.schedule_replay.proofs.Split.{has_split, split_stands}
use Rattle.schedule_replay.proofs.stand.Stand.split.Goals as goal

pub returns-clause-done : goal.returns-clause-done
returns-clause-done g c =
    let b = c.args.self.now.book in
    let slot = c.args.slot in
    let at = c.in_ok-at.at in
    let new = c.split.new.self in
    let num : c.from.result ≡ c.args.num = omega (arith, c.from.ensures) in
    let den : c.from-2.result ≡ c.args.den = omega (arith, c.from-2.ensures) in
    let makes =
    subst (λ (n : ℕ). Makes b slot (Split n c.args.den) (SplitAt at) new) num
    (subst (λ (d : ℕ). Makes b slot (Split c.from.result d) (SplitAt at) new) den c.in_ok-at.ensures.ok) in
    has_split g.base c.args.self.now c.requires.0 slot c.args.num c.args.den new at makes

pub returns-clause-standing : goal.returns-clause-standing
returns-clause-standing g c =
    let b = c.args.self.now.book in
    let slot = c.args.slot in
    let at = c.in_ok-at.at in
    let new = c.split.new.self in
    let num : c.from.result ≡ c.args.num = omega (arith, c.from.ensures) in
    let den : c.from-2.result ≡ c.args.den = omega (arith, c.from-2.ensures) in
    let makes =
    subst (λ (n : ℕ). Makes b slot (Split n c.args.den) (SplitAt at) new) num
    (subst (λ (d : ℕ). Makes b slot (Split c.from.result d) (SplitAt at) new) den c.in_ok-at.ensures.ok) in
    split_stands g.base c.args.self.now c.requires.0 slot c.args.num c.args.den new at c.is_sane.ensures.held makes c.live_range_is_ordered.ensures
