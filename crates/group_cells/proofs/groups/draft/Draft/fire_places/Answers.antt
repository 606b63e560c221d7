use Rattle.std.proofs.Common.{◌≡◌, ◌∙◌, List, ℕ, arith, get_or, subst}
use Rattle.std.proofs.lemmas.List.{get_or_default, take_all}
use Rattle.group_cells.proofs.FiredPlaces.{ArePassed, all_fired, none_due, passed_more}
use Rattle.group_cells.proofs.groups.draft.Draft.fire_places.Goals as goal

pub loop-place-preserved : goal.loop-place-preserved
loop-place-preserved c =
    let rules = c.args.rules.now in
    let xs = c.args.self.now.cells in
    let places = c.args.places.now in
    let i = c.loop-place.place-index in
    let p = get_or places i 0 in
    let was = c.loop-place.invariant in
    let is : p ≡ get_or places i p = get_or_default places i 0 p c.loop-place-test.true in
    let past = c.in_ok-done.ensures.fired xs was.fired
    (λ low high. none_due rules c.args.node c.args.commit c.args.mark xs places c.loop-place.done i p c.loop-place-test.true is c.requires.ascending c.requires.all was.passed (omega (arith, high))) in
    record {
      fired = past.upto;
      passed = passed_more rules c.args.node c.args.commit c.args.mark xs places i p c.loop-place.done c.in_ok-done.done c.loop-place-test.true is past.on past.past was.passed;
      same = (c.in_ok-done.ensures.same.0 ∙ was.same.0, c.in_ok-done.ensures.same.1 ∙ was.same.1);
    }

pub returns-clause-fired : goal.returns-clause-fired
returns-clause-fired c =
    let places = c.args.places.now in
    let i = c.loop-place.place-index in
    let passed = subst (λ (l : List ℕ). ArePassed c.args.rules.now c.args.node c.args.commit c.args.mark c.args.self.now.cells c.loop-place.done l)
    (take_all i places (omega (arith, c.loop-place-test.false))) c.loop-place.invariant.passed in
    let all = all_fired c.args.rules.now c.args.node c.args.commit c.args.mark c.args.self.now.cells places c.loop-place.done c.loop-place.self.cells c.loop-place.panes.items
    c.loop-place.invariant.fired c.requires.all passed in
    record { fires = all.0; each = all.1 }
