use Rattle.std.proofs.Common.{◌≡◌, ◌∙◌, [], List, ap, arith, false, refl, subst, sym, true}
use Rattle.std.specs.Prelude.{unwrap_or}
use Rattle.std.specs.List.{All}
use Rattle.std.proofs.lemmas.Bool.{false≢true}
use Rattle.beam_values.specs.Firing.{is_expired}
use Rattle.beam_values.specs.Marks.{marks_at}
use Rattle.beam_values.specs.Nodes.{is_group}
use Rattle.beam_values.specs.declared.element.Element.{Element}
use Rattle.beam_model.specs.Panes.{rules_of}
use Rattle.group_cells.specs.KeyLists.{listed}
use Rattle.group_cells.proofs.KeyMaps.{none_listed, popped_count, some_there}
use Rattle.group_cells.proofs.KnownKeys.{own_open}
use Rattle.group_cells.proofs.SessionsInTurn.{all_yet, none_more, none_yet, own_whole, placed_more, some_arrived}
use Rattle.group_cells.proofs.groups.draft.Draft.place_later.Goals as goal

pub keys-init : goal.keys-init
keys-init c = record {
  yet = none_yet c.args.commit.plan.now c.args.commit.before.now c.args.commit.number c.args.taken c.args.self.now.cells c.in_ok-left.left c.in_ok-left.ensures.lists;
  grown = omega (arith, c.in_ok-left.ensures.count);
  standing = c.requires.standing;
  same = (refl, refl);
}

pub place_key-requires-clause-group : goal.place_key-requires-clause-group
place_key-requires-clause-group c =
    let plan = c.args.commit.plan.now in
    let key = c.in-Some.key in
    let own = c.in-Some.own in
    let own_is : listed c.keys.left key ≡ own = ap (λ o. unwrap_or o []) c.in-Some.ensures.value in
    let some = some_there own (λ none. false≢true (sym c.if-is_empty.false ∙ c.is_empty.ensures.1 none)) in
    let whole = own_whole plan c.args.commit.before.now c.args.commit.number c.args.taken c.args.self.now.cells c.keys.left c.pop_first.new.self c.keys.self.cells c.keys.self.cells key own own_is
    c.in-Some.ensures.updates c.keys.invariant.yet some.0 some.1 some.2 in
    some_arrived (λ n. is_group plan n ≡ true) c.args.taken key.node key.key some.0 some.1 c.requires.groups (sym whole.0 ∙ some.2)

pub place_key-requires-clause-merges : goal.place_key-requires-clause-merges
place_key-requires-clause-merges c =
    let plan = c.args.commit.plan.now in
    let key = c.in-Some.key in
    let own = c.in-Some.own in
    let own_is : listed c.keys.left key ≡ own = ap (λ o. unwrap_or o []) c.in-Some.ensures.value in
    let some = some_there own (λ none. false≢true (sym c.if-is_empty.false ∙ c.is_empty.ensures.1 none)) in
    let whole = own_whole plan c.args.commit.before.now c.args.commit.number c.args.taken c.args.self.now.cells c.keys.left c.pop_first.new.self c.keys.self.cells c.keys.self.cells key own own_is
    c.in-Some.ensures.updates c.keys.invariant.yet some.0 some.1 some.2 in
    some_arrived (λ n. (rules_of plan n).merges ≡ true) c.args.taken key.node key.key some.0 some.1 c.requires.merging (sym whole.0 ∙ some.2)

pub place_key-requires-clause-unexpired : goal.place_key-requires-clause-unexpired
place_key-requires-clause-unexpired c =
    let plan = c.args.commit.plan.now in
    let before = c.args.commit.before.now in
    let key = c.in-Some.key in
    let own = c.in-Some.own in
    let own_is : listed c.keys.left key ≡ own = ap (λ o. unwrap_or o []) c.in-Some.ensures.value in
    let some = some_there own (λ none. false≢true (sym c.if-is_empty.false ∙ c.is_empty.ensures.1 none)) in
    let whole = own_whole plan before c.args.commit.number c.args.taken c.args.self.now.cells c.keys.left c.pop_first.new.self c.keys.self.cells c.keys.self.cells key own own_is
    c.in-Some.ensures.updates c.keys.invariant.yet some.0 some.1 some.2 in
    subst (λ (l : List Element). All (λ (e : Element). is_expired (rules_of plan key.node).trigger e.span.end (marks_at before key.node).mark_in ≡ false) l) (sym whole.0)
    (own_open plan before key.node key.key c.args.taken c.requires.unexpired)

pub keys-preserved : goal.keys-preserved
keys-preserved c =
    let plan = c.args.commit.plan.now in
    let key = c.in-Some.key in
    let own = c.in-Some.own in
    let own_is : listed c.keys.left key ≡ own = ap (λ o. unwrap_or o []) c.in-Some.ensures.value in
    let some = some_there own (λ none. false≢true (sym c.if-is_empty.false ∙ c.is_empty.ensures.1 none)) in
    let whole = own_whole plan c.args.commit.before.now c.args.commit.number c.args.taken c.args.self.now.cells c.keys.left c.pop_first.new.self c.keys.self.cells c.place_key.new.self.cells key own own_is
    c.in-Some.ensures.updates c.keys.invariant.yet some.0 some.1 some.2 in
    let group : is_group plan key.node ≡ true = some_arrived (λ n. is_group plan n ≡ true) c.args.taken key.node key.key some.0 some.1 c.requires.groups (sym whole.0 ∙ some.2) in
    record {
      yet = placed_more plan c.args.commit.before.now c.args.commit.number c.args.taken c.args.self.now.cells c.keys.left c.pop_first.new.self c.keys.self.cells c.place_key.new.self.cells key own own_is
          c.in-Some.ensures.updates c.keys.invariant.yet some.0 some.1 some.2 group c.in_ok-place_key.ensures.ok;
      grown = omega (arith, c.keys.invariant.grown, c.in_ok-place_key.ensures.grown, popped_count c.keys.left c.pop_first.new.self key own c.in-Some.ensures.removal);
      standing = c.in_ok-place_key.ensures.standing;
      same = (c.in_ok-place_key.ensures.same.0 ∙ c.keys.invariant.same.0, c.in_ok-place_key.ensures.same.1 ∙ c.keys.invariant.same.1);
    }

pub returns-clause-ok : goal.returns-clause-ok
returns-clause-ok c =
    all_yet c.args.commit.plan.now c.args.commit.before.now c.args.commit.number c.args.taken c.args.self.now.cells c.keys.left c.keys.self.cells
    (none_listed c.keys.left (λ some. false≢true (c.in_default.ensures.variant.1 some))) c.keys.invariant.yet

pub keys-preserved-then-is_empty : goal.keys-preserved-then-is_empty
keys-preserved-then-is_empty c =
    let own_is : listed c.keys.left c.in-Some.key ≡ c.in-Some.own = ap (λ o. unwrap_or o []) c.in-Some.ensures.value in
    record {
      yet = none_more c.args.commit.plan.now c.args.commit.before.now c.args.commit.number c.args.taken c.args.self.now.cells c.keys.left c.pop_first.new.self c.keys.self.cells c.keys.self.cells
          c.in-Some.key c.in-Some.own own_is c.in-Some.ensures.updates c.keys.invariant.yet (c.is_empty.ensures.0 c.if-is_empty.true);
      grown = omega (arith, c.keys.invariant.grown, popped_count c.keys.left c.pop_first.new.self c.in-Some.key c.in-Some.own c.in-Some.ensures.removal);
      standing = c.keys.invariant.standing;
      same = c.keys.invariant.same;
    }
