use Rattle.std.proofs.Common.{◌≡◌, ◌∙◌, ℤ, ap, false, subst, sym, true}
use Rattle.std.specs.List.{All}
use Rattle.beam_values.specs.Firing.{is_expired}
use Rattle.beam_values.specs.Marks.{marks_at}
use Rattle.beam_values.specs.Nodes.{is_group}
use Rattle.beam_values.specs.declared.element.Element.{Element}
use Rattle.beam_model.specs.Panes.{GroupRules, rules_of}
use Rattle.group_cells.specs.KnownWindows.{known_of, opens, AreKnown, IsKnown, IsKnownOf}
use Rattle.group_cells.specs.Plain.{ArePlacedAt}
use Rattle.group_cells.specs.declared.groups.keyed.GroupKey.{GroupKey}
use Rattle.group_cells.proofs.KnownCells.{known_at}
use Rattle.group_cells.proofs.KnownKeys.{standing_placed}
use Rattle.group_cells.proofs.groups.draft.Draft.place_key.Goals as goal

pub place_known-requires-clause-merges : goal.place_known-requires-clause-merges
place_known-requires-clause-merges c = ap (λ (r : GroupRules). r.merges) c.in-Some.ensures.1 ∙ c.requires.merges

pub place_known-requires-clause-unexpired : goal.place_known-requires-clause-unexpired
place_known-requires-clause-unexpired c =
    let plan = c.args.commit.plan.now in
    let own = c.args.own in
    let trigger = (rules_of plan c.args.key.node).trigger in
    subst (λ (r : GroupRules). All (λ (e : Element). is_expired r.trigger e.span.end c.mark_into-mark.result ≡ false) own) (sym c.in-Some.ensures.1)
    (subst (λ (m : ℤ). All (λ (e : Element). is_expired trigger e.span.end m ≡ false) own) (sym c.mark_into-mark.ensures) c.requires.unexpired)

pub place_known-requires-clause-known : goal.place_known-requires-clause-known
place_known-requires-clause-known c =
    let key = c.args.key in
    let old = c.args.self.now.cells in
    let rs = c.in-Some.rules.now in
    let mark = c.mark_into-mark.result in
    let noted = subst (λ (r : GroupRules). IsKnownOf r key.node key.key old (known_of c.args.standing.now key)) (sym c.in-Some.ensures.1) (c.requires.standing.each key c.requires.group c.requires.merges) in
    subst (λ (k : GroupKey). AreKnown mark (opens rs mark k.node k.key old) c.take_known-known.result) (sym c.own.ensures)
    (c.take_known-known.ensures.known old (subst (λ (k : GroupKey). IsKnownOf rs k.node k.key old (known_of c.args.standing.now k)) (sym c.of-key.ensures) noted))

pub returns-clause-ok : goal.returns-clause-ok
returns-clause-ok c =
    let plan = c.args.commit.plan.now in
    let number = c.args.commit.number in
    let own = c.args.own in
    let old = c.args.self.now.cells in
    let new = c.place_known.new.self.cells in
    let mark = c.mark_into-mark.result in
    subst (λ (r : GroupRules). ArePlacedAt r (marks_at c.args.commit.before.now c.args.key.node).mark_in c.args.key.node c.args.key.key number own old new) c.in-Some.ensures.1
    (subst (λ (m : ℤ). ArePlacedAt c.in-Some.rules.now m c.args.key.node c.args.key.key number own old new) c.mark_into-mark.ensures
    (subst (λ (k : GroupKey). ArePlacedAt c.in-Some.rules.now mark k.node k.key number own old new) (c.own.ensures ∙ c.of-key.ensures) c.in_ok-known.ensures.ok))

pub returns-clause-standing : goal.returns-clause-standing
returns-clause-standing c =
    let plan = c.args.commit.plan.now in
    let number = c.args.commit.number in
    let key = c.of-key.result in
    let own = c.args.own in
    let old = c.args.self.now.cells in
    let new = c.place_known.new.self.cells in
    let rs = c.in-Some.rules.now in
    let mark = c.mark_into-mark.result in
    let known = c.in_ok-known.known in
    let same : rs ≡ rules_of plan key.node = c.in-Some.ensures.1 ∙ ap (λ (k : GroupKey). rules_of plan k.node) (sym c.of-key.ensures) in
    let group : is_group plan key.node ≡ true = ap (λ (k : GroupKey). is_group plan k.node) c.of-key.ensures ∙ c.requires.group in
    let placed : ArePlacedAt (rules_of plan key.node) mark key.node key.key number own old new =
    subst (λ (r : GroupRules). ArePlacedAt r mark key.node key.key number own old new) same
    (subst (λ (k : GroupKey). ArePlacedAt rs mark k.node k.key number own old new) c.own.ensures c.in_ok-known.ensures.ok) in
    let after : AreKnown mark (opens rs mark key.node key.key new) known =
    subst (λ (k : GroupKey). AreKnown mark (opens rs mark k.node k.key new) known) c.own.ensures c.in_ok-known.ensures.known in
    let here : IsKnown (rules_of plan key.node) key.node key.key new known =
    subst (λ (r : GroupRules). IsKnown r key.node key.key new known) same (known_at rs mark key.node key.key new known after) in
    standing_placed plan mark number key own old new c.args.standing.now c.take_known-known.new.standing c.insert.new.self
    known group placed c.requires.standing c.take_known-known.ensures.others c.in_ok-insert.ensures.updates.0 here
