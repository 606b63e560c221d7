use Rattle.std.proofs.Common.{◌≡◌, ◌∙◌, ap, rules, subst, sym, true, false}
use Rattle.std.specs.Prelude.{◌&&◌}
use Rattle.std.specs.Option.{is_some}
use Rattle.beam_values.specs.Nodes.{is_group}
use Rattle.beam_model.specs.Panes.{GroupRules, rules_of}
use Rattle.group_cells.specs.KnownWindows.{known_of, IsKnownOf}
use Rattle.group_cells.specs.declared.groups.keyed.GroupKey.{GroupKey}
use Rattle.group_cells.proofs.KnownKeys.{not_standing, pushed_known, standing_merged, standing_more, standing_unmerged, yet_standing}
use Rattle.group_cells.proofs.groups.keyed.push_cell.Goals as goal
use Rattle.group_cells.proofs.groups.keyed.push_cell.Goals.{then-not-rules-via-then-not-rules, then-not-rules-via-else-not-rules+then-is_some}

pub returns-in_default : goal.returns-in_default
returns-in_default c = λ cells at h.
    let plan = c.args.plan.now in
    let cell = c.args.cell.now in
    standing_unmerged plan c.args.standing.now cells cell h (ap (λ b. b && (rules_of plan cell.node).merges) c.in_default.ensures)

pub returns-then-not-rules : goal.returns-then-not-rules
returns-then-not-rules c = λ cells at h.
    let plan = c.args.plan.now in
    let cell = c.args.cell.now in
    elim c.then-not-rules.branch [
      | then-not-rules-via-then-not-rules w ↦
          standing_unmerged plan c.args.standing.now cells cell h
          (ap (λ b. b && (rules_of plan cell.node).merges) c.in-Some.ensures.0 ∙ ap (λ (r : GroupRules). r.merges) (sym c.in-Some.ensures.1 ∙ sym c.rules-2.view_is) ∙ w.if-not-rules.true)
      | then-not-rules-via-else-not-rules+then-is_some w ↦ (
          let gone : is_some cell.merged_into ≡ true = search rules in
          standing_merged plan c.args.standing.now cells cell h (not_standing cell.merged_into gone)
          )
    ]

pub returns : goal.returns
returns c =
    let plan = c.args.plan.now in
    let cell = c.args.cell.now in
    let rs = c.in-Some.rules.now in
    let key = c.in_ok-key.key in
    let keyed = c.in_ok-key.ensures in
    let place : c.in_ok-place.place ≡ c.args.place = search rules in
    let none : is_some cell.merged_into ≡ false = search rules in
    let merges : rs.merges ≡ true = ap (λ (r : GroupRules). r.merges) (sym c.rules-2.view_is) ∙ c.if-not-rules.false in
    let same : rs ≡ rules_of plan key.node = c.in-Some.ensures.1 ∙ ap (λ (k : GroupKey). rules_of plan k.node) (sym keyed) in
    λ cells at h.
    standing_more plan c.args.standing.now c.take_known-known.new.standing c.insert.new.self cells cell key c.in_ok-known.known h keyed c.take_known-known.ensures.others c.in_ok-insert.ensures.updates.0
    (pushed_known plan rs c.mark_into.result cells cell c.in_ok-place.place key c.take_known-known.result c.in_ok-known.known same keyed (place ∙ at) (yet_standing cell.merged_into none)
    (c.take_known-known.ensures.known cells
    (subst (λ (r : GroupRules). IsKnownOf r key.node key.key cells (known_of c.args.standing.now key)) (sym same)
    (h.each key (ap (λ (k : GroupKey). is_group plan k.node) keyed ∙ c.in-Some.ensures.0) (ap (λ (r : GroupRules). r.merges) (sym same) ∙ merges))))
    c.in_ok-known.ensures)
