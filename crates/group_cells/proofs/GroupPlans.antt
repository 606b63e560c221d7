-- The rules that are kept beside a plan are those of its Groups.
use Rattle.std.proofs.Common.{◌≡◌, ◌⊎◌, inl, inr, ℕ, ◌<◌, ◌≤◌, Bool, true, false, ◌&&◌, cond, List, [], ◌∷◌, length, Option, Some, None, refl, sym, ap, ◌∙◌, arith}
use Rattle.std.specs.List.{filter}
use Rattle.std.specs.Option.{option_map, unwrap_or}
use Rattle.std.specs.Prelude.{slice_index_or}
use Rattle.std.proofs.lemmas.Bool.{cases_lt}
use Rattle.std.proofs.lemmas.List.{get_or_past}
use Rattle.std.proofs.lemmas.Option.{slice_get_past}
use Rattle.beam_values.specs.Nodes.{is_group, is_group_kind}
use Rattle.beam_values.specs.declared.arrival.Arrival.{Arrival}
use Rattle.beam_values.specs.declared.marks.StageMarks.{StageMarks}
use Rattle.beam_values.specs.declared.plan.Node.{Node}
use Rattle.beam_values.specs.declared.plan.Plan.{Plan}
use Rattle.beam_model.specs.Panes.{GroupRules, rules_of}
use Rattle.group_cells.specs.Arrivals.{merging}
use Rattle.group_cells.specs.Commits.{arrives_in_time}
use Rattle.group_cells.specs.GroupPlans.{group_rules}

-- of each node, where those of the nodes that there are are at their places
pub all_rules : (plan : Plan) (groups : List (Option GroupRules)) → length groups ≡ length plan.nodes → ((k : ℕ) → k < length plan.nodes → slice_index_or groups k None ≡ group_rules plan k)
    → (node : ℕ) → slice_index_or groups node None ≡ group_rules plan node
all_rules plan groups sized each node = by (cases_lt node (length plan.nodes))
  where
    by : (node < length plan.nodes) ⊎ (length plan.nodes ≤ node) → slice_index_or groups node None ≡ group_rules plan node
    by (inl less) = each node less
    by (inr past) =
        get_or_past groups node None (omega (arith, past, sized))
        ∙ sym (ap (λ (o : Option Node). cond (unwrap_or (option_map (λ n. is_group_kind n.kind) o) false) (Some (rules_of plan node)) None) (slice_get_past plan.nodes node past))

-- where no Group merges its windows, no arrival is at one that does
pub none_merging : (plan : Plan) (before : List StageMarks) → ((node : ℕ) → is_group plan node ≡ true → (rules_of plan node).merges ≡ false)
    → (arrivals : List Arrival) → filter (merging plan before) arrivals ≡ []
none_merging plan before none [] = refl
none_merging plan before none (a ∷ arrivals) =
    ap (λ b. cond b (a ∷ filter (merging plan before) arrivals) (filter (merging plan before) arrivals))
    (by (is_group plan a.node) (arrives_in_time plan before a) ((rules_of plan a.node).merges) (none a.node))
    ∙ none_merging plan before none arrivals
  where
    by : (group timely merges : Bool) → (group ≡ true → merges ≡ false) → ((group && timely) && merges) ≡ false
    by true true merges e = e refl
    by true false merges e = refl
    by false timely merges e = refl
