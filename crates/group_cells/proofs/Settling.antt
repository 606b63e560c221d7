-- A cell that fired at a mark fires no more at it: its pane showed all that it had. So do the cells after a round.
use Rattle.std.proofs.Common.{◌≡◌, ℕ, ℤ, pos, Bool, true, false, cond, List, map, get_or, refl, sym, ap, subst, ◌∙◌, arith}
use Rattle.std.specs.Prelude.{◌&&◌, ◌||◌, ◌-ℤ◌, not, nat_le, int_le, slice_get, unwrap_or, Option, Some, None}
use Rattle.std.specs.List.{All}
use Rattle.std.specs.Option.{option_map}
use Rattle.std.proofs.lemmas.Bool.{and_parts, or_left}
use Rattle.std.proofs.lemmas.Bool.Decides.{nat_tests}
use Rattle.std.proofs.lemmas.List.Elements.{All-map}
use Rattle.beam_values.specs.Checked.{IsChecked, is_set, is_count, is_early_allowed, are_early_bars, are_late_bars}
use Rattle.beam_values.specs.Firing.{firing, is_early_due, is_enough, met}
use Rattle.beam_values.specs.Marks.{marks_at}
use Rattle.beam_values.specs.Nodes.{is_group}
use Rattle.beam_values.specs.Strategies.{greatest_length}
use Rattle.beam_values.specs.declared.arrival.Arrival.{Arrival}
use Rattle.beam_values.specs.declared.cell.Cell.{Cell}
use Rattle.beam_values.specs.declared.cell.Entry.{Entry}
use Rattle.beam_values.specs.declared.cell.Pane.{Pane}
use Rattle.beam_values.specs.declared.element.Timing.{Timing}
use Rattle.beam_values.specs.declared.element.Timing.TheVariants.{Early, OnTime}
use Rattle.beam_values.specs.declared.marks.StageMarks.{StageMarks}
use Rattle.beam_values.specs.declared.plan.Node.{Node}
use Rattle.beam_values.specs.declared.plan.NodeKind.{NodeKind}
use Rattle.beam_values.specs.declared.plan.NodeKind.TheVariants.{Source, ParDo, Flatten, WindowInto, Group, Stateful, Write}
use Rattle.beam_values.specs.declared.plan.Plan.{Plan}
use Rattle.beam_values.specs.declared.plan.Trigger.{Trigger}
use Rattle.beam_values.specs.declared.value.Value.{Value}
use Rattle.beam_model.specs.Panes.{GroupRules, is_on_time, rules_of, trigger_in, trigger_of}
use Rattle.beam_model.specs.Plans.{default_trigger}
use Rattle.watermarks.proofs.CheckedNodes.{meets_rules, no_refusal}
use Rattle.group_cells.specs.Cells.{after_firing, firing_of, once_fired, shown, unseen_in}
use Rattle.group_cells.specs.Commits.{AreRounds, cells_keyed}
use Rattle.group_cells.specs.Placing.{is_standing}
use Rattle.group_cells.specs.Sane.{FiresNoMore}
use Rattle.group_cells.proofs.Counting.{count_none}
use Rattle.group_cells.proofs.EachKey.{each_key}
use Rattle.group_cells.proofs.KeyCells.{cells_here}

-- ---- triggers of a checked plan ask for some elements

-- early counts ask for some elements; early bars take no pane without any
abbrev pub AsksForSome : Trigger → Type 0
AsksForSome trigger = is_enough trigger.early 0 ≡ false

asks_in : (before : List Node) (kind : NodeKind) (inputs : List ℕ) → is_set before kind inputs ≡ true → AsksForSome (trigger_in kind)
asks_in before (Source work args files estimator) inputs set = refl
asks_in before (ParDo work args) inputs set = refl
asks_in before Flatten inputs set = refl
asks_in before (WindowInto s) inputs set = refl
asks_in before (Group trigger) inputs set = by trigger.early early_is
  where
    early_is : is_early_allowed trigger.early ≡ true
    early_is =
        let a = and_parts (is_early_allowed trigger.early && is_count trigger.late && int_le (pos 0) trigger.lateness && int_le trigger.lateness greatest_length && are_early_bars trigger.early_bars) (are_late_bars trigger.late_bars) set in
        let b = and_parts (is_early_allowed trigger.early && is_count trigger.late && int_le (pos 0) trigger.lateness && int_le trigger.lateness greatest_length) (are_early_bars trigger.early_bars) a.0 in
        let d = and_parts (is_early_allowed trigger.early && is_count trigger.late && int_le (pos 0) trigger.lateness) (int_le trigger.lateness greatest_length) b.0 in
        let e = and_parts (is_early_allowed trigger.early && is_count trigger.late) (int_le (pos 0) trigger.lateness) d.0 in
        (and_parts (is_early_allowed trigger.early) (is_count trigger.late) e.0).0

    by : (early : Option ℕ) → is_early_allowed early ≡ true → is_enough early 0 ≡ false
    by None h = refl
    by (Some count) h = let least = (and_parts (nat_le 1 count) (nat_le count 4294967295) h).0 in grind (arith, nat_tests)
asks_in before (Stateful work args log) inputs set = refl
asks_in before (Write label) inputs set = refl

pub asks_of : (plan : Plan) → IsChecked plan → (n : ℕ) → AsksForSome (trigger_of plan n)
asks_of plan checked n = by (slice_get plan.nodes n) refl
  where
    by : (found : Option Node) → slice_get plan.nodes n ≡ found → AsksForSome (unwrap_or (option_map (λ x. trigger_in x.kind) found) default_trigger)
    by None at = refl
    by (Some node) at = asks_in _ node.kind node.inputs (meets_rules _ node (no_refusal plan n node checked at)).settings

-- ---- with nothing unseen

none_of : (a : Bool) → (a && false) ≡ false
none_of true = refl
none_of false = refl

none_early : (trigger : Trigger) (end mark : ℤ) → AsksForSome trigger → is_early_due trigger end mark 0 ≡ false
none_early trigger end mark asks = ap (λ (t : Bool). t || (met trigger.early_bars 0 (mark -ℤ end) && false)) asks ∙ none_of (met trigger.early_bars 0 (mark -ℤ end))

-- a window that fired doesn't fire again with nothing unseen
pub none_again : (trigger : Trigger) (end mark : ℤ) (flag later : Bool) (unseen : ℕ) (timing : Timing) → AsksForSome trigger → firing trigger end mark flag unseen ≡ Some timing
    → (flag ≡ true → later ≡ true) → (timing ≡ OnTime → later ≡ true) → firing trigger end mark later 0 ≡ None
none_again trigger end mark flag true unseen timing asks is kept on_time = refl
none_again trigger end mark true false unseen timing asks is kept on_time = let no : false ≡ true = kept refl in absurd (cc)
none_again trigger end mark false false unseen timing asks is kept on_time = by (int_le end mark) is
  where
    by : (t : Bool) → cond t (Some OnTime) (cond (is_early_due trigger end mark unseen) (Some Early) None) ≡ Some timing
        → cond t (Some OnTime) (cond (is_early_due trigger end mark 0) (Some Early) None) ≡ None
    by true e = let same : OnTime ≡ timing = cc in let no : false ≡ true = on_time (sym same) in absurd (cc)
    by false e = ap (λ (t : Bool). cond t (Some Early) None) (none_early trigger end mark asks)

pub all_shown : (entries : List Entry) → unseen_in (map shown entries) ≡ 0
all_shown entries = count_none (λ (entry : Entry). not entry.shown) (map shown entries) (All-map (λ (entry : Entry). not entry.shown ≡ false) shown entries (λ k d within. refl))

-- ---- a cell fires once at a mark

pub fires_once : (rules : GroupRules) (mark : ℤ) (cell : Cell) → AsksForSome rules.trigger → firing_of rules mark (after_firing rules mark cell) ≡ None
fires_once rules mark cell asks = by (firing_of rules mark cell) refl
  where
    by : (t : Option Timing) → firing_of rules mark cell ≡ t → firing_of rules mark (once_fired t cell) ≡ None
    by None e = e
    by (Some timing) e = again (is_standing cell.merged_into) e
      where
        on_time_now : timing ≡ OnTime → (cell.on_time || is_on_time timing) ≡ true
        on_time_now same = ap (λ (t : Timing). cell.on_time || is_on_time t) same ∙ last cell.on_time
          where
            last : (b : Bool) → (b || true) ≡ true
            last true = refl
            last false = refl

        again : (s : Bool) → cond s (firing rules.trigger cell.span.end mark cell.on_time (unseen_in cell.entries)) None ≡ Some timing
            → cond s (firing rules.trigger cell.span.end mark (cell.on_time || is_on_time timing) (unseen_in (map shown cell.entries))) None ≡ None
        again true f =
            ap (firing rules.trigger cell.span.end mark (cell.on_time || is_on_time timing)) (all_shown cell.entries)
            ∙ none_again rules.trigger cell.span.end mark cell.on_time (cell.on_time || is_on_time timing) (unseen_in cell.entries) timing asks f
            (λ was. or_left cell.on_time (is_on_time timing) was) on_time_now
        again false f = refl

-- ---- after a round

pub settled_after : (plan : Plan) (c : ℕ) (before after : List StageMarks) (arrivals : List Arrival) (cells new : List Cell) (fired : List Pane)
    → IsChecked plan → AreRounds plan c before after arrivals cells new fired → All (FiresNoMore plan after) new
settled_after plan c before after arrivals cells new fired checked rounds = each_key plan (FiresNoMore plan after) new rounds.cells_at of_key
  where
    of_key : (node : ℕ) (key : Value) → is_group plan node ≡ true → All (FiresNoMore plan after) (cells_keyed node key new)
    of_key node key group k d within =
        subst (λ (n : ℕ). firing_of (rules_of plan n) (marks_at after n).mark_in (get_or (cells_keyed node key new) k d) ≡ None) (sym (cells_here node key new k d within))
        (still k d within)
      where
        still : All (λ cell. firing_of (rules_of plan node) (marks_at after node).mark_in cell ≡ None) (cells_keyed node key new)
        still =
            let round = rounds.each node key group in
            subst (All (λ cell. firing_of (rules_of plan node) (marks_at after node).mark_in cell ≡ None)) (sym round.fires)
            (All-map (λ cell. firing_of (rules_of plan node) (marks_at after node).mark_in cell ≡ None) (after_firing (rules_of plan node) (marks_at after node).mark_in) round.placed
            (λ i e inside. fires_once (rules_of plan node) (marks_at after node).mark_in (get_or round.placed i e) (asks_of plan checked node)))
