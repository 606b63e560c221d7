-- A run that is given no more, and works nothing, is through, where own windows end early enough.
use Rattle.std.proofs.Common.{◌≡◌, ℕ, zero, suc, ◌-◌, ◌≤◌, ℤ, pos, Bool, true, false, not, cond, List, [], ◌∷◌, length, get_or, map, refl, sym, ap, subst, ◌∙◌, arith}
use Rattle.std.specs.Prelude.{Option, Some, None, ◌==◌, ◌&&◌, ◌≤ℤ◌, ◌+ℤ◌, bytes_eq, nat_le, nat_lt, int_le, slice_get, unwrap_or}
use Rattle.std.specs.List.{All, count_by, filter, list_any}
use Rattle.std.specs.Option.{option_map}
use Rattle.std.proofs.lemmas.Bool.{and_parts, and_from, not-false}
use Rattle.std.proofs.lemmas.Bool.Decides.{nat_tests}
use Rattle.std.proofs.lemmas.Int.{ints}
use Rattle.std.proofs.lemmas.Slice.Eq.{bytes_eq-Decides}
use Rattle.std.proofs.lemmas.List.Elements.{All-nil, All-cons, All-head, All-tail, All-weaker, All-filter, filter_passes}
use Rattle.beam_values.specs.Intervals.{Interval}
use Rattle.beam_values.specs.Marks.{marks_at}
use Rattle.beam_values.specs.Nodes.{is_group, is_group_kind}
use Rattle.beam_values.specs.Spelling.{spelling}
use Rattle.beam_values.specs.Strategies.{greatest_length}
use Rattle.beam_values.specs.Times.{final_mark}
use Rattle.beam_values.specs.declared.cell.Cell.{Cell}
use Rattle.beam_values.specs.declared.cell.Entry.{Entry}
use Rattle.beam_values.specs.declared.cell.Pane.{Pane}
use Rattle.beam_values.specs.declared.marks.StageMarks.{StageMarks}
use Rattle.beam_values.specs.declared.plan.Node.{Node}
use Rattle.beam_values.specs.declared.plan.NodeKind.{NodeKind}
use Rattle.beam_values.specs.declared.plan.NodeKind.TheVariants.{Source, ParDo, Flatten, WindowInto, Group, Stateful, Write}
use Rattle.beam_values.specs.declared.plan.Plan.{Plan}
use Rattle.beam_values.specs.declared.value.Value.{Value}
use Rattle.beam_values.proofs.Bags.{bag_count}
use Rattle.beam_model.specs.Panes.{GroupRules, HasEntries, IsFired, taken_drop, IsLegalHistory, Stands, Taken, TellsPanes, arrives, belongs, entries_upto, is_cell_at_key, is_on_time_of, mark_after, panes_at, panes_before, panes_in, held, is_of_window, rules_of, shows, taken_at, taken_by, taken_entry, trigger_in, trigger_of, is_at_key}
use Rattle.beam_model.specs.Plans.{default_trigger}
use Rattle.group_cells.proofs.Counting.{All-unmap, count_none, filter_where, none_counted}
use Rattle.pipeline_graph.specs.Rules.{HasSettings}
use Rattle.watermarks.proofs.NodeMarks.{final_stage}
use Rattle.book_core.specs.Book.{SeenBook, last_marks}
use Rattle.book_core.specs.Facts.{EndsEarly, greatest_end}
use Rattle.book_core.specs.Runs.{AreAllShown}
use Rattle.book_core.proofs.Cases.{LegalIn}
use Rattle.book_core.proofs.Shown.{IsIts, by_firing, stands_early}

-- ---- one cell

module _ (rules : GroupRules) (node : ℕ) (key : Value) (mark : ℕ → ℤ) (taken dropped : List Taken) (panes : List Pane) (early : All EndsEarly taken)
    (late : rules.trigger.lateness ≤ℤ greatest_length) (some_late : pos 0 ≤ℤ rules.trigger.lateness) where
  all_of_window : (last : ℕ) (w : Interval) → count_by (λ t. nat_lt last t.commit) taken ≡ 0 → filter (belongs rules w) taken ≡ entries_upto rules w last taken
  all_of_window last w none =
      filter_where (belongs rules w) (λ t. belongs rules w t && nat_le t.commit last) taken
      (All-weaker (λ t. nat_lt last t.commit ≡ false) (λ t. belongs rules w t ≡ (belongs rules w t && nat_le t.commit last))
      (λ t e. with_true (belongs rules w t) (nat_le t.commit last) (no_later last t.commit e)) taken (none_counted (λ t. nat_lt last t.commit) taken none))
    where
      no_later : (a b : ℕ) → nat_lt a b ≡ false → nat_le b a ≡ true
      no_later a b e = grind (arith, nat_tests)

      with_true : (t u : Bool) → u ≡ true → t ≡ (t && u)
      with_true true u e = sym e
      with_true false u e = refl

  its_entries : (last : ℕ) (w : Interval) → All (IsIts rules node key last final_mark w panes) (entries_upto rules w last taken)
  its_entries last w =
      All-weaker (λ t. (belongs rules w t && nat_le t.commit last) ≡ true) (IsIts rules node key last final_mark w panes)
      (λ t e. let parts = and_parts (belongs rules w t) (nat_le t.commit last) e in (parts.0, at_most t.commit last parts.1))
      (filter (λ t. belongs rules w t && nat_le t.commit last) taken) (filter_passes (λ t. belongs rules w t && nat_le t.commit last) taken)
    where
      at_most : (a b : ℕ) → nat_le a b ≡ true → a ≤ b
      at_most a b e = grind (arith, nat_tests)

  reached_end : (end : ℤ) → end ≤ℤ greatest_end → int_le end final_mark ≡ true
  reached_end end low = let le : end ≤ℤ final_mark = omega (arith, ints, low) in grind (arith, ints)

  expired_end : (end : ℤ) → end ≤ℤ greatest_end → int_le (end +ℤ rules.trigger.lateness) final_mark ≡ true
  expired_end end low = let le : (end +ℤ rules.trigger.lateness) ≤ℤ final_mark = sum_low end rules.trigger.lateness low late in grind (arith, ints)
    where
      sum_low : (a l : ℤ) → a ≤ℤ greatest_end → l ≤ℤ greatest_length → (a +ℤ l) ≤ℤ final_mark
      sum_low a l p q = omega (arith, ints, p, q)

  -- what stands after the last commit has shown all
  standing_shown : (last : ℕ) (w : Interval) → mark last ≡ final_mark → IsLegalHistory rules node key mark last taken dropped panes → Stands rules mark (arrives taken) last w
      → All (λ t. list_any (shows rules t) panes ≡ true) (filter (belongs rules w) taken)
  standing_shown zero w at history stands = absurd stands
  standing_shown (suc c) w at history stands =
      let low : w.end ≤ℤ greatest_end = stands_early rules mark taken greatest_end early (suc c) w stands in
      let entries = entries_upto rules w (suc c) taken in
      let fired = history.fired (suc c) w (omega arith) (omega arith) stands in
      subst (All (λ t. list_any (shows rules t) panes ≡ true)) (sym (all_of_window (suc c) w history.taken_commits))
      (by_firing rules node key (suc c) final_mark w panes (list_any (is_on_time_of w) (panes_before (suc c) panes)) (count_by (is_of_window w) (panes_before (suc c) panes))
      (held rules.trigger.mode rules (panes_before (suc c) panes) entries) entries (reached_end w.end low) (expired_end w.end low)
      (subst (λ (m : ℤ). IsFired rules node key (suc c) m w entries (panes_before (suc c) panes) (panes_in (suc c) w panes)) at fired) (its_entries (suc c) w))

  -- and so has a cell
  cell_shown : (last : ℕ) → mark last ≡ final_mark → IsLegalHistory rules node key mark last taken dropped panes → (w : Interval) (entries : List Entry) (into : Option Interval)
      → HasEntries rules node mark last taken w entries into → All (λ entry. entry.shown ≡ list_any (shows rules (taken_entry node entry)) panes) entries
      → All (λ entry. entry.shown ≡ true) entries
  cell_shown last at history w entries None has tells =
      let all = standing_shown last w at history has.0 in
      let off : Taken → Bool = λ t. not (list_any (shows rules t) panes) in
      let none : count_by off (map (taken_entry node) entries) ≡ 0 =
      bag_count off (map (taken_entry node) entries) (filter (belongs rules w) taken) has.1
      ∙ count_none off (filter (belongs rules w) taken)
      (All-weaker (λ t. list_any (shows rules t) panes ≡ true) (λ t. off t ≡ false) (λ t e. ap not e) (filter (belongs rules w) taken) all) in
      let each = All-unmap (λ t. off t ≡ false) (taken_entry node) entries (none_counted off (map (taken_entry node) entries) none) in
      λ k d inside. tells k d inside ∙ not-false (list_any (shows rules (taken_entry node (get_or entries k d))) panes) (each k d inside)
  cell_shown last at history w entries (Some into) has tells = subst (All (λ entry. entry.shown ≡ true)) (sym has.1) (All-nil (λ entry. entry.shown ≡ true))

-- ---- all cells of a book

pub passes_have : {X : Type 0} (p : X → Bool) (P : X → Type 0) (xs : List X) → All P (filter p xs) → All (λ x. p x ≡ true → P x) xs
passes_have p P [] h = All-nil (λ x. p x ≡ true → P x)
passes_have p P (x ∷ xs) h = by (p x) refl h (passes_have p P xs)
  where
    by : (t : Bool) → p x ≡ t → All P (cond t (x ∷ filter p xs) (filter p xs)) → (All P (filter p xs) → All (λ y. p y ≡ true → P y) xs) → All (λ y. p y ≡ true → P y) (x ∷ xs)
    by true e all onward = All-cons (λ y. p y ≡ true → P y) x xs (λ passes. All-head P x (filter p xs) all) (onward (All-tail P x (filter p xs) all))
    by false e all onward = All-cons (λ y. p y ≡ true → P y) x xs (λ passes. absurd (cc)) (onward all)

-- the lateness of a Group is set
abbrev pub IsLate : Plan → ℕ → Type 0
IsLate plan node = (pos 0 ≤ℤ (trigger_of plan node).lateness) × ((trigger_of plan node).lateness ≤ℤ greatest_length)

pub late_group : (plan : Plan) → ((n : ℕ) (node : Node) → slice_get plan.nodes n ≡ Some node → HasSettings node.kind) → (n : ℕ) → is_group plan n ≡ true → IsLate plan n
late_group plan settings n group = by (slice_get plan.nodes n) refl group
  where
    of_kind : (kind : NodeKind) → is_group_kind kind ≡ true → HasSettings kind → (pos 0 ≤ℤ (trigger_in kind).lateness) × ((trigger_in kind).lateness ≤ℤ greatest_length)
    of_kind (Source work args files estimator) is set = absurd (cc)
    of_kind (ParDo work args) is set = absurd (cc)
    of_kind Flatten is set = absurd (cc)
    of_kind (WindowInto s) is set = absurd (cc)
    of_kind (Group trigger) is set = set.lateness
    of_kind (Stateful work args log) is set = absurd (cc)
    of_kind (Write label) is set = absurd (cc)

    by : (found : Option Node) → slice_get plan.nodes n ≡ found → unwrap_or (option_map (λ node. is_group_kind node.kind) found) false ≡ true → IsLate plan n
    by None at is = absurd (cc)
    by (Some node) at is =
        subst (λ (f : Option Node). (pos 0 ≤ℤ (unwrap_or (option_map (λ x. trigger_in x.kind) f) default_trigger).lateness) × ((unwrap_or (option_map (λ x. trigger_in x.kind) f) default_trigger).lateness ≤ℤ greatest_length)) (sym at)
        (of_kind node.kind is (settings n node at))

module _ (b : SeenBook) (legal : LegalIn b) (final : (n : ℕ) → marks_at (last_marks b) n ≡ final_stage) (early : All EndsEarly (taken_by b.cells))
    (late : (n : ℕ) → is_group b.plan n ≡ true → IsLate b.plan n) where
  at_cell : (cell : Cell) → is_group b.plan cell.node ≡ true
      → (is_cell_at_key cell.node cell.key cell ≡ true
      → HasEntries (rules_of b.plan cell.node) cell.node (mark_after b.commits cell.node) (length b.commits - 1) (taken_at cell.node cell.key (taken_by b.cells)) cell.span cell.entries cell.merged_into)
      → (is_cell_at_key cell.node cell.key cell ≡ true → TellsPanes (rules_of b.plan cell.node) cell.node (panes_at cell.node cell.key b.panes) cell)
      → AreAllShown cell
  at_cell cell group has tells =
      let same : (cell.node == cell.node) ≡ true = grind (arith, nat_tests) in
      let own : is_cell_at_key cell.node cell.key cell ≡ true = and_from (cell.node == cell.node) (bytes_eq (spelling cell.key) (spelling cell.key)) same ((bytes_eq-Decides (spelling cell.key) (spelling cell.key)).1 refl) in
      let at_last : mark_after b.commits cell.node (length b.commits - 1) ≡ final_mark = ap (λ (s : StageMarks). s.mark_in) (final cell.node) in
      cell_shown (rules_of b.plan cell.node) cell.node cell.key (mark_after b.commits cell.node) (taken_at cell.node cell.key (taken_by b.cells)) (taken_at cell.node cell.key (map taken_drop b.dropped))
      (panes_at cell.node cell.key b.panes) (All-filter (is_at_key cell.node cell.key) EndsEarly (taken_by b.cells) early) (late cell.node group).1 (late cell.node group).0
      (length b.commits - 1) at_last (legal.each cell.node cell.key group).history cell.span cell.entries cell.merged_into (has own) (tells own).shown

  pub all_shown : All AreAllShown b.cells
  all_shown k d inside =
      let cell = get_or b.cells k d in
      let group : is_group b.plan cell.node ≡ true = legal.cells_at k d inside in
      let told = (legal.each cell.node cell.key group).cells_tell in
      at_cell cell group
      (passes_have (is_cell_at_key cell.node cell.key) (λ (x : Cell). HasEntries (rules_of b.plan cell.node) cell.node (mark_after b.commits cell.node) (length b.commits - 1) (taken_at cell.node cell.key (taken_by b.cells)) x.span x.entries x.merged_into) b.cells told.has k d inside)
      (passes_have (is_cell_at_key cell.node cell.key) (TellsPanes (rules_of b.plan cell.node) cell.node (panes_at cell.node cell.key b.panes)) b.cells told.tells k d inside)
