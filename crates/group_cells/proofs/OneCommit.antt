-- One commit of a Group and key, whole: what was legal is legal with it.
use Rattle.std.proofs.Common.{◌≡◌, ◌⊎◌, inl, inr, ℕ, suc, ◌+◌, ◌≤◌, ◌==◌, ℤ, Bool, true, false, cond, List, ◌++◌, map, get_or, refl, sym, ap, subst, ◌∙◌, arith}
use Rattle.std.specs.Prelude.{nat_lt, nat_le, ◌&&◌, not, Option, Some, None}
use Rattle.std.specs.List.{All, count_by, filter, list_any}
use Rattle.std.proofs.lemmas.Bool.{cases_lt, and_left, and_from, and_parts, eq-eqb, lt-leb, le-leb, not-false, eqb-true}
use Rattle.std.proofs.lemmas.Bool.Decides.{nat_tests}
use Rattle.std.proofs.lemmas.List.Elements.{All-append, All-map, All-weaker, filter_passes}
use Rattle.std.proofs.lemmas.List.Folds.{list_any_none}
use Rattle.beam_values.specs.Bags.{IsSameBag}
use Rattle.beam_values.specs.Intervals.{Interval}
use Rattle.beam_values.specs.Sessions.{LiesIn}
use Rattle.beam_values.specs.Spans.{same_span}
use Rattle.beam_values.specs.declared.value.Value.{Value}
use Rattle.beam_values.specs.declared.cell.Cell.{Cell}
use Rattle.beam_values.specs.declared.cell.Entry.{Entry}
use Rattle.beam_values.specs.declared.cell.Pane.{Pane}
use Rattle.beam_values.proofs.Bags.{bag_count, bag_from_same, sum_by-map}
use Rattle.beam_model.specs.Panes.{Taken, GroupRules, taken_entry, is_late, arrives, Stands, belongs, shows, is_of_window, IsFired, IsCommit, IsLegalHistory, IsTakenFirst, HasEntries, AreLegalCells}
use Rattle.group_cells.specs.Placing.{is_standing, is_absorbed, stands_as, Opening, opened_all, put_all}
use Rattle.group_cells.specs.Cells.{after_firing, AreTheirPanes}
use Rattle.group_cells.proofs.Counting.{count_none, none_counted, count-append, count_member, counted_more, counted_has, none_any, any_counted, All-flat_map_each, All-unmap}
use Rattle.group_cells.proofs.WindowTests.{span_itself, span_sound}
use Rattle.group_cells.proofs.WindowSteps.{IsStep}
use Rattle.group_cells.proofs.LongerHistory.{Arrives, After, CommitAdds, commit_history, stood_old, stood_new}
use Rattle.group_cells.proofs.OpenedCells.{has_window, KeepsEntries, AreKept}
use Rattle.group_cells.proofs.AllOpened.{spans, opened_kept_all, all_opened_more}
use Rattle.group_cells.proofs.MovedEntries.{all_taken, HasPlace, all_put_count, moved_put}
use Rattle.group_cells.proofs.PutEntries.{all_put_kept}
use Rattle.group_cells.proofs.FiredCells.{Fine, FineIn, own_entries, fire_kept, fire_legal, pane_stands, fire_taken, fire_count}

-- what a commit of a Group and key does: it brings these entries, drops `late`, opens cells for the windows of `openings`, puts the entries, and fires
pub record IsCellsCommit (rules : GroupRules) (node : ℕ) (key : Value) (mark new_mark : ℕ → ℤ) (c : ℕ) (cells : List Cell) (entries : List Entry) (late : List Taken) (openings : List Opening) (newest : List Pane) : Type 0 where
  pub marks_same : (i : ℕ) → i ≤ c → new_mark i ≡ mark i
  pub new_entries : All (λ e. (e.commit ≡ suc c) × (e.shown ≡ false)) entries
  pub new_kept : All (λ e. is_late rules mark (suc c) e.element.span ≡ false) entries
  pub late_commits : All (λ e. e.commit ≡ suc c) late
  pub new_late : All (λ e. is_late rules mark (suc c) e.element.span ≡ true) late
  pub pane_commits : All (λ pane. pane.commit ≡ suc c) newest
  pub step : IsStep rules mark (arrives (all_taken node cells)) c (Arrives (map (taken_entry node) entries) (suc c))
      (Stands rules mark (arrives (all_taken node cells)) c) (After rules mark c (all_taken node cells) (map (taken_entry node) entries)) (spans openings)
  pub fire : AreTheirPanes rules node key (suc c) (new_mark (suc c)) (put_all rules entries (opened_all rules (mark c) node openings cells)) newest

module _ (rules : GroupRules) (node : ℕ) (key : Value) (mark new_mark : ℕ → ℤ) (c : ℕ) (cells : List Cell) (entries : List Entry) (dropped late : List Taken) (openings : List Opening) (panes newest : List Pane)
    (history : IsLegalHistory rules node key mark c (all_taken node cells) dropped panes) (legal : AreLegalCells rules node mark c (all_taken node cells) panes cells)
    (commit : IsCellsCommit rules node key mark new_mark c cells entries late openings newest) where
  abbrev taken : List Taken
  taken = all_taken node cells

  abbrev news : List Taken
  news = map (taken_entry node) entries

  abbrev S : Interval → Type 0
  S w = Stands rules mark (arrives taken) c w

  abbrev T : Interval → Type 0
  T w = After rules mark c taken news w

  abbrev TakenBy : Interval → Interval → Type 0
  TakenBy w into = IsTakenFirst rules mark taken c w into ⊎ (S w × (T w → ⊥) × T into × LiesIn w into)

  belong : (w : Interval) (kept : List Entry) → IsSameBag (map (taken_entry node) kept) (filter (belongs rules w) taken) → All (λ entry. belongs rules w (taken_entry node entry) ≡ true) kept
  belong w kept same =
      All-weaker (λ entry. not (belongs rules w (taken_entry node entry)) ≡ false) (λ entry. belongs rules w (taken_entry node entry) ≡ true) (λ entry h. not-false (belongs rules w (taken_entry node entry)) h) kept
      (none_counted (λ entry. not (belongs rules w (taken_entry node entry))) kept
      (sym (sum_by-map (λ e. cond {A = ℕ} (not (belongs rules w e)) 1 0) (taken_entry node) kept)
      ∙ bag_count (λ e. not (belongs rules w e)) (map (taken_entry node) kept) (filter (belongs rules w) taken) same
      ∙ count_none (λ e. not (belongs rules w e)) (filter (belongs rules w) taken)
      (All-weaker (λ e. belongs rules w e ≡ true) (λ e. not (belongs rules w e) ≡ false) (λ e h. ap not h) (filter (belongs rules w) taken)
      (filter_passes (λ e. belongs rules w e) taken))))

  start_has : (w : Interval) (kept : List Entry) (o : Option Interval) → HasEntries rules node mark c taken w kept o → KeepsEntries rules.merges S T TakenBy w kept o
  start_has w kept None h = (h.0, belong w kept h.1)
  start_has w kept (Some into) h = ((λ t. h.0 (commit.step.still h.2.c (omega (arith, h.2.within)) w h.2.stood t)), h.1, inl h.2)

  start_stands : (w : Interval) → S w → (cell : Cell) → HasEntries rules node mark c taken cell.span cell.entries cell.merged_into → has_window w cell ≡ true → stands_as w cell ≡ true
  start_stands w s cell h on = by cell.merged_into h
    where
      by : (o : Option Interval) → HasEntries rules node mark c taken cell.span cell.entries o → (is_standing o && has_window w cell) ≡ true
      by None h = on
      by (Some into) h = absurd (h.0 (subst S (sym (span_sound cell.span w on)) s))

  start : AreKept rules node panes S T TakenBy cells
  start = record {
    has = All-weaker (λ cell. HasEntries rules node mark c taken cell.span cell.entries cell.merged_into) (λ cell. KeepsEntries rules.merges S T TakenBy cell.span cell.entries cell.merged_into)
        (λ cell h. start_has cell.span cell.entries cell.merged_into h) cells legal.has;
    tells = legal.tells;
    once = legal.once;
    every = λ w s. counted_more (has_window w) (stands_as w) (λ cell. HasEntries rules node mark c taken cell.span cell.entries cell.merged_into) (start_stands w s) cells legal.has (legal.ever c w (omega arith) s);
  }

  unfired : (s : Interval) → T s → S s ⊎ All (λ p. is_of_window s p ≡ false) panes
  unfired s stands = by (list_any (is_of_window s) panes) refl
    where
      by : (b : Bool) → list_any (is_of_window s) panes ≡ b → S s ⊎ All (λ p. is_of_window s p ≡ false) panes
      by true e =
          inl (counted_has (is_of_window s) (λ p. IsCommit c p.commit × Stands rules mark (arrives taken) p.commit p.element.span) (S s) panes (any_counted (is_of_window s) panes e)
          (λ k d within. (history.pane_commits k d within, history.only k d within))
          (λ p on h. commit.step.still p.commit h.0.1 s (subst (λ (u : Interval). Stands rules mark (arrives taken) p.commit u) (span_sound p.element.span s on) h.1) stands))
      by false e = inr (none_any (is_of_window s) panes e)

  abbrev opened_cells : List Cell
  opened_cells = opened_all rules (mark c) node openings cells

  absorbing : (s w : Interval) → S w → T s → is_absorbed rules (mark c) s w ≡ true → TakenBy w s
  absorbing s w old stands e = inr (old, (λ t. commit.step.gone s w stands e t), stands, commit.step.lies s w e)

  after_opening : AreKept rules node panes T T TakenBy opened_cells
  after_opening =
      opened_kept_all rules node panes S T TakenBy (mark c) commit.step.gone commit.step.alone_before absorbing commit.step.carries commit.step.not_itself unfired openings cells
      commit.step.each commit.step.stays commit.step.only start

  new_arrives : All (λ e. Arrives news (suc c) e.element.span) entries
  new_arrives k d within =
      le-leb _ _ (subst (λ (n : ℕ). 1 ≤ n) (sym (sum_by-map (λ e. cond {A = ℕ} (e.commit == suc c && same_span e.element.span (get_or entries k d).element.span) 1 0) (taken_entry node) entries))
      (count_member (λ e. e.commit == suc c && same_span e.element.span (get_or entries k d).element.span) entries k d within
      (and_from _ _ (eq-eqb _ _ (commit.new_entries k d within).0) (span_itself (get_or entries k d).element.span))))

  unshown : All (λ entry. entry.shown ≡ list_any (shows rules (taken_entry node entry)) panes) entries
  unshown k d within =
      let at = commit.new_entries k d within in
      at.1 ∙ sym (list_any_none (shows rules (taken_entry node (get_or entries k d))) panes (All-weaker (λ p. IsCommit c p.commit) (λ p. shows rules (taken_entry node (get_or entries k d)) p ≡ false)
      (λ p h. and_left (nat_le (get_or entries k d).commit p.commit) (belongs rules p.element.span (taken_entry node (get_or entries k d))) (lt-leb _ _ (omega (arith, at.0, h.1)))) panes history.pane_commits))

  places : All (HasPlace rules opened_cells) entries
  places k d within =
      let place = commit.step.placed (get_or entries k d).element.span (new_arrives k d within) in
      (place.0, after_opening.every place.0 place.1, place.3)

  abbrev put_cells : List Cell
  put_cells = put_all rules entries opened_cells

  abbrev after_cells : List Cell
  after_cells = map (after_firing rules (new_mark (suc c))) put_cells

  after_putting : AreKept rules node panes T T TakenBy put_cells
  after_putting = all_put_kept rules node panes T T TakenBy entries unshown opened_cells after_opening

  moved : IsSameBag (all_taken node put_cells) (taken ++ news)
  moved = moved_put rules (mark c) node openings entries cells places

  abbrev HadCommit : Taken → Type 0
  HadCommit e = nat_lt c e.commit ≡ false

  earlier_commits : All HadCommit taken
  earlier_commits = none_counted (λ e. nat_lt c e.commit) taken history.taken_commits

  news_commits : All (λ e. e.commit ≡ suc c) news
  news_commits = All-map (λ (e : Taken). e.commit ≡ suc c) (taken_entry node) entries (λ k d within. (commit.new_entries k d within).0)

  not_lower : (a b : ℕ) → nat_lt a b ≡ false → b ≤ a
  not_lower a b h = grind (arith, nat_tests)

  -- what arrived belongs to one window that stands
  taken_fine : (xs : List Taken) → IsSameBag xs (taken ++ news) → All (Fine rules node (suc c) T TakenBy) xs
  taken_fine xs same k d within = (early, commit.step.alone own from)
    where
      own : Interval
      own = (get_or xs k d).element.span

      at : Taken → Bool
      at = λ x. x.commit == (get_or xs k d).commit && same_span x.element.span (get_or xs k d).element.span

      counted : 1 ≤ count_by at taken + count_by at news
      counted =
          let some = count_member at xs k d within (and_from _ _ (eq-eqb _ _ refl) (span_itself (get_or xs k d).element.span)) in
          omega (arith, bag_count at xs (taken ++ news) same, count-append at taken news)

      from : ((n : ℕ) × (n ≤ c) × (arrives taken n (get_or xs k d).element.span ≡ true)) ⊎ Arrives news (suc c) (get_or xs k d).element.span
      from = elim (cases_lt 0 (count_by at taken)) [
        | inl some ↦
            inl (
              (get_or xs k d).commit,
              counted_has at HadCommit ((get_or xs k d).commit ≤ c) taken some earlier_commits (λ x on h. let parts = and_parts (x.commit == (get_or xs k d).commit) (same_span x.element.span (get_or xs k d).element.span) on in let is = eqb-true _ _ parts.0 in omega (arith, not_lower c x.commit h)),
              le-leb _ _ some,
            )
        | inr none ↦
            let some : 1 ≤ count_by at news = omega (arith, counted) in
            let is : (get_or xs k d).commit ≡ suc c = counted_has at (λ x. x.commit ≡ suc c) ((get_or xs k d).commit ≡ suc c) news some news_commits (λ x on h. let parts = and_parts (x.commit == (get_or xs k d).commit) (same_span x.element.span (get_or xs k d).element.span) on in let is = eqb-true _ _ parts.0 in omega (arith, h)) in
            inr (le-leb _ _ (subst (λ (n : ℕ). 1 ≤ count_by (λ x. x.commit == n && same_span x.element.span (get_or xs k d).element.span) news) is some))
      ]

      early : (get_or xs k d).commit ≤ suc c
      early = elim from [
        | inl h ↦ low
        | inr h ↦ low
      ]
        where
          low : (get_or xs k d).commit ≤ suc c
          low = not_lower (suc c) (get_or xs k d).commit (none_counted (λ x. nat_lt (suc c) x.commit) xs
              (bag_count (λ x. nat_lt (suc c) x.commit) xs (taken ++ news) same
              ∙ count_none (λ x. nat_lt (suc c) x.commit) (taken ++ news)
              (All-append (λ x. nat_lt (suc c) x.commit ≡ false) taken news
              (All-weaker HadCommit (λ x. nat_lt (suc c) x.commit ≡ false) (λ x h. grind (arith, nat_tests)) taken earlier_commits)
              (All-weaker (λ x. x.commit ≡ suc c) (λ x. nat_lt (suc c) x.commit ≡ false) (λ x h. grind (arith, nat_tests)) news news_commits))) k d within)

  fine_in : (xs : List Cell) → IsSameBag (all_taken node xs) (taken ++ news) → All (FineIn rules node (suc c) T TakenBy) xs
  fine_in xs same =
      All-weaker (λ cell. All (Fine rules node (suc c) T TakenBy) (map (taken_entry node) cell.entries)) (FineIn rules node (suc c) T TakenBy)
      (λ cell h. All-unmap (Fine rules node (suc c) T TakenBy) (taken_entry node) cell.entries h) xs
      (All-flat_map_each (Fine rules node (suc c) T TakenBy) (λ cell. map (taken_entry node) cell.entries) xs (taken_fine (all_taken node xs) same))

  taken_same : all_taken node after_cells ≡ all_taken node put_cells
  taken_same = fire_taken rules node (new_mark (suc c)) put_cells

  -- nothing is lost: what arrived is in the cells
  moved_fired : IsSameBag (all_taken node after_cells) (taken ++ news)
  moved_fired = subst (λ (l : List Taken). IsSameBag l (taken ++ news)) (sym taken_same) moved

  after_fired : AreKept rules node (panes ++ newest) T T TakenBy after_cells
  after_fired = fire_kept rules node key (suc c) (new_mark (suc c)) T TakenBy panes newest put_cells after_putting (fine_in put_cells moved) commit.fire commit.pane_commits

  panes_stand : All (λ pane. T pane.element.span) newest
  panes_stand = pane_stands rules node key (suc c) (new_mark (suc c)) T TakenBy panes newest put_cells after_putting (fine_in put_cells moved) commit.fire commit.pane_commits

  adds : CommitAdds rules node key mark new_mark c taken news (all_taken node after_cells) late panes newest
  adds = record {
    marks_same = commit.marks_same;
    moved = moved_fired;
    new_commits = news_commits;
    new_kept = All-map (λ (e : Taken). is_late rules mark (suc c) e.element.span ≡ false) (taken_entry node) entries commit.new_kept;
    late_commits = commit.late_commits;
    new_late = commit.new_late;
    pane_commits = commit.pane_commits;
    onward = commit.step.onward;
    placed = λ v n. let to = commit.step.placed v n in (to.0, to.1, to.2);
    fired = λ w t. subst (λ (l : List Taken). IsFired rules node key (suc c) (new_mark (suc c)) w (filter (belongs rules w) l) panes (filter (is_of_window w) newest)) (sym taken_same)
        (fire_legal rules node key (suc c) (new_mark (suc c)) T TakenBy panes newest put_cells after_putting (fine_in put_cells moved) commit.fire commit.pane_commits w t);
    only = panes_stand;
  }

  -- **one more commit keeps the history of a Group and key legal**
  pub history_after : IsLegalHistory rules node key new_mark (suc c) (all_taken node after_cells) (dropped ++ late) (panes ++ newest)
  history_after = commit_history rules node key mark new_mark c taken news (all_taken node after_cells) dropped late panes newest history adds

  -- ---- what stood, and what stands

  stood_was : (d : ℕ) → d ≤ c → Stands rules new_mark (arrives (all_taken node after_cells)) d ≡ Stands rules mark (arrives taken) d
  stood_was = stood_old rules mark new_mark c taken news (all_taken node after_cells) commit.marks_same moved_fired history.taken_commits news_commits

  stands_now : Stands rules new_mark (arrives (all_taken node after_cells)) (suc c) ≡ (λ w. After rules mark c taken news w)
  stands_now = stood_new rules mark new_mark c taken news (all_taken node after_cells) commit.marks_same moved_fired history.taken_commits news_commits

  from_was : (d : ℕ) → d ≤ c → (w : Interval) → Stands rules mark (arrives taken) d w → Stands rules new_mark (arrives (all_taken node after_cells)) d w
  from_was d early w h = subst (λ (P : Interval → Type 0). P w) (sym (stood_was d early)) h

  to_was : (d : ℕ) → d ≤ c → (w : Interval) → Stands rules new_mark (arrives (all_taken node after_cells)) d w → Stands rules mark (arrives taken) d w
  to_was d early w h = subst (λ (P : Interval → Type 0). P w) (stood_was d early) h

  from_now : (w : Interval) → T w → Stands rules new_mark (arrives (all_taken node after_cells)) (suc c) w
  from_now w h = subst (λ (P : Interval → Type 0). P w) (sym stands_now) h

  to_now : (w : Interval) → Stands rules new_mark (arrives (all_taken node after_cells)) (suc c) w → T w
  to_now w h = subst (λ (P : Interval → Type 0). P w) stands_now h

  taken_first : (w into : Interval) → TakenBy w into → IsTakenFirst rules new_mark (all_taken node after_cells) (suc c) w into
  taken_first w into (inl t) = record {
    c = t.c;
    within = omega (arith, t.within);
    stood = from_was t.c (omega (arith, t.within)) w t.stood;
    stands_no_more = λ h. t.stands_no_more (to_was (suc t.c) t.within w h);
    stands = from_was (suc t.c) t.within into t.stands;
    lies = t.lies;
  }
  taken_first w into (inr t) = record {
    c = c;
    within = omega arith;
    stood = from_was c (omega arith) w t.0;
    stands_no_more = λ h. t.1 (to_now w h);
    stands = from_now into t.2;
    lies = t.3;
  }

  ends_so : (w : Interval) (kept : List Entry) (o : Option Interval) → (T w → map (taken_entry node) kept ≡ filter (belongs rules w) (all_taken node after_cells)) → KeepsEntries rules.merges T T TakenBy w kept o
      → HasEntries rules node new_mark (suc c) (all_taken node after_cells) w kept o
  ends_so w kept None own h = (from_now w h.0, bag_from_same (map (taken_entry node) kept) (filter (belongs rules w) (all_taken node after_cells)) (own h.0))
  ends_so w kept (Some into) own h = ((λ t. h.0 (to_now w t)), h.1, taken_first w into h.2)

  more_cells : (w : Interval) → count_by (has_window w) cells ≤ count_by (has_window w) after_cells
  more_cells w =
      let a = all_opened_more rules (mark c) node openings w cells in
      let b = all_put_count (has_window w) (λ cell kept. refl) rules entries opened_cells in
      let d = fire_count rules node key (suc c) (new_mark (suc c)) T TakenBy panes newest put_cells after_putting (fine_in put_cells moved) commit.fire commit.pane_commits (λ o u. same_span u w) in
      omega arith

  -- **one more commit keeps the cells of a Group and key legal**
  pub cells_after : AreLegalCells rules node new_mark (suc c) (all_taken node after_cells) (panes ++ newest) after_cells
  cells_after = record {
    has = λ k d within. ends_so (get_or after_cells k d).span (get_or after_cells k d).entries (get_or after_cells k d).merged_into
        (λ t. own_entries rules node (suc c) T TakenBy (get_or after_cells k d).span t after_cells after_fired.has (fine_in after_cells moved_fired) after_fired.once k d within (span_itself (get_or after_cells k d).span))
        (after_fired.has k d within);
    tells = after_fired.tells;
    once = after_fired.once;
    ever = λ d w early stood. elim (cases_lt d (suc c)) [
      | inl before ↦ let some = legal.ever d w (omega arith) (to_was d (omega arith) w stood) in omega (arith, more_cells w)
      | inr last ↦
          let is : d ≡ suc c = omega arith in
          let t = to_now w (subst (λ (n : ℕ). Stands rules new_mark (arrives (all_taken node after_cells)) n w) is stood) in
          counted_more (stands_as w) (has_window w) (λ cell. Unit {0}) (λ cell u on. (and_parts (is_standing cell.merged_into) (has_window w cell) on).1) after_cells (λ k e inside. tt) (after_fired.every w t)
    ];
  }
