-- One more commit keeps the history of a Group and key legal.
use Rattle.std.proofs.Common.{◌≡◌, inl, inr, ℕ, zero, suc, ◌+◌, ◌≤◌, ◌==◌, ℤ, Bool, true, false, cond, List, [], ◌∷◌, ◌++◌, map, get_or, refl, sym, ap, subst, ◌∙◌, arith}
use Rattle.std.specs.Prelude.{nat_lt, nat_le, ◌&&◌, Option, Some, None}
use Rattle.std.specs.List.{All, count_by, filter, list_any}
use Rattle.std.proofs.lemmas.Bool.{cases_lt, and_left, and_right, ne_eqb, eq-eqb}
use Rattle.std.proofs.lemmas.Bool.Decides.{nat_tests}
use Rattle.std.proofs.lemmas.List.Elements.{All-head, All-tail, All-append, All-weaker}
use Rattle.beam_values.specs.Bags.{IsSameBag}
use Rattle.beam_values.specs.Firing.{firing}
use Rattle.beam_values.specs.Grouping.{part_of}
use Rattle.beam_values.specs.Intervals.{Interval}
use Rattle.beam_values.specs.Sessions.{LiesIn}
use Rattle.beam_values.specs.Spans.{same_span}
use Rattle.beam_values.specs.declared.value.Value.{Value}
use Rattle.beam_values.specs.declared.element.Timing.{Timing}
use Rattle.beam_values.specs.declared.cell.Pane.{Pane}
use Rattle.beam_values.specs.declared.plan.Mode.{Mode}
use Rattle.beam_values.specs.declared.plan.Mode.TheVariants.{Discarding, Accumulating}
use Rattle.beam_values.proofs.Bags.{bag_count, bag_filter, bag_map, bag_trans, bag_sym, bag_from_same}
use Rattle.beam_model.specs.Panes.{Taken, GroupRules, is_late, arrives, StandsNext, Stands, belongs, is_unseen, is_of_window, is_on_time_of, held, IsPaneOf, IsFiredAs, IsFired, entries_upto, panes_before, panes_in, IsCommit, IsLegalHistory}
use Rattle.group_cells.proofs.Counting.{filter_where, count_none, none_counted, count-append, filter_all, filter_left, filter_right}

-- what fires depends on the bag of the entries alone
fired_as_moved : (node : ℕ) (key : Value) (c : ℕ) (w : Interval) (index : ℕ) (xs ys : List Taken) (timing : Option Timing) (newest : List Pane)
    → IsSameBag xs ys → IsFiredAs node key c w index xs timing newest → IsFiredAs node key c w index ys timing newest
fired_as_moved node key c w index xs ys None newest same h = h
fired_as_moved node key c w index xs ys (Some timing) newest same h = (h.0, h.1, pane_moved h.0 h.2)
  where
    pane_moved : (pane : Pane) → IsPaneOf node key c w timing index xs pane → IsPaneOf node key c w timing index ys pane
    pane_moved pane is = record {
      parts = is.parts;
      holds = is.holds;
      keyed = is.keyed;
      ascending = is.ascending;
      all = bag_trans is.parts (map (λ e. part_of e.element) xs) (map (λ e. part_of e.element) ys) is.all (bag_map (λ e. part_of e.element) xs ys same);
      here = is.here;
      commit = is.commit;
    }

held_moved : (mode : Mode) (rules : GroupRules) (earlier : List Pane) (xs ys : List Taken) → IsSameBag xs ys → IsSameBag (held mode rules earlier xs) (held mode rules earlier ys)
held_moved Discarding rules earlier xs ys same = bag_filter (is_unseen rules earlier) xs ys same
held_moved Accumulating rules earlier xs ys same = same

pub fired_moved : (rules : GroupRules) (node : ℕ) (key : Value) (c : ℕ) (m : ℤ) (w : Interval) (xs ys : List Taken) (earlier newest : List Pane)
    → IsSameBag xs ys → IsFired rules node key c m w xs earlier newest → IsFired rules node key c m w ys earlier newest
fired_moved rules node key c m w xs ys earlier newest same h =
    let unseen : count_by (is_unseen rules earlier) xs ≡ count_by (is_unseen rules earlier) ys = bag_count (is_unseen rules earlier) xs ys same in
    subst (λ (n : ℕ). IsFiredAs node key c w (count_by (is_of_window w) earlier) (held rules.trigger.mode rules earlier ys)
    (firing rules.trigger w.end m (list_any (is_on_time_of w) earlier) n) newest) unseen
    (fired_as_moved node key c w (count_by (is_of_window w) earlier) (held rules.trigger.mode rules earlier xs) (held rules.trigger.mode rules earlier ys)
    (firing rules.trigger w.end m (list_any (is_on_time_of w) earlier) (count_by (is_unseen rules earlier) xs)) newest
    (held_moved rules.trigger.mode rules earlier xs ys same) h)

abbrev pub Arrives : List Taken → ℕ → Interval → Type 0
Arrives taken c w = arrives taken c w ≡ true

abbrev at : ℕ → Interval → Taken → Bool
at d w e = e.commit == d && same_span e.element.span w

-- a later commit leaves unchanged which windows stood after the commits before
module _ (rules : GroupRules) (mark new_mark : ℕ → ℤ) (c : ℕ) (taken news all : List Taken)
    (marks_same : (i : ℕ) → i ≤ c → new_mark i ≡ mark i) (moved : IsSameBag all (taken ++ news))
    (old_commits : count_by (λ e. nat_lt c e.commit) taken ≡ 0) (new_commits : All (λ e. e.commit ≡ suc c) news) where
  counted : (d : ℕ) (w : Interval) → count_by (at d w) all ≡ count_by (at d w) taken + count_by (at d w) news
  counted d w = bag_count (at d w) all (taken ++ news) moved ∙ count-append (at d w) taken news

  not_at : (d n : ℕ) (e : Taken) → (e.commit ≡ d → ⊥) → (w : Interval) → at d w e ≡ false
  not_at d n e other w = and_left (e.commit == d) (same_span e.element.span w) (ne_eqb e.commit d other)

  arrives_old : (d : ℕ) → d ≤ c → arrives all d ≡ arrives taken d
  arrives_old d early = λ i w. nat_le 1 (same w i)
    where
      same : (w : Interval) → count_by (at d w) all ≡ count_by (at d w) taken
      same w =
          let none = count_none (at d w) news (All-weaker (λ e. e.commit ≡ suc c) (λ e. at d w e ≡ false) (λ e h. not_at d c e (λ k. omega arith) w) news new_commits) in
          omega (arith, counted d w)

  arrives_new : arrives all (suc c) ≡ arrives news (suc c)
  arrives_new = λ i w. nat_le 1 (same w i)
    where
      same : (w : Interval) → count_by (at (suc c) w) all ≡ count_by (at (suc c) w) news
      same w =
          let none = count_none (at (suc c) w) taken (All-weaker (λ e. nat_lt c e.commit ≡ false) (λ e. at (suc c) w e ≡ false) (λ e h. not_at (suc c) c e (λ k. grind (arith, nat_tests)) w) taken (none_counted (λ e. nat_lt c e.commit) taken old_commits)) in
          omega (arith, counted (suc c) w)

  pub stood_old : (d : ℕ) → d ≤ c → Stands rules new_mark (arrives all) d ≡ Stands rules mark (arrives taken) d
  stood_old zero early = refl
  stood_old (suc d) early =
      let marks = marks_same d (omega arith) in
      let stood = stood_old d (omega arith) in
      let more = arrives_old (suc d) early in
      λ i w. StandsNext rules (marks i) (stood i) (λ v. more i v ≡ true) w

  pub stood_new : Stands rules new_mark (arrives all) (suc c) ≡ (λ w. StandsNext rules (mark c) (Stands rules mark (arrives taken) c) (λ v. arrives news (suc c) v ≡ true) w)
  stood_new =
      let marks = marks_same c (omega arith) in
      let stood = stood_old c (omega arith) in
      λ i w. StandsNext rules (marks i) (stood i) (λ v. arrives_new i v ≡ true) w

-- what stands after a commit, by what stood and what arrived
abbrev pub After : GroupRules → (ℕ → ℤ) → ℕ → List Taken → List Taken → Interval → Type 0
After rules mark c taken news w = StandsNext rules (mark c) (Stands rules mark (arrives taken) c) (Arrives news (suc c)) w

-- what commit c + 1 adds: it brings `news`, drops `late`, and fires `newest`; `all` is all that was taken by then
pub record CommitAdds (rules : GroupRules) (node : ℕ) (key : Value) (mark new_mark : ℕ → ℤ) (c : ℕ) (taken news all late : List Taken) (panes newest : List Pane) : Type 0 where
  pub marks_same : (i : ℕ) → i ≤ c → new_mark i ≡ mark i
  pub moved : IsSameBag all (taken ++ news)
  pub new_commits : All (λ e. e.commit ≡ suc c) news
  pub new_kept : All (λ e. is_late rules mark (suc c) e.element.span ≡ false) news
  pub late_commits : All (λ e. e.commit ≡ suc c) late
  pub new_late : All (λ e. is_late rules mark (suc c) e.element.span ≡ true) late
  pub pane_commits : All (λ p. p.commit ≡ suc c) newest
  pub onward : (v : Interval) → Stands rules mark (arrives taken) c v → (w : Interval) × After rules mark c taken news w × LiesIn v w
  pub placed : (v : Interval) → Arrives news (suc c) v → (w : Interval) × After rules mark c taken news w × LiesIn v w
  pub fired : (w : Interval) → After rules mark c taken news w → IsFired rules node key (suc c) (new_mark (suc c)) w (filter (belongs rules w) all) panes (filter (is_of_window w) newest)
  pub only : All (λ p. After rules mark c taken news p.element.span) newest

late_same : (rules : GroupRules) (mark new_mark : ℕ → ℤ) (c d : ℕ) → ((i : ℕ) → i ≤ c → new_mark i ≡ mark i) → d ≤ suc c → (own : Interval) → is_late rules new_mark d own ≡ is_late rules mark d own
late_same rules mark new_mark c zero same early own = refl
late_same rules mark new_mark c (suc d) same early own = ap (λ m. is_late rules (λ i. m) (suc d) own) (same d (omega arith))

module _ (rules : GroupRules) (node : ℕ) (key : Value) (mark new_mark : ℕ → ℤ) (c : ℕ) (taken news all dropped late : List Taken) (panes newest : List Pane)
    (old : IsLegalHistory rules node key mark c taken dropped panes) (adds : CommitAdds rules node key mark new_mark c taken news all late panes newest) where
  earlier_commits : All (λ e. nat_lt c e.commit ≡ false) taken
  earlier_commits = none_counted (λ e. nat_lt c e.commit) taken old.taken_commits

  stands_old : (d : ℕ) → d ≤ c → Stands rules new_mark (arrives all) d ≡ Stands rules mark (arrives taken) d
  stands_old = stood_old rules mark new_mark c taken news all adds.marks_same adds.moved old.taken_commits adds.new_commits

  stands_new : Stands rules new_mark (arrives all) (suc c) ≡ After rules mark c taken news
  stands_new = stood_new rules mark new_mark c taken news all adds.marks_same adds.moved old.taken_commits adds.new_commits

  stands_old_at : (d : ℕ) → d ≤ c → (w : Interval) → Stands rules mark (arrives taken) d w ≡ Stands rules new_mark (arrives all) d w
  stands_old_at d early w = λ i. sym (stands_old d early) i w

  stands_new_at : (w : Interval) → After rules mark c taken news w ≡ Stands rules new_mark (arrives all) (suc c) w
  stands_new_at w = λ i. sym stands_new i w

  upto_old : (d : ℕ) → d ≤ c → (w : Interval) → IsSameBag (entries_upto rules w d taken) (entries_upto rules w d all)
  upto_old d early w =
      bag_sym (entries_upto rules w d all) (entries_upto rules w d taken)
      (bag_trans (entries_upto rules w d all) (entries_upto rules w d (taken ++ news)) (entries_upto rules w d taken) (bag_filter (λ e. belongs rules w e && nat_le e.commit d) all (taken ++ news) adds.moved)
      (bag_from_same (entries_upto rules w d (taken ++ news)) (entries_upto rules w d taken) (filter_left (λ e. belongs rules w e && nat_le e.commit d) taken news
      (All-weaker (λ e. e.commit ≡ suc c) (λ e. (belongs rules w e && nat_le e.commit d) ≡ false) (λ e h. and_right (belongs rules w e) (nat_le e.commit d) (grind (arith, nat_tests))) news adds.new_commits))))

  upto_all : (w : Interval) → IsSameBag (filter (belongs rules w) all) (entries_upto rules w (suc c) all)
  upto_all w =
      bag_from_same (filter (belongs rules w) all) (entries_upto rules w (suc c) all)
      (filter_where (belongs rules w) (λ e. belongs rules w e && nat_le e.commit (suc c)) all (λ k d within. and_last (belongs rules w (get_or all k d)) _ (nat_le_from _ _ (commits k d within))))
    where
      and_last : (a b : Bool) → b ≡ true → a ≡ (a && b)
      and_last true b e = sym e
      and_last false b e = refl

      nat_le_from : (a b : ℕ) → nat_lt b a ≡ false → nat_le a b ≡ true
      nat_le_from a b h = grind (arith, nat_tests)

      commits : All (λ e. nat_lt (suc c) e.commit ≡ false) all
      commits = none_counted (λ e. nat_lt (suc c) e.commit) all
          (bag_count (λ e. nat_lt (suc c) e.commit) all (taken ++ news) adds.moved
          ∙ count_none (λ e. nat_lt (suc c) e.commit) (taken ++ news)
          (All-append (λ e. nat_lt (suc c) e.commit ≡ false) taken news
          (All-weaker (λ e. nat_lt c e.commit ≡ false) (λ e. nat_lt (suc c) e.commit ≡ false) (λ e h. grind (arith, nat_tests)) taken earlier_commits)
          (All-weaker (λ e. e.commit ≡ suc c) (λ e. nat_lt (suc c) e.commit ≡ false) (λ e h. grind (arith, nat_tests)) news adds.new_commits)))

  earlier_old : (d : ℕ) → d ≤ suc c → panes_before d (panes ++ newest) ≡ panes_before d panes
  earlier_old d early = filter_left (λ p. nat_lt p.commit d) panes newest (All-weaker (λ p. p.commit ≡ suc c) (λ p. nat_lt p.commit d ≡ false) (λ p h. grind (arith, nat_tests)) newest adds.pane_commits)

  earlier_all : panes_before (suc c) panes ≡ panes
  earlier_all = filter_all (λ p. nat_lt p.commit (suc c)) panes (All-weaker (λ p. IsCommit c p.commit) (λ p. nat_lt p.commit (suc c) ≡ true) (λ p h. grind (arith, nat_tests, h.1)) panes old.pane_commits)

  in_old : (d : ℕ) → d ≤ c → (w : Interval) → panes_in d w (panes ++ newest) ≡ panes_in d w panes
  in_old d early w =
      filter_left (λ p. p.commit == d && is_of_window w p) panes newest
      (All-weaker (λ p. p.commit ≡ suc c) (λ p. (p.commit == d && is_of_window w p) ≡ false) (λ p h. and_left (p.commit == d) (is_of_window w p) (ne_eqb p.commit d (λ k. omega arith))) newest adds.pane_commits)

  in_new : (w : Interval) → panes_in (suc c) w (panes ++ newest) ≡ filter (is_of_window w) newest
  in_new w =
      filter_right (λ p. p.commit == suc c && is_of_window w p) panes newest
      (All-weaker (λ p. IsCommit c p.commit) (λ p. (p.commit == suc c && is_of_window w p) ≡ false) (λ p h. and_left (p.commit == suc c) (is_of_window w p) (ne_eqb p.commit (suc c) (λ k. omega (arith, h.1)))) panes old.pane_commits)
      ∙ each newest adds.pane_commits
    where
      each : (xs : List Pane) → All (λ p. p.commit ≡ suc c) xs → filter (λ p. p.commit == suc c && is_of_window w p) xs ≡ filter (is_of_window w) xs
      each [] h = refl
      each (x ∷ xs) h =
          ap (λ b. cond (b && is_of_window w x) (x ∷ filter (λ p. p.commit == suc c && is_of_window w p) xs) (filter (λ p. p.commit == suc c && is_of_window w p) xs)) (eq-eqb x.commit (suc c) (All-head (λ p. p.commit ≡ suc c) x xs h))
          ∙ ap (λ l. cond (is_of_window w x) (x ∷ l) l) (each xs (All-tail (λ p. p.commit ≡ suc c) x xs h))

  fired_old : (d : ℕ) (w : Interval) → IsCommit c d → Stands rules mark (arrives taken) d w → IsFired rules node key d (new_mark d) w (entries_upto rules w d all) (panes_before d (panes ++ newest)) (panes_in d w (panes ++ newest))
  fired_old d w at stands =
      subst (λ (m : ℤ). IsFired rules node key d m w (entries_upto rules w d all) (panes_before d (panes ++ newest)) (panes_in d w (panes ++ newest))) (sym (adds.marks_same d at.1))
      (subst (λ (l : List Pane). IsFired rules node key d (mark d) w (entries_upto rules w d all) l (panes_in d w (panes ++ newest))) (sym (earlier_old d (omega (arith, at.1))))
      (subst (λ (l : List Pane). IsFired rules node key d (mark d) w (entries_upto rules w d all) (panes_before d panes) l) (sym (in_old d at.1 w))
      (fired_moved rules node key d (mark d) w (entries_upto rules w d taken) (entries_upto rules w d all) (panes_before d panes) (panes_in d w panes) (upto_old d at.1 w) (old.fired d w at.0 at.1 stands))))

  fired_new : (w : Interval) → After rules mark c taken news w → IsFired rules node key (suc c) (new_mark (suc c)) w (entries_upto rules w (suc c) all) (panes_before (suc c) (panes ++ newest)) (panes_in (suc c) w (panes ++ newest))
  fired_new w stands =
      subst (λ (l : List Pane). IsFired rules node key (suc c) (new_mark (suc c)) w (entries_upto rules w (suc c) all) l (panes_in (suc c) w (panes ++ newest))) (sym (earlier_old (suc c) (omega arith) ∙ earlier_all))
      (subst (λ (l : List Pane). IsFired rules node key (suc c) (new_mark (suc c)) w (entries_upto rules w (suc c) all) panes l) (sym (in_new w))
      (fired_moved rules node key (suc c) (new_mark (suc c)) w (filter (belongs rules w) all) (entries_upto rules w (suc c) all) panes (filter (is_of_window w) newest) (upto_all w) (adds.fired w stands)))

  -- the history with one more commit
  pub commit_history : IsLegalHistory rules node key new_mark (suc c) all (dropped ++ late) (panes ++ newest)
  commit_history = record {
    kept = bag_count (λ e. is_late rules new_mark e.commit e.element.span) all (taken ++ news) adds.moved
        ∙ count_none (λ e. is_late rules new_mark e.commit e.element.span) (taken ++ news)
        (All-append (λ e. is_late rules new_mark e.commit e.element.span ≡ false) taken news
        (λ k d within. late_same rules mark new_mark c (get_or taken k d).commit adds.marks_same (low _ (earlier_commits k d within)) (get_or taken k d).element.span ∙ none_counted (λ e. is_late rules mark e.commit e.element.span) taken old.kept k d within)
        (λ k d within. ap (λ n. is_late rules new_mark n (get_or news k d).element.span) (adds.new_commits k d within) ∙ late_same rules mark new_mark c (suc c) adds.marks_same (omega arith) (get_or news k d).element.span ∙ adds.new_kept k d within));
    late = All-append (λ e. is_late rules new_mark e.commit e.element.span ≡ true) dropped late
        (λ k d within. late_same rules mark new_mark c (get_or dropped k d).commit adds.marks_same (omega (arith, (old.dropped_commits k d within).1)) (get_or dropped k d).element.span ∙ old.late k d within)
        (λ k d within. ap (λ n. is_late rules new_mark n (get_or late k d).element.span) (adds.late_commits k d within) ∙ late_same rules mark new_mark c (suc c) adds.marks_same (omega arith) (get_or late k d).element.span ∙ adds.new_late k d within);
    taken_commits = bag_count (λ e. nat_lt (suc c) e.commit) all (taken ++ news) adds.moved
        ∙ count_none (λ e. nat_lt (suc c) e.commit) (taken ++ news)
        (All-append (λ e. nat_lt (suc c) e.commit ≡ false) taken news
        (All-weaker (λ e. nat_lt c e.commit ≡ false) (λ e. nat_lt (suc c) e.commit ≡ false) (λ e h. grind (arith, nat_tests)) taken earlier_commits)
        (All-weaker (λ e. e.commit ≡ suc c) (λ e. nat_lt (suc c) e.commit ≡ false) (λ e h. grind (arith, nat_tests)) news adds.new_commits));
    dropped_commits = All-append (λ e. IsCommit (suc c) e.commit) dropped late
        (All-weaker (λ e. IsCommit c e.commit) (λ e. IsCommit (suc c) e.commit) (λ e h. (h.0, omega (arith, h.1))) dropped old.dropped_commits)
        (All-weaker (λ e. e.commit ≡ suc c) (λ e. IsCommit (suc c) e.commit) (λ e h. (omega arith, omega arith)) late adds.late_commits);
    pane_commits = All-append (λ p. IsCommit (suc c) p.commit) panes newest
        (All-weaker (λ p. IsCommit c p.commit) (λ p. IsCommit (suc c) p.commit) (λ p h. (h.0, omega (arith, h.1))) panes old.pane_commits)
        (All-weaker (λ p. p.commit ≡ suc c) (λ p. IsCommit (suc c) p.commit) (λ p h. (omega arith, omega arith)) newest adds.pane_commits);
    onward = λ d within v stands. elim (cases_lt d c) [
      | inl early ↦
          let to = old.onward d early v (subst (λ (A : Type 0). A) (sym (stands_old_at d (omega arith) v)) stands) in
          (to.0, subst (λ (A : Type 0). A) (stands_old_at (suc d) early to.0) to.1, to.2)
      | inr last ↦
          let is : d ≡ c = omega arith in
          let to = adds.onward v (subst (λ (A : Type 0). A) (sym (stands_old_at c (omega arith) v)) (subst (λ (n : ℕ). Stands rules new_mark (arrives all) n v) is stands)) in
          (to.0, subst (λ (n : ℕ). Stands rules new_mark (arrives all) (suc n) to.0) (sym is) (subst (λ (A : Type 0). A) (stands_new_at to.0) to.1), to.2)
    ];
    placed = λ d within v arrived. elim (cases_lt c d) [
      | inl last ↦
          let is : d ≡ suc c = omega arith in
          let to = adds.placed v (subst (λ (b : Interval → Bool). b v ≡ true) (arrives_new rules mark new_mark c taken news all adds.marks_same adds.moved old.taken_commits adds.new_commits) (subst (λ (n : ℕ). arrives all n v ≡ true) is arrived)) in
          (to.0, subst (λ (n : ℕ). Stands rules new_mark (arrives all) n to.0) (sym is) (subst (λ (A : Type 0). A) (stands_new_at to.0) to.1), to.2)
      | inr early ↦
          let to = old.placed d early v (subst (λ (b : Interval → Bool). b v ≡ true) (arrives_old rules mark new_mark c taken news all adds.marks_same adds.moved old.taken_commits adds.new_commits d early) arrived) in
          (to.0, subst (λ (A : Type 0). A) (stands_old_at d early to.0) to.1, to.2)
    ];
    fired = λ d w from within stands. elim (cases_lt c d) [
      | inl last ↦
          let is : suc c ≡ d = omega arith in
          subst (λ (n : ℕ). IsFired rules node key n (new_mark n) w (entries_upto rules w n all) (panes_before n (panes ++ newest)) (panes_in n w (panes ++ newest))) is
          (fired_new w (subst (λ (A : Type 0). A) (sym (stands_new_at w)) (subst (λ (n : ℕ). Stands rules new_mark (arrives all) n w) (sym is) stands)))
      | inr early ↦ fired_old d w (from, early) (subst (λ (A : Type 0). A) (sym (stands_old_at d early w)) stands)
    ];
    only = All-append (λ p. Stands rules new_mark (arrives all) p.commit p.element.span) panes newest
        (λ k d within. subst (λ (A : Type 0). A) (stands_old_at (get_or panes k d).commit (old.pane_commits k d within).1 (get_or panes k d).element.span) (old.only k d within))
        (λ k d within. subst (λ (n : ℕ). Stands rules new_mark (arrives all) n (get_or newest k d).element.span) (sym (adds.pane_commits k d within)) (subst (λ (A : Type 0). A) (stands_new_at (get_or newest k d).element.span) (adds.only k d within)));
  }
    where
      low : (n : ℕ) → nat_lt c n ≡ false → n ≤ suc c
      low n h = grind (arith, nat_tests)
