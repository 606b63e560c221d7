-- The panes of a Group of sessions, at the end of a run, are the plain grouping of what it took, each in the session that its window became part of.
use Rattle.std.proofs.Common.{◌≡◌, inl, inr, ℕ, zero, suc, ◌-◌, ◌<◌, ◌≤◌, min, ℤ, Bool, true, false, cond, List, [], ◌∷◌, length, get_or, map, refl, sym, ap, ap₂, subst, ◌∙◌, arith}
use Rattle.std.specs.Prelude.{◌==◌, ◌&&◌, ◌≤ℤ◌, Contains, bytes_eq, nat_le}
use Rattle.std.specs.Ordering.{int_eq}
use Rattle.std.specs.List.{All, AllByRecursion, count_by, filter, sum_by}
use Rattle.std.proofs.lemmas.Bool.{and_parts, and_from, cases_lt}
use Rattle.std.proofs.lemmas.Bool.Decides.{Decides-int_eq, nat_tests}
use Rattle.std.proofs.lemmas.List.Elements.{All-filter, All-from_recursion, All-map, filter_passes, recursion_from_All}
use Rattle.std.proofs.lemmas.List.Sums.{sum_by-cons}
use Rattle.std.proofs.lemmas.Slice.Eq.{bytes_eq-Decides}
use Rattle.beam_values.specs.Bags.{IsSameBag}
use Rattle.beam_values.specs.Grouping.{IsPlainGrouping, IsPlainPane, is_in_cell, key_of, part_of}
use Rattle.beam_values.specs.Intervals.{Interval}
use Rattle.beam_values.specs.Sessions.{IsNonEmpty, IsSession, IsSessionOf, LiesIn}
use Rattle.beam_values.specs.Spans.{lies_in}
use Rattle.beam_values.specs.Spelling.{spelling}
use Rattle.beam_values.specs.Times.{final_mark}
use Rattle.beam_values.specs.declared.cell.Pane.{Pane}
use Rattle.beam_values.specs.declared.element.Element.{Element}
use Rattle.beam_values.specs.declared.value.Value.{Value}
use Rattle.beam_values.proofs.Bags.{bag_trans, sum_by-filter, sum_by-map}
use Rattle.beam_values.proofs.Sessions.{one_that_holds, session_from_contained, session_moved}
use Rattle.beam_model.specs.Panes.{IsLegalHistory, Taken, is_at_key, is_of_window, is_pane_at_key, panes_at, taken_at}
use Rattle.beam_model.specs.Plans.{default_trigger}
use Rattle.beam_model.specs.Sessions.{IsMergedIn, IsMerging, Merged, in_session, is_keyed}
use Rattle.group_cells.proofs.Counting.{count_member}
use Rattle.group_cells.proofs.WindowTests.{lies_from, lies_test, same_interval, span_sound}
use Rattle.book_core.proofs.Through.{passes_have}
use Rattle.ended_runs.proofs.Grouped.{lift_node, pane_elements, sum_alike, sum_at, taken_elements}
use Rattle.ended_runs.proofs.Passing.{all_fired, all_in_time, from_count, once_fired, passing}
use Rattle.ended_runs.proofs.SessionKeys.{ArrivedBy, IsFinal, covered, final_fires, key_whole, pane_final}
use Rattle.ended_runs.proofs.SessionsStay.{first_lies}

-- ---- lists

contains_map : {X Y : Type 0} (f : X → Y) (xs : List X) (k : ℕ) (d : X) (y : Y) → k < length xs → f (get_or xs k d) ≡ y → Contains (map f xs) y
contains_map f [] k d y inside is = absurd (omega arith)
contains_map f (x ∷ xs) zero d y inside is = (0, omega arith, is)
contains_map f (x ∷ xs) (suc k) d y inside is = let at = contains_map f xs k d y (omega (arith, inside)) is in (suc at.0, omega (arith, at.1), at.2)

map_contains : {X Y : Type 0} (f : X → Y) (xs : List X) (y : Y) → Contains (map f xs) y → (k : ℕ) × (d : X) × (k < length xs) × (f (get_or xs k d) ≡ y)
map_contains f [] y at = absurd (never at.1)
  where
    never : {n : ℕ} → n < 0 → ⊥
    never h = omega (arith, h)
map_contains f (x ∷ xs) y (zero, inside, is) = (0, x, omega arith, is)
map_contains f (x ∷ xs) y (suc k, inside, is) = let at = map_contains f xs y (k, omega (arith, inside), is) in (suc at.0, at.1, omega (arith, at.2), at.3)

both_ways : (a b : Bool) → (a ≡ true → b ≡ true) → (b ≡ true → a ≡ true) → a ≡ b
both_ways true b to from = sym (to refl)
both_ways false true to from = from refl
both_ways false false to from = refl

nested : (a b c : Bool) (n : ℕ) → cond a (cond (b && c) n 0) 0 ≡ cond (a && b) (cond c n 0) 0
nested true true c n = refl
nested true false c n = refl
nested false b c n = refl

least_one : (a b : ℕ) → a ≤ 1 → (1 ≤ b → 1 ≤ a) → (1 ≤ a → 1 ≤ b) → a ≡ min 1 b
least_one a zero low to from = elim (cases_lt 0 a) [ inl some ↦ let no = from some in absurd (omega (arith, no)) | inr none ↦ let z : a ≡ 0 = omega (arith, none) in z ]
least_one a (suc b) low to from = let some = to (omega arith) in let one : a ≡ 1 = omega (arith, some, low) in one ∙ grind (arith, nat_tests)

module _ (node : ℕ) (mark : ℕ → ℤ) (last : ℕ) (taken dropped : List Taken) (panes : List Pane)
    (histories : (key : Value) → IsLegalHistory (record { merges = true; trigger = default_trigger }) node key mark last (taken_at node key taken) (taken_at node key dropped) (panes_at node key panes))
    (rises : (a b : ℕ) → a ≤ b → b ≤ last → mark a ≤ℤ mark b) (final : mark last ≡ final_mark) (early : All (λ t. t.element.span.end ≤ℤ final_mark) taken)
    (timely : All (λ t. (t.node == node) ≡ true → mark (t.commit - 1) ≤ℤ t.element.span.start) taken)
    (some : All (λ t. (t.node == node) ≡ true → IsNonEmpty t.element.span) taken) where
  at_node : (key : Value) (P : Taken → Type 0) → All (λ t. (t.node == node) ≡ true → P t) taken → All P (taken_at node key taken)
  at_node key P all k d inside =
      All-filter (is_at_key node key) (λ t. (t.node == node) ≡ true → P t) taken all k d inside
      (and_parts ((get_or (taken_at node key taken) k d).node == node) (is_keyed key (get_or (taken_at node key taken) k d).element) (filter_passes (is_at_key node key) taken k d inside)).0

  key_timely : (key : Value) → All (λ t. mark (t.commit - 1) ≤ℤ t.element.span.start) (taken_at node key taken)
  key_timely key = at_node key (λ t. mark (t.commit - 1) ≤ℤ t.element.span.start) timely

  key_some : (key : Value) → All (λ t. IsNonEmpty t.element.span) (taken_at node key taken)
  key_some key = at_node key (λ t. IsNonEmpty t.element.span) some

  key_early : (key : Value) → All (λ t. t.element.span.end ≤ℤ final_mark) (taken_at node key taken)
  key_early key = All-filter (is_at_key node key) (λ t. t.element.span.end ≤ℤ final_mark) taken early

  -- the own windows of a key, by its spelling
  abbrev pub own_spans : List ℕ → List Interval
  own_spans ks = map (λ t. t.element.span) (filter (λ t. t.node == node && bytes_eq (spelling (key_of t.element)) ks) taken)

  -- one of their sessions
  abbrev pub IsEnd : List ℕ → Interval → Type 0
  IsEnd ks w = IsSessionOf (Contains (own_spans ks)) w

  abbrev IsFinalOf : Value → Interval → Type 0
  IsFinalOf key w = IsFinal node key mark last (taken_at node key taken) (taken_at node key dropped) (panes_at node key panes) (histories key) rises (key_timely key) (key_some key) w

  abbrev ArrivedOfKey : Value → Interval → Type 0
  ArrivedOfKey key s = ArrivedBy node key mark last (taken_at node key taken) (taken_at node key dropped) (panes_at node key panes) (histories key) rises (key_timely key) (key_some key) last s

  arrived_own : (key : Value) (s : Interval) → ArrivedOfKey key s → Contains (own_spans (spelling key)) s
  arrived_own key s arrived = contains_map (λ (t : Taken). t.element.span) (taken_at node key taken) arrived.k arrived.d s arrived.inside arrived.is

  own_arrived : (key : Value) (s : Interval) → Contains (own_spans (spelling key)) s → ArrivedOfKey key s
  own_arrived key s own =
      let at = map_contains (λ (t : Taken). t.element.span) (taken_at node key taken) s own in
      record {
        k = at.0;
        d = at.1;
        inside = at.2;
        within = (all_in_time true node key mark last (taken_at node key taken) (taken_at node key dropped) (panes_at node key panes) (histories key) rises at.0 at.1 at.2).within;
        is = at.3;
      }

  final_end : (key : Value) (w : Interval) → IsFinalOf key w → IsEnd (spelling key) w
  final_end key w session = session_moved (ArrivedOfKey key) (Contains (own_spans (spelling key))) w (arrived_own key) (own_arrived key) session

  end_final : (key : Value) (w : Interval) → IsEnd (spelling key) w → IsFinalOf key w
  end_final key w session = session_moved (Contains (own_spans (spelling key))) (ArrivedOfKey key) w (own_arrived key) (arrived_own key) session

  own_some : (key : Value) (s : Interval) → Contains (own_spans (spelling key)) s → IsNonEmpty s
  own_some key s own =
      let at = map_contains (λ (t : Taken). t.element.span) (taken_at node key taken) s own in
      subst IsNonEmpty at.3 (key_some key at.0 at.1 at.2)

  -- ---- each element in its session

  pub record Placed (t : Taken) : Type 0 where
    pub session : Interval
    pub end : IsEnd (spelling (key_of t.element)) session
    pub lies : LiesIn t.element.span session
    pub nonempty : IsNonEmpty t.element.span

  key_placed : (key : Value) → All Placed (taken_at node key taken)
  key_placed key k d inside =
      let t = get_or (taken_at node key taken) k d in
      let at = covered node key mark last (taken_at node key taken) (taken_at node key dropped) (panes_at node key panes) (histories key) rises (key_timely key) (key_some key) k d inside in
      let own : spelling (key_of t.element) ≡ spelling key =
      (bytes_eq-Decides (spelling (key_of t.element)) (spelling key)).0 (and_parts (t.node == node) (is_keyed key t.element) (filter_passes (is_at_key node key) taken k d inside)).1 in
      record {
        session = at.0;
        end = subst (λ (ks : List ℕ). IsEnd ks at.0) (sym own) (final_end key at.0 at.2);
        lies = at.3;
        nonempty = key_some key k d inside;
      }

  abbrev here : List Taken
  here = filter (λ t. t.node == node) taken

  all_placed : All Placed (filter (λ t. t.node == node) taken)
  all_placed k d inside =
      let at = filter_passes (λ (t : Taken). t.node == node) taken k d inside in
      All-filter (λ (t : Taken). t.node == node) (λ (t : Taken). (t.node == node) ≡ true → Placed t) taken
      (λ j e within is. passes_have (is_at_key node (key_of (get_or taken j e).element)) Placed taken (key_placed (key_of (get_or taken j e).element)) j e within
      (and_from ((get_or taken j e).node == node) (bytes_eq (spelling (key_of (get_or taken j e).element)) (spelling (key_of (get_or taken j e).element))) is
      ((bytes_eq-Decides (spelling (key_of (get_or taken j e).element)) (spelling (key_of (get_or taken j e).element))).1 refl)))
      k d inside at

  pub placed : AllByRecursion Placed (filter (λ t. t.node == node) taken)
  placed = recursion_from_All Placed (filter (λ t. t.node == node) taken) all_placed

  abbrev pub merged_of : (xs : List Taken) → AllByRecursion Placed xs → List Merged
  merged_of [] ps = []
  merged_of (t ∷ ts) ps = record { element = t.element; session = ps.0.session } ∷ merged_of ts ps.1

  those_of : (xs : List Taken) (ps : AllByRecursion Placed xs) → map (λ t. t.element) xs ≡ map (λ m. m.element) (merged_of xs ps)
  those_of [] ps = refl
  those_of (t ∷ ts) ps = ap (λ (l : List Element). t.element ∷ l) (those_of ts ps.1)

  spans_same : (ks : List ℕ) (xs : List Taken)
      → map (λ t. t.element.span) (filter (λ t. t.node == node && bytes_eq (spelling (key_of t.element)) ks) xs)
      ≡ map (λ e. e.span) (filter (λ e. bytes_eq (spelling (key_of e)) ks) (map (λ t. t.element) (filter (λ t. t.node == node) xs)))
  spans_same ks [] = refl
  spans_same ks (t ∷ ts) = by (t.node == node) (bytes_eq (spelling (key_of t.element)) ks) refl (spans_same ks ts)
    where
      rest : List Interval
      rest = map (λ t. t.element.span) (filter (λ t. t.node == node && bytes_eq (spelling (key_of t.element)) ks) ts)

      by : (a b : Bool) → bytes_eq (spelling (key_of t.element)) ks ≡ b
          → map (λ t. t.element.span) (filter (λ t. t.node == node && bytes_eq (spelling (key_of t.element)) ks) ts)
          ≡ map (λ e. e.span) (filter (λ e. bytes_eq (spelling (key_of e)) ks) (map (λ t. t.element) (filter (λ t. t.node == node) ts)))
          → map (λ t. t.element.span) (cond (a && b) (t ∷ filter (λ t. t.node == node && bytes_eq (spelling (key_of t.element)) ks) ts) (filter (λ t. t.node == node && bytes_eq (spelling (key_of t.element)) ks) ts))
          ≡ map (λ e. e.span) (filter (λ e. bytes_eq (spelling (key_of e)) ks) (map (λ t. t.element) (cond a (t ∷ filter (λ t. t.node == node) ts) (filter (λ t. t.node == node) ts))))
      by true b e same =
          inner b same
          ∙ sym (ap (λ (c : Bool). map (λ (x : Element). x.span) (cond c (t.element ∷ filter (λ x. bytes_eq (spelling (key_of x)) ks) (map (λ t. t.element) (filter (λ t. t.node == node) ts)))
          (filter (λ x. bytes_eq (spelling (key_of x)) ks) (map (λ t. t.element) (filter (λ t. t.node == node) ts))))) e)
        where
          inner : (c : Bool)
              → map (λ t. t.element.span) (filter (λ t. t.node == node && bytes_eq (spelling (key_of t.element)) ks) ts)
              ≡ map (λ e. e.span) (filter (λ e. bytes_eq (spelling (key_of e)) ks) (map (λ t. t.element) (filter (λ t. t.node == node) ts)))
              → map (λ t. t.element.span) (cond c (t ∷ filter (λ t. t.node == node && bytes_eq (spelling (key_of t.element)) ks) ts) (filter (λ t. t.node == node && bytes_eq (spelling (key_of t.element)) ks) ts))
              ≡ map (λ (x : Element). x.span) (cond c (t.element ∷ filter (λ x. bytes_eq (spelling (key_of x)) ks) (map (λ t. t.element) (filter (λ t. t.node == node) ts)))
              (filter (λ x. bytes_eq (spelling (key_of x)) ks) (map (λ t. t.element) (filter (λ t. t.node == node) ts))))
          inner true same = ap (λ (l : List Interval). t.element.span ∷ l) same
          inner false same = same
      by false b e same = same

  each_merged : (xs : List Taken) (ps : AllByRecursion Placed xs) → AllByRecursion (IsMergedIn (taken_elements node taken)) (merged_of xs ps)
  each_merged [] ps = tt
  each_merged (t ∷ ts) ps = (
    (
      subst (λ (l : List Interval). IsSession l ps.0.session) (spans_same (spelling (key_of t.element)) taken) (session_from_contained (own_spans (spelling (key_of t.element))) ps.0.session ps.0.end),
      ps.0.lies,
    ),
    each_merged ts ps.1,
  )

  abbrev pub sessioned : List Element
  sessioned = map in_session (merged_of (filter (λ t. t.node == node) taken) placed)

  pub merging : IsMerging (taken_elements node taken) (map in_session (merged_of (filter (λ t. t.node == node) taken) placed))
  merging = record {
    merged = merged_of (filter (λ t. t.node == node) taken) placed;
    those = those_of (filter (λ t. t.node == node) taken) placed;
    each = All-from_recursion (IsMergedIn (taken_elements node taken)) (merged_of (filter (λ t. t.node == node) taken) placed) (each_merged (filter (λ t. t.node == node) taken) placed);
    moved = refl;
  }

  -- ---- sums over what is merged

  sum_merged : (f : Element → ℕ) (h : Taken → ℕ) → ((t : Taken) (p : Placed t) → f (record t.element { span = p.session }) ≡ h t) → (xs : List Taken) (ps : AllByRecursion Placed xs)
      → sum_by f (map in_session (merged_of xs ps)) ≡ sum_by h xs
  sum_merged f h same [] ps = refl
  sum_merged f h same (t ∷ ts) ps =
      omega (
        arith,
        sum_by-cons f (record t.element { span = ps.0.session }) (map in_session (merged_of ts ps.1)),
        sum_by-cons h t ts,
        same t ps.0,
        sum_merged f h same ts ps.1,
      )

  some_merged : (test : Element → Bool) (Q : Type 0) → ((t : Taken) (p : Placed t) → test (record t.element { span = p.session }) ≡ true → Q) → (xs : List Taken) (ps : AllByRecursion Placed xs)
      → 1 ≤ count_by test (map in_session (merged_of xs ps)) → Q
  some_merged test Q found [] ps many = absurd (omega (arith, many))
  some_merged test Q found (t ∷ ts) ps many = by (test (record t.element { span = ps.0.session })) refl (some_merged test Q found ts ps.1)
    where
      by : (b : Bool) → test (record t.element { span = ps.0.session }) ≡ b → (1 ≤ count_by test (map in_session (merged_of ts ps.1)) → Q) → Q
      by true e onward = found t ps.0 e
      by false e onward =
          let none : cond {A = ℕ} (test (record t.element { span = ps.0.session })) 1 0 ≡ 0 = ap (λ (b : Bool). cond {A = ℕ} b 1 0) e in
          onward (omega (arith, many, none, sum_by-cons (λ (x : Element). cond {A = ℕ} (test x) 1 0) (record t.element { span = ps.0.session }) (map in_session (merged_of ts ps.1))))

  -- an element's session is one of a key exactly where it has the key and its own window lies in that
  in_end : (key : Value) (w : Interval) → IsEnd (spelling key) w → (t : Taken) (p : Placed t) → is_in_cell key w (record t.element { span = p.session }) ≡ (is_keyed key t.element && lies_in t.element.span w)
  in_end key w end t p = both_ways (is_in_cell key w (record t.element { span = p.session })) (is_keyed key t.element && lies_in t.element.span w) to from
    where
      moved : p.session ≡ w → LiesIn t.element.span w
      moved same = subst (LiesIn t.element.span) same p.lies

      to : is_in_cell key w (record t.element { span = p.session }) ≡ true → (is_keyed key t.element && lies_in t.element.span w) ≡ true
      to member =
          let outer = and_parts (is_keyed key t.element && int_eq p.session.start w.start) (int_eq p.session.end w.end) member in
          let inner = and_parts (is_keyed key t.element) (int_eq p.session.start w.start) outer.0 in
          let same = same_interval p.session w ((Decides-int_eq p.session.start w.start).0 inner.1) ((Decides-int_eq p.session.end w.end).0 outer.1) in
          and_from (is_keyed key t.element) (lies_in t.element.span w) inner.0 (lies_test t.element.span w (moved same))

      from : (is_keyed key t.element && lies_in t.element.span w) ≡ true → is_in_cell key w (record t.element { span = p.session }) ≡ true
      from member =
          let parts = and_parts (is_keyed key t.element) (lies_in t.element.span w) member in
          let own : spelling (key_of t.element) ≡ spelling key = (bytes_eq-Decides (spelling (key_of t.element)) (spelling key)).0 parts.0 in
          let same : p.session ≡ w =
          one_that_holds (Contains (own_spans (spelling key))) t.element.span p.session w p.nonempty p.lies (lies_from t.element.span w parts.1) (subst (λ (ks : List ℕ). IsEnd ks p.session) own p.end) end in
          and_from (is_keyed key t.element && int_eq p.session.start w.start) (int_eq p.session.end w.end)
          (and_from (is_keyed key t.element) (int_eq p.session.start w.start) parts.0 ((Decides-int_eq p.session.start w.start).1 (ap (λ (v : Interval). v.start) same)))
          ((Decides-int_eq p.session.end w.end).1 (ap (λ (v : Interval). v.end) same))

  -- what is in a session of a key
  sum_cell : (key : Value) (w : Interval) → IsEnd (spelling key) w → (f : Element → ℕ) → ((e : Element) (v : Interval) → f (record e { span = v }) ≡ f e)
      → sum_by (λ e. cond (is_in_cell key w e) (f e) 0) (map in_session (merged_of (filter (λ t. t.node == node) taken) placed))
      ≡ sum_by (λ t. cond (lies_in t.element.span w) (f t.element) 0) (taken_at node key taken)
  sum_cell key w end f still =
      sum_merged (λ e. cond (is_in_cell key w e) (f e) 0) (λ t. cond (is_keyed key t.element && lies_in t.element.span w) (f t.element) 0)
      (λ t p. ap₂ (λ (b : Bool) (n : ℕ). cond b n 0) (in_end key w end t p) (still t.element p.session)) (filter (λ t. t.node == node) taken) placed
      ∙ sum_by-filter (λ (t : Taken). cond (is_keyed key t.element && lies_in t.element.span w) (f t.element) 0) (λ t. t.node == node) taken
      ∙ sum_alike (λ (t : Taken). cond (t.node == node) (cond (is_keyed key t.element && lies_in t.element.span w) (f t.element) 0) 0)
      (λ t. cond (is_at_key node key t) (cond (lies_in t.element.span w) (f t.element) 0) 0)
      (λ t. nested (t.node == node) (is_keyed key t.element) (lies_in t.element.span w) (f t.element)) taken
      ∙ sym (sum_by-filter (λ (t : Taken). cond (lies_in t.element.span w) (f t.element) 0) (is_at_key node key) taken)

  -- ---- panes

  pane_end : (key : Value) → All (λ p. IsEnd (spelling key) p.element.span) (panes_at node key panes)
  pane_end key k d inside =
      let fired = all_fired true node key mark last (taken_at node key taken) (taken_at node key dropped) (panes_at node key panes) (histories key) rises k d inside in
      final_end key (get_or (panes_at node key panes) k d).element.span
      (pane_final node key mark last (taken_at node key taken) (taken_at node key dropped) (panes_at node key panes) (histories key) rises (key_timely key) (key_some key)
      (get_or (panes_at node key panes) k d) fired)

  same_cell : (key : Value) (w : Interval) → IsEnd (spelling key) w → IsSameBag (map (λ t. part_of t.element) (filter (λ t. lies_in t.element.span w) (taken_at node key taken)))
      (map part_of (filter (is_in_cell key w) (map in_session (merged_of (filter (λ t. t.node == node) taken) placed))))
  same_cell key w end = record {
    weighs = λ f.
        sum_by-map f (λ (t : Taken). part_of t.element) (filter (λ t. lies_in t.element.span w) (taken_at node key taken))
        ∙ sum_by-filter (λ (t : Taken). f (part_of t.element)) (λ t. lies_in t.element.span w) (taken_at node key taken)
        ∙ sym (sum_cell key w end (λ e. f (part_of e)) (λ e v. refl))
        ∙ sym (sum_by-filter (λ e. f (part_of e)) (is_in_cell key w) (map in_session (merged_of (filter (λ t. t.node == node) taken) placed)))
        ∙ sym (sum_by-map f part_of (filter (is_in_cell key w) (map in_session (merged_of (filter (λ t. t.node == node) taken) placed))));
  }

  plain_pane : (key : Value) → All (λ p. IsPlainPane (map in_session (merged_of (filter (λ t. t.node == node) taken) placed)) p.element) (panes_at node key panes)
  plain_pane key k d inside =
      let p = get_or (panes_at node key panes) k d in
      let fired = all_fired true node key mark last (taken_at node key taken) (taken_at node key dropped) (panes_at node key panes) (histories key) rises k d inside in
      let whole = key_whole node key mark last (taken_at node key taken) (taken_at node key dropped) (panes_at node key panes) (histories key) rises (key_timely key) (key_some key) p fired in
      let own : spelling (key_of p.element) ≡ spelling key = (bytes_eq-Decides (spelling (key_of p.element)) (spelling key)).0 fired.is.keyed in
      let cells = map in_session (merged_of (filter (λ t. t.node == node) taken) placed) in
      record {
        parts = whole.parts;
        holds = whole.holds;
        ascending = whole.ascending;
        all = bag_trans whole.parts (map (λ t. part_of t.element) (filter (λ t. lies_in t.element.span p.element.span) (taken_at node key taken)))
            (map part_of (filter (is_in_cell (key_of p.element) p.element.span) cells)) whole.all
            (subst (λ (ks : List ℕ). IsSameBag (map (λ t. part_of t.element) (filter (λ t. lies_in t.element.span p.element.span) (taken_at node key taken)))
            (map part_of (filter (λ e. (bytes_eq (spelling (key_of e)) ks && int_eq e.span.start p.element.span.start) && int_eq e.span.end p.element.span.end) cells)))
            (sym own) (same_cell key p.element.span (pane_end key k d inside)));
      }

  count_panes : (key : Value) (w : Interval) → count_by (is_in_cell key w) (pane_elements node panes) ≡ count_by (is_of_window w) (panes_at node key panes)
  count_panes key w =
      sum_at (λ (p : Pane). p.node) (λ p. p.element) node (λ e. cond (is_in_cell key w e) 1 0) panes
      ∙ sum_alike (λ (p : Pane). cond (p.node == node) (cond (is_in_cell key w p.element) 1 0) 0) (λ p. cond (is_pane_at_key node key p) (cond (is_of_window w p) 1 0) 0)
      (λ p. four (p.node == node) (is_keyed key p.element) (int_eq p.element.span.start w.start) (int_eq p.element.span.end w.end)) panes
      ∙ sym (sum_by-filter (λ (p : Pane). cond (is_of_window w p) 1 0) (is_pane_at_key node key) panes)
    where
      four : (a b c d : Bool) → cond {A = ℕ} a (cond ((b && c) && d) 1 0) 0 ≡ cond (a && b) (cond (c && d) 1 0) 0
      four true true c d = refl
      four true false c d = refl
      four false b c d = refl

  once : (key : Value) (w : Interval) → count_by (is_of_window w) (panes_at node key panes) ≡ min 1 (count_by (is_in_cell key w) (map in_session (merged_of (filter (λ t. t.node == node) taken) placed)))
  once key w =
      least_one (count_by (is_of_window w) (panes_at node key panes)) (count_by (is_in_cell key w) (map in_session (merged_of (filter (λ t. t.node == node) taken) placed)))
      (once_fired true node key mark last (taken_at node key taken) (taken_at node key dropped) (panes_at node key panes) (histories key) rises w) to from
    where
      to : 1 ≤ count_by (is_in_cell key w) (map in_session (merged_of (filter (λ t. t.node == node) taken) placed)) → 1 ≤ count_by (is_of_window w) (panes_at node key panes)
      to many =
          some_merged (is_in_cell key w) (1 ≤ count_by (is_of_window w) (panes_at node key panes))
          (λ t p member.
          let outer = and_parts (is_keyed key t.element && int_eq p.session.start w.start) (int_eq p.session.end w.end) member in
          let inner = and_parts (is_keyed key t.element) (int_eq p.session.start w.start) outer.0 in
          let same = same_interval p.session w ((Decides-int_eq p.session.start w.start).0 inner.1) ((Decides-int_eq p.session.end w.end).0 outer.1) in
          let own : spelling (key_of t.element) ≡ spelling key = (bytes_eq-Decides (spelling (key_of t.element)) (spelling key)).0 inner.0 in
          let end : IsEnd (spelling key) w = subst (IsEnd (spelling key)) same (subst (λ (ks : List ℕ). IsEnd ks p.session) own p.end) in
          final_fires node key mark last (taken_at node key taken) (taken_at node key dropped) (panes_at node key panes) (histories key) rises (key_timely key) (key_some key) final (key_early key) w
          (end_final key w end)) (filter (λ t. t.node == node) taken) placed many

      from : 1 ≤ count_by (is_of_window w) (panes_at node key panes) → 1 ≤ count_by (is_in_cell key w) (map in_session (merged_of (filter (λ t. t.node == node) taken) placed))
      from many = by (passing (is_of_window w) (panes_at node key panes) (from_count (is_of_window w) (panes_at node key panes) (test (count_by (is_of_window w) (panes_at node key panes)) many)))
        where
          test : (n : ℕ) → 1 ≤ n → nat_le 1 n ≡ true
          test n h = grind (arith, nat_tests)

          by : (k : ℕ) × (d : Pane) × (k < length (panes_at node key panes)) × (is_of_window w (get_or (panes_at node key panes) k d) ≡ true)
              → 1 ≤ count_by (is_in_cell key w) (map in_session (merged_of (filter (λ t. t.node == node) taken) placed))
          by (k, d, inside, passes) =
              let end : IsEnd (spelling key) w = subst (IsEnd (spelling key)) (span_sound (get_or (panes_at node key panes) k d).element.span w passes) (pane_end key k d inside) in
              let first = first_lies (Contains (own_spans (spelling key))) w (own_some key) end in
              let at = map_contains (λ (t : Taken). t.element.span) (taken_at node key taken) first.0 first.1 in
              let lies : lies_in (get_or (taken_at node key taken) at.0 at.1).element.span w ≡ true = lies_test (get_or (taken_at node key taken) at.0 at.1).element.span w (subst (λ (v : Interval). LiesIn v w) (sym at.3) first.2) in
              subst (λ (n : ℕ). 1 ≤ n) (sym (sum_cell key w end (λ e. 1) (λ e v. refl)))
              (count_member (λ (t : Taken). lies_in t.element.span w) (taken_at node key taken) at.0 at.1 at.2 lies)

  -- each key and session has one pane, with all its parts
  pub sessions_grouped : IsPlainGrouping (map in_session (merged_of (filter (λ t. t.node == node) taken) placed)) (pane_elements node panes)
  sessions_grouped = record {
    each = All-map (IsPlainPane (map in_session (merged_of (filter (λ t. t.node == node) taken) placed))) (λ (p : Pane). p.element) (filter (λ p. p.node == node) panes)
        (lift_node node panes (λ (p : Pane). IsPlainPane (map in_session (merged_of (filter (λ t. t.node == node) taken) placed)) p.element) plain_pane);
    once = λ key w. count_panes key w ∙ once key w;
  }
