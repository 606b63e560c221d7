-- Sessions: a round keeps that the windows that can still merge are apart, and that each window has one cell.
use Rattle.std.proofs.Common.{◌≡◌, ◌⊎◌, inl, inr, ℕ, ◌≤◌, ℤ, ◌≤ℤ◌, ◌<ℤ◌, Bool, true, false, cond, List, [], ◌∷◌, ◌++◌, map, get_or, refl, sym, ap, subst, ◌∙◌, arith}
use Rattle.std.specs.Prelude.{◌&&◌, not, Contains}
use Rattle.std.specs.List.{All, count_by, filter, flat_map, list_any}
use Rattle.std.proofs.lemmas.Bool.{cases_Bool, and_parts, and_from, not-true}
use Rattle.std.proofs.lemmas.Int.{ints}
use Rattle.std.proofs.lemmas.List.Elements.{All-head, All-tail, All-contains, All-contains_itself, All-map, All-weaker, Contains-append_cases, Contains-append_left, filter_passes}
use Rattle.beam_values.specs.Firing.{is_expired}
use Rattle.beam_values.specs.Intervals.{Interval}
use Rattle.beam_values.specs.Sessions.{IsApart, IsNonEmpty, IsSessionOf, LiesIn}
use Rattle.beam_values.specs.Spans.{same_span, lies_in}
use Rattle.beam_values.specs.declared.cell.Cell.{Cell}
use Rattle.beam_values.specs.declared.cell.Pane.{Pane}
use Rattle.beam_values.specs.declared.element.Element.{Element}
use Rattle.beam_values.specs.declared.value.Value.{Value}
use Rattle.beam_values.proofs.Sessions.{one_or_apart}
use Rattle.beam_model.specs.Panes.{GroupRules}
use Rattle.session_merge.proofs.Lists.{all_of}
use Rattle.group_cells.specs.Placing.{Opening, fresh_cell, handed_over, is_absorbed, is_standing, once_opened, opened, opened_all, stands_as}
use Rattle.group_cells.specs.Rounds.{AreWindowsFor, IsRound, is_in_time, is_open, open_windows}
use Rattle.group_cells.specs.Sane.{AreAllApart, AreOnce, HasTaker, stands_round}
use Rattle.group_cells.proofs.Counting.{count_none, count-append, count_one, count_same, counted_has, any_counted, none_any, All-unmap}
use Rattle.group_cells.proofs.KeptTakers.{opened_takers, round_shapes}
use Rattle.group_cells.proofs.OpenedCells.{has_window, left_span}
use Rattle.group_cells.proofs.Shapes.{once_alike, open_alike}
use Rattle.group_cells.proofs.StillOpen.{ends_later, open_fewer, open_has, open_says, opened_from}
use Rattle.group_cells.proofs.WindowTests.{same_interval, span_itself, span_sound, lies_from, lies_test}

-- ---- windows that lie in each other, or are apart

around_apart : (s t : Interval) → s.start <ℤ s.end → LiesIn s t → IsApart t s → ⊥
around_apart s t some lies apart = omega (arith, ints)

around_each : (s t : Interval) → LiesIn s t → LiesIn t s → t ≡ s
around_each s t in_ out = same_interval t s (omega (arith, ints)) (omega (arith, ints))

apart_back : (a b : Interval) → IsApart a b → IsApart b a
apart_back a b (inl first) = inr first
apart_back a b (inr second) = inl second

one_back : (a b : Interval) → (a ≡ b) ⊎ IsApart a b → (b ≡ a) ⊎ IsApart b a
one_back a b (inl same) = inl (sym same)
one_back a b (inr apart) = inr (apart_back a b apart)

-- ---- the windows of a commit, while its sessions are opened one after another

module _ (rules : GroupRules) (before : ℤ) (node : ℕ) (open_ own : List Interval) (merges : rules.merges ≡ true)
    (in_time : (w : Interval) → Contains (open_ ++ own) w → is_expired rules.trigger w.end before ≡ false) where
  abbrev Session : Interval → Type 0
  Session w = IsSessionOf (Contains (open_ ++ own)) w

  -- a window that could merge before, or a session
  abbrev IsKnown : Interval → Type 0
  IsKnown w = Contains open_ w ⊎ IsSessionOf (Contains (open_ ++ own)) w

  -- a known window and a session lie in each other, or are apart
  beside : (s w : Interval) → Session s → IsKnown w → LiesIn w s ⊎ IsApart w s
  beside s w session (inl was) = session.apart w (Contains-left w was)
    where
      Contains-left : (w : Interval) → Contains open_ w → Contains (open_ ++ own) w
      Contains-left w was = Contains-append_left open_ own w was
  beside s w session (inr also) = elim (one_or_apart (Contains (open_ ++ own)) w s also session) [
    | inl same ↦ inl (subst (λ (v : Interval). LiesIn w v) same (omega (arith, ints), omega (arith, ints)))
    | inr apart ↦ inr apart
  ]

  session_in_time : (s : Interval) → Session s → is_expired rules.trigger s.end before ≡ false
  session_in_time s session = subst (λ (e : ℤ). is_expired rules.trigger e before ≡ false) session.ends.2 (in_time session.ends.0 session.ends.1)

  -- what isn't absorbed by a session is it, or is apart from it
  meets : (s w : Interval) → Session s → IsKnown w → is_expired rules.trigger w.end before ≡ false → is_absorbed rules before s w ≡ false → (w ≡ s) ⊎ IsApart w s
  meets s w session known timely off = elim (beside s w session known) [
    | inl lies ↦ elim (cases_Bool (same_span w s)) [
      | inl same ↦ inl (span_sound w s same)
      | inr other ↦
          let on : is_absorbed rules before s w ≡ true =
          and_from rules.merges (not (is_expired rules.trigger w.end before) && (lies_in w s && not (same_span w s))) merges
          (and_from (not (is_expired rules.trigger w.end before)) (lies_in w s && not (same_span w s)) (ap not timely)
          (and_from (lies_in w s) (not (same_span w s)) (lies_test w s lies) (ap not other))) in
          let no : true ≡ false = sym on ∙ off in absurd (cc)
    ]
    | inr apart ↦ inr apart
  ]

  record AreKnown (cells : List Cell) : Type 0 where
    known : (w : Interval) → Contains (open_windows rules before cells) w → IsKnown w

  record ArePairsApart (cells : List Cell) : Type 0 where
    each : (a b : Interval) → Contains (open_windows rules before cells) a → Contains (open_windows rules before cells) b → (a ≡ b) ⊎ IsApart a b

  known_more : (cells : List Cell) (o : Opening) → Session o.span → AreKnown cells → AreKnown (opened rules before node cells o)
  known_more cells o session were = record {
    known = λ w at. elim (opened_from rules before node o cells w at) [ inl old ↦ were.known w old.0 | inr same ↦ inr (subst Session (sym same) session) ];
  }

  apart_more : (cells : List Cell) (o : Opening) → Session o.span → AreKnown cells → ArePairsApart cells → ArePairsApart (opened rules before node cells o)
  apart_more cells o session were apart = by (list_any (stands_as o.span) cells) refl
    where
      from : (w : Interval) → Contains (open_windows rules before (opened rules before node cells o)) w
          → (Contains (open_windows rules before cells) w × (list_any (stands_as o.span) cells ≡ false → is_absorbed rules before o.span w ≡ false)) ⊎ (w ≡ o.span)
      from = opened_from rules before node o cells

      there : list_any (stands_as o.span) cells ≡ true → opened rules before node cells o ≡ cells
      there e = ap (λ b. cond b cells (map (once_opened rules before o.span) cells ++ fresh_cell node o.key o.span (flat_map (handed_over rules before o.span) cells) ∷ [])) e

      by : (b : Bool) → list_any (stands_as o.span) cells ≡ b → ArePairsApart (opened rules before node cells o)
      by true e = subst ArePairsApart (sym (there e)) apart
      by false e = record {
        each = λ a b p q. elim (from a p) [
          | inl old ↦ elim (from b q) [
            | inl also ↦ apart.each a b old.0 also.0
            | inr same ↦ subst (λ (v : Interval). (a ≡ v) ⊎ IsApart a v) (sym same) (meets o.span a session (were.known a old.0) (open_says rules before cells a old.0).1 (old.1 e))
          ]
          | inr same ↦ elim (from b q) [
            | inl also ↦
                subst (λ (v : Interval). (v ≡ b) ⊎ IsApart v b) (sym same)
                (one_back b o.span (meets o.span b session (were.known b also.0) (open_says rules before cells b also.0).1 (also.1 e)))
            | inr both ↦ inl (same ∙ sym both)
          ]
        ];
      }

  abbrev AllSessions : List Opening → Type 0
  AllSessions openings = All (λ (o : Opening). IsSessionOf (Contains (open_ ++ own)) o.span) openings

  all_known : (openings : List Opening) → AllSessions openings → (cells : List Cell) → AreKnown cells → AreKnown (opened_all rules before node openings cells)
  all_known [] sessions cells were = were
  all_known (o ∷ openings) sessions cells were =
      all_known openings (All-tail Session_of o openings sessions) (opened rules before node cells o) (known_more cells o (All-head Session_of o openings sessions) were)
    where
      Session_of : Opening → Type 0
      Session_of o = IsSessionOf (Contains (open_ ++ own)) o.span

  all_pairs : (openings : List Opening) → AllSessions openings → (cells : List Cell) → AreKnown cells → ArePairsApart cells → ArePairsApart (opened_all rules before node openings cells)
  all_pairs [] sessions cells were apart = apart
  all_pairs (o ∷ openings) sessions cells were apart =
      all_pairs openings (All-tail Session_of o openings sessions) (opened rules before node cells o) (known_more cells o (All-head Session_of o openings sessions) were)
      (apart_more cells o (All-head Session_of o openings sessions) were apart)
    where
      Session_of : Opening → Type 0
      Session_of o = IsSessionOf (Contains (open_ ++ own)) o.span

  -- ---- no cell that was merged has the window of a session

  none_merged : (cells : List Cell) (s : Interval) → Session s → AreKnown cells → All (HasTaker rules cells) cells → list_any (stands_as s) cells ≡ false → All (λ cell. has_window s cell ≡ false) cells
  none_merged cells s session were takers none k d within = by (has_window s (get_or cells k d)) refl (is_standing (get_or cells k d).merged_into) refl
    where
      off : All (λ cell. stands_as s cell ≡ false) cells
      off = none_any (stands_as s) cells none

      around : (t : Cell) → Contains cells t → LiesIn s t.span → is_standing t.merged_into ≡ true → ⊥
      around t at lies stands =
          let timely = ends_later rules.trigger before s.end t.span.end lies.1 (session_in_time s session) in
          let opens : is_open rules before t ≡ true = and_from (is_standing t.merged_into) (not (is_expired rules.trigger t.span.end before)) stands (ap not timely) in
          elim (beside s t.span session (were.known t.span (open_has rules before cells t at opens))) [
            | inl out ↦
                let same = around_each s t.span lies out in
                let on : stands_as s t ≡ true = and_from (is_standing t.merged_into) (same_span t.span s) stands (ap (λ (v : Interval). same_span v s) same ∙ span_itself s) in
                let no : true ≡ false = sym on ∙ All-contains (λ cell. stands_as s cell ≡ false) cells t off at in absurd (cc)
            | inr apart ↦ around_apart s t.span session.ordered lies apart
          ]

      by : (h : Bool) → has_window s (get_or cells k d) ≡ h → (b : Bool) → is_standing (get_or cells k d).merged_into ≡ b → has_window s (get_or cells k d) ≡ false
      by false e b f = e
      by true e true f =
          let on : stands_as s (get_or cells k d) ≡ true = and_from (is_standing (get_or cells k d).merged_into) (has_window s (get_or cells k d)) f e in
          let no : true ≡ false = sym on ∙ off k d within in absurd (cc)
      by true e false f =
          let merged = takers k d within f in
          let same = span_sound (get_or cells k d).span s e in
          absurd (counted_has (stands_round (get_or cells k d).span) (Contains cells) ⊥ cells (any_counted (stands_round (get_or cells k d).span) cells merged.taker) (All-contains_itself cells)
          (λ t on at. let parts = and_parts (is_standing t.merged_into) (lies_in (get_or cells k d).span t.span) on in
          around t at (subst (λ (v : Interval). LiesIn v t.span) same (lies_from (get_or cells k d).span t.span parts.1)) parts.0))

-- ---- one cell for each window

once_more : (rules : GroupRules) (before : ℤ) (node : ℕ) (o : Opening) (cells : List Cell) → (list_any (stands_as o.span) cells ≡ false → All (λ cell. has_window o.span cell ≡ false) cells)
    → AreOnce cells → AreOnce (opened rules before node cells o)
once_more rules before node o cells clear once w = by (list_any (stands_as o.span) cells) refl
  where
    fresh : Cell
    fresh = fresh_cell node o.key o.span (flat_map (handed_over rules before o.span) cells)

    by : (b : Bool) → list_any (stands_as o.span) cells ≡ b → count_by (has_window w) (cond b cells (map (once_opened rules before o.span) cells ++ fresh ∷ [])) ≤ 1
    by true e = once w
    by false e =
        let counted = count-append (has_window w) (map (once_opened rules before o.span) cells) (fresh ∷ []) in
        let same = count_same (once_opened rules before o.span) (has_window w) (has_window w) (left_span rules before o.span w) cells in
        elim (cases_Bool (same_span o.span w)) [
          | inl on ↦
              let none : count_by (has_window w) cells ≡ 0 =
              subst (λ (u : Interval). count_by (has_window u) cells ≡ 0) (span_sound o.span w on) (count_none (has_window o.span) cells (clear e)) in
              omega (arith, (count_one (has_window w) fresh).0 on)
          | inr off ↦ omega (arith, once w, (count_one (has_window w) fresh).1 off)
        ]

module _ (rules : GroupRules) (node : ℕ) (key : Value) (c : ℕ) (before after : ℤ) (arrivals : List Element) (cells new : List Cell) (fired : List Pane)
    (round : IsRound rules node key c before after arrivals cells new fired) where
  abbrev windows : List Interval
  windows = open_windows rules before cells

  abbrev own_windows : List Interval
  own_windows = map (λ e. e.span) (filter (is_in_time rules before) arrivals)

  in_time : (w : Interval) → Contains (open_windows rules before cells ++ map (λ e. e.span) (filter (is_in_time rules before) arrivals)) w → is_expired rules.trigger w.end before ≡ false
  in_time w at = elim (Contains-append_cases windows own_windows w at) [
    | inl was ↦ (open_says rules before cells w was).1
    | inr came ↦
        All-contains (λ (v : Interval). is_expired rules.trigger v.end before ≡ false) own_windows w
        (All-map (λ (v : Interval). is_expired rules.trigger v.end before ≡ false) (λ (e : Element). e.span) (filter (is_in_time rules before) arrivals)
        (All-weaker (λ (e : Element). is_in_time rules before e ≡ true) (λ (e : Element). is_expired rules.trigger e.span.end before ≡ false)
        (λ e on. not-true (is_expired rules.trigger e.span.end before) on) (filter (is_in_time rules before) arrivals) (filter_passes (is_in_time rules before) arrivals))) came
  ]

  sessions : rules.merges ≡ true → All (λ (o : Opening). IsSessionOf (Contains (open_windows rules before cells ++ map (λ e. e.span) (filter (is_in_time rules before) arrivals))) o.span) round.openings
  sessions merges =
      let over = subst (λ (b : Bool). AreWindowsFor b (map (λ e. e.span) (filter (is_in_time rules before) arrivals)) (open_windows rules before cells) (map (λ opening. opening.span) round.openings)) merges round.windows in
      All-unmap_spans (IsSessionOf (Contains (windows ++ own_windows))) round.openings over.each
    where
      All-unmap_spans : (P : Interval → Type 0) (openings : List Opening) → All P (map (λ opening. opening.span) openings) → All (λ (o : Opening). P o.span) openings
      All-unmap_spans P openings all = All-unmap P (λ (o : Opening). o.span) openings all

  were_known : (merges : rules.merges ≡ true) → AreKnown rules before node windows own_windows merges in_time cells
  were_known merges = record { known = λ w at. inl at }

  known_opened : (merges : rules.merges ≡ true) → AreKnown rules before node windows own_windows merges in_time (opened_all rules before node round.openings cells)
  known_opened merges = all_known rules before node windows own_windows merges in_time round.openings (sessions merges) cells (were_known merges)

  -- **a round keeps them apart**
  pub round_apart : before ≤ℤ after → rules.merges ≡ true → AreAllApart (open_windows rules before cells) → AreAllApart (open_windows rules after new)
  round_apart rise merges apart =
      let pairs = all_pairs rules before node windows own_windows merges in_time round.openings (sessions merges) cells (were_known merges) (record { each = apart.each }) in
      record {
        some = all_of IsNonEmpty (open_windows rules after new) (λ w at. elim ((known_opened merges).known w (back w at)) [ inl was ↦ All-contains IsNonEmpty windows w apart.some was | inr session ↦ session.ordered ]);
        each = λ a b p q. pairs.each a b (back a p) (back b q);
      }
    where
      opened_cells : List Cell
      opened_cells = opened_all rules before node round.openings cells

      back : (w : Interval) → Contains (open_windows rules after new) w → Contains (open_windows rules before (opened_all rules before node round.openings cells)) w
      back w at =
          open_fewer rules before after rise (opened_all rules before node round.openings cells) w
          (subst (λ (l : List Interval). Contains l w) (open_alike (opened_all rules before node round.openings cells) new (round_shapes rules node key c before after arrivals cells new fired round) rules after) at)

  -- ---- and each window has one cell

  once_sessions : (merges : rules.merges ≡ true) → (openings : List Opening)
      → All (λ (o : Opening). IsSessionOf (Contains (open_windows rules before cells ++ map (λ e. e.span) (filter (is_in_time rules before) arrivals))) o.span) openings
      → (xs : List Cell) → AreKnown rules before node windows own_windows merges in_time xs → All (HasTaker rules xs) xs → AreOnce xs → AreOnce (opened_all rules before node openings xs)
  once_sessions merges [] all xs known takers once = once
  once_sessions merges (o ∷ openings) all xs known takers once =
      let session = All-head (λ (o : Opening). IsSessionOf (Contains (windows ++ own_windows)) o.span) o openings all in
      once_sessions merges openings (All-tail (λ (o : Opening). IsSessionOf (Contains (windows ++ own_windows)) o.span) o openings all) (opened rules before node xs o)
      (known_more rules before node windows own_windows merges in_time xs o session known) (opened_takers rules before node o xs takers)
      (once_more rules before node o xs (none_merged rules before node windows own_windows merges in_time xs o.span session known takers) once)

  once_unmerged : rules.merges ≡ false → (openings : List Opening) (xs : List Cell) → All (HasTaker rules xs) xs → AreOnce xs → AreOnce (opened_all rules before node openings xs)
  once_unmerged off [] xs takers once = once
  once_unmerged off (o ∷ openings) xs takers once =
      once_unmerged off openings (opened rules before node xs o) (opened_takers rules before node o xs takers) (once_more rules before node o xs clear once)
    where
      clear : list_any (stands_as o.span) xs ≡ false → All (λ cell. has_window o.span cell ≡ false) xs
      clear none k d within = by (is_standing (get_or xs k d).merged_into) refl
        where
          by : (b : Bool) → is_standing (get_or xs k d).merged_into ≡ b → has_window o.span (get_or xs k d) ≡ false
          by true e = sym (ap (λ b. b && has_window o.span (get_or xs k d)) e) ∙ none_any (stands_as o.span) xs none k d within
          by false e = let merged = takers k d within e in let no : true ≡ false = sym merged.merges ∙ off in absurd (cc)

  -- **a round opens no window twice**
  pub round_once : All (HasTaker rules cells) cells → AreOnce cells → AreOnce new
  round_once takers once =
      once_alike (opened_all rules before node round.openings cells) new (round_shapes rules node key c before after arrivals cells new fired round) (by rules.merges refl)
    where
      by : (b : Bool) → rules.merges ≡ b → AreOnce (opened_all rules before node round.openings cells)
      by true merges = once_sessions merges round.openings (sessions merges) cells (were_known merges) takers once
      by false off = once_unmerged off round.openings cells takers once
