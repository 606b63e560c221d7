-- The sessions over the windows that are near are those over all windows that are open.
use Rattle.std.proofs.Common.{◌≡◌, ◌⊎◌, inl, inr, ℕ, zero, suc, ◌+◌, ◌<◌, ℤ, ◌≤ℤ◌, ◌<ℤ◌, Bool, true, false, cond, List, [], ◌∷◌, ◌++◌, map, length, get_or, take, Some, refl, sym, ap, subst, ◌∙◌, arith}
use Rattle.std.specs.Prelude.{◌&&◌, Contains}
use Rattle.std.specs.BTreeMap.{BTreeMap}
use Rattle.std.specs.List.{All, filter, list_any}
use Rattle.std.proofs.lemmas.Bool.{and_from, and_parts, cases_Bool, false≢true, or_cases, or_left, or_right}
use Rattle.std.proofs.lemmas.Int.{by_lt_z, ints}
use Rattle.std.proofs.lemmas.List.{take_more}
use Rattle.std.proofs.lemmas.List.Elements.{All-append, All-contains, All-contains_itself, All-map, All-push, All-weaker, Contains-append_cases, Contains-append_left, Contains-append_right}
use Rattle.beam_values.specs.Firing.{is_expired}
use Rattle.beam_values.specs.Intervals.{Interval}
use Rattle.beam_values.specs.Sessions.{IsApart, IsNonEmpty, LiesIn, IsSessionOf}
use Rattle.beam_values.specs.Spans.{same_span}
use Rattle.beam_values.specs.declared.cell.Cell.{Cell}
use Rattle.beam_values.specs.declared.value.Value.{Value}
use Rattle.beam_model.specs.Panes.{GroupRules, is_cell_at_key}
use Rattle.group_cells.specs.KnownWindows.{opens, overlaps, window_at, AreListed, AreListedApart, AreMet, AreNear, IsWellApart}
use Rattle.group_cells.specs.Rounds.{is_open, open_windows, AreSessionsOver}
use Rattle.group_cells.specs.declared.groups.standing.Standing.{Standing}
use Rattle.group_cells.proofs.KnownCells.{opened_there}
use Rattle.group_cells.proofs.ListedWindows.{one_there}
use Rattle.group_cells.proofs.MetPlaces.{map_has}
use Rattle.group_cells.proofs.WindowTests.{apart_from, overlap_from, span_itself, span_sound}

-- ---- the windows that are open

module _ (rules : GroupRules) (mark : ℤ) (node : ℕ) (key : Value) where
  abbrev open_of : List Cell → List Interval
  open_of cells = open_windows rules mark (filter (is_cell_at_key node key) cells)

  abbrev is_here : Cell → Bool
  is_here cell = is_cell_at_key node key cell && is_open rules mark cell

  open_cons : (x : Cell) (xs : List Cell) → open_of (x ∷ xs) ≡ cond (is_here x) (x.span ∷ open_of xs) (open_of xs)
  open_cons x xs = by (is_cell_at_key node key x) (is_open rules mark x) refl
    where
      first : (o : Bool) → is_open rules mark x ≡ o → map (λ (cell : Cell). cell.span) (filter (is_open rules mark) (x ∷ filter (is_cell_at_key node key) xs)) ≡ cond o (x.span ∷ open_of xs) (open_of xs)
      first o e = ap (λ b. map (λ (cell : Cell). cell.span) (cond b (x ∷ filter (is_open rules mark) (filter (is_cell_at_key node key) xs)) (filter (is_open rules mark) (filter (is_cell_at_key node key) xs)))) e ∙ split o
        where
          split : (o : Bool) → map (λ (cell : Cell). cell.span) (cond o (x ∷ filter (is_open rules mark) (filter (is_cell_at_key node key) xs)) (filter (is_open rules mark) (filter (is_cell_at_key node key) xs)))
              ≡ cond o (x.span ∷ open_of xs) (open_of xs)
          split true = refl
          split false = refl

      by : (a o : Bool) → is_open rules mark x ≡ o
          → map (λ (cell : Cell). cell.span) (filter (is_open rules mark) (cond a (x ∷ filter (is_cell_at_key node key) xs) (filter (is_cell_at_key node key) xs)))
          ≡ cond (a && o) (x.span ∷ open_of xs) (open_of xs)
      by true o e = first o e
      by false o e = refl

  pub open_has : (cells : List Cell) (p : ℕ) (s : Interval) → opens rules mark node key cells p s ≡ true → Contains (open_windows rules mark (filter (is_cell_at_key node key) cells)) s
  open_has [] p s on = absurd (false≢true on)
  open_has (x ∷ xs) zero s on =
      let one = and_parts (is_cell_at_key node key x) (is_open rules mark x && same_span x.span s) on in
      let two = and_parts (is_open rules mark x) (same_span x.span s) one.1 in
      let here = and_from (is_cell_at_key node key x) (is_open rules mark x) one.0 two.0 in
      subst (λ (l : List Interval). Contains l s) (sym (open_cons x xs ∙ ap (λ b. cond b (x.span ∷ open_of xs) (open_of xs)) here))
      (subst (Contains (x.span ∷ open_of xs)) (span_sound x.span s two.1) (0, omega arith, refl))
  open_has (x ∷ xs) (suc p) s on = subst (λ (l : List Interval). Contains l s) (sym (open_cons x xs)) (by (is_here x) (open_has xs p s on))
    where
      by : (b : Bool) → Contains (open_of xs) s → Contains (cond b (x.span ∷ open_of xs) (open_of xs)) s
      by true c = Contains-append_right (x.span ∷ []) (open_of xs) s c
      by false c = c

  pub has_open : (cells : List Cell) (s : Interval) → Contains (open_windows rules mark (filter (is_cell_at_key node key) cells)) s → (p : ℕ) × (opens rules mark node key cells p s ≡ true)
  has_open [] s c = absurd (let less = c.1 in omega arith)
  has_open (x ∷ xs) s c = by (is_here x) refl (subst (λ (l : List Interval). Contains l s) (open_cons x xs) c) (has_open xs s)
    where
      deeper : (p : ℕ) × (opens rules mark node key xs p s ≡ true) → (p : ℕ) × (opens rules mark node key (x ∷ xs) p s ≡ true)
      deeper found = (suc found.0, found.1)

      by : (b : Bool) → is_here x ≡ b → Contains (cond b (x.span ∷ open_of xs) (open_of xs)) s → (Contains (open_of xs) s → (p : ℕ) × (opens rules mark node key xs p s ≡ true))
          → (p : ℕ) × (opens rules mark node key (x ∷ xs) p s ≡ true)
      by false e c ih = deeper (ih c)
      by true e c ih = elim (Contains-append_cases (x.span ∷ []) (open_of xs) s c) [
        | inl here ↦ first here.0 here.1 here.2
        | inr later ↦ deeper (ih later)
      ]
        where
          first : (k : ℕ) → k < 1 → get_or (x.span ∷ []) k s ≡ s → (p : ℕ) × (opens rules mark node key (x ∷ xs) p s ≡ true)
          first zero less is =
              let parts = and_parts (is_cell_at_key node key x) (is_open rules mark x) e in (
                zero,
                and_from (is_cell_at_key node key x) (is_open rules mark x && same_span x.span s) parts.0
                    (and_from (is_open rules mark x) (same_span x.span s) parts.1 (ap (same_span x.span) (sym is) ∙ span_itself x.span)),
              )
          first (suc k) less is = absurd (omega arith)

  pub open_unexpired : (cells : List Cell) (s : Interval) → Contains (open_windows rules mark (filter (is_cell_at_key node key) cells)) s → is_expired rules.trigger s.end mark ≡ false
  open_unexpired cells s c =
      let at = has_open cells s c in
      let found = opened_there rules mark node key cells at.0 s at.1 in
      ap (λ (x : Interval). is_expired rules.trigger x.end mark) (sym found.2.is) ∙ found.2.open_

-- ---- those that are near

same_any : (s : Interval) (near : List Interval) → list_any (same_span s) near ≡ true → Contains near s
same_any s [] on = absurd (false≢true on)
same_any s (n ∷ near) on = elim (or_cases (same_span s n) (list_any (same_span s) near) on) [
  | inl here ↦ (0, omega arith, sym (span_sound s n here))
  | inr later ↦ Contains-append_right (n ∷ []) near s (same_any s near later)
]

any_same : (s : Interval) (near : List Interval) → Contains near s → list_any (same_span s) near ≡ true
any_same s [] c = absurd (let less = c.1 in omega arith)
any_same s (n ∷ near) c = by c.0 c.1 c.2 (any_same s near)
  where
    by : (k : ℕ) → k < length (n ∷ near) → get_or (n ∷ near) k s ≡ s → (Contains near s → list_any (same_span s) near ≡ true) → list_any (same_span s) (n ∷ near) ≡ true
    by zero less is ih = or_left (same_span s n) (list_any (same_span s) near) (ap (same_span s) is ∙ span_itself s)
    by (suc k) less is ih = or_right (same_span s n) (list_any (same_span s) near) (ih (k, omega arith, is))

none_same : (s : Interval) (near : List Interval) → list_any (same_span s) near ≡ false → All (λ n. same_span s n ≡ false) near
none_same s near off = λ k d less. elim (cases_Bool (same_span s (get_or near k d))) [
  | inl on ↦
      let here : Contains near s = (k, less, (let same = span_sound s (get_or near k d) on in default near k d s less ∙ sym same)) in
      absurd (false≢true (sym off ∙ any_same s near here))
  | inr none ↦ none
]
  where
    default : (xs : List Interval) (k : ℕ) (d e : Interval) → k < length xs → get_or xs k e ≡ get_or xs k d
    default [] k d e less = absurd (omega arith)
    default (x ∷ xs) zero d e less = refl
    default (x ∷ xs) (suc k) d e less = default xs k d e (omega arith)

flipped : (a b : Interval) → IsApart a b → IsApart b a
flipped a b (inl before) = inr before
flipped a b (inr behind) = inl behind

module _ (rules : GroupRules) (mark : ℤ) (node : ℕ) (key : Value) (cells : List Cell) (m : BTreeMap ℤ Standing) (h : AreListed (opens rules mark node key cells) m)
    (own near : List Interval) (some : All IsNonEmpty own)
    (each : All (λ span. (t : Standing) × (window_at m span.end ≡ Some t) × (t.span ≡ span)) near)
    (whole : All (λ span. (e : ℤ) (t : Standing) → window_at m e ≡ Some t → overlaps span t.span ≡ true → Contains near t.span) own) where
  abbrev open_ : List Interval
  open_ = open_windows rules mark (filter (is_cell_at_key node key) cells)

  is_listed : (span : Interval) → (t : Standing) × (window_at m span.end ≡ Some t) × (t.span ≡ span) → Contains open_ span
  is_listed span f = subst (Contains open_) f.2 (open_has rules mark node key cells f.0.place f.0.span (h.only span.end f.0 f.1))

  -- two that are listed are one or apart
  well_apart : (s n : Interval) (p : ℕ) (t : Standing) → window_at m s.end ≡ Some (record { span = s; place = p }) → window_at m n.end ≡ Some t → t.span ≡ n → same_span s n ≡ false → IsWellApart s n
  well_apart s n p t first second is off = (ends_s, ends_n, by_lt_z s.end n.end less (λ ge. by_lt_z n.end s.end more (λ le. absurd (same (equal s.end n.end le ge)))))
    where
      ends_s : IsNonEmpty s
      ends_s = (h.apart.ends s.end (record { span = s; place = p }) first).1

      ends_n : IsNonEmpty n
      ends_n = subst IsNonEmpty is (h.apart.ends n.end t second).1

      less : s.end <ℤ n.end → IsApart s n
      less l = inl (subst (λ (x : Interval). s.end ≤ℤ x.start) is (h.apart.apart s.end n.end (record { span = s; place = p }) t first second l))

      more : n.end <ℤ s.end → IsApart s n
      more l = inr (h.apart.apart n.end s.end t (record { span = s; place = p }) second first l)

      equal : (a b : ℤ) → a ≤ℤ b → b ≤ℤ a → a ≡ b
      equal a b le ge = omega (arith, ints)

      same : s.end ≡ n.end → ⊥
      same e =
          let one = one_there m n.end (record { span = s; place = p }) t (subst (λ x. window_at m x ≡ Some (record { span = s; place = p })) e first) second in
          let here : s ≡ n = ap (λ (x : Standing). x.span) one ∙ is in
          false≢true (sym off ∙ ap (same_span s) (sym here) ∙ span_itself s)

  other : (s : Interval) (p : ℕ) → opens rules mark node key cells p s ≡ true → (b : Bool) → list_any (same_span s) near ≡ b → Contains near s ⊎ All (IsWellApart s) (near ++ own)
  other s p on true there = inl (same_any s near there)
  other s p on false off = inr (All-append (IsWellApart s) near own from_near from_own)
    where
      first : window_at m s.end ≡ Some (record { span = s; place = p })
      first = h.all p s on

      from_near : All (IsWellApart s) near
      from_near = λ k d less. well_apart s (get_or near k d) p (each k d less).0 first (each k d less).1 (each k d less).2 (none_same s near off k d less)

      from_own : All (IsWellApart s) own
      from_own = λ k d less. (
        (h.apart.ends s.end (record { span = s; place = p }) first).1,
        some k d less,
        elim (cases_Bool (overlaps (get_or own k d) s)) [
          | inl over ↦ absurd (false≢true (sym off ∙ any_same s near (whole k d less s.end (record { span = s; place = p }) first over)))
          | inr none ↦ flipped (get_or own k d) s (apart_from (get_or own k d) s none)
        ],
      )

  pub near_listed : AreNear own (open_windows rules mark (filter (is_cell_at_key node key) cells)) near
  near_listed = record {
    each = All-weaker (λ (span : Interval). (t : Standing) × (window_at m span.end ≡ Some t) × (t.span ≡ span)) (Contains open_) is_listed near each;
    others = λ s c. let at = has_open rules mark node key cells s c in other s at.0 at.1 (list_any (same_span s) near) refl;
  }

pub near_all : (own open_ near : List Interval) → near ≡ open_ → AreNear own open_ near
near_all own open_ near is = record {
  each = subst (λ (l : List Interval). All (Contains open_) l) (sym is) (All-contains_itself open_);
  others = λ s c. inl (subst (λ (l : List Interval). Contains l s) (sym is) c);
}

-- ---- how they are gathered

abbrev pub AreOfListed : BTreeMap ℤ Standing → List Interval → Type 0
AreOfListed m near = All (λ span. (t : Standing) × (window_at m span.end ≡ Some t) × (t.span ≡ span)) near

abbrev pub HasAllMet : BTreeMap ℤ Standing → List Interval → Interval → Type 0
HasAllMet m near span = (e : ℤ) (t : Standing) → window_at m e ≡ Some t → overlaps span t.span ≡ true → Contains near t.span

pub near_more : (m : BTreeMap ℤ Standing) (own near new : List Interval) (met : List Standing) (i : ℕ) (x : Interval) → i < length own → x ≡ get_or own i x
    → new ≡ near ++ map (λ t. t.span) met → (AreListedApart m → AreMet x m met) → IsNonEmpty x
    → (AreListedApart m → All (λ span. (t : Standing) × (window_at m span.end ≡ Some t) × (t.span ≡ span)) near) → All IsNonEmpty (take i own)
    → (AreListedApart m → All (λ span. (e : ℤ) (t : Standing) → window_at m e ≡ Some t → overlaps span t.span ≡ true → Contains near t.span) (take i own))
    → (AreListedApart m → All (λ span. (t : Standing) × (window_at m span.end ≡ Some t) × (t.span ≡ span)) new) × All IsNonEmpty (take (i + 1) own)
    × (AreListedApart m → All (λ span. (e : ℤ) (t : Standing) → window_at m e ≡ Some t → overlaps span t.span ≡ true → Contains new t.span) (take (i + 1) own))
near_more m own near new met i x less is pushed are some listed filled whole = (listed_, filled_, whole_)
  where
    longer : take (i + 1) own ≡ take i own ++ x ∷ []
    longer = take_more own i x less ∙ ap (λ y. take i own ++ y ∷ []) (sym is)

    listed_ : AreListedApart m → AreOfListed m new
    listed_ apart =
        subst (AreOfListed m) (sym pushed)
        (All-append (λ (span : Interval). (t : Standing) × (window_at m span.end ≡ Some t) × (t.span ≡ span)) near (map (λ (t : Standing). t.span) met) (listed apart)
        (All-map (λ (span : Interval). (t : Standing) × (window_at m span.end ≡ Some t) × (t.span ≡ span)) (λ (t : Standing). t.span) met
        (All-weaker (λ (t : Standing). (window_at m t.span.end ≡ Some t) × (overlaps x t.span ≡ true)) (λ (t : Standing). (u : Standing) × (window_at m t.span.end ≡ Some u) × (u.span ≡ t.span))
        (λ t h. (t, h.0, refl)) met (are apart).each)))

    filled_ : All IsNonEmpty (take (i + 1) own)
    filled_ = subst (All IsNonEmpty) (sym longer) (All-push IsNonEmpty (take i own) x filled some)

    whole_ : AreListedApart m → All (HasAllMet m new) (take (i + 1) own)
    whole_ apart =
        subst (All (HasAllMet m new)) (sym longer)
        (All-push (HasAllMet m new) (take i own) x
        (All-weaker (HasAllMet m near) (HasAllMet m new) (λ span h e t there on. subst (λ (l : List Interval). Contains l t.span) (sym pushed) (Contains-append_left near (map (λ (t : Standing). t.span) met) t.span (h e t there on)))
        (take i own) (whole apart))
        (λ e t there on.
        subst (λ (l : List Interval). Contains l t.span) (sym pushed)
        (Contains-append_right near (map (λ (t : Standing). t.span) met) t.span (map_has (λ (t : Standing). t.span) met t ((are apart).whole e t there on)))))

-- ---- their sessions

module _ (own open_ near : List Interval) (are : AreNear own open_ near) where
  in_all : (s : Interval) → Contains (near ++ own) s → Contains (open_ ++ own) s
  in_all s c = elim (Contains-append_cases near own s c) [
    | inl here ↦ Contains-append_left open_ own s (All-contains (Contains open_) near s are.each here)
    | inr mine ↦ Contains-append_right open_ own s mine
  ]

  module _ (w : Interval) (h : IsSessionOf (Contains (near ++ own)) w) where
    -- a window that is apart from all that merge is apart from the session
    away : (s : Interval) → All (IsWellApart s) (near ++ own) → overlaps s w ≡ true → ⊥
    away s far over = by (overlap_from s w over)
      where
        at : (t : Interval) → Contains (near ++ own) t → IsWellApart s t
        at t c = All-contains (IsWellApart s) (near ++ own) t far c

        inside : (t : Interval) → IsNonEmpty s → IsApart s t → t.start <ℤ s.start → s.start <ℤ t.end → ⊥
        inside t filled (inl before) p q = omega (arith, ints)
        inside t filled (inr behind) p q = omega (arith, ints)

        begin : (t : Interval) → IsNonEmpty t → IsApart s t → t.start ≡ w.start → w.start <ℤ s.end → s.start ≤ℤ w.start → ⊥
        begin t whole (inl before) e p q = omega (arith, ints)
        begin t whole (inr behind) e p q = omega (arith, ints)

        by : (s.start <ℤ w.end) × (w.start <ℤ s.end) → ⊥
        by o = by_lt_z w.start s.start late early
          where
            late : w.start <ℤ s.start → ⊥
            late less = let t = h.joined s.start (less, o.0) in let far_ = at t.0 t.1 in inside t.0 far_.0 far_.2 t.2.0 t.2.1

            early : s.start ≤ℤ w.start → ⊥
            early le = let far_ = at h.begins.0 h.begins.1 in begin h.begins.0 far_.1 far_.2 h.begins.2 o.1 le

    session_wider : IsSessionOf (Contains (open_ ++ own)) w
    session_wider = record {
      ordered = h.ordered;
      begins = (h.begins.0, in_all h.begins.0 h.begins.1, h.begins.2);
      ends = (h.ends.0, in_all h.ends.0 h.ends.1, h.ends.2);
      joined = λ x inside. let one = h.joined x inside in (one.0, in_all one.0 one.1, one.2);
      apart = λ s there. by s (Contains-append_cases open_ own s there);
    }
      where
        by : (s : Interval) → Contains open_ s ⊎ Contains own s → LiesIn s w ⊎ IsApart s w
        by s (inr mine) = h.apart s (Contains-append_right near own s mine)
        by s (inl there) = elim (are.others s there) [
          | inl here ↦ h.apart s (Contains-append_left near own s here)
          | inr far ↦ elim (cases_Bool (overlaps s w)) [
            | inl over ↦ absurd (away s far over)
            | inr none ↦ inr (apart_from s w none)
          ]
        ]

  pub sessions_near : (windows : List Interval) → AreSessionsOver own near windows → AreSessionsOver own open_ windows
  sessions_near windows h = record {
    each = All-weaker (IsSessionOf (Contains (near ++ own))) (IsSessionOf (Contains (open_ ++ own))) session_wider windows h.each;
    covers = h.covers;
  }

-- none of them is expired
pub sessions_open : (rules : GroupRules) (mark : ℤ) (own open_ windows : List Interval) → ((s : Interval) → Contains open_ s → is_expired rules.trigger s.end mark ≡ false)
    → All (λ s. is_expired rules.trigger s.end mark ≡ false) own → AreSessionsOver own open_ windows → All (λ w. is_expired rules.trigger w.end mark ≡ false) windows
sessions_open rules mark own open_ windows opened_ mine h = All-weaker (IsSessionOf (Contains (open_ ++ own))) (λ (w : Interval). is_expired rules.trigger w.end mark ≡ false) one windows h.each
  where
    one : (w : Interval) → IsSessionOf (Contains (open_ ++ own)) w → is_expired rules.trigger w.end mark ≡ false
    one w s = ap (λ x. is_expired rules.trigger x mark) (sym s.ends.2) ∙ by (Contains-append_cases open_ own s.ends.0 s.ends.1)
      where
        by : Contains open_ s.ends.0 ⊎ Contains own s.ends.0 → is_expired rules.trigger s.ends.0.end mark ≡ false
        by (inl there) = opened_ s.ends.0 there
        by (inr here) = All-contains (λ (x : Interval). is_expired rules.trigger x.end mark ≡ false) own s.ends.0 mine here
