-- What the cells of one Group fire is, of each key, what the cells of that key fire, in whatever order the panes stand.
use Rattle.std.proofs.Common.{◌≡◌, ℕ, ◌==◌, ◌≤◌, ℤ, Bool, true, false, cond, List, [], ◌∷◌, ◌++◌, map, length, get_or, refl, sym, ap, subst, ◌∙◌, arith, append_assoc, append-nil}
use Rattle.std.specs.Prelude.{◌&&◌, ◌||◌, bytes_eq, Option, Some, None}
use Rattle.std.specs.List.{All, count_by, filter, list_any}
use Rattle.std.specs.List.Sorted.{IsPermutation}
use Rattle.std.specs.Option.{is_some}
use Rattle.std.proofs.lemmas.Bool.{and_from, and_parts, eqb-true}
use Rattle.std.proofs.lemmas.List.{nil_from_length}
use Rattle.std.proofs.lemmas.List.Elements.{All-nil, All-cons, All-head, All-tail, All-append, All-weaker, filter-append}
use Rattle.std.proofs.lemmas.List.Sorted.{All-permutation, sum_by-IsPermutation}
use Rattle.std.proofs.lemmas.List.Sums.{length-filter, sum_by-cons}
use Rattle.std.proofs.lemmas.Slice.Eq.{bytes_eq-Decides}
use Rattle.beam_values.specs.Grouping.{key_of}
use Rattle.beam_values.specs.Intervals.{Interval}
use Rattle.beam_values.specs.Spans.{same_span}
use Rattle.beam_values.specs.Spelling.{spelling}
use Rattle.beam_values.specs.declared.cell.Cell.{Cell}
use Rattle.beam_values.specs.declared.cell.Pane.{Pane}
use Rattle.beam_values.specs.declared.element.Element.{Element}
use Rattle.beam_values.specs.declared.element.Timing.{Timing}
use Rattle.beam_values.specs.declared.value.Value.{Value}
use Rattle.beam_model.specs.Panes.{GroupRules, Taken, is_cell_at_key, is_of_window, is_pane_at_key, panes_at, taken_entry, IsFiredAs}
use Rattle.beam_values.specs.Firing.{firing}
use Rattle.group_cells.specs.Cells.{entries_held, firing_of, is_fired_by, unseen_in, AreTheirPanes}
use Rattle.group_cells.specs.Commits.{cells_keyed}
use Rattle.group_cells.specs.Placing.{is_standing, stands_as}
use Rattle.group_cells.specs.Plain.{AreFired, FiresAs, firing_at}
use Rattle.group_cells.proofs.Counting.{filter_all, filter_none, none_counted}
use Rattle.group_cells.proofs.WindowTests.{span_itself, span_sound}

-- ---- lists in another order

filter_filter : {X : Type 0} (p q : X → Bool) (xs : List X) → filter q (filter p xs) ≡ filter (λ x. p x && q x) xs
filter_filter p q [] = refl
filter_filter p q (x ∷ xs) = by (p x) (filter_filter p q xs)
  where
    by : (b : Bool) → filter q (filter p xs) ≡ filter (λ y. p y && q y) xs
        → filter q (cond b (x ∷ filter p xs) (filter p xs)) ≡ cond (b && q x) (x ∷ filter (λ y. p y && q y) xs) (filter (λ y. p y && q y) xs)
    by true h = ap (λ l. cond (q x) (x ∷ l) l) h
    by false h = h

-- what those that pass have, each has that passes
passing : {X : Type 0} (p : X → Bool) (P : X → Type 0) (xs : List X) → All P (filter p xs) → All (λ x. p x ≡ true → P x) xs
passing p P [] h = All-nil (λ x. p x ≡ true → P x)
passing p P (x ∷ xs) h = by (p x) refl h (passing p P xs)
  where
    by : (b : Bool) → p x ≡ b → All P (cond b (x ∷ filter p xs) (filter p xs)) → (All P (filter p xs) → All (λ y. p y ≡ true → P y) xs) → All (λ y. p y ≡ true → P y) (x ∷ xs)
    by true e h next = All-cons (λ y. p y ≡ true → P y) x xs (λ _. All-head P x (filter p xs) h) (next (All-tail P x (filter p xs) h))
    by false e h next = All-cons (λ y. p y ≡ true → P y) x xs (λ d. let no_ : false ≡ true = sym e ∙ d in absurd (cc)) (next h)

pass_all : {X : Type 0} (p : X → Bool) (P : X → Type 0) (xs : List X) → All (λ x. p x ≡ true → P x) xs → All P (filter p xs)
pass_all p P [] h = All-nil P
pass_all p P (x ∷ xs) h = by (p x) refl (pass_all p P xs (All-tail (λ y. p y ≡ true → P y) x xs h))
  where
    by : (b : Bool) → p x ≡ b → All P (filter p xs) → All P (cond b (x ∷ filter p xs) (filter p xs))
    by true e rest = All-cons P x (filter p xs) (All-head (λ y. p y ≡ true → P y) x xs h e) rest
    by false e rest = rest

none_permuted : {X : Type 0} (p : X → Bool) (xs ys : List X) → IsPermutation xs ys → filter p xs ≡ [] → filter p ys ≡ []
none_permuted p xs ys h none =
    nil_from_length (filter p ys) (length-filter p ys ∙ sum_by-IsPermutation (λ x. cond (p x) 1 0) xs ys h ∙ sym (length-filter p xs) ∙ ap length none)

one_left : {X : Type 0} (zs : List X) (x : X) → length zs ≡ 1 → All (λ z. z ≡ x) zs → zs ≡ x ∷ []
one_left [] x e h = absurd (omega arith)
one_left (z ∷ zs) x e h = (λ i. All-head (λ y. y ≡ x) z zs h i ∷ nil_from_length zs (omega arith) i)

one_permuted : {X : Type 0} (p : X → Bool) (xs ys : List X) (x : X) → IsPermutation xs ys → filter p xs ≡ x ∷ [] → filter p ys ≡ x ∷ []
one_permuted {X} p xs ys x h one =
    one_left (filter p ys) x (length-filter p ys ∙ sum_by-IsPermutation (λ y. cond (p y) 1 0) xs ys h ∙ sym (length-filter p xs) ∙ ap length one)
    (pass_all p (λ y. y ≡ x) ys
    (All-permutation (λ y. p y ≡ true → y ≡ x) xs ys h
    (passing p (λ y. y ≡ x) xs (subst (All (λ y. y ≡ x)) (sym one) (All-cons (λ (y : X). y ≡ x) x [] refl (All-nil (λ (y : X). y ≡ x)))))))

fired_permuted : (node : ℕ) (key : Value) (c : ℕ) (w : Interval) (index : ℕ) (es : List Taken) (t : Option Timing) (p : Pane → Bool) (xs ys : List Pane) → IsPermutation xs ys
    → IsFiredAs node key c w index es t (filter p xs) → IsFiredAs node key c w index es t (filter p ys)
fired_permuted node key c w index es None p xs ys h fired = none_permuted p xs ys h fired
fired_permuted node key c w index es (Some timing) p xs ys h fired = (fired.0, one_permuted p xs ys fired.0 h fired.1, fired.2)

-- ---- the pane of a cell

-- what is known of the panes of a cell of this node, key and window
record IsOf (node : ℕ) (key : Value) (w : Interval) (c : ℕ) (pane : Pane) : Type 0 where
  here : pane.node ≡ node
  keyed : spelling (key_of pane.element) ≡ spelling key
  window : pane.element.span ≡ w
  of_commit : pane.commit ≡ c

here_facts : (node : ℕ) (key : Value) (c : ℕ) (w : Interval) (index : ℕ) (es : List Taken) (t : Option Timing) (fired : List Pane) → IsFiredAs node key c w index es t fired → All (IsOf node key w c) fired
here_facts node key c w index es None fired h = subst (All (IsOf node key w c)) (sym h) (All-nil (IsOf node key w c))
here_facts node key c w index es (Some timing) fired h =
    subst (All (IsOf node key w c)) (sym h.1) (All-cons (IsOf node key w c) h.0 []
    (record {
      here = h.2.here;
      keyed = (bytes_eq-Decides (spelling (key_of h.0.element)) (spelling key)).0 h.2.keyed;
      window = ap (λ (e : Element). e.span) h.2.holds;
      of_commit = h.2.commit;
    })
    (All-nil (IsOf node key w c)))

-- a key that is spelled alike does as well
rekeyed : (node : ℕ) (key other : Value) (c : ℕ) (w : Interval) (index : ℕ) (es : List Taken) (t : Option Timing) (fired : List Pane) → spelling key ≡ spelling other
    → IsFiredAs node key c w index es t fired → IsFiredAs node other c w index es t fired
rekeyed node key other c w index es None fired same h = h
rekeyed node key other c w index es (Some timing) fired same h = (
  h.0,
  h.1,
  record {
    parts = h.2.parts;
    holds = h.2.holds;
    keyed = ap (bytes_eq (spelling (key_of h.0.element))) (sym same) ∙ h.2.keyed;
    ascending = h.2.ascending;
    all = h.2.all;
    here = h.2.here;
    commit = h.2.commit;
  },
)

pub fired_more : (rules : GroupRules) (node c : ℕ) (mark : ℤ) (cells : List Cell) (panes : List Pane) (cell : Cell) (here : List Pane)
    → AreFired rules node c mark cells panes → FiresAs rules node c mark cell here → AreFired rules node c mark (cells ++ cell ∷ []) (panes ++ here)
fired_more rules node c mark [] panes cell here f h = (here, [], ap (λ l. l ++ here) f ∙ sym (append-nil here), h, refl)
fired_more rules node c mark (x ∷ xs) panes cell here f h =
    (f.0, f.1 ++ here, ap (λ l. l ++ here) f.2 ∙ append_assoc f.0 f.1 here, f.3, fired_more rules node c mark xs f.1 cell here f.4 h)

module _ (rules : GroupRules) (node c : ℕ) (mark : ℤ) where
  -- all panes of a Group are its own, of this commit
  pub all_of : (cells : List Cell) (panes : List Pane) → AreFired rules node c mark cells panes → All (λ pane. (pane.node ≡ node) × (pane.commit ≡ c)) panes
  all_of [] panes f = subst (All (λ (pane : Pane). (pane.node ≡ node) × (pane.commit ≡ c))) (sym f) (All-nil (λ (pane : Pane). (pane.node ≡ node) × (pane.commit ≡ c)))
  all_of (x ∷ xs) panes f =
      subst (All (λ (pane : Pane). (pane.node ≡ node) × (pane.commit ≡ c))) (sym f.2)
      (All-append (λ (pane : Pane). (pane.node ≡ node) × (pane.commit ≡ c)) f.0 f.1 (by (x.node == node) refl f.3) (all_of xs f.1 f.4))
    where
      by : (b : Bool) → (x.node == node) ≡ b
          → IsFiredAs x.node x.key c x.span x.next_index (map (taken_entry x.node) (entries_held rules.trigger.mode x.entries)) (cond b (firing_of rules mark x) None) f.0
          → All (λ pane. (pane.node ≡ node) × (pane.commit ≡ c)) f.0
      by true e h =
          All-weaker (IsOf x.node x.key x.span c) (λ (pane : Pane). (pane.node ≡ node) × (pane.commit ≡ c)) (λ pane is. (is.here ∙ eqb-true x.node node e, is.of_commit)) f.0
          (here_facts x.node x.key c x.span x.next_index (map (taken_entry x.node) (entries_held rules.trigger.mode x.entries)) (firing_of rules mark x) f.0 h)
      by false e h = subst (All (λ (pane : Pane). (pane.node ≡ node) × (pane.commit ≡ c))) (sym h) (All-nil (λ (pane : Pane). (pane.node ≡ node) × (pane.commit ≡ c)))

  module _ (key : Value) where
    -- a pane of this Group, key and window
    abbrev is_here : Interval → Pane → Bool
    is_here w pane = is_pane_at_key node key pane && is_of_window w pane

    tests : (x : Cell) (w : Interval) (here : List Pane) → FiresAs rules node c mark x here → All (λ pane. is_here w pane ≡ (is_cell_at_key node key x && same_span x.span w)) here
    tests x w here h =
        All-weaker (IsOf x.node x.key x.span c) (λ pane. is_here w pane ≡ (is_cell_at_key node key x && same_span x.span w))
        (λ pane is i. (is.here i == node && bytes_eq (is.keyed i) (spelling key)) && same_span (is.window i) w) here
        (here_facts x.node x.key c x.span x.next_index (map (taken_entry x.node) (entries_held rules.trigger.mode x.entries)) (firing_at rules node mark x) here h)

    -- a cell that doesn't stand fires none
    fallen : (x : Cell) (here : List Pane) → FiresAs rules node c mark x here → is_standing x.merged_into ≡ false → here ≡ []
    fallen x here h off =
        subst (λ (t : Option Timing). IsFiredAs x.node x.key c x.span x.next_index (map (taken_entry x.node) (entries_held rules.trigger.mode x.entries)) t here) none h
      where
        either : (b : Bool) → cond {A = Option Timing} b None None ≡ None
        either true = refl
        either false = refl

        none : firing_at rules node mark x ≡ None
        none =
            ap (λ s. cond (x.node == node) (cond s (firing rules.trigger x.span.end mark x.on_time (unseen_in x.entries)) None) None) off ∙ either (x.node == node)

    here_none : (x : Cell) (w : Interval) (here : List Pane) → FiresAs rules node c mark x here → (is_cell_at_key node key x && stands_as w x) ≡ false → filter (is_here w) here ≡ []
    here_none x w here h off = by (is_cell_at_key node key x) refl (is_standing x.merged_into) refl (same_span x.span w) refl off
      where
        by : (a : Bool) → is_cell_at_key node key x ≡ a → (s : Bool) → is_standing x.merged_into ≡ s → (v : Bool) → same_span x.span w ≡ v → (a && (s && v)) ≡ false → filter (is_here w) here ≡ []
        by a d false e v g gone = ap (filter (is_here w)) (fallen x here h e)
        by true d true e true g gone = absurd (cc)
        by true d true e false g gone = filter_none (is_here w) here (All-weaker (λ pane. is_here w pane ≡ (is_cell_at_key node key x && same_span x.span w)) (λ pane. is_here w pane ≡ false) (λ pane is. is ∙ (λ i. d i && g i)) here (tests x w here h))
        by false d true e v g gone = filter_none (is_here w) here (All-weaker (λ pane. is_here w pane ≡ (is_cell_at_key node key x && same_span x.span w)) (λ pane. is_here w pane ≡ false) (λ pane is. is ∙ (λ i. d i && g i)) here (tests x w here h))

    here_one : (x : Cell) (w : Interval) (here : List Pane) → FiresAs rules node c mark x here → is_cell_at_key node key x ≡ true → same_span x.span w ≡ true → filter (is_here w) here ≡ here
    here_one x w here h d g =
        filter_all (is_here w) here (All-weaker (λ pane. is_here w pane ≡ (is_cell_at_key node key x && same_span x.span w)) (λ pane. is_here w pane ≡ true) (λ pane is. is ∙ (λ i. d i && g i)) here (tests x w here h))

    split : (w : Interval) (here rest panes : List Pane) → panes ≡ here ++ rest → filter (is_here w) panes ≡ filter (is_here w) here ++ filter (is_here w) rest
    split w here rest panes is = ap (filter (is_here w)) is ∙ filter-append (is_here w) here rest

    none_stands : (w : Interval) (cells : List Cell) (panes : List Pane) → AreFired rules node c mark cells panes → count_by (stands_as w) (cells_keyed node key cells) ≡ 0 → filter (is_here w) panes ≡ []
    none_stands w [] panes f none = ap (filter (is_here w)) f
    none_stands w (x ∷ xs) panes f none = by (is_cell_at_key node key x) refl (stands_as w x) refl none (none_stands w xs f.1 f.4)
      where
        by : (a : Bool) → is_cell_at_key node key x ≡ a → (s : Bool) → stands_as w x ≡ s → count_by (stands_as w) (cond a (x ∷ cells_keyed node key xs) (cells_keyed node key xs)) ≡ 0
            → (count_by (stands_as w) (cells_keyed node key xs) ≡ 0 → filter (is_here w) f.1 ≡ []) → filter (is_here w) panes ≡ []
        by true d true e none next =
            let one : cond {A = ℕ} (stands_as w x) 1 0 ≡ 1 = ap (λ b. cond {A = ℕ} b 1 0) e in
            absurd (omega (arith, sum_by-cons (λ (y : Cell). cond {A = ℕ} (stands_as w y) 1 0) x (cells_keyed node key xs)))
        by true d false e none next =
            split w f.0 f.1 panes f.2
            ∙ (λ i. here_none x w f.0 f.3 (λ j. d j && e j) i ++ next (omega (arith, sum_by-cons (λ (y : Cell). cond {A = ℕ} (stands_as w y) 1 0) x (cells_keyed node key xs))) i)
        by false d s e none next = split w f.0 f.1 panes f.2 ∙ (λ i. here_none x w f.0 f.3 (λ j. d j && e j) i ++ next none i)

    -- a cell that stands for the window fires what is there of that
    abbrev Its : Interval → List Pane → Cell → Type 0
    Its w panes x =
        stands_as w x ≡ true → IsFiredAs node key c w x.next_index (map (taken_entry node) (entries_held rules.trigger.mode x.entries)) (firing_of rules mark x) (filter (is_here w) panes)

    own_pane : (x : Cell) (w : Interval) (here : List Pane) → FiresAs rules node c mark x here → is_cell_at_key node key x ≡ true → same_span x.span w ≡ true
        → IsFiredAs node key c w x.next_index (map (taken_entry node) (entries_held rules.trigger.mode x.entries)) (firing_of rules mark x) here
    own_pane x w here h d g =
        let parts = and_parts (x.node == node) (bytes_eq (spelling x.key) (spelling key)) d in
        let at : x.node ≡ node = eqb-true x.node node parts.0 in
        let window : x.span ≡ w = span_sound x.span w g in
        rekeyed node x.key key c w x.next_index (map (taken_entry node) (entries_held rules.trigger.mode x.entries)) (firing_of rules mark x) here
        ((bytes_eq-Decides (spelling x.key) (spelling key)).0 parts.1)
        (subst (λ (A : Type 0). A)
        (λ i. IsFiredAs (at i) x.key c (window i) x.next_index (map (taken_entry (at i)) (entries_held rules.trigger.mode x.entries)) (cond (parts.0 i) (firing_of rules mark x) None) here) h)

    each_window : (w : Interval) (cells : List Cell) (panes : List Pane) → AreFired rules node c mark cells panes → count_by (stands_as w) (cells_keyed node key cells) ≤ 1 → All (Its w panes) (cells_keyed node key cells)
    each_window w [] panes f few = All-nil (Its w panes)
    each_window w (x ∷ xs) panes f few = by (is_cell_at_key node key x) refl (stands_as w x) refl few (each_window w xs f.1 f.4)
      where
        same : (is_cell_at_key node key x && stands_as w x) ≡ false → filter (is_here w) f.1 ≡ filter (is_here w) panes
        same off = sym (split w f.0 f.1 panes f.2 ∙ ap (λ l. l ++ filter (is_here w) f.1) (here_none x w f.0 f.3 off))

        along : (is_cell_at_key node key x && stands_as w x) ≡ false → All (Its w f.1) (cells_keyed node key xs) → All (Its w panes) (cells_keyed node key xs)
        along off rest =
            All-weaker (Its w f.1) (Its w panes)
            (λ y its on. subst (IsFiredAs node key c w y.next_index (map (taken_entry node) (entries_held rules.trigger.mode y.entries)) (firing_of rules mark y)) (same off) (its on)) (cells_keyed node key xs) rest

        by : (a : Bool) → is_cell_at_key node key x ≡ a → (s : Bool) → stands_as w x ≡ s → count_by (stands_as w) (cond a (x ∷ cells_keyed node key xs) (cells_keyed node key xs)) ≤ 1
            → (count_by (stands_as w) (cells_keyed node key xs) ≤ 1 → All (Its w f.1) (cells_keyed node key xs)) → All (Its w panes) (cond a (x ∷ cells_keyed node key xs) (cells_keyed node key xs))
        by true d true e few next =
            let one : cond {A = ℕ} (stands_as w x) 1 0 ≡ 1 = ap (λ b. cond {A = ℕ} b 1 0) e in
            let none : count_by (stands_as w) (cells_keyed node key xs) ≡ 0 = omega (arith, sum_by-cons (λ (y : Cell). cond {A = ℕ} (stands_as w y) 1 0) x (cells_keyed node key xs)) in
            let window : same_span x.span w ≡ true = (and_parts (is_standing x.merged_into) (same_span x.span w) e).1 in
            let whole : f.0 ≡ filter (is_here w) panes =
            sym (split w f.0 f.1 panes f.2 ∙ (λ i. here_one x w f.0 f.3 d window i ++ none_stands w xs f.1 f.4 none i) ∙ append-nil f.0) in
            All-cons (Its w panes) x (cells_keyed node key xs)
            (λ _. subst (IsFiredAs node key c w x.next_index (map (taken_entry node) (entries_held rules.trigger.mode x.entries)) (firing_of rules mark x)) whole (own_pane x w f.0 f.3 d window))
            (All-weaker (λ y. stands_as w y ≡ false) (Its w panes) (λ y off on. let no_ : false ≡ true = sym off ∙ on in absurd (cc)) (cells_keyed node key xs) (none_counted (stands_as w) (cells_keyed node key xs) none))
        by true d false e few next =
            All-cons (Its w panes) x (cells_keyed node key xs) (λ on. let no_ : false ≡ true = sym e ∙ on in absurd (cc))
            (along (λ j. d j && e j) (next (omega (arith, sum_by-cons (λ (y : Cell). cond {A = ℕ} (stands_as w y) 1 0) x (cells_keyed node key xs)))))
        by false d s e few next = along (λ j. d j && e j) (next few)

    -- each pane is of a cell that fires
    abbrev FiredBy : List Cell → Pane → Type 0
    FiredBy cells pane = is_pane_at_key node key pane ≡ true → list_any (is_fired_by rules mark pane) (cells_keyed node key cells) ≡ true

    only_these : (cells : List Cell) (panes : List Pane) → AreFired rules node c mark cells panes → All (FiredBy cells) panes
    only_these [] panes f = subst (All (FiredBy [])) (sym f) (All-nil (FiredBy []))
    only_these (x ∷ xs) panes f = subst (All (FiredBy (x ∷ xs))) (sym f.2) (All-append (FiredBy (x ∷ xs)) f.0 f.1 (head (firing_at rules node mark x) refl f.3)
        (All-weaker (FiredBy xs) (FiredBy (x ∷ xs)) (λ pane h on. more pane (is_cell_at_key node key x) (h on)) f.1 (only_these xs f.1 f.4)))
      where
        or_right : (a b : Bool) → b ≡ true → (a || b) ≡ true
        or_right true b e = refl
        or_right false b e = e

        more : (pane : Pane) (b : Bool) → list_any (is_fired_by rules mark pane) (cells_keyed node key xs) ≡ true
            → list_any (is_fired_by rules mark pane) (cond b (x ∷ cells_keyed node key xs) (cells_keyed node key xs)) ≡ true
        more pane true h = or_right (is_fired_by rules mark pane x) (list_any (is_fired_by rules mark pane) (cells_keyed node key xs)) h
        more pane false h = h

        head : (t : Option Timing) → firing_at rules node mark x ≡ t
            → IsFiredAs x.node x.key c x.span x.next_index (map (taken_entry x.node) (entries_held rules.trigger.mode x.entries)) (firing_at rules node mark x) f.0 → All (FiredBy (x ∷ xs)) f.0
        head None e h =
            subst (All (FiredBy (x ∷ xs)))
            (sym (subst (λ (t : Option Timing). IsFiredAs x.node x.key c x.span x.next_index (map (taken_entry x.node) (entries_held rules.trigger.mode x.entries)) t f.0) e h))
            (All-nil (FiredBy (x ∷ xs)))
        head (Some timing) e h =
            All-weaker (IsOf x.node x.key x.span c) (FiredBy (x ∷ xs))
            (λ pane is on.
            let at : is_cell_at_key node key x ≡ true = sym (λ i. is.here i == node && bytes_eq (is.keyed i) (spelling key)) ∙ on in
            let own : (x.node == node) ≡ true = (and_parts (x.node == node) (bytes_eq (spelling x.key) (spelling key)) at).0 in
            let timed : firing_of rules mark x ≡ Some timing = sym (ap (λ b. cond b (firing_of rules mark x) None) own) ∙ e in
            let others : Bool = list_any (is_fired_by rules mark pane) (cells_keyed node key xs) in
            ap (λ b. list_any (is_fired_by rules mark pane) (cond b (x ∷ cells_keyed node key xs) (cells_keyed node key xs))) at
            ∙ (λ i. is_some (timed i) && same_span (is.window i) x.span || others)
            ∙ ap (λ b. b || others) (span_itself x.span)) f.0
            (here_facts x.node x.key c x.span x.next_index (map (taken_entry x.node) (entries_held rules.trigger.mode x.entries)) (firing_at rules node mark x) f.0 h)

    pub their_panes : (cells : List Cell) (panes fired : List Pane) → AreFired rules node c mark cells panes → IsPermutation panes fired
        → ((w : Interval) → count_by (stands_as w) (cells_keyed node key cells) ≤ 1) → AreTheirPanes rules node key c mark (cells_keyed node key cells) (panes_at node key fired)
    their_panes cells panes fired f order once = record {
      each = λ k d within st.
          let x = get_or (cells_keyed node key cells) k d in
          subst (IsFiredAs node key c x.span x.next_index (map (taken_entry node) (entries_held rules.trigger.mode x.entries)) (firing_of rules mark x))
          (sym (filter_filter (is_pane_at_key node key) (is_of_window x.span) fired))
          (fired_permuted node key c x.span x.next_index (map (taken_entry node) (entries_held rules.trigger.mode x.entries)) (firing_of rules mark x) (is_here x.span) panes fired order
          (each_window x.span cells panes f (once x.span) k d within (and_from (is_standing x.merged_into) (same_span x.span x.span) st (span_itself x.span))));
      only = pass_all (is_pane_at_key node key) (λ pane. list_any (is_fired_by rules mark pane) (cells_keyed node key cells) ≡ true) fired
          (All-permutation (FiredBy cells) panes fired order (only_these cells panes f));
    }
