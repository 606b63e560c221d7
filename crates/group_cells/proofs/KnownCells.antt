-- What is known of the windows of a Group and key, as its cells change.
use Rattle.std.proofs.Common.{◌≡◌, ◌⊎◌, inl, inr, ℕ, zero, suc, ◌+◌, ◌==◌, ◌<◌, ◌≤◌, ℤ, ◌≤ℤ◌, Bool, true, false, cond, List, [], ◌∷◌, ◌++◌, map, length, get_or, Option, Some, None, refl, sym, ap, subst, ◌∙◌, arith, length-append}
use Rattle.std.specs.Prelude.{◌&&◌, ◌||◌, not, slice_get, Contains}
use Rattle.std.specs.BTreeMap.{BTreeMap}
use Rattle.std.specs.List.{All, filter, list_any}
use Rattle.std.specs.Option.{option_map}
use Rattle.std.proofs.lemmas.Bool.{and_from, and_parts, cases_Bool, cases_lt, false≢true, or_cases, or_left, or_parts, or_right}
use Rattle.std.proofs.lemmas.Bool.Decides.{Decides-eqb}
use Rattle.std.proofs.lemmas.Int.{ints}
use Rattle.std.proofs.lemmas.List.{length-map}
use Rattle.std.proofs.lemmas.Option.{slice_get-map, slice_get_within, slice_get-get_or}
use Rattle.beam_values.specs.Firing.{is_expired}
use Rattle.beam_values.specs.Intervals.{Interval}
use Rattle.beam_values.specs.Sessions.{IsNonEmpty, LiesIn}
use Rattle.beam_values.specs.Spans.{same_span, lies_in}
use Rattle.beam_values.specs.declared.cell.Cell.{Cell}
use Rattle.beam_values.specs.declared.cell.Entry.{Entry}
use Rattle.beam_values.specs.declared.plan.Trigger.{Trigger}
use Rattle.beam_values.specs.declared.value.Value.{Value}
use Rattle.beam_model.specs.Panes.{GroupRules, is_cell_at_key}
use Rattle.group_cells.specs.AtPlaces.{at_place}
use Rattle.group_cells.specs.Commits.{CellPlace, cell_place}
use Rattle.group_cells.specs.KeyLists.{stands, stands_here}
use Rattle.group_cells.specs.KnownWindows.{meeting_places, meets, opens, opens_as, overlaps, window_at, AreFilled, AreKnown, AreListed, ArePlacesMet, HasNone, HasOpened, IsKnown, IsKnownOf, IsWithout}
use Rattle.group_cells.specs.Placing.{fresh_cell, gives_way, is_absorbed, is_standing, stands_as, with_entry}
use Rattle.group_cells.specs.Plain.{once_opened_at, opening_of, put_at, stands_at, takes_at}
use Rattle.group_cells.specs.Rounds.{is_open}
use Rattle.group_cells.specs.declared.groups.standing.Known.{Known}
use Rattle.group_cells.specs.declared.groups.standing.Known.TheVariants.{Apart, Nothing}
use Rattle.group_cells.specs.declared.groups.standing.Standing.{Standing}
use Rattle.group_cells.proofs.ListedWindows.{listed_as, listed_without}
use Rattle.group_cells.proofs.PlacedKeys.{at_itself}
use Rattle.group_cells.proofs.StandingPlaces.{at_number, got, in_places, passes_there, places_same, read_alike, read_there}
use Rattle.group_cells.proofs.WindowTests.{lies_from, lies_overlaps, overlaps_back, span_itself, span_sound}

-- ---- the test

-- what a cell that is open with a window is
pub record IsOpenAs (rules : GroupRules) (mark : ℤ) (node : ℕ) (key : Value) (s : Interval) (cell : Cell) : Type 0 where
  pub at : is_cell_at_key node key cell ≡ true
  pub stands_ : is_standing cell.merged_into ≡ true
  pub open_ : is_expired rules.trigger cell.span.end mark ≡ false
  pub is : cell.span ≡ s

not_true : (b : Bool) → not b ≡ true → b ≡ false
not_true true e = absurd (false≢true e)
not_true false e = refl

pub open_as : (rules : GroupRules) (mark : ℤ) (node : ℕ) (key : Value) (s : Interval) (cell : Cell) → opens_as rules mark node key s cell ≡ true → IsOpenAs rules mark node key s cell
open_as rules mark node key s cell on =
    let one = and_parts (is_cell_at_key node key cell) (is_open rules mark cell && same_span cell.span s) on in
    let two = and_parts (is_open rules mark cell) (same_span cell.span s) one.1 in
    let three = and_parts (is_standing cell.merged_into) (not (is_expired rules.trigger cell.span.end mark)) two.0 in
    record { at = one.0; stands_ = three.0; open_ = not_true (is_expired rules.trigger cell.span.end mark) three.1; is = span_sound cell.span s two.1 }

pub as_open : (rules : GroupRules) (mark : ℤ) (node : ℕ) (key : Value) (s : Interval) (cell : Cell) → IsOpenAs rules mark node key s cell → opens_as rules mark node key s cell ≡ true
as_open rules mark node key s cell h =
    and_from (is_cell_at_key node key cell) (is_open rules mark cell && same_span cell.span s) h.at
    (and_from (is_open rules mark cell) (same_span cell.span s)
    (and_from (is_standing cell.merged_into) (not (is_expired rules.trigger cell.span.end mark)) h.stands_ (ap not h.open_))
    (ap (same_span cell.span) (sym h.is) ∙ span_itself cell.span))

-- the cell that is there
pub opened_there : (rules : GroupRules) (mark : ℤ) (node : ℕ) (key : Value) (cells : List Cell) (p : ℕ) (s : Interval) → opens rules mark node key cells p s ≡ true
    → (cell : Cell) × (slice_get cells p ≡ Some cell) × IsOpenAs rules mark node key s cell
opened_there rules mark node key cells p s on =
    let found = passes_there (opens_as rules mark node key s) cells p on in
    (found.0, found.1, open_as rules mark node key s found.0 found.2)

pub there_opened : (rules : GroupRules) (mark : ℤ) (node : ℕ) (key : Value) (cells : List Cell) (p : ℕ) (s : Interval) (cell : Cell) → slice_get cells p ≡ Some cell → IsOpenAs rules mark node key s cell
    → opens rules mark node key cells p s ≡ true
there_opened rules mark node key cells p s cell there h = read_there (opens_as rules mark node key s) false cells p cell there ∙ as_open rules mark node key s cell h

-- two tests that imply each other are one
same_tests : (a b : Bool) → (a ≡ true → b ≡ true) → (b ≡ true → a ≡ true) → a ≡ b
same_tests true b to from = sym (to refl)
same_tests false true to from = from refl
same_tests false false to from = refl

pub known_as : (mark : ℤ) (test other : ℕ → Interval → Bool) (known : Known) → ((p : ℕ) (s : Interval) → test p s ≡ other p s) → AreKnown mark test known → AreKnown mark other known
known_as mark test other (Apart listed) same h = (h.0, listed_as test other listed.by_end same h.1)
known_as mark test other Nothing same h = tt

-- what is known at a mark is known
pub known_at : (rules : GroupRules) (mark : ℤ) (node : ℕ) (key : Value) (cells : List Cell) (known : Known) → AreKnown mark (opens rules mark node key cells) known → IsKnown rules node key cells known
known_at rules mark node key cells (Apart listed) h = subst (λ m. AreListed (opens rules m node key cells) listed.by_end) (sym h.0) h.1
known_at rules mark node key cells Nothing h = tt

-- ---- none stands

pub none_opens : (rules : GroupRules) (mark : ℤ) (node : ℕ) (key : Value) (cells : List Cell) → HasNone node key cells → (p : ℕ) (s : Interval) → opens rules mark node key cells p s ≡ true → ⊥
none_opens rules mark node key cells none p s on =
    let found = opened_there rules mark node key cells p s on in
    let h = found.2 in
    false≢true (sym (none p) ∙ read_there (stands_here node key) false cells p found.0 found.1 ∙ and_from (is_cell_at_key node key found.0) (stands found.0) h.at h.stands_)

pub none_listed : (test : ℕ → Interval → Bool) (m : BTreeMap ℤ Standing) → ((e : ℤ) → window_at m e ≡ None) → ((p : ℕ) (s : Interval) → test p s ≡ true → ⊥) → AreListed test m
none_listed test m empty none = record {
  apart = record {
    ends = λ e t there. absurd (no_ e t there);
    apart = λ a b s t first second less. absurd (no_ a s first);
  };
  all = λ p s on. absurd (none p s on);
  only = λ e t there. absurd (no_ e t there);
}
  where
    no_ : (e : ℤ) (t : Standing) → window_at m e ≡ Some t → ⊥
    no_ e t there = let x : None ≡ Some t = sym (empty e) ∙ there in absurd (cc)

-- ---- one that has a window

any_there : {X : Type 0} (f : X → Bool) (xs : List X) → list_any f xs ≡ true → (p : ℕ) × (at_place f false xs p ≡ true)
any_there f [] on = absurd (false≢true on)
any_there {X} f (x ∷ xs) on = by (or_cases (f x) (list_any f xs) on) (any_there f xs)
  where
    by : (f x ≡ true) ⊎ (list_any f xs ≡ true) → (list_any f xs ≡ true → (p : ℕ) × (at_place f false xs p ≡ true)) → (p : ℕ) × (at_place f false (x ∷ xs) p ≡ true)
    by (inl here) ih = (zero, here)
    by (inr later) ih = let found = ih later in (suc found.0, found.1)

there_any : {X : Type 0} (f : X → Bool) (xs : List X) (p : ℕ) → at_place f false xs p ≡ true → list_any f xs ≡ true
there_any f [] p on = absurd (false≢true on)
there_any f (x ∷ xs) zero on = or_left (f x) (list_any f xs) on
there_any f (x ∷ xs) (suc p) on = or_right (f x) (list_any f xs) (there_any f xs p on)

pub stands_is : (rules : GroupRules) (mark : ℤ) (node : ℕ) (key : Value) (w : Interval) (cells : List Cell) (m : BTreeMap ℤ Standing) → AreListed (opens rules mark node key cells) m
    → is_expired rules.trigger w.end mark ≡ false → (b : Bool) → ((place : ℕ) → window_at m w.end ≡ Some (record { span = w; place = place }) → b ≡ true)
    → (b ≡ true → (place : ℕ) × (window_at m w.end ≡ Some (record { span = w; place = place }))) → b ≡ list_any (stands_at node key w) cells
stands_is rules mark node key w cells m h open_ b found there = same_tests b (list_any (stands_at node key w) cells) to from
  where
    to : b ≡ true → list_any (stands_at node key w) cells ≡ true
    to on =
        let at = there on in
        let one = opened_there rules mark node key cells at.0 w (h.only w.end (record { span = w; place = at.0 }) at.1) in
        let is = one.2 in
        there_any (stands_at node key w) cells at.0
        (read_there (stands_at node key w) false cells at.0 one.0 one.1
        ∙ and_from (is_cell_at_key node key one.0) (stands_as w one.0) is.at
        (and_from (is_standing one.0.merged_into) (same_span one.0.span w) is.stands_ (ap (same_span one.0.span) (sym is.is) ∙ span_itself one.0.span)))

    from : list_any (stands_at node key w) cells ≡ true → b ≡ true
    from on =
        let at = any_there (stands_at node key w) cells on in
        let one = passes_there (stands_at node key w) cells at.0 at.1 in
        let parts = and_parts (is_cell_at_key node key one.0) (stands_as w one.0) one.2 in
        let two = and_parts (is_standing one.0.merged_into) (same_span one.0.span w) parts.1 in
        let is = span_sound one.0.span w two.1 in
        found at.0
        (h.all at.0 w
        (there_opened rules mark node key cells at.0 w one.0 one.1
        (record { at = parts.0; stands_ = two.0; open_ = ap (λ (x : Interval). is_expired rules.trigger x.end mark) is ∙ open_; is = is })))

-- ---- a cell that comes, expired or not

module _ (trigger : Trigger) (mark : ℤ) (span : Interval) (place : ℕ) (test : ℕ → Interval → Bool) where
  pub still_expired : is_expired trigger span.end mark ≡ true
      → (p : ℕ) (s : Interval) → test p s ≡ (test p s || (p == place && (not (is_expired trigger s.end mark) && same_span span s)))
  still_expired gone p s = by (test p s) (p == place) (same_span span s) refl
    where
      none : (a b : Bool) → (a && (b && false)) ≡ false
      none true true = refl
      none true false = refl
      none false b = refl

      by : (t a b : Bool) → same_span span s ≡ b → t ≡ (t || (a && (not (is_expired trigger s.end mark) && b)))
      by true a b e = refl
      by false a false e = sym (none a (not (is_expired trigger s.end mark)))
      by false a true e = sym (ap (λ x. a && (not x && true)) (ap (λ (x : Interval). is_expired trigger x.end mark) (sym (span_sound span s e)) ∙ gone) ∙ off a)
        where
          off : (a : Bool) → (a && false) ≡ false
          off true = refl
          off false = refl

  pub yet_open : is_expired trigger span.end mark ≡ false
      → (p : ℕ) (s : Interval) → (test p s || (p == place && same_span span s)) ≡ (test p s || (p == place && (not (is_expired trigger s.end mark) && same_span span s)))
  yet_open open_ p s = ap (λ b. test p s || (p == place && b)) (by (same_span span s) refl)
    where
      none : (b : Bool) → false ≡ (b && false)
      none true = refl
      none false = refl

      by : (b : Bool) → same_span span s ≡ b → b ≡ (not (is_expired trigger s.end mark) && b)
      by true on = sym (ap (λ b. not b && true) (ap (λ (x : Interval). is_expired trigger x.end mark) (sym (span_sound span s on)) ∙ open_))
      by false off = none (not (is_expired trigger s.end mark))

-- ---- marks rise

later_expired : (trigger : Trigger) (end a b : ℤ) → a ≤ℤ b → is_expired trigger end a ≡ true → is_expired trigger end b ≡ true
later_expired trigger end a b le e = grind (arith, ints)

earlier_open : (trigger : Trigger) (end a b : ℤ) → a ≤ℤ b → is_expired trigger end b ≡ false → is_expired trigger end a ≡ false
earlier_open trigger end a b le e = elim (cases_Bool (is_expired trigger end a)) [
  | inl on ↦ absurd (false≢true (sym e ∙ later_expired trigger end a b le on))
  | inr off ↦ off
]

pub longer_open : (trigger : Trigger) (a b mark : ℤ) → a ≤ℤ b → is_expired trigger a mark ≡ false → is_expired trigger b mark ≡ false
longer_open trigger a b mark le e = elim (cases_Bool (is_expired trigger b mark)) [
  | inl on ↦ absurd (false≢true (sym e ∙ shorter trigger a b mark le on))
  | inr off ↦ off
]
  where
    shorter : (trigger : Trigger) (a b mark : ℤ) → a ≤ℤ b → is_expired trigger b mark ≡ true → is_expired trigger a mark ≡ true
    shorter trigger a b mark le on = grind (arith, ints)

module _ (rules : GroupRules) (old mark : ℤ) (node : ℕ) (key : Value) (cells : List Cell) (rises : old ≤ℤ mark) where
  risen_test : (p : ℕ) (s : Interval) → (opens rules old node key cells p s && not (is_expired rules.trigger s.end mark)) ≡ opens rules mark node key cells p s
  risen_test p s = same_tests (opens rules old node key cells p s && not (is_expired rules.trigger s.end mark)) (opens rules mark node key cells p s) to from
    where
      to : (opens rules old node key cells p s && not (is_expired rules.trigger s.end mark)) ≡ true → opens rules mark node key cells p s ≡ true
      to on =
          let parts = and_parts (opens rules old node key cells p s) (not (is_expired rules.trigger s.end mark)) on in
          let found = opened_there rules old node key cells p s parts.0 in
          let h = found.2 in
          there_opened rules mark node key cells p s found.0 found.1
          (record {
            at = h.at;
            stands_ = h.stands_;
            open_ = ap (λ (x : Interval). is_expired rules.trigger x.end mark) h.is ∙ not_true (is_expired rules.trigger s.end mark) parts.1;
            is = h.is;
          })

      from : opens rules mark node key cells p s ≡ true → (opens rules old node key cells p s && not (is_expired rules.trigger s.end mark)) ≡ true
      from on =
          let found = opened_there rules mark node key cells p s on in
          let h = found.2 in
          and_from (opens rules old node key cells p s) (not (is_expired rules.trigger s.end mark))
          (there_opened rules old node key cells p s found.0 found.1
          (record { at = h.at; stands_ = h.stands_; open_ = earlier_open rules.trigger found.0.span.end old mark rises h.open_; is = h.is }))
          (ap not (ap (λ (x : Interval). is_expired rules.trigger x.end mark) (sym h.is) ∙ h.open_))

  pub risen_listed : (m n : BTreeMap ℤ Standing) → AreListed (opens rules old node key cells) m → IsWithout (λ s. is_expired rules.trigger s.end mark) m n
      → AreListed (opens rules mark node key cells) n
  risen_listed m n h without =
      listed_as (λ p s. opens rules old node key cells p s && not (is_expired rules.trigger s.end mark)) (opens rules mark node key cells) n risen_test
      (listed_without (opens rules old node key cells) (λ s. is_expired rules.trigger s.end mark) m n h without)

-- ---- which of them meet a window

module _ (rules : GroupRules) (mark : ℤ) (node : ℕ) (key : Value) (span : Interval) (cells : List Cell) where
  meets_as : (cell : Cell) → meets rules mark node key span cell ≡ true → IsOpenAs rules mark node key cell.span cell × (overlaps span cell.span ≡ true)
  meets_as cell on =
      let one = and_parts (is_cell_at_key node key cell) (is_open rules mark cell && overlaps span cell.span) on in
      let two = and_parts (is_open rules mark cell) (overlaps span cell.span) one.1 in
      let three = and_parts (is_standing cell.merged_into) (not (is_expired rules.trigger cell.span.end mark)) two.0 in
      (record { at = one.0; stands_ = three.0; open_ = not_true (is_expired rules.trigger cell.span.end mark) three.1; is = refl }, two.1)

  pub as_meets : (cell : Cell) (s : Interval) → IsOpenAs rules mark node key s cell → overlaps span s ≡ true → meets rules mark node key span cell ≡ true
  as_meets cell s h over =
      and_from (is_cell_at_key node key cell) (is_open rules mark cell && overlaps span cell.span) h.at
      (and_from (is_open rules mark cell) (overlaps span cell.span)
      (and_from (is_standing cell.merged_into) (not (is_expired rules.trigger cell.span.end mark)) h.stands_ (ap not h.open_))
      (ap (overlaps span) h.is ∙ over))

  pub places_are_met : (places : List ℕ) → ArePlacesMet (opens rules mark node key cells) span places → places ≡ meeting_places rules mark node key span cells
  places_are_met places h = places_same (meets rules mark node key span) cells 0 places h.ascend each whole
    where
      each : (n : ℕ) → Contains places n → (p : ℕ) × (n ≡ 0 + p) × (at_place (meets rules mark node key span) false cells p ≡ true)
      each n there =
          let met = h.each n there in
          let found = opened_there rules mark node key cells n met.0 met.1 in
          (n, omega arith, read_there (meets rules mark node key span) false cells n found.0 found.1 ∙ as_meets found.0 met.0 found.2 met.2)

      whole : (p : ℕ) → at_place (meets rules mark node key span) false cells p ≡ true → Contains places (0 + p)
      whole p on =
          let found = passes_there (meets rules mark node key span) cells p on in
          let is = meets_as found.0 found.2 in
          at_number places p (0 + p) (omega arith) (h.whole p found.0.span (there_opened rules mark node key cells p found.0.span found.0 found.1 is.0) is.1)

-- each window that is listed holds some time
pub listed_filled : (rules : GroupRules) (mark : ℤ) (node : ℕ) (key : Value) (cells : List Cell) (m : BTreeMap ℤ Standing) → AreListed (opens rules mark node key cells) m → AreFilled rules mark node key cells
listed_filled rules mark node key cells m h = λ k d less on.
    let cell = get_or cells k d in
    let one = and_parts (is_cell_at_key node key cell) (is_open rules mark cell) on in
    let two = and_parts (is_standing cell.merged_into) (not (is_expired rules.trigger cell.span.end mark)) one.1 in
    let there = h.all k cell.span
    (there_opened rules mark node key cells k cell.span cell (slice_get-get_or cells k d less)
    (record { at = one.0; stands_ = two.0; open_ = not_true (is_expired rules.trigger cell.span.end mark) two.1; is = refl })) in
    (h.apart.ends cell.span.end (record { span = cell.span; place = k }) there).1

pub all_filled : (rules : GroupRules) (mark : ℤ) (node : ℕ) (key : Value) (cells : List Cell) → All (λ cell. IsNonEmpty cell.span) cells → AreFilled rules mark node key cells
all_filled rules mark node key cells all = λ k d less on. all k d less

-- ---- one more cell stands behind the others

in_front : {X : Type 0} (xs ys : List X) (p : ℕ) → p < length xs → slice_get (xs ++ ys) p ≡ slice_get xs p
in_front [] ys p less = absurd (omega arith)
in_front (x ∷ xs) ys zero less = refl
in_front (x ∷ xs) ys (suc p) less = in_front xs ys p (omega arith)

other_read : {X : Type 0} (xs : List X) (p : ℕ) (x : X) → slice_get xs p ≡ Some x → length xs ≤ p → ⊥
other_read xs p x there past = absurd (let less = slice_get_within xs p x there in omega arith)

some_one : {X : Type 0} (x y : X) → Some x ≡ Some y → x ≡ y
some_one x y e = cc

module _ (rules : GroupRules) (mark : ℤ) (node : ℕ) (key : Value) (front : List Cell) (cell : Cell) (place : ℕ) (behind : place ≡ length front)
    (at : is_cell_at_key node key cell ≡ true) (on : is_standing cell.merged_into ≡ true) (before : ℕ → Interval → Bool)
    (same : (p : ℕ) (s : Interval) → p < length front → before p s ≡ opens rules mark node key front p s) (none : (p : ℕ) (s : Interval) → length front ≤ p → before p s ≡ true → ⊥) where
  abbrev here : ℕ → Interval → Bool
  here p s = p == place && (not (is_expired rules.trigger s.end mark) && same_span cell.span s)

  there : (p : ℕ) → p ≡ place → slice_get (front ++ cell ∷ []) p ≡ Some cell
  there p e = got front cell [] p (e ∙ behind)

  to : (p : ℕ) (s : Interval) → (before p s || here p s) ≡ true → opens rules mark node key (front ++ cell ∷ []) p s ≡ true
  to p s h = elim (or_cases (before p s) (here p s) h) [
    | inl old ↦ elim (cases_lt p (length front)) [
      | inl less ↦ longer (opened_there rules mark node key front p s (sym (same p s less) ∙ old)) less
      | inr past ↦ absurd (none p s past old)
    ]
    | inr new ↦ mine (and_parts (p == place) (not (is_expired rules.trigger s.end mark) && same_span cell.span s) new)
  ]
    where
      longer : (c : Cell) × (slice_get front p ≡ Some c) × IsOpenAs rules mark node key s c → p < length front → opens rules mark node key (front ++ cell ∷ []) p s ≡ true
      longer found less = there_opened rules mark node key (front ++ cell ∷ []) p s found.0 (in_front front (cell ∷ []) p less ∙ found.1) found.2

      mine : ((p == place) ≡ true) × ((not (is_expired rules.trigger s.end mark) && same_span cell.span s) ≡ true) → opens rules mark node key (front ++ cell ∷ []) p s ≡ true
      mine parts =
          let two = and_parts (not (is_expired rules.trigger s.end mark)) (same_span cell.span s) parts.1 in
          let is = span_sound cell.span s two.1 in
          there_opened rules mark node key (front ++ cell ∷ []) p s cell (there p ((Decides-eqb p place).0 parts.0))
          (record { at = at; stands_ = on; open_ = ap (λ (x : Interval). is_expired rules.trigger x.end mark) is ∙ not_true (is_expired rules.trigger s.end mark) two.0; is = is })

  from : (p : ℕ) (s : Interval) → opens rules mark node key (front ++ cell ∷ []) p s ≡ true → (before p s || here p s) ≡ true
  from p s h = by (opened_there rules mark node key (front ++ cell ∷ []) p s h) (cases_lt p (length front))
    where
      by : (c : Cell) × (slice_get (front ++ cell ∷ []) p ≡ Some c) × IsOpenAs rules mark node key s c → (p < length front) ⊎ (length front ≤ p) → (before p s || here p s) ≡ true
      by found (inl less) =
          or_left (before p s) (here p s)
          (same p s less ∙ there_opened rules mark node key front p s found.0 (sym (in_front front (cell ∷ []) p less) ∙ found.1) found.2)
      by found (inr past) =
          let within = slice_get_within (front ++ cell ∷ []) p found.0 found.1 in
          let e : p ≡ place = omega (arith, within, past, behind, length-append front (cell ∷ [])) in
          let c : found.0 ≡ cell = some_one found.0 cell (sym found.1 ∙ there p e) in
          let is : cell.span ≡ s = ap (λ (x : Cell). x.span) (sym c) ∙ found.2.is in
          or_right (before p s) (here p s)
          (and_from (p == place) (not (is_expired rules.trigger s.end mark) && same_span cell.span s) ((Decides-eqb p place).1 e)
          (and_from (not (is_expired rules.trigger s.end mark)) (same_span cell.span s)
          (ap not (ap (λ (x : Interval). is_expired rules.trigger x.end mark) (sym found.2.is) ∙ found.2.open_))
          (ap (same_span cell.span) (sym is) ∙ span_itself cell.span)))

  pub behind_opens : (p : ℕ) (s : Interval)
      → (before p s || (p == place && (not (is_expired rules.trigger s.end mark) && same_span cell.span s))) ≡ opens rules mark node key (front ++ cell ∷ []) p s
  behind_opens p s = same_tests (before p s || here p s) (opens rules mark node key (front ++ cell ∷ []) p s) (to p s) (from p s)

pub pushed_opens : (rules : GroupRules) (mark : ℤ) (node : ℕ) (key : Value) (cells : List Cell) (cell : Cell) (place : ℕ) → place ≡ length cells → is_cell_at_key node key cell ≡ true
    → is_standing cell.merged_into ≡ true → (p : ℕ) (s : Interval)
    → (opens rules mark node key cells p s || (p == place && (not (is_expired rules.trigger s.end mark) && same_span cell.span s))) ≡ opens rules mark node key (cells ++ cell ∷ []) p s
pushed_opens rules mark node key cells cell place behind at on =
    behind_opens rules mark node key cells cell place behind at on (opens rules mark node key cells) (λ p s less. refl)
    (λ p s past open_. let found = opened_there rules mark node key cells p s open_ in other_read cells p found.0 found.1 past)

-- ---- a session was opened

pub once_cases : (rules : GroupRules) (mark : ℤ) (node : ℕ) (key : Value) (w : Interval) (cell : Cell)
    → (once_opened_at rules mark node (opening_of key w) cell ≡ cell)
    ⊎ ((is_cell_at_key node key cell ≡ true) × (gives_way rules mark w cell ≡ true) × (is_standing (once_opened_at rules mark node (opening_of key w) cell).merged_into ≡ false))
once_cases rules mark node key w cell = by (is_cell_at_key node key cell) refl (gives_way rules mark w cell) refl
  where
    by : (a : Bool) → is_cell_at_key node key cell ≡ a → (g : Bool) → gives_way rules mark w cell ≡ g
        → (cond a (cond g (record cell { entries = []; merged_into = Some w }) cell) cell ≡ cell)
        ⊎ ((is_cell_at_key node key cell ≡ true) × (gives_way rules mark w cell ≡ true) × (is_standing (cond a (cond g (record cell { entries = []; merged_into = Some w }) cell) cell).merged_into ≡ false))
    by true f true e = inr (f, e, refl)
    by true f false e = inl refl
    by false f g e = inl refl

-- what a cell is that gives way to a session
pub way_open : (rules : GroupRules) (mark : ℤ) (node : ℕ) (key : Value) (w : Interval) (cell : Cell) → is_cell_at_key node key cell ≡ true → gives_way rules mark w cell ≡ true
    → IsOpenAs rules mark node key cell.span cell × (lies_in cell.span w ≡ true)
way_open rules mark node key w cell at way =
    let a = and_parts (is_standing cell.merged_into) (is_absorbed rules mark w cell.span) way in
    let one = and_parts rules.merges (not (is_expired rules.trigger cell.span.end mark) && (lies_in cell.span w && not (same_span cell.span w))) a.1 in
    let two = and_parts (not (is_expired rules.trigger cell.span.end mark)) (lies_in cell.span w && not (same_span cell.span w)) one.1 in
    (record { at = at; stands_ = a.0; open_ = not_true (is_expired rules.trigger cell.span.end mark) two.0; is = refl }, (and_parts (lies_in cell.span w) (not (same_span cell.span w)) two.1).0)

none_among : (f : ℕ → Bool) (places : List ℕ) (p : ℕ) → list_any f places ≡ false → Contains places p → f p ≡ false
none_among f [] p none c = absurd (let less = c.1 in omega arith)
none_among f (q ∷ places) p none c = by c.0 c.1 c.2 (none_among f places p)
  where
    parts : (f q ≡ false) × (list_any f places ≡ false)
    parts = or_parts (f q) (list_any f places) none

    by : (k : ℕ) → k < length (q ∷ places) → get_or (q ∷ places) k p ≡ p → (list_any f places ≡ false → Contains places p → f p ≡ false) → f p ≡ false
    by zero less is ih = ap f (sym is) ∙ parts.0
    by (suc k) less is ih = ih parts.1 (k, omega arith, is)

module _ (rules : GroupRules) (mark : ℤ) (node : ℕ) (key : Value) (w : Interval) (place : ℕ) (old new : List Cell) (opened_ : HasOpened rules mark node key w place old new)
    (m : BTreeMap ℤ Standing) (h : AreListed (opens rules mark node key old) m)
    (gone : list_any (at_place stands false new) (meeting_places rules mark node key w old) ≡ false) where
  abbrev once : Cell → Cell
  once = once_opened_at rules mark node (opening_of key w)

  abbrev front : List Cell
  front = map (once_opened_at rules mark node (opening_of key w)) old

  abbrev stays : ℕ → Interval → Bool
  stays p s = opens rules mark node key old p s && not (overlaps w s)

  filled : (p : ℕ) (s : Interval) → opens rules mark node key old p s ≡ true → IsNonEmpty s
  filled p s on = (h.apart.ends s.end (record { span = s; place = p }) (h.all p s on)).1

  -- one that gives way overlaps the session
  way_over : (cell : Cell) (s : Interval) → is_cell_at_key node key cell ≡ true → cell.span ≡ s → IsNonEmpty s → gives_way rules mark w cell ≡ true → overlaps w s ≡ true
  way_over cell s at is some way =
      overlaps_back s w (lies_overlaps s w some (subst (λ (x : Interval). LiesIn x w) is (lies_from cell.span w (way_open rules mark node key w cell at way).1)))

  same_front : (p : ℕ) (s : Interval) → p < length front → stays p s ≡ opens rules mark node key front p s
  same_front p s less = same_tests (stays p s) (opens rules mark node key front p s) to_ from_
    where
      to_ : stays p s ≡ true → opens rules mark node key front p s ≡ true
      to_ on =
          let parts = and_parts (opens rules mark node key old p s) (not (overlaps w s)) on in
          by (opened_there rules mark node key old p s parts.0) (filled p s parts.0) (not_true (overlaps w s) parts.1)
        where
          by : (c : Cell) × (slice_get old p ≡ Some c) × IsOpenAs rules mark node key s c → IsNonEmpty s → overlaps w s ≡ false → opens rules mark node key front p s ≡ true
          by found some off = elim (once_cases rules mark node key w found.0) [
            | inl kept ↦ there_opened rules mark node key front p s found.0 (slice_get-map once old p ∙ ap (option_map once) found.1 ∙ ap (λ x. Some x) kept) found.2
            | inr way ↦ absurd (false≢true (sym off ∙ way_over found.0 s way.0 found.2.is some way.1))
          ]

      from_ : opens rules mark node key front p s ≡ true → stays p s ≡ true
      from_ on = by (opened_there rules mark node key front p s on) (slice_get old p) refl
        where
          by : (c : Cell) × (slice_get front p ≡ Some c) × IsOpenAs rules mark node key s c → (o : Option Cell) → slice_get old p ≡ o → stays p s ≡ true
          by found None e = let x : None ≡ Some found.0 = sym (slice_get-map once old p ∙ ap (option_map once) e) ∙ found.1 in absurd (cc)
          by found (Some cell) e = kept (once_cases rules mark node key w cell)
            where
              is_once : once cell ≡ found.0
              is_once = some_one (once cell) found.0 (sym (slice_get-map once old p ∙ ap (option_map once) e) ∙ found.1)

              kept : (once cell ≡ cell) ⊎ ((is_cell_at_key node key cell ≡ true) × (gives_way rules mark w cell ≡ true) × (is_standing (once cell).merged_into ≡ false)) → stays p s ≡ true
              kept (inr way) = absurd (false≢true (sym way.2 ∙ ap (λ (x : Cell). is_standing x.merged_into) is_once ∙ found.2.stands_))
              kept (inl same_) = and_from (opens rules mark node key old p s) (not (overlaps w s)) (there_opened rules mark node key old p s cell e open_) (ap not off)
                where
                  open_ : IsOpenAs rules mark node key s cell
                  open_ = subst (IsOpenAs rules mark node key s) (sym is_once ∙ same_) found.2

                  off : overlaps w s ≡ false
                  off = elim (cases_Bool (overlaps w s)) [
                    | inl over ↦
                        let met = in_places (meets rules mark node key w) old 0 p (read_there (meets rules mark node key w) false old p cell e ∙ as_meets rules mark node key w old cell s open_ over) in
                        let down = none_among (at_place stands false new) (meeting_places rules mark node key w old) (0 + p) gone met in
                        let none_more : 0 + p ≡ p = omega arith in
                        let new_there : slice_get new (0 + p) ≡ Some found.0 =
                        ap (slice_get new) none_more ∙ ap (λ l. slice_get l p) opened_.is ∙ in_front front (fresh_cell node key w opened_.given ∷ []) p less ∙ found.1 in
                        absurd (false≢true (sym down ∙ read_there stands false new (0 + p) found.0 new_there ∙ found.2.stands_))
                    | inr none ↦ none
                  ]

  pub opened_opens : (p : ℕ) (s : Interval) → ((opens rules mark node key old p s && not (overlaps w s)) || (p == place && same_span w s)) ≡ opens rules mark node key new p s
  opened_opens p s =
      yet_open rules.trigger mark w place stays opened_.open_ p s
      ∙ behind_opens rules mark node key front (fresh_cell node key w opened_.given) place (opened_.at ∙ sym (length-map old once)) (at_itself node key) refl stays same_front
      (λ q t past on.
      let parts = and_parts (opens rules mark node key old q t) (not (overlaps w t)) on in
      let found = opened_there rules mark node key old q t parts.0 in
      other_read old q found.0 found.1 (omega (arith, past, length-map old once))) p s
      ∙ ap (λ l. opens rules mark node key l p s) (sym opened_.is)

-- ---- an entry was put

pub put_opens : (rules : GroupRules) (mark : ℤ) (node : ℕ) (key : Value) (entry : Entry) (cells : List Cell) (p : ℕ) (s : Interval)
    → opens rules mark node key cells p s ≡ opens rules mark node key (put_at rules node key entry cells) p s
put_opens rules mark node key entry [] p s = refl
put_opens rules mark node key entry (cell ∷ cells) p s = by (takes_at rules node key entry cell) p (λ q. put_opens rules mark node key entry cells q s)
  where
    by : (b : Bool) (p : ℕ) → ((q : ℕ) → opens rules mark node key cells q s ≡ opens rules mark node key (put_at rules node key entry cells) q s)
        → opens rules mark node key (cell ∷ cells) p s ≡ opens rules mark node key (cond b (with_entry entry cell ∷ cells) (cell ∷ put_at rules node key entry cells)) p s
    by true zero ih = refl
    by true (suc p) ih = refl
    by false zero ih = refl
    by false (suc p) ih = ih p

-- ---- cells of other keys

-- the test of a cell's place and of where it was merged
abbrev opens_by : GroupRules → ℤ → Interval → CellPlace → Option Interval → Bool
opens_by rules mark s place merged = (is_standing merged && not (is_expired rules.trigger place.span.end mark)) && same_span place.span s

pub known_alike : (rules : GroupRules) (node : ℕ) (key : Value) (old new : List Cell) (behind : List CellPlace) (o : Option Known) → map cell_place new ≡ map cell_place old ++ behind
    → map (λ (cell : Cell). cell.merged_into) (filter (is_cell_at_key node key) new) ≡ map (λ (cell : Cell). cell.merged_into) (filter (is_cell_at_key node key) old)
    → IsKnownOf rules node key old o → IsKnownOf rules node key new o
known_alike rules node key old new behind None places same h = λ p. read_alike node key (λ _ merged. is_standing merged) old new behind places same p ∙ h p
known_alike rules node key old new behind (Some (Apart listed)) places same h =
    listed_as (opens rules listed.mark node key old) (opens rules listed.mark node key new) listed.by_end
    (λ p s. sym (read_alike node key (opens_by rules listed.mark s) old new behind places same p)) h
known_alike rules node key old new behind (Some Nothing) places same h = tt

-- of a key that is the same what is known is the same
pub known_same : (rules : GroupRules) (n : ℕ) (k : Value) (node : ℕ) (key : Value) (cells : List Cell) (o : Option Known) → ((cell : Cell) → is_cell_at_key n k cell ≡ is_cell_at_key node key cell)
    → IsKnownOf rules n k cells o → IsKnownOf rules node key cells o
known_same rules n k node key cells None same h = subst (λ (at : Cell → Bool). (p : ℕ) → at_place (λ cell. at cell && stands cell) false cells p ≡ false) (λ i cell. same cell i) h
known_same rules n k node key cells (Some (Apart listed)) same h =
    subst (λ (at : Cell → Bool). AreListed (λ p s. at_place (λ cell. at cell && (is_open rules listed.mark cell && same_span cell.span s)) false cells p) listed.by_end) (λ i cell. same cell i) h
known_same rules n k node key cells (Some Nothing) same h = tt
