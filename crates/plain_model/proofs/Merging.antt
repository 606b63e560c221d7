-- Sessions: a window grown over the windows that overlap it, and elements that are put into sessions one after another.
use Rattle.std.proofs.Common.{◌≡◌, ◌⊎◌, ℕ, suc, ◌+◌, ◌<◌, ◌≤◌, ℤ, pos, negsuc, Bool, true, false, cond, ◌==◌, List, [], ◌∷◌, ◌++◌, length, get_or, map, take, drop, refl, sym, ap, subst, ◌∙◌, inl, inr, arith, take-append-drop}
use Rattle.std.specs.Prelude.{◌≤ℤ◌, ◌<ℤ◌, ◌-ℤ◌, int_lt}
use Rattle.std.specs.Int.{int_min, int_max}
use Rattle.std.specs.declared.cmp.Ordering.{Ordering}
use Rattle.std.specs.declared.cmp.Ordering.TheVariants.{Less, Equal, Greater}
use Rattle.std.specs.Ordering.{ordering_index}
use Rattle.std.specs.List.{All, Any, filter}
use Rattle.std.specs.Str.{bytes_eq}
use Rattle.std.proofs.Math.Seq.{drop-cons}
use Rattle.std.proofs.lemmas.Cmp.{nat_list_cmp_total, tied_itself}
use Rattle.std.proofs.lemmas.Int.{ints, clamps, by_lt_z}
use Rattle.std.proofs.lemmas.List.{get_or_at, take_all, take_more, map-append, length-append}
use Rattle.std.proofs.lemmas.List.Elements.{All-nil, All-cons, All-head, All-tail, All-more, All-push, All-map, All-weaker, filter-append}
use Rattle.std.proofs.lemmas.Slice.Eq.{bytes_eq-Decides}
use Rattle.beam_values.specs.Intervals.{Interval}
use Rattle.beam_values.specs.Grouping.{key_of}
use Rattle.beam_values.specs.Orders.{value_cmp, bytes_cmp}
use Rattle.beam_values.specs.Spelling.{spelling}
use Rattle.beam_values.specs.Windows.{or_zero}
use Rattle.beam_values.specs.declared.value.Value.{Value}
use Rattle.beam_values.specs.declared.element.Element.{Element}
use Rattle.beam_values.proofs.Lexicographic.{same_where_tied}
use Rattle.beam_values.specs.Sessions.{Overlaps, LiesIn, hull, IsInside, IsSession}
use Rattle.beam_model.specs.Sessions.{is_keyed, Merged, IsMergedIn, IsMerging, in_session}
use Rattle.plain_model.specs.Sessions.{IsSettled, IsOneOf, IsPart, spans_with, IsInSession}

keyed_apart : (a b : Element) → (value_cmp (key_of b) (key_of a) ≡ Equal → ⊥) → (t : Bool) → is_keyed (key_of a) b ≡ t → false ≡ t
keyed_apart a b other false e = refl
keyed_apart a b other true e =
    absurd (other (ap (λ (x : List ℕ). bytes_cmp x (spelling (key_of a))) ((bytes_eq-Decides (spelling (key_of b)) (spelling (key_of a))).0 e) ∙ tied_itself nat_list_cmp_total (spelling (key_of a))))

-- keys are alike where their order is a tie
pub keyed_alike : (a b : Element) (o : Ordering) → o ≡ value_cmp (key_of b) (key_of a) → (ordering_index o == 1) ≡ is_keyed (key_of a) b
keyed_alike a b Less is = keyed_apart a b (λ e. absurd cc) (is_keyed (key_of a) b) refl
keyed_alike a b Equal is =
    sym ((bytes_eq-Decides (spelling (key_of b)) (spelling (key_of a))).1 (same_where_tied (spelling (key_of b)) (spelling (key_of a)) (sym is)))
keyed_alike a b Greater is = keyed_apart a b (λ e. absurd cc) (is_keyed (key_of a) b) refl

any_at : {X : Type 0} (P : X → Type 0) (xs ys : List X) (y : X) → P y → Any P (xs ++ y ∷ ys)
any_at P xs ys y h =
    (length xs, y, omega (arith, length-append xs (y ∷ ys)), get_or_at xs y ys y (length xs) refl, h)

any_of : {X : Type 0} (P Q : X → Type 0) (xs : List X) → ((x : X) → P x → Q x) → Any P xs → Any Q xs
any_of P Q xs more h = (h.0, h.1, h.2, h.3, more h.1 h.4)

any_one : (P : Interval → Type 0) (spans : List Interval) (span : Interval) → IsOneOf spans span → P span → Any P spans
any_one P spans span one h = any_of (λ other. other ≡ span) P spans (λ other e. subst P (sym e) h) one

-- an element's window is among those of the elements with its key
pub one_of_keyed : (a : Element) (elements : List Element) (i : ℕ) (e : Element) → i < length elements → e ≡ get_or elements i e
    → is_keyed (key_of a) e ≡ true → IsOneOf (spans_with a elements) e.span
one_of_keyed a elements i e within is keyed =
    let front = take i elements in
    let back = drop (suc i) elements in
    let split : elements ≡ front ++ e ∷ back =
    sym (take-append-drop i elements) ∙ ap (λ (l : List Element). front ++ l) (drop-cons elements i e within) ∙ ap (λ (x : Element). front ++ x ∷ back) (sym is) in
    subst (λ (l : List Element). IsOneOf (spans_with a l) e.span) (sym split)
    (subst (λ (l : List Interval). IsOneOf l e.span) (sym (spans front back)) (any_at (λ other. other ≡ e.span) (spans_with a front) (spans_with a back) e.span refl))
  where
    kept : Element → Bool
    kept = is_keyed (key_of a)

    spans : (front back : List Element) → spans_with a (front ++ e ∷ back) ≡ spans_with a front ++ e.span ∷ spans_with a back
    spans front back =
        ap (map (λ (x : Element). x.span)) (filter-append kept front (e ∷ back))
        ∙ map-append (λ (x : Element). x.span) (filter kept front) (filter kept (e ∷ back))
        ∙ ap (λ (b : Bool). spans_with a front ++ map (λ (x : Element). x.span) (cond b (e ∷ filter kept back) (filter kept back))) keyed

-- what holds of the windows of the elements with a key holds of all of those windows
pub all_spans : (a : Element) (P : Interval → Type 0) (elements : List Element) → All (λ e. is_keyed (key_of a) e ≡ true → P e.span) elements
    → All P (spans_with a elements)
all_spans a P [] h = All-nil P
all_spans a P (e ∷ es) h =
    by_test (is_keyed (key_of a) e) refl (all_spans a P es (All-tail (λ x. is_keyed (key_of a) x ≡ true → P x.span) e es h))
  where
    by_test : (b : Bool) → is_keyed (key_of a) e ≡ b → All P (spans_with a es)
        → All P (map (λ x. x.span) (cond b (e ∷ filter (is_keyed (key_of a)) es) (filter (is_keyed (key_of a)) es)))
    by_test true is rest = All-cons P e.span (spans_with a es) (All-head (λ x. is_keyed (key_of a) x ≡ true → P x.span) e es h is) rest
    by_test false is rest = rest

pub keyed_itself : (e : Element) → is_keyed (key_of e) e ≡ true
keyed_itself e = (bytes_eq-Decides (spelling (key_of e)) (spelling (key_of e))).1 refl

-- the windows of two elements with one key
pub spans_alike : (a b : Element) (elements : List Element) → is_keyed (key_of a) b ≡ true → spans_with a elements ≡ spans_with b elements
spans_alike a b elements h =
    ap (λ (key : List ℕ). map (λ (x : Element). x.span) (filter (λ (x : Element). bytes_eq (spelling (key_of x)) key) elements))
    (sym ((bytes_eq-Decides (spelling (key_of b)) (spelling (key_of a))).0 h))

pub part_first : (spans : List Interval) (span : Interval) → span.start <ℤ span.end → IsOneOf spans span → IsPart spans span
part_first spans span ordered one = record {
  ordered = ordered;
  begins = any_one (λ s. s.start ≡ span.start) spans span one refl;
  ends = any_one (λ s. s.end ≡ span.end) spans span one refl;
  joined = λ x inside. any_one (λ s. IsInside s x) spans span one inside;
}

int_cases : (a b : ℤ) → (a <ℤ b) ⊎ (b ≤ℤ a)
int_cases a b = by_lt_z a b (λ h. inl h) (λ h. inr h)

pub part_more : (spans : List Interval) (part span : Interval) → IsPart spans part → IsOneOf spans span → Overlaps part span → IsPart spans (hull part span)
part_more spans part span h one over = record {
  ordered = omega (arith, ints, clamps, h.ordered);
  begins = begins_by (int_lt span.start part.start);
  ends = ends_by (int_lt span.end part.end);
  joined = λ x inside. joined_by x inside (int_cases part.start x) (int_cases x part.end);
}
  where
    begins_by : (b : Bool) → Any (λ s. s.start ≡ cond b span.start part.start) spans
    begins_by true = any_one (λ s. s.start ≡ span.start) spans span one refl
    begins_by false = h.begins

    ends_by : (b : Bool) → Any (λ s. s.end ≡ cond b part.end span.end) spans
    ends_by true = h.ends
    ends_by false = any_one (λ s. s.end ≡ span.end) spans span one refl

    joined_by : (x : ℤ) → IsInside (hull part span) x → (part.start <ℤ x) ⊎ (x ≤ℤ part.start) → (x <ℤ part.end) ⊎ (part.end ≤ℤ x) → Any (λ s. IsInside s x) spans
    joined_by x inside (inl above) (inl below) = h.joined x (above, below)
    joined_by x inside (inr low) end = any_one (λ s. IsInside s x) spans span one (omega (arith, ints, clamps), omega (arith, ints, clamps))
    joined_by x inside start (inr high) = any_one (λ s. IsInside s x) spans span one (omega (arith, ints, clamps), omega (arith, ints, clamps))

pub in_hull : (inner part span : Interval) → LiesIn inner part → LiesIn inner (hull part span)
in_hull inner part span h = (omega (arith, ints, clamps), omega (arith, ints, clamps))

pub session_from_part : (spans : List Interval) (session : Interval) → IsPart spans session → All (IsSettled session) spans → IsSession spans session
session_from_part spans session h apart = record { ordered = h.ordered; begins = h.begins; ends = h.ends; joined = h.joined; apart = apart }

-- how much longer a window of 64-bit numbers can grow
abbrev left : Interval → ℤ
left span = pos 18446744073709551616 -ℤ (span.end -ℤ span.start)

abbrev pub room : Interval → ℕ
room span = or_zero (left span)

less_by : (a b : ℤ) → pos 0 ≤ℤ a → a <ℤ b → or_zero a < or_zero b
less_by (pos a) (pos b) low less = omega (arith, ints)
less_by (pos a) (negsuc b) low less = absurd (omega (arith, ints))
less_by (negsuc a) b low less = absurd (omega (arith, ints))

pub room_falls : (session span grown : Interval) → grown ≡ hull session span → (LiesIn span session → ⊥) → negsuc 9223372036854775807 ≤ℤ grown.start → grown.end ≤ℤ pos 9223372036854775807
    → room grown < room session
room_falls session span grown is out low high =
    let starts : grown.start ≡ int_min session.start span.start = ap (λ (s : Interval). s.start) is in
    let ends : grown.end ≡ int_max session.end span.end = ap (λ (s : Interval). s.end) is in
    by_ends starts ends (int_cases span.start session.start) (int_cases session.end span.end)
  where
    by_ends : grown.start ≡ int_min session.start span.start → grown.end ≡ int_max session.end span.end
        → (span.start <ℤ session.start) ⊎ (session.start ≤ℤ span.start) → (session.end <ℤ span.end) ⊎ (span.end ≤ℤ session.end) → room grown < room session
    by_ends starts ends (inl before) end = less_by (left grown) (left session) (omega (arith, ints)) (omega (arith, ints, clamps))
    by_ends starts ends (inr start) (inl after) = less_by (left grown) (left session) (omega (arith, ints)) (omega (arith, ints, clamps))
    by_ends starts ends (inr start) (inr end) = absurd (out (start, end))

pub settled_more : (a : Element) (session : Interval) (elements : List Element) (i : ℕ) (e : Element) → i < length elements → e ≡ get_or elements i e
    → (is_keyed (key_of a) e ≡ true → IsSettled session e.span)
    → All (λ x. is_keyed (key_of a) x ≡ true → IsSettled session x.span) (take i elements)
    → All (λ x. is_keyed (key_of a) x ≡ true → IsSettled session x.span) (take (i + 1) elements)
settled_more a session elements i e within is here before =
    let P : Element → Type 0 = λ x. is_keyed (key_of a) x ≡ true → IsSettled session x.span in
    All-more P elements i e within before (subst P is here)

pub settled_all : (a : Element) (session : Interval) (elements : List Element) (i : ℕ) → length elements ≤ i
    → All (λ x. is_keyed (key_of a) x ≡ true → IsSettled session x.span) (take i elements) → All (IsSettled session) (spans_with a elements)
settled_all a session elements i ended before =
    let P : Element → Type 0 = λ x. is_keyed (key_of a) x ≡ true → IsSettled session x.span in
    all_spans a (IsSettled session) elements (subst (λ (l : List Element). All P l) (take_all i elements ended) before)

-- what is a session of one element's key is one of another's with the same key
pub session_known : (a : Element) (elements known : List Element) (i : ℕ) (e : Element) → i < length known → e ≡ get_or known i e
    → All (IsInSession elements) known → is_keyed (key_of a) e ≡ true → IsSession (spans_with a elements) e.span
session_known a elements known i e within is all keyed =
    subst (λ (spans : List Interval). IsSession spans e.span) (sym (spans_alike a e elements keyed))
    (subst (IsInSession elements) (sym is) (all i e within))

-- some elements are put into their sessions
pub record IsMergedUpTo (elements front sessioned : List Element) : Type 0 where
  pub merged : List Merged
  pub those : front ≡ map (λ m. m.element) merged
  pub each : All (IsMergedIn elements) merged
  pub moved : sessioned ≡ map in_session merged

pub merged_none : (elements : List Element) → IsMergedUpTo elements [] []
merged_none elements = record { merged = []; those = refl; each = All-nil (IsMergedIn elements); moved = refl }

pub merged_more : (elements sessioned new : List Element) (i : ℕ) (e : Element) (value : Value) (span : Interval) → i < length elements → e ≡ get_or elements i e
    → value ≡ e.value → IsSession (spans_with e elements) span → LiesIn e.span span
    → new ≡ sessioned ++ record { value = value; time = e.time; span = span; pane = e.pane } ∷ []
    → IsMergedUpTo elements (take i elements) sessioned → IsMergedUpTo elements (take (i + 1) elements) new
merged_more elements sessioned new i e value span within is copied session inside pushed h =
    let m : Merged = record { element = e; session = span } in
    record {
      merged = h.merged ++ m ∷ [];
      those = take_more elements i e within ∙ ap (λ (x : Element). take i elements ++ x ∷ []) (sym is)
          ∙ ap (λ (l : List Element). l ++ e ∷ []) h.those ∙ sym (map-append (λ (x : Merged). x.element) h.merged (m ∷ []));
      each = All-push (IsMergedIn elements) h.merged m h.each (session, inside);
      moved = pushed ∙ ap (λ (v : Value). sessioned ++ record { value = v; time = e.time; span = span; pane = e.pane } ∷ []) copied
          ∙ ap (λ (l : List Element). l ++ in_session m ∷ []) h.moved ∙ sym (map-append in_session h.merged (m ∷ []));
    }

-- the elements that are put into sessions are in sessions
pub merged_known : (elements front sessioned : List Element) → IsMergedUpTo elements front sessioned → All (IsInSession elements) sessioned
merged_known elements front sessioned h =
    subst (λ (l : List Element). All (IsInSession elements) l) (sym h.moved)
    (All-map (IsInSession elements) in_session h.merged (All-weaker (IsMergedIn elements) (λ m. IsInSession elements (in_session m)) (λ m k. k.0) h.merged h.each))

pub merged_all : (elements sessioned : List Element) (i : ℕ) → length elements ≤ i → IsMergedUpTo elements (take i elements) sessioned → IsMerging elements sessioned
merged_all elements sessioned i ended h = record {
  merged = h.merged;
  those = sym (take_all i elements ended) ∙ h.those;
  each = h.each;
  moved = h.moved;
}
