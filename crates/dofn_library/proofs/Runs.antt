-- In a view of pairs in ascending order the values with one key stand together, behind those whose key is less.
use Rattle.std.proofs.Common.{◌≡◌, ◌≢◌, ℕ, zero, suc, ◌+◌, ◌<◌, Bool, true, false, ◌&&◌, List, [], ◌∷◌, ◌++◌, length, take, drop, get_or, Option, Some, None, refl, ap, ◌∙◌, sym, arith, append-nil, true≢false}
use Rattle.std.specs.Prelude.{if◌then◌else◌, bytes_eq, unwrap_or}
use Rattle.std.specs.List.{flat_map, list_all}
use Rattle.std.specs.List.Sorted.{IsPartitionedBy, IsPartitionPoint, IsSorted}
use Rattle.std.specs.Option.{option_map}
use Rattle.std.specs.Ordering.{is_lt, ordering_reverse, nat_cmp}
use Rattle.std.specs.Cmp.Lexicographic.{slice_cmp}
use Rattle.std.specs.declared.cmp.Ordering.{Ordering}
use Rattle.std.specs.declared.cmp.Ordering.TheVariants.{Less, Equal, Greater}
use Rattle.std.proofs.lemmas.Grind.{flat_map-append}
use Rattle.std.proofs.lemmas.List.{get_or-drop, length-drop, take-append-drop}
use Rattle.std.proofs.lemmas.List.Sorted.{sorted_far}
use Rattle.std.proofs.lemmas.List.Sums.{AllPass-from_list_all}
use Rattle.std.proofs.lemmas.Slice.Eq.{bytes_eq-Decides}
use Rattle.beam_values.specs.Orders.{value_cmp}
use Rattle.beam_values.specs.Spelling.{spelling}
use Rattle.beam_values.specs.declared.value.Value.{Value}
use Rattle.beam_values.specs.declared.value.Value.TheVariants.{Pair}
use Rattle.beam_values.proofs.Lexicographic.{same_where_tied, tied}
use Rattle.beam_values.proofs.Spellings.{pairs_apart}
use Rattle.beam_model.proofs.Ascending.{value_total}
use Rattle.beam_model.specs.Functions.{ascending, insert_value, found_as, found_in, is_pair}
use Rattle.beam_model.specs.Values.{KeyedValue, as_pair}
use Rattle.dofn_library.specs.Sides.{has_key, is_before}
use Rattle.dofn_library.proofs.Lookups.{pair_where}
use Rattle.dofn_library.proofs.StableSorts.{less, less_order}

-- ---- a view keeps its pairs in order

swapped : (a b c : Bool) → (a && (b && c)) ≡ (b && (a && c))
swapped true b c = refl
swapped false true c = refl
swapped false false c = refl

inserted_pairs : (v : Value) (ws : List Value) → list_all is_pair (insert_value v ws) ≡ (is_pair v && list_all is_pair ws)
inserted_pairs v [] = refl
inserted_pairs v (w ∷ ws) = by_test (less w v) (inserted_pairs v ws)
  where
    by_test : (first : Bool) → list_all is_pair (insert_value v ws) ≡ (is_pair v && list_all is_pair ws)
        → list_all is_pair (if first then w ∷ insert_value v ws else v ∷ w ∷ ws) ≡ (is_pair v && (is_pair w && list_all is_pair ws))
    by_test true rest = ap (λ later. is_pair w && later) rest ∙ swapped (is_pair w) (is_pair v) (list_all is_pair ws)
    by_test false rest = refl

pub ascending_pairs : (views : List Value) → list_all is_pair (ascending views) ≡ list_all is_pair views
ascending_pairs [] = refl
ascending_pairs (v ∷ vs) = inserted_pairs v (ascending vs) ∙ ap (λ later. is_pair v && later) (ascending_pairs vs)

-- ---- pairs that rise have keys that rise

keyed : (v : Value) → is_pair v ≡ true → (keyed : KeyedValue) × (as_pair v ≡ Some keyed)
keyed v is = by_pair (as_pair v) refl is
  where
    by_pair : (seen : Option KeyedValue) → as_pair v ≡ seen → unwrap_or (option_map (λ (keyed : KeyedValue). true) seen) false ≡ true → (keyed : KeyedValue) × (as_pair v ≡ Some keyed)
    by_pair None e is = absurd (true≢false (sym is))
    by_pair (Some keyed) e is = (keyed, e)

keys_rise : (own p k q : Value) → less (Pair own p) (Pair k q) ≡ false → less own k ≡ false
keys_rise own p k q up = by_order (slice_cmp nat_cmp (spelling own) (spelling k)) refl
  where
    by_order : (o : Ordering) → slice_cmp nat_cmp (spelling own) (spelling k) ≡ o → less own k ≡ false
    by_order Less e =
        let apart : slice_cmp nat_cmp (spelling own) (spelling k) ≢ Equal = λ tie. (let impossible : Less ≡ Equal = sym e ∙ tie in absurd cc) in
        let below : less (Pair own p) (Pair k q) ≡ true = ap is_lt (pairs_apart own p k q apart ∙ e) in
        absurd (true≢false (sym below ∙ up))
    by_order Equal e = ap is_lt e
    by_order Greater e = ap is_lt e

keys_up : (v w : Value) (a b : KeyedValue) → as_pair v ≡ Some a → as_pair w ≡ Some b → less w v ≡ false → less b.key a.key ≡ false
keys_up v w a b is_a is_b up =
    keys_rise b.key b.part a.key a.part
    (ap (λ it. less it (Pair a.key a.part)) (sym (pair_where w b is_b)) ∙ ap (λ it. less w it) (sym (pair_where v a is_a)) ∙ up)

-- keys of which neither is less are spelled alike
neither_less : (a b : Value) → less a b ≡ false → less b a ≡ false → spelling a ≡ spelling b
neither_less a b e f = by_order (value_cmp a b) refl
  where
    by_order : (o : Ordering) → value_cmp a b ≡ o → spelling a ≡ spelling b
    by_order Less is = absurd (true≢false (sym (ap is_lt is) ∙ e))
    by_order Equal is = same_where_tied (spelling a) (spelling b) is
    by_order Greater is = absurd (true≢false (sym (ap is_lt (value_total.antisymm b a ∙ ap ordering_reverse is)) ∙ f))

module _ (key : Value) where
  before_of : (v : Value) (own : KeyedValue) → as_pair v ≡ Some own → is_before key v ≡ less own.key key
  before_of v own is = ap (λ pair. unwrap_or (option_map (λ (keyed : KeyedValue). is_lt (value_cmp keyed.key key)) pair) false) is

  has_of : (v : Value) (own : KeyedValue) → as_pair v ≡ Some own → has_key key v ≡ bytes_eq (spelling own.key) (spelling key)
  has_of v own is = ap (λ pair. unwrap_or (option_map (λ (keyed : KeyedValue). bytes_eq (spelling keyed.key) (spelling key)) pair) false) is

  -- what is no greater than a value before the key is before it
  before_down : (v w : Value) → is_pair v ≡ true → is_pair w ≡ true → less w v ≡ false → is_before key w ≡ true → is_before key v ≡ true
  before_down v w pair_v pair_w up before = by_test (less a.0.key key) refl
    where
      a : (keyed : KeyedValue) × (as_pair v ≡ Some keyed)
      a = keyed v pair_v

      b : (keyed : KeyedValue) × (as_pair w ≡ Some keyed)
      b = keyed w pair_w

      by_test : (below : Bool) → less a.0.key key ≡ below → is_before key v ≡ true
      by_test true e = before_of v a.0 a.1 ∙ e
      by_test false e =
          let above : less b.0.key key ≡ false = less_order.chain b.0.key a.0.key key (keys_up v w a.0 b.0 a.1 b.1 up) e in
          absurd (true≢false (sym before ∙ before_of w b.0 b.1 ∙ above))

  -- what is no greater than a value with the key, and not before it, has the key
  has_down : (v w : Value) → is_pair v ≡ true → is_pair w ≡ true → less w v ≡ false → is_before key v ≡ false → has_key key w ≡ true → has_key key v ≡ true
  has_down v w pair_v pair_w up after has =
      let a = keyed v pair_v in
      let b = keyed w pair_w in
      let same : spelling b.0.key ≡ spelling key = (bytes_eq-Decides (spelling b.0.key) (spelling key)).0 (sym (has_of w b.0 b.1) ∙ has) in
      let not_above : less key a.0.key ≡ false =
      ap (λ bytes. is_lt (slice_cmp nat_cmp bytes (spelling a.0.key))) (sym same) ∙ keys_up v w a.0 b.0 a.1 b.1 up in
      let own : spelling a.0.key ≡ spelling key = neither_less a.0.key key (sym (before_of v a.0 a.1) ∙ after) not_above in
      has_of v a.0 a.1 ∙ (bytes_eq-Decides (spelling a.0.key) (spelling key)).1 own

  pub before_parted : (views : List Value) → IsSorted value_cmp views → list_all is_pair views ≡ true → IsPartitionedBy (is_before key) views
  before_parted views up pairs i j d le within before =
      let all = AllPass-from_list_all is_pair views pairs in
      before_down (get_or views i d) (get_or views j d) (all i d (omega arith)) (all j d within) (sorted_far less less_order views up i j d le within) before

  -- ---- where nothing belongs to the key

  abbrev found_all : List Value → List Value
  found_all views = flat_map (found_in key) views

  none_before : (v : Value) → is_before key v ≡ true → found_in key v ≡ []
  none_before v before = by_pair (as_pair v) before
    where
      by_key : (own : KeyedValue) (same : Bool) → bytes_eq (spelling own.key) (spelling key) ≡ same → less own.key key ≡ true → (if same then own.part ∷ [] else []) ≡ []
      by_key own true e below =
          let tie : less own.key key ≡ false =
          ap (λ bytes. is_lt (slice_cmp nat_cmp bytes (spelling key))) ((bytes_eq-Decides (spelling own.key) (spelling key)).0 e) ∙ ap is_lt (tied (spelling key)) in
          absurd (true≢false (sym below ∙ tie))
      by_key own false e below = refl

      by_pair : (seen : Option KeyedValue) → unwrap_or (option_map (λ (keyed : KeyedValue). is_lt (value_cmp keyed.key key)) seen) false ≡ true
          → unwrap_or (option_map (found_as key) seen) [] ≡ []
      by_pair None before = refl
      by_pair (Some own) before = by_key own (bytes_eq (spelling own.key) (spelling key)) refl before

  none_without : (v : Value) → has_key key v ≡ false → found_in key v ≡ []
  none_without v without = by_pair (as_pair v) without
    where
      by_pair : (seen : Option KeyedValue) → unwrap_or (option_map (λ (keyed : KeyedValue). bytes_eq (spelling keyed.key) (spelling key)) seen) false ≡ false
          → unwrap_or (option_map (found_as key) seen) [] ≡ []
      by_pair None without = refl
      by_pair (Some own) without = ap (λ same. if same then own.part ∷ [] else []) without

  without_found : (v : Value) → found_in key v ≡ [] → has_key key v ≡ false
  without_found v none = by_pair (as_pair v) none
    where
      by_test : (own : KeyedValue) (same : Bool) → (if same then own.part ∷ [] else []) ≡ [] → same ≡ false
      by_test own true none = absurd cc
      by_test own false none = refl

      by_pair : (seen : Option KeyedValue) → unwrap_or (option_map (found_as key) seen) [] ≡ []
          → unwrap_or (option_map (λ (keyed : KeyedValue). bytes_eq (spelling keyed.key) (spelling key)) seen) false ≡ false
      by_pair None none = refl
      by_pair (Some own) none = by_test own (bytes_eq (spelling own.key) (spelling key)) none

  nothing_in : (d : Value) (views : List Value) → ((k : ℕ) → k < length views → found_in key (get_or views k d) ≡ []) → found_all views ≡ []
  nothing_in d [] none = refl
  nothing_in d (v ∷ vs) none = ap (λ found. found ++ found_all vs) (none 0 (omega arith)) ∙ nothing_in d vs (λ k within. none (suc k) (omega arith))

  skipped_front : (i : ℕ) (views : List Value) → ((k : ℕ) (d : Value) → k < i → found_in key (get_or views k d) ≡ []) → found_all (drop i views) ≡ found_all views
  skipped_front zero views none = refl
  skipped_front (suc i) [] none = refl
  skipped_front (suc i) (v ∷ vs) none =
      skipped_front i vs (λ k d below. none (suc k) d (omega arith)) ∙ ap (λ found. found ++ found_all vs) (sym (none 0 v (omega arith)))

  -- ---- the values with the key are a run, which halving finds

  abbrev IsFirst : List Value → ℕ → Type 0
  IsFirst views first = IsPartitionPoint (λ v. is_before key v ≡ true) (λ v. is_before key v ≡ false) views first

  pub run_first : (views : List Value) (first : ℕ) → IsSorted value_cmp views → list_all is_pair views ≡ true → IsFirst views first → IsPartitionedBy (has_key key) (drop first views)
  run_first views first up pairs point i j d le within has =
      let all = AllPass-from_list_all is_pair views pairs in
      let later : first + j < length views = omega (arith, length-drop first views) in
      ap (has_key key) (get_or-drop first views i d)
      ∙ has_down (get_or views (first + i) d) (get_or views (first + j) d) (all (first + i) d (omega arith)) (all (first + j) d later)
      (sorted_far less less_order views up (first + i) (first + j) d (omega arith) later) (point.1 (first + i) d (omega arith) (omega arith))
      (ap (has_key key) (sym (get_or-drop first views j d)) ∙ has)

  pub found_behind : (views : List Value) (first : ℕ) → IsFirst views first → found_all (drop first views) ≡ found_all views
  found_behind views first point = skipped_front first views (λ k d below. none_before (get_or views k d) (point.0 k d (omega arith) below))

  -- the run ends at the first value without the key
  pub run_ended : (views found : List Value) (i : ℕ) (d : Value) → IsPartitionedBy (has_key key) views → found ≡ found_all (take i views)
      → [] ≡ found_in key (get_or views i d) → found ≡ found_all views
  run_ended views found i d parted is none =
      is ∙ sym (append-nil (found_all (take i views))) ∙ ap (λ rest. found_all (take i views) ++ rest) (sym (nothing_in d (drop i views) none_later))
      ∙ sym (flat_map-append (found_in key) (take i views) (drop i views)) ∙ ap found_all (take-append-drop i views)
    where
      by_test : (k : ℕ) → k < length (drop i views) → (has : Bool) → has_key key (get_or views (i + k) d) ≡ has → found_in key (get_or views (i + k) d) ≡ []
      by_test k within true e =
          let at : has_key key (get_or views i d) ≡ true = parted i (i + k) d (omega arith) (omega (arith, length-drop i views)) e in
          absurd (true≢false (sym at ∙ without_found (get_or views i d) (sym none)))
      by_test k within false e = none_without (get_or views (i + k) d) e

      none_later : (k : ℕ) → k < length (drop i views) → found_in key (get_or (drop i views) k d) ≡ []
      none_later k within = ap (found_in key) (get_or-drop i views k d) ∙ by_test k within (has_key key (get_or views (i + k) d)) refl
