-- How the index follows the cells.
use Rattle.std.proofs.Common.{◌≡◌, ℕ, suc, not, ◌==◌, ◌&&◌, ℤ, Bool, true, false, cond, List, [], ◌∷◌, ◌++◌, length, Option, Some, None, Result, Ok, Err, OnErr, refl, sym, ap, subst, ◌∙◌, ◌<◌, arith, length-append, replicate, take}
use Rattle.std.specs.List.{All, Contains, position, position_or_len, slice_get}
use Rattle.std.specs.Option.{option_or, option_map}
use Rattle.std.specs.Ordering.{is_eq, nat_cmp, int_cmp, int_eq, ordering_then}
use Rattle.std.specs.Str.{bytes_eq}
use Rattle.std.specs.BTreeMap as tree
use Rattle.std.specs.BTreeMap.{BTreeMap}
use Rattle.std.specs.Map.{lookup}
use Rattle.std.specs.Cmp.{tied_then}
use Rattle.std.proofs.lemmas.Bool.{false≢true}
use Rattle.std.proofs.lemmas.Bool.Decides.{Decides-int_eq, nat_tests, Decides-eqb}
use Rattle.std.proofs.lemmas.Grind.{common_steps}
use Rattle.std.proofs.lemmas.List.Elements.{All-append, All-contains, All-nil, All-replicate, All-take, All-weaker}
use Rattle.std.proofs.lemmas.List.Folds.{position_or_len_push}
use Rattle.std.proofs.lemmas.List.Quantifiers.{position-Some}
use Rattle.std.proofs.lemmas.List.Sums.{prefix_len-le-length}
use Rattle.std.proofs.lemmas.Map.Text.{is_eq-slice_cmp}
use Rattle.std.proofs.lemmas.Option.{get_or_from_slice_get}
use Rattle.std.proofs.lemmas.Slice.Eq.{bytes_eq-Decides}
use Rattle.beam_values.specs.Cells.{span_cmp}
use Rattle.beam_values.specs.Orders.{value_cmp}
use Rattle.beam_values.specs.Spans.{same_span}
use Rattle.beam_values.specs.Spelling.{spelling}
use Rattle.beam_values.specs.Intervals.{Interval}
use Rattle.beam_values.specs.declared.cell.Cell.{Cell}
use Rattle.beam_values.specs.declared.value.Value.{Value}
use Rattle.cell_index.specs.Places.{is_cell_of, place_of}
use Rattle.cell_index.specs.Indexes.{cell_key_cmp, place_cmp, IsFoundPlace, IsIndexOf, IsOfKey}
use Rattle.cell_index.specs.Leads.{lead_of}
use Rattle.cell_index.proofs.Leading.{one_lead}
use Rattle.cell_index.specs.declared.guesses.Guess.{Guess}
use Rattle.cell_index.specs.declared.guesses.Guesses.{Guesses}
use Rattle.cell_index.specs.declared.index.CellIndex.{CellIndex}
use Rattle.cell_index.specs.declared.index_key.CellKey.{CellKey}

pushed_at : {X : Type 0} (p : X → Bool) (xs : List X) (y : X) (i : ℕ) → position_or_len p xs ≡ i
    → position p (xs ++ y ∷ []) ≡ option_or (position p xs) (cond (p y) (Some (length xs)) None)
pushed_at p xs y i e = grind (arith, common_steps, position_or_len_push p xs y, length-append, prefix_len-le-length {X = _} (λ x. not (p x)) xs)

pub place_pushed : {X : Type 0} (p : X → Bool) (xs : List X) (y : X) → position p (xs ++ y ∷ []) ≡ option_or (position p xs) (cond (p y) (Some (length xs)) None)
place_pushed p xs y = pushed_at p xs y (position_or_len p xs) refl

pub nat_tied : (a b : ℕ) → is_eq (nat_cmp a b) ≡ (a == b)
nat_tied a b = grind (arith, nat_tests)

pub int_tied : (a b : ℤ) → is_eq (int_cmp a b) ≡ int_eq a b
int_tied a b = refl

and_false : (b : Bool) → (b && false) ≡ false
and_false true = refl
and_false false = refl

and_parts : (a b : Bool) → (a && b) ≡ true → (a ≡ true) × (b ≡ true)
and_parts true b e = (refl, e)
and_parts false b e = absurd (false≢true e)

and_swapped : (n k s e : Bool) → (n && ((s && e) && k)) ≡ ((n && k) && (s && e))
and_swapped true true true true = refl
and_swapped true true true false = refl
and_swapped true true false e = refl
and_swapped true false true true = refl
and_swapped true false true false = refl
and_swapped true false false e = refl
and_swapped false k s e = refl

place_tied : (a q : CellKey) → is_eq (place_cmp a q) ≡ ((a.node == q.node && bytes_eq (spelling a.key) (spelling q.key)) && same_span a.span q.span)
place_tied a q =
    sym (tied_then (nat_cmp a.node q.node) (ordering_then (span_cmp a.span q.span) (value_cmp a.key q.key)))
    ∙ ap (λ b. is_eq (nat_cmp a.node q.node) && b)
    (sym (tied_then (span_cmp a.span q.span) (value_cmp a.key q.key))
    ∙ ap (λ b. b && is_eq (value_cmp a.key q.key)) (sym (tied_then (int_cmp a.span.start q.span.start) (int_cmp a.span.end q.span.end))))
    ∙ and_swapped (is_eq (nat_cmp a.node q.node)) (is_eq (value_cmp a.key q.key)) (is_eq (int_cmp a.span.start q.span.start)) (is_eq (int_cmp a.span.end q.span.end))
    ∙ ap (λ b. (b && is_eq (value_cmp a.key q.key)) && (is_eq (int_cmp a.span.start q.span.start) && is_eq (int_cmp a.span.end q.span.end))) (nat_tied a.node q.node)
    ∙ ap (λ b. (a.node == q.node && b) && (is_eq (int_cmp a.span.start q.span.start) && is_eq (int_cmp a.span.end q.span.end))) (is_eq-slice_cmp (spelling a.key) (spelling q.key))
    ∙ ap (λ b. (a.node == q.node && bytes_eq (spelling a.key) (spelling q.key)) && (b && is_eq (int_cmp a.span.end q.span.end))) (int_tied a.span.start q.span.start)
    ∙ ap (λ b. (a.node == q.node && bytes_eq (spelling a.key) (spelling q.key)) && (int_eq a.span.start q.span.start && b)) (int_tied a.span.end q.span.end)

-- what is of one place has one lead
led_alike : (a q : CellKey) → (t : Bool) → ((a.node == q.node && bytes_eq (spelling a.key) (spelling q.key)) && same_span a.span q.span) ≡ t
    → (is_eq (nat_cmp (lead_of a.key a.span) (lead_of q.key q.span)) && t) ≡ t
led_alike a q false e = and_false (is_eq (nat_cmp (lead_of a.key a.span) (lead_of q.key q.span)))
led_alike a q true e =
    let all = and_parts (a.node == q.node && bytes_eq (spelling a.key) (spelling q.key)) (same_span a.span q.span) e in
    let keyed = and_parts (a.node == q.node) (bytes_eq (spelling a.key) (spelling q.key)) all.0 in
    let starts = and_parts (int_eq a.span.start q.span.start) (int_eq a.span.end q.span.end) all.1 in
    let one : lead_of a.key a.span ≡ lead_of q.key q.span =
    one_lead a.key q.key a.span q.span ((bytes_eq-Decides (spelling a.key) (spelling q.key)).0 keyed.1) ((Decides-int_eq a.span.start q.span.start).0 starts.0) in
    ap (λ b. b && true) (nat_tied (lead_of a.key a.span) (lead_of q.key q.span) ∙ (Decides-eqb (lead_of a.key a.span) (lead_of q.key q.span)).1 one)

-- keys of the index compare as equal exactly where they are of one node, key and window
pub same_place : (a q : CellKey) → is_eq (cell_key_cmp a q) ≡ ((a.node == q.node && bytes_eq (spelling a.key) (spelling q.key)) && same_span a.span q.span)
same_place a q =
    sym (tied_then (nat_cmp (lead_of a.key a.span) (lead_of q.key q.span)) (place_cmp a q))
    ∙ ap (λ b. is_eq (nat_cmp (lead_of a.key a.span) (lead_of q.key q.span)) && b) (place_tied a q)
    ∙ led_alike a q ((a.node == q.node && bytes_eq (spelling a.key) (spelling q.key)) && same_span a.span q.span) refl

-- a key is of its own place
all_same : (q : CellKey) → ((q.node == q.node && bytes_eq (spelling q.key) (spelling q.key)) && same_span q.span q.span) ≡ true
all_same q =
    (λ i. (((Decides-eqb q.node q.node).1 refl) i && ((bytes_eq-Decides (spelling q.key) (spelling q.key)).1 refl) i)
    && (((Decides-int_eq q.span.start q.span.start).1 refl) i && ((Decides-int_eq q.span.end q.span.end).1 refl) i))

-- the place of the cell of a node, a spelling and the ends of a window
abbrev place_by : ℕ → List ℕ → ℤ → ℤ → List Cell → Option ℕ
place_by node spelled start end cells =
    position (λ cell. (cell.node == node && bytes_eq (spelling cell.key) spelled) && (int_eq cell.span.start start && int_eq cell.span.end end)) cells

-- what is of one place is found as one
found_alike : (a q : CellKey) (cells : List Cell) → is_eq (cell_key_cmp a q) ≡ true → place_of a.node a.key a.span cells ≡ place_of q.node q.key q.span cells
found_alike a q cells e =
    let all = and_parts (a.node == q.node && bytes_eq (spelling a.key) (spelling q.key)) (same_span a.span q.span) (sym (same_place a q) ∙ e) in
    let keyed = and_parts (a.node == q.node) (bytes_eq (spelling a.key) (spelling q.key)) all.0 in
    let ends = and_parts (int_eq a.span.start q.span.start) (int_eq a.span.end q.span.end) all.1 in
    ap (λ n. place_by n (spelling a.key) a.span.start a.span.end cells) ((Decides-eqb a.node q.node).0 keyed.0)
    ∙ ap (λ s. place_by q.node s a.span.start a.span.end cells) ((bytes_eq-Decides (spelling a.key) (spelling q.key)).0 keyed.1)
    ∙ ap (λ t. place_by q.node (spelling q.key) t a.span.end cells) ((Decides-int_eq a.span.start q.span.start).0 ends.0)
    ∙ ap (λ t. place_by q.node (spelling q.key) q.span.start t cells) ((Decides-int_eq a.span.end q.span.end).0 ends.1)

or_none : {X : Type 0} (o : Option X) → o ≡ option_or o None
or_none None = refl
or_none (Some x) = refl

-- a cell is found by the keys that compare as equal to its own
named_alike : (cell : Cell) (key q : CellKey) → cell.node ≡ key.node → cell.key ≡ key.key → cell.span ≡ key.span → is_cell_of q.node q.key q.span cell ≡ is_eq (cell_key_cmp key q)
named_alike cell key q nodes keys spans =
    ap (λ n. (n == q.node && bytes_eq (spelling cell.key) (spelling q.key)) && same_span cell.span q.span) nodes
    ∙ ap (λ k. (key.node == q.node && bytes_eq (spelling k) (spelling q.key)) && same_span cell.span q.span) keys
    ∙ ap (λ s. (key.node == q.node && bytes_eq (spelling key.key) (spelling q.key)) && same_span s q.span) spans
    ∙ sym (same_place key q)

-- notes of places of a map keep to it
abbrev pub KeepsTo : Guesses → Guesses → Guess → Type 0
KeepsTo old new guess = (places : BTreeMap CellKey ℕ) → All (IsOfKey places) old.slots.items → IsOfKey places guess → All (IsOfKey places) new.slots.items

pub index_more : (old new : CellIndex) (key : CellKey) (hash place : ℕ) → tree.Updates cell_key_cmp old.places new.places key (Some place)
    → KeepsTo old.guesses new.guesses (record { hash = hash; place = place })
    → (cells : List Cell) (cell : Cell) → IsIndexOf old cells → place ≡ length cells
    → cell.node ≡ key.node → cell.key ≡ key.key → cell.span ≡ key.span
    → place_of key.node key.key key.span cells ≡ None → IsIndexOf new (cells ++ cell ∷ [])
index_more old new key hash place updates keeps cells cell index at nodes keys spans absent = record {
  finds = λ q. updates.0 q ∙ by_test q (is_eq (cell_key_cmp key q)) refl ∙ sym (place_pushed (is_cell_of q.node q.key q.span) cells cell);
  guesses = keeps new.places
      (All-weaker (IsOfKey old.places) (IsOfKey new.places) (λ guess h hashed. let f = h hashed in (f.0, still f.0 guess.place f.1 (is_eq (cell_key_cmp key f.0)) refl)) old.guesses.slots.items index.guesses)
      (λ hashed. (key, updates.1));
}
  where
    -- a key that was found isn't the new one
    still : (q : CellKey) (p : ℕ) → tree.get cell_key_cmp old.places q ≡ Some p → (t : Bool) → is_eq (cell_key_cmp key q) ≡ t → tree.get cell_key_cmp new.places q ≡ Some p
    still q p found true e =
        let none : Some p ≡ None = sym found ∙ index.finds q ∙ sym (found_alike key q cells e) ∙ absent in absurd cc
    still q p found false e = updates.0 q ∙ ap (λ b. cond {A = Option ℕ} b (Some place) (tree.get cell_key_cmp old.places q)) e ∙ found

    is_it : (q : CellKey) → is_cell_of q.node q.key q.span cell ≡ is_eq (cell_key_cmp key q)
    is_it q = named_alike cell key q nodes keys spans

    by_test : (q : CellKey) (t : Bool) → is_eq (cell_key_cmp key q) ≡ t
        → cond (is_eq (cell_key_cmp key q)) (Some place) (tree.get cell_key_cmp old.places q)
        ≡ option_or (place_of q.node q.key q.span cells) (cond (is_cell_of q.node q.key q.span cell) (Some (length cells)) None)
    by_test q true e =
        let here : is_cell_of q.node q.key q.span cell ≡ true = is_it q ∙ e in
        let none : place_of q.node q.key q.span cells ≡ None = sym (found_alike key q cells e) ∙ absent in
        ap (λ b. cond {A = Option ℕ} b (Some place) (tree.get cell_key_cmp old.places q)) e
        ∙ ap (λ n. Some n) at
        ∙ sym (ap (λ b. cond {A = Option ℕ} b (Some (length cells)) None) here)
        ∙ sym (ap (λ o. option_or o (cond (is_cell_of q.node q.key q.span cell) (Some (length cells)) None)) none)
    by_test q false e =
        let away : is_cell_of q.node q.key q.span cell ≡ false = is_it q ∙ e in
        ap (λ b. cond {A = Option ℕ} b (Some place) (tree.get cell_key_cmp old.places q)) e
        ∙ index.finds q
        ∙ or_none (place_of q.node q.key q.span cells)
        ∙ sym (ap (λ b. option_or (place_of q.node q.key q.span cells) (cond {A = Option ℕ} b (Some (length cells)) None)) away)

pub position_yes : {X : Type 0} (p : X → Bool) (x : X) (xs : List X) → p x ≡ true → position p (x ∷ xs) ≡ Some 0
position_yes p x xs e = grind (arith, common_steps)

pub position_no : {X : Type 0} (p : X → Bool) (x : X) (xs : List X) → p x ≡ false → position p (x ∷ xs) ≡ option_map suc (position p xs)
position_no p x xs e = grind (arith, common_steps, nat_tests)

-- a cell of a window that has one already changes nothing
pub index_again : (index : CellIndex) (cells : List Cell) (cell : Cell) (key : CellKey) (place : ℕ) → cell.node ≡ key.node → cell.key ≡ key.key → cell.span ≡ key.span
    → Some place ≡ place_of key.node key.key key.span cells → IsIndexOf index cells → IsIndexOf index (cells ++ cell ∷ [])
index_again index cells cell key place nodes keys spans there h = record {
  finds = λ q. h.finds q ∙ by_test q (is_eq (cell_key_cmp key q)) refl ∙ sym (place_pushed (is_cell_of q.node q.key q.span) cells cell);
  guesses = h.guesses;
}
  where
    is_it : (q : CellKey) → is_cell_of q.node q.key q.span cell ≡ is_eq (cell_key_cmp key q)
    is_it q = named_alike cell key q nodes keys spans

    by_test : (q : CellKey) (t : Bool) → is_eq (cell_key_cmp key q) ≡ t
        → place_of q.node q.key q.span cells ≡ option_or (place_of q.node q.key q.span cells) (cond (is_cell_of q.node q.key q.span cell) (Some (length cells)) None)
    by_test q true e =
        let at : place_of q.node q.key q.span cells ≡ Some place = sym (found_alike key q cells e) ∙ sym there in
        at ∙ sym (ap (λ o. option_or o (cond (is_cell_of q.node q.key q.span cell) (Some (length cells)) None)) at)
    by_test q false e =
        or_none (place_of q.node q.key q.span cells)
        ∙ sym (ap (λ b. option_or (place_of q.node q.key q.span cells) (cond {A = Option ℕ} b (Some (length cells)) None)) (is_it q ∙ e))

-- what holds after either answer holds after a refusal
pub on_err : {T E P : Type 0} (r : Result T E) → P → OnErr r P
on_err (Ok x) p = tt
on_err (Err e) p = p

-- a map that stayed has the same places
pub index_same : (old new : CellIndex) → tree.IsUnchanged old.places new.places → new.guesses ≡ old.guesses → (cells : List Cell) → IsIndexOf old cells → IsIndexOf new cells
index_same old new unchanged same cells h = record {
  finds = λ q. still q ∙ h.finds q;
  guesses =
      subst (λ (g : Guesses). All (IsOfKey new.places) g.slots.items) (sym same)
      (All-weaker (IsOfKey old.places) (IsOfKey new.places) (λ guess found hashed. let f = found hashed in (f.0, still f.0 ∙ f.1)) old.guesses.slots.items h.guesses);
}
  where
    still : (q : CellKey) → tree.get cell_key_cmp new.places q ≡ tree.get cell_key_cmp old.places q
    still q = ap (λ (es : List (CellKey × ℕ)). lookup (tree.is_at (cell_key_cmp q)) es) unchanged

-- ---- the last cell leaves

module _ (old new : CellIndex) (key : CellKey) (cells : List Cell) (cell : Cell) (h : IsIndexOf old (cells ++ cell ∷ []))
    (nodes : cell.node ≡ key.node) (keys : cell.key ≡ key.key) (spans : cell.span ≡ key.span) (forgotten : new.guesses.slots.items ≡ []) where
  no_guesses : All (IsOfKey new.places) new.guesses.slots.items
  no_guesses = subst (All (IsOfKey new.places)) (sym forgotten) (All-nil (IsOfKey new.places))

  last_is : (q : CellKey) → is_cell_of q.node q.key q.span cell ≡ is_eq (cell_key_cmp key q)
  last_is q = named_alike cell key q nodes keys spans

  found_before : (q : CellKey) → tree.get cell_key_cmp old.places q ≡ option_or (place_of q.node q.key q.span cells) (cond (is_eq (cell_key_cmp key q)) (Some (length cells)) None)
  found_before q =
      h.finds q ∙ place_pushed (is_cell_of q.node q.key q.span) cells cell
      ∙ ap (λ b. option_or (place_of q.node q.key q.span cells) (cond {A = Option ℕ} b (Some (length cells)) None)) (last_is q)

  elsewhere : (q : CellKey) → is_eq (cell_key_cmp key q) ≡ false → tree.get cell_key_cmp old.places q ≡ place_of q.node q.key q.span cells
  elsewhere q e =
      found_before q ∙ ap (λ b. option_or (place_of q.node q.key q.span cells) (cond {A = Option ℕ} b (Some (length cells)) None)) e
      ∙ sym (or_none (place_of q.node q.key q.span cells))

  -- where it was found itself, no other one is found in its place
  pub index_less : tree.get cell_key_cmp old.places key ≡ Some (length cells) → tree.Updates cell_key_cmp old.places new.places key None → IsIndexOf new cells
  index_less there updates = record { finds = λ q. updates.0 q ∙ by_test q (is_eq (cell_key_cmp key q)) refl; guesses = no_guesses }
    where
      none_before : (o : Option ℕ) → place_of key.node key.key key.span cells ≡ o → option_or o (cond {A = Option ℕ} (is_eq (cell_key_cmp key key)) (Some (length cells)) None) ≡ Some (length cells) → o ≡ None
      none_before None e is = refl
      none_before (Some p) e is =
          let within : p < length cells = (position-Some (is_cell_of key.node key.key key.span) cells p cell e).0 in
          let same : p ≡ length cells = cc in absurd (omega (arith, within, same))

      by_test : (q : CellKey) (t : Bool) → is_eq (cell_key_cmp key q) ≡ t
          → cond (is_eq (cell_key_cmp key q)) None (tree.get cell_key_cmp old.places q) ≡ place_of q.node q.key q.span cells
      by_test q true e =
          ap (λ b. cond {A = Option ℕ} b None (tree.get cell_key_cmp old.places q)) e
          ∙ sym (none_before (place_of key.node key.key key.span cells) refl (sym (found_before key) ∙ there))
          ∙ found_alike key q cells e
      by_test q false e = ap (λ b. cond {A = Option ℕ} b None (tree.get cell_key_cmp old.places q)) e ∙ elsewhere q e

  -- where another one is found in its place, that one stays
  pub index_before : (tree.get cell_key_cmp old.places key ≡ Some (length cells) → ⊥) → new.places ≡ old.places → IsIndexOf new cells
  index_before other same = record {
    finds = λ q. ap (λ (m : BTreeMap CellKey ℕ). tree.get cell_key_cmp m q) same ∙ by_test q (is_eq (cell_key_cmp key q)) refl;
    guesses = no_guesses;
  }
    where
      itself : is_eq (cell_key_cmp key key) ≡ true
      itself = same_place key key ∙ all_same key

      found : (q : CellKey) (o : Option ℕ) → is_eq (cell_key_cmp key q) ≡ true → place_of q.node q.key q.span cells ≡ o → tree.get cell_key_cmp old.places q ≡ o
      found q (Some p) e at =
          found_before q ∙ ap (λ x. option_or x (cond {A = Option ℕ} (is_eq (cell_key_cmp key q)) (Some (length cells)) None)) at
      found q None e at =
          absurd (other (found_before key ∙ ap (λ x. option_or x (cond {A = Option ℕ} (is_eq (cell_key_cmp key key)) (Some (length cells)) None)) (found_alike key q cells e ∙ at)
          ∙ ap (λ b. cond {A = Option ℕ} b (Some (length cells)) None) itself))

      by_test : (q : CellKey) (t : Bool) → is_eq (cell_key_cmp key q) ≡ t → tree.get cell_key_cmp old.places q ≡ place_of q.node q.key q.span cells
      by_test q true e = found q (place_of q.node q.key q.span cells) e refl
      by_test q false e = elsewhere q e

-- ---- guesses

-- a place that was written over is put back, and noted for the key that was found there
pub index_put_back : (old new : CellIndex) (over : BTreeMap CellKey ℕ) (key : CellKey) (hash place next : ℕ) → Some place ≡ tree.get cell_key_cmp old.places key
    → tree.Updates cell_key_cmp old.places over key (Some next) → tree.Updates cell_key_cmp over new.places key (Some place)
    → KeepsTo old.guesses new.guesses (record { hash = hash; place = place })
    → (cells : List Cell) → IsIndexOf old cells → IsIndexOf new cells
index_put_back old new over key hash place next known written back keeps cells index = record {
  finds = λ q. same q (is_eq (cell_key_cmp key q)) refl ∙ index.finds q;
  guesses = keeps new.places
      (All-weaker (IsOfKey old.places) (IsOfKey new.places) (λ guess h hashed. let f = h hashed in (f.0, same f.0 (is_eq (cell_key_cmp key f.0)) refl ∙ f.1)) old.guesses.slots.items index.guesses)
      (λ hashed. (key, back.1));
}
  where
    -- the map has what it had
    same : (q : CellKey) (t : Bool) → is_eq (cell_key_cmp key q) ≡ t → tree.get cell_key_cmp new.places q ≡ tree.get cell_key_cmp old.places q
    same q true e =
        back.0 q ∙ ap (λ b. cond {A = Option ℕ} b (Some place) (tree.get cell_key_cmp over q)) e
        ∙ known ∙ index.finds key ∙ found_alike key q cells e ∙ sym (index.finds q)
    same q false e =
        back.0 q ∙ ap (λ b. cond {A = Option ℕ} b (Some place) (tree.get cell_key_cmp over q)) e
        ∙ written.0 q ∙ ap (λ b. cond {A = Option ℕ} b (Some next) (tree.get cell_key_cmp old.places q)) e

-- an empty slot has no place
pub no_key : (places : BTreeMap CellKey ℕ) → IsOfKey places (record { hash = 0; place = 0 })
no_key places = λ hashed. absurd (omega (arith, hashed))

pub resized : {X : Type 0} (P : X → Type 0) (ok : Bool) (xs ys : List X) (n k : ℕ) (x : X) → ys ≡ cond ok (take n xs ++ replicate k x) xs → P x → All P xs → All P ys
resized P true xs ys n k x is own all = subst (All P) (sym is) (All-append P (take n xs) (replicate k x) (All-take P n xs all) (All-replicate P k x own))
resized P false xs ys n k x is own all = subst (All P) (sym is) all

pub guess_found : (index : CellIndex) (hash place : ℕ) → 0 < hash → Contains index.guesses.slots.items (record { hash = hash; place = place })
    → (cells : List Cell) → IsIndexOf index cells → IsFoundPlace cells place
guess_found index hash place hashed there cells h =
    let guess : Guess = record { hash = hash; place = place } in
    let found = All-contains (IsOfKey index.places) index.guesses.slots.items guess h.guesses there hashed in
    (found.0, sym (h.finds found.0) ∙ found.1)

-- a place at which some key finds its cell is the one at which that cell's own key does
pub found_own : (node : ℕ) (key : Value) (span : Interval) (cells : List Cell) (place : ℕ) (cell : Cell) → IsFoundPlace cells place → slice_get cells place ≡ Some cell
    → is_cell_of node key span cell ≡ true → Some place ≡ place_of node key span cells
found_own node key span cells place cell found there is =
    let q : CellKey = found.0 in
    let mine : CellKey = record { node = node; span = span; key = key } in
    let own : CellKey = record { node = cell.node; span = cell.span; key = cell.key } in
    let of_q : is_cell_of q.node q.key q.span cell ≡ true =
    ap (is_cell_of q.node q.key q.span) (sym (get_or_from_slice_get cells place cell cell there)) ∙ (position-Some (is_cell_of q.node q.key q.span) cells place cell found.1).1 in
    sym found.1 ∙ sym (found_alike own q cells (same_place own q ∙ of_q)) ∙ found_alike own mine cells (same_place own mine ∙ is)
