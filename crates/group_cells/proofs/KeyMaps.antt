-- Lists by Group and key: what is listed once an item was put in or a list was taken out.
use Rattle.std.proofs.Common.{◌≡◌, ◌+◌, ◌<◌, ◌==◌, Bool, true, false, cond, List, [], ◌∷◌, ◌++◌, map, length, Option, Some, None, refl, sym, ap, ◌∙◌, arith, append-nil, length-append}
use Rattle.std.specs.Prelude.{◌&&◌, unwrap_or}
use Rattle.std.specs.BTreeMap as tree
use Rattle.std.specs.BTreeMap.{BTreeMap, insert_entry}
use Rattle.std.specs.Cmp.{IsTotalOrder, tied_then}
use Rattle.std.specs.List.{filter, sum_by}
use Rattle.std.specs.Map.{lookup, values_of}
use Rattle.std.specs.Option.{option_map}
use Rattle.std.specs.Ordering.{is_eq, nat_cmp}
use Rattle.std.specs.Str.{bytes_eq}
use Rattle.std.proofs.lemmas.Bool.{and_parts, eqb-true}
use Rattle.std.proofs.lemmas.Bool.Decides.{Decides-eqb}
use Rattle.std.proofs.lemmas.Cmp.{nat_cmp_total, nat_list_cmp_total, on_total, then_total}
use Rattle.std.proofs.lemmas.List.{map-append}
use Rattle.std.proofs.lemmas.List.Elements.{filter-append}
use Rattle.std.proofs.lemmas.List.Sums.{sum_by-cons}
use Rattle.std.proofs.lemmas.Map.Entries.{sum_by-insert_entry}
use Rattle.std.proofs.lemmas.Map.Text.{is_eq-slice_cmp}
use Rattle.std.proofs.lemmas.Slice.Eq.{bytes_eq-Decides}
use Rattle.beam_values.specs.Grouping.{key_of}
use Rattle.beam_values.specs.Orders.{value_cmp}
use Rattle.beam_values.specs.Spelling.{spelling}
use Rattle.beam_values.specs.declared.arrival.Arrival.{Arrival}
use Rattle.beam_values.specs.declared.element.Element.{Element}
use Rattle.cell_index.specs.Leads.{key_hash}
use Rattle.cell_index.proofs.Indexing.{nat_tied}
use Rattle.cell_index.proofs.Leading.{one_hash}
use Rattle.group_cells.specs.Commits.{elements_keyed}
use Rattle.group_cells.specs.KeyLists.{all_listed, group_key_cmp, led_key_cmp, listed}
use Rattle.group_cells.specs.Plain.{is_arrival_at}
use Rattle.group_cells.specs.declared.groups.keyed.GroupKey.{GroupKey}
use Rattle.group_cells.proofs.PlacedKeys.{is_at as is_here}

-- keys compare as equal exactly where they are one
pub same_key : (a q : GroupKey) → is_eq (group_key_cmp a q) ≡ is_here q.node q.key a.node a.key
same_key a q =
    sym (tied_then (nat_cmp a.node q.node) (value_cmp a.key q.key))
    ∙ (λ i. nat_tied a.node q.node i && is_eq-slice_cmp (spelling a.key) (spelling q.key) i)

-- those that are one have one hash
hashed_alike : (a q : GroupKey) (t : Bool) → is_here q.node q.key a.node a.key ≡ t → (is_eq (nat_cmp (key_hash a.key) (key_hash q.key)) && t) ≡ t
hashed_alike a q false e = none (is_eq (nat_cmp (key_hash a.key) (key_hash q.key)))
  where
    none : (b : Bool) → (b && false) ≡ false
    none true = refl
    none false = refl
hashed_alike a q true e =
    let both = and_parts (a.node == q.node) (bytes_eq (spelling a.key) (spelling q.key)) e in
    let one : key_hash a.key ≡ key_hash q.key = one_hash a.key q.key ((bytes_eq-Decides (spelling a.key) (spelling q.key)).0 both.1) in
    ap (λ b. b && true) (nat_tied (key_hash a.key) (key_hash q.key) ∙ (Decides-eqb (key_hash a.key) (key_hash q.key)).1 one)

pub led_same : (a q : GroupKey) → is_eq (led_key_cmp a q) ≡ is_here q.node q.key a.node a.key
led_same a q =
    sym (tied_then (nat_cmp (key_hash a.key) (key_hash q.key)) (group_key_cmp a q))
    ∙ ap (λ b. is_eq (nat_cmp (key_hash a.key) (key_hash q.key)) && b) (same_key a q)
    ∙ hashed_alike a q (is_here q.node q.key a.node a.key) refl

key_total : IsTotalOrder group_key_cmp
key_total = then_total (on_total (λ (k : GroupKey). k.node) nat_cmp_total) (on_total (λ (k : GroupKey). spelling k.key) nat_list_cmp_total)

module _ {X : Type 0} where
  -- and have one list
  pub listed_alike : (lists : BTreeMap GroupKey (List X)) (a q : GroupKey) → is_here q.node q.key a.node a.key ≡ true → listed lists a ≡ listed lists q
  listed_alike lists a q on =
      let both = and_parts (a.node == q.node) (bytes_eq (spelling a.key) (spelling q.key)) on in
      let nodes : a.node ≡ q.node = eqb-true a.node q.node both.0 in
      let spells : spelling a.key ≡ spelling q.key = (bytes_eq-Decides (spelling a.key) (spelling q.key)).0 both.1 in
      ap (λ (test : GroupKey → Bool). unwrap_or (lookup test lists.entries) [])
      (λ i x. (same_key a x ∙ (λ j. nodes j == x.node && bytes_eq (spells j) (spelling x.key)) ∙ sym (same_key q x)) i)

  after_update : (b : Bool) (w o : Option (List X)) → unwrap_or (cond b w o) [] ≡ cond b (unwrap_or w []) (unwrap_or o [])
  after_update true w o = refl
  after_update false w o = refl

  pub listed_after : (old new : BTreeMap GroupKey (List X)) (key : GroupKey) (w : Option (List X)) → tree.Updates group_key_cmp old new key w
      → (q : GroupKey) → listed new q ≡ cond (is_eq (group_key_cmp key q)) (unwrap_or w []) (listed old q)
  listed_after old new key w updates q =
      ap (λ o. unwrap_or o []) (updates.0 q) ∙ after_update (is_eq (group_key_cmp key q)) w (tree.get group_key_cmp old q)

  counted : (o : Option (List X)) → unwrap_or (option_map length o) 0 ≡ length (unwrap_or o [])
  counted None = refl
  counted (Some list) = refl

  count_after_insert : (old new : BTreeMap GroupKey (List X)) (key : GroupKey) (list : List X) → tree.IsOrdered group_key_cmp old
      → new.entries ≡ insert_entry group_key_cmp old.entries key list → all_listed new + length (listed old key) ≡ all_listed old + length list
  count_after_insert old new key list ordered entries =
      omega (arith, ap (λ es. sum_by length (values_of es)) entries, sum_by-insert_entry length key_total old.entries key list ordered, counted (tree.get group_key_cmp old key))

  -- one more item at the end of a list
  pub count_after_push : (old new : BTreeMap GroupKey (List X)) (key : GroupKey) (list : List X) (item : X) → tree.IsOrdered group_key_cmp old
      → new.entries ≡ insert_entry group_key_cmp old.entries key list → list ≡ listed old key ++ item ∷ [] → all_listed new ≡ all_listed old + 1
  count_after_push old new key list item ordered entries pushed =
      omega (arith, count_after_insert old new key list ordered entries, ap length pushed, length-append (listed old key) (item ∷ []))

-- ---- one more arrival, one more cell

keyed_more : (q : GroupKey) (before : List Arrival) (a : Arrival) (b : Bool) → is_arrival_at q.node q.key a ≡ b
    → elements_keyed q.node q.key (before ++ a ∷ []) ≡ elements_keyed q.node q.key before ++ cond b (a.element ∷ []) []
keyed_more q before a b e =
    ap (map (λ (x : Arrival). x.element)) (filter-append (is_arrival_at q.node q.key) before (a ∷ []) ∙ ap (λ t. filter (is_arrival_at q.node q.key) before ++ cond t (a ∷ []) []) e)
    ∙ map-append (λ (x : Arrival). x.element) (filter (is_arrival_at q.node q.key) before) (cond b (a ∷ []) [])
    ∙ ap (λ l. elements_keyed q.node q.key before ++ l) (one b)
  where
    one : (t : Bool) → map (λ (x : Arrival). x.element) (cond t (a ∷ []) []) ≡ cond t (a.element ∷ []) []
    one true = refl
    one false = refl

pub arrived_more : (old : BTreeMap GroupKey (List Element)) (before : List Arrival) (a : Arrival) (key q : GroupKey) → ((x : GroupKey) → listed old x ≡ elements_keyed x.node x.key before)
    → key ≡ record { node = a.node; key = key_of a.element }
    → cond (is_eq (group_key_cmp key q)) (listed old key ++ a.element ∷ []) (listed old q) ≡ elements_keyed q.node q.key (before ++ a ∷ [])
arrived_more old before a key q were keyed = by (is_here q.node q.key key.node key.key) refl
  where
    here : is_here q.node q.key key.node key.key ≡ is_arrival_at q.node q.key a
    here = ap (λ (x : GroupKey). is_here q.node q.key x.node x.key) keyed

    by : (b : Bool) → is_here q.node q.key key.node key.key ≡ b
        → cond (is_eq (group_key_cmp key q)) (listed old key ++ a.element ∷ []) (listed old q) ≡ elements_keyed q.node q.key (before ++ a ∷ [])
    by true on =
        ap (λ b. cond b (listed old key ++ a.element ∷ []) (listed old q)) (same_key key q ∙ on)
        ∙ ap (λ l. l ++ a.element ∷ []) (listed_alike old key q on ∙ were q) ∙ sym (keyed_more q before a true (sym here ∙ on))
    by false off =
        ap (λ b. cond b (listed old key ++ a.element ∷ []) (listed old q)) (same_key key q ∙ off)
        ∙ were q ∙ sym (keyed_more q before a false (sym here ∙ off) ∙ append-nil (elements_keyed q.node q.key before))

-- ---- one list after another is taken out

pub popped_count : {X : Type 0} (old new : BTreeMap GroupKey (List X)) (key : GroupKey) (list : List X) → old.entries ≡ (key, list) ∷ new.entries → all_listed old ≡ length list + all_listed new
popped_count old new key list entries = ap (λ es. sum_by length (values_of es)) entries ∙ sum_by-cons length list (values_of new.entries)

pub none_listed : {X : Type 0} (lists : BTreeMap GroupKey (List X)) → (0 < tree.btree_map_len lists → ⊥) → (q : GroupKey) → listed lists q ≡ []
none_listed {X} lists none q = by lists.entries refl
  where
    by : (es : List (GroupKey × List X)) → lists.entries ≡ es → listed lists q ≡ []
    by [] e = ap (λ es. unwrap_or (lookup (λ k. is_eq (group_key_cmp q k)) es) []) e
    by (first ∷ es) e = absurd (none (omega (arith, ap length e)))

pub some_there : {X : Type 0} (xs : List X) → (xs ≡ [] → ⊥) → (x : X) × (rest : List X) × (xs ≡ x ∷ rest)
some_there [] none = absurd (none refl)
some_there (x ∷ rest) none = (x, rest, refl)
