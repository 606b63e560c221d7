-- What becomes of the cells of one Group and key, and of the others, where entries of one Group and key are placed in a list of all cells.
use Rattle.std.proofs.Common.{◌≡◌, ℕ, ℤ, Bool, true, false, cond, List, [], ◌∷◌, ◌++◌, map, refl, sym, ap, subst, ◌∙◌, append-nil}
use Rattle.std.specs.Prelude.{bytes_eq, ◌==◌, ◌&&◌, ◌||◌, Some}
use Rattle.std.specs.List.{All, filter, flat_map, list_any}
use Rattle.std.proofs.lemmas.Bool.{and_parts, eq-eqb, eqb-true}
use Rattle.std.proofs.lemmas.List.Elements.{All-nil, All-cons, filter-append}
use Rattle.std.proofs.lemmas.Slice.Eq.{bytes_eq-Decides}
use Rattle.beam_values.specs.Intervals.{Interval}
use Rattle.beam_values.specs.Spelling.{spelling}
use Rattle.beam_values.specs.declared.cell.Cell.{Cell}
use Rattle.beam_values.specs.declared.cell.Entry.{Entry}
use Rattle.beam_values.specs.declared.element.Element.{Element}
use Rattle.beam_values.specs.declared.value.Value.{Value}
use Rattle.beam_model.specs.Panes.{GroupRules, is_cell_at_key}
use Rattle.group_cells.specs.Placing.{Opening, fresh_cell, gives_way, handed_over, is_same_key, once_opened, opened, opened_all, put, put_all, stands_as, takes, with_entry}
use Rattle.group_cells.specs.Plain.{ArePlaced, ArePlacedAt, opened_all_at, opened_at, opening_of, put_all_at, put_at}
use Rattle.group_cells.specs.Rounds.{AreWindowsFor, entry_of, open_windows}

-- ---- lists

pub filter_same : {X : Type 0} (p q : X → Bool) → ((x : X) → p x ≡ q x) → (xs : List X) → filter p xs ≡ filter q xs
filter_same p q same xs = ap (λ r. filter r xs) (λ i x. same x i)

filter_map : {X : Type 0} (p : X → Bool) (f : X → X) → ((x : X) → p (f x) ≡ p x) → (xs : List X) → filter p (map f xs) ≡ map f (filter p xs)
filter_map p f keeps [] = refl
filter_map p f keeps (x ∷ xs) =
    ap (λ b. cond b (f x ∷ filter p (map f xs)) (filter p (map f xs))) (keeps x)
    ∙ ap (λ l. cond (p x) (f x ∷ l) l) (filter_map p f keeps xs)
    ∙ by (p x)
  where
    by : (b : Bool) → cond b (f x ∷ map f (filter p xs)) (map f (filter p xs)) ≡ map f (cond b (x ∷ filter p xs) (filter p xs))
    by true = refl
    by false = refl

any_filter : {X : Type 0} (p q : X → Bool) (xs : List X) → list_any (λ x. p x && q x) xs ≡ list_any q (filter p xs)
any_filter p q [] = refl
any_filter p q (x ∷ xs) = by (p x) (any_filter p q xs)
  where
    by : (b : Bool) → list_any (λ y. p y && q y) xs ≡ list_any q (filter p xs)
        → (b && q x || list_any (λ y. p y && q y) xs) ≡ list_any q (cond b (x ∷ filter p xs) (filter p xs))
    by true h = ap (λ r. q x || r) h
    by false h = h

map_if : {X : Type 0} (p : X → Bool) (f : X → X) (xs : List X) → map (λ x. cond (p x) (f x) x) (filter p xs) ≡ map f (filter p xs)
map_if p f [] = refl
map_if p f (x ∷ xs) = by (p x) refl (map_if p f xs)
  where
    by : (b : Bool) → p x ≡ b → map (λ y. cond (p y) (f y) y) (filter p xs) ≡ map f (filter p xs)
        → map (λ y. cond (p y) (f y) y) (cond b (x ∷ filter p xs) (filter p xs)) ≡ map f (cond b (x ∷ filter p xs) (filter p xs))
    by true e h = λ i. cond (e i) (f x) x ∷ h i
    by false e h = h

flat_map_if : {X Y : Type 0} (p : X → Bool) (g : X → List Y) (xs : List X) → flat_map (λ x. cond (p x) (g x) []) xs ≡ flat_map g (filter p xs)
flat_map_if p g [] = refl
flat_map_if p g (x ∷ xs) = by (p x) (flat_map_if p g xs)
  where
    by : (b : Bool) → flat_map (λ y. cond (p y) (g y) []) xs ≡ flat_map g (filter p xs)
        → cond b (g x) [] ++ flat_map (λ y. cond (p y) (g y) []) xs ≡ flat_map g (cond b (x ∷ filter p xs) (filter p xs))
    by true h = ap (λ l. g x ++ l) h
    by false h = h

-- those of a filter that others pass
map_other : {X : Type 0} (p q : X → Bool) (f : X → X) → ((x : X) → p x ≡ true → q x ≡ false) → (xs : List X) → map (λ x. cond (p x) (f x) x) (filter q xs) ≡ filter q xs
map_other p q f off [] = refl
map_other p q f off (x ∷ xs) = by (q x) refl (p x) refl (map_other p q f off xs)
  where
    by : (b : Bool) → q x ≡ b → (a : Bool) → p x ≡ a → map (λ y. cond (p y) (f y) y) (filter q xs) ≡ filter q xs
        → map (λ y. cond (p y) (f y) y) (cond b (x ∷ filter q xs) (filter q xs)) ≡ cond b (x ∷ filter q xs) (filter q xs)
    by true e true d h = let no_ : true ≡ false = sym e ∙ off x d in absurd (cc)
    by true e false d h = λ i. cond (d i) (f x) x ∷ h i
    by false e a d h = h

-- ---- a Group and key

-- a node and a key are these
abbrev pub is_at : ℕ → Value → ℕ → Value → Bool
is_at node key n k = n == node && is_same_key k key

at_parts : (node : ℕ) (key : Value) (n : ℕ) (k : Value) → is_at node key n k ≡ true → (n ≡ node) × (spelling k ≡ spelling key)
at_parts node key n k on =
    let both = and_parts (n == node) (is_same_key k key) on in
    (eqb-true n node both.0, (bytes_eq-Decides (spelling k) (spelling key)).0 both.1)

pub at_itself : (node : ℕ) (key : Value) → is_at node key node key ≡ true
at_itself node key = λ i. eq-eqb node node refl i && (bytes_eq-Decides (spelling key) (spelling key)).1 refl i

-- what is at one of two that are alike is at the other
pub at_alike : (node : ℕ) (key : Value) (n : ℕ) (k : Value) → is_at node key n k ≡ true → (m : ℕ) (v : Value) → is_at n k m v ≡ is_at node key m v
at_alike node key n k on m v =
    let both = at_parts node key n k on in
    λ i. m == both.0 i && bytes_eq (spelling v) (both.1 i)

-- and at no other
pub at_apart : (node : ℕ) (key : Value) (n : ℕ) (k : Value) → is_at node key n k ≡ false → (m : ℕ) (v : Value) → is_at n k m v ≡ true → is_at node key m v ≡ false
at_apart node key n k off m v on =
    let both = at_parts n k m v on in
    (λ i. both.0 i == node && bytes_eq (both.1 i) (spelling key)) ∙ off

-- ---- a window is opened, an entry is put: what becomes of those that pass a test

module _ {X Y : Type 0} (p s : X → Bool) (f : X → X) (g : X → List Y) (fresh : List Y → X) where
  -- where one of these is there already nothing changes; else they give way to a fresh one
  abbrev opening_step : List X → List X
  opening_step xs =
      cond (list_any (λ x. p x && s x) xs) xs (map (λ x. cond (p x) (f x) x) xs ++ fresh (flat_map (λ x. cond (p x) (g x) []) xs) ∷ [])

  step_same : ((x : X) → p (f x) ≡ p x) → ((ys : List Y) → p (fresh ys) ≡ true) → (xs : List X)
      → filter p (opening_step xs) ≡ cond (list_any s (filter p xs)) (filter p xs) (map f (filter p xs) ++ fresh (flat_map g (filter p xs)) ∷ [])
  step_same keeps on xs = ap (λ b. filter p (cond b xs (map (λ x. cond (p x) (f x) x) xs ++ fresh es ∷ []))) (any_filter p s xs) ∙ by (list_any s (filter p xs))
    where
      es : List Y
      es = flat_map (λ x. cond (p x) (g x) []) xs

      kept : (x : X) → p (cond (p x) (f x) x) ≡ p x
      kept x = either (p x)
        where
          either : (b : Bool) → p (cond b (f x) x) ≡ p x
          either true = keeps x
          either false = refl

      out : filter p (map (λ x. cond (p x) (f x) x) xs ++ fresh (flat_map (λ x. cond (p x) (g x) []) xs) ∷ []) ≡ map f (filter p xs) ++ fresh (flat_map g (filter p xs)) ∷ []
      out =
          filter-append p (map (λ x. cond (p x) (f x) x) xs) (fresh (flat_map (λ x. cond (p x) (g x) []) xs) ∷ [])
          ∙ (λ i. (filter_map p (λ x. cond (p x) (f x) x) kept xs ∙ map_if p f xs) i ++ cond (on (flat_map (λ x. cond (p x) (g x) []) xs) i) (fresh (flat_map (λ x. cond (p x) (g x) []) xs) ∷ []) [])
          ∙ ap (λ ys. map f (filter p xs) ++ fresh ys ∷ []) (flat_map_if p g xs)

      by : (b : Bool) → filter p (cond b xs (map (λ x. cond (p x) (f x) x) xs ++ fresh (flat_map (λ x. cond (p x) (g x) []) xs) ∷ []))
          ≡ cond b (filter p xs) (map f (filter p xs) ++ fresh (flat_map g (filter p xs)) ∷ [])
      by true = refl
      by false = out

  step_other : (q : X → Bool) → ((x : X) → p x ≡ true → q x ≡ false) → ((x : X) → q (f x) ≡ q x) → ((ys : List Y) → q (fresh ys) ≡ false) → (xs : List X)
      → filter q (opening_step xs) ≡ filter q xs
  step_other q apart keeps off xs = by (list_any (λ x. p x && s x) xs)
    where
      kept : (x : X) → q (cond (p x) (f x) x) ≡ q x
      kept x = either (p x)
        where
          either : (b : Bool) → q (cond b (f x) x) ≡ q x
          either true = keeps x
          either false = refl

      by : (b : Bool) → filter q (cond b xs (map (λ x. cond (p x) (f x) x) xs ++ fresh (flat_map (λ x. cond (p x) (g x) []) xs) ∷ [])) ≡ filter q xs
      by true = refl
      by false =
          filter-append q (map (λ x. cond (p x) (f x) x) xs) (fresh (flat_map (λ x. cond (p x) (g x) []) xs) ∷ [])
          ∙ (λ i. (filter_map q (λ x. cond (p x) (f x) x) kept xs ∙ map_other p q f apart xs) i ++ cond (off (flat_map (λ x. cond (p x) (g x) []) xs) i) (fresh (flat_map (λ x. cond (p x) (g x) []) xs) ∷ []) [])
          ∙ append-nil (filter q xs)

keeps_place : (node : ℕ) (key : Value) (rules : GroupRules) (before : ℤ) (w : Interval) (cell : Cell) → is_cell_at_key node key (once_opened rules before w cell) ≡ is_cell_at_key node key cell
keeps_place node key rules before w cell = by (gives_way rules before w cell)
  where
    by : (b : Bool) → is_cell_at_key node key (cond b (record cell { entries = []; merged_into = Some w }) cell) ≡ is_cell_at_key node key cell
    by true = refl
    by false = refl

module _ (node : ℕ) (key : Value) (rules : GroupRules) where
  opened_same : (before : ℤ) (n : ℕ) (opening : Opening) (cells : List Cell) → is_at node key n opening.key ≡ true
      → filter (is_cell_at_key node key) (opened_at rules before n cells opening) ≡ opened rules before n (filter (is_cell_at_key node key) cells) opening
  opened_same before n opening cells on =
      ap (λ (p : Cell → Bool). filter (is_cell_at_key node key) (opening_step p (stands_as opening.span) (once_opened rules before opening.span) (handed_over rules before opening.span) (fresh_cell n opening.key opening.span) cells))
      (λ i cell. at_alike node key n opening.key on cell.node cell.key i)
      ∙ step_same (is_cell_at_key node key) (stands_as opening.span) (once_opened rules before opening.span) (handed_over rules before opening.span) (fresh_cell n opening.key opening.span)
      (keeps_place node key rules before opening.span) (λ _. on) cells

  opened_other : (before : ℤ) (n : ℕ) (opening : Opening) (cells : List Cell) → is_at node key n opening.key ≡ false
      → filter (is_cell_at_key node key) (opened_at rules before n cells opening) ≡ filter (is_cell_at_key node key) cells
  opened_other before n opening cells off =
      step_other (is_cell_at_key n opening.key) (stands_as opening.span) (once_opened rules before opening.span) (handed_over rules before opening.span) (fresh_cell n opening.key opening.span)
      (is_cell_at_key node key) (λ cell. at_apart node key n opening.key off cell.node cell.key)
      (keeps_place node key rules before opening.span) (λ _. off) cells

  -- those of one key, for windows of that key
  all_opened_same : (before : ℤ) (n : ℕ) (k : Value) (spans : List Interval) (cells : List Cell) → is_at node key n k ≡ true
      → filter (is_cell_at_key node key) (opened_all_at rules before n (map (opening_of k) spans) cells) ≡ opened_all rules before n (map (opening_of k) spans) (filter (is_cell_at_key node key) cells)
  all_opened_same before n k [] cells on = refl
  all_opened_same before n k (w ∷ spans) cells on =
      all_opened_same before n k spans (opened_at rules before n cells (opening_of k w)) on
      ∙ ap (opened_all rules before n (map (opening_of k) spans)) (opened_same before n (opening_of k w) cells on)

  all_opened_other : (before : ℤ) (n : ℕ) (k : Value) (spans : List Interval) (cells : List Cell) → is_at node key n k ≡ false
      → filter (is_cell_at_key node key) (opened_all_at rules before n (map (opening_of k) spans) cells) ≡ filter (is_cell_at_key node key) cells
  all_opened_other before n k [] cells off = refl
  all_opened_other before n k (w ∷ spans) cells off =
      all_opened_other before n k spans (opened_at rules before n cells (opening_of k w)) off ∙ opened_other before n (opening_of k w) cells off

  -- where a test says which cells are meant
  abbrev put_by : (Cell → Bool) → Entry → List Cell → List Cell
  put_by p entry [] = []
  put_by p entry (cell ∷ cells) = cond (p cell && takes rules entry cell) (with_entry entry cell ∷ cells) (cell ∷ put_by p entry cells)

  put_is : (n : ℕ) (k : Value) (entry : Entry) (cells : List Cell) → put_at rules n k entry cells ≡ put_by (is_cell_at_key n k) entry cells
  put_is n k entry [] = refl
  put_is n k entry (cell ∷ cells) = ap (λ l. cond (is_cell_at_key n k cell && takes rules entry cell) (with_entry entry cell ∷ cells) (cell ∷ l)) (put_is n k entry cells)

  put_same : (n : ℕ) (k : Value) (entry : Entry) (cells : List Cell) → is_at node key n k ≡ true
      → filter (is_cell_at_key node key) (put_at rules n k entry cells) ≡ put rules entry (filter (is_cell_at_key node key) cells)
  put_same n k entry cells on = ap (filter q) (put_is n k entry cells ∙ ap (λ (p : Cell → Bool). put_by p entry cells) (λ i cell. at_alike node key n k on cell.node cell.key i)) ∙ along cells
    where
      q : Cell → Bool
      q = λ cell. is_cell_at_key node key cell

      along : (cells : List Cell) → filter (is_cell_at_key node key) (put_by (is_cell_at_key node key) entry cells) ≡ put rules entry (filter (is_cell_at_key node key) cells)
      along [] = refl
      along (cell ∷ cells) = by (is_cell_at_key node key cell) refl (takes rules entry cell) refl (along cells)
        where
          by : (b : Bool) → is_cell_at_key node key cell ≡ b → (t : Bool) → takes rules entry cell ≡ t
              → filter (is_cell_at_key node key) (put_by (is_cell_at_key node key) entry cells) ≡ put rules entry (filter (is_cell_at_key node key) cells)
              → filter (is_cell_at_key node key) (cond (b && t) (with_entry entry cell ∷ cells) (cell ∷ put_by (is_cell_at_key node key) entry cells))
              ≡ put rules entry (cond b (cell ∷ filter (is_cell_at_key node key) cells) (filter (is_cell_at_key node key) cells))
          by true e true d h =
              ap (λ b. cond b (with_entry entry cell ∷ filter (is_cell_at_key node key) cells) (filter (is_cell_at_key node key) cells)) e
              ∙ sym (ap (λ t. cond t (with_entry entry cell ∷ filter (is_cell_at_key node key) cells) (cell ∷ put rules entry (filter (is_cell_at_key node key) cells))) d)
          by true e false d h =
              (λ i. cond (e i) (cell ∷ h i) (h i))
              ∙ sym (ap (λ t. cond t (with_entry entry cell ∷ filter (is_cell_at_key node key) cells) (cell ∷ put rules entry (filter (is_cell_at_key node key) cells))) d)
          by false e t d h = ap (λ b. cond b (cell ∷ filter (is_cell_at_key node key) (put_by (is_cell_at_key node key) entry cells)) (filter (is_cell_at_key node key) (put_by (is_cell_at_key node key) entry cells))) e ∙ h

  put_other : (n : ℕ) (k : Value) (entry : Entry) (cells : List Cell) → is_at node key n k ≡ false
      → filter (is_cell_at_key node key) (put_at rules n k entry cells) ≡ filter (is_cell_at_key node key) cells
  put_other n k entry [] off = refl
  put_other n k entry (cell ∷ cells) off = by (is_cell_at_key n k cell) refl (takes rules entry cell) (put_other n k entry cells off)
    where
      by : (b : Bool) → is_cell_at_key n k cell ≡ b → (t : Bool) → filter (is_cell_at_key node key) (put_at rules n k entry cells) ≡ filter (is_cell_at_key node key) cells
          → filter (is_cell_at_key node key) (cond (b && t) (with_entry entry cell ∷ cells) (cell ∷ put_at rules n k entry cells))
          ≡ cond (is_cell_at_key node key cell) (cell ∷ filter (is_cell_at_key node key) cells) (filter (is_cell_at_key node key) cells)
      by true e true h =
          let not_here : is_cell_at_key node key cell ≡ false = at_apart node key n k off cell.node cell.key e in
          ap (λ b. cond b (with_entry entry cell ∷ filter (is_cell_at_key node key) cells) (filter (is_cell_at_key node key) cells)) not_here
          ∙ sym (ap (λ b. cond b (cell ∷ filter (is_cell_at_key node key) cells) (filter (is_cell_at_key node key) cells)) not_here)
      by true e false h = ap (λ l. cond (is_cell_at_key node key cell) (cell ∷ l) l) h
      by false e t h = ap (λ l. cond (is_cell_at_key node key cell) (cell ∷ l) l) h

  all_put_same : (n : ℕ) (k : Value) (entries : List Entry) (cells : List Cell) → is_at node key n k ≡ true
      → filter (is_cell_at_key node key) (put_all_at rules n k entries cells) ≡ put_all rules entries (filter (is_cell_at_key node key) cells)
  all_put_same n k [] cells on = refl
  all_put_same n k (entry ∷ entries) cells on =
      all_put_same n k entries (put_at rules n k entry cells) on ∙ ap (put_all rules entries) (put_same n k entry cells on)

  all_put_other : (n : ℕ) (k : Value) (entries : List Entry) (cells : List Cell) → is_at node key n k ≡ false
      → filter (is_cell_at_key node key) (put_all_at rules n k entries cells) ≡ filter (is_cell_at_key node key) cells
  all_put_other n k [] cells off = refl
  all_put_other n k (entry ∷ entries) cells off =
      all_put_other n k entries (put_at rules n k entry cells) off ∙ put_other n k entry cells off

  -- **what is placed of one Group and key is placed among the cells of that**
  pub placed_same : (before : ℤ) (n : ℕ) (k : Value) (c : ℕ) (own : List Element) (cells placed : List Cell) → is_at node key n k ≡ true → ArePlacedAt rules before n k c own cells placed
      → ArePlaced rules before node key c own (filter (is_cell_at_key node key) cells) (filter (is_cell_at_key node key) placed)
  placed_same before n k c own cells placed on h = record {
    openings = map (opening_of k) h.spans;
    keyed = all_keyed h.spans;
    windows =
        subst (λ (l : List Interval). AreWindowsFor rules.merges (map (λ e. e.span) own) (open_windows rules before (filter (is_cell_at_key node key) cells)) l) (sym (spans_back h.spans))
        (subst (λ (l : List Cell). AreWindowsFor rules.merges (map (λ e. e.span) own) (open_windows rules before l) h.spans)
        (filter_same (is_cell_at_key n k) (is_cell_at_key node key) (λ cell. at_alike node key n k on cell.node cell.key) cells) h.windows);
    places =
        ap (filter (is_cell_at_key node key)) h.places
        ∙ all_put_same n k (map (entry_of c) own) (opened_all_at rules before n (map (opening_of k) h.spans) cells) on
        ∙ ap (put_all rules (map (entry_of c) own)) (all_opened_same before n k h.spans cells on)
        ∙ ap (λ m. put_all rules (map (entry_of c) own) (opened_all rules before m (map (opening_of k) h.spans) (filter (is_cell_at_key node key) cells))) (at_parts node key n k on).0;
  }
    where
      same_key : is_same_key k key ≡ true
      same_key = (and_parts (n == node) (is_same_key k key) on).1

      all_keyed : (spans : List Interval) → All (λ opening. is_same_key opening.key key ≡ true) (map (opening_of k) spans)
      all_keyed [] = All-nil (λ (opening : Opening). is_same_key opening.key key ≡ true)
      all_keyed (w ∷ spans) = All-cons (λ (opening : Opening). is_same_key opening.key key ≡ true) (opening_of k w) (map (opening_of k) spans) same_key (all_keyed spans)

      spans_back : (spans : List Interval) → map (λ opening. opening.span) (map (opening_of k) spans) ≡ spans
      spans_back [] = refl
      spans_back (w ∷ spans) = ap (λ l. w ∷ l) (spans_back spans)

  pub placed_other : (before : ℤ) (n : ℕ) (k : Value) (c : ℕ) (own : List Element) (cells placed : List Cell) → is_at node key n k ≡ false → ArePlacedAt rules before n k c own cells placed
      → filter (is_cell_at_key node key) placed ≡ filter (is_cell_at_key node key) cells
  placed_other before n k c own cells placed off h =
      ap (filter (is_cell_at_key node key)) h.places
      ∙ all_put_other n k (map (entry_of c) own) (opened_all_at rules before n (map (opening_of k) h.spans) cells) off
      ∙ all_opened_other before n k h.spans cells off
