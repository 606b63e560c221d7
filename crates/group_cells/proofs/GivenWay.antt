-- A cell gives way to the session of the last cell, and stands again.
use Rattle.std.proofs.Common.{◌≡◌, ℕ, zero, suc, ◌+◌, ◌-◌, ◌<◌, ◌≤◌, ◌≢◌, ℤ, Bool, true, false, List, [], ◌∷◌, ◌++◌, length, get_or, take, Option, Some, None, refl, sym, ap, ◌∙◌, arith, append-nil, append_assoc, length-append}
use Rattle.std.proofs.Math.ListN.{set, length-set}
use Rattle.std.proofs.Math.Seq.{set-append_seam}
use Rattle.std.specs.Prelude.{◌&&◌, slice_get, slice_set, unwrap_or, fold}
use Rattle.std.specs.Option.{option_map}
use Rattle.std.proofs.lemmas.List.{get_or_append_left, set-append_left, take_more}
use Rattle.std.proofs.lemmas.List.Sums.{fold-append}
use Rattle.std.proofs.lemmas.Option.{slice_get_read}
use Rattle.beam_values.specs.Intervals.{Interval}
use Rattle.beam_values.specs.declared.cell.Cell.{Cell}
use Rattle.beam_values.specs.declared.cell.Entry.{Entry}
use Rattle.beam_values.specs.declared.value.Value.{Value}
use Rattle.beam_model.specs.Panes.{GroupRules}
use Rattle.cell_index.specs.Indexes.{IsIndexOf}
use Rattle.cell_index.specs.declared.index.CellIndex.{CellIndex}
use Rattle.group_cells.specs.AtPlaces.{at_place, changed_at, given_all}
use Rattle.group_cells.specs.Handing.{given_entries, given_way, handed_back, kept_entries, standing_with, with_entries, without_given, HasGivenWay}
use Rattle.group_cells.specs.Placing.{fresh_cell, gives_way, handed_over, is_absorbed, is_standing, once_opened}
use Rattle.group_cells.specs.Undoing.{undone_all}
use Rattle.group_cells.specs.declared.groups.draft.Change.{Change}
use Rattle.group_cells.specs.declared.groups.draft.Change.TheVariants.{GaveWay}
use Rattle.group_cells.specs.declared.groups.handing.Given.{Given}
use Rattle.group_cells.proofs.FireSteps.{read_is}
use Rattle.group_cells.proofs.Handing.{goes_there, none_there, stays_there}
use Rattle.group_cells.proofs.Taking.{index_replaced, with_cell}
use Rattle.group_cells.proofs.Undoing.{read_written, set_again, set_back, undone_more}

read_other : {X : Type 0} (xs : List X) (i j : ℕ) (x : X) → j ≢ i → slice_get (set xs i x) j ≡ slice_get xs j
read_other [] i j x ne = refl
read_other (y ∷ xs) zero zero x ne = absurd (ne refl)
read_other (y ∷ xs) zero (suc j) x ne = refl
read_other (y ∷ xs) (suc i) zero x ne = refl
read_other (y ∷ xs) (suc i) (suc j) x ne = read_other xs i j x (λ e. ne (ap suc e))

read_end : {X : Type 0} (xs : List X) (x : X) → slice_get (xs ++ x ∷ []) (length xs) ≡ Some x
read_end [] x = refl
read_end (y ∷ xs) x = read_end xs x

-- what is read at a later place
pub read_later : (cells : List Cell) (place last_ : ℕ) (other cell : Cell) → place < last_ → slice_get cells last_ ≡ Some cell → slice_get (set cells place other) last_ ≡ Some cell
read_later cells place last_ other cell before there = read_other cells place last_ other (λ e. absurd (omega arith)) ∙ there

module _ (session : Interval) (cells : List Cell) (place last_ : ℕ) (before : place < last_) (ends : last_ + 1 ≡ length cells) where
  apart : last_ ≢ place
  apart = omega arith

  within : place < length cells
  within = omega arith

  last_within : last_ < length cells
  last_within = omega arith

  module _ (cell taker : Cell) (found : slice_get cells place ≡ Some cell) (there : slice_get cells last_ ≡ Some taker) where
    pub still : slice_get (set cells place (given_way session cell)) last_ ≡ Some taker
    still = read_other cells place last_ (given_way session cell) apart ∙ there

    back : (given : Given) (new : List Cell) → cell.merged_into ≡ None
        → new ≡ set (set cells place (given_way session cell)) last_ (with_entries cell.entries taker)
        → kept_entries given (taker.entries ++ cell.entries) ≡ taker.entries → given_entries given (taker.entries ++ cell.entries) ≡ cell.entries
        → handed_back place given new ≡ cells
    back given new stands made kept went =
        let left : List Cell = set cells place (given_way session cell) in
        let full : Cell = with_entries cell.entries taker in
        let in_left : last_ < length left = omega (arith, length-set cells place (given_way session cell), last_within) in
        let ends_there : length (set left last_ full) - 1 ≡ last_ = omega (arith, length-set left last_ full, length-set cells place (given_way session cell), ends) in
        let full_there : slice_get (set left last_ full) last_ ≡ Some full = read_written left last_ full in_left in
        let read : at_place (λ (c : Cell). given_entries given c.entries) [] (set left last_ full) last_ ≡ cell.entries =
        ap (λ o. unwrap_or (option_map (λ (c : Cell). given_entries given c.entries) o) []) full_there ∙ went in
        let kept_there : changed_at (without_given given) (set left last_ full) last_ ≡ left =
        ap (λ o. unwrap_or (option_map (λ c. set (set left last_ full) last_ (without_given given c)) o) (set left last_ full)) full_there
        ∙ set_again left last_ full (without_given given full)
        ∙ ap (λ (es : List Entry). set left last_ (record taker { entries = es })) kept
        ∙ set_back left last_ taker still in
        ap (handed_back place given) made
        ∙ ap (λ n. changed_at (standing_with (at_place (λ (c : Cell). given_entries given c.entries) [] (set left last_ full) n)) (changed_at (without_given given) (set left last_ full) n) place) ends_there
        ∙ (λ i. changed_at (standing_with (read i)) (kept_there i) place)
        ∙ ap (λ o. unwrap_or (option_map (λ c. set left place (standing_with cell.entries c)) o) left) (read_written cells place (given_way session cell) within)
        ∙ set_again cells place (given_way session cell) (standing_with cell.entries cell)
        ∙ ap (λ (o : Option Interval). set cells place (record cell { merged_into = o })) (sym stands)
        ∙ set_back cells place cell found

  module _ (mid : List Cell) (entries : List Entry)
      (taken : (cell : Cell) → slice_get cells place ≡ Some cell → mid ≡ slice_set cells place (given_way session cell))
      (those : (cell : Cell) → slice_get cells place ≡ Some cell → entries ≡ cell.entries) where
    pub mid_length : length mid ≡ length cells
    mid_length = with_cell cells place within (λ cell found. ap length (taken cell found) ∙ length-set cells place (given_way session cell))

    still_mid : (cell taker : Cell) → slice_get cells place ≡ Some cell → slice_get cells last_ ≡ Some taker → slice_get mid last_ ≡ Some taker
    still_mid cell taker found there = ap (λ l. slice_get l last_) (taken cell found) ∙ still cell taker found there

    pub gave : (new : List Cell) → ((taker : Cell) → slice_get mid last_ ≡ Some taker → new ≡ slice_set mid last_ (with_entries entries taker))
        → HasGivenWay session place last_ cells new
    gave new put = λ cell taker found there.
        put taker (still_mid cell taker found there) ∙ (λ i. slice_set (taken cell found i) last_ (with_entries (those cell found i) taker))

    pub gave_back : (given : Given) (new : List Cell) → ((cell : Cell) → slice_get cells place ≡ Some cell → cell.merged_into ≡ None)
        → ((taker : Cell) → slice_get mid last_ ≡ Some taker → new ≡ slice_set mid last_ (with_entries entries taker))
        → ((taker : Cell) → slice_get mid last_ ≡ Some taker → kept_entries given (taker.entries ++ entries) ≡ taker.entries)
        → ((taker : Cell) → slice_get mid last_ ≡ Some taker → given_entries given (taker.entries ++ entries) ≡ entries)
        → handed_back place given new ≡ cells
    gave_back given new stands put kept went = with_cell cells place within (λ cell found. with_cell cells last_ last_within (λ taker there.
        let here = still_mid cell taker found there in
        back cell taker found there given new (stands cell found) (gave new put cell taker found there)
        (sym (ap (λ es. kept_entries given (taker.entries ++ es)) (those cell found)) ∙ kept taker here)
        (sym (ap (λ es. given_entries given (taker.entries ++ es)) (those cell found)) ∙ went taker here ∙ those cell found)))

    pub taken_back : (same new : List Cell) (answered : List Entry) → ((cell : Cell) → slice_get cells place ≡ Some cell → cell.merged_into ≡ None)
        → same ≡ mid → answered ≡ entries → ((cell : Cell) → slice_get same place ≡ Some cell → new ≡ slice_set same place (standing_with answered cell))
        → new ≡ cells
    taken_back same new answered stands stays those_are put = with_cell cells place within (λ cell found.
        let left : Cell = given_way session cell in
        let same_is : same ≡ set cells place left = stays ∙ taken cell found in
        let answered_are : answered ≡ cell.entries = those_are ∙ those cell found in
        put left (ap (λ l. slice_get l place) same_is ∙ read_written cells place left within)
        ∙ (λ i. set (same_is i) place (standing_with (answered_are i) left))
        ∙ set_again cells place left (standing_with cell.entries left)
        ∙ ap (λ (o : Option Interval). set cells place (record cell { merged_into = o })) (sym (stands cell found))
        ∙ set_back cells place cell found)

  -- the index, where a cell gave way
  pub given_index : (index : CellIndex) (new : List Cell) → HasGivenWay session place last_ cells new → IsIndexOf index cells → IsIndexOf index new
  given_index index new gone_ h = with_cell cells place within (λ cell found. with_cell cells last_ last_within (λ taker there.
      index_replaced index (set cells place (given_way session cell)) new last_ taker (with_entries cell.entries taker) (still cell taker found there) (refl, refl, refl)
      (gone_ cell taker found there)
      (index_replaced index cells (set cells place (given_way session cell)) place cell (given_way session cell) found (refl, refl, refl) refl h)))

standing_so : (m : Option Interval) (b : Bool) → (is_standing m && b) ≡ true → m ≡ None
standing_so None b e = refl
standing_so (Some w) b e = absurd cc

-- a cell that gives way stands
pub stood : (rules : GroupRules) (before : ℤ) (w : Interval) (cells : List Cell) (place : ℕ) (read : Cell) → read ≡ get_or cells place read → gives_way rules before w read ≡ true
    → (cell : Cell) → slice_get cells place ≡ Some cell → cell.merged_into ≡ None
stood rules before w cells place read is goes cell found =
    sym (ap (λ (x : Cell). x.merged_into) (read_is cells place read cell is found)) ∙ standing_so read.merged_into (is_absorbed rules before w read.span) goes

pub gave_way_step : (changes : List Change) (cells new : List Cell) (place : ℕ) (given : Given) → handed_back place given new ≡ cells
    → undone_all (changes ++ GaveWay place given ∷ []) new ≡ undone_all changes cells
gave_way_step changes cells new place given back_ = undone_more changes (GaveWay place given) new ∙ ap (undone_all changes) back_

-- ---- the cells before the session's, one after another

module _ (rules : GroupRules) (before : ℤ) (w : Interval) (cells front : List Cell) (taker : Cell) (place : ℕ) (whole : cells ≡ front ++ taker ∷ []) where
  long : length cells ≡ length front + 1
  long = ap length whole ∙ length-append front (taker ∷ [])

  same_taker : taker ≡ with_entries [] taker
  same_taker = sym (ap (λ (es : List Entry). let c : Cell = record taker { entries = es } in c) (append-nil taker.entries))

  kept_so : (front ≡ changed_at (once_opened rules before w) front place) × ([] ≡ at_place (handed_over rules before w) [] front place)
      → cells ≡ changed_at (once_opened rules before w) front place ++ with_entries (at_place (handed_over rules before w) [] front place) taker ∷ []
  kept_so stays = whole ∙ (λ i. stays.0 i ++ (same_taker ∙ ap (λ es. with_entries es taker) stays.1) i ∷ [])

  pub past_over : length cells ≤ place + 1
      → cells ≡ changed_at (once_opened rules before w) front place ++ with_entries (at_place (handed_over rules before w) [] front place) taker ∷ []
  past_over past = kept_so (none_there rules before w front place (omega (arith, long)))

  module _ (cell : Cell) (within : place + 1 < length cells) (is : cell ≡ get_or cells place cell) where
    in_front : place < length front
    in_front = omega (arith, long)

    here : cell ≡ get_or front place cell
    here = is ∙ ap (λ l. get_or l place cell) whole ∙ get_or_append_left front (taker ∷ []) cell place in_front

    pub stays_over : gives_way rules before w cell ≡ false
        → cells ≡ changed_at (once_opened rules before w) front place ++ with_entries (at_place (handed_over rules before w) [] front place) taker ∷ []
    stays_over stays = kept_so (stays_there rules before w front place cell in_front here stays)

    pub goes_over : (last_ : ℕ) (new : List Cell) → last_ + 1 ≡ length cells → HasGivenWay w place last_ cells new → gives_way rules before w cell ≡ true
        → new ≡ changed_at (once_opened rules before w) front place ++ with_entries (at_place (handed_over rules before w) [] front place) taker ∷ []
    goes_over last_ new ends gone_ goes =
        let left : Cell = given_way w cell in
        let full : Cell = with_entries cell.entries taker in
        let at_end : last_ ≡ length front = omega (arith, long, ends) in
        let long_left : length front ≡ length (set front place left) = sym (length-set front place left) in
        let found : slice_get cells place ≡ Some cell = slice_get_read cells (length cells) place cell refl (omega arith) is in
        let there : slice_get cells last_ ≡ Some taker = (λ i. slice_get (whole i) (at_end i)) ∙ read_end front taker in
        let parts = goes_there rules before w front place cell in_front here left refl goes in
        gone_ cell taker found there
        ∙ (λ i. set (set (whole i) place left) (at_end i) full)
        ∙ ap (λ l. set l (length front) full) (set-append_left front (taker ∷ []) place left in_front)
        ∙ ap (λ n. set (set front place left ++ taker ∷ []) n full) long_left
        ∙ set-append_seam (set front place left) taker [] full
        ∙ (λ i. parts.0 i ++ with_entries (parts.1 i) taker ∷ [])

given_more : {X Y : Type 0} (f : X → X) (g : X → List Y) (places : List ℕ) (place : ℕ) (xs : List X)
    → given_all f g (places ++ place ∷ []) xs ≡ given_all f g places xs ++ at_place g [] (fold (changed_at f) xs places) place
given_more f g [] place xs = append-nil (at_place g [] xs place)
given_more f g (p ∷ places) place xs =
    ap (λ l. at_place g [] xs p ++ l) (given_more f g places place (changed_at f xs p))
    ∙ sym (append_assoc (at_place g [] xs p) (given_all f g places (changed_at f xs p)) (at_place g [] (fold (changed_at f) (changed_at f xs p) places) place))

pub over_step : (once : Cell → Cell) (over : Cell → List Entry) (node : ℕ) (key : Value) (w : Interval) (old now new : List Cell) (places : List ℕ) (i place : ℕ)
    → i < length places → place ≡ get_or places i 0
    → now ≡ fold (changed_at once) old (take i places) ++ fresh_cell node key w (given_all once over (take i places) old) ∷ []
    → ((front : List Cell) (taker : Cell) → now ≡ front ++ taker ∷ [] → new ≡ changed_at once front place ++ with_entries (at_place over [] front place) taker ∷ [])
    → new ≡ fold (changed_at once) old (take (i + 1) places) ++ fresh_cell node key w (given_all once over (take (i + 1) places) old) ∷ []
over_step once over node key w old now new places i place within is so step =
    let front = fold (changed_at once) old (take i places) in
    let given = given_all once over (take i places) old in
    let more : take (i + 1) places ≡ take i places ++ place ∷ [] = take_more places i 0 within ∙ ap (λ p. take i places ++ p ∷ []) (sym is) in
    step front (fresh_cell node key w given) so
    ∙ sym ((λ j. fold (changed_at once) old (more j) ++ fresh_cell node key w (given_all once over (more j) old) ∷ [])
    ∙ (λ j. fold-append (changed_at once) old (take i places) (place ∷ []) j ++ fresh_cell node key w (given_more once over (take i places) place old j) ∷ []))
