-- What of a cell says which windows stand: its window, and whether it was merged. Neither an entry that is put nor a pane that fires changes it.
use Rattle.std.proofs.Common.{◌≡◌, ℕ, ◌≤◌, ℤ, Bool, true, false, cond, List, [], ◌∷◌, map, get_or, refl, sym, ap, subst, ◌∙◌}
use Rattle.std.specs.Prelude.{◌&&◌, ◌||◌, not, Option, Some, None}
use Rattle.std.specs.List.{All, count_by, filter, list_any}
use Rattle.std.proofs.lemmas.List.Elements.{All-cons, All-head, All-tail, All-map, All-weaker}
use Rattle.beam_values.specs.Firing.{is_expired}
use Rattle.beam_values.specs.Intervals.{Interval}
use Rattle.beam_values.specs.Spans.{same_span, lies_in}
use Rattle.beam_values.specs.declared.cell.Cell.{Cell}
use Rattle.beam_values.specs.declared.cell.Entry.{Entry}
use Rattle.beam_values.specs.declared.element.Timing.{Timing}
use Rattle.beam_model.specs.Panes.{GroupRules, belongs, taken_entry}
use Rattle.group_cells.specs.Cells.{after_firing, firing_of, once_fired, shown}
use Rattle.group_cells.specs.Placing.{is_standing, put, put_all, takes, with_entry}
use Rattle.group_cells.specs.Rounds.{is_open, open_windows}
use Rattle.group_cells.specs.Sane.{AreOnce, HasTaker, stands_round}
use Rattle.group_cells.proofs.Counting.{All-unmap, count_same}

pub record Shape : Type 0 where
  pub span : Interval
  pub merged_into : Option Interval

abbrev pub shape : Cell → Shape
shape cell = record { span = cell.span; merged_into = cell.merged_into }

-- ---- what keeps it

put_shapes : (rules : GroupRules) (entry : Entry) (cells : List Cell) → map shape (put rules entry cells) ≡ map shape cells
put_shapes rules entry [] = refl
put_shapes rules entry (cell ∷ cells) = by (takes rules entry cell) (put_shapes rules entry cells)
  where
    by : (b : Bool) → map shape (put rules entry cells) ≡ map shape cells → map shape (cond b (with_entry entry cell ∷ cells) (cell ∷ put rules entry cells)) ≡ map shape (cell ∷ cells)
    by true rest = refl
    by false rest = ap (λ l. shape cell ∷ l) rest

pub all_put_shapes : (rules : GroupRules) (entries : List Entry) (cells : List Cell) → map shape (put_all rules entries cells) ≡ map shape cells
all_put_shapes rules [] cells = refl
all_put_shapes rules (e ∷ entries) cells = all_put_shapes rules entries (put rules e cells) ∙ put_shapes rules e cells

pub fired_shapes : (rules : GroupRules) (mark : ℤ) (cells : List Cell) → map shape (map (after_firing rules mark) cells) ≡ map shape cells
fired_shapes rules mark [] = refl
fired_shapes rules mark (cell ∷ cells) = λ i. one (firing_of rules mark cell) i ∷ fired_shapes rules mark cells i
  where
    one : (t : Option Timing) → shape (once_fired t cell) ≡ shape cell
    one None = refl
    one (Some timing) = refl

-- ---- what it says

module _ (cells new : List Cell) (same : map shape new ≡ map shape cells) where
  pub once_alike : AreOnce cells → AreOnce new
  once_alike once w =
      let has : Shape → Bool = λ s. same_span s.span w in
      subst (λ (n : ℕ). n ≤ 1)
      (sym (count_same shape has (λ cell. same_span cell.span w) (λ cell. refl) cells) ∙ sym (ap (count_by has) same) ∙ count_same shape has (λ cell. same_span cell.span w) (λ cell. refl) new)
      (once w)

  abbrev shape_windows : GroupRules → ℤ → List Shape → List Interval
  shape_windows rules mark shapes = map (λ s. s.span) (filter (λ s. is_standing s.merged_into && not (is_expired rules.trigger s.span.end mark)) shapes)

  of_shapes : (rules : GroupRules) (mark : ℤ) (xs : List Cell) → shape_windows rules mark (map shape xs) ≡ open_windows rules mark xs
  of_shapes rules mark [] = refl
  of_shapes rules mark (x ∷ xs) = by (is_open rules mark x) (of_shapes rules mark xs)
    where
      open_shape : Shape → Bool
      open_shape s = is_standing s.merged_into && not (is_expired rules.trigger s.span.end mark)

      by : (b : Bool) → map (λ s. s.span) (filter (λ s. is_standing s.merged_into && not (is_expired rules.trigger s.span.end mark)) (map shape xs)) ≡ map (λ cell. cell.span) (filter (is_open rules mark) xs)
          → map (λ s. s.span) (cond b (shape x ∷ filter (λ s. is_standing s.merged_into && not (is_expired rules.trigger s.span.end mark)) (map shape xs))
          (filter (λ s. is_standing s.merged_into && not (is_expired rules.trigger s.span.end mark)) (map shape xs)))
          ≡ map (λ cell. cell.span) (cond b (x ∷ filter (is_open rules mark) xs) (filter (is_open rules mark) xs))
      by true rest = ap (λ l. x.span ∷ l) rest
      by false rest = rest

  pub open_alike : (rules : GroupRules) (mark : ℤ) → open_windows rules mark new ≡ open_windows rules mark cells
  open_alike rules mark = sym (of_shapes rules mark new) ∙ ap (shape_windows rules mark) same ∙ of_shapes rules mark cells

  any_shape : (p : Shape → Bool) (xs : List Cell) → list_any p (map shape xs) ≡ list_any (λ cell. p (shape cell)) xs
  any_shape p [] = refl
  any_shape p (x ∷ xs) = ap (λ b. p (shape x) || b) (any_shape p xs)

  any_alike : (p : Shape → Bool) → list_any (λ cell. p (shape cell)) new ≡ list_any (λ cell. p (shape cell)) cells
  any_alike p = sym (any_shape p new) ∙ ap (list_any p) same ∙ any_shape p cells

-- ---- cells that were merged stay empty

abbrev pub IsEmptied : Cell → Type 0
IsEmptied cell = is_standing cell.merged_into ≡ false → cell.entries ≡ []

put_emptied : (rules : GroupRules) (entry : Entry) (cells : List Cell) → All IsEmptied cells → All IsEmptied (put rules entry cells)
put_emptied rules entry [] all = all
put_emptied rules entry (cell ∷ cells) all =
    by (is_standing cell.merged_into) refl (belongs rules cell.span (taken_entry cell.node entry)) (put_emptied rules entry cells (All-tail IsEmptied cell cells all))
  where
    head : IsEmptied cell
    head = All-head IsEmptied cell cells all

    tail : All IsEmptied cells
    tail = All-tail IsEmptied cell cells all

    by : (s : Bool) → is_standing cell.merged_into ≡ s → (b : Bool) → All IsEmptied (put rules entry cells)
        → All IsEmptied (cond (s && b) (with_entry entry cell ∷ cells) (cell ∷ put rules entry cells))
    by true e true rest = All-cons IsEmptied (with_entry entry cell) cells (λ off. let no : true ≡ false = sym e ∙ off in absurd (cc)) tail
    by true e false rest = All-cons IsEmptied cell (put rules entry cells) head rest
    by false e b rest = All-cons IsEmptied cell (put rules entry cells) head rest

pub all_put_emptied : (rules : GroupRules) (entries : List Entry) (cells : List Cell) → All IsEmptied cells → All IsEmptied (put_all rules entries cells)
all_put_emptied rules [] cells all = all
all_put_emptied rules (e ∷ entries) cells all = all_put_emptied rules entries (put rules e cells) (put_emptied rules e cells all)

pub fired_emptied : (rules : GroupRules) (mark : ℤ) (cells : List Cell) → All IsEmptied cells → All IsEmptied (map (after_firing rules mark) cells)
fired_emptied rules mark cells all =
    All-map IsEmptied (after_firing rules mark) cells (All-weaker IsEmptied (λ (cell : Cell). IsEmptied (after_firing rules mark cell)) (λ cell h. by cell h (firing_of rules mark cell)) cells all)
  where
    by : (cell : Cell) → IsEmptied cell → (t : Option Timing) → IsEmptied (once_fired t cell)
    by cell h None = h
    by cell h (Some timing) = λ off. ap (map shown) (h off)

-- what takers there are, the shapes say but for that
pub takers_alike : (rules : GroupRules) (cells new : List Cell) → map shape new ≡ map shape cells → All IsEmptied new → All (HasTaker rules cells) cells → All (HasTaker rules new) new
takers_alike rules cells new same emptied takers = done
  where
    TakenShape : Shape → Type 0
    TakenShape s = is_standing s.merged_into ≡ false → (rules.merges ≡ true) × (list_any (stands_round s.span) cells ≡ true)

    shapes : All TakenShape (map shape new)
    shapes =
        subst (All TakenShape) (sym same)
        (All-map TakenShape shape cells (All-weaker (HasTaker rules cells) (λ (cell : Cell). TakenShape (shape cell)) (λ cell h off. let m = h off in (m.merges, m.taker)) cells takers))

    done : All (HasTaker rules new) new
    done k d within off =
        let has = All-unmap TakenShape shape new shapes k d within off in
        record {
          merges = has.0;
          empty = emptied k d within off;
          taker = any_alike cells new same (λ s. is_standing s.merged_into && lies_in (get_or new k d).span s.span) ∙ has.1;
        }
