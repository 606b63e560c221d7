-- The cells at the places that are due fire, one place after another.
use Rattle.std.proofs.Common.{◌≡◌, ◌⊎◌, inl, inr, ℕ, zero, suc, ◌+◌, ◌-◌, ◌<◌, ◌≤◌, ◌==◌, ◌^◌, ℤ, ◌≤ℤ◌, Bool, true, false, cond, List, [], ◌++◌, length, map, get_or, take, Option, Some, None, refl, sym, ap, subst, ◌∙◌, arith, append-nil}
use Rattle.std.specs.Prelude.{Contains, int_lt, IsSome, IsSomeAnd, MatchOption, ◌&&◌, ◌↔◌, option_to_list, slice_get, slice_set}
use Rattle.std.specs.BTreeSet.{contains}
use Rattle.std.specs.List.{All}
use Rattle.std.specs.List.Sorted.{IsNonDecreasing, IsPermutation}
use Rattle.std.proofs.lemmas.Bool.{cases_lt, eqb-true, false≢true}
use Rattle.std.proofs.lemmas.Int.{ints}
use Rattle.std.proofs.lemmas.Bool.Decides.{Decides-int_eq}
use Rattle.std.proofs.lemmas.List.{drop_all, get_or_default, get_or-take, take_all, take_more, length-take}
use Rattle.std.proofs.lemmas.List.Elements.{All-push, All-weaker}
use Rattle.std.proofs.lemmas.List.Sorted.{Contains-permutation}
use Rattle.std.proofs.lemmas.Option.{get_or_from_slice_get, slice_get_read, slice_get_within}
use Rattle.beam_values.specs.Firing.{firing}
use Rattle.beam_values.specs.Times.{IsMark, final_mark, greatest_time, least_time}
use Rattle.beam_values.specs.declared.cell.Cell.{Cell}
use Rattle.beam_values.specs.declared.cell.Pane.{Pane}
use Rattle.beam_values.specs.declared.element.Timing.{Timing}
use Rattle.beam_values.specs.declared.plan.Plan.{Plan}
use Rattle.beam_values.specs.declared.plan.Trigger.{Trigger}
use Rattle.beam_model.specs.Panes.{GroupRules, IsFiredAs, taken_entry, trigger_of}
use Rattle.pane_triggers.specs.NextMarks.{IsNeverDue, IsNextMark, next_mark}
use Rattle.group_cells.specs.Cells.{entries_held, firing_of, once_fired, unseen_in}
use Rattle.group_cells.specs.Due.{IsDueOf, due_cmp, has_moment, is_due_as, own_moment}
use Rattle.group_cells.specs.FiredUpTo.{AreAllDue, AreFiredUpTo, IsFiredPast, IsNoneDue}
use Rattle.group_cells.specs.Looking.{moment_of}
use Rattle.group_cells.specs.Placing.{is_standing}
use Rattle.group_cells.specs.Plain.{AreFired, FiresAs, after_node, firing_at}
use Rattle.group_cells.specs.declared.groups.due.DueCells.{DueCells}
use Rattle.group_cells.specs.declared.groups.due.DueKey.{DueKey}
use Rattle.group_cells.proofs.FireSteps.{fired_step, unfired_cells}
use Rattle.group_cells.proofs.Writes.{still_within, written_item, written_length}

module _ (rules : GroupRules) (node c : ℕ) (mark : ℤ) (xs : List Cell) where
  pub fired_next : (i : ℕ) (items new : List Cell) (panes after : List Pane) (pane : Option Pane) → i < length xs → AreFiredUpTo rules node c mark xs i items panes
      → ((cell : Cell) → slice_get items i ≡ Some cell → new ≡ slice_set items i (after_node rules node mark cell))
      → ((cell : Cell) → slice_get items i ≡ Some cell → FiresAs rules node c mark cell (option_to_list pane))
      → after ≡ panes ++ option_to_list pane
      → AreFiredUpTo rules node c mark xs (i + 1) new after
  fired_next i items new panes after pane within h made fires pushed =
      let step = fired_step rules node c mark xs items new i panes after pane (still_within (after_node rules node mark) xs items i within h.written) h.written h.each made fires pushed in
      record { within = omega (arith, within); written = step.0; each = step.1 }

  -- a cell that isn't due stays as it is, whatever is read at its place
  idle : (cell : Cell) → firing_at rules node mark cell ≡ None → after_node rules node mark cell ≡ cell
  idle cell e = ap (λ (t : Option Timing). once_fired t cell) e

  read_back : (i : ℕ) (items : List Cell) (cell : Cell) (panes : List Pane) → i < length xs → AreFiredUpTo rules node c mark xs i items panes → slice_get items i ≡ Some cell → slice_get xs i ≡ Some cell
  read_back i items cell panes within h found =
      slice_get_read xs (length xs) i cell refl within
      (written_item (after_node rules node mark) xs items i cell (still_within (after_node rules node mark) xs items i within h.written) h.written (sym (get_or_from_slice_get items i cell cell found)))

  pub skip_one : (i : ℕ) (items : List Cell) (panes : List Pane) → i < length xs → AreFiredUpTo rules node c mark xs i items panes
      → ((cell : Cell) → slice_get xs i ≡ Some cell → firing_at rules node mark cell ≡ None) → AreFiredUpTo rules node c mark xs (i + 1) items panes
  skip_one i items panes within h none =
      fired_next i items items panes panes None within h
      (λ cell found. unfired_cells (after_node rules node mark) items i cell cell (sym (get_or_from_slice_get items i cell cell found)) found (idle cell (none cell (read_back i items cell panes within h found))))
      (λ cell found. nothing cell (none cell (read_back i items cell panes within h found)))
      (sym (append-nil panes))
    where
      nothing : (cell : Cell) → firing_at rules node mark cell ≡ None → FiresAs rules node c mark cell []
      nothing cell e =
          subst (λ (t : Option Timing). IsFiredAs cell.node cell.key c cell.span cell.next_index (map (taken_entry cell.node) (entries_held rules.trigger.mode cell.entries)) t []) (sym e) refl

  skip : (n i to_ : ℕ) (items : List Cell) (panes : List Pane) → i + n ≡ to_ → to_ ≤ length xs → AreFiredUpTo rules node c mark xs i items panes → IsNoneDue rules node mark xs i to_
      → AreFiredUpTo rules node c mark xs to_ items panes
  skip zero i to_ items panes at within h none = let same : i ≡ to_ = omega (arith, at) in subst (λ k. AreFiredUpTo rules node c mark xs k items panes) same h
  skip (suc n) i to_ items panes at within h none =
      skip n (i + 1) to_ items panes (omega (arith, at)) within
      (skip_one i items panes (omega (arith, at, within)) h (λ cell found. none i cell (omega arith) (omega (arith, at)) found))
      (λ place cell low high found. none place cell (omega (arith, low)) high found)

  pub skipped : (i to_ : ℕ) (items : List Cell) (panes : List Pane) → i ≤ to_ → to_ ≤ length xs → AreFiredUpTo rules node c mark xs i items panes → IsNoneDue rules node mark xs i to_
      → AreFiredUpTo rules node c mark xs to_ items panes
  skipped i to_ items panes le within h none = skip (to_ - i) i to_ items panes (omega (arith, le)) within h none

  -- those before `done` among the places, and the others
  abbrev pub ArePassed : ℕ → List ℕ → Type 0
  ArePassed done places = All (λ p. (p < done) ⊎ (length xs ≤ p)) places

  pub none_due : (places : List ℕ) (done i p : ℕ) → i < length places → p ≡ get_or places i p → IsNonDecreasing places → AreAllDue rules node mark xs places → ArePassed done (take i places)
      → p ≤ length xs → IsNoneDue rules node mark xs done p
  none_due places done i p within is up all passed inside = λ place cell low high found. by place cell low high found (firing_at rules node mark cell) refl
    where
      by : (place : ℕ) (cell : Cell) → done ≤ place → place < p → slice_get xs place ≡ Some cell → (t : Option Timing) → firing_at rules node mark cell ≡ t → firing_at rules node mark cell ≡ None
      by place cell low high found None e = e
      by place cell low high found (Some timing) e = absurd (never place low high (omega (arith, high, inside)) (all place cell found (subst IsSome (sym e) refl)))
        where
          never : (place : ℕ) → done ≤ place → place < p → place < length xs → Contains places place → ⊥
          never place low high short at = split (cases_lt at.0 i)
            where
              passed_by : (q : ℕ) → q ≡ place → (q < done) ⊎ (length xs ≤ q) → ⊥
              passed_by q e (inl less) = omega (arith, e, less, low)
              passed_by q e (inr more) = omega (arith, e, more, short)

              split : (at.0 < i) ⊎ (i ≤ at.0) → ⊥
              split (inl before) =
                  passed_by (get_or (take i places) at.0 place) (get_or-take i places at.0 place before ∙ at.2) (passed at.0 place (omega (arith, before, within, length-take i places)))
              split (inr later) =
                  let up_to : get_or places i p ≤ get_or places at.0 p = up i at.0 p later at.1 in
                  let there : get_or places at.0 p ≡ place = get_or_default places at.0 p place at.1 ∙ at.2 in
                  omega (arith, up_to, there, is, high)

  pub passed_more : (places : List ℕ) (i p done next : ℕ) → i < length places → p ≡ get_or places i p → done ≤ next → (p < next) ⊎ (length xs ≤ p) → ArePassed done (take i places)
      → ArePassed next (take (i + 1) places)
  passed_more places i p done next within is on past h =
      subst (ArePassed next) (sym (take_more places i p within))
      (All-push (λ q. (q < next) ⊎ (length xs ≤ q)) (take i places) (get_or places i p)
      (All-weaker (λ q. (q < done) ⊎ (length xs ≤ q)) (λ q. (q < next) ⊎ (length xs ≤ q)) longer (take i places) h)
      (subst (λ q. (q < next) ⊎ (length xs ≤ q)) is past))
    where
      longer : (q : ℕ) → (q < done) ⊎ (length xs ≤ q) → (q < next) ⊎ (length xs ≤ q)
      longer q (inl less) = inl (omega (arith, less, on))
      longer q (inr more) = inr more

  -- where all places are passed, all cells fired
  pub all_fired : (places : List ℕ) (done : ℕ) (items : List Cell) (panes : List Pane) → AreFiredUpTo rules node c mark xs done items panes → AreAllDue rules node mark xs places → ArePassed done places
      → (items ≡ map (after_node rules node mark) xs) × AreFired rules node c mark xs panes
  all_fired places done items panes h all passed =
      let end = skipped done (length xs) items panes h.within (omega arith) h none in (
        end.written ∙ (λ j. map (after_node rules node mark) (take_all (length xs) xs (omega arith) j) ++ drop_all (length xs) xs (omega arith) j)
            ∙ append-nil (map (after_node rules node mark) xs),
        subst (λ (l : List Cell). AreFired rules node c mark l panes) (take_all (length xs) xs (omega arith)) end.each,
      )
    where
      none : IsNoneDue rules node mark xs done (length xs)
      none = λ place cell low high found. by place cell low high found (firing_at rules node mark cell) refl
        where
          by : (place : ℕ) (cell : Cell) → done ≤ place → place < length xs → slice_get xs place ≡ Some cell → (t : Option Timing) → firing_at rules node mark cell ≡ t → firing_at rules node mark cell ≡ None
          by place cell low high found None e = e
          by place cell low high found (Some timing) e = absurd (never place low high (all place cell found (subst IsSome (sym e) refl)))
            where
              never : (place : ℕ) → done ≤ place → place < length xs → Contains places place → ⊥
              never place low high at = passed_by (get_or places at.0 place) at.2 (passed at.0 place at.1)
                where
                  passed_by : (q : ℕ) → q ≡ place → (q < done) ⊎ (length xs ≤ q) → ⊥
                  passed_by q e (inl less) = omega (arith, e, less, low)
                  passed_by q e (inr more) = omega (arith, e, more, high)

pub fired_past : (rules : GroupRules) (node c : ℕ) (mark : ℤ) (items new : List Cell) (panes after : List Pane) (pane : Option Pane) (place done : ℕ) → done ≤ place → place < length items
    → ((cell : Cell) → slice_get items place ≡ Some cell → new ≡ slice_set items place (after_node rules node mark cell))
    → ((cell : Cell) → slice_get items place ≡ Some cell → FiresAs rules node c mark cell (option_to_list pane))
    → after ≡ panes ++ option_to_list pane
    → (cells : List Cell) → AreFiredUpTo rules node c mark cells done items panes → (done ≤ place → place < length cells → IsNoneDue rules node mark cells done place)
    → IsFiredPast rules node c mark cells place done (place + 1) new after
fired_past rules node c mark items new panes after pane place done on inside made fires pushed cells h none =
    let within : place < length cells = omega (arith, inside, written_length (after_node rules node mark) cells items done (omega (arith, on, inside)) h.written) in
    record {
      upto = fired_next rules node c mark cells place items new panes after pane within (skipped rules node c mark cells done place items panes on (omega (arith, within)) h (none on within)) made fires pushed;
      on = omega (arith, on);
      past = inl (omega arith);
    }

-- what the firing table and the next marks have to do with each other
abbrev pub FiresFrom : Type 0
FiresFrom = (t : Trigger) (end mark : ℤ) (on_time : Bool) (unseen : ℕ) → least_time ≤ℤ mark → mark ≤ℤ final_mark
    → (IsSome (firing t end mark on_time unseen) ↔ IsSomeAnd (next_mark t end on_time unseen) (λ least. least ≤ℤ mark))

abbrev pub IsLeast : Type 0
IsLeast = (t : Trigger) (end : ℤ) (on_time : Bool) (unseen : ℕ) → MatchOption (next_mark t end on_time unseen) (IsNeverDue t end on_time unseen) (IsNextMark t end on_time unseen)

abbrev pub AreListed : DueCells → ℕ → ℤ → List ℕ → Type 0
AreListed due node mark places =
    (q : DueKey) → q.node ≡ node → least_time ≤ℤ q.moment → q.moment ≤ℤ mark → q.place < 2 ^ 32 → contains due_cmp due.moments q ≡ true → Contains places q.place

pub upto_final : (m : ℤ) → IsMark m → m ≤ℤ final_mark
upto_final m h = by (int_lt greatest_time m) refl
  where
    last_ : greatest_time ≤ℤ final_mark
    last_ = omega (arith, ints)

    by : (t : Bool) → int_lt greatest_time m ≡ t → m ≤ℤ final_mark
    by true e = let same : m ≡ final_mark = h.1 (omega (arith, ints, e)) in subst (λ n. n ≤ℤ final_mark) (sym same) (omega (arith, ints))
    by false e = omega (arith, ints, e, last_)

pub all_listed : (plan : Plan) (rules : GroupRules) (node : ℕ) (mark : ℤ) (due : DueCells) (cells : List Cell) (places sorted : List ℕ) → rules.trigger ≡ trigger_of plan node
    → least_time ≤ℤ mark → mark ≤ℤ final_mark → IsDueOf plan due cells → FiresFrom → IsLeast → AreListed due node mark places → IsPermutation places sorted → AreAllDue rules node mark cells sorted
all_listed plan rules node mark due cells places sorted trigger low high h from_ least listed same = λ place cell found some. by_node place cell found (cell.node == node) refl some
  where
    by_moment : (place : ℕ) (cell : Cell) → slice_get cells place ≡ Some cell → (cell.node == node) ≡ true → is_standing cell.merged_into ≡ true
        → (o : Option ℤ) → next_mark rules.trigger cell.span.end cell.on_time (unseen_in cell.entries) ≡ o → IsSomeAnd o (λ m. m ≤ℤ mark)
        → MatchOption o (IsNeverDue rules.trigger cell.span.end cell.on_time (unseen_in cell.entries)) (IsNextMark rules.trigger cell.span.end cell.on_time (unseen_in cell.entries)) → Contains sorted place
    by_moment place cell found at stands None e reached next = absurd reached
    by_moment place cell found at stands (Some m) e reached next =
        let here : cell.node ≡ node = eqb-true cell.node node at in
        let own : own_moment plan cell ≡ Some m =
        ap (λ n. moment_of (trigger_of plan n) cell) here ∙ ap (λ t. moment_of t cell) (sym trigger)
        ∙ ap (λ b. cond {A = Option ℤ} b (next_mark rules.trigger cell.span.end cell.on_time (unseen_in cell.entries)) None) stands ∙ e in
        let q : DueKey = record { node = node; moment = m; place = place } in
        let there : contains due_cmp due.moments q ≡ true =
        h.moments.whole q (ap (is_due_as plan q) found ∙ (λ i. at i && has_moment (own i) m) ∙ (Decides-int_eq m m).1 refl) in
        Contains-permutation places sorted place same (listed q refl next.from_least reached (omega (arith, slice_get_within cells place cell found, h.small)) there)

    by_standing : (place : ℕ) (cell : Cell) → slice_get cells place ≡ Some cell → (cell.node == node) ≡ true → (s : Bool) → is_standing cell.merged_into ≡ s
        → IsSome (cond s (firing rules.trigger cell.span.end mark cell.on_time (unseen_in cell.entries)) None) → Contains sorted place
    by_standing place cell found at true s some =
        by_moment place cell found at s (next_mark rules.trigger cell.span.end cell.on_time (unseen_in cell.entries)) refl
        ((from_ rules.trigger cell.span.end mark cell.on_time (unseen_in cell.entries) low high).0 some) (least rules.trigger cell.span.end cell.on_time (unseen_in cell.entries))
    by_standing place cell found at false s some = absurd (false≢true some)

    by_node : (place : ℕ) (cell : Cell) → slice_get cells place ≡ Some cell → (t : Bool) → (cell.node == node) ≡ t → IsSome (cond t (firing_of rules mark cell) None) → Contains sorted place
    by_node place cell found true at some = by_standing place cell found at (is_standing cell.merged_into) refl some
    by_node place cell found false at some = absurd (false≢true some)
