-- The parts of a commit: what is left of its range, where its range goes among those that are done, what is written, and where panes wait.
use Rattle.std.proofs.Common.{◌≡◌, ℕ, suc, ◌+◌, ◌-◌, ◌*◌, ◌/◌, ◌≤◌, ◌<◌, Bool, true, false, cond, List, [], ◌∷◌, ◌++◌, length, map, take, drop, refl, sym, ap, subst, ◌∙◌, append_assoc, arith}
use Rattle.std.specs.Prelude.{Option, Some, None, not, nat_lt, max, min, slice_get, unwrap_or, ◌==◌}
use Rattle.std.specs.List.{All, AllWithin, filter, enumerate_from, sum_by}
use Rattle.std.specs.Ordering.{is_lt}
use Rattle.std.proofs.lemmas.Bool.{false≢true}
use Rattle.std.proofs.lemmas.Bool.Decides.{nat_tests}
use Rattle.std.proofs.lemmas.List.{append-nil, get_or-drop, get_or-take, length-drop, length-take-le}
use Rattle.beam_values.specs.Intervals.{Offsets}
use Rattle.beam_values.specs.Nodes.{is_group, is_write, is_group_kind, is_write_kind}
use Rattle.beam_values.specs.Tracking.{Tracked, split_point_of, residual, primary, first_unattempted}
use Rattle.beam_values.specs.declared.arrival.Arrival.{Arrival}
use Rattle.beam_values.specs.declared.cell.Pane.{Pane}
use Rattle.beam_values.specs.declared.marks.StageMarks.{StageMarks}
use Rattle.beam_values.specs.declared.piece.Piece.{Piece}
use Rattle.beam_values.specs.declared.plan.Node.{Node}
use Rattle.beam_values.specs.declared.plan.NodeKind.{NodeKind}
use Rattle.beam_values.specs.declared.plan.NodeKind.TheVariants.{Source, ParDo, Flatten, WindowInto, Group, Stateful, Write}
use Rattle.beam_values.specs.declared.plan.Plan.{Plan}
use Rattle.bundle_commit.specs.declared.job.Receipt.{Receipt}
use Rattle.group_cells.specs.Commits.{is_at_group}
use Rattle.book_core.specs.Book.{tracker_of}
use Rattle.book_core.specs.Changes.{as_waiting, done_of, fired_at, residual_of, with_fired}
use Rattle.book_core.specs.declared.live.WaitingPane.{WaitingPane}

-- ---- what is left of a range

checkpoint_at : (piece : Piece) (attempted : Option ℕ) → split_point_of (tracker_of piece attempted) 0 1 ≡ first_unattempted piece.range.from attempted
checkpoint_at piece attempted = at (first_unattempted piece.range.from attempted) piece.range.to
  where
    at : (next to : ℕ) → next + max 1 ((to + 1 - next) * 0 / 1) - 1 ≡ next
    at next to = omega arith

by_end : (piece : Piece) (receipt : Receipt) (next : ℕ) (t : Bool) → nat_lt next piece.range.to ≡ t
    → cond (nat_lt (min next piece.range.to) piece.range.to)
    (Some (record piece { range = record { from = min next piece.range.to; to = piece.range.to }; seen = receipt.seen; attempts = 0 })) None
    ≡ cond t (Some (record piece { range = record { from = next; to = piece.range.to }; seen = receipt.seen; attempts = 0 })) None
by_end piece receipt next true e =
    let less : next < piece.range.to = grind (arith, nat_tests) in
    let least : min next piece.range.to ≡ next = omega (arith, less) in
    ap (λ (n : ℕ). cond (nat_lt n piece.range.to) (Some (record piece { range = record { from = n; to = piece.range.to }; seen = receipt.seen; attempts = 0 })) None) least
    ∙ ap (λ (t : Bool). cond t (Some (record piece { range = record { from = next; to = piece.range.to }; seen = receipt.seen; attempts = 0 })) None) e
by_end piece receipt next false e =
    let none : nat_lt (min next piece.range.to) piece.range.to ≡ false = grind (arith, nat_tests) in
    ap (λ (t : Bool). cond t (Some (record piece { range = record { from = min next piece.range.to; to = piece.range.to }; seen = receipt.seen; attempts = 0 })) None) none

module _ (piece : Piece) (attempted : Option ℕ) (receipt : Receipt) where
  abbrev next : ℕ
  next = first_unattempted piece.range.from attempted

  left_where : (t : Bool) → nat_lt next piece.range.to ≡ t
      → residual_of piece attempted receipt ≡ cond t (Some (record piece { range = record { from = next; to = piece.range.to }; seen = receipt.seen; attempts = 0 })) None
  left_where t e = by_end piece receipt next t e

  answer_where : (answer : Option Offsets) (t : Bool) → nat_lt next piece.range.to ≡ t → answer ≡ residual (split_point_of (tracker_of piece attempted) 0 1) piece.range.to
      → answer ≡ cond t (Some (record { from = next; to = piece.range.to })) None
  answer_where answer t e is =
      is ∙ ap (λ (n : ℕ). residual n piece.range.to) (checkpoint_at piece attempted)
      ∙ ap (λ (b : Bool). cond b (Some (record { from = next; to = piece.range.to })) None) e

  pub rest_is : (rest : Offsets) → Some rest ≡ residual (split_point_of (tracker_of piece attempted) 0 1) piece.range.to
      → Some (record piece { range = rest; seen = receipt.seen; attempts = 0 }) ≡ residual_of piece attempted receipt
  rest_is rest is = by (nat_lt next piece.range.to) refl
    where
      by : (t : Bool) → nat_lt next piece.range.to ≡ t → Some (record piece { range = rest; seen = receipt.seen; attempts = 0 }) ≡ residual_of piece attempted receipt
      by true e =
          let answer = answer_where (Some rest) true e is in
          let same : rest ≡ record { from = next; to = piece.range.to } = cc in
          ap (λ (o : Offsets). Some (record piece { range = o; seen = receipt.seen; attempts = 0 })) same ∙ sym (left_where true e)
      by false e = let answer = answer_where (Some rest) false e is in absurd (cc)

  pub none_is : None ≡ residual (split_point_of (tracker_of piece attempted) 0 1) piece.range.to → None ≡ residual_of piece attempted receipt
  none_is is = by (nat_lt next piece.range.to) refl
    where
      by : (t : Bool) → nat_lt next piece.range.to ≡ t → None ≡ residual_of piece attempted receipt
      by true e = let answer = answer_where None true e is in absurd (cc)
      by false e = sym (left_where false e)

pub done_is : (piece : Piece) (attempted : Option ℕ) (after : Tracked) → after ≡ primary (tracker_of piece attempted) (split_point_of (tracker_of piece attempted) 0 1)
    → record { node = piece.node; item = piece.item; range = after.range } ≡ done_of piece attempted
done_is piece attempted after e =
    ap (λ (t : Tracked). record { node = piece.node; item = piece.item; range = t.range })
    (e ∙ ap (primary (tracker_of piece attempted)) (checkpoint_at piece attempted))

-- ---- parts of a list

module _ {X : Type 0} (P : X → Type 0) (xs : List X) (i : ℕ) where
  pub All-take_within : i ≤ length xs → AllWithin P xs 0 i → All P (take i xs)
  All-take_within inside all = λ k d below.
      let inside_too : k < i = omega (arith, length-take-le i xs inside) in
      subst P (sym (get_or-take i xs k d inside_too)) (all k d (omega arith) inside_too)

  pub All-drop_within : i ≤ length xs → AllWithin P xs i (length xs) → All P (drop i xs)
  All-drop_within inside all = λ k d below.
      subst P (sym (get_or-drop i xs k d)) (all (i + k) d (omega arith) (omega (arith, length-drop i xs)))

-- ---- what is written

write_kind : (kind : NodeKind) → is_write_kind kind ≡ true → is_group_kind kind ≡ false
write_kind (Source work args files estimator) e = absurd (cc)
write_kind (ParDo work args) e = absurd (cc)
write_kind Flatten e = absurd (cc)
write_kind (WindowInto strategy) e = absurd (cc)
write_kind (Group trigger) e = absurd (cc)
write_kind (Stateful work args log) e = absurd (cc)
write_kind (Write label) e = refl

write_no_group : (plan : Plan) (node : ℕ) → is_write plan node ≡ true → is_group plan node ≡ false
write_no_group plan node e = by (slice_get plan.nodes node) e
  where
    by : (found : Option Node) → unwrap_or (Rattle.std.specs.Option.option_map (λ (n : Node). is_write_kind n.kind) found) false ≡ true
        → unwrap_or (Rattle.std.specs.Option.option_map (λ (n : Node). is_group_kind n.kind) found) false ≡ false
    by None e = absurd (cc)
    by (Some n) e = write_kind n.kind e

-- what passes one test, of what passes another that it passes too
pub filter_within : {X : Type 0} (p q : X → Bool) → ((x : X) → p x ≡ true → q x ≡ true) → (xs : List X) → filter p (filter q xs) ≡ filter p xs
filter_within p q within [] = refl
filter_within {X = X} p q within (x ∷ xs) = by (p x) (q x) refl refl (filter_within p q within xs)
  where
    by : (s t : Bool) → p x ≡ s → q x ≡ t → filter p (filter q xs) ≡ filter p xs
        → filter p (cond t (x ∷ filter q xs) (filter q xs)) ≡ cond s (x ∷ filter p xs) (filter p xs)
    by true false e f behind = absurd (false≢true (sym f ∙ within x e))
    by false false e f behind = behind
    by s true e f behind = ap (λ (t : Bool). cond t (x ∷ filter p (filter q xs)) (filter p (filter q xs))) e ∙ ap (λ (l : List X). cond s (x ∷ l) l) behind

-- those at Writes are among those that aren't at Groups
pub written_same : (plan : Plan) (arrivals : List Arrival)
    → filter (λ arrival. is_write plan arrival.node) (filter (λ arrival. not (is_at_group plan arrival)) arrivals) ≡ filter (λ arrival. is_write plan arrival.node) arrivals
written_same plan arrivals =
    filter_within (λ (arrival : Arrival). is_write plan arrival.node) (λ arrival. not (is_at_group plan arrival)) (λ arrival e. ap not (write_no_group plan arrival.node e)) arrivals

-- ---- where panes wait

-- queues that each have the panes of their node behind them
pub queues_fired : (before : List StageMarks) (fired : List (ℕ × Pane)) (k : ℕ) (old new : List (List WaitingPane)) → length new ≡ length old
    → ((i : ℕ) → unwrap_or (slice_get new i) [] ≡ unwrap_or (slice_get old i) [] ++ map (as_waiting before) (fired_at (k + i) fired))
    → new ≡ map (with_fired before fired) (enumerate_from k old)
queues_fired before fired k [] [] e h = refl
queues_fired before fired k [] (n ∷ new) e h = absurd (omega (arith, e))
queues_fired before fired k (o ∷ old) [] e h = absurd (omega (arith, e))
queues_fired before fired k (o ∷ old) (n ∷ new) e h =
    let here : k + 0 ≡ k = omega arith in
    let first : n ≡ o ++ map (as_waiting before) (fired_at k fired) =
    h 0 ∙ ap (λ (m : ℕ). o ++ map (as_waiting before) (fired_at m fired)) here in
    let later = queues_fired before fired (k + 1) old new (omega (arith, e))
    (λ i. h (suc i) ∙ ap (λ (m : ℕ). unwrap_or (slice_get old i) [] ++ map (as_waiting before) (fired_at m fired)) (shift k i)) in
    ap (λ (q : List WaitingPane). q ∷ new) first ∙ ap (λ (l : List (List WaitingPane)). (o ++ map (as_waiting before) (fired_at k fired)) ∷ l) later
  where
    shift : (k i : ℕ) → k + suc i ≡ k + 1 + i
    shift k i = omega arith

-- one more pane waits
pub fired_step : (before : List StageMarks) (place n : ℕ) (pane : Pane) (later : List (ℕ × Pane)) (old now next : List WaitingPane)
    → now ++ map (as_waiting before) (fired_at n ((place, pane) ∷ later)) ≡ old
    → next ≡ now ++ cond (pane.node == n) (as_waiting before (place, pane) ∷ []) []
    → next ++ map (as_waiting before) (fired_at n later) ≡ old
fired_step before place n pane later old now next was is = by (pane.node == n) was is
  where
    by : (t : Bool) → now ++ map (as_waiting before) (cond t ((place, pane) ∷ fired_at n later) (fired_at n later)) ≡ old
        → next ≡ now ++ cond t (as_waiting before (place, pane) ∷ []) []
        → next ++ map (as_waiting before) (fired_at n later) ≡ old
    by true was is =
        ap (λ (l : List WaitingPane). l ++ map (as_waiting before) (fired_at n later)) is
        ∙ append_assoc now (as_waiting before (place, pane) ∷ []) (map (as_waiting before) (fired_at n later)) ∙ was
    by false was is = ap (λ (l : List WaitingPane). l ++ map (as_waiting before) (fired_at n later)) (is ∙ append-nil now) ∙ was
