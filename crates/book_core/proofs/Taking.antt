-- What a slot may be given: a batch that was given back, the oldest panes of a queue, or the lowest piece.
use Rattle.std.proofs.Common.{◌≡◌, ◌⊎◌, inl, inr, ℕ, Bool, true, false, cond, List, [], ◌∷◌, ◌++◌, length, refl, sym, ap, subst, ◌∙◌}
use Rattle.std.specs.Prelude.{◌==◌, Option, Some, None, fold, take, slice_get, unwrap_or, nat_lt}
use Rattle.std.specs.List.{filter}
use Rattle.beam_values.specs.Lines.{offsets}
use Rattle.beam_values.specs.declared.piece.Piece.{Piece}
use Rattle.book_core.specs.Book.{SeenBook, queue_at}
use Rattle.std.specs.Option.{option_map}
use Rattle.stateful_core.specs.Cells.{KeyCell}
use Rattle.stateful_core.specs.declared.place.Place.{Place}
use Rattle.book_core.specs.Jobs.{Due, GivenBack, Oldest, Next, first_due, next_job, due_at, due_or_other, or_due, oldest, given_back_or, lowest_of, lower_batch, first_pane, without_due, without_first, key_or_piece, next_cell, with_key}
use Rattle.book_core.specs.declared.live.Batch.{Batch}
use Rattle.book_core.specs.declared.live.Live.TheVariants as live
use Rattle.book_core.specs.declared.live.WaitingPane.{WaitingPane}

-- a list has this between others
pub record IsAmong {X : Type 0} (xs : List X) (x : X) : Type 0 where
  pub front : List X
  pub back : List X
  pub is : xs ≡ front ++ x ∷ back

pub among_front : {X : Type 0} (x : X) (xs : List X) → IsAmong (x ∷ xs) x
among_front x xs = record { front = []; back = xs; is = refl }

pub among_later : {X : Type 0} (y : X) (xs : List X) (x : X) → IsAmong xs x → IsAmong (y ∷ xs) x
among_later y xs x h = record { front = y ∷ h.front; back = h.back; is = ap (λ l. y ∷ l) h.is }

pub among_filter : {X : Type 0} (p : X → Bool) (xs : List X) (x : X) → IsAmong (filter p xs) x → IsAmong xs x
among_filter p [] x h = h
among_filter p (y ∷ xs) x h = by (p y) (among_filter p xs x) h
  where
    again : (l : List _) → IsAmong (y ∷ l) x → (IsAmong l x → IsAmong xs x) → IsAmong (y ∷ xs) x
    again l at onward = first at.front at.is
      where
        first : (front : List _) → y ∷ l ≡ front ++ x ∷ at.back → IsAmong (y ∷ xs) x
        first [] e = let same : y ≡ x = cc in subst (IsAmong (y ∷ xs)) same (among_front y xs)
        first (z ∷ front) e = among_later y xs x (onward (record { front = front; back = at.back; is = cc }))

    by : (b : Bool) → (IsAmong (filter p xs) x → IsAmong xs x) → IsAmong (cond b (y ∷ filter p xs) (filter p xs)) x → IsAmong (y ∷ xs) x
    by true onward at = again (filter p xs) at onward
    by false onward at = among_later y xs x (onward at)

-- ---- the lowest batch

lower_among : (xs : List Batch) (some : Option Batch) (batch : Batch) → fold lower_batch some xs ≡ Some batch → (some ≡ Some batch) ⊎ IsAmong xs batch
lower_among [] some batch e = inl e
lower_among (x ∷ xs) some batch e = by some (lower_among xs (lower_batch some x) batch e)
  where
    later : IsAmong xs batch → IsAmong (x ∷ xs) batch
    later h = among_later x xs batch h

    here : (old : Batch) (b : Bool) → cond b (Some x) (Some old) ≡ Some batch → (Some old ≡ Some batch) ⊎ IsAmong (x ∷ xs) batch
    here old true e = let same : x ≡ batch = cc in inr (subst (IsAmong (x ∷ xs)) same (among_front x xs))
    here old false e = inl e

    by : (some : Option Batch) → (lower_batch some x ≡ Some batch) ⊎ IsAmong xs batch → (some ≡ Some batch) ⊎ IsAmong (x ∷ xs) batch
    by some (inr h) = inr (later h)
    by None (inl e) = let same : x ≡ batch = cc in inr (subst (IsAmong (x ∷ xs)) same (among_front x xs))
    by (Some old) (inl e) = here old (nat_lt (first_pane x) (first_pane old)) e

lowest_among : (xs : List Batch) (batch : Batch) → lowest_of xs ≡ Some batch → IsAmong xs batch
lowest_among xs batch e = elim (lower_among xs None batch e) [ inl none ↦ absurd (cc) | inr h ↦ h ]

-- ---- what is due

-- the oldest panes of the queue of a node
pub record IsOldest (b : SeenBook) (batch : Batch) : Type 0 where
  pub first : WaitingPane
  pub later : List WaitingPane
  pub queue : slice_get b.queues batch.node ≡ Some (first ∷ later)
  pub panes : batch.panes ≡ take b.options.bundle (first ∷ later)
  pub attempts : batch.attempts ≡ 0

abbrev pub IsDue : SeenBook → Due → Type 0
IsDue b (GivenBack batch) = IsAmong b.returned batch
IsDue b (Oldest batch) = IsOldest b batch

oldest_is : (b : SeenBook) (node : ℕ) (found : Option (List WaitingPane)) (due : Due) → slice_get b.queues node ≡ found
    → oldest b.options.bundle node (unwrap_or found []) ≡ Some due → IsDue b due
oldest_is b node None due at e = absurd (cc)
oldest_is b node (Some []) due at e = absurd (cc)
oldest_is b node (Some (first ∷ later)) due at e =
    let is : Oldest (record { node = node; panes = take b.options.bundle (first ∷ later); attempts = 0 }) ≡ due = cc in
    subst (IsDue b) is (record { first = first; later = later; queue = at; panes = refl; attempts = refl })

due_there : (b : SeenBook) (node : ℕ) (lowest : Option Batch) (due : Due) → lowest_of (filter (λ batch. batch.node == node) b.returned) ≡ lowest
    → given_back_or lowest (oldest b.options.bundle node (queue_at b node)) ≡ Some due → IsDue b due
due_there b node None due low e = oldest_is b node (slice_get b.queues node) due refl e
due_there b node (Some batch) due low e =
    let is : GivenBack batch ≡ due = cc in
    subst (IsDue b) is (among_filter (λ other. other.node == node) b.returned batch (lowest_among (filter (λ other. other.node == node) b.returned) batch low))

fold_due : (b : SeenBook) (nodes : List ℕ) (due : Due) → fold (or_due b) (Some due) nodes ≡ Some due
fold_due b [] due = refl
fold_due b (node ∷ nodes) due = fold_due b nodes due

due_among : (b : SeenBook) (nodes : List ℕ) (due : Due) → fold (or_due b) None nodes ≡ Some due → IsDue b due
due_among b [] due e = absurd (cc)
due_among b (node ∷ nodes) due e = by (due_at b node) refl e (due_among b nodes due)
  where
    by : (found : Option Due) → due_at b node ≡ found → fold (or_due b) found nodes ≡ Some due → (fold (or_due b) None nodes ≡ Some due → IsDue b due) → IsDue b due
    by None at e onward = onward e
    by (Some other) at e onward = due_there b node (lowest_of (filter (λ batch. batch.node == node) b.returned)) due refl (at ∙ sym (fold_due b nodes other) ∙ e)

-- ---- the next job

pub first_is_due : (b : SeenBook) (due : Due) → first_due b ≡ Some due → IsDue b due
first_is_due b due e = due_among b (offsets 0 (length b.plan.nodes)) due e

-- the first key cell that has a job
pub record IsNextCell (b : SeenBook) (place : Place) (cell : KeyCell) : Type 0 where
  pub next : next_cell b ≡ Some place
  pub is_at : slice_get b.keys place.at ≡ Some cell

-- A job that can be taken is one of four.
module _ (b : SeenBook) (P : Next → Type 0)
    (given_back : (batch : Batch) → IsAmong b.returned batch → P (without_due b (GivenBack batch)))
    (waits : (batch : Batch) → IsOldest b batch → P (without_due b (Oldest batch)))
    (keyed : (place : Place) (cell : KeyCell) → IsNextCell b place cell → P (with_key b place.at cell))
    (pending : (piece : Piece) (later : List Piece) → b.pending ≡ piece ∷ later → P (record { job = live.Span piece None; rest = record b { pending = later } })) where
  of_due : (due : Due) → IsDue b due → P (without_due b due)
  of_due (GivenBack batch) h = given_back batch h
  of_due (Oldest batch) h = waits batch h

  of_pieces : (pieces : List Piece) (next : Next) → b.pending ≡ pieces → without_first b pieces ≡ Some next → P next
  of_pieces [] next at e = absurd (cc)
  of_pieces (piece ∷ later) next at e =
      let is : record { job = live.Span piece None; rest = record b { pending = later } } ≡ next = cc in
      subst P is (pending piece later at)

  of_cell : (place : Place) (found : Option KeyCell) (next : Next) → next_cell b ≡ Some place → slice_get b.keys place.at ≡ found → option_map (with_key b place.at) found ≡ Some next → P next
  of_cell place None next first at e = absurd (cc)
  of_cell place (Some cell) next first at e =
      let is : with_key b place.at cell ≡ next = cc in
      subst P is (keyed place cell (record { next = first; is_at = at }))

  by_cell : (place : Option Place) (next : Next) → next_cell b ≡ place → key_or_piece b place ≡ Some next → P next
  by_cell (Some place) next first e = of_cell place (slice_get b.keys place.at) next first refl e
  by_cell None next first e = of_pieces b.pending next refl e

  by_due : (due : Option Due) (next : Next) → first_due b ≡ due → due_or_other b due ≡ Some next → P next
  by_due (Some due) next first e = let is : without_due b due ≡ next = cc in subst P is (of_due due (first_is_due b due first))
  by_due None next first e = by_cell (next_cell b) next refl e

  pub take_cases : (next : Next) → next_job b ≡ Some next → P next
  take_cases next e = by_due (first_due b) next refl e
