-- A job that is known stays known while others change the book, and is known as its slot works it.
use Rattle.std.proofs.Common.{◌≡◌, ℕ, zero, suc, ◌<◌, ◌≤◌, List, [], ◌∷◌, ◌++◌, length, length-append, refl, sym, ap, ◌∙◌, subst, arith}
use Rattle.std.specs.Prelude.{Option, Some, None, slice_get}
use Rattle.std.specs.List.{All, flat_map}
use Rattle.std.proofs.lemmas.List.Concat.{flat_map-cons}
use Rattle.std.proofs.lemmas.List.Elements.{All-nil, All-cons, All-head, All-tail}
use Rattle.std.proofs.lemmas.Option.{slice_get_within}
use Rattle.beam_values.specs.Tracking.{first_unattempted, split_point_of}
use Rattle.beam_values.specs.declared.cell.Pane.{Pane}
use Rattle.beam_values.specs.declared.piece.Piece.{Piece}
use Rattle.bundle_commit.specs.declared.job.Job.{Job}
use Rattle.bundle_commit.specs.declared.job.Job.TheVariants as job
use Rattle.book_core.specs.Book.{SeenBook, batch_of, held_at, held_in, live_batches, pane_at, panes_of, queued, slot_at, tracker_of}
use Rattle.book_core.specs.Changes.{cut_to}
use Rattle.book_core.specs.Facts.{AreHeldOnce, IsHeldPane}
use Rattle.book_core.specs.Jobs.{first_pane, job_of}
use Rattle.book_core.specs.Left.{GoesOn, GoesOnAt}
use Rattle.book_core.specs.Steps.{IsWorking}
use Rattle.book_core.specs.declared.live.Batch.{Batch}
use Rattle.book_core.specs.declared.live.Live.{Live}
use Rattle.book_core.specs.declared.live.Live.TheVariants as live
use Rattle.book_core.specs.declared.live.WaitingPane.{WaitingPane}
use Rattle.book_core.proofs.Slotted.{All-append_right, All-flat_at, All-of_flat_map}
use Rattle.known_jobs.specs.Calls.{HasAttempted}
use Rattle.known_jobs.specs.Jobs.{AreAllFired, IsJobOf, IsShortened, KnownJob, known_at, known_in}

-- ---- ranges

pub shortened_same : (piece : Piece) (attempted : Option ℕ) → IsShortened piece attempted piece
shortened_same piece attempted = record { same = refl; below = omega arith; above = λ h. h; past = λ h. refl }

-- a split comes down behind what was attempted
pub shortened_more : (noted now : Piece) (attempted : Option ℕ) (at : ℕ) → first_unattempted now.range.from attempted ≤ at → at < now.range.to → IsShortened noted attempted now
    → IsShortened noted attempted (cut_to now (record { from = now.range.from; to = at }))
shortened_more noted now attempted at behind inside short =
    let start : now.range.from ≡ noted.range.from = ap (λ (p : Piece). p.range.from) short.same in
    let free : first_unattempted noted.range.from attempted ≤ at = subst (λ (from : ℕ). first_unattempted from attempted ≤ at) start behind in
    record {
      same = ap (λ (p : Piece). cut_to p (record { from = p.range.from; to = at })) short.same;
      below = let b = short.below in omega arith;
      above = λ h. free;
      past = λ h. let same = short.past h in absurd (omega (arith, same));
    }

pub split_behind : (piece : Piece) (attempted : Option ℕ) (num den at : ℕ) → at ≡ split_point_of (tracker_of piece attempted) num den → first_unattempted piece.range.from attempted ≤ at
split_behind piece attempted num den at point = omega (arith, point)

-- ---- batches

front_stays : {X : Type 0} (xs ys : List X) (j : ℕ) → j < length xs → slice_get (xs ++ ys) j ≡ slice_get xs j
front_stays [] ys j h = absurd (omega arith)
front_stays (z ∷ zs) ys zero h = refl
front_stays (z ∷ zs) ys (suc j) h = front_stays zs ys j (omega arith)

pane_in : Option Pane → List Pane
pane_in (Some pane) = pane ∷ []
pane_in None = []

pane_is : (panes : List Pane) (waiting : WaitingPane) → pane_at panes waiting ≡ pane_in (slice_get panes waiting.pane)
unfolding pane_in
pane_is panes waiting = by (slice_get panes waiting.pane)
  where
    by : (found : Option Pane) → elim found as (λ _. List Pane) [ Some pane ↦ pane ∷ [] | None ↦ [] ] ≡ pane_in found
    by None = refl
    by (Some pane) = refl

panes_stay : (panes more : List Pane) (waiting : List WaitingPane) → All (λ w. w.pane < length panes) waiting → panes_of (panes ++ more) waiting ≡ panes_of panes waiting
panes_stay panes more [] h = refl
panes_stay panes more (w ∷ ws) h =
    let here : w.pane < length panes = All-head (λ x. x.pane < length panes) w ws h in
    let one : pane_at (panes ++ more) w ≡ pane_at panes w = pane_is (panes ++ more) w ∙ ap pane_in (front_stays panes more w.pane here) ∙ sym (pane_is panes w) in
    flat_map-cons (pane_at (panes ++ more)) w ws
    ∙ ap (λ l. l ++ flat_map (pane_at (panes ++ more)) ws) one
    ∙ ap (λ l. pane_at panes w ++ l) (panes_stay panes more ws (All-tail (λ x. x.pane < length panes) w ws h))
    ∙ sym (flat_map-cons (pane_at panes) w ws)

fired_later : (panes more : List Pane) (waiting : List WaitingPane) → All (λ w. w.pane < length panes) waiting → All (λ w. w.pane < length (panes ++ more)) waiting
fired_later panes more [] h = All-nil (λ w. w.pane < length (panes ++ more))
fired_later panes more (w ∷ ws) h =
    let here : w.pane < length panes = All-head (λ x. x.pane < length panes) w ws h in
    All-cons (λ x. x.pane < length (panes ++ more)) w ws (omega (arith, length-append panes more)) (fired_later panes more ws (All-tail (λ x. x.pane < length panes) w ws h))

batch_stays : (panes more : List Pane) (batch : Batch) → AreAllFired panes batch → job_of (panes ++ more) (live.Batch batch) ≡ job_of panes (live.Batch batch)
batch_stays panes more batch fired = ap (λ (p : List Pane). job.Batch batch.node (first_pane batch) p batch.attempts) (panes_stay panes more batch.panes fired)

-- ---- jobs

-- as the book has it
pub known_now : (panes : List Pane) (slot : Option (Option Live)) → ((batch : Batch) → slot ≡ Some (Some (live.Batch batch)) → AreAllFired panes batch) → (slot ≡ None → ⊥) → IsJobOf panes (known_in panes slot) slot
known_now panes None fired there = there refl
known_now panes (Some None) fired there = tt
known_now panes (Some (Some (live.Span piece attempted))) fired there = (piece, refl, shortened_same piece attempted)
known_now panes (Some (Some (live.Batch batch))) fired there = (refl, fired batch refl)
known_now panes (Some (Some (live.Key turn))) fired there = refl

-- more panes have fired
pub known_later : (panes more : List Pane) (known : Option KnownJob) (slot : Option (Option Live)) → IsJobOf panes known slot → IsJobOf (panes ++ more) known slot
known_later panes more None (Some None) h = tt
known_later panes more (Some known) (Some (Some (live.Span now attempted))) h = h
known_later panes more (Some known) (Some (Some (live.Batch batch))) h =
    (h.0 ∙ ap (λ (j : Job). record { job = j; attempted = None }) (sym (batch_stays panes more batch h.1)), fired_later panes more batch.panes h.1)
known_later panes more (Some known) (Some (Some (live.Key turn))) h = h
known_later panes more None None h = absurd h
known_later panes more None (Some (Some now)) h = absurd h
known_later panes more (Some known) None h = absurd h
known_later panes more (Some known) (Some None) h = absurd h

-- the range was split
pub known_split : (panes : List Pane) (known : Option KnownJob) (piece : Piece) (attempted : Option ℕ) (at : ℕ) → first_unattempted piece.range.from attempted ≤ at → at < piece.range.to
    → IsJobOf panes known (Some (Some (live.Span piece attempted)))
    → IsJobOf panes known (Some (Some (live.Span (cut_to piece (record { from = piece.range.from; to = at })) attempted)))
known_split panes (Some known) piece attempted at behind inside h = (h.0, h.1, shortened_more h.0 piece attempted at behind inside h.2)
known_split panes None piece attempted at behind inside h = absurd h

-- ---- panes that are worked have fired

all_fired : (b : SeenBook) (node : ℕ) (panes : List WaitingPane) → All (IsHeldPane b) (held_at node panes) → All (λ waiting. waiting.pane < length b.panes) panes
all_fired b node [] h = All-nil (λ waiting. waiting.pane < length b.panes)
all_fired b node (w ∷ ws) h =
    let one : IsHeldPane b (record { node = node; waiting = w }) = All-head (IsHeldPane b) (record { node = node; waiting = w }) (held_at node ws) h in
    All-cons (λ waiting. waiting.pane < length b.panes) w ws (slice_get_within b.panes w.pane one.0 one.1)
    (all_fired b node ws (All-tail (IsHeldPane b) (record { node = node; waiting = w }) (held_at node ws) h))

pub live_fired : (b : SeenBook) (i : ℕ) (batch : Batch) → AreHeldOnce b → IsWorking b i (live.Batch batch) → AreAllFired b.panes batch
live_fired b i batch kept works =
    let worked : All (IsHeldPane b) (flat_map held_in (live_batches b)) =
    All-append_right (IsHeldPane b) (flat_map held_in b.returned) (flat_map held_in (live_batches b))
    (All-append_right (IsHeldPane b) (queued b) (flat_map held_in b.returned ++ flat_map held_in (live_batches b)) kept.panes) in
    let each = All-of_flat_map (IsHeldPane b) held_in (live_batches b) worked in
    let here : All (λ x. All (IsHeldPane b) (held_in x)) (batch ∷ []) = All-flat_at batch_of b.slots i (λ x. All (IsHeldPane b) (held_in x)) (Some (live.Batch batch)) works each in
    all_fired b batch.node batch.panes (All-head (λ x. All (IsHeldPane b) (held_in x)) batch [] here)

-- ---- the job of a slot, as the book has it

-- it is known so
pub known_fit : (b : SeenBook) (slot : ℕ) (known : KnownJob) → AreHeldOnce b → known_at b slot ≡ Some known → IsJobOf b.panes (known_at b slot) (slot_at b slot)
known_fit b slot known held is =
    known_now b.panes (slot_at b slot) (λ batch works. live_fired b slot batch held works) (λ none. let never : None ≡ Some known = sym (ap (known_in b.panes) none) ∙ is in cc)

-- and so is one of which something is said that is said of no slot without one
pub known_where : (P : Option KnownJob → Type 0) → (P None → ⊥) → (b : SeenBook) (slot : ℕ) → AreHeldOnce b → P (known_at b slot) → IsJobOf b.panes (known_at b slot) (slot_at b slot)
known_where P never b slot held is = by (known_at b slot) refl is
  where
    by : (known : Option KnownJob) → known_at b slot ≡ known → P known → IsJobOf b.panes (known_at b slot) (slot_at b slot)
    by None at is = absurd (never is)
    by (Some known) at is = known_fit b slot known held at

-- what goes on as it is known goes on as the book has it
pub goes_on_at : (b : SeenBook) (slot : ℕ) → HasAttempted (known_at b slot) → GoesOnAt b slot
goes_on_at b slot attempted = λ now works. by now (subst (λ (s : Option (Option Live)). HasAttempted (known_in b.panes s)) works attempted)
  where
    by : (now : Live) → HasAttempted (known_in b.panes (Some (Some now))) → GoesOn now
    by (live.Span piece None) is = is
    by (live.Span piece (Some p)) is = tt
    by (live.Batch batch) is = tt
    by (live.Key turn) is = tt
