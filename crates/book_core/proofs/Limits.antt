-- How many pieces and batches are worked, and the limits after a take.
use Rattle.std.proofs.Common.{◌≡◌, ℕ, ◌+◌, ◌*◌, ◌≤◌, ◌<◌, Bool, true, false, cond, List, length, refl, ap, arith}
use Rattle.std.specs.Prelude.{slice_get, slice_set, Option, Some, None}
use Rattle.std.specs.List.{sum_by, flat_map}
use Rattle.std.proofs.lemmas.List.Concat.{length-flat_map}
use Rattle.std.proofs.lemmas.List.{length-set}
use Rattle.beam_values.specs.declared.plan.Plan.{Plan}
use Rattle.book_core.specs.Book.{SeenBook, piece_of, batch_of, most_parts, places_kept, sets_aside, waiting_in}
use Rattle.book_core.specs.Changes.{with_slot}
use Rattle.book_core.specs.Jobs.{Next, next_job}
use Rattle.book_core.specs.Steps.{IsWithinLimits}
use Rattle.book_core.specs.declared.live.Live.{Live}
use Rattle.book_core.proofs.Slots.{set_weighs}
use Rattle.stateful_core.specs.Cells.{KeyCell}
use Rattle.stateful_core.specs.Taking.{with_job}
use Rattle.book_core.proofs.KeyChanges.{change_many, change_weighs}
use Rattle.book_core.proofs.Taking.{take_cases}

-- how many pieces and batches a slot works
abbrev pub pieces_in : Option Live → ℕ
pieces_in slot = length (piece_of slot)

abbrev pub batches_in : Option Live → ℕ
batches_in slot = length (batch_of slot)

pub live_count : (slots : List (Option Live)) → length (flat_map piece_of slots) ≡ sum_by pieces_in slots
live_count slots = length-flat_map piece_of slots

pub batch_count : (slots : List (Option Live)) → length (flat_map batch_of slots) ≡ sum_by batches_in slots
batch_count slots = length-flat_map batch_of slots

-- a slot is set: how many pieces and batches are worked then
pub pieces_after : (slots : List (Option Live)) (slot : ℕ) (old new : Option Live) → slice_get slots slot ≡ Some old
    → length (flat_map piece_of (slice_set slots slot new)) + pieces_in old ≡ length (flat_map piece_of slots) + pieces_in new
pieces_after slots slot old new at = omega (arith, live_count (slice_set slots slot new), live_count slots, set_weighs pieces_in slots slot old new at)

pub batches_after : (slots : List (Option Live)) (slot : ℕ) (old new : Option Live) → slice_get slots slot ≡ Some old
    → length (flat_map batch_of (slice_set slots slot new)) + batches_in old ≡ length (flat_map batch_of slots) + batches_in new
batches_after slots slot old new at = omega (arith, batch_count (slice_set slots slot new), batch_count slots, set_weighs batches_in slots slot old new at)

-- ---- the places that are kept for pieces that are worked

pub kept_same : (plan : Plan) (slots : List (Option Live)) (slot : ℕ) (old new : Option Live) → slice_get slots slot ≡ Some old → pieces_in new ≡ pieces_in old
    → most_parts plan (length (flat_map piece_of (slice_set slots slot new))) ≡ most_parts plan (length (flat_map piece_of slots))
kept_same plan slots slot old new at same = ap (most_parts plan) (omega (arith, pieces_after slots slot old new at, same))

pub kept_all : (plan : Plan) (n : ℕ) → n ≤ most_parts plan n
kept_all plan n = by (sets_aside plan)
  where
    by : (t : Bool) → n ≤ cond t (3 * n) n
    by true = omega arith
    by false = omega arith

pub kept_less : (plan : Plan) (few many : ℕ) → few ≤ many → most_parts plan few ≤ most_parts plan many
kept_less plan few many less = by (sets_aside plan)
  where
    by : (t : Bool) → cond t (3 * few) few ≤ cond t (3 * many) many
    by true = omega arith
    by false = less

pub kept_one : (plan : Plan) (few many : ℕ) → few + 1 ≡ many → most_parts plan few + 1 ≤ most_parts plan many
kept_one plan few many more = by (sets_aside plan)
  where
    by : (t : Bool) → cond t (3 * few) few + 1 ≤ cond t (3 * many) many
    by true = omega arith
    by false = omega arith

pub kept_three : (plan : Plan) (few many : ℕ) → sets_aside plan ≡ true → few + 1 ≡ many → most_parts plan few + 3 ≤ most_parts plan many
kept_three plan few many aside more = by (sets_aside plan) aside
  where
    by : (t : Bool) → t ≡ true → cond t (3 * few) few + 3 ≤ cond t (3 * many) many
    by true e = omega arith
    by false e = absurd (cc)

-- ---- a take

-- what a taken job leaves
record TakesOne (b : SeenBook) (next : Next) : Type 0 where
  slots : next.rest.slots ≡ b.slots
  panes : next.rest.panes ≡ b.panes
  dropped : next.rest.dropped ≡ b.dropped
  cells : next.rest.cells ≡ b.cells
  keys : length next.rest.keys ≡ length b.keys
  waiting : waiting_in next.rest.keys ≡ waiting_in b.keys
  commits : next.rest.commits ≡ b.commits

takes_one : (b : SeenBook) (next : Next) → next_job b ≡ Some next → TakesOne b next
takes_one b next is =
    take_cases b (TakesOne b)
    (λ batch among. record { slots = refl; panes = refl; dropped = refl; cells = refl; keys = refl; waiting = refl; commits = refl })
    (λ batch oldest. record { slots = refl; panes = refl; dropped = refl; cells = refl; keys = refl; waiting = refl; commits = refl })
    (λ place cell found. record {
      slots = refl;
      panes = refl;
      dropped = refl;
      cells = refl;
      keys = change_many (with_job b.options.bundle) place.at b.keys;
      waiting = change_weighs (λ (c : KeyCell). length c.waiting) (with_job b.options.bundle) (λ c. refl) place.at b.keys;
      commits = refl;
    })
    (λ piece later e. record { slots = refl; panes = refl; dropped = refl; cells = refl; keys = refl; waiting = refl; commits = refl })
    next is

pub take_within : (b : SeenBook) (slot : ℕ) (next : Next) → slice_get b.slots slot ≡ Some None → next_job b ≡ Some next
    → length next.rest.pending + places_kept (with_slot next.rest slot (Some next.job)) < 4294967295 → IsWithinLimits b
    → IsWithinLimits (with_slot next.rest slot (Some next.job))
take_within b slot next free is few h =
    let out = takes_one b next is in
    record {
      commits = omega (arith, h.commits, ap (λ l. length l) out.commits);
      panes = omega (arith, h.panes, ap (λ l. length l) out.panes);
      dropped = omega (arith, h.dropped, ap (λ l. length l) out.dropped);
      cells = omega (arith, h.cells, ap (λ l. length l) out.cells);
      keys = omega (arith, h.keys, out.keys);
      waiting = omega (arith, h.waiting, out.waiting);
      slots = omega (arith, h.slots, length-set next.rest.slots slot (Some next.job), ap (λ (l : List (Option Live)). length l) out.slots);
      pieces = few;
    }
