-- The jobs of key cells that slots work: each is what its cell has, whatever other jobs are taken, given back or committed.
use Rattle.std.proofs.Common.{◌≡◌, ℕ, zero, suc, ◌+◌, ◌≤◌, Bool, true, false, cond, List, [], ◌∷◌, ◌++◌, get_or, refl, sym, ap, subst, ◌∙◌, arith}
use Rattle.std.specs.Prelude.{Option, Some, None, min, length, slice_get, slice_set}
use Rattle.std.specs.List.{All, count_by, flat_map}
use Rattle.std.specs.Option.{option_map}
use Rattle.std.proofs.lemmas.Bool.{and_parts, eq-eqb}
use Rattle.std.proofs.lemmas.List.Elements.{All-nil, All-cons, All-append, All-set}
use Rattle.std.proofs.lemmas.List.Sums.{sum_by-cons}
use Rattle.std.proofs.lemmas.Option.{same_Some, slice_get-get_or, slice_get_within}
use Rattle.beam_values.specs.Nodes.{is_stateful}
use Rattle.beam_values.specs.declared.file_text.FileText.{FileText}
use Rattle.beam_values.specs.declared.marks.CommitMarks.{CommitMarks}
use Rattle.beam_values.specs.declared.plan.Plan.{Plan}
use Rattle.bundle_commit.specs.declared.job.Logged.{Logged}
use Rattle.bundle_commit.specs.declared.job.Receipt.{Receipt}
use Rattle.stateful_core.specs.Cells.{KeyCell}
use Rattle.stateful_core.specs.Facts.{AreKeysSane, AreDoneOf, Folded, IsCellSane, IsDoneOf, IsLiveAs}
use Rattle.stateful_core.specs.KeyWork.{IsGivenOfKey, KeyCommit, numbered}
use Rattle.stateful_core.specs.Placing.{Done, place}
use Rattle.stateful_core.specs.Staying.{StaysAt}
use Rattle.stateful_core.specs.Taking.{change, is_free, is_ready, set_by, tried, turn_of, with_job}
use Rattle.stateful_core.specs.Working.{AreWorkedOnce, is_live_at, is_number}
use Rattle.stateful_core.specs.declared.key_job.KeyTurn.{KeyTurn}
use Rattle.stateful_core.specs.declared.place.Place.{Place}
use Rattle.stateful_core.proofs.JobStays.{change_stays, place_stays, turn_stays}
use Rattle.stateful_core.proofs.KeyCommit.{key_commit}
use Rattle.stateful_core.proofs.NextReady.{next_found}
use Rattle.stateful_core.proofs.OfSane.{cell_stateful}
use Rattle.stateful_core.proofs.Found.{set_got}
use Rattle.stateful_core.proofs.WorkedOnce.{done_once, enroll_once, give_back_once, other_once, take_once}
use Rattle.book_core.specs.Book.{SeenBook, cell_worked, last_marks}
use Rattle.book_core.specs.Changes.{key_done, key_done_of, keys_after, with_slot}
use Rattle.book_core.specs.Facts.{AreTurnsKept, HasTurn, IsTurnOf}
use Rattle.book_core.specs.Jobs.{attempted_of, job_of, key_turn, with_key}
use Rattle.book_core.specs.Steps.{IsFree, IsWorking}
use Rattle.book_core.specs.Work.{IsGiven, folded_by}
use Rattle.book_core.specs.declared.live.Live.{Live}
use Rattle.book_core.specs.declared.live.Live.TheVariants as live
use Rattle.book_core.proofs.KeysKept.{KeysSane}
use Rattle.book_core.proofs.Slots.{All-slice_get}
use Rattle.book_core.proofs.Slotted.{flat_set_weighs}
use Rattle.book_core.proofs.Taking.{IsNextCell}

-- what a slot works is the job of its cell
pub turn_at : (b : SeenBook) (slot : ℕ) (turn : KeyTurn) → AreTurnsKept b → IsWorking b slot (live.Key turn) → IsTurnOf b.keys turn
turn_at b slot turn h works = All-slice_get (HasTurn b.keys) b.slots slot (Some (live.Key turn)) works h.turns

-- which is of a Stateful node
pub turn_stateful : (b : SeenBook) (slot : ℕ) (turn : KeyTurn) → KeysSane b → AreTurnsKept b → IsWorking b slot (live.Key turn) → is_stateful b.plan turn.node ≡ true
turn_stateful b slot turn kept h works =
    let own = turn_at b slot turn h works in
    ap (λ (t : KeyTurn). is_stateful b.plan t.node) own.is
    ∙ cell_stateful b.plan b.commits own.cell (All-slice_get (IsCellSane b.plan b.commits) b.keys turn.cell own.cell own.is_at kept.each)

-- ---- a job stays

live_as : (plan : Plan) (commits : List CommitMarks) (cells : List KeyCell) (turn : KeyTurn) → AreKeysSane plan commits cells → (h : IsTurnOf cells turn) → IsLiveAs commits h.cell (Some h.count)
live_as plan commits cells turn kept h =
    subst (IsLiveAs commits h.cell) h.works (All-slice_get (IsCellSane plan commits) cells turn.cell h.cell h.is_at kept.each).works

turn_stays_in : (commits : List CommitMarks) (old new : List KeyCell) (turn : KeyTurn) → (h : IsTurnOf old turn) → IsLiveAs commits h.cell (Some h.count) → StaysAt turn.cell h.cell new → IsTurnOf new turn
turn_stays_in commits old new turn h works s = record {
  cell = s.new;
  count = h.count;
  is_at = s.is_at;
  works = s.stays.live ∙ h.works;
  is = h.is ∙ sym (turn_stays commits turn.cell h.count h.cell s.new s.stays works);
}

-- whatever slots there are, where each cell that is worked stays
pub turns_stay : (plan : Plan) (commits : List CommitMarks) (old new : List KeyCell) (slots : List (Option Live)) → AreKeysSane plan commits old
    → ((k : ℕ) (turn : KeyTurn) (h : IsTurnOf old turn) → slice_get slots k ≡ Some (Some (live.Key turn)) → StaysAt turn.cell h.cell new)
    → All (HasTurn old) slots → All (HasTurn new) slots
turns_stay plan commits old new slots kept stays all k d inside = by (get_or slots k d) (slice_get-get_or slots k d inside) (all k d inside)
  where
    by : (slot : Option Live) → slice_get slots k ≡ Some slot → HasTurn old slot → HasTurn new slot
    by None e h = tt
    by (Some (live.Span piece attempted)) e h = tt
    by (Some (live.Batch batch)) e h = tt
    by (Some (live.Key turn)) e h = turn_stays_in commits old new turn h (live_as plan commits old turn kept h) (stays k turn h e)

-- ---- a take

module _ (b : SeenBook) (slot : ℕ) (place : Place) (cell : KeyCell) (found : IsNextCell b place cell) where
  pub cell_ready : is_ready (last_marks b) cell ≡ true
  cell_ready =
      let first = next_found (last_marks b) b.keys place found.next in
      let same : first.cell ≡ cell = same_Some first.cell cell (sym first.is_at ∙ found.is_at) in
      ap (is_ready (last_marks b)) (sym same) ∙ first.ready

  cell_free : is_free cell ≡ true
  cell_free = (and_parts _ _ cell_ready).0

  free_not_live : (live : Option ℕ) (count : ℕ) → (elim live as (λ _. Bool) [ None ↦ true | Some n ↦ false ]) ≡ true → live ≡ Some count → ⊥
  free_not_live None count e f = absurd (cc)
  free_not_live (Some n) count e f = absurd (cc)

  same_turn : (n : ℕ) → turn_of place.at cell n ≡ turn_of place.at (with_job b.options.bundle cell) n
  same_turn zero = refl
  same_turn (suc n) = refl

  at_cell : slice_get (change (with_job b.options.bundle) place.at b.keys) place.at ≡ Some (with_job b.options.bundle cell)
  at_cell =
      ap (λ (o : Option KeyCell). slice_get (set_by (with_job b.options.bundle) o place.at b.keys) place.at) found.is_at
      ∙ set_got b.keys place.at (with_job b.options.bundle cell) (slice_get_within b.keys place.at cell found.is_at)

  taken_turn : IsTurnOf (change (with_job b.options.bundle) place.at b.keys) (key_turn b place.at cell)
  taken_turn = record {
    cell = with_job b.options.bundle cell;
    count = min b.options.bundle (length cell.waiting);
    is_at = at_cell;
    works = refl;
    is = same_turn (min b.options.bundle (length cell.waiting));
  }

  pub take_turns : IsFree b slot → KeysSane b → AreTurnsKept b → AreTurnsKept (with_slot (with_key b place.at cell).rest slot (Some (with_key b place.at cell).job))
  take_turns free kept h =
      let job = Some (live.Key (key_turn b place.at cell)) in
      let new = change (with_job b.options.bundle) place.at b.keys in
      record {
        once = take_once cell_worked b.slots b.keys slot place.at b.options.bundle None job cell h.once free refl refl found.is_at cell_free;
        turns = All-set (HasTurn new) b.slots slot job taken_turn
            (turns_stay b.plan b.commits b.keys new b.slots kept
            (λ k turn own e. change_stays (with_job b.options.bundle) b.keys place.at turn.cell own.cell
            (λ same.
            let mine : own.cell ≡ cell = same_Some own.cell cell (sym own.is_at ∙ ap (slice_get b.keys) same ∙ found.is_at) in
            free_not_live cell.live own.count cell_free (sym (ap (λ (c : KeyCell). c.live) mine) ∙ own.works)) own.is_at)
            h.turns);
      }

-- ---- a slot that works no key job before or after

pub same_turns : (b : SeenBook) (slot : ℕ) (old new : Option Live) → slice_get b.slots slot ≡ Some old → cell_worked old ≡ cell_worked new → HasTurn b.keys new → AreTurnsKept b
    → AreTurnsKept (with_slot b slot new)
same_turns b slot old new at same mine h = record {
  once = other_once cell_worked b.plan [] [] b.slots b.keys slot old new h.once at same;
  turns = All-set (HasTurn b.keys) b.slots slot new mine h.turns;
}

pub enroll_turns : (b : SeenBook) → AreTurnsKept b → AreTurnsKept (record b { slots = b.slots ++ None ∷ [] })
enroll_turns b h = record {
  once = enroll_once cell_worked b.slots b.keys None h.once refl;
  turns = All-append (HasTurn b.keys) b.slots (None ∷ []) h.turns (All-cons (HasTurn b.keys) None [] tt (All-nil (HasTurn b.keys)));
}

-- ---- the job of a slot is at its end

-- no other slot works its cell
apart : (slots : List (Option Live)) (cells : List KeyCell) (slot k : ℕ) (turn other : KeyTurn) → AreWorkedOnce cell_worked slots cells → slice_get slots slot ≡ Some (Some (live.Key turn))
    → slice_get (slice_set slots slot None) k ≡ Some (Some (live.Key other)) → other.cell ≡ turn.cell → ⊥
apart slots cells slot k turn other once e f same =
    let w : ℕ → ℕ = λ n. cond (is_number turn.cell n) 1 0 in
    absurd (omega (
      arith,
      flat_set_weighs cell_worked slots slot w (Some (live.Key turn)) None e,
      flat_set_weighs cell_worked (slice_set slots slot None) k w (Some (live.Key other)) None f,
      most (is_live_at cells turn.cell) (once.once turn.cell),
      mine turn.cell refl,
      mine other.cell same,
    ))
  where
    mine : (n : ℕ) → n ≡ turn.cell → count_by (is_number turn.cell) (n ∷ []) ≡ 1
    mine n e = sum_by-cons (λ k. cond (is_number turn.cell k) 1 0) n [] ∙ ap (λ (t : Bool). cond t 1 0 + 0) (eq-eqb n turn.cell e)

    most : (t : Bool) → count_by (is_number turn.cell) (flat_map cell_worked slots) ≡ cond t 1 0 → count_by (is_number turn.cell) (flat_map cell_worked slots) ≤ 1
    most true e = omega (arith, e)
    most false e = omega (arith, e)

-- a receipt is what the plan gives for this turn
abbrev IsGivenOf : Plan → Receipt → KeyTurn → Type 0
IsGivenOf plan receipt turn =
    IsGivenOfKey plan turn.node turn.key turn.span turn.inputs (record { cells = turn.state; timers = turn.timers }) receipt.arrivals (option_map folded_by receipt.logged)

module _ (b : SeenBook) (slot : ℕ) (turn : KeyTurn) (works : IsWorking b slot (live.Key turn)) (kept : KeysSane b) (h : AreTurnsKept b) where
  -- where it is given back
  pub back_turns : AreTurnsKept (record (with_slot b slot None) { keys = change tried turn.cell b.keys })
  back_turns =
      let own = turn_at b slot turn h works in
      record {
        once = give_back_once cell_worked b.slots b.keys slot turn.cell (Some (live.Key turn)) None own.cell h.once works refl refl own.is_at;
        turns = turns_stay b.plan b.commits b.keys (change tried turn.cell b.keys) (slice_set b.slots slot None) kept
            (λ k other mine e. change_stays tried b.keys turn.cell other.cell mine.cell (apart b.slots b.keys slot k turn other h.once works e) mine.is_at)
            (All-set (HasTurn b.keys) b.slots slot None tt h.turns);
      }

  -- where it is committed, what it leaves is the fold over its inputs
  pub turn_committed : (told : Option (List FileText)) (receipt : Receipt) (c : ℕ) → IsGiven told b.plan (job_of b.panes (live.Key turn)) None receipt
      → KeyCommit b.plan c b.keys turn.cell receipt.arrivals (option_map folded_by receipt.logged)
  turn_committed told receipt c given =
      key_commit cell_worked b.plan b.commits b.keys b.slots slot turn.cell c (Some (live.Key turn)) receipt.arrivals (option_map folded_by receipt.logged) kept h.once works refl
      (λ cell count at is.
      let own = turn_at b slot turn h works in
      let same : own.cell ≡ cell = same_Some own.cell cell (sym own.is_at ∙ at) in
      let many : own.count ≡ count = same_Some own.count count (sym own.works ∙ ap (λ (x : KeyCell). x.live) same ∙ is) in
      subst (λ (n : ℕ). IsGivenOf b.plan receipt (turn_of turn.cell cell n)) many
      (subst (λ (x : KeyCell). IsGivenOf b.plan receipt (turn_of turn.cell x own.count)) same (subst (IsGivenOf b.plan receipt) own.is given)))

-- what a key job leaves, as a commit places it
pub record IsPlacedJob (b : SeenBook) (turn : KeyTurn) (receipt : Receipt) : Type 0 where
  pub done : Done
  pub is : key_done_of (length b.commits) turn.cell receipt.logged ≡ Some done
  pub cell_is : done.cell ≡ turn.cell
  pub made : IsDoneOf b.plan (length b.commits) b.keys done

pub placed_job : (told : Option (List FileText)) (b : SeenBook) (slot : ℕ) (turn : KeyTurn) (receipt : Receipt) → KeysSane b → AreTurnsKept b → IsWorking b slot (live.Key turn)
    → IsGiven told b.plan (job_of b.panes (live.Key turn)) None receipt → IsPlacedJob b turn receipt
placed_job told b slot turn receipt kept h works given = by receipt.logged refl (turn_committed b slot turn works kept h told receipt (length b.commits) given)
  where
    by : (logged : Option Logged) → receipt.logged ≡ logged → KeyCommit b.plan (length b.commits) b.keys turn.cell receipt.arrivals (option_map folded_by logged) → IsPlacedJob b turn receipt
    by None e commit = let was : None ≡ Some commit.all = commit.was in absurd (cc)
    by (Some logged) e commit =
        let same : folded_by logged ≡ commit.all = same_Some (folded_by logged) commit.all commit.was in
        record {
          done = record { cell = turn.cell; kept = (folded_by logged).kept; entries = (numbered (length b.commits) (folded_by logged)).entries };
          is = ap (key_done_of (length b.commits) turn.cell) e;
          cell_is = refl;
          made = subst (λ (all : Folded). IsDoneOf b.plan (length b.commits) b.keys (record { cell = turn.cell; kept = all.kept; entries = (numbered (length b.commits) all).entries })) (sym same) commit.made;
        }

-- ---- a commit

-- what is done is what its job gave
pub commit_done : (told : Option (List FileText)) (b : SeenBook) (slot : ℕ) (job : Live) (receipt : Receipt) → KeysSane b → AreTurnsKept b → IsWorking b slot job
    → IsGiven told b.plan (job_of b.panes job) (attempted_of job) receipt → AreDoneOf b.plan (length b.commits) b.keys (key_done (length b.commits) job receipt.logged)
commit_done told b slot (live.Span piece attempted) receipt kept h works given = tt
commit_done told b slot (live.Batch batch) receipt kept h works given = tt
commit_done told b slot (live.Key turn) receipt kept h works given =
    let placed = placed_job told b slot turn receipt kept h works given in
    subst (AreDoneOf b.plan (length b.commits) b.keys) (sym placed.is) placed.made

pub commit_turns : (told : Option (List FileText)) (b : SeenBook) (slot : ℕ) (job : Live) (receipt : Receipt) → KeysSane b → AreTurnsKept b → IsWorking b slot job
    → IsGiven told b.plan (job_of b.panes job) (attempted_of job) receipt → AreTurnsKept (record (with_slot b slot None) { keys = keys_after b job receipt })
commit_turns told b slot (live.Span piece attempted) receipt kept h works given = record {
  once = other_once cell_worked b.plan (last_marks b) receipt.arrivals b.slots b.keys slot (Some (live.Span piece attempted)) None h.once works refl;
  turns = turns_stay b.plan b.commits b.keys (place b.plan (last_marks b) None receipt.arrivals b.keys) (slice_set b.slots slot None) kept
      (λ k turn own e. place_stays b.plan (last_marks b) None receipt.arrivals b.keys turn.cell own.cell tt own.is_at) (All-set (HasTurn b.keys) b.slots slot None tt h.turns);
}
commit_turns told b slot (live.Batch batch) receipt kept h works given = record {
  once = other_once cell_worked b.plan (last_marks b) receipt.arrivals b.slots b.keys slot (Some (live.Batch batch)) None h.once works refl;
  turns = turns_stay b.plan b.commits b.keys (place b.plan (last_marks b) None receipt.arrivals b.keys) (slice_set b.slots slot None) kept
      (λ k turn own e. place_stays b.plan (last_marks b) None receipt.arrivals b.keys turn.cell own.cell tt own.is_at) (All-set (HasTurn b.keys) b.slots slot None tt h.turns);
}
commit_turns told b slot (live.Key turn) receipt kept h works given =
    let placed = placed_job told b slot turn receipt kept h works given in
    let own = turn_at b slot turn h works in
    subst (λ (o : Option Done). AreTurnsKept (record (with_slot b slot None) { keys = place b.plan (last_marks b) o receipt.arrivals b.keys })) (sym placed.is) (record {
      once = done_once cell_worked b.plan (last_marks b) placed.done receipt.arrivals b.slots b.keys slot (Some (live.Key turn)) None own.cell h.once works
          (ap (λ (n : ℕ). n ∷ []) (sym placed.cell_is)) refl (ap (slice_get b.keys) placed.cell_is ∙ own.is_at);
      turns = turns_stay b.plan b.commits b.keys (place b.plan (last_marks b) (Some placed.done) receipt.arrivals b.keys) (slice_set b.slots slot None) kept
          (λ k other mine e. place_stays b.plan (last_marks b) (Some placed.done) receipt.arrivals b.keys other.cell mine.cell
          (λ same. apart b.slots b.keys slot k turn other h.once works e (same ∙ placed.cell_is)) mine.is_at)
          (All-set (HasTurn b.keys) b.slots slot None tt h.turns);
    })
