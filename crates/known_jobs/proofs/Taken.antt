-- A job that a slot has taken: nothing of it was attempted, and it lies in the plan and its items.
use Rattle.std.proofs.Common.{◌≡◌, ℕ, ◌-◌, ◌<◌, ◌≤◌, Bool, true, false, cond, ◌||◌, ◌&&◌, ◌==◌, List, [], ◌∷◌, ◌++◌, refl, sym, ap, ◌∙◌, subst, arith}
use Rattle.std.specs.Prelude.{Option, Some, None, length, nat_le, nat_lt, slice_get, slice_set}
use Rattle.std.specs.List.{list_any}
use Rattle.std.proofs.lemmas.Bool.{and_from}
use Rattle.std.proofs.lemmas.Bool.Decides.{nat_tests}
use Rattle.std.proofs.lemmas.List.Sums.{sum_by-cons}
use Rattle.std.proofs.lemmas.Option.{slice_get_within}
use Rattle.beam_values.specs.Nodes.{is_stateful}
use Rattle.beam_values.specs.Cover.{Place, times_at, times_listed, times_pending, whole}
use Rattle.beam_values.specs.declared.piece.FileLen.{FileLen}
use Rattle.beam_values.specs.declared.piece.Piece.{Piece}
use Rattle.beam_values.specs.declared.plan.Plan.{Plan}
use Rattle.bundle_commit.specs.declared.job.Job.{Job}
use Rattle.split_core.proofs.Partition.{both_same}
use Rattle.stateful_core.specs.Cells.{KeyCell}
use Rattle.book_core.specs.Book.{SeenBook, live_pieces}
use Rattle.book_core.specs.Changes.{with_slot}
use Rattle.book_core.specs.Facts.{ArePartitioned}
use Rattle.book_core.specs.Jobs.{Next, attempted_of, job_of, key_turn}
use Rattle.book_core.specs.Sane.{IsSane}
use Rattle.book_core.specs.Steps.{IsTaking, IsWorking, Take, TakenJob}
use Rattle.book_core.specs.Work.{Surroundings}
use Rattle.book_core.specs.declared.live.Batch.{Batch}
use Rattle.book_core.specs.declared.live.Live.{Live}
use Rattle.book_core.specs.declared.live.Live.TheVariants as live
use Rattle.book_core.proofs.CellsKept.{batch_at_group}
use Rattle.book_core.proofs.HeldMarks.{slice_get-set_same}
use Rattle.book_core.proofs.HeldOnce.{group_within}
use Rattle.book_core.proofs.SaneAlways.{step_sane}
use Rattle.book_core.proofs.Taking.{take_cases}
use Rattle.book_core.proofs.Turns.{turn_stateful}
use Rattle.book_core.proofs.Worked.{taken_plan}
use Rattle.known_jobs.specs.Calls.{IsJobIn, holds_end}
use Rattle.known_jobs.specs.Jobs.{known_at, known_in, setting_for}

-- ---- the slot works it from its start

module _ (b new : SeenBook) (slot : ℕ) (handed : Job) (step : IsTaking b slot handed new) where
  knows : (j : Live) → attempted_of j ≡ None → handed ≡ job_of b.panes j → known_in b.panes (slice_get (slice_set b.slots slot (Some j)) slot) ≡ Some (record { job = handed; attempted = None })
  knows j fresh is =
      ap (known_in b.panes) (slice_get-set_same b.slots slot (Some j) (slice_get_within b.slots slot None step.free)) ∙ (λ k. Some (record { job = sym is k; attempted = fresh k }))

  pub taken_known : known_at new slot ≡ Some (record { job = handed; attempted = None })
  taken_known =
      ap (λ (d : SeenBook). known_at d slot) step.is
      ∙ take_cases b (λ (n : Next). handed ≡ job_of b.panes n.job → known_at (with_slot n.rest slot (Some n.job)) slot ≡ Some (record { job = handed; attempted = None }))
      (λ batch among is. knows (live.Batch batch) refl is)
      (λ batch oldest is. knows (live.Batch batch) refl is)
      (λ place cell found is. knows (live.Key (key_turn b place.at cell)) refl is)
      (λ first later parts is. knows (live.Span first None) refl is)
      step.next step.is_next step.handed

-- ---- an offset that is pending is listed

-- a range that isn't empty holds its last offset
holds_last : (from to : ℕ) → from < to → cond {A = ℕ} (nat_le from (to - 1) && nat_lt (to - 1) to) 1 0 ≡ 1
holds_last from to some = grind (arith, nat_tests)

past_end : (to len : ℕ) → len < to → cond {A = ℕ} (nat_le 0 (to - 1) && nat_lt (to - 1) len) 1 0 ≡ 0
past_end to len high = grind (arith, nat_tests)

within_end : (to len : ℕ) → nat_le to len ≡ false → len < to
within_end to len past = grind (arith, nat_tests)

off_item : (own : Bool) (n : ℕ) → own ≡ false → cond {A = ℕ} own n 0 ≡ 0
off_item true n is = absurd (cc)
off_item false n is = refl

past_item : (own : Bool) (n : ℕ) → n ≡ 0 → cond {A = ℕ} own n 0 ≡ 0
past_item true n none = none
past_item false n none = refl

-- the item of a listed offset is there, and reaches behind it
listed_end : (files : List FileLen) (piece : Piece) → piece.range.from < piece.range.to
    → 1 ≤ times_listed files (record { node = piece.node; item = piece.item; offset = piece.range.to - 1 }) → list_any (holds_end piece) files ≡ true
listed_end [] piece some listed = absurd (omega (arith, listed))
listed_end (file ∷ files) piece some listed = by (file.node == piece.node && file.item == piece.item) refl (nat_le piece.range.to file.len) refl (listed_end files piece some)
  where
    later : (1 ≤ times_listed files (record { node = piece.node; item = piece.item; offset = piece.range.to - 1 }) → list_any (holds_end piece) files ≡ true)
        → times_at file.node file.item (whole file.len) (record { node = piece.node; item = piece.item; offset = piece.range.to - 1 }) ≡ 0 → list_any (holds_end piece) files ≡ true
    later onward none =
        let times = sum_by-cons (λ (f : FileLen). times_at f.node f.item (whole f.len) (record { node = piece.node; item = piece.item; offset = piece.range.to - 1 })) file files in
        onward (omega (arith, listed, times, none))

    here : (test : Bool) → test ≡ true → (test || list_any (holds_end piece) files) ≡ true
    here true is = refl
    here false is = absurd (cc)

    behind : (test : Bool) → list_any (holds_end piece) files ≡ true → (test || list_any (holds_end piece) files) ≡ true
    behind true rest = refl
    behind false rest = rest

    by : (own : Bool) → (file.node == piece.node && file.item == piece.item) ≡ own → (ends : Bool) → nat_le piece.range.to file.len ≡ ends
        → (1 ≤ times_listed files (record { node = piece.node; item = piece.item; offset = piece.range.to - 1 }) → list_any (holds_end piece) files ≡ true) → list_any (holds_end piece) (file ∷ files) ≡ true
    by true own true ends onward = here (holds_end piece file) (and_from (file.node == piece.node && file.item == piece.item) (nat_le piece.range.to file.len) own ends)
    by true own false ends onward =
        behind (holds_end piece file)
        (later onward (past_item (file.node == piece.node && file.item == piece.item) _ (past_end piece.range.to file.len (within_end piece.range.to file.len ends))))
    by false own ends at onward = behind (holds_end piece file) (later onward (off_item (file.node == piece.node && file.item == piece.item) _ own))

own_item : (node item n : ℕ) → cond {A = ℕ} (node == node && item == item) n 0 ≡ n
own_item node item n = ap (λ (own : Bool). cond {A = ℕ} own n 0) (both_same node item)

-- the first pending piece
first_listed : (b : SeenBook) (first : Piece) (later : List Piece) → ArePartitioned b → b.pending ≡ first ∷ later → first.range.from < first.range.to → list_any (holds_end first) b.files ≡ true
first_listed b first later parts is some =
    let place : Place = record { node = first.node; item = first.item; offset = first.range.to - 1 } in
    let own = own_item first.node first.item (cond {A = ℕ} (nat_le first.range.from (first.range.to - 1) && nat_lt (first.range.to - 1) first.range.to) 1 0) in
    let one = holds_last first.range.from first.range.to some in
    let held = sum_by-cons (λ (q : Piece). times_at q.node q.item q.range place) first (later ++ live_pieces b) in
    let same : times_pending (b.pending ++ live_pieces b) place ≡ times_pending (first ∷ (later ++ live_pieces b)) place = ap (λ (l : List Piece). times_pending (l ++ live_pieces b) place) is in
    listed_end b.files first some (omega (arith, own, one, held, same, parts.times place))

-- ---- the job lies in the plan and its items

module _ (known : Surroundings) (b new : SeenBook) (slot : ℕ) (handed : Job) (sane : IsSane b) (step : IsTaking b slot handed new) where
  works : (j : Live) → new.slots ≡ slice_set b.slots slot (Some j) → IsWorking new slot j
  works j is = ap (λ (slots : List (Option Live)). slice_get slots slot) is ∙ slice_get-set_same b.slots slot (Some j) (slice_get_within b.slots slot None step.free)

  of_group : (batch : Batch) → IsWorking new slot (live.Batch batch) → batch.node < length b.plan.nodes
  of_group batch at =
      let kept : IsSane new = step_sane None b new slot Take (TakenJob handed) step sane in
      subst (λ (p : Plan). batch.node < length p.nodes) (taken_plan b new slot handed step) (group_within new.plan batch.node (batch_at_group new slot batch kept.held kept.panes.at_groups at))

  of_stateful : (at : ℕ) (cell : KeyCell) → IsWorking new slot (live.Key (key_turn b at cell)) → is_stateful b.plan cell.log.node ≡ true
  of_stateful at cell there =
      let kept : IsSane new = step_sane None b new slot Take (TakenJob handed) step sane in
      subst (λ (p : Plan). is_stateful p cell.log.node ≡ true) (taken_plan b new slot handed step) (turn_stateful new slot (key_turn b at cell) kept.keys kept.turns there)

  pub taken_in : IsJobIn (setting_for known b) handed
  taken_in =
      take_cases b (λ (n : Next). new ≡ with_slot n.rest slot (Some n.job) → handed ≡ job_of b.panes n.job → IsJobIn (setting_for known b) handed)
      (λ batch among is e. subst (IsJobIn (setting_for known b)) (sym e) (of_group batch (works (live.Batch batch) (ap (λ (d : SeenBook). d.slots) is))))
      (λ batch oldest is e. subst (IsJobIn (setting_for known b)) (sym e) (of_group batch (works (live.Batch batch) (ap (λ (d : SeenBook). d.slots) is))))
      (λ place cell found is e.
      subst (IsJobIn (setting_for known b)) (sym e) (of_stateful place.at cell (works (live.Key (key_turn b place.at cell)) (ap (λ (d : SeenBook). d.slots) is))))
      (λ first later parts is e. subst (IsJobIn (setting_for known b)) (sym e) (first_listed b first later sane.partitioned parts))
      step.next step.is_next step.is step.handed
