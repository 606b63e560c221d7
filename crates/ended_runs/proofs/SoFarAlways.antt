-- Every step keeps it: above a barrier with sound estimators and default triggers nothing is dropped.
use Rattle.std.proofs.Common.{◌≡◌, ℕ, suc, ◌-◌, ◌≤◌, ℤ, pos, Bool, true, false, List, [], ◌∷◌, ◌++◌, length, get_or, map, refl, sym, ap, subst, ◌∙◌, length-append, arith}
use Rattle.std.specs.Prelude.{Option, Some, None, ◌==◌, ◌||◌, ◌≤ℤ◌, ◌<ℤ◌, ◌+ℤ◌, not, int_le, slice_get, unwrap_or}
use Rattle.std.specs.List.{All, filter, flat_map}
use Rattle.std.specs.Option.{option_map}
use Rattle.std.proofs.lemmas.Bool.{and_parts, eqb-true, false≢true}
use Rattle.std.proofs.lemmas.Int.{ints}
use Rattle.std.proofs.lemmas.List.Elements.{All-nil, All-append, All-filter, All-map, All-weaker, filter_passes}
use Rattle.beam_values.specs.Bags.{IsSameBag}
use Rattle.beam_values.specs.Firing.{is_expired}
use Rattle.beam_values.specs.Grouping.{last_time}
use Rattle.beam_values.specs.Marks.{marks_at}
use Rattle.beam_values.specs.Nodes.{is_above, is_group, is_group_kind, is_write, strategy_of, HasNoStatefulAbove, is_stateful}
use Rattle.beam_values.specs.Sessions.{IsNonEmpty}
use Rattle.beam_values.specs.Times.{IsMark, IsTime}
use Rattle.beam_values.specs.declared.arrival.Arrival.{Arrival}
use Rattle.beam_values.specs.declared.cell.Cell.{Cell}
use Rattle.beam_values.specs.declared.cell.Dropped.{Dropped}
use Rattle.beam_values.specs.declared.cell.Pane.{Pane}
use Rattle.beam_values.specs.declared.fault.Cause.{Cause}
use Rattle.beam_values.specs.declared.fault.Cause.TheVariants.{Call, Read}
use Rattle.beam_values.specs.declared.fault.FaultNote.{FaultNote}
use Rattle.beam_values.specs.declared.file_text.FileText.{FileText}
use Rattle.beam_values.specs.declared.marks.CommitMarks.{CommitMarks}
use Rattle.beam_values.specs.declared.marks.StageMarks.{StageMarks}
use Rattle.beam_values.specs.declared.plan.Node.{Node}
use Rattle.beam_values.specs.declared.plan.Plan.{Plan}
use Rattle.beam_values.specs.declared.plan.Trigger.{Trigger}
use Rattle.beam_values.proofs.Bags.{bag_from_same, bag_sym, bag_trans}
use Rattle.beam_model.specs.Estimators.{AreSoundAbove}
use Rattle.beam_model.specs.Holds.{Hold, estimator_of, least_hold, piece_hold}
use Rattle.beam_model.specs.Panes.{mark_after, taken_by, trigger_of}
use Rattle.beam_model.specs.Plain.{HasDefaultTriggersAbove}
use Rattle.beam_model.specs.Plans.{default_trigger}
use Rattle.beam_model.specs.Positions.{items}
use Rattle.bundle_commit.specs.declared.job.Receipt.{Receipt}
use Rattle.group_cells.specs.Commits.{as_commit, dropped_arrival, is_at_group, is_dropped, is_taken, taken_arrival}
use Rattle.watermarks.proofs.Rising.{below_hold}
use Rattle.stateful_core.specs.Facts.{IsCellSane}
use Rattle.stateful_core.proofs.OfSane.{cell_stateful}
use Rattle.book_core.specs.Book.{SeenBook, HeldPane, AreMarksOfBook, batch_of, held, held_in, hold_of, holds, last_marks, live_pieces}
use Rattle.book_core.specs.Changes.{with_slot, broken, cut_to, split_off, committed, tried_again, given_back, counted, stopped_where, ends_run, note_of, written_by}
use Rattle.book_core.specs.Facts.{AreHeldOnce, IsEarlyPane, IsWellFormed}
use Rattle.book_core.specs.Runs.{Reached, IsOpening}
use Rattle.book_core.specs.Steps.{Commit, Committed, IsWorking}
use Rattle.book_core.specs.declared.live.Live.{Live}
use Rattle.book_core.specs.declared.live.Live.TheVariants as live
use Rattle.book_core.proofs.Cases.{Keeps, Commits, Both, kept_with, always_reached, enrolled}
use Rattle.book_core.proofs.AllKept.{reached_kept_with, reached_seen}
use Rattle.book_core.proofs.CellsAlways.{commit_entries}
use Rattle.book_core.proofs.HeldMoves.{back_moves, enroll_moves, fired_held, set_moves, take_moves}
use Rattle.book_core.proofs.HeldOnce.{commit_bag, none_held}
use Rattle.stateful_core.specs.Cells.{key_holds}
use Rattle.book_core.specs.Indexes.{all_holds}
use Rattle.book_core.proofs.KeysKept.{holds_at}
use Rattle.book_core.proofs.Reaching.{reached_more}
use Rattle.book_core.proofs.SaneAlways.{reached_sane}
use Rattle.book_core.proofs.SaneResults.{StaysCelled, fail_stays, take_stays}
use Rattle.book_core.proofs.Slotted.{All-append_left, All-append_right}
use Rattle.ended_runs.proofs.Above.{IsAbove, KnownLaws, StartsAbove}
use Rattle.ended_runs.proofs.PanesWell.{IsSpanWell, pane_times, panes_early, panes_well}
use Rattle.ended_runs.proofs.MarksAbove.{marks_above}
use Rattle.ended_runs.proofs.SeenTimes.{reached_always, reached_seen_times}
use Rattle.ended_runs.proofs.SoFar.{IsFiredNow, IsHeldSo, IsTakenAbove, held_later, held_now, held_of_bag, least_is_mark, mark_front, taken_later, taken_of_bag}
use Rattle.ended_runs.proofs.ToCome.{IsPaneWell, arrivals_above, lag_of, mark_time}

-- ---- what stays the same

stop_same : (spent : Bool) (x : SeenBook) (note : FaultNote) → held (stopped_where spent x note) ≡ held x
stop_same true x note = refl
stop_same false x note = refl

counted_same : (x : SeenBook) (cause : Cause) → held (counted x cause) ≡ held x
counted_same x Call = refl
counted_same x Read = refl

fail_moves : (b : SeenBook) (slot at : ℕ) (job : Live) (cause : Cause) → IsWorking b slot job → IsSameBag (held (tried_again b slot job at cause)) (held b)
fail_moves b slot at job cause works =
    let back = given_back (with_slot b slot None) job at cause in
    bag_trans (held (tried_again b slot job at cause)) (held back) (held b)
    (bag_from_same (held (tried_again b slot job at cause)) (held back) (stop_same (ends_run b job cause) (counted back cause) (note_of job at cause) ∙ counted_same back cause))
    (back_moves b slot job at cause works)

-- a commit that was made leads to a reached book
pub committed_reached : (told : Option (List FileText)) (b : SeenBook) (slot : ℕ) (job : Live) (receipt : Receipt) (cells : List Cell) (fired : List Pane) (marks : List StageMarks) → Reached told b
    → Commits told b slot job receipt cells fired marks → Reached told (committed b slot job receipt cells fired marks)
committed_reached told b slot job receipt cells fired marks reached made =
    reached_more told b (committed b slot job receipt cells fired marks) slot Commit Committed (
      receipt,
      record {
        job = job;
        works = made.works;
        given = made.given;
        commit = record { cells = cells; fired = fired; marks = marks; is = refl; marked = made.marked; rounds = made.rounds };
      },
      made.within,
    ) reached

pub some_commit : (told : Option (List FileText)) (b : SeenBook) → Reached told b → 1 ≤ length b.commits
some_commit told b reached = (reached_sane told b reached).marks.some

module _ (laws : KnownLaws) (told : List FileText) (to : ℕ) where
  pub record IsSoundFor (plan : Plan) : Type 0 where
    pub sound : AreSoundAbove plan (items told plan) to
    pub triggers : HasDefaultTriggersAbove plan to
    pub stateless : HasNoStatefulAbove plan to

  pub record IsSoFarOf (plan : Plan) (commits : List CommitMarks) (cells : List Cell) (dropped : List Dropped) (panes : List Pane) (written : List Arrival) (holding : List HeldPane) : Type 0 where
    pub none_dropped : All (λ d. is_above plan d.node to ≡ false) dropped
    pub taken : All (IsTakenAbove to plan commits) (taken_by cells)
    pub held : All (IsHeldSo to plan panes) holding
    pub some_written : All (λ a. (a.node == to || is_above plan a.node to) ≡ true → IsNonEmpty a.element.span) written

  abbrev pub IsSoFar : SeenBook → Type 0
  IsSoFar b = IsSoundFor b.plan → IsSoFarOf b.plan b.commits b.cells b.dropped b.panes b.written (held b)

  so_far_onward : (old new : SeenBook) → StaysCelled old new → IsSameBag (held new) (held old) → IsSoFar old → IsSoFar new
  so_far_onward old new s same h sound =
      let was = h (subst IsSoundFor s.plan sound) in
      let moved : IsSoFarOf old.plan old.commits old.cells old.dropped old.panes old.written (held new) = record {
        none_dropped = was.none_dropped;
        taken = was.taken;
        held = held_of_bag to old.plan old.panes (held old) (held new) (bag_sym (held new) (held old) same) was.held;
        some_written = was.some_written;
      } in
      subst (λ (p : Plan). IsSoFarOf p new.commits new.cells new.dropped new.panes new.written (held new)) (sym s.plan)
      (subst (λ (l : List CommitMarks). IsSoFarOf old.plan l new.cells new.dropped new.panes new.written (held new)) (sym s.commits)
      (subst (λ (l : List Cell). IsSoFarOf old.plan old.commits l new.dropped new.panes new.written (held new)) (sym s.cells)
      (subst (λ (l : List Dropped). IsSoFarOf old.plan old.commits old.cells l new.panes new.written (held new)) (sym s.dropped)
      (subst (λ (l : List Pane). IsSoFarOf old.plan old.commits old.cells old.dropped l new.written (held new)) (sym s.panes)
      (subst (λ (l : List Arrival). IsSoFarOf old.plan old.commits old.cells old.dropped old.panes l (held new)) (sym s.written) moved)))))

  -- ---- a commit

  module _ (b : SeenBook) (slot : ℕ) (job : Live) (receipt : Receipt) (cells : List Cell) (fired : List Pane) (marks : List StageMarks) (reached : Reached (Some told) b)
      (sound : IsSoundFor b.plan) (was : IsSoFarOf b.plan b.commits b.cells b.dropped b.panes b.written (held b)) (made : Commits (Some told) b slot job receipt cells fired marks) where
    abbrev after : SeenBook
    after = committed b slot job receipt cells fired marks

    abbrev before : List StageMarks
    before = last_marks b

    formed : IsWellFormed b
    formed = (reached_sane (Some told) b reached).formed

    once : AreHeldOnce b
    once = (reached_sane (Some told) b reached).held

    marked : AreMarksOfBook b (last_marks b)
    marked = (reached_sane (Some told) b reached).marks.last

    reached_after : Reached (Some told) (committed b slot job receipt cells fired marks)
    reached_after = committed_reached (Some told) b slot job receipt cells fired marks reached made

    some : 1 ≤ length b.commits
    some = some_commit (Some told) b reached

    abbrev Comes : Arrival → Type 0
    Comes a = (a.node == to || is_above b.plan a.node to) ≡ true → IsAbove (marks_at before a.node).mark_in (strategy_of b.plan a.node) a.element

    come_above : All Comes receipt.arrivals
    come_above =
        let celled = (reached_kept_with laws.strategies laws.settings laws.windows (Some told) b reached).kept.cells in
        arrivals_above laws told to b (reached_sane (Some told) b reached).formed.checked (reached_sane (Some told) b reached).marks.last sound.sound (reached_seen told b reached) (reached_sane (Some told) b reached).held
        (panes_well b.plan to sound.triggers b.commits b.cells b.dropped b.panes celled.legal
        (All-weaker (IsTakenAbove to b.plan b.commits) (λ t. is_above b.plan t.node to ≡ true → IsSpanWell t.element.span) (λ t h above. ((h above).past, (h above).some)) (taken_by b.cells) was.taken))
        (All-weaker (IsHeldSo to b.plan b.panes) (λ h. is_above b.plan h.node to ≡ true → (p : Pane) → slice_get b.panes h.waiting.pane ≡ Some p → h.waiting.hold ≤ℤ p.element.time)
        (λ h so. so.within) (held b) was.held)
        celled.legal.panes_at sound.stateless slot job receipt made.works made.given

    or_second : (t u : Bool) → u ≡ true → (t || u) ≡ true
    or_second true u e = refl
    or_second false u e = e

    -- nothing of it is dropped
    not_dropped : (a : Arrival) → Comes a → is_dropped b.plan before a ≡ true → is_above b.plan a.node to ≡ false
    not_dropped a comes lost = by (is_above b.plan a.node to) refl
      where
        late : is_above b.plan a.node to ≡ true → ⊥
        late above =
            let parts = and_parts (is_at_group b.plan a) (not (not (is_expired (trigger_of b.plan a.node) a.element.span.end (marks_at before a.node).mark_in))) lost in
            let ends = (comes (or_second (a.node == to) (is_above b.plan a.node to) above)).ends in
            let expired : is_expired default_trigger a.element.span.end (marks_at before a.node).mark_in ≡ true =
            subst (λ (t : Trigger). is_expired t a.element.span.end (marks_at before a.node).mark_in ≡ true) (sound.triggers a.node (parts.0, above)) (twice _ parts.1) in
            clash a.element.span.end (marks_at before a.node).mark_in expired ends
          where
            twice : (t : Bool) → not (not t) ≡ true → t ≡ true
            twice true e = refl
            twice false e = absurd (cc)

            clash : (end mark : ℤ) → int_le (end +ℤ pos 0) mark ≡ true → mark <ℤ end → ⊥
            clash end mark e h = let le : (end +ℤ pos 0) ≤ℤ mark = grind (arith, ints) in omega (arith, ints, le, h)

        by : (t : Bool) → is_above b.plan a.node to ≡ t → t ≡ false
        by true e = absurd (late e)
        by false e = refl

    none_dropped_after : All (λ d. is_above b.plan d.node to ≡ false) (b.dropped ++ map (dropped_arrival (length b.commits)) (filter (is_dropped b.plan (last_marks b)) receipt.arrivals))
    none_dropped_after =
        let lost = filter (is_dropped b.plan (last_marks b)) receipt.arrivals in
        All-append (λ d. is_above b.plan d.node to ≡ false) b.dropped (map (dropped_arrival (length b.commits)) lost) was.none_dropped
        (All-map (λ d. is_above b.plan d.node to ≡ false) (dropped_arrival (length b.commits)) lost
        (λ k d inside. not_dropped (get_or lost k d) (All-filter (is_dropped b.plan (last_marks b)) Comes receipt.arrivals come_above k d inside) (filter_passes (is_dropped b.plan (last_marks b)) receipt.arrivals k d inside)))

    taken_after : All (IsTakenAbove to b.plan (b.commits ++ as_commit marks ∷ [])) (taken_by cells)
    taken_after =
        let news = filter (is_taken b.plan (last_marks b)) receipt.arrivals in
        let both = taken_by b.cells ++ map (taken_arrival (length b.commits)) news in
        taken_of_bag to b.plan (b.commits ++ as_commit marks ∷ []) both (taken_by cells) (bag_sym (taken_by cells) both (commit_entries (Some told) b slot job receipt cells fired marks (reached_kept_with laws.strategies laws.settings laws.windows (Some told) b reached).kept.cells.legal made))
        (All-append (IsTakenAbove to b.plan (b.commits ++ as_commit marks ∷ [])) (taken_by b.cells) (map (taken_arrival (length b.commits)) news)
        (All-weaker (IsTakenAbove to b.plan b.commits) (IsTakenAbove to b.plan (b.commits ++ as_commit marks ∷ [])) (taken_later to b.plan b.commits (as_commit marks ∷ [])) (taken_by b.cells) was.taken)
        (All-map (IsTakenAbove to b.plan (b.commits ++ as_commit marks ∷ [])) (taken_arrival (length b.commits)) news
        (λ k d inside. one (get_or news k d) (All-filter (is_taken b.plan (last_marks b)) Comes receipt.arrivals come_above k d inside))))
      where
        one : (a : Arrival) → Comes a → IsTakenAbove to b.plan (b.commits ++ as_commit marks ∷ []) (taken_arrival (length b.commits) a)
        one a comes above =
            let is = comes (or_second (a.node == to) (is_above b.plan a.node to) above) in
            let first = some in
            record {
              known = omega (arith, first, length-append b.commits (as_commit marks ∷ []));
              past = is.past;
              some = is.some;
              starts = subst (λ (m : ℤ). StartsAbove (strategy_of b.plan a.node) m a.element.span)
                  (sym (mark_front b.commits (as_commit marks ∷ []) a.node (length b.commits - 1) (omega (arith, first)))) is.starts;
            }

    -- the marks of the nodes above are marks
    all_marks : (n : ℕ) → is_above b.plan n to ≡ true → IsMark (marks_at before n).mark_in × IsMark (marks_at before n).mark_out
    all_marks n above =
        let sane = reached_sane (Some told) b reached in
        let checked = sane.formed.checked in
        let settings = λ (m : ℕ) (node : Node) (here : slice_get b.plan.nodes m ≡ Some node). laws.settings b.plan m node checked here in
        marks_above b.plan (least_hold (all_holds b)) before to checked sane.marks.last
        (λ m upper. least_is_mark (all_holds b) m
        (All-append (λ h. (h.node == m) ≡ true → IsMark h.mark) (map (piece_hold b.plan) (b.pending ++ live_pieces b)) (holds b)
        (All-map (λ h. (h.node == m) ≡ true → IsMark h.mark) (piece_hold b.plan) (b.pending ++ live_pieces b)
        (λ k d here at.
        let piece = get_or (b.pending ++ live_pieces b) k d in
        of_time (mark_time (estimator_of b.plan piece.node) piece.seen (lag_of b.plan settings piece.node) (reached_seen_times laws told b reached k d here))))
        (All-append (λ h. (h.node == m) ≡ true → IsMark h.mark) (map hold_of (held b)) (key_holds b.keys)
        (All-map (λ h. (h.node == m) ≡ true → IsMark h.mark) hold_of (held b)
        (λ k d here at. (was.held k d here).mark (subst (λ (i : ℕ). is_above b.plan i to ≡ true) (sym (eqb-true (get_or (held b) k d).node m at)) upper)))
        (All-weaker (λ (h : Hold). is_stateful b.plan h.node ≡ true) (λ h. (h.node == m) ≡ true → IsMark h.mark)
        (λ h stateful at. absurd (false≢true (sym (sound.stateless m upper) ∙ subst (λ (i : ℕ). is_stateful b.plan i ≡ true) (eqb-true h.node m at) stateful)))
        (key_holds b.keys)
        (holds_at (λ i. is_stateful b.plan i ≡ true) b.keys
        (All-weaker (IsCellSane b.plan b.commits) (λ cell. is_stateful b.plan cell.log.node ≡ true) (cell_stateful b.plan b.commits) b.keys sane.keys.each))))))
        (suc n) n (omega arith) above
      where
        of_time : {z : ℤ} → IsTime z → IsMark z
        of_time is = let high = is.1 in (is.0, λ above. absurd (omega (arith, ints, high, above)))

    fired_facts : All (IsFiredNow to b.plan before) fired
    fired_facts k d inside =
        let p = get_or fired k d in
        let legal = (reached_kept_with laws.strategies laws.settings laws.windows (Some told) after reached_after).kept.cells.legal in
        let own_taken = All-weaker (IsTakenAbove to b.plan after.commits) (λ t. is_above b.plan t.node to ≡ true → IsSpanWell t.element.span) (λ t h above. ((h above).past, (h above).some)) (taken_by cells) taken_after in
        let well = All-append_right (λ (x : Pane). is_above b.plan x.node to ≡ true → IsPaneWell x) b.panes fired
        (panes_well b.plan to sound.triggers after.commits cells after.dropped (b.panes ++ fired) legal own_taken) k d inside in
        let time = All-append_right (λ (x : Pane). x.element.time ≡ last_time x.element.span) b.panes fired (pane_times b.plan after.commits cells after.dropped (b.panes ++ fired) legal) k d inside in
        let now = made.rounds.of_commit k d inside in
        let early = All-append_right (λ (x : Pane). is_above b.plan x.node to ≡ true → mark_after after.commits x.node (x.commit - 1) <ℤ x.element.span.end) b.panes fired
        (panes_early b.plan to sound.triggers after.commits cells after.dropped (b.panes ++ fired) legal (reached_sane (Some told) after reached_after).marks.never_fall (some_commit (Some told) after reached_after)) k d inside in
        let ends = (All-append_right IsEarlyPane b.panes fired (reached_kept_with laws.strategies laws.settings laws.windows (Some told) after reached_after).early.panes k d inside).1 in
        let group = All-append_right (λ (x : Pane). is_group b.plan x.node ≡ true) b.panes fired legal.panes_at k d inside in
        let there = group_there p.node group in
        record {
          mark = λ above. (all_marks p.node above).1;
          time = time;
          past = λ above. (well above).past;
          ends = omega (arith, ints, ends);
          out = λ above.
              let first = some in
              let place : mark_after after.commits p.node (p.commit - 1) ≡ (marks_at before p.node).mark_in =
              ap (λ (n : ℕ). mark_after after.commits p.node (n - 1)) now ∙ mark_front b.commits (as_commit marks ∷ []) p.node (length b.commits - 1) (omega (arith, first)) in
              let low = (below_hold b.plan (least_hold (all_holds b)) before p.node there.0 marked there.1).0 in
              let below = subst (λ (m : ℤ). m <ℤ p.element.span.end) place (early above) in
              omega (arith, ints, low, below);
        }
      where
        group_there : (n : ℕ) → is_group b.plan n ≡ true → (node : Node) × (slice_get b.plan.nodes n ≡ Some node)
        group_there n group = by (slice_get b.plan.nodes n) refl group
          where
            by : (found : Option Node) → slice_get b.plan.nodes n ≡ found → unwrap_or (option_map (λ node. is_group_kind node.kind) found) false ≡ true → (node : Node) × (slice_get b.plan.nodes n ≡ Some node)
            by None at is = absurd (cc)
            by (Some node) at is = (node, at)

    held_after : All (IsHeldSo to b.plan (b.panes ++ fired)) (held after)
    held_after =
        let both = held b ++ fired_held b fired in
        let left = held after ++ flat_map held_in (batch_of (Some job)) in
        All-append_left (IsHeldSo to b.plan (b.panes ++ fired)) (held after) (flat_map held_in (batch_of (Some job)))
        (held_of_bag to b.plan (b.panes ++ fired) both left (bag_sym left both (commit_bag (Some told) b slot job receipt cells fired marks formed once made))
        (All-append (IsHeldSo to b.plan (b.panes ++ fired)) (held b) (fired_held b fired)
        (λ k d inside. let is = once.panes k d inside in held_later to b.plan b.panes fired (get_or (held b) k d) is.0 is.1 (was.held k d inside))
        (held_now to b.plan before b.panes fired (length b.panes) refl fired_facts)))

    pub committed_so_far : IsSoFarOf after.plan after.commits after.cells after.dropped after.panes after.written (held after)
    committed_so_far = record {
      none_dropped = none_dropped_after;
      taken = taken_after;
      held = held_after;
      some_written = All-append (λ a. (a.node == to || is_above b.plan a.node to) ≡ true → IsNonEmpty a.element.span) b.written (written_by b receipt) was.some_written
          (All-filter (λ arrival. is_write b.plan arrival.node) (λ a. (a.node == to || is_above b.plan a.node to) ≡ true → IsNonEmpty a.element.span) receipt.arrivals
          (λ k d inside met. (come_above k d inside met).some));
    }

  -- ---- each step

  opening_so_far : (b first : SeenBook) → IsOpening b.plan b.files b.options first → IsSoFar first
  opening_so_far b first opening =
      subst IsSoFar (sym opening.is)
      (λ sound. record {
        none_dropped = All-nil (λ (d : Dropped). is_above b.plan d.node to ≡ false);
        taken = All-nil (IsTakenAbove to b.plan (as_commit opening.marks ∷ []));
        held = subst (All (IsHeldSo to b.plan [])) (sym (none_held b opening.marks)) (All-nil (IsHeldSo to b.plan []));
        some_written = All-nil (λ (a : Arrival). (a.node == to || is_above b.plan a.node to) ≡ true → IsNonEmpty a.element.span);
      })

  keeps_so_far : Keeps (Some told) (Reached (Some told)) IsSoFar
  keeps_so_far = record {
    opens = opening_so_far;
    enrolls = λ b known h within.
        so_far_onward b (enrolled b) (record { plan = refl; commits = refl; cells = refl; dropped = refl; panes = refl; written = refl }) (enroll_moves b) h;
    takes = λ b slot next known h running free is within.
        so_far_onward b (with_slot next.rest slot (Some next.job)) (take_stays b slot next is) (take_moves b slot free (reached_sane (Some told) b known).held next is) h;
    claims = λ b slot p piece attempted known h works may.
        so_far_onward b (with_slot b slot (Some (live.Span piece (Some p)))) (record { plan = refl; commits = refl; cells = refl; dropped = refl; panes = refl; written = refl })
        (set_moves b slot (Some (live.Span piece attempted)) (Some (live.Span piece (Some p))) works.works refl refl) h;
    splits = λ b slot at piece attempted known h works inside behind within.
        so_far_onward b (split_off b slot piece attempted at) (record { plan = refl; commits = refl; cells = refl; dropped = refl; panes = refl; written = refl })
        (set_moves b slot (Some (live.Span piece attempted)) (Some (live.Span (cut_to piece (record { from = piece.range.from; to = at })) attempted)) works refl refl) h;
    commits = λ b slot job receipt cells fired marks known h made sound. committed_so_far b slot job receipt cells fired marks known sound (h sound) made;
    fails = λ b slot at job cause known h works fresh unbroken. so_far_onward b (tried_again b slot job at cause) (fail_stays b slot at job cause) (fail_moves b slot at job cause works) h;
    breaks = λ b slot at piece attempted known h works fresh is.
        so_far_onward b (broken b slot piece attempted (note_of (live.Span piece attempted) at Call)) (record { plan = refl; commits = refl; cells = refl; dropped = refl; panes = refl; written = refl })
        (set_moves b slot (Some (live.Span piece attempted)) None works refl refl) h;
    stops = λ b known h. h;
  }

  pub reached_so_far : (b : SeenBook) → Reached (Some told) b → IsSoFar b
  reached_so_far b reached =
      (always_reached (Some told) (Both (Reached (Some told)) IsSoFar) (kept_with (Some told) (Reached (Some told)) IsSoFar (reached_always (Some told)) keeps_so_far) b reached).1
