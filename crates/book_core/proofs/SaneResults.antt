-- What commits leave stays sane: the cells, panes and dropped elements at their Groups, and what was written at Writes.
use Rattle.std.proofs.Common.{◌≡◌, ℕ, ◌+◌, ◌-◌, ◌<◌, ◌≤◌, Bool, true, false, List, [], ◌∷◌, ◌++◌, length, map, refl, sym, ap, subst, ◌∙◌, length-append, arith}
use Rattle.std.specs.Prelude.{Option, Some, None, not, slice_get, unwrap_or}
use Rattle.std.specs.List.{All, filter}
use Rattle.std.specs.List.Sorted.{IsSorted}
use Rattle.std.specs.Option.{option_map}
use Rattle.std.proofs.lemmas.Bool.{and_parts}
use Rattle.std.proofs.lemmas.List.Elements.{All-nil, All-append, All-map, All-weaker, filter_passes}
use Rattle.beam_values.specs.Cells.{pane_cmp}
use Rattle.beam_values.specs.Nodes.{is_group, is_write}
use Rattle.beam_values.specs.declared.arrival.Arrival.{Arrival}
use Rattle.beam_values.specs.declared.cell.Cell.{Cell}
use Rattle.beam_values.specs.declared.cell.Dropped.{Dropped}
use Rattle.beam_values.specs.declared.cell.Pane.{Pane}
use Rattle.beam_values.specs.declared.fault.Cause.{Cause}
use Rattle.beam_values.specs.declared.fault.Cause.TheVariants.{Call, Read}
use Rattle.beam_values.specs.declared.fault.FaultNote.{FaultNote}
use Rattle.beam_values.specs.declared.file_text.FileText.{FileText}
use Rattle.beam_values.specs.declared.marks.CommitMarks.{CommitMarks}
use Rattle.beam_values.specs.declared.marks.StageMarks.{StageMarks}
use Rattle.beam_values.specs.declared.piece.Piece.{Piece}
use Rattle.beam_values.specs.declared.plan.Plan.{Plan}
use Rattle.bundle_commit.specs.declared.job.Receipt.{Receipt}
use Rattle.group_cells.specs.Commits.{as_commit, dropped_arrival, is_at_group, is_dropped, arrives_in_time, NoneFalls}
use Rattle.group_cells.specs.Sane.{AreSaneCells}
use Rattle.group_cells.proofs.CountedPanes.{panes_counted}
use Rattle.group_cells.proofs.KeptSane.{none_sane, sane_kept}
use Rattle.group_cells.proofs.LongerMarks.{panes_ordered}
use Rattle.book_core.specs.Book.{SeenBook, last_marks}
use Rattle.book_core.specs.Changes.{with_slot, committed, tried_again, broken, given_back, counted, stopped_where, ends_run, note_of, written_by}
use Rattle.book_core.specs.Facts.{AreAtWrites, AreHeldOnce, IsWellFormed}
use Rattle.book_core.specs.Jobs.{Next, next_job}
use Rattle.book_core.specs.Sane.{AreCellsSane, AreDroppedAtGroups, ArePanesSane}
use Rattle.book_core.specs.declared.live.Live.{Live}
use Rattle.book_core.specs.declared.live.Live.TheVariants as live
use Rattle.book_core.proofs.Cases.{Keeps, Commits, Both}
use Rattle.book_core.proofs.HeldOnce.{get_at_end}
use Rattle.book_core.proofs.KeysKept.{KeysSane}
use Rattle.book_core.proofs.MarksKept.{none_falls}
use Rattle.book_core.proofs.RisingMarks.{IsMarked, last_is}
use Rattle.book_core.proofs.Taking.{take_cases}

-- ---- what other steps leave

-- what a step leaves that is no commit
pub record StaysCelled (old new : SeenBook) : Type 0 where
  pub plan : new.plan ≡ old.plan
  pub commits : new.commits ≡ old.commits
  pub cells : new.cells ≡ old.cells
  pub dropped : new.dropped ≡ old.dropped
  pub panes : new.panes ≡ old.panes
  pub written : new.written ≡ old.written

pub stays_itself : (b : SeenBook) → StaysCelled b b
stays_itself b = record { plan = refl; commits = refl; cells = refl; dropped = refl; panes = refl; written = refl }

pub take_stays : (b : SeenBook) (slot : ℕ) (next : Next) → next_job b ≡ Some next → StaysCelled b (with_slot next.rest slot (Some next.job))
take_stays b slot next is =
    take_cases b (λ (n : Next). StaysCelled b (with_slot n.rest slot (Some n.job)))
    (λ batch among. record { plan = refl; commits = refl; cells = refl; dropped = refl; panes = refl; written = refl })
    (λ batch oldest. record { plan = refl; commits = refl; cells = refl; dropped = refl; panes = refl; written = refl })
    (λ place cell found. record { plan = refl; commits = refl; cells = refl; dropped = refl; panes = refl; written = refl })
    (λ piece later e. record { plan = refl; commits = refl; cells = refl; dropped = refl; panes = refl; written = refl })
    next is

back_stays : (b : SeenBook) (slot : ℕ) (job : Live) (at : ℕ) (cause : Cause) → StaysCelled b (counted (given_back (with_slot b slot None) job at cause) cause)
back_stays b slot (live.Span piece attempted) at Call = record { plan = refl; commits = refl; cells = refl; dropped = refl; panes = refl; written = refl }
back_stays b slot (live.Span piece attempted) at Read = record { plan = refl; commits = refl; cells = refl; dropped = refl; panes = refl; written = refl }
back_stays b slot (live.Batch batch) at Call = record { plan = refl; commits = refl; cells = refl; dropped = refl; panes = refl; written = refl }
back_stays b slot (live.Batch batch) at Read = record { plan = refl; commits = refl; cells = refl; dropped = refl; panes = refl; written = refl }
back_stays b slot (live.Key turn) at Call = record { plan = refl; commits = refl; cells = refl; dropped = refl; panes = refl; written = refl }
back_stays b slot (live.Key turn) at Read = record { plan = refl; commits = refl; cells = refl; dropped = refl; panes = refl; written = refl }

stop_stays : (b x : SeenBook) (spent : Bool) (note : FaultNote) → StaysCelled b x → StaysCelled b (stopped_where spent x note)
stop_stays b x true note s = record { plan = s.plan; commits = s.commits; cells = s.cells; dropped = s.dropped; panes = s.panes; written = s.written }
stop_stays b x false note s = s

pub fail_stays : (b : SeenBook) (slot at : ℕ) (job : Live) (cause : Cause) → StaysCelled b (tried_again b slot job at cause)
fail_stays b slot at job cause =
    stop_stays b (counted (given_back (with_slot b slot None) job at cause) cause) (ends_run b job cause) (note_of job at cause) (back_stays b slot job at cause)

pub broken_stays : (b : SeenBook) (slot : ℕ) (piece : Piece) (attempted : Option ℕ) (note : FaultNote) → StaysCelled b (broken b slot piece attempted note)
broken_stays b slot piece attempted note = record { plan = refl; commits = refl; cells = refl; dropped = refl; panes = refl; written = refl }

-- ---- what commits left, by itself

pub record AreSaneResults (b : SeenBook) : Type 0 where
  pub cells : AreCellsSane b
  pub panes : ArePanesSane b
  pub dropped : AreDroppedAtGroups b
  pub writes : AreAtWrites b

marks_of : List CommitMarks → List StageMarks
marks_of commits = unwrap_or (option_map (λ (commit : CommitMarks). commit.marks) (slice_get commits (length commits - 1))) []

abbrev AllGroups : Plan → List Pane → Type 0
AllGroups plan panes = All (λ pane. is_group plan pane.node ≡ true) panes

abbrev AllDroppedAt : Plan → List Dropped → Type 0
AllDroppedAt plan dropped = All (λ lost. is_group plan lost.node ≡ true) dropped

abbrev AllWrites : Plan → List Arrival → Type 0
AllWrites plan written = All (λ arrival. is_write plan arrival.node ≡ true) written

results_onward : (old new : SeenBook) → StaysCelled old new → AreSaneResults old → AreSaneResults new
unfolding marks_of
results_onward old new s h = record {
  cells = record {
    cells =
        subst (λ (p : Plan). AreSaneCells p (marks_of new.commits) new.cells) (sym s.plan)
        (subst (λ (l : List CommitMarks). AreSaneCells old.plan (marks_of l) new.cells) (sym s.commits)
        (subst (λ (l : List Cell). AreSaneCells old.plan (marks_of old.commits) l) (sym s.cells) h.cells.cells));
    indices =
        subst (λ (l : List Cell). All (λ cell. cell.next_index ≤ length new.panes) l) (sym s.cells)
        (subst (λ (l : List Pane). All (λ cell. cell.next_index ≤ length l) old.cells) (sym s.panes) h.cells.indices);
  };
  panes = record {
    at_groups = subst (λ (p : Plan). AllGroups p new.panes) (sym s.plan) (subst (AllGroups old.plan) (sym s.panes) h.panes.at_groups);
    commits =
        subst (λ (l : List CommitMarks). All (λ pane. pane.commit < length l) new.panes) (sym s.commits)
        (subst (λ (l : List Pane). All (λ pane. pane.commit < length old.commits) l) (sym s.panes) h.panes.commits);
    ordered = subst (IsSorted pane_cmp) (sym s.panes) h.panes.ordered;
  };
  dropped = record { at_groups = subst (λ (p : Plan). AllDroppedAt p new.dropped) (sym s.plan) (subst (AllDroppedAt old.plan) (sym s.dropped) h.dropped.at_groups) };
  writes = record { written = subst (λ (p : Plan). AllWrites p new.written) (sym s.plan) (subst (AllWrites old.plan) (sym s.written) h.writes.written) };
}

-- ---- a commit

pub last_after : (commits : List CommitMarks) (marks : List StageMarks)
    → unwrap_or (option_map (λ (commit : CommitMarks). commit.marks) (slice_get (commits ++ as_commit marks ∷ []) (length (commits ++ as_commit marks ∷ []) - 1))) [] ≡ marks
last_after commits marks =
    let last : length (commits ++ as_commit marks ∷ []) - 1 ≡ length commits = omega (arith, length-append commits (as_commit marks ∷ [])) in
    ap (λ (n : ℕ). unwrap_or (option_map (λ (commit : CommitMarks). commit.marks) (slice_get (commits ++ as_commit marks ∷ []) n)) []) last
    ∙ ap (λ (found : Option CommitMarks). unwrap_or (option_map (λ (commit : CommitMarks). commit.marks) found) []) (get_at_end commits (as_commit marks) [])

dropped_there : (plan : Plan) (before : List StageMarks) (c : ℕ) (arrivals : List Arrival) → AllDroppedAt plan (map (dropped_arrival c) (filter (is_dropped plan before) arrivals))
dropped_there plan before c arrivals =
    All-map (λ (lost : Dropped). is_group plan lost.node ≡ true) (dropped_arrival c) (filter (is_dropped plan before) arrivals)
    (All-weaker (λ arrival. is_dropped plan before arrival ≡ true) (λ arrival. is_group plan arrival.node ≡ true)
    (λ arrival e. (and_parts (is_at_group plan arrival) (not (arrives_in_time plan before arrival)) e).0) (filter (is_dropped plan before) arrivals)
    (filter_passes (is_dropped plan before) arrivals))

commit_results : (told : Option (List FileText)) (b : SeenBook) (slot : ℕ) (job : Live) (receipt : Receipt) (cells : List Cell) (fired : List Pane) (marks : List StageMarks)
    → IsWellFormed b → AreHeldOnce b → KeysSane b → IsMarked b → AreSaneResults b → Commits told b slot job receipt cells fired marks → AreSaneResults (committed b slot job receipt cells fired marks)
commit_results told b slot job receipt cells fired marks formed once keys marked h made =
    let c = length b.commits in
    let later : length (b.commits ++ as_commit marks ∷ []) ≡ c + 1 = length-append b.commits (as_commit marks ∷ []) in
    let rise : NoneFalls (last_marks b) marks = none_falls told b slot job receipt cells fired marks formed once keys made (subst (Rattle.book_core.specs.Book.AreMarksOfBook b) (sym (last_is b marked)) marked.marked) in
    record {
      cells = record {
        cells = subst (λ (l : List StageMarks). AreSaneCells b.plan l cells) (sym (last_after b.commits marks))
            (sane_kept b.plan c (last_marks b) marks receipt.arrivals b.cells cells fired formed.checked rise h.cells.cells made.rounds);
        indices = subst (λ (n : ℕ). All (λ cell. cell.next_index ≤ n) cells) (sym (length-append b.panes fired))
            (panes_counted b.plan c (last_marks b) marks receipt.arrivals b.cells cells fired (length b.panes) h.cells.indices made.rounds);
      };
      panes = record {
        at_groups = All-append (λ (pane : Pane). is_group b.plan pane.node ≡ true) b.panes fired h.panes.at_groups made.rounds.at_groups;
        commits =
            All-append (λ (pane : Pane). pane.commit < length (b.commits ++ as_commit marks ∷ [])) b.panes fired
            (All-weaker (λ (pane : Pane). pane.commit < c) (λ pane. pane.commit < length (b.commits ++ as_commit marks ∷ [])) (λ pane low. omega (arith, low, later)) b.panes h.panes.commits)
            (All-weaker (λ (pane : Pane). pane.commit ≡ c) (λ pane. pane.commit < length (b.commits ++ as_commit marks ∷ [])) (λ pane is. omega (arith, is, later)) fired made.rounds.of_commit);
        ordered = panes_ordered c b.panes fired h.panes.ordered made.rounds.ordered h.panes.commits made.rounds.of_commit;
      };
      dropped = record {
        at_groups = All-append (λ (lost : Dropped). is_group b.plan lost.node ≡ true) b.dropped (map (dropped_arrival c) (filter (is_dropped b.plan (last_marks b)) receipt.arrivals))
            h.dropped.at_groups (dropped_there b.plan (last_marks b) c receipt.arrivals);
      };
      writes = record {
        written = All-append (λ (arrival : Arrival). is_write b.plan arrival.node ≡ true) b.written (written_by b receipt) h.writes.written
            (filter_passes (λ (arrival : Arrival). is_write b.plan arrival.node) receipt.arrivals);
      };
    }

sorted_none : IsSorted pane_cmp []
sorted_none k d from within = absurd (omega (arith, within))

pub keeps_results : (told : Option (List FileText)) → Keeps told (Both (Both (Both IsWellFormed AreHeldOnce) KeysSane) IsMarked) AreSaneResults
keeps_results told = record {
  opens = λ b first opening. subst AreSaneResults (sym opening.is) (record {
    cells = record { cells = none_sane b.plan (opening.marks); indices = All-nil (λ (cell : Cell). cell.next_index ≤ 0) };
    panes = record {
      at_groups = All-nil (λ (pane : Pane). is_group b.plan pane.node ≡ true);
      commits = All-nil (λ (pane : Pane). pane.commit < 1);
      ordered = sorted_none;
    };
    dropped = record { at_groups = All-nil (λ (lost : Dropped). is_group b.plan lost.node ≡ true) };
    writes = record { written = All-nil (λ (arrival : Arrival). is_write b.plan arrival.node ≡ true) };
  });
  enrolls = λ b known h within. results_onward b _ (record { plan = refl; commits = refl; cells = refl; dropped = refl; panes = refl; written = refl }) h;
  takes = λ b slot next known h running free is within. results_onward b (with_slot next.rest slot (Some next.job)) (take_stays b slot next is) h;
  claims = λ b slot p piece attempted known h works may. results_onward b _ (record { plan = refl; commits = refl; cells = refl; dropped = refl; panes = refl; written = refl }) h;
  splits = λ b slot at piece attempted known h works inside behind within.
      results_onward b _ (record { plan = refl; commits = refl; cells = refl; dropped = refl; panes = refl; written = refl }) h;
  commits = λ b slot job receipt cells fired marks known h made. commit_results told b slot job receipt cells fired marks known.0.0.0 known.0.0.1 known.0.1 known.1 h made;
  fails = λ b slot at job cause known h works fresh unbroken. results_onward b (tried_again b slot job at cause) (fail_stays b slot at job cause) h;
  breaks = λ b slot at piece attempted known h works fresh is.
      let note = note_of (live.Span piece attempted) at Call in
      results_onward b (broken b slot piece attempted note) (broken_stays b slot piece attempted note) h;
  stops = λ b known h. results_onward b _ (record { plan = refl; commits = refl; cells = refl; dropped = refl; panes = refl; written = refl }) h;
}
