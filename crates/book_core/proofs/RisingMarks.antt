-- The last marks of a book are its own, and no mark falls: from the opening on.
use Rattle.std.proofs.Common.{◌≡◌, ℕ, suc, ◌-◌, ◌≤◌, Bool, true, false, List, [], ◌∷◌, ◌++◌, length, refl, sym, ap, subst, ◌∙◌, length-append, arith}
use Rattle.std.specs.Prelude.{Option, Some, None, slice_get, unwrap_or}
use Rattle.std.specs.List.{All}
use Rattle.std.specs.Option.{option_map}
use Rattle.std.proofs.lemmas.List.Elements.{All-nil, All-cons, All-append}
use Rattle.beam_values.specs.declared.cell.Cell.{Cell}
use Rattle.beam_values.specs.declared.cell.Pane.{Pane}
use Rattle.beam_values.specs.declared.fault.Cause.{Cause}
use Rattle.beam_values.specs.declared.fault.Cause.TheVariants.{Call, Read}
use Rattle.beam_values.specs.declared.fault.FaultNote.{FaultNote}
use Rattle.beam_values.specs.declared.file_text.FileText.{FileText}
use Rattle.beam_values.specs.declared.marks.CommitMarks.{CommitMarks}
use Rattle.beam_values.specs.declared.marks.StageMarks.{StageMarks}
use Rattle.beam_values.specs.declared.outcome.StopCause.{StopCause}
use Rattle.beam_values.specs.declared.outcome.StopCause.TheVariants as stop
use Rattle.beam_values.specs.declared.plan.Plan.{Plan}
use Rattle.beam_model.specs.Holds.{least_hold}
use Rattle.beam_values.specs.Marks.{AreMarks}
use Rattle.bundle_commit.specs.declared.job.Receipt.{Receipt}
use Rattle.group_cells.specs.Commits.{NeverFalls, NoneFalls, as_commit}
use Rattle.group_cells.proofs.FirstCommit.{never_longer}
use Rattle.book_core.specs.Book.{SeenBook, last_marks, AreMarksOfBook}
use Rattle.book_core.specs.Changes.{with_slot, split_off, committed, given_back, broken, counted, stopped_where, ends_run, note_of, or_stopped}
use Rattle.book_core.specs.Facts.{AreMarksKept, AreHeldOnce, IsWellFormed}
use Rattle.book_core.specs.Jobs.{Next, next_job}
use Rattle.book_core.specs.Runs.{IsOpening}
use Rattle.book_core.specs.Steps.{IsFree}
use Rattle.book_core.specs.declared.live.Live.{Live}
use Rattle.book_core.specs.declared.live.Live.TheVariants as live
use Rattle.book_core.proofs.Cases.{Keeps, Commits, Both, enrolled}
use Rattle.stateful_core.specs.Cells.{key_holds}
use Rattle.book_core.proofs.KeysKept.{KeysSane}
use Rattle.book_core.proofs.HoldBags.{least_as, least_of_bag, marks_of_least, enroll_holds, take_holds, claim_holds, back_holds, split_least, broken_least}
use Rattle.book_core.specs.Indexes.{all_holds, own_holds}
use Rattle.book_core.proofs.MarksKept.{none_falls}
use Rattle.stateful_core.proofs.LeftAs.{give_back_leaves, take_leaves}
use Rattle.book_core.proofs.Taking.{take_cases}

-- the commits so far, the last of which left these marks
pub record IsMarked (b : SeenBook) : Type 0 where
  pub earlier : List CommitMarks
  pub before : List StageMarks
  pub commits : b.commits ≡ earlier ++ as_commit before ∷ []
  pub sized : All (λ commit. length commit.marks ≡ length b.plan.nodes) b.commits
  pub marked : AreMarksOfBook b before
  pub never_fall : NeverFalls b.commits

abbrev AreSized : Plan → List CommitMarks → Type 0
AreSized plan commits = All (λ commit. length commit.marks ≡ length plan.nodes) commits

marks_there : Option CommitMarks → List StageMarks
marks_there found = unwrap_or (option_map (λ (commit : CommitMarks). commit.marks) found) []

get_at_end : {X : Type 0} (xs : List X) (y : X) → slice_get (xs ++ y ∷ []) (length xs) ≡ Some y
get_at_end [] y = refl
get_at_end (x ∷ xs) y = get_at_end xs y

pub last_is : (b : SeenBook) (h : IsMarked b) → last_marks b ≡ h.before
unfolding marks_there
last_is b h =
    let at : length b.commits - 1 ≡ length h.earlier = omega (arith, ap length h.commits, length-append h.earlier (as_commit h.before ∷ [])) in
    let read : slice_get b.commits (length b.commits - 1) ≡ Some (as_commit h.before) =
    ap (λ (n : ℕ). slice_get b.commits n) at ∙ ap (λ (l : List CommitMarks). slice_get l (length h.earlier)) h.commits ∙ get_at_end h.earlier (as_commit h.before) in
    ap marks_there read

-- what leaves the plan, the commits and each least hold
record StaysMarked (old new : SeenBook) : Type 0 where
  plan : new.plan ≡ old.plan
  commits : new.commits ≡ old.commits
  least : (n : ℕ) → least_hold (all_holds new) n ≡ least_hold (all_holds old) n

marked_onward : (old new : SeenBook) → StaysMarked old new → IsMarked old → IsMarked new
marked_onward old new stays h = record {
  earlier = h.earlier;
  before = h.before;
  commits = stays.commits ∙ h.commits;
  sized = subst (λ (p : Plan). AreSized p new.commits) (sym stays.plan) (subst (AreSized old.plan) (sym stays.commits) h.sized);
  marked = subst (λ (plan : Plan). AreMarks plan (least_hold (all_holds new)) h.before) (sym stays.plan)
      (marks_of_least old.plan (all_holds old) (all_holds new) h.before (λ n. sym (stays.least n)) h.marked);
  never_fall = subst NeverFalls (sym stays.commits) h.never_fall;
}

take_marked : (b : SeenBook) (slot : ℕ) (next : Next) → AreHeldOnce b → IsFree b slot → next_job b ≡ Some next → IsMarked b → IsMarked (with_slot next.rest slot (Some next.job))
take_marked b slot next once free is h =
    let same = take_cases b (λ (n : Next). (n.rest.plan ≡ b.plan) × (n.rest.commits ≡ b.commits) × (key_holds n.rest.keys ≡ key_holds b.keys))
    (λ batch among. (refl, refl, refl)) (λ batch oldest. (refl, refl, refl)) (λ place cell found. (refl, refl, (take_leaves b.options.bundle place.at b.keys).holds))
    (λ piece later e. (refl, refl, refl)) next is in
    marked_onward b (with_slot next.rest slot (Some next.job)) (record {
      plan = same.0;
      commits = same.1;
      least = least_as b (with_slot next.rest slot (Some next.job)) same.2 (least_of_bag (own_holds (with_slot next.rest slot (Some next.job))) (own_holds b) (take_holds b slot next once free is));
    }) h

record SameBack (b new : SeenBook) : Type 0 where
  plan : new.plan ≡ b.plan
  commits : new.commits ≡ b.commits
  keys : key_holds new.keys ≡ key_holds b.keys

back_same : (b : SeenBook) (slot : ℕ) (job : Live) (at : ℕ) (cause : Cause) → SameBack b (given_back (with_slot b slot None) job at cause)
back_same b slot (live.Span piece attempted) at cause = record { plan = refl; commits = refl; keys = refl }
back_same b slot (live.Batch batch) at cause = record { plan = refl; commits = refl; keys = refl }
back_same b slot (live.Key turn) at cause = record { plan = refl; commits = refl; keys = (give_back_leaves turn.cell b.keys).holds }

counted_marked : (b : SeenBook) (cause : Cause) → IsMarked b → IsMarked (counted b cause)
counted_marked b Call h = record { earlier = h.earlier; before = h.before; commits = h.commits; sized = h.sized; marked = h.marked; never_fall = h.never_fall }
counted_marked b Read h = record { earlier = h.earlier; before = h.before; commits = h.commits; sized = h.sized; marked = h.marked; never_fall = h.never_fall }

stop_marked : (b : SeenBook) (stopped : Option StopCause) → IsMarked b → IsMarked (record b { stopped = stopped })
stop_marked b stopped h = record { earlier = h.earlier; before = h.before; commits = h.commits; sized = h.sized; marked = h.marked; never_fall = h.never_fall }

stop_where_marked : (spent : Bool) (b : SeenBook) (note : FaultNote) → IsMarked b → IsMarked (stopped_where spent b note)
stop_where_marked true b note h = stop_marked b (or_stopped b.stopped (stop.Spent note)) h
stop_where_marked false b note h = h

commit_marked : (told : Option (List FileText)) (b : SeenBook) (slot : ℕ) (job : Live) (receipt : Receipt) (cells : List Cell) (fired : List Pane) (marks : List StageMarks)
    → IsWellFormed b → AreHeldOnce b → KeysSane b → IsMarked b → Commits told b slot job receipt cells fired marks → IsMarked (committed b slot job receipt cells fired marks)
commit_marked told b slot job receipt cells fired marks formed once keys h made =
    let was : AreMarksOfBook b (last_marks b) = subst (AreMarksOfBook b) (sym (last_is b h)) h.marked in
    let rise = none_falls told b slot job receipt cells fired marks formed once keys made was in
    record {
      earlier = b.commits;
      before = marks;
      commits = refl;
      sized =
          All-append (λ (commit : CommitMarks). length commit.marks ≡ length b.plan.nodes) b.commits (as_commit marks ∷ []) h.sized
          (All-cons (λ (commit : CommitMarks). length commit.marks ≡ length b.plan.nodes) (as_commit marks) [] made.marked.sized (All-nil (λ (commit : CommitMarks). length commit.marks ≡ length b.plan.nodes)));
      marked = made.marked;
      never_fall = subst (λ (l : List CommitMarks). NeverFalls (l ++ as_commit marks ∷ [])) (sym h.commits)
          (never_longer h.earlier h.before marks (subst NeverFalls h.commits h.never_fall) (subst (λ (l : List StageMarks). NoneFalls l marks) (last_is b h) rise));
    }

opening_marked : (b first : SeenBook) → IsOpening b.plan b.files b.options first → IsMarked first
opening_marked b first opening = subst IsMarked (sym opening.is) (record {
  earlier = [];
  before = opening.marks;
  commits = refl;
  sized =
      All-cons (λ (commit : CommitMarks). length commit.marks ≡ length b.plan.nodes) (as_commit opening.marks) []
      (opening.marked.sized ∙ ap (λ (x : SeenBook). length x.plan.nodes) opening.is) (All-nil (λ (commit : CommitMarks). length commit.marks ≡ length b.plan.nodes));
  marked = subst (λ (x : SeenBook). AreMarksOfBook x opening.marks) opening.is opening.marked;
  never_fall = record { each = λ c old new first second. absurd (one_only c (as_commit opening.marks) new second) };
})
  where
    one_only : (c : ℕ) (only new : CommitMarks) → slice_get (only ∷ []) (suc c) ≡ Some new → ⊥
    one_only c only new e = cc

pub keeps_marked : (told : Option (List FileText)) → Keeps told (Both (Both IsWellFormed AreHeldOnce) KeysSane) IsMarked
keeps_marked told = record {
  opens = opening_marked;
  enrolls = λ b known h within. marked_onward b (enrolled b) (record { plan = refl; commits = refl; least = least_as b (enrolled b) refl (least_of_bag (own_holds (enrolled b)) (own_holds b) (enroll_holds b)) }) h;
  takes = λ b slot next known h running free is within. take_marked b slot next known.0.1 free is h;
  claims = λ b slot p piece attempted known h works may.
      let new = with_slot b slot (Some (live.Span piece (Some p))) in
      marked_onward b new (record { plan = refl; commits = refl; least = least_as b new refl (least_of_bag (own_holds new) (own_holds b) (claim_holds b slot p piece attempted works.works)) }) h;
  splits = λ b slot at piece attempted known h works inside behind within.
      marked_onward b (split_off b slot piece attempted at) (record { plan = refl; commits = refl; least = least_as b (split_off b slot piece attempted at) refl (split_least b slot at piece attempted works) }) h;
  commits = λ b slot job receipt cells fired marks known h made. commit_marked told b slot job receipt cells fired marks known.0.0 known.0.1 known.1 h made;
  fails = λ b slot at job cause known h works fresh unbroken.
      let back = given_back (with_slot b slot None) job at cause in
      stop_where_marked (ends_run b job cause) (counted back cause) (note_of job at cause)
      (counted_marked back cause
      (marked_onward b back (record {
        plan = (back_same b slot job at cause).plan;
        commits = (back_same b slot job at cause).commits;
        least = least_as b back (back_same b slot job at cause).keys (least_of_bag (own_holds back) (own_holds b) (back_holds b slot job at cause works));
      }) h));
  breaks = λ b slot at piece attempted known h works fresh is.
      let note = note_of (live.Span piece attempted) at Call in
      let new = broken b slot piece attempted note in
      marked_onward b new (record { plan = refl; commits = refl; least = least_as b new refl (broken_least b slot piece attempted note works) }) h;
  stops = λ b known h. stop_marked b (or_stopped b.stopped stop.NoMemory) h;
}

-- ---- as it is said

parted : {X : Type 0} (xs : List X) → 1 ≤ length xs → (front : List X) × (last : X) × (xs ≡ front ++ last ∷ [])
parted [] some = absurd (omega (arith, some))
parted (x ∷ []) some = ([], x, refl)
parted (x ∷ y ∷ ys) some = let rest = parted (y ∷ ys) (omega arith) in (x ∷ rest.0, rest.1, ap (λ l. x ∷ l) rest.2)

pub marked_of : (b : SeenBook) → AreMarksKept b → IsMarked b
unfolding marks_there
marked_of b h =
    let parts = parted b.commits h.some in
    let at : length b.commits - 1 ≡ length parts.0 = omega (arith, ap length parts.2, length-append parts.0 (parts.1 ∷ [])) in
    let read : slice_get b.commits (length b.commits - 1) ≡ Some parts.1 =
    ap (λ (n : ℕ). slice_get b.commits n) at ∙ ap (λ (l : List CommitMarks). slice_get l (length parts.0)) parts.2 ∙ get_at_end parts.0 parts.1 in
    record {
      earlier = parts.0;
      before = parts.1.marks;
      commits = parts.2;
      sized = h.sized;
      marked = subst (AreMarksOfBook b) (ap marks_there read) h.last;
      never_fall = h.never_fall;
    }

pub kept_marks : (b : SeenBook) → IsMarked b → AreMarksKept b
kept_marks b h = record {
  some = omega (arith, ap length h.commits, length-append h.earlier (as_commit h.before ∷ []));
  sized = h.sized;
  last = subst (AreMarksOfBook b) (sym (last_is b h)) h.marked;
  never_fall = h.never_fall;
}
