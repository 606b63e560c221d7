-- What came to the Groups stays legal and has its gaps, whatever the files are: from the opening on.
use Rattle.std.proofs.Common.{◌≡◌, ℕ, List, [], ◌∷◌, ◌++◌, length, map, refl, sym, ap, subst, ◌∙◌, length-append, append_assoc, arith}
use Rattle.std.specs.Prelude.{Option, Some}
use Rattle.std.specs.List.{filter}
use Rattle.std.proofs.lemmas.List.Elements.{All-nil}
use Rattle.beam_values.specs.Bags.{IsSameBag}
use Rattle.beam_values.specs.Checked.{IsChecked}
use Rattle.beam_values.specs.Nodes.{strategy_of}
use Rattle.beam_values.specs.declared.cell.Cell.{Cell}
use Rattle.beam_values.specs.declared.cell.Dropped.{Dropped}
use Rattle.beam_values.specs.declared.cell.Pane.{Pane}
use Rattle.beam_values.specs.declared.file_text.FileText.{FileText}
use Rattle.beam_values.specs.declared.marks.CommitMarks.{CommitMarks}
use Rattle.beam_values.specs.declared.marks.StageMarks.{StageMarks}
use Rattle.beam_values.specs.declared.plan.Plan.{Plan}
use Rattle.beam_model.specs.Panes.{Taken, taken_by, ArePanesLegal}
use Rattle.bundle_commit.specs.declared.job.Receipt.{Receipt}
use Rattle.group_cells.specs.Commits.{HasLength, HaveGaps, NeverFalls, as_commit, is_taken, taken_arrival}
use Rattle.group_cells.proofs.AllKeys.{keep_legal}
use Rattle.group_cells.proofs.FirstCommit.{nothing_legal}
use Rattle.group_cells.proofs.KeptGaps.{gaps_stay}
use Rattle.group_cells.proofs.KeyCells.{all_entries}
use Rattle.book_core.specs.Book.{SeenBook, last_marks}
use Rattle.book_core.specs.Changes.{with_slot, committed, tried_again}
use Rattle.book_core.specs.Facts.{AreCellsKept}
use Rattle.book_core.specs.Runs.{IsOpening}
use Rattle.book_core.specs.Sane.{IsSane}
use Rattle.book_core.specs.declared.live.Live.{Live}
use Rattle.book_core.proofs.Cases.{Keeps, Commits, LegalIn}
use Rattle.book_core.proofs.CellsKept.{given_gapped}
use Rattle.book_core.proofs.Gaps.{AreStrategies}
use Rattle.book_core.proofs.RisingMarks.{last_is, marked_of}
use Rattle.book_core.proofs.SaneResults.{StaysCelled, fail_stays, take_stays}

celled_onward : (old new : SeenBook) → StaysCelled old new → AreCellsKept old → AreCellsKept new
celled_onward old new s h = record {
  legal =
      subst (λ (p : Plan). ArePanesLegal p new.commits new.cells new.dropped new.panes) (sym s.plan)
      (subst (λ (l : List CommitMarks). ArePanesLegal old.plan l new.cells new.dropped new.panes) (sym s.commits)
      (subst (λ (l : List Cell). ArePanesLegal old.plan old.commits l new.dropped new.panes) (sym s.cells)
      (subst (λ (l : List Dropped). ArePanesLegal old.plan old.commits old.cells l new.panes) (sym s.dropped)
      (subst (λ (l : List Pane). ArePanesLegal old.plan old.commits old.cells old.dropped l) (sym s.panes) h.legal))));
  gaps = subst (λ (p : Plan). HaveGaps p (taken_by new.cells)) (sym s.plan) (subst (λ (l : List Cell). HaveGaps old.plan (taken_by l)) (sym s.cells) h.gaps);
}

-- what of a checked plan each Group, source and WindowInto has
abbrev pub StrategiesOfPlans : Type 0
StrategiesOfPlans = (plan : Plan) → IsChecked plan → AreStrategies plan

-- ---- a commit

-- rounds lose no entry
pub commit_entries : (told : Option (List FileText)) (b : SeenBook) (slot : ℕ) (job : Live) (receipt : Receipt) (cells : List Cell) (fired : List Pane) (marks : List StageMarks)
    → LegalIn b → Commits told b slot job receipt cells fired marks
    → IsSameBag (taken_by cells) (taken_by b.cells ++ map (taken_arrival (length b.commits)) (filter (is_taken b.plan (last_marks b)) receipt.arrivals))
commit_entries told b slot job receipt cells fired marks legal made =
    all_entries b.plan (length b.commits) (last_marks b) marks receipt.arrivals b.cells cells fired legal.keyed legal.cells_at made.rounds

module _ (strategies : StrategiesOfPlans) (told : Option (List FileText)) (b : SeenBook) (slot : ℕ) (job : Live) (receipt : Receipt) (cells : List Cell) (fired : List Pane) (marks : List StageMarks)
    (sane : IsSane b) (h : AreCellsKept b) (made : Commits told b slot job receipt cells fired marks) where
  abbrev after : SeenBook
  after = committed b slot job receipt cells fired marks

  -- and keep what is legal
  pub commit_legal : LegalIn after
  commit_legal =
      let m = marked_of b sane.marks in
      let commits_are : b.commits ≡ m.earlier ++ as_commit (last_marks b) ∷ [] = m.commits ∙ ap (λ (l : List StageMarks). m.earlier ++ as_commit l ∷ []) (sym (last_is b m)) in
      let longer : b.commits ++ as_commit marks ∷ [] ≡ m.earlier ++ as_commit (last_marks b) ∷ as_commit marks ∷ [] =
      ap (λ (l : List CommitMarks). l ++ as_commit marks ∷ []) commits_are ∙ append_assoc m.earlier (as_commit (last_marks b) ∷ []) (as_commit marks ∷ []) in
      subst (λ (l : List CommitMarks). ArePanesLegal b.plan l cells after.dropped (b.panes ++ fired)) (sym longer)
      (keep_legal b.plan (length b.commits) (last_marks b) marks receipt.arrivals
      (record { plan = b.plan; cells = b.cells; dropped = b.dropped }) (record { plan = b.plan; cells = cells; dropped = after.dropped }) fired
      sane.formed.checked sane.marks.last.sized made.marked.sized
      (given_gapped told b slot job receipt (strategies b.plan sane.formed.checked) sane.held sane.panes.at_groups made.works made.given) refl made.rounds
      m.earlier b.panes (omega (arith, ap length commits_are, length-append m.earlier (as_commit (last_marks b) ∷ [])))
      (subst NeverFalls commits_are sane.marks.never_fall) h.gaps
      (subst (λ (l : List CommitMarks). ArePanesLegal b.plan l b.cells b.dropped b.panes) commits_are h.legal))

  commit_celled : AreCellsKept after
  commit_celled = record {
    legal = commit_legal;
    gaps =
        gaps_stay b.plan (length b.commits) (last_marks b) receipt.arrivals b.cells cells (commit_entries told b slot job receipt cells fired marks h.legal made) h.gaps
        (given_gapped told b slot job receipt (strategies b.plan sane.formed.checked) sane.held sane.panes.at_groups made.works made.given);
  }

opening_celled : (b first : SeenBook) → IsOpening b.plan b.files b.options first → AreCellsKept first
opening_celled b first opening = subst AreCellsKept (sym opening.is) (record {
  legal = nothing_legal b.plan (as_commit opening.marks) (opening.marked.sized ∙ ap (λ (x : SeenBook). length x.plan.nodes) opening.is);
  gaps = All-nil (λ (t : Taken). HasLength (strategy_of b.plan t.node) t.element.span);
})

pub keeps_celled : StrategiesOfPlans → (told : Option (List FileText)) → Keeps told IsSane AreCellsKept
keeps_celled strategies told = record {
  opens = opening_celled;
  enrolls = λ b sane h within. record { legal = h.legal; gaps = h.gaps };
  takes = λ b slot next sane h running free is within. celled_onward b (with_slot next.rest slot (Some next.job)) (take_stays b slot next is) h;
  claims = λ b slot p piece attempted sane h works may. record { legal = h.legal; gaps = h.gaps };
  splits = λ b slot at piece attempted sane h works inside behind within. record { legal = h.legal; gaps = h.gaps };
  commits = λ b slot job receipt cells fired marks sane h made. commit_celled strategies told b slot job receipt cells fired marks sane h made;
  fails = λ b slot at job cause sane h works fresh unbroken. celled_onward b (tried_again b slot job at cause) (fail_stays b slot at job cause) h;
  breaks = λ b slot at piece attempted sane h works fresh is. record { legal = h.legal; gaps = h.gaps };
  stops = λ b sane h. record { legal = h.legal; gaps = h.gaps };
}
