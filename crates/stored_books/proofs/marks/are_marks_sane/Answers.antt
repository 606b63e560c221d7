use Rattle.std.proofs.Common.{◌≡◌, ℕ, List, length, sym, ap, subst, ◌∙◌}
use Rattle.std.specs.List.{All}
use Rattle.beam_values.specs.Marks.{AreMarks}
use Rattle.beam_values.specs.declared.marks.CommitMarks.{CommitMarks}
use Rattle.piece_checks.specs.MarksOfCommits.{NeverFall}
use Rattle.stored_books.specs.Held.{last_marks_of, least_hold_of}
use Rattle.stored_books.proofs.Tests.{alike, decided_by, fails_with}
use Rattle.stored_books.proofs.marks.are_marks_sane.Goals as goal

abbrev AreSized : ℕ → List CommitMarks → Type 0
AreSized nodes commits = All (λ commit. length commit.marks ≡ nodes) commits

pub returns-then-not-never_fall : goal.returns-then-not-never_fall
returns-then-not-never_fall c =
    fails_with c.never_fall.ensures c.if-not-never_fall.true (λ sane. subst NeverFall (sym c.as_slice-commits.ensures) sane.never_fall)

pub returns : goal.returns
returns c =
    let commits = c.as_slice-commits.ensures in
    let plan = c.args.plan.now in
    let stored = c.args.stored.now in
    let last = c.last_marks.ensures ∙ ap last_marks_of commits in
    decided_by c.are_last_marks.result c.are_last_marks.ensures
    (λ marks. record {
      sized = alike AreSized c.len.ensures commits (c.are_marks_sized.ensures.0 c.if-not-are_marks_sized.false);
      never_fall = subst NeverFall commits (c.never_fall.ensures.0 c.if-not-never_fall.false);
      last = subst (AreMarks plan (least_hold_of plan stored)) last marks;
    })
    (λ sane. subst (AreMarks plan (least_hold_of plan stored)) (sym last) sane.last)
