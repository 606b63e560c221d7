use Rattle.std.proofs.Common.{◌≡◌, ◌&&◌, int_eq, sym, ap, ◌∙◌}
use Rattle.std.specs.Bool.{Decides}
use Rattle.std.proofs.lemmas.Bool.Decides.{Decides-and, Decides-int_eq, Decides-like}
use Rattle.std.proofs.lemmas.Result.{IfOk-weaker}
use Rattle.std.proofs.lemmas.Slice.Eq.{slice_eq-Decides}
use Rattle.beam_values.specs.declared.marks.StageMarks.{StageMarks}
use Rattle.book_core.proofs.commits.shared_marks.Goals as goal

marks_decide : (a b : StageMarks) → Decides (int_eq a.mark_in b.mark_in && int_eq a.mark_out b.mark_out) (a ≡ b)
marks_decide a b =
    Decides-like (int_eq a.mark_in b.mark_in && int_eq a.mark_out b.mark_out)
    (λ both. ap (λ m. record { mark_in = m; mark_out = a.mark_out }) both.0 ∙ ap (λ m. record { mark_in = b.mark_in; mark_out = m }) both.1)
    (λ same. (ap (λ (m : StageMarks). m.mark_in) same, ap (λ (m : StageMarks). m.mark_out) same))
    (Decides-and (int_eq a.mark_in b.mark_in) (int_eq a.mark_out b.mark_out) (Decides-int_eq a.mark_in b.mark_in) (Decides-int_eq a.mark_out b.mark_out))

-- marks that compare equal are the same
pub returns-in-Some : goal.returns-in-Some
returns-in-Some c =
    let same = (slice_eq-Decides marks_decide c.as_slice.result.now _ c.eq.result c.eq.ensures).0 c.if-eq.true in
    IfOk-weaker c.share.result _ _ (λ marks is. is ∙ sym c.get.ensures ∙ sym c.as_slice.ensures ∙ same) c.share.ensures
