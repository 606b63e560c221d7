use Rattle.std.proofs.Common.{◌≡◌, refl, sym, ap, ◌∙◌, arith}
use Rattle.std.proofs.lemmas.Bool.{false≢true}
use Rattle.beam_values.specs.declared.marks.CommitMarks.{CommitMarks}
use Rattle.piece_checks.proofs.MarkTests.{falls_between, never_all, never_more, none_alike}
use Rattle.piece_checks.proofs.marks.never_fall.Goals as goal

pub returns-then-not-none_falls : goal.returns-then-not-none_falls
returns-then-not-none_falls c =
    let before = c.index-commits-next.result in
    let after = c.index-commits-next-in-loop-next.result in
    let old : c.as_slice.result.now ≡ before.marks =
    c.as_slice.ensures ∙ c.get-before.ensures ∙ ap (λ (commit : CommitMarks). commit.marks) (sym c.index-commits-next.is) in
    let new : c.as_slice-in-loop-next.result.now ≡ after.marks =
    c.as_slice-in-loop-next.ensures ∙ c.get-after.ensures ∙ ap (λ (commit : CommitMarks). commit.marks) (sym c.index-commits-next-in-loop-next.is) in (
      λ fails. absurd (false≢true fails),
      λ never.
          sym c.if-not-none_falls.true
          ∙ c.none_falls.ensures.1 (none_alike (sym old) (sym new)
          (falls_between c.args.commits.now c.loop-next.next before after (omega arith) c.loop-next-test.true c.index-commits-next.is
          c.index-commits-next-in-loop-next.is never)),
    )

pub loop-next-preserved : goal.loop-next-preserved
loop-next-preserved c =
    let before = c.index-commits-next.result in
    let after = c.index-commits-next-in-loop-next.result in
    let old : c.as_slice.result.now ≡ before.marks =
    c.as_slice.ensures ∙ c.get-before.ensures ∙ ap (λ (commit : CommitMarks). commit.marks) (sym c.index-commits-next.is) in
    let new : c.as_slice-in-loop-next.result.now ≡ after.marks =
    c.as_slice-in-loop-next.ensures ∙ c.get-after.ensures ∙ ap (λ (commit : CommitMarks). commit.marks) (sym c.index-commits-next-in-loop-next.is) in
    never_more c.args.commits.now c.loop-next.next before after (omega arith) c.loop-next-test.true c.index-commits-next.is c.index-commits-next-in-loop-next.is
    (none_alike old new (c.none_falls.ensures.0 c.if-not-none_falls.false)) c.loop-next.invariant

pub returns : goal.returns
returns c = (λ yes. never_all c.args.commits.now c.loop-next.next (omega arith) c.loop-next.invariant, λ never. refl)
