use Rattle.std.proofs.Common.{List, take, drop, sym, subst, ap, ◌∙◌}
use Rattle.std.specs.List.{slice_range}
use Rattle.beam_values.specs.Intervals.{Interval}
use Rattle.session_merge.specs.Merging.{AreApart}
use Rattle.session_merge.proofs.Places.{run_apart}
use Rattle.session_merge.proofs.runs.merge_into.Goals as goal

pub hull_of-merged-requires : goal.hull_of-merged-requires
hull_of-merged-requires c =
    let run = c.overlapped-run.result in
    let spans = c.as_slice.result.now in
    let part : List Interval → List Interval = λ l. slice_range l run.start run.end in
    let copied = c.as_slice-2.ensures ∙ c.in_ok-absorbed.ensures ∙ ap part (c.deref.ensures.value ∙ sym c.as_slice.ensures.value) in
    subst AreApart (sym copied)
    (run_apart spans c.args.span (take run.start spans) (part spans) (drop run.end spans) (subst AreApart (sym c.as_slice.ensures.value) c.requires)
    c.overlapped-run.ensures.run)
