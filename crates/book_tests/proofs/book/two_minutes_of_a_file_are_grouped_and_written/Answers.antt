use Rattle.std.proofs.Common.{◌≡◌, [], ◌∷◌, sym, subst, ◌∙◌}
use Rattle.beam_model.specs.Chains.{Arrives, chain}
use Rattle.beam_values.specs.Intervals.{Interval}
use Rattle.beam_values.specs.Nodes.{strategy_of}
use Rattle.beam_values.specs.declared.element.Element.{Element}
use Rattle.beam_values.specs.declared.plan.Plan.{Plan}
use Rattle.group_cells.specs.Commits.{HasLength}
use Rattle.book_tests.proofs.book.two_minutes_of_a_file_are_grouped_and_written.Goals as goal

pub work_range-requires-clause-fixed : goal.work_range-requires-clause-fixed
work_range-requires-clause-fixed g c =
    subst (λ (plan : Plan). (span : Interval) → HasLength (strategy_of plan 2) span) (sym c.in_ok-slot.ensures.plan) c.in_ok-book.ensures.fixed

pub pass_on-requires-clause-onward : goal.pass_on-requires-clause-onward
pass_on-requires-clause-onward g c =
    subst (λ (plan : Plan). (e : Element) → chain plan 2 e ≡ Arrives (record { node = 3; element = e }) ∷ []) (sym (c.in_ok-range.ensures.plan ∙ c.in_ok-slot.ensures.plan)) c.in_ok-book.ensures.onward

pub work_range-requires-2-clause-fixed : goal.work_range-requires-2-clause-fixed
work_range-requires-2-clause-fixed g c =
    subst (λ (plan : Plan). (span : Interval) → HasLength (strategy_of plan 2) span)
    (sym (c.in_ok-pass_on.ensures.plan ∙ c.in_ok-range.ensures.plan ∙ c.in_ok-slot.ensures.plan)) c.in_ok-book.ensures.fixed

pub pass_on-requires-2-clause-onward : goal.pass_on-requires-2-clause-onward
pass_on-requires-2-clause-onward g c =
    subst (λ (plan : Plan). (e : Element) → chain plan 2 e ≡ Arrives (record { node = 3; element = e }) ∷ [])
    (sym (c.in_ok-range-2.ensures.plan ∙ c.in_ok-pass_on.ensures.plan ∙ c.in_ok-range.ensures.plan ∙ c.in_ok-slot.ensures.plan)) c.in_ok-book.ensures.onward
