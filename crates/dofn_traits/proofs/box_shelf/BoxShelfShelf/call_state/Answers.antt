use Rattle.std.proofs.Common.{◌∙◌, get_or, ap, sym, subst}
use Rattle.std.specs.Prelude.{OnOk}
use Rattle.beam_values.specs.declared.plan.StateKind.TheVariants.{Dedupe}
use Rattle.beam_model.specs.Steps.{steps}
use Rattle.dofn_traits.specs.Calls.{kept_in, AddsStep}
use Rattle.dofn_traits.specs.Shelves.{state_kinds, state_number, is_shelf_strict, shelf_faults}
use Rattle.dofn_traits.proofs.Numberings.{state_numbering}
use Rattle.dofn_traits.proofs.Shelving.{found, used_is_strict, strictness_kept, sum_kept, parts_strict}
use Rattle.dofn_traits.proofs.box_shelf.BoxShelfShelf.call_state.Goals as goal

pub call-requires : goal.call-requires
call-requires g c =
    let at = found state_number state_kinds Dedupe g.T.StatefulFn.work state_numbering c.self.inside.states.items c.self.inside.state_places c.args.kind
    c.state_number.result c.index_mut.result.now c.self.invariant.2 c.state_number.ensures.value c.index_mut.ensures.value in
    record { allowed = rw at.0 c.requires.allowed }

pub returns-clause-step : goal.returns-clause-step
returns-clause-step g c =
    let at = found state_number state_kinds Dedupe g.T.StatefulFn.work state_numbering c.self.inside.states.items c.self.inside.state_places c.args.kind
    c.state_number.result c.index_mut.result.now c.self.invariant.2 c.state_number.ensures.value c.index_mut.ensures.value in
    subst (λ kind. OnOk c.call.result (AddsStep kind c.args.args.now c.args.key.now c.args.span c.args.input.now (kept_in c.args.state.now c.args.timers.now)
    c.call.new.state c.call.new.timers c.args.out.now c.call.new.out)) at.0 c.call.ensures.step

pub returns-clause-strict : goal.returns-clause-strict
returns-clause-strict g c =
    let kept = strictness_kept state_number state_kinds Dedupe g.T.StatefulFn.work state_numbering g.T.StatefulFn.strict c.self.inside.states.items (get_or c.self.inside.state_places c.state_number.result 0)
    c.index_mut.result.now c.call.new.self c.index_mut.ensures.value c.call.ensures.work c.call.ensures.strict in
    rw kept (ap (is_shelf_strict g.D.DoFn.work g.D.DoFn.strict g.S.SplittableFn.work g.S.SplittableFn.strict g.T.StatefulFn.work g.T.StatefulFn.strict) c.self.view_is)

pub returns-clause-unharmed : goal.returns-clause-unharmed
returns-clause-unharmed g c = λ strict no_poison.
    let at = found state_number state_kinds Dedupe g.T.StatefulFn.work state_numbering c.self.inside.states.items c.self.inside.state_places c.args.kind
    c.state_number.result c.index_mut.result.now c.self.invariant.2 c.state_number.ensures.value c.index_mut.ensures.value in
    let parts = parts_strict g.D.DoFn.work g.D.DoFn.strict g.S.SplittableFn.work g.S.SplittableFn.strict g.T.StatefulFn.work g.T.StatefulFn.strict _ _ c.self.view_is strict in
    let box_strict = used_is_strict state_number state_kinds Dedupe g.T.StatefulFn.work state_numbering g.T.StatefulFn.strict c.self.inside.states.items c.self.inside.state_places c.args.kind
    c.state_number.result c.index_mut.result.now c.self.invariant.2 c.state_number.ensures.value c.index_mut.ensures.value parts.2 in
    let unharmed = c.call.ensures.unharmed box_strict
    (λ none. no_poison (ap (λ kind. steps kind c.args.args.now c.args.key.now c.args.span c.args.input.now (kept_in c.args.state.now c.args.timers.now)) (sym at.0) ∙ none)) in
    let kept = sum_kept g.T.StatefulFn.faults c.self.inside.states.items (get_or c.self.inside.state_places c.state_number.result 0) c.index_mut.result.now c.call.new.self at.1 c.index_mut.ensures.value unharmed.uncounted in
    record {
      answered = unharmed.answered;
      uncounted = rw kept (ap (shelf_faults g.D.DoFn.faults g.S.SplittableFn.faults g.T.StatefulFn.faults) c.self.view_is);
    }
