use Rattle.std.proofs.Common.{◌∙◌, get_or, ap, sym, subst}
use Rattle.std.specs.Prelude.{OnOk}
use Rattle.beam_values.specs.declared.plan.FnKind.TheVariants.{KeyField}
use Rattle.beam_model.specs.Functions.{emits}
use Rattle.dofn_traits.specs.Calls.{AddsOutputs}
use Rattle.dofn_traits.specs.Shelves.{fn_kinds, fn_number, is_shelf_strict, shelf_faults}
use Rattle.dofn_traits.proofs.Numberings.{fn_numbering}
use Rattle.dofn_traits.proofs.Shelving.{found, used_is_strict, strictness_kept, sum_kept, parts_strict}
use Rattle.dofn_traits.proofs.box_shelf.BoxShelfShelf.call_fn.Goals as goal

pub call-requires : goal.call-requires
call-requires g c =
    let at = found fn_number fn_kinds KeyField g.D.DoFn.work fn_numbering c.self.inside.fns.items c.self.inside.fn_places c.args.kind
    c.fn_number.result c.index_mut.result.now c.self.invariant.0 c.fn_number.ensures.value c.index_mut.ensures.value in
    record { allowed = rw at.0 c.requires.allowed }

pub returns-clause-outputs : goal.returns-clause-outputs
returns-clause-outputs g c =
    let at = found fn_number fn_kinds KeyField g.D.DoFn.work fn_numbering c.self.inside.fns.items c.self.inside.fn_places c.args.kind
    c.fn_number.result c.index_mut.result.now c.self.invariant.0 c.fn_number.ensures.value c.index_mut.ensures.value in
    subst (λ kind. OnOk c.call.result (AddsOutputs kind c.args.args.now c.args.e.now c.args.out.now c.call.new.out)) at.0 c.call.ensures.outputs

pub returns-clause-strict : goal.returns-clause-strict
returns-clause-strict g c =
    let kept = strictness_kept fn_number fn_kinds KeyField g.D.DoFn.work fn_numbering g.D.DoFn.strict c.self.inside.fns.items (get_or c.self.inside.fn_places c.fn_number.result 0)
    c.index_mut.result.now c.call.new.self c.index_mut.ensures.value c.call.ensures.work c.call.ensures.strict in
    rw kept (ap (is_shelf_strict g.D.DoFn.work g.D.DoFn.strict g.S.SplittableFn.work g.S.SplittableFn.strict g.T.StatefulFn.work g.T.StatefulFn.strict) c.self.view_is)

pub returns-clause-unharmed : goal.returns-clause-unharmed
returns-clause-unharmed g c = λ strict no_poison.
    let at = found fn_number fn_kinds KeyField g.D.DoFn.work fn_numbering c.self.inside.fns.items c.self.inside.fn_places c.args.kind
    c.fn_number.result c.index_mut.result.now c.self.invariant.0 c.fn_number.ensures.value c.index_mut.ensures.value in
    let parts = parts_strict g.D.DoFn.work g.D.DoFn.strict g.S.SplittableFn.work g.S.SplittableFn.strict g.T.StatefulFn.work g.T.StatefulFn.strict _ _ c.self.view_is strict in
    let box_strict = used_is_strict fn_number fn_kinds KeyField g.D.DoFn.work fn_numbering g.D.DoFn.strict c.self.inside.fns.items c.self.inside.fn_places c.args.kind
    c.fn_number.result c.index_mut.result.now c.self.invariant.0 c.fn_number.ensures.value c.index_mut.ensures.value parts.0 in
    let unharmed = c.call.ensures.unharmed box_strict (λ none. no_poison (ap (λ kind. emits kind c.args.args.now c.args.e.now) (sym at.0) ∙ none)) in
    let kept = sum_kept g.D.DoFn.faults c.self.inside.fns.items (get_or c.self.inside.fn_places c.fn_number.result 0) c.index_mut.result.now c.call.new.self at.1
    c.index_mut.ensures.value unharmed.uncounted in
    record {
      answered = unharmed.answered;
      uncounted = rw kept (ap (shelf_faults g.D.DoFn.faults g.S.SplittableFn.faults g.T.StatefulFn.faults) c.self.view_is);
    }
