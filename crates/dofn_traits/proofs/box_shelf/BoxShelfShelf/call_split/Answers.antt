use Rattle.std.proofs.Common.{◌≡◌, ◌∙◌, ◌↔◌, true, ℕ, List, get_or, ap, sym, subst}
use Rattle.std.specs.Prelude.{IfOk}
use Rattle.beam_values.specs.declared.plan.SourceKind.TheVariants.{Lines}
use Rattle.beam_model.specs.Positions.{emission}
use Rattle.dofn_traits.specs.declared.calls.Found.TheVariants.{More}
use Rattle.dofn_traits.specs.Calls.{is_cut_short, IsView, IsViewOf, IsFound}
use Rattle.dofn_traits.specs.Shelves.{source_kinds, source_number, is_shelf_strict, shelf_faults}
use Rattle.dofn_traits.proofs.Numberings.{source_numbering}
use Rattle.dofn_traits.proofs.Shelving.{found, used_is_strict, strictness_kept, sum_kept, parts_strict}
use Rattle.dofn_traits.proofs.box_shelf.BoxShelfShelf.call_split.Goals as goal

pub call-requires : goal.call-requires
call-requires g c =
    let at = found source_number source_kinds Lines g.S.SplittableFn.work source_numbering c.self.inside.splits.items c.self.inside.split_places c.args.kind
    c.source_number.result c.index_mut.result.now c.self.invariant.1 c.source_number.ensures.value c.index_mut.ensures.value in
    record {
      allowed = rw at.0 c.requires.allowed;
      view = subst (λ kind. IsView kind c.args.args.now c.args.bytes.now c.args.base c.args.len c.args.p) (sym at.0) c.requires.view;
    }

pub returns-clause-found : goal.returns-clause-found
returns-clause-found g c =
    let at = found source_number source_kinds Lines g.S.SplittableFn.work source_numbering c.self.inside.splits.items c.self.inside.split_places c.args.kind
    c.source_number.result c.index_mut.result.now c.self.invariant.1 c.source_number.ensures.value c.index_mut.ensures.value in
    subst (λ kind. IfOk c.call.result (λ found. (file : List ℕ) → IsViewOf file kind c.args.args.now c.args.bytes.now c.args.base c.args.len
    → IsFound kind c.args.args.now file c.args.p c.args.out.now c.call.new.out found)) at.0 c.call.ensures.found

pub returns-clause-more : goal.returns-clause-more
returns-clause-more g c =
    let at = found source_number source_kinds Lines g.S.SplittableFn.work source_numbering c.self.inside.splits.items c.self.inside.split_places c.args.kind
    c.source_number.result c.index_mut.result.now c.self.invariant.1 c.source_number.ensures.value c.index_mut.ensures.value in
    subst (λ kind. IfOk c.call.result (λ found. (found ≡ More) ↔ (is_cut_short kind c.args.bytes.now c.args.base c.args.len c.args.p ≡ true))) at.0 c.call.ensures.more

pub returns-clause-strict : goal.returns-clause-strict
returns-clause-strict g c =
    let kept = strictness_kept source_number source_kinds Lines g.S.SplittableFn.work source_numbering g.S.SplittableFn.strict c.self.inside.splits.items (get_or c.self.inside.split_places c.source_number.result 0)
    c.index_mut.result.now c.call.new.self c.index_mut.ensures.value c.call.ensures.work c.call.ensures.strict in
    rw kept (ap (is_shelf_strict g.D.DoFn.work g.D.DoFn.strict g.S.SplittableFn.work g.S.SplittableFn.strict g.T.StatefulFn.work g.T.StatefulFn.strict) c.self.view_is)

pub returns-clause-unharmed : goal.returns-clause-unharmed
returns-clause-unharmed g c = λ strict file view no_poison.
    let at = found source_number source_kinds Lines g.S.SplittableFn.work source_numbering c.self.inside.splits.items c.self.inside.split_places c.args.kind
    c.source_number.result c.index_mut.result.now c.self.invariant.1 c.source_number.ensures.value c.index_mut.ensures.value in
    let parts = parts_strict g.D.DoFn.work g.D.DoFn.strict g.S.SplittableFn.work g.S.SplittableFn.strict g.T.StatefulFn.work g.T.StatefulFn.strict _ _ c.self.view_is strict in
    let box_strict = used_is_strict source_number source_kinds Lines g.S.SplittableFn.work source_numbering g.S.SplittableFn.strict c.self.inside.splits.items c.self.inside.split_places c.args.kind
    c.source_number.result c.index_mut.result.now c.self.invariant.1 c.source_number.ensures.value c.index_mut.ensures.value parts.1 in
    let unharmed = c.call.ensures.unharmed box_strict file
    (subst (λ kind. IsViewOf file kind c.args.args.now c.args.bytes.now c.args.base c.args.len) (sym at.0) view)
    (λ poison. no_poison (ap (λ kind. emission kind c.args.args.now file c.args.p) (sym at.0) ∙ poison)) in
    let kept = sum_kept g.S.SplittableFn.faults c.self.inside.splits.items (get_or c.self.inside.split_places c.source_number.result 0) c.index_mut.result.now c.call.new.self at.1 c.index_mut.ensures.value unharmed.uncounted in
    record {
      answered = unharmed.answered;
      uncounted = rw kept (ap (shelf_faults g.D.DoFn.faults g.S.SplittableFn.faults g.T.StatefulFn.faults) c.self.view_is);
    }

pub returns-clause-unharmed_more : goal.returns-clause-unharmed_more
returns-clause-unharmed_more g c = λ strict cut.
    let at = found source_number source_kinds Lines g.S.SplittableFn.work source_numbering c.self.inside.splits.items c.self.inside.split_places c.args.kind
    c.source_number.result c.index_mut.result.now c.self.invariant.1 c.source_number.ensures.value c.index_mut.ensures.value in
    let parts = parts_strict g.D.DoFn.work g.D.DoFn.strict g.S.SplittableFn.work g.S.SplittableFn.strict g.T.StatefulFn.work g.T.StatefulFn.strict _ _ c.self.view_is strict in
    let box_strict = used_is_strict source_number source_kinds Lines g.S.SplittableFn.work source_numbering g.S.SplittableFn.strict c.self.inside.splits.items c.self.inside.split_places c.args.kind
    c.source_number.result c.index_mut.result.now c.self.invariant.1 c.source_number.ensures.value c.index_mut.ensures.value parts.1 in
    let unharmed = c.call.ensures.unharmed_more box_strict
    (ap (λ kind. is_cut_short kind c.args.bytes.now c.args.base c.args.len c.args.p) at.0 ∙ cut) in
    let kept = sum_kept g.S.SplittableFn.faults c.self.inside.splits.items (get_or c.self.inside.split_places c.source_number.result 0) c.index_mut.result.now c.call.new.self at.1 c.index_mut.ensures.value unharmed.uncounted in
    record {
      answered = unharmed.answered;
      uncounted = rw kept (ap (shelf_faults g.D.DoFn.faults g.S.SplittableFn.faults g.T.StatefulFn.faults) c.self.view_is);
    }
