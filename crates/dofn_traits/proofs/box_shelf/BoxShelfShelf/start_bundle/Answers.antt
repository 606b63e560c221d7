use Rattle.std.proofs.Common.{◌∙◌, length, get_or, ap, arith}
use Rattle.beam_values.specs.declared.plan.FnKind.TheVariants.{KeyField}
use Rattle.dofn_traits.specs.Shelves.{fn_kinds, fn_number, is_shelf_strict, shelf_faults}
use Rattle.dofn_traits.proofs.Numberings.{fn_numbering}
use Rattle.dofn_traits.proofs.Shelving.{places_kept, place_within, strictness_kept, sum_kept}
use Rattle.dofn_traits.proofs.box_shelf.BoxShelfShelf.start_bundle.Goals as goal

pub loop-number-preserved : goal.loop-number-preserved
loop-number-preserved g c =
    let kept = c.loop-number.invariant in
    let boxes = c.loop-number.self-inside.fns.items in
    let place = get_or c.loop-number.self-inside.fn_places c.loop-number.number 0 in
    let within = place_within fn_number fn_kinds KeyField g.D.DoFn.work fn_numbering boxes c.loop-number.self-inside.fn_places (length fn_kinds) c.loop-number.number (omega arith) kept.placed in
    record {
      placed = places_kept fn_number fn_kinds KeyField g.D.DoFn.work fn_numbering boxes c.loop-number.self-inside.fn_places (length fn_kinds) place c.index_mut.result.now c.start_bundle.new.self
          c.index_mut.ensures.value c.start_bundle.ensures.work kept.placed;
      faults = sum_kept g.D.DoFn.faults boxes place c.index_mut.result.now c.start_bundle.new.self within c.index_mut.ensures.value c.start_bundle.ensures.faults ∙ kept.faults;
      strict = strictness_kept fn_number fn_kinds KeyField g.D.DoFn.work fn_numbering g.D.DoFn.strict boxes place c.index_mut.result.now c.start_bundle.new.self
          c.index_mut.ensures.value c.start_bundle.ensures.work c.start_bundle.ensures.strict ∙ kept.strict;
      splits = kept.splits;
      states = kept.states;
      split_placed = kept.split_placed;
      state_placed = kept.state_placed;
    }

pub returns-clause-faults : goal.returns-clause-faults
returns-clause-faults g c =
    let kept = c.loop-number.invariant in
    rw (kept.faults, kept.splits, kept.states) (ap (shelf_faults g.D.DoFn.faults g.S.SplittableFn.faults g.T.StatefulFn.faults) c.self.view_is)

pub returns-clause-strict : goal.returns-clause-strict
returns-clause-strict g c =
    let kept = c.loop-number.invariant in
    rw (kept.strict, kept.splits, kept.states) (ap (is_shelf_strict g.D.DoFn.work g.D.DoFn.strict g.S.SplittableFn.work g.S.SplittableFn.strict g.T.StatefulFn.work g.T.StatefulFn.strict) c.self.view_is)
