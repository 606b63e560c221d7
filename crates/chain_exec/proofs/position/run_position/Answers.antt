use Rattle.std.proofs.Common.{◌≡◌, Some, sym, subst, ◌∙◌}
use Rattle.chain_exec.specs.Positions.{IsEmissionAt, emission_of}
use Rattle.chain_exec.specs.Sources.{SourceWork}
use Rattle.chain_exec.proofs.Emissions.{position_refused, worked}
use Rattle.chain_exec.proofs.Fronts.{taken_back}
use Rattle.chain_exec.proofs.position.run_position.Goals as goal

pub work_source-requires-clause-counted : goal.work_source-requires-clause-counted
work_source-requires-clause-counted g c κs within = c.requires.counted _ c.source_of-source.ensures.source

pub work_source-requires-clause-held : goal.work_source-requires-clause-held
work_source-requires-clause-held g c κs within = c.requires.held _ c.source_of-source.ensures.source

same_some : (a b : SourceWork) → Some a ≡ Some b → a ≡ b
same_some a b is = cc

pub returns-in-Ok-clause-worked : goal.returns-in-Ok-clause-worked
returns-in-Ok-clause-worked g c =
    let out = c.work_source.new.out in (
      emission_of out,
      worked c.args.graph.now c.args.node c.in_ok-next.next c.source_of-source.result.estimator.now out c.as_slice-values.result.now c.latest_time.result c.is_empty-emitted.result
          c.args.staging.now c.observe.new.self c.send_emission.new.staging c.source_of-source.ensures.estimator c.as_slice-values.ensures c.latest_time.ensures.latest c.is_empty-emitted.ensures c.latest_time.ensures.timely
          c.observe.ensures c.send_emission.ensures.only c.in-Ok.ensures.staged,
      λ source is. let same : record { work = c.source_of-source.result.work; args = c.source_of-source.result.args.now } ≡ source = same_some _ _ (sym c.source_of-source.ensures.source ∙ is) in
          subst (λ (s : SourceWork). IsEmissionAt s (g.S.Store.opened c.args.store.now c.args.pager.now.file) c.args.pager.now.len c.args.p (emission_of out) c.in_ok-next.next) same
          c.in_ok-next.ensures.told,
    )

pub returns-in-Err-clause-undone : goal.returns-in-Err-clause-undone
returns-in-Err-clause-undone g c =
    taken_back c.args.staging.now c.observe.new.self c.send_emission.new.staging c.back_to.new.self c.len-count.result c.seen-seen.result _ c.len-count.ensures c.seen-seen.ensures
    c.observe.ensures c.send_emission.ensures.only c.send_emission.ensures.front c.back_to.ensures

pub returns-in-Err-clause-refused : goal.returns-in-Err-clause-refused
returns-in-Err-clause-refused g c = λ source is.
    let out = c.work_source.new.out in
    let same : record { work = c.source_of-source.result.work; args = c.source_of-source.result.args.now } ≡ source = same_some _ _ (sym c.source_of-source.ensures.source ∙ is) in
    let told : IsEmissionAt source (g.S.Store.opened c.args.store.now c.args.pager.now.file) c.args.pager.now.len c.args.p (emission_of out) c.in_ok-next.next =
    subst (λ (s : SourceWork). IsEmissionAt s (g.S.Store.opened c.args.store.now c.args.pager.now.file) c.args.pager.now.len c.args.p (emission_of out) c.in_ok-next.next) same
    c.in_ok-next.ensures.told in
    position_refused (g.F.Shelf.strict c.args.shelf.now) (g.F.Shelf.strict c.work_source.new.shelf) (g.F.Shelf.faults c.args.shelf.now) (g.F.Shelf.faults c.work_source.new.shelf)
    (g.F.Shelf.faults c.send_emission.new.shelf) (record { before = g.S.Store.faults c.args.store.now; after = g.S.Store.faults c.work_source.new.store }) c.args.graph.now c.args.node source
    (g.S.Store.opened c.args.store.now c.args.pager.now.file) c.args.pager.now.len c.args.p c.in_ok-next.next (emission_of out) c.work_source.ensures.counts c.work_source.ensures.strict told
    c.in-Err.refusal c.in-Err.ensures.refused
