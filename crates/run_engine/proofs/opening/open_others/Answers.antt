use Rattle.std.proofs.Common.{get_or, arith}
use Rattle.beam_ports.specs.Observed.{observed_store}
use Rattle.bundle_work.specs.Openings.{AreOpened, file_names}
use Rattle.command_ends.specs.declared.status.Status.TheVariants as status
use Rattle.run_engine.specs.Openings.{AgreeInLength}
use Rattle.run_engine.proofs.Opens.{HasOpened, IsOnward, become_all, each_and_one, each_becomes, more_become, next_is, none_before, observed_set, onward_same, only_kit, others_fewer, others_told, whole_becomes}
use Rattle.run_engine.proofs.opening.open_others.Goals as goal

pub loop-at-preserved : goal.loop-at-preserved
loop-at-preserved g c =
    let Done = HasOpened g.S.Store c.args.attempts (file_names c.args.graph.now) c.args.first.now in
    let did = c.in-Ok.ensures in
    more_become Done c.loop-at.at c.args.kits.now c.loop-at.kits c.index-kits-at.result c.open_kit.new.kit c.loop-at.invariant (omega arith)
    (record { onward = (did.shelf, did.kept); opens = did.opened; agree = did.lengths; fewer = λ exactly. (none_before g.S.Store c.args.attempts _ _ _ status.Ok did.fewer exactly).patient (λ no. cc) })

pub returns-in-Err-clause-refused : goal.returns-in-Err-clause-refused
returns-in-Err-clause-refused g c =
    let faults = g.S.Store.faults in
    let files = g.S.Store.files in
    let old = get_or c.loop-at.kits c.loop-at.at c.index-kits-at.result in
    let new = c.open_kit.new.kit in
    record {
      kit = c.loop-at.at;
      store = observed_store files faults old.store new.store;
      at = observed_set files faults c.args.kits.now c.loop-at.kits c.loop-at.at old new
          (next_is (HasOpened g.S.Store c.args.attempts (file_names c.args.graph.now) c.args.first.now) c.loop-at.at c.args.kits.now c.loop-at.kits c.index-kits-at.result c.loop-at.invariant
          (omega arith)) (omega arith);
      counted = c.in-Err.ensures.counted;
      refused = c.in-Err.ensures.refused;
    }

pub returns-in-Err-clause-kept : goal.returns-in-Err-clause-kept
returns-in-Err-clause-kept g c =
    let faults = g.S.Store.faults in
    let files = g.S.Store.files in
    let opened = g.S.Store.opened in
    let Done = HasOpened g.S.Store c.args.attempts (file_names c.args.graph.now) c.args.first.now in
    let left = c.in-Err.ensures in
    each_and_one Done (IsOnward faults files opened) (λ old new is. is.onward) (onward_same faults files opened) c.loop-at.at c.args.kits.now c.loop-at.kits c.index-kits-at.result c.open_kit.new.kit
    c.loop-at.invariant (omega arith) (left.shelf, left.kept)

pub returns-clause-opened : goal.returns-clause-opened
returns-clause-opened g c =
    let Done = HasOpened g.S.Store c.args.attempts (file_names c.args.graph.now) c.args.first.now in
    become_all Done (λ kit. AreOpened (g.S.Store.files kit.store) (g.S.Store.opened kit.store) (file_names c.args.graph.now) kit.files) (λ old new is. is.opens) c.args.kits.now c.loop-at.kits
    (whole_becomes Done c.loop-at.at c.args.kits.now c.loop-at.kits c.loop-at.invariant (omega arith))

pub returns-clause-lengths : goal.returns-clause-lengths
returns-clause-lengths g c =
    let Done = HasOpened g.S.Store c.args.attempts (file_names c.args.graph.now) c.args.first.now in
    become_all Done (λ kit. AgreeInLength c.args.first.now kit.files) (λ old new is. is.agree) c.args.kits.now c.loop-at.kits
    (whole_becomes Done c.loop-at.at c.args.kits.now c.loop-at.kits c.loop-at.invariant (omega arith))

pub returns-clause-kept : goal.returns-clause-kept
returns-clause-kept g c =
    let faults = g.S.Store.faults in
    let files = g.S.Store.files in
    let opened = g.S.Store.opened in
    let Done = HasOpened g.S.Store c.args.attempts (file_names c.args.graph.now) c.args.first.now in
    each_becomes Done (IsOnward faults files opened) (λ old new is. is.onward) (onward_same faults files opened) c.loop-at.at c.args.kits.now c.loop-at.kits c.loop-at.invariant

pub returns-clause-fewer : goal.returns-clause-fewer
returns-clause-fewer g c =
    let Done = HasOpened g.S.Store c.args.attempts (file_names c.args.graph.now) c.args.first.now in
    others_fewer g.S.Store c.args.attempts c.requires.attempts Done (λ old new is. is.fewer) c.args.kits.now c.loop-at.kits
    (whole_becomes Done c.loop-at.at c.args.kits.now c.loop-at.kits c.loop-at.invariant (omega arith))

pub returns-in-Err-clause-tries : goal.returns-in-Err-clause-tries
returns-in-Err-clause-tries g c =
    let Done = HasOpened g.S.Store c.args.attempts (file_names c.args.graph.now) c.args.first.now in
    let left = c.in-Err.ensures in
    others_told g.S.Store c.args.attempts c.requires.attempts Done (λ old new is. is.fewer) c.loop-at.at c.args.kits.now c.loop-at.kits c.index-kits-at.result c.open_kit.new.kit
    c.loop-at.invariant (omega arith) c.in-Err.refusal (none_before g.S.Store c.args.attempts _ _ _ c.in-Err.refusal left.tries)
    (only_kit _ c.args.first.now (file_names c.args.graph.now) _ c.in-Err.refusal left.refused)
