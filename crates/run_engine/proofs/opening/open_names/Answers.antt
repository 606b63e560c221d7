use Rattle.std.proofs.Common.{ℕ, List, sym, subst, ◌∙◌}
use Rattle.beam_ports.specs.declared.store.Opened.{Opened}
use Rattle.command_ends.proofs.Tries.{trying_onward}
use Rattle.run_engine.specs.Openings.{AgreeInLength, HasSameLength}
use Rattle.run_engine.proofs.Opens.{agree_more, file_exact, files_refused, names_opened, names_refused}
use Rattle.run_engine.proofs.opening.open_names.Goals as goal

pub returns-in-Err-compare-clause-refused : goal.returns-in-Err-compare-clause-refused
returns-in-Err-compare-clause-refused g c = λ before after are.
    let known = c.loop-name.invariant in
    let front = c.loop-name.store.store.now in
    let later = c.open_named.new.store.store.now in
    files_refused (g.S.Store.files c.args.store.now.store.now) (g.S.Store.files later) (c.open_named.ensures.tried.files ∙ known.tried.files) before c.args.names.now after c.loop-name.name-index
    c.name-item.result c.as_slice-name.result.now c.loop-name-test.true c.name-item.is c.as_slice-name.ensures c.args.first.now c.args.number
    (g.S.Store.files front) (g.S.Store.opened front) (g.S.Store.opened later) c.loop-name.files c.len.result c.in-Ok.file (known.opened before are) c.len.ensures
    c.in-Ok.ensures.opened c.in-Err-compare.refusal c.in-Err-compare.ensures.refused

pub returns-in-Err-compare-clause-exactly : goal.returns-in-Err-compare-clause-exactly
returns-in-Err-compare-clause-exactly g c =
    file_exact c.open_named.new.store c.in-Ok.ensures.few c.args.first.now c.len.result c.as_slice-name.result.now c.in-Ok.file.len c.in-Err-compare.refusal c.in-Err-compare.ensures.refused

pub returns-in-Err-clause-refused : goal.returns-in-Err-clause-refused
returns-in-Err-clause-refused g c = λ before after are.
    let known = c.loop-name.invariant in
    let front = c.loop-name.store.store.now in
    names_refused (g.S.Store.files c.args.store.now.store.now) (g.S.Store.files front) known.tried.files before c.args.names.now after c.loop-name.name-index c.name-item.result
    c.as_slice-name.result.now c.loop-name-test.true c.name-item.is c.as_slice-name.ensures c.args.first.now c.args.number
    (g.S.Store.opened front) c.loop-name.files (known.opened before are) c.in-Err.refusal c.in-Err.ensures.refused

pub loop-name-preserved : goal.loop-name-preserved
loop-name-preserved g c =
    let known = c.loop-name.invariant in
    let front = c.loop-name.store.store.now in
    let later = c.open_named.new.store.store.now in
    let tried = c.open_named.ensures.tried in
    let first = c.args.first.now in
    let file = c.in-Ok.file in
    record {
      opened = λ before are.
          names_opened (g.S.Store.files front) (g.S.Store.files later) tried.files (g.S.Store.opened later) (g.S.Store.opened front)
          tried.openings before c.args.names.now c.loop-name.name-index c.name-item.result c.as_slice-name.result.now c.loop-name.files c.push.new.self file c.loop-name-test.true c.name-item.is
          c.as_slice-name.ensures (known.opened before are) c.in-Ok.ensures.opened c.in_ok-push-in-Ok.ensures.ok;
      lengths = λ agree.
          subst (λ (files : List Opened). AgreeInLength first files) (sym c.in_ok-push-in-Ok.ensures.ok)
          (agree_more first c.loop-name.files file (known.lengths agree) (subst (λ (at : ℕ). HasSameLength first at file.len) c.len.ensures c.in-Ok-compare.ensures.same));
      patient = c.in-Ok.ensures.few;
      tried = trying_onward g.S.Store c.args.store.now c.loop-name.store c.open_named.new.store known.tried tried;
    }
