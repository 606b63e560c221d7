use Rattle.std.proofs.Common.{List, [], ℕ, ◌+◌, sym, ap, ◌∙◌, subst, ◌++◌, take, drop}
use Rattle.bundle_work.specs.Openings.{AreOpened}
use Rattle.beam_ports.specs.declared.store.Opened.{Opened}
use Rattle.command_ends.proofs.Tries.{trying_onward, trying_same}
use Rattle.run_engine.specs.Openings.{AgreeInLength, AreNamesRefused}
use Rattle.run_engine.proofs.Opens.{agree_none, names_more, names_of, names_whole}
use Rattle.run_engine.proofs.opening.open_nodes.Goals as goal

pub loop-node-init : goal.loop-node-init
loop-node-init g c =
    let store = c.args.store.now in
    let first = c.args.first.now in
    record {
      opened = subst (λ (files : List Opened). AreOpened (g.S.Store.files store.store.now) (g.S.Store.opened store.store.now) [] files) (sym c.new-files.ensures) tt;
      lengths = subst (λ (files : List Opened). AgreeInLength first files) (sym c.new-files.ensures) (agree_none first);
      patient = c.requires;
      tried = trying_same g.S.Store store;
    }

pub returns-in-Err-clause-refused : goal.returns-in-Err-clause-refused
returns-in-Err-clause-refused g c =
    let known = c.loop-node.invariant in
    let nodes = c.args.nodes.now in
    let i = c.loop-node.node-index in
    let front = names_of (take i nodes) in
    let after = names_of (drop (i + 1) nodes) in
    let first = c.args.first.now in
    subst (λ (f : _). AreNamesRefused f first (names_of nodes) c.args.number c.in-Err.refusal) known.tried.files
    (subst (λ (l : List (List ℕ)). AreNamesRefused (g.S.Store.files c.loop-node.store.store.now) first l c.args.number c.in-Err.refusal)
    (ap (λ (n : List (List ℕ)). front ++ (n ++ after)) c.names_in-names.ensures ∙ names_whole nodes i c.node-item.result c.loop-node-test.true c.node-item.is)
    (c.in-Err.ensures.refused front after known.opened))

pub loop-node-preserved : goal.loop-node-preserved
loop-node-preserved g c =
    let known = c.loop-node.invariant in
    let nodes = c.args.nodes.now in
    let i = c.loop-node.node-index in
    let front = names_of (take i nodes) in
    let later = c.open_names.new.store.store.now in
    record {
      opened =
          subst (λ (l : List (List ℕ)). AreOpened (g.S.Store.files later) (g.S.Store.opened later) l c.open_names.new.files)
          (ap (λ (n : List (List ℕ)). front ++ n) c.names_in-names.ensures ∙ names_more nodes i c.node-item.result c.loop-node-test.true c.node-item.is)
          (c.in-Ok.ensures.opened front known.opened);
      lengths = c.in-Ok.ensures.lengths known.lengths;
      patient = c.in-Ok.ensures.few;
      tried = trying_onward g.S.Store c.args.store.now c.loop-node.store c.open_names.new.store known.tried c.open_names.ensures.tried;
    }
