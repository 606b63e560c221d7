use Rattle.std.proofs.Common.{◌++◌, ◌+◌, Bool, List, map, take, drop, sym, ap, subst, ◌∙◌, arith, append_assoc}
use Rattle.std.specs.List.{flat_map}
use Rattle.std.proofs.lemmas.Result.{err_from_is_err_and}
use Rattle.beam_values.specs.declared.cell.Pane.{Pane}
use Rattle.bundle_commit.specs.declared.job.Receipt.{Receipt}
use Rattle.beam_model.specs.Chains.{Output, Arrives, chain}
use Rattle.beam_model.specs.Flow.{batch_outputs}
use Rattle.beam_model.specs.Spread.{first_poison}
use Rattle.chain_exec.specs.Causes.{IsCallRefused}
use Rattle.chain_exec.proofs.Poisons.{batch_more, first_in_front, first_of_batch, none_in_front, none_staged, refused_in_whole}
use Rattle.chain_exec.proofs.batch.run_batch.Goals as goal

pub returns-in_err-send-clause-refused : goal.returns-in_err-send-clause-refused
returns-in_err-send-clause-refused g c =
    let l = c.loop-pane in
    let plan = c.args.graph.now in
    let brings : Pane → List Output = λ pane. chain plan c.args.node pane.element in
    let none = none_staged c.args.staging.now.arrivals l.staging.arrivals (flat_map brings (take l.pane-index c.args.panes.now)) l.invariant.staged in
    let first = first_of_batch brings c.args.panes.now l.pane-index c.pane-item.result c.loop-pane-test.true c.pane-item.is none in
    let same = ap (chain plan c.args.node) c.in_ok-element.ensures in
    let e = c.in_err-send.field-0.0 in
    let refused = subst (λ (s : Bool). IsCallRefused (record { strict = s; before = g.F.Shelf.faults l.shelf; after = g.F.Shelf.faults c.send.new.shelf })
    (chain plan c.args.node c.in_ok-element.element) e) l.invariant.strict c.in_err-send.ensures.refused in
    let p = err_from_is_err_and c.from_residual-in_err-send.result c.from_residual-in_err-send.ensures.1 in
    rw (p.1, p.2) (refused_in_whole (g.F.Shelf.strict c.args.shelf.now) (g.F.Shelf.faults c.args.shelf.now) (g.F.Shelf.faults l.shelf) (g.F.Shelf.faults c.send.new.shelf)
    (chain plan c.args.node c.in_ok-element.element) (batch_outputs plan c.args.node c.args.panes.now) l.invariant.counts
    (λ at is. first ∙ first_in_front (brings c.pane-item.result) (flat_map brings (drop (l.pane-index + 1) c.args.panes.now)) at (sym (ap first_poison same) ∙ is)) e refused)

pub returns-in_err-send-clause-unharmed : goal.returns-in_err-send-clause-unharmed
returns-in_err-send-clause-unharmed g c = λ strict no_poison.
    let l = c.loop-pane in
    let plan = c.args.graph.now in
    let brings : Pane → List Output = λ pane. chain plan c.args.node pane.element in
    let none = none_staged c.args.staging.now.arrivals l.staging.arrivals (flat_map brings (take l.pane-index c.args.panes.now)) l.invariant.staged in
    let first = first_of_batch brings c.args.panes.now l.pane-index c.pane-item.result c.loop-pane-test.true c.pane-item.is none in
    let here = none_in_front (brings c.pane-item.result) (flat_map brings (drop (l.pane-index + 1) c.args.panes.now)) (sym first ∙ no_poison) in
    c.send.ensures.unharmed (l.invariant.strict ∙ strict) (ap first_poison (ap (chain plan c.args.node) c.in_ok-element.ensures) ∙ here) ∙ l.invariant.unharmed strict no_poison

pub loop-pane-preserved : goal.loop-pane-preserved
loop-pane-preserved g c =
    let l = c.loop-pane in
    let plan = c.args.graph.now in
    let brings : Pane → List Output = λ pane. chain plan c.args.node pane.element in
    let none = none_staged c.args.staging.now.arrivals l.staging.arrivals (flat_map brings (take l.pane-index c.args.panes.now)) l.invariant.staged in
    let first = first_of_batch brings c.args.panes.now l.pane-index c.pane-item.result c.loop-pane-test.true c.pane-item.is none in
    let more = batch_more brings c.args.panes.now l.pane-index c.pane-item.result c.loop-pane-test.true c.pane-item.is in
    let same = ap (chain plan c.args.node) c.in_ok-element.ensures in
    record {
      unused = c.in_ok-send.ensures.unused;
      staged = c.in_ok-send.ensures.staged ∙ ap (λ (o : List Output). o ++ chain plan c.args.node c.in_ok-element.element) l.invariant.staged
          ∙ append_assoc (map Arrives c.args.staging.now.arrivals) (flat_map brings (take l.pane-index c.args.panes.now)) (chain plan c.args.node c.in_ok-element.element)
          ∙ ap (λ (o : List Output). map Arrives c.args.staging.now.arrivals ++ (flat_map brings (take l.pane-index c.args.panes.now) ++ o)) same
          ∙ ap (λ (o : List Output). map Arrives c.args.staging.now.arrivals ++ o) (sym more);
      only = c.send.ensures.only ∙ ap (λ (s : Receipt). record s { arrivals = c.send.new.staging.arrivals }) l.invariant.only;
      counts = omega (arith, l.invariant.counts, c.send.ensures.counts);
      strict = c.send.ensures.strict ∙ l.invariant.strict;
      unharmed = λ strict no_poison.
          let here = none_in_front (brings c.pane-item.result) (flat_map brings (drop (l.pane-index + 1) c.args.panes.now)) (sym first ∙ no_poison) in
          c.send.ensures.unharmed (l.invariant.strict ∙ strict) (ap first_poison same ∙ here) ∙ l.invariant.unharmed strict no_poison;
    }
