use Rattle.std.proofs.Common.{◌++◌, ◌+◌, Bool, List, map, take, drop, sym, ap, subst, ◌∙◌, arith, append_assoc}
use Rattle.std.specs.List.{flat_map}
use Rattle.std.proofs.lemmas.Result.{err_from_is_err_and}
use Rattle.beam_values.specs.declared.element.Element.{Element}
use Rattle.bundle_commit.specs.declared.job.Receipt.{Receipt}
use Rattle.beam_model.specs.Chains.{Output, Arrives, chain}
use Rattle.beam_model.specs.Spread.{first_poison}
use Rattle.chain_exec.specs.Causes.{IsCallRefused}
use Rattle.chain_exec.proofs.Poisons.{batch_more, first_in_front, first_of_batch, none_in_front, none_staged, refused_in_whole}
use Rattle.chain_exec.proofs.key.send_each.Goals as goal

pub returns-in_err-send-clause-refused : goal.returns-in_err-send-clause-refused
returns-in_err-send-clause-refused g c =
    let l = c.loop-element in
    let plan = c.args.graph.now in
    let brings : Element → List Output = chain plan c.args.node in
    let none = none_staged c.args.staging.now.arrivals l.staging.arrivals (flat_map brings (take l.element-index c.args.elements.now)) l.invariant.staged in
    let first = first_of_batch brings c.args.elements.now l.element-index c.element-item.result c.loop-element-test.true c.element-item.is none in
    let same = ap (chain plan c.args.node) c.in_ok-copy.ensures in
    let e = c.in_err-send.field-0.0 in
    let refused = subst (λ (s : Bool). IsCallRefused (record { strict = s; before = g.F.Shelf.faults l.shelf; after = g.F.Shelf.faults c.send.new.shelf })
    (chain plan c.args.node c.in_ok-copy.copy) e) l.invariant.strict c.in_err-send.ensures.refused in
    let p = err_from_is_err_and c.from_residual-in_err-send.result c.from_residual-in_err-send.ensures.1 in
    rw (p.1, p.2) (refused_in_whole (g.F.Shelf.strict c.args.shelf.now) (g.F.Shelf.faults c.args.shelf.now) (g.F.Shelf.faults l.shelf) (g.F.Shelf.faults c.send.new.shelf)
    (chain plan c.args.node c.in_ok-copy.copy) (flat_map brings c.args.elements.now) l.invariant.counts
    (λ at is. first ∙ first_in_front (brings c.element-item.result) (flat_map brings (drop (l.element-index + 1) c.args.elements.now)) at (sym (ap first_poison same) ∙ is)) e refused)

pub returns-in_err-send-clause-unharmed : goal.returns-in_err-send-clause-unharmed
returns-in_err-send-clause-unharmed g c = λ strict no_poison.
    let l = c.loop-element in
    let plan = c.args.graph.now in
    let brings : Element → List Output = chain plan c.args.node in
    let none = none_staged c.args.staging.now.arrivals l.staging.arrivals (flat_map brings (take l.element-index c.args.elements.now)) l.invariant.staged in
    let first = first_of_batch brings c.args.elements.now l.element-index c.element-item.result c.loop-element-test.true c.element-item.is none in
    let here = none_in_front (brings c.element-item.result) (flat_map brings (drop (l.element-index + 1) c.args.elements.now)) (sym first ∙ no_poison) in
    c.send.ensures.unharmed (l.invariant.strict ∙ strict) (ap first_poison (ap (chain plan c.args.node) c.in_ok-copy.ensures) ∙ here) ∙ l.invariant.unharmed strict no_poison

pub loop-element-preserved : goal.loop-element-preserved
loop-element-preserved g c =
    let l = c.loop-element in
    let plan = c.args.graph.now in
    let brings : Element → List Output = chain plan c.args.node in
    let none = none_staged c.args.staging.now.arrivals l.staging.arrivals (flat_map brings (take l.element-index c.args.elements.now)) l.invariant.staged in
    let first = first_of_batch brings c.args.elements.now l.element-index c.element-item.result c.loop-element-test.true c.element-item.is none in
    let more = batch_more brings c.args.elements.now l.element-index c.element-item.result c.loop-element-test.true c.element-item.is in
    let same = ap (chain plan c.args.node) c.in_ok-copy.ensures in
    record {
      unused = c.in_ok-send.ensures.unused;
      staged = c.in_ok-send.ensures.staged ∙ ap (λ (o : List Output). o ++ chain plan c.args.node c.in_ok-copy.copy) l.invariant.staged
          ∙ append_assoc (map Arrives c.args.staging.now.arrivals) (flat_map brings (take l.element-index c.args.elements.now)) (chain plan c.args.node c.in_ok-copy.copy)
          ∙ ap (λ (o : List Output). map Arrives c.args.staging.now.arrivals ++ (flat_map brings (take l.element-index c.args.elements.now) ++ o)) same
          ∙ ap (λ (o : List Output). map Arrives c.args.staging.now.arrivals ++ o) (sym more);
      only = c.send.ensures.only ∙ ap (λ (s : Receipt). record s { arrivals = c.send.new.staging.arrivals }) l.invariant.only;
      counts = omega (arith, l.invariant.counts, c.send.ensures.counts);
      strict = c.send.ensures.strict ∙ l.invariant.strict;
      unharmed = λ strict no_poison.
          let here = none_in_front (brings c.element-item.result) (flat_map brings (drop (l.element-index + 1) c.args.elements.now)) (sym first ∙ no_poison) in
          c.send.ensures.unharmed (l.invariant.strict ∙ strict) (ap first_poison same ∙ here) ∙ l.invariant.unharmed strict no_poison;
    }
