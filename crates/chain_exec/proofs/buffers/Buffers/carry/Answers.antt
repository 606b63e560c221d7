use Rattle.std.proofs.Common.{◌++◌, Bool, map, sym, ap, subst, ◌∙◌, arith}
use Rattle.std.proofs.lemmas.Result.{err_from_is_err_and}
use Rattle.beam_model.specs.Chains.{Arrives}
use Rattle.beam_model.specs.Spread.{first_poison}
use Rattle.bundle_commit.specs.declared.job.Receipt.{Receipt}
use Rattle.chain_exec.specs.Causes.{IsCallRefused}
use Rattle.chain_exec.specs.Deliveries.{on_way, outputs_of_delivery, outputs_of_stack}
use Rattle.chain_exec.proofs.Fronts.{front_after}
use Rattle.chain_exec.proofs.Passings.{top_first}
use Rattle.chain_exec.proofs.Poisons.{first_in_front, none_in_front, refused_in_whole, same_first}
use Rattle.chain_exec.proofs.buffers.Buffers.carry.Goals as goal

pub elements-preserved : goal.elements-preserved
elements-preserved g c =
    let plan = c.args.graph.now in
    let l = c.elements in
    let d = c.take_next.new.next in
    let at_first = c.args.self.now.stack ++ on_way c.args.goes_on c.args.self.now.next in
    let before = l.self.stack ++ on_way l.goes_on l.self.next in
    let top = top_first plan before c.take_next.new.stack d (sym c.elements-test.ensures.same) in
    let first = same_first l.staging.arrivals c.args.staging.now.arrivals (outputs_of_stack plan before) (outputs_of_stack plan at_first) l.invariant.staged in
    record {
      outputs = c.in_ok-goes_on.ensures.outputs;
      windows = c.in_ok-goes_on.ensures.windows;
      staged = c.in_ok-goes_on.ensures.staged ∙ ap (λ (o : _). map Arrives l.staging.arrivals ++ o) (sym top) ∙ l.invariant.staged;
      only = c.take.ensures.only ∙ ap (λ (s : Receipt). record s { arrivals = c.take.new.staging.arrivals }) l.invariant.only;
      front = front_after c.args.staging.now.arrivals l.staging.arrivals c.take.new.staging.arrivals l.invariant.front c.take.ensures.front;
      counts = omega (arith, l.invariant.counts, c.take.ensures.counts);
      strict = c.take.ensures.strict ∙ l.invariant.strict;
      unharmed = λ strict none. c.take.ensures.unharmed (l.invariant.strict ∙ strict)
          (none_in_front (outputs_of_delivery plan d) (outputs_of_stack plan c.take_next.new.stack) (sym (ap first_poison top) ∙ first ∙ none)) ∙ l.invariant.unharmed strict none;
    }

pub returns-in_err-goes_on-clause-front : goal.returns-in_err-goes_on-clause-front
returns-in_err-goes_on-clause-front g c =
    front_after c.args.staging.now.arrivals c.elements.staging.arrivals c.take.new.staging.arrivals c.elements.invariant.front c.take.ensures.front

pub returns-in_err-goes_on-clause-refused : goal.returns-in_err-goes_on-clause-refused
returns-in_err-goes_on-clause-refused g c =
    let plan = c.args.graph.now in
    let l = c.elements in
    let d = c.take_next.new.next in
    let at_first = c.args.self.now.stack ++ on_way c.args.goes_on c.args.self.now.next in
    let before = l.self.stack ++ on_way l.goes_on l.self.next in
    let top = top_first plan before c.take_next.new.stack d (sym c.elements-test.ensures.same) in
    let first = same_first l.staging.arrivals c.args.staging.now.arrivals (outputs_of_stack plan before) (outputs_of_stack plan at_first) l.invariant.staged in
    let e = c.in_err-goes_on.field-0.0 in
    let refused = subst (λ (s : Bool). IsCallRefused (record { strict = s; before = g.F.Shelf.faults l.shelf; after = g.F.Shelf.faults c.take.new.shelf }) (outputs_of_delivery plan d) e) l.invariant.strict
    c.in_err-goes_on.ensures.refused in
    let p = err_from_is_err_and c.from_residual.result c.from_residual.ensures.1 in
    rw (p.1, p.2) (refused_in_whole (g.F.Shelf.strict c.args.shelf.now) (g.F.Shelf.faults c.args.shelf.now) (g.F.Shelf.faults l.shelf) (g.F.Shelf.faults c.take.new.shelf)
    (outputs_of_delivery plan d) (outputs_of_stack plan at_first) l.invariant.counts
    (λ at is. sym first ∙ ap first_poison top ∙ first_in_front (outputs_of_delivery plan d) (outputs_of_stack plan c.take_next.new.stack) at is) e refused)

pub returns-in_err-goes_on-clause-unharmed : goal.returns-in_err-goes_on-clause-unharmed
returns-in_err-goes_on-clause-unharmed g c = λ strict none.
    let plan = c.args.graph.now in
    let l = c.elements in
    let d = c.take_next.new.next in
    let at_first = c.args.self.now.stack ++ on_way c.args.goes_on c.args.self.now.next in
    let before = l.self.stack ++ on_way l.goes_on l.self.next in
    let top = top_first plan before c.take_next.new.stack d (sym c.elements-test.ensures.same) in
    let first = same_first l.staging.arrivals c.args.staging.now.arrivals (outputs_of_stack plan before) (outputs_of_stack plan at_first) l.invariant.staged in
    c.take.ensures.unharmed (l.invariant.strict ∙ strict)
    (none_in_front (outputs_of_delivery plan d) (outputs_of_stack plan c.take_next.new.stack) (sym (ap first_poison top) ∙ first ∙ none)) ∙ l.invariant.unharmed strict none
