use Rattle.std.proofs.Common.{◌≡◌, ◌++◌, map, ap, subst, ◌∙◌, List}
use Rattle.std.specs.Prelude.{IfErr, OnOk}
use Rattle.beam_model.specs.Chains.{Output, Arrives}
use Rattle.beam_model.specs.Spread.{first_poison}
use Rattle.chain_exec.specs.Causes.{observed_shelf, IsCallRefused}
use Rattle.chain_exec.specs.Deliveries.{on_way}
use Rattle.chain_exec.proofs.Passings.{values_alone}
use Rattle.chain_exec.proofs.buffers.Buffers.send_emission.Goals as goal

pub returns-clause-staged : goal.returns-clause-staged
returns-clause-staged g c =
    let chained = values_alone c.args.graph.now c.followers-followers.ensures.checked c.args.node c.args.self.now.emission.items c.args.self.now.emission.declared
    c.followers-followers.result.now c.args.self.now.stack (c.forward_values.new.stack ++ on_way c.in_ok-goes_on.goes_on c.forward_values.new.next)
    c.followers-followers.ensures.value c.requires.unused.stack c.in_ok-goes_on.ensures.stack in
    subst (λ (o : List Output). OnOk c.carry.result (map Arrives c.carry.new.staging.arrivals ≡ map Arrives c.args.staging.now.arrivals ++ o)) chained c.carry.ensures.staged

pub returns-clause-refused : goal.returns-clause-refused
returns-clause-refused g c =
    let chained = values_alone c.args.graph.now c.followers-followers.ensures.checked c.args.node c.args.self.now.emission.items c.args.self.now.emission.declared
    c.followers-followers.result.now c.args.self.now.stack (c.forward_values.new.stack ++ on_way c.in_ok-goes_on.goes_on c.forward_values.new.next)
    c.followers-followers.ensures.value c.requires.unused.stack c.in_ok-goes_on.ensures.stack in
    subst (λ (o : List Output). IfErr c.carry.result (IsCallRefused (observed_shelf g.F.Shelf.strict g.F.Shelf.faults c.args.shelf.now c.carry.new.shelf) o)) chained c.carry.ensures.refused

pub returns-clause-unharmed : goal.returns-clause-unharmed
returns-clause-unharmed g c = λ strict none.
    let chained = values_alone c.args.graph.now c.followers-followers.ensures.checked c.args.node c.args.self.now.emission.items c.args.self.now.emission.declared
    c.followers-followers.result.now c.args.self.now.stack (c.forward_values.new.stack ++ on_way c.in_ok-goes_on.goes_on c.forward_values.new.next)
    c.followers-followers.ensures.value c.requires.unused.stack c.in_ok-goes_on.ensures.stack in
    c.carry.ensures.unharmed strict (ap first_poison chained ∙ none)
