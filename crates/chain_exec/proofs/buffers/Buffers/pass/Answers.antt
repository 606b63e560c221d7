use Rattle.std.proofs.Common.{◌++◌, subst, sym}
use Rattle.chain_exec.specs.Deliveries.{on_way}
use Rattle.chain_exec.specs.Passing.{Passes}
use Rattle.chain_exec.proofs.Passings.{flatten_passes}
use Rattle.chain_exec.proofs.buffers.Buffers.pass.Goals as goal

pub returns-in_ok-forward-in-Flatten-clause-passed : goal.returns-in_ok-forward-in-Flatten-clause-passed
returns-in_ok-forward-in-Flatten-clause-passed g c =
    let after = c.forward.new.stack ++ on_way c.in_ok-forward-in-Flatten.field-0 c.forward.new.next in
    subst (λ kind. Passes c.args.self.now.next.node kind c.args.followers.now c.args.self.now.next.element c.args.self.now.stack after c.args.staging.now.arrivals c.args.staging.now.arrivals) (sym c.in-Flatten.is)
    (flatten_passes c.args.self.now.next.node c.args.followers.now c.args.self.now.next.element c.args.self.now.stack after c.args.staging.now.arrivals c.in_ok-forward-in-Flatten.ensures)
