use Rattle.std.proofs.Common.{length, ◌-◌, ◌++◌, arith, ap, sym, subst, ◌∙◌, slice_get}
use Rattle.std.specs.Option.{option_copied}
use Rattle.std.proofs.lemmas.List.{append-nil}
use Rattle.std.proofs.lemmas.Result.{IfOk-weaker}
use Rattle.beam_values.specs.declared.plan.Plan.{Plan}
use Rattle.pipeline_graph.proofs.CheckedPlans.{node_settings}
use Rattle.chain_exec.specs.Deliveries.{on_way}
use Rattle.chain_exec.specs.Passing.{Passes, stops_of_all}
use Rattle.chain_exec.proofs.Passings.{passed_on}
use Rattle.chain_exec.proofs.Stops.{passed_less, some_stop}
use Rattle.chain_exec.proofs.buffers.Buffers.take.Goals as goal

pub returns-in_default-clause-less : goal.returns-in_default-clause-less
returns-in_default-clause-less g c =
    omega (
      arith,
      some_stop c.args.graph.now (length c.args.graph.now.nodes - c.args.self.now.next.node) c.args.self.now.next,
      ap (stops_of_all c.args.graph.now) (append-nil c.args.self.now.stack),
    )

pub pass-requires-clause-settings : goal.pass-requires-clause-settings
pass-requires-clause-settings g c κs within =
    let here = ap (λ (p : Plan). slice_get p.nodes c.args.self.now.next.node) (sym c.plan.ensures.value) ∙ sym c.get.ensures.value ∙ ap option_copied c.in-Some.is in
    node_settings c.args.graph.now c.args.self.now.next.node c.in-Some.at.now c.plan.ensures.checked here

pub returns-clause-staged : goal.returns-clause-staged
returns-clause-staged g c =
    let here = ap (λ (p : Plan). slice_get p.nodes c.args.self.now.next.node) (sym c.plan.ensures.value) ∙ sym c.get.ensures.value ∙ ap option_copied c.in-Some.is in
    IfOk-weaker c.pass.result _ _ (λ goes_on passes. passed_on c.args.graph.now c.plan.ensures.checked c.args.self.now.next.node c.in-Some.at.now c.args.self.now.next.element
    c.args.self.now.stack (c.pass.new.self.stack ++ on_way goes_on c.pass.new.self.next) c.args.staging.now.arrivals c.pass.new.staging.arrivals here
    (subst (λ fs. Passes c.args.self.now.next.node c.in-Some.at.now.kind fs c.args.self.now.next.element c.args.self.now.stack (c.pass.new.self.stack ++ on_way goes_on c.pass.new.self.next)
    c.args.staging.now.arrivals c.pass.new.staging.arrivals) c.followers-followers.ensures.value passes)) c.pass.ensures.passed

pub returns-clause-less : goal.returns-clause-less
returns-clause-less g c =
    let here = ap (λ (p : Plan). slice_get p.nodes c.args.self.now.next.node) (sym c.plan.ensures.value) ∙ sym c.get.ensures.value ∙ ap option_copied c.in-Some.is in
    IfOk-weaker c.pass.result _ _ (λ goes_on passes. passed_less c.args.graph.now c.plan.ensures.checked c.args.self.now.next.node c.in-Some.at.now c.args.self.now.next.element here
    c.args.self.now.stack (c.pass.new.self.stack ++ on_way goes_on c.pass.new.self.next) c.args.staging.now.arrivals c.pass.new.staging.arrivals
    (subst (λ fs. Passes c.args.self.now.next.node c.in-Some.at.now.kind fs c.args.self.now.next.element c.args.self.now.stack (c.pass.new.self.stack ++ on_way goes_on c.pass.new.self.next)
    c.args.staging.now.arrivals c.pass.new.staging.arrivals) c.followers-followers.ensures.value passes)) c.pass.ensures.passed
