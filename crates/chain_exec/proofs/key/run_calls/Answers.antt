use Rattle.std.proofs.Common.{[], Bool, List, ap, subst, ◌∙◌, arith}
use Rattle.std.specs.Option.{option_map}
use Rattle.std.proofs.lemmas.Result.{err_from_is_err_and}
use Rattle.bundle_commit.specs.declared.job.Receipt.{Receipt}
use Rattle.beam_model.specs.Chains.{Output}
use Rattle.beam_model.specs.Steps.{steps}
use Rattle.stateful_core.specs.Facts.{folded}
use Rattle.stateful_core.specs.KeyWork.{call_outputs, calls_outputs}
use Rattle.chain_exec.specs.Causes.{IsCallRefused}
use Rattle.chain_exec.specs.KeyCalls.{behind, kept_of}
use Rattle.chain_exec.proofs.KeySteps.{poison_of_part, none_of_part, staged_more, folded_more}
use Rattle.chain_exec.proofs.Poisons.{refused_in_whole}
use Rattle.chain_exec.proofs.key.run_calls.Goals as goal

pub returns-in_err-run_call-clause-refused : goal.returns-in_err-run_call-clause-refused
returns-in_err-run_call-clause-refused g c =
    let l = c.loop-input in
    let a = c.args in
    let at = a.at.now in
    let plan = at.graph.now in
    let now = kept_of l.logged in
    let first = kept_of a.logged.now in
    let part : List Output = call_outputs plan at.node (λ after. []) (steps at.work at.args.now at.key.now at.span c.input-item.result now) in
    let whole : List Output = calls_outputs plan at.node at.work at.args.now at.key.now at.span a.inputs.now first in
    let e = c.in_err-run_call.field-0.0 in
    let refused = subst (λ (s : Bool). IsCallRefused (record { strict = s; before = g.F.Shelf.faults l.shelf; after = g.F.Shelf.faults c.run_call.new.shelf }) part e) l.invariant.strict c.in_err-run_call.ensures.refused in
    let p = err_from_is_err_and c.from_residual.result c.from_residual.ensures.1 in
    rw (p.1, p.2) (refused_in_whole (g.F.Shelf.strict a.shelf.now) (g.F.Shelf.faults a.shelf.now) (g.F.Shelf.faults l.shelf) (g.F.Shelf.faults c.run_call.new.shelf) part whole l.invariant.counts
    (poison_of_part plan at.node at.work at.args.now at.key.now at.span a.inputs.now l.input-index c.input-item.result c.loop-input-test.true c.input-item.is a.staging.now.arrivals l.staging.arrivals now first l.invariant.staged)
    e refused)

pub returns-in_err-run_call-clause-unharmed : goal.returns-in_err-run_call-clause-unharmed
returns-in_err-run_call-clause-unharmed g c = λ strict no_poison.
    let l = c.loop-input in
    let a = c.args in
    let at = a.at.now in
    c.run_call.ensures.unharmed (l.invariant.strict ∙ strict)
    (none_of_part at.graph.now at.node at.work at.args.now at.key.now at.span a.inputs.now l.input-index c.input-item.result c.loop-input-test.true c.input-item.is a.staging.now.arrivals l.staging.arrivals
    (kept_of l.logged) (kept_of a.logged.now) l.invariant.staged no_poison)
    ∙ l.invariant.unharmed strict no_poison

pub loop-input-preserved : goal.loop-input-preserved
loop-input-preserved g c =
    let l = c.loop-input in
    let a = c.args in
    let at = a.at.now in
    let plan = at.graph.now in
    let now = kept_of l.logged in
    let first = kept_of a.logged.now in
    let after = kept_of c.run_call.new.logged in
    let called = c.in_ok-run_call.ensures.called in
    record {
      unused = c.in_ok-run_call.ensures.unused;
      staged = staged_more plan at.node at.work at.args.now at.key.now at.span a.inputs.now l.input-index c.input-item.result c.loop-input-test.true c.input-item.is a.staging.now.arrivals l.staging.arrivals
          now first l.invariant.staged c.run_call.new.staging.arrivals called.after after called.is called.keeps called.staged;
      logged = folded_more plan at.node at.work at.args.now at.key.now at.span a.inputs.now l.input-index c.input-item.result c.loop-input-test.true c.input-item.is
          (option_map (behind a.logged.now.entries) (folded at.work at.args.now at.key.now at.span 0 first a.inputs.now))
          l.logged.entries c.run_call.new.logged.entries now after called.after called.is called.keeps called.logs l.invariant.logged;
      only = c.run_call.ensures.only ∙ ap (λ (s : Receipt). record s { arrivals = c.run_call.new.staging.arrivals }) l.invariant.only;
      counts = omega (arith, l.invariant.counts, c.run_call.ensures.counts);
      strict = c.run_call.ensures.strict ∙ l.invariant.strict;
      unharmed = λ strict no_poison.
          c.run_call.ensures.unharmed (l.invariant.strict ∙ strict)
          (none_of_part plan at.node at.work at.args.now at.key.now at.span a.inputs.now l.input-index c.input-item.result c.loop-input-test.true c.input-item.is a.staging.now.arrivals l.staging.arrivals
          now first l.invariant.staged no_poison)
          ∙ l.invariant.unharmed strict no_poison;
    }
