use Rattle.std.proofs.Common.{◌≡◌, ℕ, [], ◌∷◌, refl, sym, subst, ◌∙◌}
use Rattle.std.specs.Prelude.{None}
use Rattle.beam_model.specs.Chains.{Arrives, chain}
use Rattle.beam_values.specs.declared.element.Element.{Element}
use Rattle.bundle_commit.specs.declared.job.Job.TheVariants as job
use Rattle.book_core.specs.Calls.{answer_of}
use Rattle.book_core.specs.Steps.{CanCommit, IsTaking, Step, Take}
use Rattle.book_core.specs.declared.live.Taken.{Taken}
use Rattle.book_core.proofs.Worked.{batch_can, committed_free, taken_plan}
use Rattle.book_tests.proofs.book.pass_on.Goals as goal

pub commit-requires : goal.commit-requires
commit-requires c =
    let step : IsTaking c.args.book.now c.args.slot (job.Batch c.in-Some.node c.in-Some.ensures.0 c.in-Some.panes c.in-Some.ensures.1) c.take.new.self =
    subst (λ (t : Taken). Step None c.args.book.now c.args.slot Take (answer_of t) c.take.new.self) c.in-Some.ensures.2 (c.in_ok-take.ensures.ok None) in
    let can : CanCommit None c.take.new.self c.args.slot (record { arrivals = c.in_ok-written.field-0; seen = Rattle.std.specs.Prelude.negsuc 9223372036854774; logged = None }) =
    batch_can c.args.book.now c.take.new.self c.args.slot c.in-Some.node c.in-Some.ensures.0 c.in-Some.ensures.1 3 c.in-Some.panes _ step
    (subst (λ (n : ℕ). (e : Element) → chain c.args.book.now.plan n e ≡ Arrives (record { node = 3; element = e }) ∷ []) (sym c.if-node-ne2.false) c.requires.onward)
    c.in_ok-written.ensures refl in
    can

pub returns-clause-free : goal.returns-clause-free
returns-clause-free c =
    let step : IsTaking c.args.book.now c.args.slot (job.Batch c.in-Some.node c.in-Some.ensures.0 c.in-Some.panes c.in-Some.ensures.1) c.take.new.self =
    subst (λ (t : Taken). Step None c.args.book.now c.args.slot Take (answer_of t) c.take.new.self) c.in-Some.ensures.2 (c.in_ok-take.ensures.ok None) in
    let can : CanCommit None c.take.new.self c.args.slot (record { arrivals = c.in_ok-written.field-0; seen = Rattle.std.specs.Prelude.negsuc 9223372036854774; logged = None }) =
    batch_can c.args.book.now c.take.new.self c.args.slot c.in-Some.node c.in-Some.ensures.0 c.in-Some.ensures.1 3 c.in-Some.panes _ step
    (subst (λ (n : ℕ). (e : Element) → chain c.args.book.now.plan n e ≡ Arrives (record { node = 3; element = e }) ∷ []) (sym c.if-node-ne2.false) c.requires.onward)
    c.in_ok-written.ensures refl in
    (committed_free c.take.new.self c.commit.new.self c.args.slot None _ (c.in-Ok.ensures.ok None can).0).0

pub returns-clause-plan : goal.returns-clause-plan
returns-clause-plan c =
    let step : IsTaking c.args.book.now c.args.slot (job.Batch c.in-Some.node c.in-Some.ensures.0 c.in-Some.panes c.in-Some.ensures.1) c.take.new.self =
    subst (λ (t : Taken). Step None c.args.book.now c.args.slot Take (answer_of t) c.take.new.self) c.in-Some.ensures.2 (c.in_ok-take.ensures.ok None) in
    let can : CanCommit None c.take.new.self c.args.slot (record { arrivals = c.in_ok-written.field-0; seen = Rattle.std.specs.Prelude.negsuc 9223372036854774; logged = None }) =
    batch_can c.args.book.now c.take.new.self c.args.slot c.in-Some.node c.in-Some.ensures.0 c.in-Some.ensures.1 3 c.in-Some.panes _ step
    (subst (λ (n : ℕ). (e : Element) → chain c.args.book.now.plan n e ≡ Arrives (record { node = 3; element = e }) ∷ []) (sym c.if-node-ne2.false) c.requires.onward)
    c.in_ok-written.ensures refl in
    (committed_free c.take.new.self c.commit.new.self c.args.slot None _ (c.in-Ok.ensures.ok None can).0).1
    ∙ taken_plan c.args.book.now c.take.new.self c.args.slot (job.Batch c.in-Some.node c.in-Some.ensures.0 c.in-Some.panes c.in-Some.ensures.1) step
