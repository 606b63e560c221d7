use Rattle.std.proofs.Common.{◌≡◌, ℕ, true, false, refl, sym, subst, ◌∙◌}
use Rattle.std.specs.Prelude.{None}
use Rattle.beam_model.specs.Reach.{reaches_barrier}
use Rattle.bundle_commit.specs.declared.job.Job.TheVariants as job
use Rattle.book_core.specs.Calls.{answer_of}
use Rattle.book_core.specs.Steps.{CanCommit, IsTaking, Step, Take}
use Rattle.book_core.specs.Work.{is_known}
use Rattle.book_core.specs.declared.live.Taken.{Taken}
use Rattle.book_core.proofs.Worked.{claimed_works, committed_free, plausible_at, range_can, taken_plan, taken_range}
use Rattle.book_tests.proofs.book.work_range.Goals as goal

pub claim-requires : goal.claim-requires
claim-requires c =
    let step : IsTaking c.args.book.now c.args.slot (job.Span c.in-Some.piece) c.take.new.self =
    subst (λ (t : Taken). Step None c.args.book.now c.args.slot Take (answer_of t) c.take.new.self) c.in-Some.ensures (c.in_ok-taken.ensures.ok None) in
    record {
      piece = c.in-Some.piece;
      attempted = None;
      works = record { works = taken_range c.args.book.now c.take.new.self c.args.slot c.in-Some.piece step; fresh = c.if-not-fits.ensures.fresh refl };
      may = record { from_start = c.if-not-fits.ensures.from refl; ascending = tt };
    }

pub commit-requires : goal.commit-requires
commit-requires c =
    let step : IsTaking c.args.book.now c.args.slot (job.Span c.in-Some.piece) c.take.new.self =
    subst (λ (t : Taken). Step None c.args.book.now c.args.slot Take (answer_of t) c.take.new.self) c.in-Some.ensures (c.in_ok-taken.ensures.ok None) in
    let can : CanCommit None c.claim.new.self c.args.slot (record { arrivals = c.args.arrivals; seen = c.args.seen; logged = None }) =
    range_can c.args.book.now c.take.new.self c.claim.new.self c.args.slot c.args.last c.in-Some.piece c.claim.result _ step (c.claim.ensures None)
    (subst (λ (n : ℕ). is_known None c.args.book.now.plan n ≡ false) (sym (c.if-not-fits.ensures.node refl)) c.requires.unknown)
    (plausible_at c.args.book.now.plan 2 c.in-Some.piece _
    (subst (λ (n : ℕ). reaches_barrier c.args.book.now.plan n 2 ≡ true) (sym (c.if-not-fits.ensures.node refl)) c.requires.reaches)
    c.requires.fixed c.requires.at c.requires.ends c.requires.times (c.if-not-fits.ensures.seen refl) c.if-not-fits.ensures.time) refl in
    can

pub returns-clause-free : goal.returns-clause-free
returns-clause-free c =
    let step : IsTaking c.args.book.now c.args.slot (job.Span c.in-Some.piece) c.take.new.self =
    subst (λ (t : Taken). Step None c.args.book.now c.args.slot Take (answer_of t) c.take.new.self) c.in-Some.ensures (c.in_ok-taken.ensures.ok None) in
    let can : CanCommit None c.claim.new.self c.args.slot (record { arrivals = c.args.arrivals; seen = c.args.seen; logged = None }) =
    range_can c.args.book.now c.take.new.self c.claim.new.self c.args.slot c.args.last c.in-Some.piece c.claim.result _ step (c.claim.ensures None)
    (subst (λ (n : ℕ). is_known None c.args.book.now.plan n ≡ false) (sym (c.if-not-fits.ensures.node refl)) c.requires.unknown)
    (plausible_at c.args.book.now.plan 2 c.in-Some.piece _
    (subst (λ (n : ℕ). reaches_barrier c.args.book.now.plan n 2 ≡ true) (sym (c.if-not-fits.ensures.node refl)) c.requires.reaches)
    c.requires.fixed c.requires.at c.requires.ends c.requires.times (c.if-not-fits.ensures.seen refl) c.if-not-fits.ensures.time) refl in
    (committed_free c.claim.new.self c.commit.new.self c.args.slot None _ (c.in-Ok.ensures.ok None can).0).0

pub returns-clause-plan : goal.returns-clause-plan
returns-clause-plan c =
    let step : IsTaking c.args.book.now c.args.slot (job.Span c.in-Some.piece) c.take.new.self =
    subst (λ (t : Taken). Step None c.args.book.now c.args.slot Take (answer_of t) c.take.new.self) c.in-Some.ensures (c.in_ok-taken.ensures.ok None) in
    let can : CanCommit None c.claim.new.self c.args.slot (record { arrivals = c.args.arrivals; seen = c.args.seen; logged = None }) =
    range_can c.args.book.now c.take.new.self c.claim.new.self c.args.slot c.args.last c.in-Some.piece c.claim.result _ step (c.claim.ensures None)
    (subst (λ (n : ℕ). is_known None c.args.book.now.plan n ≡ false) (sym (c.if-not-fits.ensures.node refl)) c.requires.unknown)
    (plausible_at c.args.book.now.plan 2 c.in-Some.piece _
    (subst (λ (n : ℕ). reaches_barrier c.args.book.now.plan n 2 ≡ true) (sym (c.if-not-fits.ensures.node refl)) c.requires.reaches)
    c.requires.fixed c.requires.at c.requires.ends c.requires.times (c.if-not-fits.ensures.seen refl) c.if-not-fits.ensures.time) refl in
    (committed_free c.claim.new.self c.commit.new.self c.args.slot None _ (c.in-Ok.ensures.ok None can).0).1
    ∙ (claimed_works c.take.new.self c.claim.new.self c.args.slot c.args.last c.in-Some.piece c.claim.result (taken_range c.args.book.now c.take.new.self c.args.slot c.in-Some.piece step) (c.claim.ensures None)).1
    ∙ taken_plan c.args.book.now c.take.new.self c.args.slot (job.Span c.in-Some.piece) step
