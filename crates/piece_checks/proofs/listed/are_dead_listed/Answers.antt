use Rattle.std.proofs.Common.{refl, sym, subst, ◌∙◌, arith, take_all}
use Rattle.std.specs.List.{All}
use Rattle.std.proofs.lemmas.Bool.{false≢true}
use Rattle.std.proofs.lemmas.List.Elements.{All-more}
use Rattle.beam_values.specs.declared.piece.Dead.{Dead}
use Rattle.split_core.specs.Partition.{IsListed}
use Rattle.piece_checks.proofs.listed.are_dead_listed.Goals as goal

pub returns-then-not-is_listed : goal.returns-then-not-is_listed
returns-then-not-is_listed c = (
  λ fails. absurd (false≢true fails),
  λ all. sym c.if-not-is_listed.true ∙ c.is_listed.ensures.1 (all c.loop-d.d-index _ c.loop-d-test.true),
)

pub loop-d-preserved : goal.loop-d-preserved
loop-d-preserved c =
    All-more (λ (d : Dead). IsListed c.args.files.now d.node d.item) c.args.dead.now c.loop-d.d-index _ c.loop-d-test.true c.loop-d.invariant
    (c.is_listed.ensures.0 c.if-not-is_listed.false)

pub returns : goal.returns
returns c =
    let whole = take_all c.loop-d.d-index c.args.dead.now (omega arith) in
    (λ yes. subst (All (λ (d : Dead). IsListed c.args.files.now d.node d.item)) whole c.loop-d.invariant, λ all. refl)
