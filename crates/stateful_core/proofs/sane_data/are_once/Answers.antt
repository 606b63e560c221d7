use Rattle.std.proofs.Common.{refl, sym, ◌∙◌}
use Rattle.stateful_core.proofs.Distinct.{noted_key, once_all, once_key, twice_key}
use Rattle.stateful_core.proofs.sane_data.are_once.Goals as goal

pub returns-then-is_some : goal.returns-then-is_some
returns-then-is_some c = (
  λ e. absurd (cc),
  λ h. absurd (twice_key c.args.keys.now c.loop-key.key-index c.key-item.result c.in_ok-name.name c.loop-key-test.true c.key-item.is c.in_ok-name.ensures
      c.loop-key.index.numbers.places c.get.result
      c.get.ensures (sym c.is_some.ensures ∙ c.if-is_some.true) c.loop-key.invariant.noted h),
)

pub loop-key-preserved : goal.loop-key-preserved
loop-key-preserved c = record {
  noted = noted_key c.args.keys.now c.loop-key.key-index c.key-item.result c.in_ok-name.name c.loop-key-test.true c.key-item.is c.in_ok-name.ensures
      c.loop-key.index.numbers.places
      c.add.new.self.numbers.places c.in_ok-add.ensures.ok c.loop-key.invariant.noted;
  once = once_key c.args.keys.now c.loop-key.key-index c.key-item.result c.in_ok-name.name c.loop-key-test.true c.key-item.is c.in_ok-name.ensures
      c.loop-key.index.numbers.places c.get.result
      c.get.ensures (sym c.is_some.ensures ∙ c.if-is_some.false) c.loop-key.invariant.noted c.loop-key.invariant.once;
}

pub returns : goal.returns
returns c = (λ e. once_all c.args.keys.now c.loop-key.key-index c.loop-key-test.false c.loop-key.invariant.once, λ h. refl)
