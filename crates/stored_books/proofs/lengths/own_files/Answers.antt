use Rattle.std.proofs.Common.{sym, ◌∙◌, arith}
use Rattle.std.proofs.lemmas.Bool.{false≢true}
use Rattle.stored_books.proofs.OwnLengths.{is_missing, no_more, one_more}
use Rattle.stored_books.proofs.lengths.own_files.Goals as goal

pub returns-then-not-is_item_at-clause-own : goal.returns-then-not-is_item_at-clause-own
returns-then-not-is_item_at-clause-own c = λ work args others reads. (
  λ h.
      false≢true
      (sym c.if-not-is_item_at.true
      ∙ c.is_item_at.ensures.1
      (is_missing c.args.number c.loop-item.item c.args.names.now c.args.files.now c.loop-item-test.true c.loop-item.invariant work args others reads h)),
  λ h. absurd h,
)

pub loop-item-preserved : goal.loop-item-preserved
loop-item-preserved c =
    one_more c.args.number c.loop-item.item c.args.names.now c.args.files.now c.loop-item-test.true c.loop-item.invariant
    (c.is_item_at.ensures.0 c.if-not-is_item_at.false)

pub returns-clause-own : goal.returns-clause-own
returns-clause-own c = no_more c.args.number c.loop-item.item c.args.names.now c.args.files.now (omega arith) c.loop-item.invariant
