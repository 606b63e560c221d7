use Rattle.std.proofs.Common.{◌<◌, length, Some, arith, sym, ap, ◌∙◌}
use Rattle.beam_values.specs.Functions.{is_tab}
use Rattle.beam_lines.proofs.Digits.{below_sixteen}
use Rattle.beam_lines.proofs.Stamps.{none_at_end, none_here, none_other, not_tab, stamp_here, tab_here}
use Rattle.beam_lines.proofs.timed.read_stamp.Goals as goal
use Rattle.beam_lines.proofs.timed.read_stamp.Goals.{else-byte-eq-TAB-via-then-byte-eq-TAB+then-len-gt0+else-value, else-byte-eq-TAB-via-then-byte-eq-TAB+else-len-gt0, else-byte-eq-TAB-via-else-byte-eq-TAB}

pub overflow_mul-value : goal.overflow_mul-value
overflow_mul-value c =
    omega (arith, below_sixteen c.loop-len.value c.loop-len.len c.loop-len.invariant.small (omega (arith, c.loop-len-test.true, c.min-len-end.ensures)))

pub overflow_add-value : goal.overflow_add-value
overflow_add-value c =
    omega (arith, below_sixteen c.loop-len.value c.loop-len.len c.loop-len.invariant.small (omega (arith, c.loop-len-test.true, c.min-len-end.ensures)))

pub returns-then-value-clause-value : goal.returns-then-value-clause-value
returns-then-value-clause-value c =
    ap Some c.loop-len.invariant.number
    ∙ stamp_here c.args.text.now c.loop-len.len c.loop-len.invariant.digits (omega (arith, c.loop-len-test.true, c.min-len-end.ensures)) (ap is_tab c.if-byte-eq-TAB.true)
    c.if-len-gt0.true (omega (arith, c.loop-len-test.true, c.min-len-end.ensures)) (omega (arith, c.loop-len.invariant.number, c.if-value.true))

pub returns-then-value-clause-len : goal.returns-then-value-clause-len
returns-then-value-clause-len c =
    sym (tab_here c.args.text.now c.loop-len.len c.loop-len.invariant.digits (omega (arith, c.loop-len-test.true, c.min-len-end.ensures)) (ap is_tab c.if-byte-eq-TAB.true))

pub returns-else-byte-eq-TAB-clause-value : goal.returns-else-byte-eq-TAB-clause-value
returns-else-byte-eq-TAB-clause-value c =
    let inside : c.loop-len.len < length c.args.text.now = omega (arith, c.loop-len-test.true, c.min-len-end.ensures) in
    elim c.else-byte-eq-TAB.branch [
      | else-byte-eq-TAB-via-then-byte-eq-TAB+then-len-gt0+else-value w ↦ none_here c.args.text.now c.loop-len.len c.loop-len.invariant.digits inside (ap is_tab w.if-byte-eq-TAB.true)
          (λ some small. absurd (omega (arith, c.loop-len.invariant.number, w.if-value.false, small)))
      | else-byte-eq-TAB-via-then-byte-eq-TAB+else-len-gt0 w ↦ none_here c.args.text.now c.loop-len.len c.loop-len.invariant.digits inside (ap is_tab w.if-byte-eq-TAB.true)
          (λ some small. absurd (omega (arith, w.if-len-gt0.false, some)))
      | else-byte-eq-TAB-via-else-byte-eq-TAB w ↦ none_other c.args.text.now c.loop-len.len c.loop-len.invariant.digits inside (not_tab _ w.if-byte-eq-TAB.false)
          (sym c.is_ascii_digit.ensures.value ∙ c.if-is_ascii_digit.false)
    ]

pub returns-clause-value : goal.returns-clause-value
returns-clause-value c =
    none_at_end c.args.text.now c.loop-len.len c.loop-len.invariant.digits (omega (arith, c.loop-len-test.false, c.min-len-end.ensures, c.loop-len.auto.len-end))
