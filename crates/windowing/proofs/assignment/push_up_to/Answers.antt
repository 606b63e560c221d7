use Rattle.std.proofs.Common.{◌≡◌, ◌+ℤ◌, length, take, refl, ap, ◌∙◌, arith, rules}
use Rattle.std.specs.Int.{w64, cast_signed}
use Rattle.std.proofs.lemmas.Int.{ints, to_z-of_z}
use Rattle.windowing.proofs.Ends.{window_from_by_ends}
use Rattle.windowing.proofs.UnderWay.{under_way_first, under_way_more, under_way_all, under_way_kept, nearer}
use Rattle.windowing.proofs.assignment.push_up_to.Goals as goal

pub loop-start-init : goal.loop-start-init
loop-start-init c =
    let f = c.ranges.size in
    let g = c.ranges.period in
    let h = c.ranges.first in
    simp to_z-of_z (under_way_first c.args.size c.args.period c.args.time c.args.first c.args.out.now c.args.first refl)

pub loop-start-smaller : goal.loop-start-smaller
loop-start-smaller c =
    let start = cast_signed w64 c.loop-start.start-bits in
    nearer c.args.period c.args.time start _ c.requires.period_in.0 (omega (arith, ints, c.ms-ms.ensures.value)) (omega (arith, ints))

pub loop-start-preserved : goal.loop-start-preserved
loop-start-preserved c =
    let f = c.ranges.size in
    let g = c.ranges.period in
    let h = c.ranges.first in
    let start = cast_signed w64 c.loop-start.start-bits in
    let so_far = simp to_z-of_z at c.loop-start.invariant in
    let starts : c.between.result.start ≡ start = omega (arith, ints, ap (λ w. w.start) c.between.ensures) in
    let ends : c.between.result.end ≡ start +ℤ c.args.size = omega (arith, ints, ap (λ w. w.end) c.between.ensures) in
    simp to_z-of_z
    (under_way_more c.args.size c.args.period c.args.time c.args.first c.args.out.now c.loop-start.out c.push.new.self start _ c.between.result
    so_far c.requires.period_in.0 (omega (arith, ints, c.ms-ms.ensures.value)) (window_from_by_ends c.between.result c.args.size start starts ends) c.in_ok-push.ensures.ok (omega (arith, ints)))

pub returns-clause-ok : goal.returns-clause-ok
returns-clause-ok c =
    let f = c.ranges.size in
    let g = c.ranges.period in
    let h = c.ranges.first in
    let start = cast_signed w64 c.loop-start.start-bits in
    let so_far = simp to_z-of_z at c.loop-start.invariant in
    under_way_all c.args.size c.args.period c.args.time c.args.first c.args.out.now c.loop-start.out start so_far c.requires.period_in.0 (omega (arith, ints, c.ms-ms.ensures.value))

pub returns-in_err-push-clause-err : goal.returns-in_err-push-clause-err
returns-in_err-push-clause-err c =
    let f = c.ranges.size in
    let g = c.ranges.period in
    let h = c.ranges.first in
    let start = cast_signed w64 c.loop-start.start-bits in
    let so_far = simp to_z-of_z at c.loop-start.invariant in
    let kept : take (length c.args.out.now) c.push.new.self ≡ c.args.out.now =
    ap (take (length c.args.out.now)) c.in_err-push.ensures.err
    ∙ under_way_kept c.args.size c.args.period c.args.time c.args.first c.args.out.now c.loop-start.out start so_far in
    search rules
