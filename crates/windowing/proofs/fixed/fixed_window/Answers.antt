use Rattle.std.proofs.Common.{arith, ap, ◌≡◌, ◌-ℤ◌, ◌+ℤ◌, ◌∙◌}
use Rattle.std.specs.Int.{int_rem_euclid}
use Rattle.std.proofs.lemmas.Int.{ints}
use Rattle.windowing.proofs.Ends.{fixed_window_by_ends}
use Rattle.windowing.proofs.Quotients.{read}
use Rattle.windowing.proofs.fixed.fixed_window.Goals as goal

pub returns : goal.returns
returns c =
    let time : read c.ms-ms.result ≡ c.args.time = omega (arith, ints, c.ms-ms.ensures.value) in
    let size : read c.args.size ≡ c.args.size = omega (arith, ints) in
    let rest : c.rem_euclid-since_start.result ≡ int_rem_euclid c.args.time c.args.size =
    c.rem_euclid-since_start.ensures.value ∙ (λ i. int_rem_euclid (time i) (size i)) in
    let start : c.between.result.start ≡ (c.args.time -ℤ int_rem_euclid c.args.time c.args.size) =
    omega (arith, ints, ap (λ w. w.start) c.between.ensures, c.ms-ms.ensures.value) in
    let end : c.between.result.end ≡ (c.between.result.start +ℤ c.args.size) =
    omega (arith, ints, ap (λ w. w.end) c.between.ensures, ap (λ w. w.start) c.between.ensures) in
    fixed_window_by_ends c.between.result c.args.size c.args.time start end
