use Rattle.std.proofs.Common.{◌≡◌, ℕ, ◌-◌, ◌^◌, ◌<◌, List, length, drop, Result, Ok, ◌∙◌, ap, subst, arith}
use Rattle.std.proofs.lemmas.Result.{err_from_is_err_and}
use Rattle.beam_values.specs.declared.value.Value.{Value}
use Rattle.beam_coders.specs.declared.refusal.CoderRefusal.{CoderRefusal}
use Rattle.beam_coders.specs.Answers.{GivesFront}
use Rattle.beam_coders.specs.Readable.{depth_limit}
use Rattle.beam_coders.specs.Reading.{value_at}
use Rattle.beam_coders.proofs.Fronts.{value_front, value_only, not_bad}
use Rattle.beam_coders.proofs.reading.read_value.Goals as goal

refused : (c : goal.After-from_residual) → GivesFront c.args.bytes.now c.from_residual.result (value_at depth_limit c.args.bytes.now)
refused c =
    let p = err_from_is_err_and c.from_residual.result c.from_residual.ensures.1 in
    rw (p.1, p.2) c.in_err-value.ensures

pub overflow_sub-result : goal.overflow_sub-result
overflow_sub-result c = (value_front c.args.bytes.now c.in_ok-value.value c.in_ok-value.rest.now (λ i. omega (arith, c.type_inv.bytes i)) c.in_ok-value.ensures).at.room

pub returns-in_err-value-clause-only : goal.returns-in_err-value-clause-only
returns-in_err-value-clause-only c v rest readable e =
    let small : length c.args.bytes.now < 2 ^ 64 = omega arith in
    let G : Result (Value × List ℕ) CoderRefusal → Type 0 = GivesFront c.args.bytes.now c.from_residual.result in
    subst G (value_only c.args.bytes.now v rest small readable e) (refused c)

pub returns-in_err-value-clause-bad : goal.returns-in_err-value-clause-bad
returns-in_err-value-clause-bad c bad v rest readable e =
    not_bad (λ (x : Value × ℕ). (x.0, drop x.1 c.args.bytes.now)) c.from_residual.result (v, rest) bad (returns-in_err-value-clause-only c v rest readable e)

pub returns-clause-exact : goal.returns-clause-exact
returns-clause-exact c =
    let front = value_front c.args.bytes.now c.in_ok-value.value c.in_ok-value.rest.now (λ i. omega (arith, c.type_inv.bytes i)) c.in_ok-value.ensures in
    c.in_ok-value.ensures ∙ ap (λ (r : List ℕ). Ok (c.in_ok-value.value, r)) front.at.back

pub returns-clause-found : goal.returns-clause-found
returns-clause-found c =
    let front = value_front c.args.bytes.now c.in_ok-value.value c.in_ok-value.rest.now (λ i. omega (arith, c.type_inv.bytes i)) c.in_ok-value.ensures in
    (front.readable, omega arith, front.at.front)

pub returns-clause-only : goal.returns-clause-only
returns-clause-only c v rest readable e =
    let small : length c.args.bytes.now < 2 ^ 64 = omega arith in
    let G : Result (Value × List ℕ) CoderRefusal → Type 0 = λ read. read ≡ Ok (c.in_ok-value.value, drop (length c.args.bytes.now - length c.in_ok-value.rest.now) c.args.bytes.now) in
    subst G (value_only c.args.bytes.now v rest small readable e) (returns-clause-exact c)
