use Rattle.std.proofs.Common.{◌≡◌, ℕ, ◌-◌, ◌^◌, ◌<◌, List, length, drop, Result, Ok, ◌∙◌, ap, subst, arith}
use Rattle.std.proofs.lemmas.Result.{err_from_is_err_and}
use Rattle.beam_values.specs.declared.element.Element.{Element}
use Rattle.beam_coders.specs.declared.refusal.CoderRefusal.{CoderRefusal}
use Rattle.beam_coders.specs.Answers.{GivesFront}
use Rattle.beam_coders.specs.Reading.{element_at}
use Rattle.beam_coders.proofs.ElementLaws.{element_front, element_only}
use Rattle.beam_coders.proofs.Fronts.{not_bad}
use Rattle.beam_coders.proofs.elements.read_element.Goals as goal

refused : (c : goal.After-from_residual) → GivesFront c.args.bytes.now c.from_residual.result (element_at c.args.bytes.now)
refused c =
    let p = err_from_is_err_and c.from_residual.result c.from_residual.ensures.1 in
    rw (p.1, p.2) c.in_err-element.ensures

pub overflow_sub-result : goal.overflow_sub-result
overflow_sub-result c = (element_front c.args.bytes.now c.in_ok-element.element c.in_ok-element.rest.now (λ i. omega (arith, c.type_inv.bytes i)) c.in_ok-element.ensures).at.room

pub returns-in_err-element-clause-only : goal.returns-in_err-element-clause-only
returns-in_err-element-clause-only c v rest readable e =
    let small : length c.args.bytes.now < 2 ^ 64 = omega arith in
    let G : Result (Element × List ℕ) CoderRefusal → Type 0 = GivesFront c.args.bytes.now c.from_residual.result in
    subst G (element_only c.args.bytes.now v rest small readable e) (refused c)

pub returns-in_err-element-clause-bad : goal.returns-in_err-element-clause-bad
returns-in_err-element-clause-bad c bad v rest readable e =
    not_bad (λ (x : Element × ℕ). (x.0, drop x.1 c.args.bytes.now)) c.from_residual.result (v, rest) bad (returns-in_err-element-clause-only c v rest readable e)

pub returns-clause-exact : goal.returns-clause-exact
returns-clause-exact c =
    let front = element_front c.args.bytes.now c.in_ok-element.element c.in_ok-element.rest.now (λ i. omega (arith, c.type_inv.bytes i)) c.in_ok-element.ensures in
    c.in_ok-element.ensures ∙ ap (λ (r : List ℕ). Ok (c.in_ok-element.element, r)) front.at.back

pub returns-clause-found : goal.returns-clause-found
returns-clause-found c =
    let front = element_front c.args.bytes.now c.in_ok-element.element c.in_ok-element.rest.now (λ i. omega (arith, c.type_inv.bytes i)) c.in_ok-element.ensures in
    (front.readable, omega arith, front.at.front)

pub returns-clause-only : goal.returns-clause-only
returns-clause-only c v rest readable e =
    let small : length c.args.bytes.now < 2 ^ 64 = omega arith in
    let G : Result (Element × List ℕ) CoderRefusal → Type 0 = λ read. read ≡ Ok (c.in_ok-element.element, drop (length c.args.bytes.now - length c.in_ok-element.rest.now) c.args.bytes.now) in
    subst G (element_only c.args.bytes.now v rest small readable e) (returns-clause-exact c)
