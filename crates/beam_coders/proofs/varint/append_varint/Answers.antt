use Rattle.std.proofs.Common.{List, ℕ, ◌∷◌, [], ◌++◌, ◌/◌, ◌%◌, ◌+◌, ◌∙◌, sym, ap, append_assoc}
use Rattle.beam_values.specs.Spelling.{varint}
use Rattle.beam_values.proofs.Varints.{varint-last, varint-more}
use Rattle.beam_coders.proofs.Keeping.{keeps_with}
use Rattle.beam_coders.proofs.varint.append_varint.Goals as goal

pub loop-number-preserved : goal.loop-number-preserved
loop-number-preserved c =
    let old = c.loop-number.out in
    let n = c.loop-number.number in
    let group = (128 + n % 128) ∷ [] in
    record {
      whole = ap (λ (text : List ℕ). text ++ varint (n / 128)) c.in_ok-push.ensures.ok ∙ append_assoc old group (varint (n / 128)) ∙ ap (λ (text : List ℕ). old ++ text) (sym (varint-more n c.loop-number-test.true)) ∙ c.loop-number.invariant.whole;
      kept = keeps_with c.args.out.now old group c.push.new.self c.loop-number.invariant.kept c.in_ok-push.ensures.ok;
    }

pub returns-clause-ok : goal.returns-clause-ok
returns-clause-ok c = c.in_ok-push-2.ensures.ok ∙ ap (λ (text : List ℕ). c.loop-number.out ++ text) (sym (varint-last c.loop-number.number c.loop-number-test.false)) ∙ c.loop-number.invariant.whole
