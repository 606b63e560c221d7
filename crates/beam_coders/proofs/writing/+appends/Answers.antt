use Rattle.std.proofs.Common.{◌++◌, ◌∷◌, [], FitsSigned, w64, sym, ap, subst, ◌∙◌, arith}
use Rattle.std.specs.List.{AllByRecursion}
use Rattle.beam_values.specs.declared.value.Value.{Value}
use Rattle.beam_values.specs.Spelling.{spelling}
use Rattle.beam_values.specs.Storable.{IsStorable}
use Rattle.beam_values.proofs.Storable.{Null-fits, Int-fits, Blob-fits, Pair-fits, Seq-fits}
use Rattle.beam_coders.proofs.Keeping.{keeps_self, keeps_on, keeps_with, on_ok}
use Rattle.beam_coders.proofs.Written.{pair_written}
use Rattle.beam_coders.proofs.writing.+appends.Goals as goal

pub append_value-returns-in_ok-push-in-Null-clause-words : goal.append_value-returns-in_ok-push-in-Null-clause-words
append_value-returns-in_ok-push-in-Null-clause-words t c = subst IsStorable (sym c.in-Null.is) Null-fits

pub append_value-returns-in-Int-clause-words : goal.append_value-returns-in-Int-clause-words
append_value-returns-in-Int-clause-words t c =
    let fits : FitsSigned w64 c.in-Int.number = record { sfits = omega arith } in
    on_ok c.append_int.result (λ _. subst IsStorable (sym c.in-Int.is) (Int-fits c.in-Int.number fits)) c.append_int.ensures.ok

pub append_value-returns-in-Blob-clause-words : goal.append_value-returns-in-Blob-clause-words
append_value-returns-in-Blob-clause-words t c = on_ok c.append_blob.result (λ _. subst IsStorable (sym c.in-Blob.is) (Blob-fits c.in-Blob.bytes)) c.append_blob.ensures.ok

pub append_value-returns-in_ok-append_value-in-Pair-clause-ok : goal.append_value-returns-in_ok-append_value-in-Pair-clause-ok
append_value-returns-in_ok-append_value-in-Pair-clause-ok t c =
    let tag = c.in_ok-push-in-Pair.ensures.ok in
    let key = c.in_ok-append_value-in-Pair.ensures.ok in
    let whole = pair_written c.args.out.now c.push-in-Pair.new.self c.append_value.new.out c.append_value-in-Pair.new.out c.in-Pair.key c.in-Pair.value in
    on_ok c.append_value-in-Pair.result (λ value. whole tag (cc (key, c.get.ensures)) (cc (value, c.get-in-Pair.ensures)) ∙ ap (λ (v : Value). c.args.out.now ++ spelling v) (sym c.in-Pair.is)) c.append_value-in-Pair.ensures.ok

pub append_value-returns-in_ok-append_value-in-Pair-clause-words : goal.append_value-returns-in_ok-append_value-in-Pair-clause-words
append_value-returns-in_ok-append_value-in-Pair-clause-words t c =
    on_ok c.append_value-in-Pair.result
    (λ fits. subst IsStorable (sym c.in-Pair.is) (Pair-fits c.in-Pair.key c.in-Pair.value (subst IsStorable c.get.ensures c.in_ok-append_value-in-Pair.ensures.words) (subst IsStorable c.get-in-Pair.ensures fits)))
    c.append_value-in-Pair.ensures.words

pub append_value-returns-in_ok-append_value-in-Pair-clause-kept : goal.append_value-returns-in_ok-append_value-in-Pair-clause-kept
append_value-returns-in_ok-append_value-in-Pair-clause-kept t c =
    keeps_on c.args.out.now c.append_value.new.out c.append_value-in-Pair.new.out
    (keeps_on c.args.out.now c.push-in-Pair.new.self c.append_value.new.out (keeps_with c.args.out.now c.args.out.now (3 ∷ []) c.push-in-Pair.new.self (keeps_self c.args.out.now) c.in_ok-push-in-Pair.ensures.ok) c.append_value.ensures.kept)
    c.append_value-in-Pair.ensures.kept

pub append_value-returns-in-Seq-clause-words : goal.append_value-returns-in-Seq-clause-words
append_value-returns-in-Seq-clause-words t c =
    on_ok c.append_seq.result (λ fits. subst IsStorable (sym c.in-Seq.is) (Seq-fits c.in-Seq.items (subst (AllByRecursion IsStorable) c.as_slice-in-Seq.ensures fits))) c.append_seq.ensures.words
