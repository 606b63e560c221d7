use Rattle.std.proofs.Common.{◌≡◌, ◌≢◌, ◌<◌, ◌∙◌, FitsSigned, w64, sym, ap, length, arith}
use Rattle.std.specs.declared.cmp.Ordering.TheVariants.{Equal}
use Rattle.std.specs.Ordering.{nat_cmp}
use Rattle.std.specs.Cmp.Lexicographic.{slice_cmp}
use Rattle.beam_values.specs.Spelling.{varint, two's_complement, spelling}
use Rattle.std.proofs.lemmas.Int.{to_z-of_z}
use Rattle.beam_values.proofs.SignedBits.{ints_alike}
use Rattle.beam_values.proofs.Lexicographic.{same_where_tied}
use Rattle.beam_values.proofs.Varints.{varint-same, blob-same}
use Rattle.beam_values.proofs.Spellings.{pairs_tie, pairs_apart, items_tie, items_apart, seqs_tie, seqs_apart, same_more}
use Rattle.beam_values.proofs.compare.+orders.Goals as goal

pub cmp_values-returns-in-Int-Int-clause-same : goal.cmp_values-returns-in-Int-Int-clause-same
cmp_values-returns-in-Int-Int-clause-same t c tie =
    let a = c.in-Int-Int.a in
    let b = c.in-Int-Int.b in
    let f : FitsSigned w64 a = record { sfits = omega arith } in
    let g : FitsSigned w64 b = record { sfits = omega arith } in
    let x = ap two's_complement (to_z-of_z w64 a f) in
    let y = ap two's_complement (to_z-of_z w64 b g) in
    let tied : slice_cmp nat_cmp (varint (two's_complement a)) (varint (two's_complement b)) ≡ Equal = cc in
    let same = ints_alike a b f g tied in
    cc

pub cmp_values-returns-in-Blob-Blob-clause-same : goal.cmp_values-returns-in-Blob-Blob-clause-same
cmp_values-returns-in-Blob-Blob-clause-same t c tie = let same = blob-same c.as_slice.result.now c.as_slice-in-Blob-Blob.result.now (sym c.cmp_blobs.ensures ∙ tie) in cc

pub cmp_values-returns-in-Equal-clause-order : goal.cmp_values-returns-in-Equal-clause-order
cmp_values-returns-in-Equal-clause-order t c =
    let p = c.in-Pair-Pair in
    let tie : slice_cmp nat_cmp (spelling p.key) (spelling p.other_key) ≡ Equal = cc in
    let whole = pairs_tie p.key p.value p.other_key p.other_value tie in
    cc

pub cmp_values-returns-in_default-cmp_values-clause-order : goal.cmp_values-returns-in_default-cmp_values-clause-order
cmp_values-returns-in_default-cmp_values-clause-order t c =
    let p = c.in-Pair-Pair in
    let same : c.cmp_values.result ≡ slice_cmp nat_cmp (spelling p.key) (spelling p.other_key) = cc in
    let whole = pairs_apart p.key p.value p.other_key p.other_value (λ e. c.in_default-cmp_values.not-Equal (same ∙ e)) in
    cc

pub cmp_values-returns-then-len-clause-order : goal.cmp_values-returns-then-len-clause-order
cmp_values-returns-then-len-clause-order t c =
    let p = c.in-Seq-Seq in
    let whole = seqs_tie p.items p.others cc in
    cc

pub cmp_values-returns-else-len-clause-order : goal.cmp_values-returns-else-len-clause-order
cmp_values-returns-else-len-clause-order t c =
    let p = c.in-Seq-Seq in
    let whole = seqs_apart p.items p.others (λ e. c.if-len.false (c.len.ensures ∙ e ∙ sym c.len-in-Seq-Seq.ensures)) in
    cc

pub cmp_values-returns-else-len-clause-same : goal.cmp_values-returns-else-len-clause-same
cmp_values-returns-else-len-clause-same t c tie =
    absurd (c.if-len.false (cc (varint-same c.len-else-len.result c.len-else-len-2.result (same_where_tied (varint c.len-else-len.result) (varint c.len-else-len-2.result) (sym c.cmp_varints.ensures ∙ tie)))))

pub cmp_items-returns-in_default-clause-order : goal.cmp_items-returns-in_default-clause-order
cmp_items-returns-in_default-clause-order t c =
    let room : c.loop-i.i < length c.args.b.now = omega arith in
    let differ : slice_cmp nat_cmp (spelling c.index-a-i.result) (spelling c.index-b-i.result) ≢ Equal = λ e. c.in_default.not-Equal (c.cmp_values.ensures.order ∙ e) in
    c.cmp_values.ensures.order ∙ items_apart c.args.a.now c.args.b.now c.loop-i.i c.index-a-i.result c.index-b-i.result c.loop-i-test.true room c.index-a-i.is c.index-b-i.is differ ∙ c.loop-i.invariant.order

pub cmp_items-loop-i-preserved : goal.cmp_items-loop-i-preserved
cmp_items-loop-i-preserved t c =
    let room : c.loop-i.i < length c.args.b.now = omega arith in
    let tie : slice_cmp nat_cmp (spelling c.index-a-i.result) (spelling c.index-b-i.result) ≡ Equal = sym c.cmp_values.ensures.order ∙ c.in-Equal.is in
    record {
      same = same_more c.args.a.now c.args.b.now c.loop-i.i c.index-a-i.result c.index-b-i.result c.loop-i-test.true room c.index-a-i.is c.index-b-i.is c.loop-i.invariant.same (c.cmp_values.ensures.same c.in-Equal.is);
      order = items_tie c.args.a.now c.args.b.now c.loop-i.i c.index-a-i.result c.index-b-i.result c.loop-i-test.true room c.index-a-i.is c.index-b-i.is tie ∙ c.loop-i.invariant.order;
    }
