use Rattle.std.proofs.Common.{◌≡◌, [], reverse, vec_len, arith, subst, sym}
use Rattle.std.proofs.lemmas.List.{nil_from_length}
use Rattle.std.proofs.lemmas.List.Sorted.{IsPermutation-reverse, IsPermutation-trans}
use Rattle.combine_lift.specs.Folds.{AreExtracted, IsExtracted}
use Rattle.combine_lift.proofs.FoldedRows.{extract_end, extract_more}
use Rattle.combine_lift.proofs.extracting.extract_all.Goals as goal

pub loop-row-preserved : goal.loop-row-preserved
loop-row-preserved g c =
    extract_more (IsExtracted g.C.Combiner.stands g.C.Combiner.work) (reverse c.settle.new.rows.items) c.loop-row.rows.items c.pop.new.self.items c.in-Some.row
    c.loop-row.combined.items c.push.new.self.items c.extract.result c.in-Some.ensures.items c.extract.ensures c.in_ok-push.ensures.items c.loop-row.invariant

pub returns : goal.returns
returns g c =
    let empty : vec_len c.loop-row.rows ≡ 0 = c.in_default.ensures.cases.0 in
    let none : c.loop-row.rows.items ≡ [] = nil_from_length c.loop-row.rows.items (omega (arith, c.loop-row.rows.ok.0)) in
    let settled = c.settle.new.rows.items in
    subst (AreExtracted g.C.Combiner.stands g.C.Combiner.work c.args.rows.items) (sym c.from_vec.ensures)
    (record {
      sorted = reverse settled;
      same = IsPermutation-trans c.args.rows.items settled (reverse settled) c.settle.ensures.same (IsPermutation-reverse settled);
      ordered = c.settle.ensures.falling;
      each = extract_end (IsExtracted g.C.Combiner.stands g.C.Combiner.work) (reverse settled) c.loop-row.rows.items c.loop-row.combined.items none c.loop-row.invariant;
    })
