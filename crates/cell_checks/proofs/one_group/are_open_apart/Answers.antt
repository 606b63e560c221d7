use Rattle.std.proofs.Common.{List, take, sym, subst, arith, ◌∙◌}
use Rattle.std.proofs.lemmas.Bool.{false≢true}
use Rattle.beam_values.specs.declared.cell.Cell.{Cell}
use Rattle.group_cells.specs.Rounds.{is_open, open_windows}
use Rattle.group_cells.specs.Sane.{AreAllApart}
use Rattle.cell_checks.specs.Listing.{IsLatest, cells_in}
use Rattle.cell_checks.proofs.OpenApart.{apart_at, open_same, were_apart_at}
use Rattle.cell_checks.proofs.Takers.{latest_other, one_more}
use Rattle.cell_checks.proofs.one_group.are_open_apart.Goals as goal
use Rattle.cell_checks.proofs.one_group.are_open_apart.Goals.{then-is_open+else-begins_within, else-is_open}

pub returns-then-begins_within : goal.returns-then-begins_within
returns-then-begins_within c = (
  (λ no. absurd (false≢true no)),
  (λ windows.
      absurd (were_apart_at c.args.rules.now c.args.mark c.args.cells.now c.loop-cell.cell-index c.cell-item.result c.loop-cell.latest (omega arith) c.cell-item.is c.requires c.loop-cell.invariant.0
      (sym c.is_open.ensures ∙ c.if-is_open.true) windows (c.begins_within.ensures.within.0 c.if-begins_within.true))),
)

pub loop-cell-preserved : goal.loop-cell-preserved
loop-cell-preserved c =
    let listed = c.args.cells.now in
    let rs = c.args.rules.now in
    let mark = c.args.mark in
    let item = c.cell-item.result in
    let i = c.loop-cell.cell-index in
    let done = take i (cells_in listed) in
    let more = one_more listed i item (omega arith) c.cell-item.is in
    elim c.if-is_open.branch [
      | then-is_open+else-begins_within w ↦ (
          let on = sym c.is_open.ensures ∙ w.if-is_open.true in (
            subst (λ (l : List Cell). IsLatest (is_open rs mark) l c.if-is_open.latest) (sym more)
                (subst (IsLatest (is_open rs mark) _) (sym w.latest-is) (w.later.ensures (is_open rs mark) done c.loop-cell.invariant.0 on)),
            apart_at rs mark listed i item c.loop-cell.latest (omega arith) c.cell-item.is c.requires c.loop-cell.invariant.0 on w.begins_within.ensures.filled
                (λ begun. absurd (false≢true (sym w.if-begins_within.false ∙ w.begins_within.ensures.within.1 begun))) c.loop-cell.invariant.1,
          )
          )
      | else-is_open w ↦ (
          let off = sym c.is_open.ensures ∙ w.if-is_open.false in (
            subst (λ (l : List Cell). IsLatest (is_open rs mark) l c.if-is_open.latest) (sym more)
                (subst (IsLatest (is_open rs mark) _) (sym w.latest-is) (latest_other (is_open rs mark) done c.loop-cell.latest item.now c.loop-cell.invariant.0 off)),
            subst (λ (l : List Cell). AreAllApart (open_windows rs mark l)) (sym more) (subst AreAllApart (sym (open_same rs mark done item.now off)) c.loop-cell.invariant.1),
          )
          )
    ]
