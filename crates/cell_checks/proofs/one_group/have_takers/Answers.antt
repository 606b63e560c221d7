use Rattle.std.proofs.Common.{◌≡◌, List, take, true, false, refl, rules, sym, subst, arith, ◌∙◌}
use Rattle.std.specs.Borrow.{Bor}
use Rattle.std.specs.Prelude.{is_none}
use Rattle.std.specs.List.{All}
use Rattle.std.proofs.lemmas.Bool.{false≢true}
use Rattle.std.proofs.lemmas.List.{length-map, take_all}
use Rattle.std.proofs.lemmas.List.Elements.{All-push}
use Rattle.beam_values.specs.declared.cell.Cell.{Cell}
use Rattle.group_cells.specs.Sane.{HasTaker}
use Rattle.cell_checks.specs.Listing.{IsLatest, cells_in}
use Rattle.cell_checks.proofs.Takers.{latest_other, one_more, stands, stands_where, taken_at, was_taken_at}
use Rattle.cell_checks.proofs.one_group.have_takers.Goals as goal
use Rattle.cell_checks.proofs.one_group.have_takers.Goals.{then-is_none, else-is_none+else-not-is_merged}

pub returns-then-not-is_merged : goal.returns-then-not-is_merged
returns-then-not-is_merged c =
    let listed = c.args.cells.now in
    let item = c.cell-item.result in
    let none : is_none item.now.merged_into ≡ false = search rules in (
      (λ no. absurd (false≢true no)),
      (λ all.
          absurd (false≢true (sym c.if-not-is_merged.true
          ∙ c.is_merged.ensures.1 (was_taken_at c.args.rules.now listed c.loop-cell.cell-index item c.loop-cell.latest (omega arith) c.cell-item.is c.requires c.loop-cell.invariant.0 all
          (stands_where item.now false none))))),
    )

pub loop-cell-preserved : goal.loop-cell-preserved
loop-cell-preserved c =
    let listed = c.args.cells.now in
    let rs = c.args.rules.now in
    let item = c.cell-item.result in
    let i = c.loop-cell.cell-index in
    let done = take i (cells_in listed) in
    let more = one_more listed i item (omega arith) c.cell-item.is in
    elim c.if-is_none.branch [
      | then-is_none w ↦ (
          let none : is_none item.now.merged_into ≡ true = search rules in
          let on = stands_where item.now true none in (
            subst (λ (l : List Cell). IsLatest stands l c.if-is_none.latest) (sym more) (subst (IsLatest stands _) (sym w.latest-is) (w.later.ensures stands done c.loop-cell.invariant.0 on)),
            subst (λ (l : List Cell). All (HasTaker rs (cells_in listed)) l) (sym more)
                (All-push (HasTaker rs (cells_in listed)) done item.now c.loop-cell.invariant.1 (λ gone. absurd (false≢true (sym gone ∙ on)))),
          )
          )
      | else-is_none+else-not-is_merged w ↦ (
          let none : is_none item.now.merged_into ≡ false = search rules in
          let gone = stands_where item.now false none in
          let parts = w.is_merged.ensures.0 w.if-not-is_merged.false in (
            subst (λ (l : List Cell). IsLatest stands l c.if-is_none.latest) (sym more)
                (subst (IsLatest stands _) (sym w.latest-is) (latest_other stands done c.loop-cell.latest item.now c.loop-cell.invariant.0 gone)),
            subst (λ (l : List Cell). All (HasTaker rs (cells_in listed)) l) (sym more)
                (All-push (HasTaker rs (cells_in listed)) done item.now c.loop-cell.invariant.1
                (taken_at rs listed i item c.loop-cell.latest (omega arith) c.cell-item.is c.requires c.loop-cell.invariant.0 parts.0 parts.1 parts.2)),
          )
          )
    ]

pub returns : goal.returns
returns c =
    let listed = c.args.cells.now in (
      (λ yes.
          subst (λ (l : List Cell). All (HasTaker c.args.rules.now (cells_in listed)) l)
          (take_all c.loop-cell.cell-index (cells_in listed) (omega (arith, length-map listed (λ (place : Bor Cell). place.now)))) c.loop-cell.invariant.1),
      (λ all. refl),
    )
