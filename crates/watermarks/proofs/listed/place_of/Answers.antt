use Rattle.std.proofs.Common.{◌∙◌, arith, rules, sym}
use Rattle.std.specs.Prelude.{int_lt}
use Rattle.std.proofs.lemmas.Bool.{false≢true}
use Rattle.std.proofs.lemmas.Bool.Decides.{Decides-int_eq}
use Rattle.std.proofs.lemmas.List.Sorted.{IsPartitionPoint-from_clause}
use Rattle.watermarks.proofs.KeptMarks.{none_elsewhere, partitioned}
use Rattle.watermarks.proofs.listed.place_of.Goals as goal
use Rattle.watermarks.proofs.listed.place_of.Goals.{else-at-items-via-then-at-items+else-eq, else-at-items-via-else-at-items}

pub returns-else-at-items-clause-none : goal.returns-else-at-items-clause-none
returns-else-at-items-clause-none c = λ _ there.
    let items = c.args.items.now in
    let m = c.args.m in
    let found = none_elsewhere items m c.partition_point-from.result c.first_held-at.result c.requires
    (IsPartitionPoint-from_clause (λ h. int_lt h.mark m) items c.partition_point-from.result c.partition_point-from.ensures.partitioned (partitioned items m c.requires) (λ a r q k. search rules))
    c.first_held-at.ensures.from c.first_held-at.ensures.spent there in
    elim c.else-at-items.branch [
      | else-at-items-via-then-at-items+else-eq w ↦
          absurd (false≢true (sym w.if-eq.false ∙ w.eq.ensures ∙ (Decides-int_eq _ m).1 (found.1 w.index-items-at.result)))
      | else-at-items-via-else-at-items w ↦
          let past = w.if-at-items.false in
          let inside = found.0 in
          absurd (omega (arith, past, inside))
    ]
