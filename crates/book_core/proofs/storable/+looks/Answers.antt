use Rattle.std.proofs.Common.{FitsSigned, w64, sym, subst, arith}
use Rattle.std.specs.List.{AllByRecursion}
use Rattle.beam_values.specs.Storable.{IsStorable}
use Rattle.beam_values.proofs.Storable.{Null-fits, Int-fits, Blob-fits, Pair-fits, Seq-fits}
use Rattle.book_core.proofs.storable.+looks.Goals as goal

pub look_at-returns-in-Null : goal.look_at-returns-in-Null
look_at-returns-in-Null t c = subst IsStorable (sym c.in-Null.is) Null-fits

pub look_at-returns-in-Int : goal.look_at-returns-in-Int
look_at-returns-in-Int t c =
    let fits : FitsSigned w64 c.in-Int.number = record { sfits = omega arith } in
    subst IsStorable (sym c.in-Int.is) (Int-fits c.in-Int.number fits)

pub look_at-returns-in-Blob : goal.look_at-returns-in-Blob
look_at-returns-in-Blob t c = subst IsStorable (sym c.in-Blob.is) (Blob-fits c.in-Blob._bytes)

pub look_at-returns-in-Pair : goal.look_at-returns-in-Pair
look_at-returns-in-Pair t c =
    subst IsStorable (sym c.in-Pair.is)
    (Pair-fits c.in-Pair.key c.in-Pair.value (subst IsStorable c.get.ensures c.look_at_item.ensures) (subst IsStorable c.get-in-Pair.ensures c.look_at.ensures))

pub look_at-returns-in-Seq : goal.look_at-returns-in-Seq
look_at-returns-in-Seq t c = subst IsStorable (sym c.in-Seq.is) (Seq-fits c.in-Seq.items (subst (AllByRecursion IsStorable) c.as_slice.ensures c.look_at_all.ensures))

pub look_at_item-returns-in-Blob : goal.look_at_item-returns-in-Blob
look_at_item-returns-in-Blob t c = subst IsStorable (sym c.in-Blob.is) (Blob-fits c.in-Blob._bytes)
