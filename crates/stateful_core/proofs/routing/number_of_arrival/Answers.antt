use Rattle.std.proofs.Common.{ℕ, ◌++◌, List, ap, subst, sym, ◌∙◌}
use Rattle.std.specs.BTreeMap.{BTreeMap}
use Rattle.cell_index.specs.declared.index_key.CellKey.{CellKey}
use Rattle.stateful_core.specs.Names.{AreFound, names_of}
use Rattle.stateful_core.specs.Opening.{is_any}
use Rattle.stateful_core.specs.Routes.{IsNumbered, belongs_at}
use Rattle.stateful_core.specs.Seen.{cells_of}
use Rattle.stateful_core.specs.declared.slot.Slot.{Slot}
use Rattle.stateful_core.proofs.ByIndex.{found_first, numbered_old, opened_or_not}
use Rattle.stateful_core.proofs.routing.number_of_arrival.Goals as goal

pub returns-in-Some-clause-kept : goal.returns-in-Some-clause-kept
returns-in-Some-clause-kept c = found_first c.args.index.now.numbers.places (cells_of c.args.slots.now) (cells_of c.args.fresh.now.items) c.requires.found

pub returns-in-Some-clause-ok : goal.returns-in-Some-clause-ok
returns-in-Some-clause-ok c =
    numbered_old (cells_of c.args.slots.now) (cells_of c.args.fresh.now.items) c.args.arrival.now c.args.index.now.numbers.places c.in-Some.number c.requires.found
    (ap (λ (l : List Slot). belongs_at c.args.arrival.now (cells_of c.args.slots.now ++ cells_of l) c.in-Some.number) (sym c.as_slice.ensures.value) ∙ c.in-Some.ensures)

pub returns-in_err-key-clause-kept : goal.returns-in_err-key-clause-kept
returns-in_err-key-clause-kept c = found_first c.args.index.now.numbers.places (cells_of c.args.slots.now) (cells_of c.args.fresh.now.items) c.requires.found

pub returns-in-Some-found-clause-kept : goal.returns-in-Some-found-clause-kept
returns-in-Some-found-clause-kept c =
    subst (λ (m : BTreeMap CellKey ℕ). AreFound m (names_of (cells_of c.args.slots.now))) (sym c.note_missed.ensures)
    (found_first c.args.index.now.numbers.places (cells_of c.args.slots.now) (cells_of c.args.fresh.now.items) c.requires.found)

pub returns-in-Some-found-clause-ok : goal.returns-in-Some-found-clause-ok
returns-in-Some-found-clause-ok c =
    subst (λ (m : BTreeMap CellKey ℕ). IsNumbered (cells_of c.args.slots.now) c.args.arrival.now m c.in-Some-found.number (cells_of c.args.fresh.now.items) (cells_of c.args.fresh.now.items))
    (sym c.note_missed.ensures)
    (numbered_old (cells_of c.args.slots.now) (cells_of c.args.fresh.now.items) c.args.arrival.now c.args.index.now.numbers.places c.in-Some-found.number c.requires.found
    (ap (λ (l : List Slot). belongs_at c.args.arrival.now (cells_of c.args.slots.now ++ cells_of l) c.in-Some-found.number) (sym c.as_slice-2.ensures.value) ∙ c.in-Some-found.ensures))

pub returns-in-None : goal.returns-in-None
returns-in-None c =
    let both = opened_or_not c.args.slots.now c.args.fresh.now.items c.open.new.fresh.items c.args.arrival.now c.args.index.now.numbers.places c.open.new.index.numbers.places c.in_ok-key.key c.open.result
    c.in_ok-key.ensures c.requires.found
    (ap (λ (l : List Slot). is_any c.args.arrival.now (cells_of c.args.slots.now ++ cells_of l)) (sym c.as_slice-2.ensures.value) ∙ c.in-None.ensures)
    c.open.ensures.err c.open.ensures.fresh c.open.ensures.number c.open.ensures.index in
    record { kept = both.0; ok = both.1 }
