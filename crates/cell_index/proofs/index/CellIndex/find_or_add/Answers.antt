use Rattle.std.proofs.Common.{◌≡◌, ℕ, Option, Some, None, ap, refl, subst, sym, ◌∙◌}
use Rattle.std.specs.BTreeMap as tree
use Rattle.std.specs.Prelude.{IsSome}
use Rattle.cell_index.specs.Indexes.{cell_key_cmp}
use Rattle.cell_index.specs.declared.index_key.CellKey.{CellKey}
use Rattle.cell_index.proofs.Indexing.{index_more, index_put_back, index_same, on_err}
use Rattle.cell_index.proofs.index.CellIndex.find_or_add.Goals as goal

pub returns-in-Some-clause-found : goal.returns-in-Some-clause-found
returns-in-Some-clause-found c = λ cells h.
    sym c.in-Some.is ∙ c.in_ok-known.ensures.old ∙ ap (tree.get cell_key_cmp c.args.self.now.places) c.in_ok-own.ensures ∙ h.finds c.args.key.now

pub returns-in-Some-clause-kept : goal.returns-in-Some-clause-kept
returns-in-Some-clause-kept c =
    let old = c.args.self.now.places in
    let over = c.insert.new.self in
    let key = c.args.key.now in
    let known : Some c.in-Some.place ≡ tree.get cell_key_cmp old key = sym c.in-Some.is ∙ c.in_ok-known.ensures.old ∙ ap (tree.get cell_key_cmp old) c.in_ok-own.ensures in
    let written : tree.Updates cell_key_cmp old over key (Some c.args.next) = subst (λ (k : CellKey). tree.Updates cell_key_cmp old over k (Some c.args.next)) c.in_ok-own.ensures c.in_ok-known.ensures.updates in
    let there : IsSome (tree.get cell_key_cmp over key) = subst (λ (o : Option ℕ). IsSome o) (sym written.1) refl in
    λ some cells h.
    index_put_back c.args.self.now (record { places = c.put_back.new.places; guesses = c.note_missed.new.self }) over key c.hash-hash.result c.in-Some.place c.args.next
    known written (c.put_back.ensures there) c.note_missed.ensures cells h

pub returns-in-None-clause-found : goal.returns-in-None-clause-found
returns-in-None-clause-found c = λ cells h.
    sym c.in-None.is ∙ c.in_ok-known.ensures.old ∙ ap (tree.get cell_key_cmp c.args.self.now.places) c.in_ok-own.ensures ∙ h.finds c.args.key.now

pub returns-in-None-clause-added : goal.returns-in-None-clause-added
returns-in-None-clause-added c =
    let old = c.args.self.now.places in
    let over = c.insert.new.self in
    let key = c.args.key.now in
    let known : None ≡ tree.get cell_key_cmp old key = sym c.in-None.is ∙ c.in_ok-known.ensures.old ∙ ap (tree.get cell_key_cmp old) c.in_ok-own.ensures in
    let written : tree.Updates cell_key_cmp old over key (Some c.args.next) = subst (λ (k : CellKey). tree.Updates cell_key_cmp old over k (Some c.args.next)) c.in_ok-own.ensures c.in_ok-known.ensures.updates in
    λ none cells cell h at nodes keys spans.
    index_more c.args.self.now (record { places = over; guesses = c.note.new.self }) key c.hash-hash.result c.args.next written
    (λ places kept own. c.note.ensures places (c.make_room.ensures places kept) own) cells cell h at nodes keys spans (sym (known ∙ h.finds key))

pub returns-in_err-known-clause-err : goal.returns-in_err-known-clause-err
returns-in_err-known-clause-err c =
    on_err c.from_residual-in_err-known.result (index_same c.args.self.now (record { places = c.insert.new.self; guesses = c.args.self.now.guesses }) c.in_err-known.ensures.err refl)
