use Rattle.std.proofs.Common.{◌≡◌, ◌<◌, ◌^◌, ℕ, [], ◌∷◌, ◌++◌, List, ap, arith, length, refl, subst, sym, ◌∙◌}
use Rattle.beam_values.specs.declared.cell.Cell.{Cell}
use Rattle.cell_index.specs.Indexes.{IsIndexOf}
use Rattle.cell_index.specs.declared.index.CellIndex.{CellIndex}
use Rattle.cell_index.specs.declared.index_key.CellKey.{CellKey}
use Rattle.group_cells.specs.Cells.{unseen_in}
use Rattle.group_cells.specs.Due.{AreMoments}
use Rattle.group_cells.specs.Placing.{fresh_cell}
use Rattle.group_cells.specs.Undoing.{undone_all}
use Rattle.group_cells.specs.declared.groups.draft.Change.{Change}
use Rattle.group_cells.specs.declared.groups.draft.Change.TheVariants.{Opened}
use Rattle.group_cells.proofs.DueSteps.{unseen_more}
use Rattle.group_cells.proofs.Tracking.{opened_tracked, opened_undone, same_tracked}
use Rattle.group_cells.proofs.groups.draft.Tracked.open_first.Goals as goal

pub returns-in-Ok-clause-ok : goal.returns-in-Ok-clause-ok
returns-in-Ok-clause-ok c =
    let key = c.args.key in
    let is : c.first_cell.result ≡ fresh_cell key.node key.key key.span (c.args.entry ∷ []) = c.first_cell.ensures ∙ ap (fresh_cell key.node key.key key.span) c.in-Ok.ensures.entries in
    c.push.ensures.cells ∙ (λ i. c.make_room_first.ensures.cells i ++ is i ∷ [])

pub returns-in-Ok-clause-tracked : goal.returns-in-Ok-clause-tracked
returns-in-Ok-clause-tracked c =
    let plan = c.args.plan.now in
    let old = c.args.self.now in
    let cells = old.cells.items in
    let key = c.args.key in
    let cell = c.first_cell.result in
    let is : cell ≡ fresh_cell key.node key.key key.span (c.args.entry ∷ []) = c.first_cell.ensures ∙ ap (fresh_cell key.node key.key key.span) c.in-Ok.ensures.entries in
    let few : length cells < 2 ^ 32 = omega (arith, c.ranges.place, c.requires.place) in
    let index : IsIndexOf old.index (cells ++ cell ∷ []) =
    c.requires.index cell (ap (λ (x : Cell). x.node) is) (ap (λ (x : Cell). x.key) is) (ap (λ (x : Cell). x.span) is) in
    let moments : AreMoments plan c.make_room_first.new.self.due (cells ++ cell ∷ []) =
    subst (λ (x : Cell). AreMoments plan c.make_room_first.new.self.due (cells ++ x ∷ [])) (sym is)
    (subst (λ (k : CellKey). AreMoments plan c.make_room_first.new.self.due (cells ++ fresh_cell k.node k.key k.span (c.args.entry ∷ []) ∷ [])) c.cell.ensures
    (c.in-Ok.ensures.moments cells c.requires.due.moments c.requires.place)) in
    opened_tracked plan old c.push.new.self cell 1 c.requires.due c.requires.begun few
    (c.push.ensures.cells ∙ ap (λ (l : List Cell). l ++ cell ∷ []) c.make_room_first.ensures.cells)
    (subst (λ (i : CellIndex). IsIndexOf i (cells ++ cell ∷ [])) (sym (c.push.ensures.index ∙ c.make_room_first.ensures.index)) index)
    (c.push.ensures.kept plan (cells ++ cell ∷ []) moments) (λ p l h. c.push.ensures.kept p l (c.make_room_first.ensures.kept p l h))
    (c.push.ensures.counts ∙ ap (λ (l : List ℕ). l ++ 1 ∷ []) c.make_room_first.ensures.counts)
    (sym (unseen_more [] c.args.entry c.requires.unseen) ∙ sym (ap (λ (x : Cell). unseen_in x.entries) is))
    (c.push.ensures.changes ∙ ap (λ (l : List Change). l ++ Opened ∷ []) c.make_room_first.ensures.changes)

pub returns-in-Ok-clause-undo : goal.returns-in-Ok-clause-undo
returns-in-Ok-clause-undo c =
    opened_undone c.args.self.now c.push.new.self c.first_cell.result (c.push.ensures.cells ∙ ap (λ (l : List Cell). l ++ c.first_cell.result ∷ []) c.make_room_first.ensures.cells)
    (c.push.ensures.changes ∙ ap (λ (l : List Change). l ++ Opened ∷ []) c.make_room_first.ensures.changes)

pub returns-in-Err-clause-tracked : goal.returns-in-Err-clause-tracked
returns-in-Err-clause-tracked c =
    let old = c.args.self.now in
    let mid = c.make_room_first.new.self in
    let key = c.args.key in
    let fresh : Cell = fresh_cell key.node key.key key.span [] in
    let index : IsIndexOf c.remove_last.new.self old.cells.items =
    c.remove_last.ensures old.cells.items fresh (subst (λ (i : CellIndex). IsIndexOf i (old.cells.items ++ fresh ∷ [])) (sym c.make_room_first.ensures.index) (c.requires.index fresh refl refl refl))
    c.requires.place refl refl refl in
    same_tracked c.args.plan.now old (record { cells = mid.cells; index = c.remove_last.new.self; due = mid.due; changes = mid.changes }) c.requires.due c.requires.begun c.make_room_first.ensures.cells index
    c.make_room_first.ensures.kept c.make_room_first.ensures.counts (λ i. undone_all (c.make_room_first.ensures.changes i) (c.make_room_first.ensures.cells i))

pub returns-in-Err-clause-undo : goal.returns-in-Err-clause-undo
returns-in-Err-clause-undo c = λ i. undone_all (c.make_room_first.ensures.changes i) (c.make_room_first.ensures.cells i)
