use Rattle.std.proofs.Common.{◌≡◌, ℕ, ◌<◌, ◌^◌, ◌++◌, ◌∷◌, [], List, ap, length, refl, rules, subst, sym, ◌∙◌}
use Rattle.beam_values.specs.Intervals.{Interval}
use Rattle.beam_values.specs.declared.cell.Cell.{Cell}
use Rattle.beam_values.specs.declared.cell.Entry.{Entry}
use Rattle.cell_index.specs.Indexes.{IsIndexOf}
use Rattle.cell_index.specs.declared.index.CellIndex.{CellIndex}
use Rattle.cell_index.specs.declared.index_key.CellKey.{CellKey}
use Rattle.group_cells.specs.Cells.{unseen_in}
use Rattle.group_cells.specs.Due.{AreMoments}
use Rattle.group_cells.specs.Placing.{fresh_cell}
use Rattle.group_cells.specs.Undoing.{undone_all, SeenDraft}
use Rattle.group_cells.specs.declared.groups.draft.Change.{Change}
use Rattle.group_cells.specs.declared.groups.draft.Change.TheVariants.{Opened}
use Rattle.group_cells.specs.declared.groups.keyed.GroupKey.{GroupKey}
use Rattle.group_cells.proofs.Tracking.{kept_tracked, opened_tracked, opened_undone}
use Rattle.group_cells.proofs.groups.draft.Draft.push_session.Goals as goal

fresh_is : (own : CellKey) (key : GroupKey) (span : Interval) (none : List Entry) (cell : Cell) → own ≡ record { node = key.node; span = span; key = key.key } → none ≡ []
    → cell ≡ fresh_cell own.node own.key own.span none → cell ≡ fresh_cell key.node key.key span []
fresh_is own key span none cell keyed empty is = is ∙ (λ i. fresh_cell (keyed i).node (keyed i).key (keyed i).span (empty i))

pub invariant_of-self : goal.invariant_of-self
invariant_of-self c =
    let new = c.make_room.new.self in
    kept_tracked c.self.inside.plan.now c.self.inside.tracked new c.self.invariant c.make_room.ensures.cells (λ cells h. subst (λ (i : CellIndex). IsIndexOf i cells) (sym c.make_room.ensures.index) h)
    c.make_room.ensures.kept c.make_room.ensures.counts (λ i. undone_all (c.make_room.ensures.changes i) (c.make_room.ensures.cells i))

pub invariant_of-self-in_err-add : goal.invariant_of-self-in_err-add
invariant_of-self-in_err-add c =
    let new = c.make_room.new.self in
    kept_tracked c.self.inside.plan.now c.self.inside.tracked (record { cells = new.cells; index = c.add.new.self; due = new.due; changes = new.changes }) c.self.invariant c.make_room.ensures.cells
    (λ cells h. c.in_err-add.ensures.err cells (subst (λ (i : CellIndex). IsIndexOf i cells) (sym c.make_room.ensures.index) h))
    c.make_room.ensures.kept c.make_room.ensures.counts (λ i. undone_all (c.make_room.ensures.changes i) (c.make_room.ensures.cells i))

pub invariant_of-self-2 : goal.invariant_of-self-2
invariant_of-self-2 c =
    let plan = c.self.inside.plan.now in
    let old = c.self.inside.tracked in
    let cells = old.cells.items in
    let cell = c.first_cell.result in
    let key = c.args.key.now in
    let place : c.in_ok-place.place ≡ length cells = search rules in
    let few : length cells < 2 ^ 32 = search rules in
    let fresh : cell ≡ fresh_cell key.node key.key c.args.span [] = fresh_is c.in_ok-own.own key c.args.span c.new.result cell c.in_ok-own.ensures c.new.ensures c.first_cell.ensures in
    let moments : AreMoments plan c.make_room.new.self.due (cells ++ cell ∷ []) =
    subst (λ (x : Cell). AreMoments plan c.make_room.new.self.due (cells ++ x ∷ [])) (sym fresh) (c.in_ok-make_room.ensures.moments cells key.key [] c.self.invariant.due.moments place refl) in
    let index : IsIndexOf c.add.new.self (cells ++ cell ∷ []) =
    c.in_ok-add.ensures.ok cells cell (subst (λ (i : CellIndex). IsIndexOf i cells) (sym c.make_room.ensures.index) c.self.invariant.index) place
    (ap (λ (x : Cell). x.node) fresh ∙ sym (ap (λ (k : CellKey). k.node) c.in_ok-own.ensures)) (ap (λ (x : Cell). x.key) fresh ∙ sym (ap (λ (k : CellKey). k.key) c.in_ok-own.ensures))
    (ap (λ (x : Cell). x.span) fresh ∙ sym (ap (λ (k : CellKey). k.span) c.in_ok-own.ensures)) in
    opened_tracked plan old c.push.new.self cell 0 c.self.invariant.due c.self.invariant.begun few
    (c.push.ensures.cells ∙ ap (λ (l : List Cell). l ++ cell ∷ []) c.make_room.ensures.cells)
    (subst (λ (i : CellIndex). IsIndexOf i (cells ++ cell ∷ [])) (sym c.push.ensures.index) index)
    (c.push.ensures.kept plan (cells ++ cell ∷ []) moments) (λ p l h. c.push.ensures.kept p l (c.make_room.ensures.kept p l h))
    (c.push.ensures.counts ∙ ap (λ (l : List ℕ). l ++ 0 ∷ []) c.make_room.ensures.counts) (sym (ap (λ (x : Cell). unseen_in x.entries) fresh))
    (c.push.ensures.changes ∙ ap (λ (l : List Change). l ++ Opened ∷ []) c.make_room.ensures.changes)

pub returns-clause-ok : goal.returns-clause-ok
returns-clause-ok c =
    c.push.ensures.cells ∙ ap (λ (l : List Cell). l ++ c.first_cell.result ∷ []) (c.make_room.ensures.cells ∙ ap (λ (d : SeenDraft). d.cells) c.self.view_is)
    ∙ ap (λ (x : Cell). c.args.self.now.cells ++ x ∷ [])
    (fresh_is c.in_ok-own.own c.args.key.now c.args.span c.new.result c.first_cell.result c.in_ok-own.ensures c.new.ensures c.first_cell.ensures)

pub returns-clause-same : goal.returns-clause-same
returns-clause-same c = (
  ap (λ (d : SeenDraft). d.plan) c.self.view_is,
  opened_undone c.self.inside.tracked c.push.new.self c.first_cell.result (c.push.ensures.cells ∙ ap (λ (l : List Cell). l ++ c.first_cell.result ∷ []) c.make_room.ensures.cells)
      (c.push.ensures.changes ∙ ap (λ (l : List Change). l ++ Opened ∷ []) c.make_room.ensures.changes)
      ∙ ap (λ (d : SeenDraft). d.begun) c.self.view_is,
)
