use Rattle.std.proofs.Common.{◌≡◌, [], ◌∷◌, ◌++◌, take}
use Rattle.std.specs.List.{fold}
use Rattle.group_cells.specs.AtPlaces.{changed_at, given_all}
use Rattle.group_cells.specs.Placing.{fresh_cell, handed_over, once_opened}
use Rattle.group_cells.specs.Undoing.{AreOfCommit}
use Rattle.group_cells.proofs.groups.draft.Draft.open_over.Given as goal

abbrev pub invariant-loop-place : goal.invariant-loop-place
invariant-loop-place l = record {
  cells : l.self.cells ≡ fold (changed_at (once_opened l.rules l.before l.span)) l.fn.self.cells (take l.place-index l.places)
      ++ fresh_cell l.key.node l.key.key l.span
      (given_all (once_opened l.rules l.before l.span) (handed_over l.rules l.before l.span) (take l.place-index l.places) l.fn.self.cells) ∷ [];
  same : AreOfCommit l.fn.self l.self;
}
