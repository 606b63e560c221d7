use Rattle.std.proofs.Common.{◌≡◌, length}
use Rattle.std.specs.List.{sum_by}
use Rattle.dofn_traits.specs.Shelves.{IsPlaced, fn_number, fn_kinds, source_number, source_kinds, state_number, state_kinds, are_used_strict}
use Rattle.dofn_traits.proofs.box_shelf.BoxShelfShelf.finish_bundle.Given as goal

-- the boxes keep their places, their counts and their strictness, and the others stay
abbrev pub invariant-loop-number : goal.invariant-loop-number
invariant-loop-number g l = record {
  placed : IsPlaced (λ box. fn_number (g.D.DoFn.work box)) (length fn_kinds) l.self-inside.fns.items l.self-inside.fn_places;
  faults : sum_by g.D.DoFn.faults l.self-inside.fns.items ≡ sum_by g.D.DoFn.faults l.initial.self-inside.fns.items;
  strict : are_used_strict fn_number fn_kinds g.D.DoFn.work g.D.DoFn.strict l.self-inside.fns.items
      ≡ are_used_strict fn_number fn_kinds g.D.DoFn.work g.D.DoFn.strict l.initial.self-inside.fns.items;
  splits : l.self-inside.splits ≡ l.initial.self-inside.splits;
  states : l.self-inside.states ≡ l.initial.self-inside.states;
  split_placed : IsPlaced (λ box. source_number (g.S.SplittableFn.work box)) (length source_kinds) l.self-inside.splits.items l.self-inside.split_places;
  state_placed : IsPlaced (λ box. state_number (g.T.StatefulFn.work box)) (length state_kinds) l.self-inside.states.items l.self-inside.state_places;
}
