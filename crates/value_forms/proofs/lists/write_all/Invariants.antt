use Rattle.std.proofs.Common.{◌≡◌, ◌++◌, take, drop}
use Rattle.std.specs.List.{flat_map, AllByRecursion}
use Rattle.beam_values.specs.Spelling.{spelling}
use Rattle.beam_coders.specs.Kept.{Keeps}
use Rattle.value_forms.proofs.lists.write_all.Given as goal

-- what was written and what is left make the whole
abbrev pub invariant-loop-item : goal.invariant-loop-item
invariant-loop-item g l = record {
  whole : l.out ++ flat_map (λ x. spelling (g.T.Stored.form.to x)) (drop l.item-index l.items) ≡ l.initial.out ++ flat_map (λ x. spelling (g.T.Stored.form.to x)) l.items;
  fits : AllByRecursion g.T.Stored.form.Fits (take l.item-index l.items);
  kept : Keeps l.initial.out l.out;
}
