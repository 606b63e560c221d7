use Rattle.std.proofs.Common.{◌≡◌, ◌++◌, take, drop}
use Rattle.std.specs.List.{flat_map, AllByRecursion}
use Rattle.beam_values.specs.Spelling.{spelling}
use Rattle.beam_values.specs.Storable.{IsStorable}
use Rattle.beam_coders.specs.Kept.{Keeps}
use Rattle.beam_coders.proofs.writing.+appends.Given as goal

-- what was written and what is left make the whole
abbrev pub invariant-append_items-loop-item : goal.invariant-append_items-loop-item
invariant-append_items-loop-item l = record {
  whole : l.out ++ flat_map spelling (drop l.item-index l.items) ≡ l.initial.out ++ flat_map spelling l.items;
  words : AllByRecursion IsStorable (take l.item-index l.items);
  kept : Keeps l.initial.out l.out;
}
