use Rattle.std.proofs.Common.{◌≡◌, ◌++◌, ◌∷◌, map, length, take, drop}
use Rattle.std.specs.List.{flat_map}
use Rattle.beam_values.specs.Texts.{value_text, joined}
use Rattle.beam_text.proofs.value.+texts.Given as goal

-- what is written and what is left are the whole text
abbrev pub invariant-append_items-loop-item : goal.invariant-append_items-loop-item
invariant-append_items-loop-item l = record {
  whole : l.out ++ flat_map (λ text. 44 ∷ text) (map value_text (drop l.item-index l.others)) ≡ l.fn.out ++ joined (map value_text l.items);
  kept : take (length l.fn.out) l.out ≡ l.fn.out;
}
