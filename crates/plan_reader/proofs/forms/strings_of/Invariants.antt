use Rattle.std.proofs.Common.{map}
use Rattle.serde_json.specs.View.{view}
use Rattle.plan_reader.specs.Forms.{string_in}
use Rattle.plan_reader.proofs.Turns.{IsReadTo}
use Rattle.plan_reader.proofs.forms.strings_of.Given as goal

abbrev pub invariant-loop-item : goal.invariant-loop-item
invariant-loop-item l = IsReadTo view (λ _ d. string_in l.place d) l.items l.item-index (map (λ string. string.now) l.strings.items)
