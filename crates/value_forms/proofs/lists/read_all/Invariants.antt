use Rattle.std.proofs.Common.{◌≡◌, drop}
use Rattle.value_forms.specs.Parts.{all_of}
use Rattle.value_forms.proofs.Items.{with_front}
use Rattle.value_forms.proofs.lists.read_all.Given as goal

-- what was read and what is left make the whole
abbrev pub invariant-loop-value : goal.invariant-loop-value
invariant-loop-value g l = with_front l.items.items (all_of g.T.Stored.form.of (drop l.value-index l.values)) ≡ all_of g.T.Stored.form.of l.values
