-- The plans of commands that read none.
use Rattle.std.specs.Prelude.{ℕ, ℤ, pos, List, [], ◌∷◌, None, codes}
use Rattle.beam_values.specs.declared.plan.Args.TheVariants.{Nothing}
use Rattle.beam_values.specs.declared.plan.Estimator.TheVariants as estimator
use Rattle.beam_values.specs.declared.plan.FnKind.TheVariants.{KeyField}
use Rattle.beam_values.specs.declared.plan.Mode.TheVariants.{Discarding}
use Rattle.beam_values.specs.declared.plan.Node.{Node}
use Rattle.beam_values.specs.declared.plan.NodeKind.{NodeKind}
use Rattle.beam_values.specs.declared.plan.NodeKind.TheVariants.{Source, ParDo, WindowInto, Group, Write}
use Rattle.beam_values.specs.declared.plan.Plan.{Plan}
use Rattle.beam_values.specs.declared.plan.SourceKind.TheVariants.{TimedLines}
use Rattle.beam_values.specs.declared.plan.Strategy.TheVariants.{Fixed}
use Rattle.beam_values.specs.declared.plan.Trigger.{Trigger}

abbrev pub node : NodeKind → List ℕ → Node
node kind inputs = record { kind = kind; inputs = inputs }

-- one on-time pane, and no late elements (Beam Programming Guide, Triggers: the default trigger)
abbrev pub default_trigger : Trigger
default_trigger = record { early = None; late = 1; lateness = pos 0; mode = Discarding; early_bars = []; late_bars = [] }

-- `panes FILE SIZE`: timed lines of the file, by the field before the next TAB, in fixed windows of this many milliseconds
abbrev pub panes_plan : List ℕ → ℤ → Plan
panes_plan file size = record {
  version = 1;
  nodes = node (Source TimedLines Nothing (file ∷ []) estimator.None) []
      ∷ node (ParDo KeyField Nothing) (0 ∷ [])
      ∷ node (WindowInto (Fixed size)) (1 ∷ [])
      ∷ node (Group default_trigger) (2 ∷ [])
      ∷ node (Write (codes "out")) (3 ∷ [])
      ∷ [];
}
