-- The plan of `drill`.
use Rattle.std.specs.Prelude.{ℕ, pos, [], ◌∷◌, codes}
use Rattle.beam_values.specs.declared.plan.Args.TheVariants.{Nothing, Two}
use Rattle.beam_values.specs.declared.plan.Estimator.TheVariants.{Monotonic}
use Rattle.beam_values.specs.declared.plan.FnKind.TheVariants.{FieldInt, KeyField}
use Rattle.beam_values.specs.declared.plan.NodeKind.TheVariants.{Group, ParDo, Source, WindowInto, Write}
use Rattle.beam_values.specs.declared.plan.Plan.{Plan}
use Rattle.beam_values.specs.declared.plan.SourceKind.TheVariants.{Made}
use Rattle.beam_values.specs.declared.plan.Strategy.TheVariants.{Fixed}
use Rattle.beam_model.specs.Plans.{default_trigger, node}

-- `drill COUNT NUMBER`: made lines, by the field before the next TAB and with their values as whole numbers, in windows of a minute
abbrev pub drill_plan : ℕ → ℕ → Plan
drill_plan count number = record {
  version = 1;
  nodes = node (Source Made (Two count number) [] Monotonic) []
      ∷ node (ParDo KeyField Nothing) (0 ∷ [])
      ∷ node (ParDo FieldInt Nothing) (1 ∷ [])
      ∷ node (WindowInto (Fixed (pos 60000))) (2 ∷ [])
      ∷ node (Group default_trigger) (3 ∷ [])
      ∷ node (Write (codes "out")) (4 ∷ [])
      ∷ [];
}
