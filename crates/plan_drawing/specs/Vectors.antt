-- A drawing, computed, and the labels of single nodes.
use Rattle.std.specs.Prelude.{◌≡◌, pos, negsuc, [], ◌∷◌, ◌++◌, codes, refl, None, Some}
use Rattle.std.specs.Fmt.{digits}
use Rattle.beam_values.specs.declared.plan.Args.TheVariants.{Nothing, Text, Two}
use Rattle.beam_values.specs.declared.plan.Estimator.TheVariants as estimator
use Rattle.beam_values.specs.declared.plan.FnKind.TheVariants.{KeepPrefix, Swap, JoinSingle}
use Rattle.beam_values.specs.declared.plan.Mode.TheVariants.{Accumulating}
use Rattle.beam_values.specs.declared.plan.NodeKind.TheVariants.{Source, ParDo, WindowInto, Group, Write}
use Rattle.beam_values.specs.declared.plan.Plan.{Plan}
use Rattle.beam_values.specs.declared.plan.SourceKind.TheVariants.{Made}
use Rattle.beam_values.specs.declared.plan.Strategy.TheVariants.{Sliding}
use Rattle.beam_values.specs.declared.plan.Trigger.{Trigger}
use Rattle.plan_drawing.specs.Drawing.{drawing_of, line_of}
use Rattle.plan_drawing.specs.Labels.{label_of, label_text}

-- a Made of one line, what it gives turned round, and that written; the pardo is named by a quote
abbrev plan : Plan
plan = record {
  version = 1;
  nodes = record { kind = Source Made (Two 1 7) [] estimator.Monotonic; inputs = [] }
      ∷ record { kind = ParDo Swap Nothing; inputs = 0 ∷ [] }
      ∷ record { kind = Write (codes "w"); inputs = 1 ∷ [] } ∷ [];
}

drawn : drawing_of (codes "s" ∷ (34 ∷ []) ∷ codes "w" ∷ []) plan
    ≡ line_of (codes "digraph plan {")
    ++ line_of (codes "  n0 [shape=cylinder, label=\"s\\nsource Made\\ncount 1\\nnumber 7\\nestimator monotonic\"];")
    ++ line_of (codes "  n1 [shape=box, label=\"\\\"\\npardo Swap\"];")
    ++ line_of (codes "  n2 [shape=note, label=\"w\\nwrite\\nlabel w\"];")
    ++ line_of (codes "  n0 -> n1;")
    ++ line_of (codes "  n1 -> n2;")
    ++ line_of (codes "}")
unfolding digits
drawn = refl

sliding : label_of (codes "z") (WindowInto (Sliding (pos 60) (pos 20))) ≡ codes "z\\nwindow\\nsliding, size 60 ms, period 20 ms"
unfolding digits
sliding = refl

group : label_of (codes "g") (Group (record { early = Some 2; late = 1; lateness = pos 5; mode = Accumulating; early_bars = []; late_bars = [] }))
    ≡ codes "g\\ngroup\\nearly 2\\nlate 1\\nlateness 5 ms\\naccumulating"
unfolding digits
group = refl

abbrev barred : Trigger
barred = record {
  early = None;
  late = 1;
  lateness = pos 5;
  mode = Accumulating;
  early_bars = record { count = 2; delay = Some (negsuc 4) } ∷ record { count = 9; delay = None } ∷ [];
  late_bars = record { count = 3; delay = Some (pos 4) } ∷ [];
}

bars : label_of (codes "g") (Group barred) ≡ codes "g\\ngroup\\nearly 2 from -5 ms\\nearly 9\\nlate 3 from 4 ms\\nlateness 5 ms\\naccumulating"
unfolding digits
bars = refl

join : label_of (codes "j") (ParDo JoinSingle Nothing) ≡ codes "j\\npardo JoinSingle"
join = refl

-- the empty prefix
prefix : label_of (codes "p") (ParDo KeepPrefix (Text [])) ≡ codes "p\\npardo KeepPrefix\\ntext "
prefix = refl

-- a backslash, an ampersand, LF, the byte 7, and a letter of two bytes
escaped : label_text (92 ∷ 38 ∷ 10 ∷ 7 ∷ 195 ∷ 164 ∷ []) ≡ codes "\\\\&amp;\\\\n\\\\x07" ++ 195 ∷ 164 ∷ []
escaped = refl
