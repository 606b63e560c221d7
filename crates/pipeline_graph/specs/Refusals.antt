-- What the refusal of a plan says.
use Rattle.std.specs.Prelude.{◌≡◌, ℕ, Option, Some}
use Rattle.beam_values.specs.declared.graph_refusal.GraphRefusal.{GraphRefusal}
use Rattle.beam_values.specs.declared.graph_refusal.GraphRefusal.TheVariants.{Empty, TooMany, Input, Arity, NoWrite, Kind, Setting, SourceWithInput}
use Rattle.pipeline_graph.specs.declared.refusal.CheckRefusal.{CheckRefusal}
use Rattle.pipeline_graph.specs.declared.refusal.CheckRefusal.TheVariants.{Bad, NoMemory}

-- a rule that is told as broken is the first that is; want of memory tells nothing
abbrev pub IsFirst : Option GraphRefusal → CheckRefusal → Type 0
IsFirst first (Bad refusal) = first ≡ Some refusal
IsFirst first NoMemory = Unit {0}

-- the rules by their numbers, which are not the order in which they are tested
abbrev pub refusal_number : GraphRefusal → ℕ
refusal_number Empty = 1
refusal_number TooMany = 2
refusal_number (Input node) = 3
refusal_number (Arity node) = 4
refusal_number NoWrite = 5
refusal_number (Kind node) = 6
refusal_number (Setting node) = 7
refusal_number (SourceWithInput node) = 8
