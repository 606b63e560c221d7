-- The text of a refusal, as the notes have it: its number, what it is, and where.
use Rattle.std.specs.Prelude.{ℕ, List, ◌++◌, codes, decimal, Option, Some, None}
use Rattle.beam_values.specs.declared.graph_refusal.GraphRefusal.{GraphRefusal}
use Rattle.beam_values.specs.declared.graph_refusal.GraphRefusal.TheVariants as graph
use Rattle.plan_reader.specs.declared.refusal.Place.{Place}
use Rattle.plan_reader.specs.declared.refusal.PlanRefusal.{PlanRefusal}
use Rattle.plan_reader.specs.declared.refusal.PlanRefusal.TheVariants.{Syntax, Field, Name, Number, Graph, Version, Length}
use Rattle.plan_reader.specs.Places.{key_word}

-- words and a number
abbrev pub numbered : List ℕ → ℕ → List ℕ
numbered words number = words ++ decimal number

abbrev pub owner_text : Option ℕ → List ℕ
owner_text None = codes "top "
owner_text (Some node) = numbered (codes "node ") node ++ codes " "

abbrev pub place_text : Place → List ℕ
place_text place = owner_text place.node ++ key_word place.key

abbrev pub graph_text : GraphRefusal → List ℕ
graph_text graph.Empty = codes "1 empty"
graph_text graph.TooMany = codes "2 too many"
graph_text (graph.Input node) = numbered (codes "3 input ") node
graph_text (graph.Arity node) = numbered (codes "4 arity ") node
graph_text graph.NoWrite = codes "5 no write"
graph_text (graph.Kind node) = numbered (codes "6 kind ") node
graph_text (graph.Setting node) = numbered (codes "7 setting ") node
graph_text (graph.SourceWithInput node) = numbered (codes "8 source with input ") node

-- A missing key `kind` at node 0 is `2 field node 0 kind`.
abbrev pub refusal_text : PlanRefusal → List ℕ
refusal_text Syntax = codes "1 syntax"
refusal_text (Field place) = codes "2 field " ++ place_text place
refusal_text (Name place) = codes "3 name " ++ place_text place
refusal_text (Number place) = codes "4 number " ++ place_text place
refusal_text (Graph refusal) = codes "5 graph " ++ graph_text refusal
refusal_text Version = codes "6 version"
refusal_text (Length len) = numbered (codes "7 length ") len
