-- Where a document breaks a rule.
use Rattle.std.specs.Prelude.{ℕ, List, codes, Some, None}
use Rattle.plan_reader.specs.declared.refusal.Place.{Place}
use Rattle.plan_reader.specs.declared.refusal.PlanKey.{PlanKey}
use Rattle.plan_reader.specs.declared.refusal.PlanKey.TheVariants.{Beam, Nodes, Name, Kind, Input, Work, Files, Count, Number, Estimator, Text, Windows, Early, EarlyWhen, Late, LateWhen, Lateness, Mode, View, Log, Label, Other}

-- the word of a key in a document and in a refusal's text
abbrev pub key_word : PlanKey → List ℕ
key_word Beam = codes "beam"
key_word Nodes = codes "nodes"
key_word Name = codes "name"
key_word Kind = codes "kind"
key_word Input = codes "input"
key_word Work = codes "work"
key_word Files = codes "files"
key_word Count = codes "count"
key_word Number = codes "number"
key_word Estimator = codes "estimator"
key_word Text = codes "text"
key_word Windows = codes "windows"
key_word Early = codes "early"
key_word EarlyWhen = codes "early_when"
key_word Late = codes "late"
key_word LateWhen = codes "late_when"
key_word Lateness = codes "lateness"
key_word Mode = codes "mode"
key_word View = codes "view"
key_word Log = codes "log"
key_word Label = codes "label"
key_word Other = codes "other"

-- a key of the top object, and of a node by its number
abbrev pub at_top : PlanKey → Place
at_top key = record { node = None; key = key }

abbrev pub in_node : ℕ → PlanKey → Place
in_node number key = record { node = Some number; key = key }
