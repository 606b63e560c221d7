-- The refusals of a document, and what a reader's answer says of them.
use Rattle.std.specs.Prelude.{◌≡◌, ℕ, Result, Ok, Err}
use Rattle.pipeline_graph.specs.declared.refusal.CheckRefusal.{CheckRefusal}
use Rattle.pipeline_graph.specs.declared.refusal.CheckRefusal.TheVariants as check
use Rattle.plan_reader.specs.declared.refusal.PlanReadRefusal.{PlanReadRefusal}
use Rattle.plan_reader.specs.declared.refusal.PlanReadRefusal.TheVariants as read
use Rattle.plan_reader.specs.declared.refusal.PlanRefusal.{PlanRefusal}
use Rattle.plan_reader.specs.declared.refusal.PlanRefusal.TheVariants.{Syntax, Field, Name, Number, Graph, Version, Length}

-- the refusals by their numbers, which are not the order in which they are tested
abbrev pub refusal_number : PlanRefusal → ℕ
refusal_number Syntax = 1
refusal_number (Field place) = 2
refusal_number (Name place) = 3
refusal_number (Number place) = 4
refusal_number (Graph refusal) = 5
refusal_number Version = 6
refusal_number (Length len) = 7

-- what a document, or a part of it, means: a value, or the first rule that it breaks
abbrev pub Meaning : Type 0 → Type 0
Meaning A = Result A PlanRefusal

-- a refusal that is told is the document's first; want of memory tells nothing
abbrev pub IsFirst : {A : Type 0} → Meaning A → PlanReadRefusal → Type 0
IsFirst meaning (read.Bad refusal) = meaning ≡ Err refusal
IsFirst meaning read.NoMemory = Unit {0}

-- what is answered, seen by `view`, is the meaning, unless there was no memory
abbrev pub Reads : {X Y : Type 0} → (X → Y) → Result X PlanReadRefusal → Meaning Y → Type 0
Reads view (Ok x) meaning = meaning ≡ Ok (view x)
Reads view (Err e) meaning = IsFirst meaning e

-- the same where no memory is needed
abbrev pub Gives : {X Y : Type 0} → (X → Y) → Result X PlanRefusal → Meaning Y → Type 0
Gives view (Ok x) meaning = meaning ≡ Ok (view x)
Gives view (Err refusal) meaning = meaning ≡ Err refusal

-- the refusal of a plan's check, as the reader tells it
abbrev pub graph_refused : CheckRefusal → PlanReadRefusal
graph_refused (check.Bad refusal) = read.Bad (Graph refusal)
graph_refused check.NoMemory = read.NoMemory
