-- What `{}` prints of a refusal: of a document, the words that the notes have.
use Rattle.std.specs.Prelude.{ℕ, List, codes}
use Rattle.plan_reader.specs.declared.refusal.PlanReadRefusal.{PlanReadRefusal}
use Rattle.plan_reader.specs.declared.refusal.PlanReadRefusal.TheVariants.{Bad, NoMemory}
use Rattle.plan_reader.specs.Texts.{refusal_text}

abbrev pub read_message : PlanReadRefusal → List ℕ
read_message (Bad refusal) = refusal_text refusal
read_message NoMemory = codes "no memory"
