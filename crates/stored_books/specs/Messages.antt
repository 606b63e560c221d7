-- What `{}` prints of a refusal.
use Rattle.std.specs.Prelude.{ℕ, List, codes}
use Rattle.stored_books.specs.declared.restore.RestoreRefusal.{RestoreRefusal}
use Rattle.stored_books.specs.declared.restore.RestoreRefusal.TheVariants.{Sane, NoMemory}

abbrev pub restore_message : RestoreRefusal → List ℕ
restore_message Sane = codes "the data stands for no book of the plan"
restore_message NoMemory = codes "no memory"
