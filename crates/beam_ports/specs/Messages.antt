-- What `{}` prints of a refusal.
use Rattle.std.specs.Prelude.{ℕ, List, codes}
use Rattle.beam_ports.specs.declared.refusal.OpenRefusal.{OpenRefusal}
use Rattle.beam_ports.specs.declared.refusal.OpenRefusal.TheVariants.{Absent, Failed}

abbrev pub open_message : OpenRefusal → List ℕ
open_message Absent = codes "the file isn't there"
open_message Failed = codes "opening the file failed"
