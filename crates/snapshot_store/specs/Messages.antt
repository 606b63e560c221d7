-- What `{}` prints of a refusal.
use Rattle.std.specs.Prelude.{ℕ, List, codes}
use Rattle.snapshot_store.specs.declared.refusal.SnapReadRefusal.{SnapReadRefusal}
use Rattle.snapshot_store.specs.declared.refusal.SnapReadRefusal.TheVariants.{Bad, NoMemory}

abbrev pub snap_read_message : SnapReadRefusal → List ℕ
snap_read_message (Bad refusal) = codes "the bytes are no snapshot"
snap_read_message NoMemory = codes "no memory"
