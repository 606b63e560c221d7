use Rattle.snapshot_store.proofs.SnapLaws.{snap_again}
use Rattle.snapshot_store.proofs.laws.snapshots_are_read_again.Goals as goal

pub returns : goal.returns
returns c stored fits deep small = snap_again stored fits deep small
