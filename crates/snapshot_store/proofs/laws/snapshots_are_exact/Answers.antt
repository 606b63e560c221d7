use Rattle.std.proofs.Common.{arith}
use Rattle.snapshot_store.proofs.SnapLaws.{snap_exact, snap_fits}
use Rattle.snapshot_store.proofs.laws.snapshots_are_exact.Goals as goal

pub returns-clause-written : goal.returns-clause-written
returns-clause-written c d e = snap_exact c.args.bytes.now d (λ i. omega (arith, c.type_inv.bytes i)) e

pub returns-clause-fits : goal.returns-clause-fits
returns-clause-fits c d e = snap_fits c.args.bytes.now d (λ i. omega (arith, c.type_inv.bytes i)) e
