use Rattle.std.proofs.Common.{ap}
use Rattle.bundle_work.specs.declared.bench.Bench.{Bench}
use Rattle.bundle_work.proofs.PieceReads.{released_reading}
use Rattle.bundle_work.proofs.bundles.Worker.release.Goals as goal

pub returns-clause-reading : goal.returns-clause-reading
returns-clause-reading c =
    let worker = c.args.self.now in
    released_reading worker (record worker { bench = c.release.new.self }) (ap (λ (b : Bench). record worker { bench = b }) c.release.ensures)
