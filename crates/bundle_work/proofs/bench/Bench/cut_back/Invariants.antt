use Rattle.std.proofs.Common.{◌≡◌, length}
use Rattle.bundle_work.specs.Trails.{cut_back}
use Rattle.bundle_work.proofs.bench.Bench.cut_back.Given as goal

abbrev pub invariant-loop-before : goal.invariant-loop-before
invariant-loop-before l = record {
  cut : cut_back l.end l.self.staging l.self.trail ≡ cut_back l.end l.initial.self.staging l.initial.self.trail;
  pager : l.self.pager ≡ l.initial.self.pager;
}

abbrev pub decreases-loop-before : goal.decreases-loop-before
decreases-loop-before l = length l.self.trail
