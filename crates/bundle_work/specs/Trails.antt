-- What was staged before each position of a stretch, the latest first, and how that is taken back.
use Rattle.std.specs.Prelude.{ℕ, ◌<◌, nat_le, if◌then◌else◌, List, [], ◌∷◌, take}
use Rattle.bundle_commit.specs.declared.job.Receipt.{Receipt}
use Rattle.bundle_work.specs.declared.trail.Before.{Before}

-- the latest position lies before the end, if there is one
abbrev pub EndsBefore : ℕ → List Before → Type 0
EndsBefore end [] = Unit {0}
EndsBefore end (before ∷ earlier) = before.p < end

-- what was staged before a position
abbrev pub back_to : Before → Receipt → Receipt
back_to before now = record now { arrivals = take before.count now.arrivals; seen = before.seen }

-- Without what the positions from `end` on brought. After positions 0, 6 and 9 that were worked ahead of an end that is now 8, it is what was staged before 9;
-- with an end of 6 it is what was staged before 6.
abbrev pub cut_back : ℕ → Receipt → List Before → Receipt
cut_back end now [] = now
cut_back end now (before ∷ earlier) = if nat_le end before.p then cut_back end (back_to before now) earlier else now
