use Rattle.book_core.proofs.AllKept.{honest_reached}
use Rattle.ended_runs.proofs.Stopped.{honest_stop}
use Rattle.ended_runs.proofs.laws.stops_are_honest.Goals as goal

pub returns : goal.returns
returns c known b note reached is =
    honest_stop known b note (c.attempts_are_counted.ensures.noted known.told b (honest_reached known b reached)) reached is
