use Rattle.std.proofs.Common.{arith}
use Rattle.schedule_replay.proofs.Printing.{printed_anyhow}
use Rattle.schedule_replay.proofs.ending.push_stand.Goals as goal

pub push_all_ranges-requires : goal.push_all_ranges-requires
push_all_ranges-requires c = omega (arith, c.requires.standing.1.count, c.args.stand.now.works.ok)

pub returns-clause-ranges : goal.returns-clause-ranges
returns-clause-ranges c = printed_anyhow c.is_finished.result c.in_ok-push_all_ranges.ensures
