use Rattle.std.proofs.Common.{inr, arith}
use Rattle.command_ends.proofs.Tries.{store_onward}
use Rattle.beam_command.proofs.ReplayFiles.{unread_since}
use Rattle.beam_command.proofs.replays.read_files.Goals as goal

pub returns-in-Err-read_schedule_file-clause-refused :
    goal.returns-in-Err-read_schedule_file-clause-refused
returns-in-Err-read_schedule_file-clause-refused g c =
    let files = g.S.Store.files in
    let faults = g.S.Store.faults in
    let plan = c.in-Ok.ensures in
    let end = c.in-Err-read_schedule_file in
    inr (
      c.in-Ok.read.graph,
      plan.plan,
      unread_since (faults c.args.store.now) (faults c.read_plan_file.new.store) (faults c.read_schedule_file.new.store) c.in-Ok.read.failed plan.counts end.ensures.counts plan.failed
          (files c.args.store.now) (files c.read_plan_file.new.store) plan.told c.args.schedule.now c.args.attempts (omega arith) end.status end.ensures.refused,
    )

pub returns-in-Err-read_schedule_file-clause-tries : goal.returns-in-Err-read_schedule_file-clause-tries
returns-in-Err-read_schedule_file-clause-tries g c =
    let plan = c.in-Ok.ensures in
    let end = c.in-Err-read_schedule_file in
    store_onward g.S.Store c.args.attempts c.in-Ok.read.failed 0 c.args.store.now c.read_plan_file.new.store c.read_schedule_file.new.store end.status (omega (arith, plan.few)) plan.exact
    end.ensures.tries
