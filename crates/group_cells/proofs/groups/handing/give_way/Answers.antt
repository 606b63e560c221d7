use Rattle.std.proofs.Common.{arith, ap, length}
use Rattle.group_cells.proofs.GivenWay.{gave, gave_back, mid_length, taken_back}
use Rattle.group_cells.proofs.groups.handing.give_way.Goals as goal

pub put_behind-requires : goal.put_behind-requires
put_behind-requires c =
    let taken = c.take_entries-entries in
    omega (arith, mid_length c.args.session c.args.cells.now.items c.args.place c.args.last c.requires.before c.requires.last taken.new.cells.items taken.result taken.ensures.cells taken.ensures.entries)

pub put_entries-requires : goal.put_entries-requires
put_entries-requires c =
    let taken = c.take_entries-entries in
    omega (
      arith,
      mid_length c.args.session c.args.cells.now.items c.args.place c.args.last c.requires.before c.requires.last taken.new.cells.items taken.result taken.ensures.cells taken.ensures.entries,
      ap length c.in-Err.ensures.err,
    )

pub returns-in-Ok-clause-ok : goal.returns-in-Ok-clause-ok
returns-in-Ok-clause-ok c =
    let taken = c.take_entries-entries in
    gave c.args.session c.args.cells.now.items c.args.place c.args.last c.requires.before c.requires.last taken.new.cells.items taken.result taken.ensures.cells taken.ensures.entries
    c.put_behind.new.cells.items c.in-Ok.ensures.ok

pub returns-in-Ok-clause-undo : goal.returns-in-Ok-clause-undo
returns-in-Ok-clause-undo c =
    let taken = c.take_entries-entries in
    gave_back c.args.session c.args.cells.now.items c.args.place c.args.last c.requires.before c.requires.last taken.new.cells.items taken.result taken.ensures.cells taken.ensures.entries
    c.in-Ok.given c.put_behind.new.cells.items c.requires.stands c.in-Ok.ensures.ok c.in-Ok.ensures.kept c.in-Ok.ensures.given

pub returns-in-Err-clause-err : goal.returns-in-Err-clause-err
returns-in-Err-clause-err c =
    let taken = c.take_entries-entries in
    taken_back c.args.session c.args.cells.now.items c.args.place c.args.last c.requires.before c.requires.last taken.new.cells.items taken.result taken.ensures.cells taken.ensures.entries
    c.put_behind.new.cells.items c.put_entries.new.cells.items c.in-Err.entries c.requires.stands c.in-Err.ensures.err c.in-Err.ensures.answered c.put_entries.ensures
