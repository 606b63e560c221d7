use Rattle.std.proofs.lemmas.Result.{on_ok_weaker}
use Rattle.beam_values.specs.Grouping.{key_of}
use Rattle.group_cells.proofs.Taking.{place_within, taken_at}
use Rattle.std.proofs.Common.{sym}
use Rattle.group_cells.proofs.groups.draft.Draft.take.Goals as goal

pub put-requires-clause-within : goal.put-requires-clause-within
put-requires-clause-within c = place_within c.args.node (key_of c.args.entry.element) c.args.entry.element.span c.args.self.now.cells c.in-Some.guessed (sym c.in-Some.ensures)

pub returns-in-Some-clause-ok : goal.returns-in-Some-clause-ok
returns-in-Some-clause-ok c =
    on_ok_weaker c.put.result
    (taken_at c.args.node (key_of c.args.entry.element) c.args.entry.element.span c.args.entry c.args.self.now.cells c.put.new.self.cells c.in-Some.guessed c.in-Some.ensures)
    c.put.ensures.ok
