use Rattle.std.proofs.Common.{◌∙◌, sym, w64}
use Rattle.std.proofs.lemmas.Int.{to_z-of_z}
use Rattle.serde_json.specs.View.{view}
use Rattle.plan_reader.proofs.TreeTurns.{bars_read}
use Rattle.plan_reader.proofs.trees.bars_in.Goals as goal

pub returns-in-Some : goal.returns-in-Some
returns-in-Some c =
    bars_read c.args.least c.args.most c.args.place (view c.args.value.now) c.in-Some.when c.bars_of.result
    (let e = c.has_tree_form.ensures in let h = c.if-not-has_tree_form.false in cc)
    (sym c.in_ok-when.ensures ∙ c.in-Some.is)
    (rw (to_z-of_z w64 c.args.least c.ranges.least, to_z-of_z w64 c.args.most c.ranges.most) at c.bars_of.ensures)
