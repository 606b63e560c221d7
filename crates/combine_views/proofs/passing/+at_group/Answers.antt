use Rattle.std.proofs.Common.{subst}
use Rattle.combine_views.specs.Passing.{PutsOut}
use Rattle.combine_views.specs.Told.{elements_told}
use Rattle.combine_views.specs.declared.told.Told.{Told}
use Rattle.combine_views.specs.Seen.{element_seen}
use Rattle.combine_views.proofs.EachText.{words_come}
use Rattle.combine_views.proofs.OnlyFollower.{comes_to_group}
use Rattle.combine_views.proofs.passing.+at_group.Goals as goal

pub returns-in-Group : goal.returns-in-Group
returns-in-Group t c =
    comes_to_group c.args.graph.now c.args.from c.in-Some.next c.in-Some.kind.now c.in-Some.ensures (element_seen c.args.seen.now) c.in-Group.trigger (element_seen c.again.result)
    c.in-Group.is c.again.ensures

pub returns-in-Some-words_at_group : goal.returns-in-Some-words_at_group
returns-in-Some-words_at_group t c =
    words_come c.args.graph.now c.in-Some.next c.in-Some-Words.each c.in-Some-words_at_group.there c.in-Some-words_at_group.ensures c.args.from c.in-Some.kind.now c.in-Some.ensures
    (element_seen c.args.seen.now) c.in-Some-Words.text.now
    (subst (λ (told : Told). PutsOut c.in-Some.kind.now (element_seen c.args.seen.now) (elements_told told)) c.in-Some-Words.field-0-is c.in-Some-Words.ensures)
