use Rattle.std.proofs.Common.{refl}
use Rattle.combine_views.specs.Words.{element_of_word}
use Rattle.combine_views.proofs.OnlyFollower.{comes_to_group}
use Rattle.combine_views.proofs.passing.+words_at_group.Goals as goal

pub returns-in-Group : goal.returns-in-Group
returns-in-Group t c = λ word letters.
    let e = element_of_word c.args.each.now word in
    comes_to_group c.args.graph.now c.args.from c.in-Some.next c.in-Some.kind.now c.in-Some.ensures e c.in-Group.trigger e c.in-Group.is refl
