use Rattle.std.proofs.Common.{Vec, Global, ap, refl, ◌∙◌}
use Rattle.std.proofs.lemmas.Option.{get_or_from_slice_get}
use Rattle.mark_trees.specs.Halves.{put}
use Rattle.mark_trees.specs.declared.twin_marks.TwinMarks.{TwinMarks}
use Rattle.mark_trees.proofs.levels.put_at.Goals as goal

pub returns : goal.returns
returns c = λ old at.
    let own = c.index_mut-level.ensures.value ∙ get_or_from_slice_get c.args.levels.now.items c.args.k old c.index_mut-level.result.now at in
    record {
      new = c.put.new.level;
      set = refl;
      items = c.put.ensures.items ∙ ap (λ (v : Vec TwinMarks Global). put v.items c.args.at c.args.marks) own;
      over = c.put.ensures.up c.args.marks;
    }
