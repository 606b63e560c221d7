use Rattle.std.proofs.Common.{List, ◌∷◌, [], ◌++◌, ◌≡◌, ap, arith, length, subst, sym, ◌∙◌}
use Rattle.mark_trees.specs.Halves.{AreLevels, lowest, put_up}
use Rattle.mark_trees.specs.Levels.{lists_of}
use Rattle.mark_trees.specs.declared.twin_marks.TwinMarks.{TwinMarks}
use Rattle.mark_trees.proofs.Halving.{lowest_push, push_levels}
use Rattle.mark_trees.proofs.PutUp.{room_for}
use Rattle.mark_trees.proofs.least_tree.LeastTree.push.Goals as goal

pub put_up-requires-clause-levels : goal.put_up-requires-clause-levels
put_up-requires-clause-levels c = subst AreLevels (sym c.in_ok-keep_room.ensures.lists) c.in_ok-grow.ensures.levels

pub put_up-requires-clause-room : goal.put_up-requires-clause-room
put_up-requires-clause-room c =
    room_for c.keep_room.new.levels.items c.len-at.result (subst AreLevels (sym c.in_ok-keep_room.ensures.lists) c.in_ok-grow.ensures.levels) c.in_ok-keep_room.ensures.ok
    (omega (arith, c.len-at.ensures, ap length c.self.view_is, ap length c.in_ok-grow.ensures.lowest, ap (λ (l : List (List TwinMarks)). length (lowest l)) c.in_ok-keep_room.ensures.lists))

pub invariant_of-self-2 : goal.invariant_of-self-2
invariant_of-self-2 c =
    let place : c.len-at.result ≡ length (lowest (lists_of c.grow.new.levels.items)) = omega (arith, c.len-at.ensures, ap length c.self.view_is, ap length c.in_ok-grow.ensures.lowest) in
    subst AreLevels (sym (c.put_up.ensures ∙ ap (λ (l : List (List TwinMarks)). put_up l c.len-at.result c.args.marks) c.in_ok-keep_room.ensures.lists))
    (push_levels (lists_of c.grow.new.levels.items) c.len-at.result c.args.marks c.in_ok-grow.ensures.levels place c.in_ok-grow.ensures.ok)

pub returns-clause-ok : goal.returns-clause-ok
returns-clause-ok c =
    let place : c.len-at.result ≡ length (lowest (lists_of c.grow.new.levels.items)) = omega (arith, c.len-at.ensures, ap length c.self.view_is, ap length c.in_ok-grow.ensures.lowest) in
    ap lowest (c.put_up.ensures ∙ ap (λ (l : List (List TwinMarks)). put_up l c.len-at.result c.args.marks) c.in_ok-keep_room.ensures.lists)
    ∙ lowest_push (lists_of c.grow.new.levels.items) c.len-at.result c.args.marks place c.in_ok-grow.ensures.ok
    ∙ ap (λ (l : List TwinMarks). l ++ c.args.marks ∷ []) (c.in_ok-grow.ensures.lowest ∙ c.self.view_is)
