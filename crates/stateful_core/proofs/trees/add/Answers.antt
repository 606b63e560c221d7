use Rattle.std.proofs.Common.{List, length, refl, ap, subst, sym}
use Rattle.stateful_core.specs.Trees.{AreTreesBut, HasPlace, IsAmong, entry_at}
use Rattle.stateful_core.specs.declared.node_tree.NodeTree.{NodeTree}
use Rattle.stateful_core.proofs.NextReady.{got_last}
use Rattle.stateful_core.proofs.TreeSteps.{added, added_place}
use Rattle.stateful_core.proofs.trees.add.Goals as goal

pub returns-clause-kept : goal.returns-clause-kept
returns-clause-kept c = λ hole cells h.
    subst (λ (l : List NodeTree). AreTreesBut hole l cells) (sym c.in_ok-push.ensures.items)
    (added c.args.trees.now.items (record { node = c.args.node; marks = c.new.result })
    (λ a. c.if-is_among.ensures (subst (λ (l : List NodeTree). IsAmong l c.args.node) (sym c.as_slice.ensures.value) a))
    (λ i. ap (λ l. entry_at l i) c.new.ensures) hole cells h)

pub returns-clause-others : goal.returns-clause-others
returns-clause-others c = λ n i h.
    subst (λ (l : List NodeTree). HasPlace l n i) (sym c.in_ok-push.ensures.items)
    (added_place c.args.trees.now.items (record { node = c.args.node; marks = c.new.result })
    (λ a. c.if-is_among.ensures (subst (λ (l : List NodeTree). IsAmong l c.args.node) (sym c.as_slice.ensures.value) a))
    (λ i. ap (λ l. entry_at l i) c.new.ensures) n i h)

pub returns-clause-ok : goal.returns-clause-ok
returns-clause-ok c =
    subst (λ (l : List NodeTree). IsAmong l c.args.node) (sym c.in_ok-push.ensures.items)
    (length c.args.trees.now.items, record { node = c.args.node; marks = c.new.result }, got_last c.args.trees.now.items (record { node = c.args.node; marks = c.new.result }), refl)
