use Rattle.std.proofs.Common.{◌≡◌, ◌+◌, ◌*◌, arith, sym, ◌∙◌, length}
use Rattle.std.proofs.lemmas.List.{get_or_read}
use Rattle.mark_trees.specs.Halves.{lesser}
use Rattle.mark_trees.proofs.Halving.{alone_of, pair_of}
use Rattle.mark_trees.proofs.levels.lesser_of_pair.Goals as goal

pub returns-then-at-level : goal.returns-then-at-level
returns-then-at-level c = λ d.
    let xs = c.args.level.now in
    let first = get_or_read xs (2 * c.args.at) c.index-level-at.result (omega arith) c.index-level-at.is d in
    let second = get_or_read xs (2 * c.args.at + 1) c.index-level-at-then-at-level.result (omega arith) c.index-level-at-then-at-level.is d in
    c.lesser.ensures ∙ (λ i. lesser (first i) (second i)) ∙ sym (pair_of xs c.args.at d (omega arith))

pub returns-else-at-level : goal.returns-else-at-level
returns-else-at-level c = λ d.
    let xs = c.args.level.now in
    let one : length c.args.level.now ≡ 2 * c.args.at + 1 = omega arith in
    get_or_read xs (2 * c.args.at) c.index-level-at.result (omega arith) c.index-level-at.is d ∙ sym (alone_of xs c.args.at d one)
