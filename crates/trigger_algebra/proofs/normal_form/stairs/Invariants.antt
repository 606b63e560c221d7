use Rattle.std.proofs.Common.{◌≡◌, ◌++◌, drop}
use Rattle.trigger_algebra.specs.declared.need.Need.TheVariants.{Never}
use Rattle.trigger_algebra.specs.Staircases.{need_of, stairs_of}
use Rattle.trigger_algebra.proofs.normal_form.stairs.Given as goal

-- the bars so far, and the steps of the counts that are left, make the whole
abbrev pub invariant-loop-count : goal.invariant-loop-count
invariant-loop-count l =
    l.bars ++ stairs_of (need_of l.when) l.last (drop l.count-index l.count-items) ≡ stairs_of (need_of l.when) Never l.count-items
