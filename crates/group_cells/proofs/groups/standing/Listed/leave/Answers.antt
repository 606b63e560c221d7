use Rattle.std.proofs.Common.{◌≡◌, ◌∙◌, List, None, ap, arith, cond, take, to_z, of_z, w64}
use Rattle.std.specs.Ordering.{int_cmp, is_eq}
use Rattle.std.proofs.lemmas.Int.{to_z-of_z}
use Rattle.std.proofs.lemmas.List.{take_all}
use Rattle.group_cells.specs.KnownWindows.{window_at}
use Rattle.group_cells.specs.declared.groups.standing.Standing.{Standing}
use Rattle.group_cells.proofs.ListedWindows.{among_more, is_among, met_left}
use Rattle.group_cells.proofs.groups.standing.Listed.leave.Goals as goal

pub loop-window-preserved : goal.loop-window-preserved
loop-window-preserved c =
    let same : to_z w64 (of_z w64 c.end.result) ≡ c.end.result = grind (arith, to_z-of_z, c.end.type_inv) in
    let ends = same ∙ c.end.ensures.value in
    record {
      mark = c.loop-window.invariant.mark;
      left = among_more c.args.met.now c.loop-window.window-index c.window-item.result c.args.self.now.by_end c.loop-window.self.by_end c.remove.new.self c.loop-window-test.true c.window-item.is
          c.loop-window.invariant.left
          (λ q. c.remove.ensures.updates.0 q ∙ ap (λ z. cond (is_eq (int_cmp z q)) None (window_at c.loop-window.self.by_end q)) ends);
    }

pub returns-clause-left : goal.returns-clause-left
returns-clause-left c = λ span apart are.
    let old = c.args.self.now.by_end in
    let met = c.args.met.now in
    let all : take c.loop-window.window-index met ≡ met = take_all c.loop-window.window-index met (omega (arith, c.loop-window-test.false)) in
    met_left span old c.loop-window.self.by_end met apart are
    (λ e. c.loop-window.invariant.left e ∙ ap (λ (l : List Standing). cond (is_among l e) None (window_at old e)) all)
