use Rattle.std.proofs.Common.{arith, subst, sym}
use Rattle.std.specs.Prelude.{Contains}
use Rattle.std.proofs.lemmas.List.Elements.{Contains-get_or}
use Rattle.group_cells.proofs.WindowSessions.{held_at, held_there}
use Rattle.group_cells.proofs.windows.holder.Goals as goal

pub returns-then-at-listed : goal.returns-then-at-listed
returns-then-at-listed c =
    let listed = c.args.listed.now in
    let at = c.count_ended-at.result in
    let w = c.index-listed-at.result in
    record {
      listed = subst (Contains listed) (sym c.index-listed-at.is) (Contains-get_or listed at w c.if-at-listed.true);
      covers = λ h. held_there listed c.args.own at w c.requires c.count_ended-at.ensures.some c.count_ended-at.ensures.ended c.count_ended-at.ensures.later c.index-listed-at.is h;
    }

pub returns-else-at-listed : goal.returns-else-at-listed
returns-else-at-listed c =
    let listed = c.args.listed.now in
    let at = c.count_ended-at.result in
    record {
      listed = tt;
      covers = λ h.
          let held = held_at listed c.args.own at c.requires c.count_ended-at.ensures.some c.count_ended-at.ensures.ended c.count_ended-at.ensures.later h in
          omega (arith, held.0, c.if-at-listed.false);
    }
