use Rattle.std.proofs.Common.{◌≡◌, ◌∙◌, ◌==◌, ap, false, subst, sym}
use Rattle.std.specs.Prelude.{◌&&◌, ◌||◌, not}
use Rattle.std.specs.List.{list_any}
use Rattle.beam_values.specs.Spans.{same_span}
use Rattle.group_cells.specs.AtPlaces.{at_place}
use Rattle.group_cells.specs.KeyLists.{stands}
use Rattle.group_cells.specs.KnownWindows.{meeting_places, opens, overlaps, AreKnown, AreKnownMet, AreMet}
use Rattle.group_cells.specs.declared.groups.standing.Known.{Known}
use Rattle.group_cells.proofs.KnownCells.{opened_opens}
use Rattle.group_cells.proofs.ListedWindows.{listed_as, listed_without}
use Rattle.group_cells.proofs.groups.standing.Known.opened.Goals as goal

pub returns : goal.returns
returns c = λ rs mark node key old k are_met are has.
    let span = c.args.span in
    let place = c.args.place in
    let cells = c.args.cells.now in
    let met = c.args.met.now in
    let listed = c.in-Apart.listed in
    let left = c.leave.new.self in
    let h = subst (AreKnown mark (opens rs mark node key old)) c.in-Apart.is k in
    let met_are : AreMet span listed.by_end met.windows = subst (λ (known : Known). AreKnownMet span known met.windows) c.in-Apart.is are_met h.1.apart in
    let without = c.leave.ensures.left span h.1.apart (subst (AreMet span listed.by_end) (sym c.as_slice-2.ensures) met_are) in
    let less = listed_without (opens rs mark node key old) (overlaps span) listed.by_end left.by_end h.1 without in
    let now = c.in_ok-add.ensures.listed (λ p s. opens rs mark node key old p s && not (overlaps span s)) less (λ e t there. (without.kept e t there).1) in
    let gone : list_any (at_place stands false cells) (meeting_places rs mark node key span old) ≡ false =
    ap (list_any (at_place stands false cells)) (sym (c.as_slice.ensures ∙ are)) ∙ sym c.any_stands.ensures ∙ c.if-any_stands.false in (
      c.add.ensures.mark ∙ c.leave.ensures.mark ∙ h.0,
      listed_as (λ p s. (opens rs mark node key old p s && not (overlaps span s)) || (p == place && same_span span s)) (opens rs mark node key cells) c.add.new.self.by_end
          (opened_opens rs mark node key span place old cells has listed.by_end h.1 gone) now,
    )
