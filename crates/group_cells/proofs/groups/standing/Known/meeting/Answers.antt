use Rattle.std.proofs.Common.{◌≡◌, ℕ, subst, sym}
use Rattle.std.specs.Prelude.{Bool}
use Rattle.std.proofs.lemmas.Result.{IfOk-weaker}
use Rattle.beam_values.specs.Intervals.{Interval}
use Rattle.group_cells.specs.KnownWindows.{meeting_places, opens, AreFilled, AreKnown, AreKnownMet, AreListed, AreListedApart, AreMet, ArePlacesMet}
use Rattle.group_cells.specs.declared.groups.standing.Known.{Known}
use Rattle.group_cells.specs.declared.groups.standing.Met.{Met}
use Rattle.group_cells.proofs.KnownCells.{all_filled, listed_filled, places_are_met}
use Rattle.group_cells.proofs.groups.standing.Known.meeting.Goals as goal

pub returns-in-Apart-clause-places : goal.returns-in-Apart-clause-places
returns-in-Apart-clause-places c =
    let rs = c.args.rules.now in
    let key = c.args.key.now in
    let cells = c.args.cells.now in
    IfOk-weaker c.meeting.result (λ (met : Met). (test : ℕ → Interval → Bool) → AreListed test c.in-Apart.listed.by_end → ArePlacesMet test c.args.span met.places)
    (λ (met : Met). AreKnown c.args.mark (opens rs c.args.mark c.args.node key cells) c.args.self.now → met.places ≡ meeting_places rs c.args.mark c.args.node key c.args.span cells)
    (λ met f known.
    let h = subst (AreKnown c.args.mark (opens rs c.args.mark c.args.node key cells)) c.in-Apart.is known in
    places_are_met rs c.args.mark c.args.node key c.args.span cells met.places (f (opens rs c.args.mark c.args.node key cells) h.1))
    c.meeting.ensures.places

pub returns-in-Apart-clause-windows : goal.returns-in-Apart-clause-windows
returns-in-Apart-clause-windows c =
    IfOk-weaker c.meeting.result (λ (met : Met). AreListedApart c.in-Apart.listed.by_end → AreMet c.args.span c.in-Apart.listed.by_end met.windows)
    (λ (met : Met). AreKnownMet c.args.span c.args.self.now met.windows)
    (λ met are. subst (λ (known : Known). AreKnownMet c.args.span known met.windows) (sym c.in-Apart.is) are)
    c.meeting.ensures.windows

pub returns-in-Apart-clause-filled : goal.returns-in-Apart-clause-filled
returns-in-Apart-clause-filled c =
    let rs = c.args.rules.now in
    let key = c.args.key.now in
    let cells = c.args.cells.now in
    IfOk-weaker c.meeting.result (λ (met : Met). (test : ℕ → Interval → Bool) → AreListed test c.in-Apart.listed.by_end → ArePlacesMet test c.args.span met.places)
    (λ (met : Met). AreKnown c.args.mark (opens rs c.args.mark c.args.node key cells) c.args.self.now → AreFilled rs c.args.mark c.args.node key cells)
    (λ met f known.
    let h = subst (AreKnown c.args.mark (opens rs c.args.mark c.args.node key cells)) c.in-Apart.is known in
    listed_filled rs c.args.mark c.args.node key cells c.in-Apart.listed.by_end h.1)
    c.meeting.ensures.places

pub returns-in_ok-all_meeting-in-Nothing-clause-places : goal.returns-in_ok-all_meeting-in-Nothing-clause-places
returns-in_ok-all_meeting-in-Nothing-clause-places c = λ known. c.in_ok-all_meeting-in-Nothing.ensures.places

pub returns-in_ok-all_meeting-in-Nothing-clause-windows : goal.returns-in_ok-all_meeting-in-Nothing-clause-windows
returns-in_ok-all_meeting-in-Nothing-clause-windows c = subst (λ (known : Known). AreKnownMet c.args.span known c.new.result) (sym c.in-Nothing.is) tt

pub returns-in_ok-all_meeting-in-Nothing-clause-filled : goal.returns-in_ok-all_meeting-in-Nothing-clause-filled
returns-in_ok-all_meeting-in-Nothing-clause-filled c = λ known. all_filled c.args.rules.now c.args.mark c.args.node c.args.key.now c.args.cells.now c.in_ok-all_meeting-in-Nothing.ensures.filled
