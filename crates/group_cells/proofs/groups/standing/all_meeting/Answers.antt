use Rattle.std.proofs.Common.{◌≡◌, ◌∙◌, rules, sym}
use Rattle.group_cells.proofs.MetPlaces.{filled_more, meeting_no, meeting_yes}
use Rattle.group_cells.proofs.groups.standing.all_meeting.Goals as goal
use Rattle.group_cells.proofs.groups.standing.all_meeting.Goals.{then-meets+in_ok-map_err+in_ok-push, else-meets}

pub loop-place-preserved : goal.loop-place-preserved
loop-place-preserved c =
    let cells = c.args.cells.now in
    let i = c.loop-place.place in
    let cell = c.index-cells-place.result in
    let filled = filled_more cells i cell c.loop-place-test.true c.index-cells-place.is c.meets.ensures.some c.loop-place.invariant.filled in
    elim c.if-meets.branch [
      | then-meets+in_ok-map_err+in_ok-push w ↦ (
          let at : w.in_ok-map_err.field-0 ≡ i = search rules in
          record {
            places = meeting_yes cells i cell c.loop-place-test.true c.index-cells-place.is c.args.rules.now c.args.mark c.args.node c.args.key.now c.args.span w.in_ok-map_err.field-0 c.loop-place.places c.if-meets.places
                (w.places-is ∙ w.in_ok-push.ensures.ok) at (sym c.meets.ensures.meets ∙ w.if-meets.true) c.loop-place.invariant.places;
            filled = filled;
          }
          )
      | else-meets w ↦ record {
        places = w.places-is ∙ meeting_no cells i cell c.loop-place-test.true c.index-cells-place.is c.args.rules.now c.args.mark c.args.node c.args.key.now c.args.span c.loop-place.places
            (sym c.meets.ensures.meets ∙ w.if-meets.false) c.loop-place.invariant.places;
        filled = filled;
      }
    ]
