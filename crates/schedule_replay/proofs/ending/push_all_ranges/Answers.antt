use Rattle.std.proofs.Common.{◌≡◌, List, ◌++◌, ap, reverse, ◌∙◌}
use Rattle.std.specs.List.{flat_map}
use Rattle.std.proofs.lemmas.List.{reverse-reverse}
use Rattle.std.proofs.lemmas.Result.{on_ok_weaker}
use Rattle.beam_values.specs.declared.piece.Dead.{Dead}
use Rattle.beam_values.specs.declared.piece.Done.{Done}
use Rattle.beam_values.specs.declared.piece.Piece.{Piece}
use Rattle.schedule_replay.specs.Replays.{break, done_line, live_line, pending_line, position_of}
use Rattle.schedule_replay.proofs.Printing.{printed_in_turn}
use Rattle.schedule_replay.proofs.ending.push_all_ranges.Goals as goal

pub returns : goal.returns
returns c =
    let b = c.args.book.now in
    let live = c.in_ok-live.live.items in
    let first = c.push_break.new.out in
    let second = c.push_ranges.new.out in
    let third = c.push_ranges-2.new.out in
    let fourth = c.push_pending.new.out in
    let dones : second ≡ first ++ flat_map done_line b.done = c.in_ok-push_ranges.ensures ∙ ap (λ (l : List Done). first ++ flat_map done_line l) c.done.ensures in
    let lives : third ≡ second ++ flat_map live_line live = c.in_ok-push_ranges-2.ensures ∙ ap (λ (l : List Done). second ++ flat_map live_line l) c.as_slice.ensures.value in
    let pendings : fourth ≡ third ++ flat_map pending_line b.pending =
    c.in_ok-push_pending.ensures ∙ ap (λ (l : List Piece). third ++ flat_map pending_line l) (ap reverse c.pending.ensures ∙ reverse-reverse b.pending) in
    on_ok_weaker c.push_dead.result
    (λ (last : c.push_dead.new.out ≡ fourth ++ flat_map position_of c.dead.result.now). record {
      live = live;
      all = c.in_ok-live.ensures.all;
      ascending = c.in_ok-live.ensures.ascending;
      printed = printed_in_turn c.args.out.now first second third fourth c.push_dead.new.out break (flat_map done_line b.done) (flat_map live_line live) (flat_map pending_line b.pending)
          (flat_map position_of b.dead) c.in_ok-push_break.ensures dones lives pendings (last ∙ ap (λ (l : List Dead). fourth ++ flat_map position_of l) c.dead.ensures);
    })
    c.push_dead.ensures
