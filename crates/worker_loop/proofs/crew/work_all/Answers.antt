use Rattle.std.proofs.Common.{rules, ◌++◌, length, map, take, drop, refl, sym, ap, subst, ◌∙◌, List, arith}
use denote.Param.Send.{sendable}
use Rattle.std.specs.List.{AllByRecursion, sum_by}
use Rattle.worker_table.specs.Notes.{Entry}
use Rattle.worker_loop.proofs.Crossing.{Seat-send, call_sync}
use Rattle.worker_table.specs.Passes.{entry_of, note_of_pass, setting_of}
use Rattle.bundle_work.specs.Kits.{IsKitFor}
use Rattle.worker_loop.specs.Workers.{EachEndsAs, HasSat, IsReady, no_faults, share_with}
use Rattle.worker_loop.specs.declared.crew.Seat.{Seat}
use Rattle.worker_loop.specs.declared.workers.WorkerEnd.{WorkerEnd}
use Rattle.bundle_work.proofs.Answered.{kit_same}
use Rattle.worker_loop.proofs.Crews.{all_after, both_of, done_as, each_same, ends_of, kits_after, seats_length, sum_below, sum_mapped, take_front}
use Rattle.worker_loop.proofs.crew.work_all.Goals as goal

abbrev entry_at : Seat → Entry
entry_at seat = entry_of seat.pass

pub returns-in_err-ends-clause-kept : goal.returns-in_err-ends-clause-kept
returns-in_err-ends-clause-kept g c =
    each_same _ (λ kit. (refl, kit_same g.F.Shelf.faults g.F.Shelf.strict g.S.Store.faults g.S.Store.files g.S.Store.opened kit.shelf kit.store)) c.args.kits.now

pub returns-in_err-seats-clause-kept : goal.returns-in_err-seats-clause-kept
returns-in_err-seats-clause-kept g c =
    each_same _ (λ kit. (refl, kit_same g.F.Shelf.faults g.F.Shelf.strict g.S.Store.faults g.S.Store.files g.S.Store.opened kit.shelf kit.store)) c.args.kits.now

pub each_pair-requires-send-T : goal.each_pair-requires-send-T
each_pair-requires-send-T g c κs within = search (Seat-send, sendable) depth 40

pub each_pair-requires-sync-J : goal.each_pair-requires-sync-J
each_pair-requires-sync-J g c κs within = call_sync _ _ _ _ _ _ _ _ _ _ _ c.type_bounds.sync-R c.type_bounds.sync-G

pub each_pair-requires-clause-accepts : goal.each_pair-requires-clause-accepts
each_pair-requires-clause-accepts g c κs within =
    let table = c.args.table.now in
    let fits = IsKitFor g.F.Shelf.strict g.S.Store.files g.S.Store.opened (setting_of table) in
    both_of fits (IsReady table) _ (λ kit seat is ready s k at_s at_k. ((subst (IsReady table) (sym at_s) ready, c.requires.plan, subst fits (sym at_k) is), search rules)) _ _
    (ap length c.as_mut_slice.ensures.value ∙ c.seat_all.ensures.count) c.requires.kits (subst (AllByRecursion (IsReady table)) (sym c.as_mut_slice.ensures.value) c.seat_all.ensures.ready)

pub gather-share-requires-clause-sat : goal.gather-share-requires-clause-sat
gather-share-requires-clause-sat g c =
    let table = c.args.table.now in
    let n = seats_length _ _ _ _ _ c.each_pair.ensures in
    let front = take_front c.each_pair.new.seats (drop (length c.each_pair.new.seats) c.seat_all.new.seats.items) c.seat_all.new.seats.len (sym c.as_mut_slice.ensures.len ∙ sym n) in
    subst (AllByRecursion (HasSat table)) (sym front) (all_after _ (HasSat table) (λ k k' s t h. subst (HasSat table) h.s_left h.call.0) _ _ _ _ c.each_pair.ensures)

pub returns-clause-worked : goal.returns-clause-worked
returns-clause-worked g c =
    let table = c.args.table.now in
    let seats = c.each_pair.new.seats in
    let n = seats_length _ _ _ _ _ c.each_pair.ensures in
    let front = take_front seats (drop (length seats) c.seat_all.new.seats.items) c.seat_all.new.seats.len (sym c.as_mut_slice.ensures.len ∙ sym n) in
    let sat = all_after _ (HasSat table) (λ k k' s t h. subst (HasSat table) h.s_left h.call.0) _ _ _ _ c.each_pair.ensures in
    record {
      entries = map entry_at seats;
      behind = c.gather-share.ensures.about ∙ ap (λ l. l ++ map entry_at (take c.seat_all.new.seats.len (seats ++ drop (length seats) c.seat_all.new.seats.items))) c.seat_all.ensures.about ∙ ap (λ l. (note_of_pass c.args.pass.now).about ++ map entry_at l) front;
      size = let s = c.gather-share.ensures.size in let t = c.seat_all.ensures.size in let l = ap length front in let k = c.seat_all.ensures.count in let v = c.as_mut_slice.ensures.len in omega (arith, n);
      ended =
          subst (λ (l : List WorkerEnd). EachEndsAs (setting_of table) l (map entry_at seats)) (sym (c.from_vec-ends.ensures ∙ c.gather-share.ensures.ends ∙ ap (map (λ (s : Seat). s.end)) front)) (ends_of table seats sat);
      share =
          c.gather-share.ensures.share
          ∙ ap (λ (l : List Seat). share_with no_faults (sum_by (λ s. (entry_of s.pass).calls) l) (sum_by (λ s. (entry_of s.pass).reads) l)) front
          ∙ ap (λ n. share_with no_faults n (sum_by (λ (s : Seat). (entry_of s.pass).reads) seats)) (sym (sum_mapped entry_at (λ e. e.calls) seats))
          ∙ ap (λ n. share_with no_faults (sum_by (λ (e : Entry). e.calls) (map entry_at seats)) n) (sym (sum_mapped entry_at (λ e. e.reads) seats));
      calls =
          let below = sum_below _ (λ kit. g.F.Shelf.faults kit.shelf) (λ (s : Seat). (entry_of s.pass).calls)
          (λ k k' s t h. (done_as g.F.Shelf.strict g.F.Shelf.faults g.S.Store.files g.S.Store.faults g.S.Store.opened _ k _ k' _ (entry_at t) h.k_is h.k_left (ap entry_at h.s_left) h.call.1).counted.calls) _ _ _ _
          c.each_pair.ensures in
          omega (arith, sum_mapped entry_at (λ e. e.calls) seats, below);
      reads =
          let below = sum_below _ (λ kit. g.S.Store.faults kit.store) (λ (s : Seat). (entry_of s.pass).reads)
          (λ k k' s t h. (done_as g.F.Shelf.strict g.F.Shelf.faults g.S.Store.files g.S.Store.faults g.S.Store.opened _ k _ k' _ (entry_at t) h.k_is h.k_left (ap entry_at h.s_left) h.call.1).counted.reads) _ _ _ _
          c.each_pair.ensures in
          omega (arith, sum_mapped entry_at (λ e. e.reads) seats, below);
    }

pub returns-clause-kept : goal.returns-clause-kept
returns-clause-kept g c =
    kits_after _ _
    (λ k k' s t h. let done = done_as g.F.Shelf.strict g.F.Shelf.faults g.S.Store.files g.S.Store.faults g.S.Store.opened _ k _ k' _ (entry_at t) h.k_is h.k_left (ap entry_at h.s_left) h.call.1 in (done.files, done.kept))
    _ _ _ _ c.each_pair.ensures
