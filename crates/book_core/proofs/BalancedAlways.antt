-- From the opening on, where the files are told, what arrived and what flows balance.
use Rattle.std.proofs.Common.{◌≡◌, ℕ, Bool, true, false, List, [], ◌∷◌, ◌++◌, map, refl, sym, ap, subst, ◌∙◌}
use Rattle.std.specs.Prelude.{Some, None}
use Rattle.std.specs.List.{flat_map}
use Rattle.beam_values.specs.Bags.{IsSameBag}
use Rattle.beam_values.proofs.Bags.{bag_append, bag_flat_map, bag_from_same, bag_refl, bag_sym, bag_trans}
use Rattle.beam_values.specs.declared.arrival.Arrival.{Arrival}
use Rattle.beam_values.specs.declared.cell.Cell.{Cell}
use Rattle.beam_values.specs.declared.cell.Dropped.{Dropped}
use Rattle.beam_values.specs.declared.cell.Pane.{Pane}
use Rattle.beam_values.specs.declared.fault.Cause.{Cause}
use Rattle.beam_values.specs.declared.fault.Cause.TheVariants.{Call, Read}
use Rattle.beam_values.specs.declared.fault.FaultNote.{FaultNote}
use Rattle.beam_values.specs.declared.file_text.FileText.{FileText}
use Rattle.beam_values.specs.declared.piece.Done.{Done}
use Rattle.beam_values.specs.declared.plan.Plan.{Plan}
use Rattle.beam_model.specs.Account.{arrivals_of}
use Rattle.beam_model.specs.Chains.{Output, Arrives}
use Rattle.beam_model.specs.Coverings.{spread_dones}
use Rattle.beam_model.specs.Flow.{pane_chains}
use Rattle.beam_model.specs.Positions.{items}
use Rattle.book_core.specs.Book.{SeenBook, HeldPane, held, panes_of}
use Rattle.book_core.specs.Changes.{with_slot, cut_to, split_off, tried_again, broken, given_back, counted, stopped_where, ends_run, note_of}
use Rattle.book_core.specs.Facts.{IsBalanced, held_chains}
use Rattle.book_core.specs.Jobs.{Next, next_job}
use Rattle.book_core.specs.Runs.{IsOpening, opened}
use Rattle.book_core.specs.Sane.{AreKeptWith}
use Rattle.book_core.specs.Steps.{IsWorking}
use Rattle.book_core.specs.declared.live.Live.{Live}
use Rattle.book_core.specs.declared.live.Live.TheVariants as live
use Rattle.book_core.proofs.Balanced.{commit_balanced}
use Rattle.book_core.proofs.Cases.{Keeps, enrolled}
use Rattle.book_core.proofs.HeldMoves.{take_moves, set_moves, enroll_moves, back_moves}
use Rattle.book_core.proofs.HeldOnce.{none_held}
use Rattle.book_core.proofs.SaneResults.{StaysCelled, take_stays, fail_stays}
use Rattle.beam_values.specs.declared.log.KeyLog.{KeyLog}
use Rattle.beam_model.specs.Flow.{log_chains}
use Rattle.stateful_core.specs.Cells.{key_arrivals, logs_of}
use Rattle.stateful_core.proofs.LeftAs.{give_back_leaves, take_leaves}
use Rattle.book_core.proofs.Taking.{take_cases}

-- what a step leaves that is no commit
record StaysBalanced (old new : SeenBook) : Type 0 where
  same : StaysCelled old new
  done : new.done ≡ old.done
  logs : logs_of new.keys ≡ logs_of old.keys
  came : key_arrivals new.keys ≡ key_arrivals old.keys
  held : IsSameBag (held new) (held old)

abbrev flows_held : Plan → List Pane → HeldPane → List Output
flows_held plan panes h = pane_chains plan (panes_of panes (h.waiting ∷ []))

-- both sides over the parts of a book
abbrev Balances : List FileText → Plan → List Done → List Pane → List KeyLog → List Cell → List Dropped → List Arrival → List Arrival → List HeldPane → Type 0
Balances told plan done panes logs cells dropped written came held =
    IsSameBag (spread_dones plan (items told plan) done ++ (pane_chains plan panes ++ log_chains plan logs))
    (map Arrives (arrivals_of cells dropped [] written ++ came) ++ flat_map (flows_held plan panes) held)

balanced_onward : (told : List FileText) (old new : SeenBook) → StaysBalanced old new → IsBalanced told old → IsBalanced told new
balanced_onward told old new s h =
    let arrived = map Arrives (arrivals_of old.cells old.dropped [] old.written ++ key_arrivals old.keys) in
    let moved : Balances told old.plan old.done old.panes (logs_of old.keys) old.cells old.dropped old.written (key_arrivals old.keys) (held new) =
    bag_trans (spread_dones old.plan (items told old.plan) old.done ++ (pane_chains old.plan old.panes ++ log_chains old.plan (logs_of old.keys)))
    (arrived ++ held_chains old) (arrived ++ flat_map (flows_held old.plan old.panes) (held new)) h
    (bag_append arrived arrived (held_chains old) (flat_map (flows_held old.plan old.panes) (held new)) (bag_refl arrived)
    (bag_flat_map (flows_held old.plan old.panes) (held old) (held new) (bag_sym (held new) (held old) s.held))) in
    subst (λ (p : Plan). Balances told p new.done new.panes (logs_of new.keys) new.cells new.dropped new.written (key_arrivals new.keys) (held new)) (sym s.same.plan)
    (subst (λ (l : List Done). Balances told old.plan l new.panes (logs_of new.keys) new.cells new.dropped new.written (key_arrivals new.keys) (held new)) (sym s.done)
    (subst (λ (l : List Pane). Balances told old.plan old.done l (logs_of new.keys) new.cells new.dropped new.written (key_arrivals new.keys) (held new)) (sym s.same.panes)
    (subst (λ (l : List KeyLog). Balances told old.plan old.done old.panes l new.cells new.dropped new.written (key_arrivals new.keys) (held new)) (sym s.logs)
    (subst (λ (l : List Cell). Balances told old.plan old.done old.panes (logs_of old.keys) l new.dropped new.written (key_arrivals new.keys) (held new)) (sym s.same.cells)
    (subst (λ (l : List Dropped). Balances told old.plan old.done old.panes (logs_of old.keys) old.cells l new.written (key_arrivals new.keys) (held new)) (sym s.same.dropped)
    (subst (λ (l : List Arrival). Balances told old.plan old.done old.panes (logs_of old.keys) old.cells old.dropped l (key_arrivals new.keys) (held new)) (sym s.same.written)
    (subst (λ (l : List Arrival). Balances told old.plan old.done old.panes (logs_of old.keys) old.cells old.dropped old.written l (held new)) (sym s.came) moved)))))))

take_done : (b : SeenBook) (slot : ℕ) (next : Next) → next_job b ≡ Some next → (with_slot next.rest slot (Some next.job)).done ≡ b.done
take_done b slot next is = take_cases b (λ (n : Next). n.rest.done ≡ b.done) (λ batch among. refl) (λ batch oldest. refl) (λ place cell found. refl) (λ piece later e. refl) next is

record StaysLogged (old new : SeenBook) : Type 0 where
  logs : logs_of new.keys ≡ logs_of old.keys
  came : key_arrivals new.keys ≡ key_arrivals old.keys

take_logged : (b : SeenBook) (slot : ℕ) (next : Next) → next_job b ≡ Some next → StaysLogged b (with_slot next.rest slot (Some next.job))
take_logged b slot next is =
    take_cases b (λ (n : Next). StaysLogged b (with_slot n.rest slot (Some n.job))) (λ batch among. record { logs = refl; came = refl }) (λ batch oldest. record { logs = refl; came = refl })
    (λ place cell found. let left = take_leaves b.options.bundle place.at b.keys in record { logs = left.logs; came = left.came }) (λ piece later e. record { logs = refl; came = refl }) next is

-- ---- a fail

stop_same : (spent : Bool) (x : SeenBook) (note : FaultNote) → (held (stopped_where spent x note) ≡ held x) × ((stopped_where spent x note).done ≡ x.done)
stop_same true x note = (refl, refl)
stop_same false x note = (refl, refl)

counted_same : (x : SeenBook) (cause : Cause) → (held (counted x cause) ≡ held x) × ((counted x cause).done ≡ x.done)
counted_same x Call = (refl, refl)
counted_same x Read = (refl, refl)

back_done : (b : SeenBook) (slot : ℕ) (job : Live) (at : ℕ) (cause : Cause) → (given_back (with_slot b slot None) job at cause).done ≡ b.done
back_done b slot (live.Span piece attempted) at cause = refl
back_done b slot (live.Batch batch) at cause = refl
back_done b slot (live.Key turn) at cause = refl

back_logged : (b : SeenBook) (slot : ℕ) (job : Live) (at : ℕ) (cause : Cause) → StaysLogged b (given_back (with_slot b slot None) job at cause)
back_logged b slot (live.Span piece attempted) at cause = record { logs = refl; came = refl }
back_logged b slot (live.Batch batch) at cause = record { logs = refl; came = refl }
back_logged b slot (live.Key turn) at cause = let left = give_back_leaves turn.cell b.keys in record { logs = left.logs; came = left.came }

counted_keys : (x : SeenBook) (cause : Cause) → (counted x cause).keys ≡ x.keys
counted_keys x Call = refl
counted_keys x Read = refl

stop_keys : (spent : Bool) (x : SeenBook) (note : FaultNote) → (stopped_where spent x note).keys ≡ x.keys
stop_keys true x note = refl
stop_keys false x note = refl

fail_balanced : (b : SeenBook) (slot at : ℕ) (job : Live) (cause : Cause) → IsWorking b slot job → StaysBalanced b (tried_again b slot job at cause)
fail_balanced b slot at job cause works =
    let back = given_back (with_slot b slot None) job at cause in
    let more = counted back cause in
    let stopped = stop_same (ends_run b job cause) more (note_of job at cause) in
    let keys = stop_keys (ends_run b job cause) more (note_of job at cause) ∙ counted_keys back cause in
    record {
      logs = ap logs_of keys ∙ (back_logged b slot job at cause).logs;
      came = ap key_arrivals keys ∙ (back_logged b slot job at cause).came;
      same = fail_stays b slot at job cause;
      done = stopped.1 ∙ (counted_same back cause).1 ∙ back_done b slot job at cause;
      held = bag_trans (held (tried_again b slot job at cause)) (held back) (held b)
          (bag_from_same (held (tried_again b slot job at cause)) (held back) (stopped.0 ∙ (counted_same back cause).0)) (back_moves b slot job at cause works);
    }

-- ---- each step

opening_balanced : (told : List FileText) (b first : SeenBook) → IsOpening b.plan b.files b.options first → IsBalanced told first
opening_balanced told b first opening =
    subst (IsBalanced told) (sym opening.is)
    (bag_from_same [] (held_chains (opened b.plan b.files b.options opening.marks))
    (sym (ap (flat_map (flows_held b.plan [])) (none_held b opening.marks))))

pub keeps_balanced : (told : List FileText) → Keeps (Some told) AreKeptWith (IsBalanced told)
keeps_balanced told = record {
  opens = opening_balanced told;
  enrolls = λ b known h within.
      balanced_onward told b (enrolled b) (record { same = record { plan = refl; commits = refl; cells = refl; dropped = refl; panes = refl; written = refl }; done = refl; logs = refl; came = refl; held = enroll_moves b }) h;
  takes = λ b slot next known h running free is within.
      balanced_onward told b (with_slot next.rest slot (Some next.job)) (record { same = take_stays b slot next is; done = take_done b slot next is; logs = (take_logged b slot next is).logs; came = (take_logged b slot next is).came; held = take_moves b slot free known.sane.held next is }) h;
  claims = λ b slot p piece attempted known h works may.
      balanced_onward told b (with_slot b slot (Some (live.Span piece (Some p)))) (record {
        same = record { plan = refl; commits = refl; cells = refl; dropped = refl; panes = refl; written = refl };
        done = refl;
        logs = refl;
        came = refl;
        held = set_moves b slot (Some (live.Span piece attempted)) (Some (live.Span piece (Some p))) works.works refl refl;
      }) h;
  splits = λ b slot at piece attempted known h works inside behind within.
      balanced_onward told b (split_off b slot piece attempted at) (record {
        same = record { plan = refl; commits = refl; cells = refl; dropped = refl; panes = refl; written = refl };
        done = refl;
        logs = refl;
        came = refl;
        held = set_moves b slot (Some (live.Span piece attempted)) (Some (live.Span (cut_to piece (record { from = piece.range.from; to = at })) attempted)) works refl refl;
      }) h;
  commits = λ b slot job receipt cells fired marks known h made.
      commit_balanced told b slot job receipt cells fired marks known.sane.formed known.sane.held known.sane.keys known.sane.turns known.kept.cells.legal made h;
  fails = λ b slot at job cause known h works fresh unbroken. balanced_onward told b (tried_again b slot job at cause) (fail_balanced b slot at job cause works) h;
  breaks = λ b slot at piece attempted known h works fresh is.
      balanced_onward told b (broken b slot piece attempted (note_of (live.Span piece attempted) at Call)) (record {
        same = record { plan = refl; commits = refl; cells = refl; dropped = refl; panes = refl; written = refl };
        done = refl;
        logs = refl;
        came = refl;
        held = set_moves b slot (Some (live.Span piece attempted)) None works refl refl;
      }) h;
  stops = λ b known h. h;
}
