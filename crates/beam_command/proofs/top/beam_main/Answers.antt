use Rattle.std.proofs.Common.{◌≡◌, false, List, [], Option, Some, length, sym, ap, subst, ◌∙◌}
use Rattle.std.specs.Prelude.{IfSome}
use Rattle.bundle_work.specs.declared.kit.Kit.{Kit}
use Rattle.beam_values.specs.declared.options.Options.{Options}
use Rattle.beam_values.specs.declared.outcome.Outcome.{Outcome}
use Rattle.beam_model.specs.Account.{IsAccounted}
use Rattle.beam_model.specs.Plain.{ArePlainlyWrittenWhere}
use Rattle.beam_model.specs.Positions.{items}
use Rattle.beam_ports.specs.Observed.{WhereTold}
use Rattle.book_core.specs.Book.{sets_aside}
use Rattle.command_words.specs.Commands.{Asked, words_of}
use Rattle.ended_runs.specs.Sides.{AreSidesGivenWhere}
use Rattle.run_engine.specs.Kits.{ObservedKits, observed_kits}
use Rattle.run_engine.specs.PlanRun.{IsEndedBy, surroundings_of}
use Rattle.run_engine.specs.SetAside.{HasDeadLetters}
use Rattle.run_engine.specs.declared.run_end.RunEnd.{RunEnd}
use Rattle.beam_command.specs.Asking.{WherePipeline}
use Rattle.beam_command.specs.Clauses.{Asking, CountsOnward, GivesSides, IsOfAsked, IsPartitioned, IsPlain, asked_by, asking, attempts_of}
use Rattle.beam_command.specs.Ends.{HasRun, IsEndOf, IsOutcomeOfAsked, IsRun}
use Rattle.beam_command.specs.Kits.{AreKitsLeft, IsOutcomeOfKits, TriesUnbegun, in_use, observed_in_use, told_for}
use Rattle.beam_command.specs.Observing.{Observed}
use Rattle.beam_command.specs.Promises.{HasLegalLogs, HasLegalPanes}
use Rattle.beam_command.proofs.Asked.{end_of_same, noted_end}
use Rattle.beam_command.proofs.CombineDecided.{combined, combined_strict, few_lifted, not_combined, unlifted}
use Rattle.beam_command.proofs.Completeness.{complete, complete_aside, complete_positions, complete_strict, few_faults, same_files}
use Rattle.beam_command.proofs.DrillEnds.{checked_of}
use Rattle.beam_command.proofs.DrillPrints.{drill_prints}
use Rattle.beam_command.proofs.InUse.{all_written, written_back}
use Rattle.beam_command.proofs.Kept.{become_length, left_before_note, still_some}
use Rattle.beam_command.proofs.PanesEnds.{HasAttempts, absent, clean, not_ok, poison, some_attempts}
use Rattle.beam_command.proofs.PlainPlans.{always_plainly}
use Rattle.beam_command.proofs.Promises.{accounted, covered, files_found, legal, legally_logged, lengths_kept, no_dead, plan_kept, promised, set_aside, where_told}
use Rattle.beam_command.proofs.ReplayDecided.{few_reads, replay, replay_accepted}
use Rattle.beam_command.proofs.Stores.{AreOfOne, are_of_one, seen_of_one}
use Rattle.beam_command.proofs.Tried.{at_no_memory, counts_onward, tries_before_note, writes_before_note}
use Rattle.bundle_work.specs.Kits.{EachBecomes}
use Rattle.command_ends.specs.declared.status.Status.{Status}
use Rattle.beam_command.proofs.top.beam_main.Given.{Over}
use Rattle.beam_command.proofs.top.beam_main.Goals as goal

module _ (g : Over) (c : goal.After-unless_no_memory-outcome g) where
  abbrev asked : Option Asked
  asked = asked_by c.args.words.now

  abbrev end : RunEnd
  end = record { status = c.noted-status.result; outcome = c.unless_no_memory-outcome.result }

  -- what is asked for, and what the call observed at the kits in use and at the output
  abbrev asks : Asking
  asks = asking g.S.Store c.args.words.now c.args.kits.now

  abbrev seen : Observed
  seen =
      observed_in_use g.F.Shelf g.S.Store g.W.Sink asked c.args.kits.now.items (written_back c.args.kits.now.len c.args.kits.now.items c.run-status.new.kits) c.args.out.now
      c.run-status.new.out

  -- the same, whatever is asked for
  abbrev kits : ObservedKits
  kits = observed_kits g.F.Shelf g.S.Store (in_use asked c.args.kits.now.items) (in_use asked (written_back c.args.kits.now.len c.args.kits.now.items c.run-status.new.kits))

  of_one : AreOfOne seen.kits
  of_one =
      seen_of_one asked kits
      (are_of_one g.S.Store g.F.Shelf (in_use asked c.args.kits.now.items) (in_use asked (written_back c.args.kits.now.len c.args.kits.now.items c.run-status.new.kits)))

  counted : length c.run-status.new.kits ≡ length c.as_mut_slice.result.now
  counted = become_length _ _ _ c.run-status.ensures.kits.kept

  -- what the run has left of the kits
  left : written_back c.args.kits.now.len c.args.kits.now.items c.run-status.new.kits ≡ c.run-status.new.kits
  left = all_written c.args.kits.now.len c.args.kits.now.items c.run-status.new.kits (counted ∙ c.as_mut_slice.ensures.len)

  -- what holds of the kits that the run was given and left holds of those of the call
  of_call : (P : List (Kit _ _) → List (Kit _ _) → Type 0) → P c.as_mut_slice.result.now c.run-status.new.kits
      → P c.args.kits.now.items (written_back c.args.kits.now.len c.args.kits.now.items c.run-status.new.kits)
  of_call P holds =
      subst (λ (olds : List (Kit _ _)). P olds (written_back c.args.kits.now.len c.args.kits.now.items c.run-status.new.kits)) c.as_mut_slice.ensures.value
      (subst (λ (news : List (Kit _ _)). P c.as_mut_slice.result.now news) (sym left) holds)

  ends : IsEndOf asked seen end.status end.outcome
  ends =
      noted_end asked seen c.run-status.result.status end.status c.run-status.result.outcome end.outcome c.noted-status.ensures.stays c.unless_no_memory-outcome.ensures.none
      c.unless_no_memory-outcome.ensures.stays
      (end_of_same g.F.Shelf g.S.Store g.W.Sink c.args.out.now c.run-status.new.out asked c.as_mut_slice.result.now c.args.kits.now.items c.run-status.new.kits
      (written_back c.args.kits.now.len c.args.kits.now.items c.run-status.new.kits) c.run-status.result.status c.run-status.result.outcome c.as_mut_slice.ensures.value left
      c.run-status.ensures.ends)

  -- at least one attempt is asked for
  tried : (own : Asked) → asked ≡ Some own → HasAttempts own
  tried own is = some_attempts (words_of c.args.words.now) own ((c.words_ask_by_the_rules.ensures (words_of c.args.words.now) own).0 is)

  -- P holds of the outcome, where the run came to its end
  run_with : (P : Options → Outcome → Type 0) → ((own : Asked) (options : Options) (o : Outcome) → asked ≡ Some own → IsOutcomeOfAsked seen own options (IsEndedBy seen.kits) o → P options o)
      → WherePipeline asked (λ own options. HasRun end.status end.outcome (P options))
  run_with P holds = promised asked seen P holds end.status end.outcome ends

  run : (P : Outcome → Type 0) → ((own : Asked) (options : Options) (o : Outcome) → asked ≡ Some own → IsOutcomeOfAsked seen own options (IsEndedBy seen.kits) o → P o) → IsRun asked end P
  run P holds = run_with (λ options. P) holds

  account : (own : Asked) (options : Options) (o : Outcome) → asked ≡ Some own → IsOutcomeOfAsked seen own options (IsEndedBy seen.kits) o
      → WhereTold seen.kits.store.files (λ told. IsAccounted (items told o.plan) o)
  account own options o is was = accounted asked seen own options o is was c.honest_runs_are_runs.ensures c.outcomes_are_accounted.ensures

  none_aside : (own : Asked) (options : Options) (o : Outcome) → asked ≡ Some own → IsOutcomeOfAsked seen own options (IsEndedBy seen.kits) o → sets_aside o.plan ≡ false → o.dead ≡ []
  none_aside own options o is was = no_dead asked seen own options o is was c.honest_runs_are_runs.ensures c.nothing_is_set_aside.ensures

pub returns-clause-ends : goal.returns-clause-ends
returns-clause-ends g c = ends g c

pub returns-clause-plan : goal.returns-clause-plan
returns-clause-plan g c =
    run g c (IsOfAsked (asks g c)) (λ own options o is was. record {
      plan = plan_kept (asked g c) (seen g c) own options o is was;
      found = files_found (asked g c) (seen g c) own options o is was;
      lengths = lengths_kept (asked g c) (seen g c) own options o is was;
    })

pub returns-clause-cover : goal.returns-clause-cover
returns-clause-cover g c =
    run g c IsPartitioned (λ own options o is was. record {
      cover = covered (asked g c) (seen g c) own options o is was c.honest_runs_are_runs.ensures c.outcomes_are_covered.ensures;
      no_dead = none_aside g c own options o is was;
    })

pub returns-clause-dead_letters : goal.returns-clause-dead_letters
returns-clause-dead_letters g c =
    run_with g c (λ options. HasDeadLetters (seen g c).kits options.attempts) (λ own options o is was.
    set_aside (asked g c) (seen g c) own options o is was c.honest_runs_are_runs.ensures c.outcomes_have_their_dead_letters.ensures.noted
    c.outcomes_have_their_dead_letters.ensures.poison c.dead_positions_are_poison.ensures.outcome)

pub returns-clause-account : goal.returns-clause-account
returns-clause-account g c = run g c _ (account g c)

pub returns-clause-legal_panes : goal.returns-clause-legal_panes
returns-clause-legal_panes g c =
    run g c HasLegalPanes (λ own options o is was. legal (asked g c) (seen g c) own options o is was c.honest_runs_are_runs.ensures c.outcomes_have_legal_panes.ensures)

pub returns-clause-legal_logs : goal.returns-clause-legal_logs
returns-clause-legal_logs g c =
    run g c HasLegalLogs (λ own options o is was. legally_logged (asked g c) (seen g c) own options o is was c.honest_runs_are_runs.ensures c.outcomes_have_legal_logs.ensures)

pub returns-clause-plain : goal.returns-clause-plain
returns-clause-plain g c =
    run g c (IsPlain (asks g c)) (λ own options o is was.
    let plain = where_told (asked g c) (seen g c) own options o is was c.honest_runs_are_runs.ensures ArePlainlyWrittenWhere c.outcomes_are_plainly_written.ensures in
    record {
      where_sound = plain;
      always = λ asks.
          always_plainly (asked g c) (seen g c).kits.store.files o (checked_of (surroundings_of (seen g c).kits) was.0 options (IsEndedBy (seen g c).kits) o was.3) asks
          (plan_kept (asked g c) (seen g c) own options o is was) plain;
    })

pub returns-clause-sides : goal.returns-clause-sides
returns-clause-sides g c =
    run g c (GivesSides (asks g c)) (λ own options o is was.
    where_told (asked g c) (seen g c) own options o is was c.honest_runs_are_runs.ensures AreSidesGivenWhere c.joins_are_plain_side_inputs.ensures)

pub returns-clause-drilled : goal.returns-clause-drilled
returns-clause-drilled g c =
    drill_prints (seen g c) c.honest_runs_are_runs.ensures c.cells_are_kept.ensures.writes c.outcomes_are_plainly_written.ensures c.nothing_is_set_aside.ensures (asked g c)
    (λ count number options is. ap (λ (a : Option Asked). told_for a (kits g c).store.files) is) c.noted-status.result c.unless_no_memory-outcome.result (ends g c)

pub returns-clause-opened : goal.returns-clause-opened
returns-clause-opened g c =
    still_some _ c.noted-status.result c.run-status.result.outcome c.unless_no_memory-outcome.result
    c.unless_no_memory-outcome.ensures.none c.unless_no_memory-outcome.ensures.stays
    (of_call g c (λ olds news. IfSome c.run-status.result.outcome (IsOutcomeOfKits g.S.Store (asked g c) olds news)) c.run-status.ensures.opened)

pub returns-clause-decided : goal.returns-clause-decided
returns-clause-decided g c =
    let status = c.noted-status.result in
    let outcome = c.unless_no_memory-outcome.result in
    let runs = c.honest_runs_are_runs.ensures in
    let kept = c.reached_books_are_kept.ensures in
    let honest = c.stops_are_honest.ensures in
    let by_reads = c.runs_without_poison_fail_by_reads.ensures.reads in
    record {
      absent = absent (seen g c) (of_one g c) status outcome (asked g c) (tried g c) (ends g c);
      poison = poison (seen g c) (of_one g c) status outcome runs kept honest (asked g c) (tried g c) (account g c) (none_aside g c) (ends g c);
      clean = clean (seen g c) (of_one g c) status outcome runs kept honest by_reads (asked g c) (ends g c);
      not_ok = not_ok (asked g c) (seen g c) (account g c) (none_aside g c) status outcome (ends g c);
      complete = complete (asked g c) (seen g c) (of_one g c) status outcome (ends g c);
      complete_strict = complete_strict (seen g c) (of_one g c) status outcome by_reads (asked g c) (ends g c);
      complete_aside = complete_aside (seen g c) (of_one g c) status outcome c.runs_that_set_aside_are_stopped_by_reads.ensures (asked g c) (ends g c);
      complete_positions = complete_positions (seen g c) (of_one g c) status outcome c.runs_without_poison_positions_fail_by_reads.ensures (asked g c) (ends g c);
      replay = replay (asked g c) (seen g c) (of_one g c) status outcome (ends g c);
      replay_accepted = replay_accepted (asked g c) (seen g c) (of_one g c) status outcome (ends g c);
      not_combined = not_combined (asked g c) (seen g c) (of_one g c) status outcome (ends g c);
      unlifted = unlifted (asked g c) (seen g c) (of_one g c) status outcome (ends g c);
      combined = combined (asked g c) (seen g c) (of_one g c) status outcome (ends g c);
      combined_strict = combined_strict (asked g c) (seen g c) (of_one g c) status outcome (ends g c);
      same_files = same_files (asked g c) (seen g c) (of_one g c) status outcome (ends g c);
    }

pub returns-clause-few_faults : goal.returns-clause-few_faults
returns-clause-few_faults g c = (
  few_faults (asked g c) (seen g c) (of_one g c) c.noted-status.result c.unless_no_memory-outcome.result (ends g c),
  few_lifted (asked g c) (seen g c) (of_one g c) c.noted-status.result c.unless_no_memory-outcome.result (ends g c),
  few_reads (asked g c) (seen g c) (of_one g c) c.noted-status.result c.unless_no_memory-outcome.result (ends g c),
)

pub returns-clause-kits : goal.returns-clause-kits
returns-clause-kits g c =
    left_before_note g.F.Shelf g.S.Store (asked g c) _ _ c.run-status.result.status c.noted-status.result c.noted-status.ensures.stays
    (of_call g c (λ olds news. AreKitsLeft g.F.Shelf g.S.Store (asked g c) c.run-status.result.status olds news) c.run-status.ensures.kits)

pub returns-clause-tries : goal.returns-clause-tries
returns-clause-tries g c =
    tries_before_note c.run-status.result.status c.noted-status.result c.noted-status.ensures.stays g.S.Store (attempts_of (asked g c)) _ _
    (of_call g c (λ olds news. TriesUnbegun g.S.Store (attempts_of (asked g c)) 0 (in_use (asked g c) olds) (in_use (asked g c) news) c.run-status.result.status) c.run-status.ensures.tries)

pub returns-clause-writes : goal.returns-clause-writes
returns-clause-writes g c =
    writes_before_note c.run-status.result.status c.noted-status.result c.noted-status.ensures.stays g.W.Sink (attempts_of (asked g c)) c.args.out.now c.run-status.new.out
    c.run-status.ensures.writes

pub returns-clause-no_memory : goal.returns-clause-no_memory
returns-clause-no_memory g c = λ is.
    let none = at_no_memory (asked g c) (seen g c) c.unless_no_memory-outcome.result
    (subst (λ (s : Status). IsEndOf (asked g c) (seen g c) s c.unless_no_memory-outcome.result) is (ends g c)) in
    record {
      unwritten = none.0;
      no_outcome = none.1;
      many = of_call g c (λ olds news. length news ≡ length olds) (counted g c);
      counts = of_call g c (λ olds news. EachBecomes olds news (CountsOnward g.F.Shelf g.S.Store))
          (counts_onward g.F.Shelf g.S.Store c.as_mut_slice.result.now c.run-status.new.kits c.run-status.ensures.kits.kept);
    }
