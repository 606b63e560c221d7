use Rattle.std.proofs.Common.{◌≡◌, ◌+◌, ◌≤◌, List, None, Some, false}
use Rattle.beam_ports.specs.Counts.{greatest_count}
use Rattle.beam_ports.specs.Observed.{observed_store}
use Rattle.chain_exec.specs.Causes.{observed_shelf}
use Rattle.turn_desk.specs.declared.held.Note.{Note}
use Rattle.worker_table.specs.Notes.{Entry}
use Rattle.worker_table.specs.Passes.{IsOf, entry_of, job_known, note_of_pass, setting_of, slot_of}
use Rattle.worker_table.specs.Turns.{KeepsOthers}
use Rattle.bundle_work.specs.Outside.{IsKitKept}
use Rattle.worker_loop.specs.Rounds.{AreRounds}
use Rattle.worker_loop.specs.Workers.{AreFailsCounted, IsAtWork, share_with}
use Rattle.worker_loop.proofs.workers.work.Given as goal

abbrev pub invariant-loop : goal.invariant-loop
invariant-loop g l = record {
  table : IsOf l.table l.pass;
  slot : slot_of l.pass ≡ Some l.turns.slot;
  free : job_known l.pass ≡ None;
  owes : (entry_of l.pass).owes_split ≡ false;
  rounds : (earlier : List (Note (List Entry))) × AreRounds (setting_of l.table) l.turns.slot (note_of_pass l.initial.pass) earlier (note_of_pass l.pass);
  others : KeepsOthers (note_of_pass l.fn.pass) (note_of_pass l.pass);
  able : IsAtWork g.F.Shelf.strict g.S.Store.opened (setting_of l.table) l.graph l.kit l.worker;
  kept : IsKitKept g.F.Shelf.faults g.F.Shelf.strict g.S.Store.faults g.S.Store.files g.S.Store.opened l.fn.kit.shelf l.kit.shelf l.fn.kit.store l.kit.store;
  files : l.kit.files ≡ l.fn.kit.files;
  share : l.share ≡ share_with l.fn.share (entry_of l.pass).calls (entry_of l.pass).reads;
  counted : AreFailsCounted (observed_shelf g.F.Shelf.strict g.F.Shelf.faults l.fn.kit.shelf l.kit.shelf) (observed_store g.S.Store.files g.S.Store.faults l.fn.kit.store l.kit.store) (entry_of l.pass);
  few_calls : (entry_of l.pass).calls + l.iterator'.left ≤ greatest_count;
  few_reads : (entry_of l.pass).reads + l.iterator'.left ≤ greatest_count;
}
