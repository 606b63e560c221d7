use Rattle.std.proofs.Common.{◌≡◌, List}
use Rattle.std.specs.Prelude.{None, Option, replicate}
use Rattle.beam_values.specs.declared.file_text.FileText.{FileText}
use Rattle.book_core.specs.Runs.{Run}
use Rattle.schedule_replay.specs.Replays.{enrolls}
use Rattle.schedule_replay.proofs.schedule.enroll_all.Given as goal

abbrev pub invariant-slots : goal.invariant-slots
invariant-slots l = record {
  run : (told : Option (List FileText)) → Run told l.fn.book (enrolls l._number) l.book;
  free : l.works.items ≡ replicate l._number None;
  slots : l.book.slots ≡ replicate l._number None;
  plan : l.book.plan ≡ l.fn.book.plan;
  files : l.book.files ≡ l.fn.book.files;
  options : l.book.options ≡ l.fn.book.options;
}
