-- A replay from its opening to its end: what it answers, and why it is refused.
use Rattle.std.proofs.Common.{◌≡◌, ℕ, ◌≤◌, Bool, List, [], ◌++◌, length, map, refl, sym, ap, ◌∙◌, subst}
use Rattle.std.specs.Prelude.{Err, IfErr, IfOk, Ok, Option, Result}
use Rattle.std.specs.List.{All}
use Rattle.beam_values.specs.Storable.{IsStorable}
use Rattle.beam_values.specs.declared.cell.Pane.{Pane}
use Rattle.beam_values.specs.declared.file_text.FileText.{FileText}
use Rattle.beam_values.specs.declared.options.Options.{Options}
use Rattle.beam_values.specs.declared.piece.FileLen.{FileLen}
use Rattle.beam_values.specs.declared.plan.Plan.{Plan}
use Rattle.beam_ports.specs.Files.{Opening}
use Rattle.beam_ports.specs.Observed.{ObservedStore}
use Rattle.beam_ports.specs.declared.store.Opened.{Opened}
use Rattle.beam_text.specs.Parts.{AppendsText}
use Rattle.beam_text.specs.declared.refusal.ScheduleRefusal.TheVariants as refusal
use Rattle.chain_exec.specs.Causes.{ObservedShelf}
use Rattle.sdf_library.specs.Paging.{Paged}
use Rattle.book_core.specs.Book.{SeenBook}
use Rattle.book_core.specs.Work.{Surroundings}
use Rattle.bundle_work.specs.Kits.{AreKnownBy, IsKitFor}
use Rattle.bundle_work.specs.declared.kit.Kit.{Kit}
use Rattle.known_jobs.specs.Jobs.{setting_for}
use Rattle.bundle_work.specs.Openings.{AreOpened, file_names}
use Rattle.bundle_work.specs.Reading.{IsReading, length_in, opened_lengths}
use Rattle.bundle_work.specs.declared.reading.Reader.{Reader}
use Rattle.bundle_work.proofs.Told.{opened_known}
use Rattle.lone_worker.specs.Work.{Base, IsReadingOn}
use Rattle.schedule_words.specs.Schedules.{lines_of}
use Rattle.schedule_replay.specs.Reaching.{AreLinesWorked, IsPrinted, IsWorkRefused, base_of}
use Rattle.schedule_replay.specs.Replays.{IsBeginning, IsEnding, IsLineRefusedIn, IsReplayRefused, IsReplayed, enrolls, longest, setting_of}
use Rattle.schedule_replay.specs.Standing.{counts_after, counts_before}
use Rattle.schedule_replay.specs.Stands.{Stand}
use Rattle.schedule_replay.specs.Works.{AreHonestWorks}
use Rattle.schedule_replay.specs.declared.schedule.ReplayRefusal.{ReplayRefusal}
use Rattle.schedule_replay.specs.declared.schedule.ReplayRefusal.TheVariants.{Bad, NoMemory}

module _ (base : Base) (shelf : ObservedShelf) (store : ObservedStore) (plan : Plan) (same : base.setting.plan ≡ plan) (files : List FileLen) (options : Options) (schedule : List ℕ) (short : length schedule ≤ longest)
    (start : Stand) (begins : IsBeginning base.setting.known.told plan files options start) where
  -- its lines were worked, and its end was printed behind them
  pub replayed : (end : Stand) (lines printed text : List ℕ) → AreLinesWorked base shelf store start (lines_of schedule) end [] lines → AppendsText (IsEnding end.book) lines printed
      → All (λ (pane : Pane). IsStorable pane.element.value) end.book.panes → text ≡ printed
      → IsReplayed base.setting.known (counts_before shelf store) (counts_after shelf store) plan files options schedule text
  replayed end lines printed text worked ends storable is = record {
    steps = enrolls options.workers ++ worked.steps;
    works = worked.works;
    book = end.book;
    short = short;
    is = record {
      start = start;
      begins = begins;
      own = worked.steps;
      made = refl;
      end = end;
      lines = worked.text;
      worked = worked.worked;
      is = refl;
      tail = ends.0;
      ends = ends.1;
      printed = is ∙ ends.2 ∙ ap (λ (t : List ℕ). t ++ ends.0) worked.printed;
    };
    honest = subst (λ (p : Plan). AreHonestWorks base.setting.known (counts_before shelf store) (counts_after shelf store) p worked.works) same worked.honest;
    storable = storable;
  }

  -- a line of it was refused
  pub refused_replay : (why : ReplayRefusal) → IsWorkRefused base shelf store start (lines_of schedule) why
      → IsReplayRefused base.setting.known (counts_before shelf store) (counts_after shelf store) plan files options schedule why
  refused_replay (Bad (refusal.Line number)) refused = record {
    short = short;
    start = start;
    begins = begins;
    refused = subst (λ (p : Plan). IsLineRefusedIn base.setting.known (counts_before shelf store) (counts_after shelf store) p start (lines_of schedule) (refusal.Line number)) same refused;
  }
  refused_replay (Bad (refusal.NotAllowed number)) refused = record {
    short = short;
    start = start;
    begins = begins;
    refused = subst (λ (p : Plan). IsLineRefusedIn base.setting.known (counts_before shelf store) (counts_after shelf store) p start (lines_of schedule) (refusal.NotAllowed number)) same refused;
  }
  refused_replay (Bad (refusal.Length len)) refused = absurd refused
  refused_replay NoMemory refused = tt

-- ---- the readers of a worker that has read nothing

pub reads_first : (base : Base) (told : Option (List FileText)) (opens items : List Opened) (place : ℕ) (pager : Paged) (plan copy : Plan) → copy ≡ plan → base.setting.plan ≡ plan
    → AreKnownBy base.setting.known.told told (file_names plan) → AreOpened told base.opened (file_names plan) opens → opened_lengths plan opens ≡ base.setting.files → items ≡ opens
    → ((known : Option (List FileText)) (opened : ℕ → Option Opening) → AreOpened known opened (file_names copy) items → IsReading known opened copy base.readers place pager)
    → map length_in base.readers ≡ opened_lengths copy items → IsReadingOn base base.opened base.readers place pager
reads_first base told opens items place pager plan copy copied same known are lengths is reads long =
    let shown = subst (λ (l : List Opened). AreOpened base.setting.known.told base.opened (file_names plan) l) (sym is)
    (opened_known base.setting.known.told told base.opened (file_names plan) opens known are) in
    let at = subst (λ (p : Plan). AreOpened base.setting.known.told base.opened (file_names p) items) (sym copied) shown in
    let now = subst (λ (p : Plan). IsReading base.setting.known.told base.opened p base.readers place pager) (copied ∙ sym same) (reads base.setting.known.told base.opened at) in
    record {
      first = now.all;
      lengths = long ∙ ap (λ (p : Plan). opened_lengths p items) copied ∙ ap (opened_lengths plan) is ∙ lengths;
      kept = λ file opening there. there;
      same = refl;
      now = now;
    }

-- ---- the kit of a replay

-- it is so for the book that was opened of this plan, with these lengths
pub kit_of_book : {F S : Type 0} (is_strict : F → Bool) (files_of : S → Option (List FileText)) (opened : S → ℕ → Option Opening) (known : Surroundings) (plan : Plan) (files : List FileLen) (options : Options)
    (b : SeenBook) (kit : Kit F S) → b.plan ≡ plan → b.files ≡ files → IsKitFor is_strict files_of opened (setting_of known plan files options) kit
    → IsKitFor is_strict files_of opened (setting_for known b) kit
kit_of_book is_strict files_of opened known plan files options b kit planned lengths is = record {
  opened = subst (λ (p : Plan). AreOpened (files_of kit.store) (opened kit.store) (file_names p) kit.files) (sym planned) is.opened;
  lengths = ap (λ (p : Plan). opened_lengths p kit.files) planned ∙ is.lengths ∙ sym lengths;
  told = subst (λ (p : Plan). AreKnownBy known.told (files_of kit.store) (file_names p)) (sym planned) is.told;
  strict = is.strict;
}

-- ---- what is answered, whatever it is

module _ (known : Surroundings) (b : SeenBook) (opened : ℕ → Option Opening) (shelf : ObservedShelf) (store : ObservedStore) (plan : Plan) (same : b.plan ≡ plan) (files : List FileLen) (options : Options)
    (schedule : List ℕ) (short : length schedule ≤ longest) (start : Stand) (begins : IsBeginning known.told plan files options start) where
  pub if_printed : {T : Type 0} (r : Result (List ℕ) T) → IfOk r (λ text. (readers : List Reader) × IsPrinted (base_of known b opened readers) shelf store start schedule text)
      → IfOk r (IsReplayed known (counts_before shelf store) (counts_after shelf store) plan files options schedule)
  if_printed (Ok text) is =
      replayed (base_of known b opened is.0) shelf store plan same files options schedule short start begins is.1.end is.1.lines text text is.1.worked is.1.ends is.1.storable refl
  if_printed (Err e) is = tt

  pub if_refused : {T : Type 0} (r : Result T ReplayRefusal) → IfErr r (λ why. (readers : List Reader) × IsWorkRefused (base_of known b opened readers) shelf store start (lines_of schedule) why)
      → IfErr r (IsReplayRefused known (counts_before shelf store) (counts_after shelf store) plan files options schedule)
  if_refused (Ok x) is = tt
  if_refused (Err why) is = refused_replay (base_of known b opened is.0) shelf store plan same files options schedule short start begins why is.1
