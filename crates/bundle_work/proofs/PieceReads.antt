-- The reader of a piece's item: its positions can be worked, and what comes of that is given for the piece, or is honest to tell.
use Rattle.std.proofs.Common.{◌≡◌, ◌⊎◌, inl, inr, ℕ, zero, suc, ◌+◌, ◌<◌, ◌≤◌, Bool, true, false, cond, ◌||◌, ◌&&◌, ◌==◌, List, [], ◌∷◌, get_or, length, map, refl, sym, ap, subst, ◌∙◌, arith}
use Rattle.std.specs.Prelude.{◌≤ℤ◌, Option, Some, None, IsSome, IsSomeAnd, Ok, Err, not, nat_le, slice_get, unwrap_or}
use Rattle.std.specs.List.{list_any}
use Rattle.std.specs.Option.{option_and_then, option_map}
use Rattle.std.proofs.lemmas.Bool.{and_from, and_parts, eq-eqb, eqb-true, false≢true}
use Rattle.std.proofs.lemmas.Option.{slice_get-get_or, slice_get_within}
use Rattle.std.proofs.lemmas.Bool.Decides.{nat_tests}
use Rattle.beam_values.specs.Checked.{reads_file}
use Rattle.beam_values.specs.Times.{greatest_time}
use Rattle.beam_values.specs.declared.fault.Cause.TheVariants.{Call, Read}
use Rattle.beam_values.specs.declared.fault.FaultNote.{FaultNote}
use Rattle.beam_values.specs.declared.file_text.FileText.{FileText}
use Rattle.beam_values.specs.declared.piece.Piece.{Piece}
use Rattle.beam_values.specs.declared.plan.Args.{Args}
use Rattle.beam_values.specs.declared.plan.Node.{Node}
use Rattle.beam_values.specs.declared.plan.NodeKind.{NodeKind}
use Rattle.beam_values.specs.declared.plan.NodeKind.TheVariants.{Source, ParDo, Flatten, WindowInto, Group, Stateful, Write}
use Rattle.beam_values.specs.declared.plan.Plan.{Plan}
use Rattle.beam_values.specs.declared.plan.SourceKind.{SourceKind}
use Rattle.beam_values.specs.declared.plan.SourceKind.TheVariants.{Lines, TimedLines, Count, Made}
use Rattle.beam_values.proofs.Spreads.{spread-empty, spread-single}
use Rattle.beam_model.specs.Chains.{Arrives}
use Rattle.beam_model.specs.Coverings.{AreDistinct, is_item, item_at, spread_of}
use Rattle.beam_model.specs.Holds.{estimator_of}
use Rattle.beam_model.specs.Positions.{SourceItem, emission, positions_in}
use Rattle.beam_model.specs.Spread.{emission_outputs, outputs_at, spread_range, first_poison}
use Rattle.beam_model.proofs.Coverings.{plan_distinct}
use Rattle.beam_ports.specs.Files.{KeepsOpenings, Opening}
use Rattle.beam_ports.specs.Observed.{ObservedStore}
use Rattle.book_core.specs.Changes.{cut_to}
use Rattle.book_core.specs.Work.{IsGiven, IsHonestCall, IsOfSpent, IsPoisonAttempt, IsWorkOn, IsWorkOnItem, IsWorkOnRange, is_file_source, is_known, is_told, items_told, reads_file_in, worked_to}
use Rattle.bundle_commit.specs.declared.job.Job.TheVariants as job
use Rattle.bundle_commit.specs.declared.job.Receipt.{Receipt}
use Rattle.chain_exec.specs.Causes.{ObservedShelf}
use Rattle.chain_exec.specs.Positions.{StoreCounts}
use Rattle.chain_exec.specs.Sources.{IsCounted, IsHeldFor, IsText, SourceWork, source_at, source_in}
use Rattle.chain_exec.specs.declared.refusal.ExecRefusal.{ExecRefusal}
use Rattle.chain_exec.specs.declared.refusal.ExecRefusal.TheVariants.{Faulted, NoMemory}
use Rattle.chain_exec.proofs.Looks.{text_later}
use Rattle.sdf_library.specs.Paging.{Paged}
use Rattle.known_jobs.specs.Calls.{CanCommitAs, holds_end}
use Rattle.known_jobs.specs.Jobs.{KnownJob, Setting}
use Rattle.bundle_work.specs.Bundles.{CanRead, HasClaimed, HasClaimedTo, IsJobRefused, IsPieceEnd, IsPieceRefused, IsPieceWorked, IsWorkRefused, item_of}
use Rattle.bundle_work.specs.Reading.{HasTurned, IsPagerFor, IsReading, IsReleased, StaysReading, fresh_pager, AreReaders, AreReadersOf, AreToldReaders, IsReaderOf, is_reader_for, length_in}
use Rattle.bundle_work.specs.declared.reading.Reader.{Reader}
use Rattle.bundle_work.specs.declared.bundles.Worker.{Worker}
use Rattle.bundle_work.proofs.Claiming.{fresh_now}
use Rattle.bundle_work.proofs.Jobs.{job_given, job_refused}
use Rattle.bundle_work.proofs.PieceWork.{fit_none, fit_plausible, seen_over_quiet}

-- ---- the reader of an item

-- of each reader there is an item
pub item_read : (told : Option (List FileText)) (opened : ℕ → Option Opening) (plan : Plan) (items : List SourceItem) (readers : List Reader) → AreReadersOf told opened plan items readers
    → (k : ℕ) (reader : Reader) → slice_get readers k ≡ Some reader → (item : SourceItem) × (slice_get items k ≡ Some item) × IsReaderOf told opened plan item reader
item_read told opened plan [] [] are k reader at = absurd (cc)
item_read told opened plan [] (other ∷ readers) are k reader at = absurd are
item_read told opened plan (item ∷ items) [] are k reader at = absurd are
item_read told opened plan (item ∷ items) (other ∷ readers) are zero reader at =
    let same : other ≡ reader = cc in (item, refl, subst (IsReaderOf told opened plan item) same are.0)
item_read told opened plan (item ∷ items) (other ∷ readers) are (suc k) reader at = item_read told opened plan items readers are.1 k reader at

-- an item of distinct ones is found by its numbers
pub item_found : (items : List SourceItem) → AreDistinct items → (k : ℕ) (item : SourceItem) → slice_get items k ≡ Some item → item_at items item.node item.item ≡ Some item
item_found [] distinct k item at = absurd (cc)
item_found (other ∷ items) distinct zero item at =
    let same : other ≡ item = cc in
    subst (λ (x : SourceItem). item_at (other ∷ items) x.node x.item ≡ Some x) same (by (is_item other.node other.item other) (own other))
  where
    own : (x : SourceItem) → is_item x.node x.item x ≡ true
    own x = and_from (x.node == x.node) (x.item == x.item) (eq-eqb x.node x.node refl) (eq-eqb x.item x.item refl)

    by : (b : Bool) → b ≡ true → cond b (Some other) (item_at items other.node other.item) ≡ Some other
    by true is = refl
    by false is = absurd (false≢true is)
item_found (other ∷ items) distinct (suc k) item at = by (is_item item.node item.item other) refl (item_found items distinct.1 k item at)
  where
    by : (b : Bool) → is_item item.node item.item other ≡ b → item_at items item.node item.item ≡ Some item → cond b (Some other) (item_at items item.node item.item) ≡ Some item
    by true here found =
        let parts = and_parts (other.node == item.node) (other.item == item.item) here in
        let node : other.node ≡ item.node = eqb-true other.node item.node parts.0 in
        let number : other.item ≡ item.item = eqb-true other.item item.item parts.1 in
        let never : None ≡ Some item = sym distinct.0 ∙ ap (λ (n : ℕ). item_at items n other.item) node ∙ ap (λ (n : ℕ). item_at items item.node n) number ∙ found in
        absurd (cc)
    by false away found = found

-- what a reader for a piece is
pub record IsPieceReader (piece : Piece) (reader : Reader) : Type 0 where
  pub node : reader.node ≡ piece.node
  pub item : reader.item ≡ piece.item
  pub reaches : piece.range.to ≤ reader.len

pub reader_for : (piece : Piece) (reader : Reader) → is_reader_for piece reader ≡ true → IsPieceReader piece reader
reader_for piece reader is =
    let parts = and_parts (reader.node == piece.node && reader.item == piece.item) (nat_le piece.range.to reader.len) is in
    let both = and_parts (reader.node == piece.node) (reader.item == piece.item) parts.0 in
    let low = parts.1 in
    record { node = eqb-true reader.node piece.node both.0; item = eqb-true reader.item piece.item both.1; reaches = grind (arith, nat_tests) }

-- a piece has a reader where its item is as long as its end
pub readers_hold : (piece : Piece) (readers : List Reader) → list_any (is_reader_for piece) readers ≡ list_any (holds_end piece) (map length_in readers)
readers_hold piece [] = refl
readers_hold piece (reader ∷ readers) = ap (λ (later : Bool). is_reader_for piece reader || later) (readers_hold piece readers)

-- it is one for the piece as others have shortened it
pub reader_cut : (piece now : Piece) (reader : Reader) → now ≡ cut_to piece (record { from = piece.range.from; to = now.range.to }) → now.range.to ≤ piece.range.to → IsPieceReader piece reader
    → IsPieceReader now reader
reader_cut piece now reader same below is = record {
  node = is.node ∙ sym (ap (λ (p : Piece). p.node) same);
  item = is.item ∙ sym (ap (λ (p : Piece). p.item) same);
  reaches = omega (arith, below, is.reaches);
}

module _ (told : Option (List FileText)) (opened : ℕ → Option Opening) (plan : Plan) (readers : List Reader) (are : AreToldReaders told opened plan readers)
    (k : ℕ) (reader : Reader) (at : slice_get readers k ≡ Some reader) (piece : Piece) (is : IsPieceReader piece reader) where
  pub read : (item : SourceItem) × (slice_get (items_told told plan) k ≡ Some item) × IsReaderOf told opened plan item reader
  read = item_read told opened plan (items_told told plan) readers are k reader at

  node_same : read.0.node ≡ piece.node
  node_same = sym read.2.at_node ∙ is.node

  number_same : read.0.item ≡ piece.item
  number_same = sym read.2.at_item ∙ is.item

  -- the item of the piece, and its source
  pub piece_source : source_at plan piece.node ≡ Some (record { work = read.0.work; args = read.0.args })
  piece_source = ap (source_at plan) (sym node_same) ∙ read.2.source

  pub piece_item : item_at (items_told told plan) piece.node piece.item ≡ Some read.0
  piece_item =
      ap (λ (n : ℕ). item_at (items_told told plan) n piece.item) (sym node_same) ∙ ap (λ (n : ℕ). item_at (items_told told plan) read.0.node n) (sym number_same)
      ∙ item_found (items_told told plan) (plan_distinct (unwrap_or told []) plan) k read.0 read.1

  pub item_same : item_of piece (record { work = read.0.work; args = read.0.args }) read.0.file ≡ read.0
  item_same =
      ap (λ (n : ℕ). record { node = n; item = piece.item; work = read.0.work; args = read.0.args; file = read.0.file; left_out = [] }) (sym node_same)
      ∙ ap (λ (n : ℕ). record { node = read.0.node; item = n; work = read.0.work; args = read.0.args; file = read.0.file; left_out = [] }) (sym number_same)
      ∙ ap (λ (l : List ℕ). record { node = read.0.node; item = read.0.item; work = read.0.work; args = read.0.args; file = read.0.file; left_out = l }) (sym read.2.whole)

  source_only : (source : SourceWork) → source_at plan piece.node ≡ Some source → record { work = read.0.work; args = read.0.args } ≡ source
  source_only source here = let mine = piece_source in cc

  -- so its positions can be worked
  reader_can : (pager : Paged) → pager.len ≡ reader.len → IsHeldFor read.0.work (opened pager.file) pager → CanRead plan piece.node (opened pager.file) pager
  reader_can pager same held = record {
    source = subst IsSome (sym piece_source) refl;
    counted = λ source here. subst (λ (s : SourceWork). IsCounted s pager) (source_only source here) (λ reads. counts read.0.work read.0.args read.0.file reads (read.2.counted reads ∙ sym same));
    held = λ source here. subst (λ (s : SourceWork). IsHeldFor s.work (opened pager.file) pager) (source_only source here) held;
  }
    where
      counts : (work : SourceKind) (args : Args) (file : List ℕ) → reads_file work ≡ false → positions_in work args file ≡ pager.len → positions_in work args [] ≡ pager.len
      counts Lines args file reads long = absurd (false≢true (sym reads))
      counts TimedLines args file reads long = absurd (false≢true (sym reads))
      counts Count args file reads long = long
      counts Made args file reads long = long

  -- also with a pager that holds nothing yet
  pub reader_fresh : CanRead plan piece.node (opened reader.file) (fresh_pager reader)
  reader_fresh = reader_can (fresh_pager reader) refl (λ reads. record { opened = read.2.opened_so reads; held = λ text at whole. refl; quiet = λ text at whole below. absurd (omega arith) })

  -- whether the item is known, by its source
  pub file_source : is_file_source plan piece.node ≡ reads_file read.0.work
  file_source = by (slice_get plan.nodes piece.node) piece_source
    where
      kind : (k : NodeKind) → source_in k ≡ Some (record { work = read.0.work; args = read.0.args }) → reads_file_in k ≡ reads_file read.0.work
      kind (Source work args files estimator) is = let same : work ≡ read.0.work = ap (λ (o : Option SourceWork). work_in o) is in ap reads_file same
        where
          work_in : Option SourceWork → SourceKind
          work_in None = work
          work_in (Some s) = s.work
      kind (ParDo work args) is = absurd (cc)
      kind Flatten is = absurd (cc)
      kind (WindowInto strategy) is = absurd (cc)
      kind (Group trigger) is = absurd (cc)
      kind (Stateful work args log) is = absurd (cc)
      kind (Write label) is = absurd (cc)

      by : (found : Option Node) → option_and_then (λ x. source_in x.kind) found ≡ Some (record { work = read.0.work; args = read.0.args })
          → unwrap_or (option_map (λ x. reads_file_in x.kind) found) false ≡ reads_file read.0.work
      by None is = absurd (cc)
      by (Some node) is = kind node.kind is

  known_text : is_known told plan piece.node ≡ true → IsText read.0.work (opened reader.file) reader.len read.0.file
  known_text known = read.2.text (ap (λ (b : Bool). is_told told || not b) (sym file_source) ∙ known)

  -- ---- what is given for the piece

  pub piece_given : piece.spent ≡ None → (attempted : Option ℕ) (receipt : Receipt) → receipt.seen ≤ℤ greatest_time → IsPieceWorked plan (opened reader.file) reader.len piece attempted receipt
      → IsGiven told plan (job.Span piece) attempted receipt
  piece_given fresh attempted receipt time worked =
      (by (is_known told plan piece.node) refl, worked.logged, subst (λ (spent : Option FaultNote). IsOfSpent spent piece receipt) (sym fresh) tt)
    where
      by : (known : Bool) → is_known told plan piece.node ≡ known → IsWorkOnRange known told plan piece (worked_to piece attempted) receipt
      by false known = worked.plausible time
      by true known =
          subst (λ (found : Option SourceItem). IsWorkOnItem plan piece (worked_to piece attempted) found receipt) (sym piece_item)
          (subst (λ (item : SourceItem). IsWorkOn plan piece (worked_to piece attempted) item receipt) item_same
          (worked.told (record { work = read.0.work; args = read.0.args }) piece_source read.0.file (known_text known)))

  -- ---- why it was refused

  pub piece_honest : (strict : Bool) (shelf : ObservedShelf) (store : ObservedStore) → (strict ≡ true → shelf.strict ≡ true) → (attempted : Option ℕ) (refusal : ExecRefusal)
      → IsPieceRefused shelf (record { before = store.before; after = store.after }) plan (opened reader.file) reader.len piece attempted refusal
      → IsWorkRefused (record { told = told; strict = strict }) shelf store plan (job.Span piece) attempted refusal
  piece_honest strict shelf store stricter attempted NoMemory refused = tt
  piece_honest strict shelf store stricter attempted (Faulted at Read) refused =
      let r = refused.refused (record { work = read.0.work; args = read.0.args }) piece_source in
      (r.0, (file_source ∙ r.2, r.1))
  piece_honest strict shelf store stricter attempted (Faulted at Call) refused =
      let r = refused.refused (record { work = read.0.work; args = read.0.args }) piece_source in
      (r.0, by strict refl (is_known told plan piece.node) refl r.1)
    where
      outputs : (p : ℕ) → spread_of plan (record { from = p; to = p + 1 }) (item_at (items_told told plan) piece.node piece.item)
          ≡ emission_outputs plan piece.node (emission read.0.work read.0.args read.0.file p)
      outputs p =
          ap (spread_of plan (record { from = p; to = p + 1 })) piece_item
          ∙ ap (λ (item : SourceItem). spread_range plan item p (p + 1)) (sym item_same)
          ∙ spread-single (outputs_at plan (item_of piece (record { work = read.0.work; args = read.0.args }) read.0.file)) p

      by : (is_strict : Bool) → strict ≡ is_strict → (known : Bool) → is_known told plan piece.node ≡ known
          → (shelf.strict ≡ true → (text : List ℕ) → IsText read.0.work (opened reader.file) reader.len text
          → first_poison (emission_outputs plan piece.node (emission read.0.work read.0.args text refused.p)) ≡ Some at)
          → (strict ≡ false) ⊎ IsHonestCall (record { told = told; strict = strict }) plan (job.Span piece) attempted at
      by false is known is_k poison = inl is
      by true is false is_k poison = inr (inl is_k)
      by true is true is_k poison =
          inr (inr (subst (λ (a : Option ℕ). IsPoisonAttempt told plan piece a at) (sym refused.last)
          (refused.from_start, refused.inside, ap first_poison (outputs refused.p) ∙ poison (stricter is) read.0.file (known_text is_k))))

-- the reader that was found
pub reader_here : (items shown : List Reader) (place : ℕ) (piece : Piece) (r : Reader) → shown ≡ items → ((reader : Reader) × (slice_get shown place ≡ Some reader) × (is_reader_for piece reader ≡ true))
    → r ≡ get_or items place r → (slice_get items place ≡ Some r) × IsPieceReader piece r
reader_here items shown place piece r same found is =
    let at : slice_get items place ≡ Some found.0 = ap (λ (l : List Reader). slice_get l place) (sym same) ∙ found.1 in
    let within = slice_get_within items place found.0 at in
    let here : slice_get items place ≡ Some r = slice_get-get_or items place r within ∙ ap Some (sym is) in
    let one : found.0 ≡ r = cc in
    (here, reader_for piece r (subst (λ (x : Reader). is_reader_for piece x ≡ true) one found.2))

-- ---- the readers and the pager after work

module _ (told : Option (List FileText)) (opened later : ℕ → Option Opening) (plan : Plan) (kept : KeepsOpenings opened later) where
  opened_later : (file len : ℕ) → IsSomeAnd (opened file) (λ o. o.len ≡ len) → IsSomeAnd (later file) (λ o. o.len ≡ len)
  opened_later file len is = by (opened file) refl is
    where
      by : (o : Option Opening) → opened file ≡ o → IsSomeAnd o (λ o. o.len ≡ len) → IsSomeAnd (later file) (λ o. o.len ≡ len)
      by None at is = absurd is
      by (Some o) at is = subst (λ (x : Option Opening). IsSomeAnd x (λ o. o.len ≡ len)) (sym (kept file o at)) is

  reader_later : (item : SourceItem) (reader : Reader) → IsReaderOf told opened plan item reader → IsReaderOf told later plan item reader
  reader_later item reader is = record {
    at_node = is.at_node;
    at_item = is.at_item;
    source = is.source;
    whole = is.whole;
    counted = is.counted;
    opened_so = λ reads. opened_later reader.file reader.len (is.opened_so reads);
    text = λ known. text_later item.work opened later reader.file reader.file reader.len reader.len item.file kept refl refl (is.text known);
  }

  readers_later : (items : List SourceItem) (readers : List Reader) → AreReadersOf told opened plan items readers → AreReadersOf told later plan items readers
  readers_later [] [] are = tt
  readers_later [] (reader ∷ readers) are = absurd are
  readers_later (item ∷ items) [] are = absurd are
  readers_later (item ∷ items) (reader ∷ readers) are = (reader_later item reader are.0, readers_later items readers are.1)

module _ (files : Option (List FileText)) (opened : ℕ → Option Opening) (plan : Plan) (readers : List Reader) (place : ℕ) where
  -- positions of the reader's item were worked
  pub reading_after : (later : ℕ → Option Opening) → KeepsOpenings opened later → AreReaders files opened plan readers → (reader : Reader) → slice_get readers place ≡ Some reader → (pager : Paged)
      → IsPagerFor later plan reader pager → IsReading files later plan readers place pager
  reading_after later kept are reader at pager is = record {
    all = record {
      untold = readers_later None opened later plan kept (items_told None plan) readers are.untold;
      told = readers_later files opened later plan kept (items_told files plan) readers are.told;
    };
    last = λ other there. let same : reader ≡ other = cc in subst (λ (r : Reader). IsPagerFor later plan r pager) same is;
  }

  -- the worker has turned to the item of a piece
  pub turned_able : (piece : Piece) (later : ℕ) (pager new : Paged) → IsReading files opened plan readers place pager → (turned : HasTurned piece readers place later pager new) → IsPagerFor opened plan turned.reader new
  turned_able piece later pager new reading turned = by turned.held
    where
      is : IsPieceReader piece turned.reader
      is = reader_for piece turned.reader turned.is_for

      by : ((later ≡ place) × (new ≡ pager)) ⊎ (new ≡ fresh_pager turned.reader) → IsPagerFor opened plan turned.reader new
      by (inl (same, kept)) =
          subst (λ (p : Paged). IsPagerFor opened plan turned.reader p) (sym kept)
          (reading.last turned.reader (subst (λ (k : ℕ). slice_get readers k ≡ Some turned.reader) same turned.at))
      by (inr fresh) = subst (λ (p : Paged). IsPagerFor opened plan turned.reader p) (sym fresh) (record {
        file = refl;
        len = refl;
        able = subst (λ (n : ℕ). CanRead plan n (opened turned.reader.file) (fresh_pager turned.reader)) (sym is.node)
            (reader_fresh None opened plan readers reading.all.untold later turned.reader turned.at piece is);
      })

pub reading_same : (files : Option (List FileText)) (opened : ℕ → Option Opening) (plan : Plan) (readers later : List Reader) (place at : ℕ) (pager new : Paged) → later ≡ readers → at ≡ place → new ≡ pager
    → IsReading files opened plan readers place pager → IsReading files opened plan later at new
reading_same files opened plan readers later place at pager new a b c is =
    subst (λ (l : List Reader). IsReading files opened plan l at new) (sym a)
    (subst (λ (k : ℕ). IsReading files opened plan readers k new) (sym b) (subst (λ (p : Paged). IsReading files opened plan readers place p) (sym c) is))

-- ---- a worker that gives up what it holds

released_pager : (opened : ℕ → Option Opening) (plan : Plan) (reader : Reader) (pager : Paged) → IsPagerFor opened plan reader pager → IsPagerFor opened plan reader (record pager { base = 0; bytes = [] })
released_pager opened plan reader pager is = record {
  file = is.file;
  len = is.len;
  able = record {
    source = is.able.source;
    counted = is.able.counted;
    held = λ source here reads. let of = is.able.held source here reads in record { opened = of.opened; held = λ text told whole. refl; quiet = of.quiet };
  };
}

-- it reads what it read
pub released_reading : (worker later : Worker) → IsReleased worker later → StaysReading worker later
released_reading worker later is = record {
  readers = ap (λ (w : Worker). w.readers.items) is;
  reading = λ told opened plan was.
      reading_same told opened plan worker.readers.items later.readers.items worker.place later.place (record worker.bench.pager { base = 0; bytes = [] }) later.bench.pager
      (ap (λ (w : Worker). w.readers.items) is) (ap (λ (w : Worker). w.place) is) (ap (λ (w : Worker). w.bench.pager) is)
      (record { all = was.all; last = λ reader at. released_pager opened plan reader worker.bench.pager (was.last reader at) });
}

-- ---- what is given for a piece whose positions were worked with its reader, or why that was refused

module _ (setting : Setting) (opened : ℕ → Option Opening) (plan : Plan) (same : plan ≡ setting.plan) (readers : List Reader) (all : AreReaders setting.known.told opened plan readers)
    (k : ℕ) (reader : Reader) (at : slice_get readers k ≡ Some reader) (piece : Piece) (is_for : is_reader_for piece reader ≡ true) (fresh : piece.spent ≡ None) (pager : Paged)
    (is : IsPagerFor opened plan reader pager) (known : Option KnownJob) (staged : Receipt) where
  now_for : (now : Piece) (last : ℕ) → HasClaimed piece now (Some last) known → IsPieceReader now reader
  now_for now last claimed = reader_cut piece now reader claimed.same claimed.below (reader_for piece reader is_for)

  pub end_given : {U : Type 0} (shelf : ObservedShelf) (store : StoreCounts) (u : U) → IsPieceEnd {U = U} shelf store plan (opened pager.file) pager.len piece known staged (Ok u) → (receipt : Receipt) → receipt ≡ staged
      → receipt.seen ≤ℤ greatest_time → CanCommitAs setting known receipt
  end_given {U} shelf store u done receipt taken time =
      let there : IsPieceWorked plan (opened reader.file) reader.len done.now (Some done.last) receipt =
      subst (λ (r : Receipt). IsPieceWorked plan (opened reader.file) reader.len done.now (Some done.last) r) (sym taken)
      (subst (λ (n : ℕ). IsPieceWorked plan (opened reader.file) n done.now (Some done.last) staged) is.len
      (subst (λ (f : ℕ). IsPieceWorked plan (opened f) pager.len done.now (Some done.last) staged) is.file done.worked)) in
      let here = now_for done.now done.last done.claimed in
      let unspent = fresh_now piece done.now (Some done.last) known done.claimed fresh in
      job_given setting plan same (job.Span done.now) (Some done.last) known done.claimed.is receipt
      (piece_given None opened plan readers all.untold k reader at done.now here unspent (Some done.last) receipt time there)
      (piece_given setting.known.told opened plan readers all.told k reader at done.now here unspent (Some done.last) receipt time there)

  pub end_honest : (U : Type 0) (shelf : ObservedShelf) (store : ObservedStore) → (setting.known.strict ≡ true → shelf.strict ≡ true) → (refusal : ExecRefusal)
      → IsPieceEnd {U = U} shelf (record { before = store.before; after = store.after }) plan (opened pager.file) pager.len piece known staged (Err refusal) → IsJobRefused setting shelf store known refusal
  end_honest U shelf store stricter refusal done =
      let counts : StoreCounts = record { before = store.before; after = store.after } in
      let there : IsPieceRefused shelf counts plan (opened reader.file) reader.len done.now (Some done.last) refusal =
      subst (λ (n : ℕ). IsPieceRefused shelf counts plan (opened reader.file) n done.now (Some done.last) refusal) is.len
      (subst (λ (f : ℕ). IsPieceRefused shelf counts plan (opened f) pager.len done.now (Some done.last) refusal) is.file done.refused) in
      let last : there.p ≡ done.last = ap (λ (a : Option ℕ). unwrap_or a there.p) (sym there.last) in
      let inside : (done.now.range.from ≤ done.last) × (done.last < done.now.range.to) = (omega (arith, last, there.from_start), omega (arith, last, there.inside)) in
      job_refused setting plan same (job.Span done.now) (Some done.last) known done.claimed.is (fresh_now piece done.now (Some done.last) known done.claimed fresh) inside shelf store refusal
      (piece_honest setting.known.told opened plan readers all.told k reader at done.now (now_for done.now done.last done.claimed) setting.known.strict shelf store stricter (Some done.last) refusal there)

-- nothing is read yet
pub reading_none : (files : Option (List FileText)) (opened : ℕ → Option Opening) (plan : Plan) (readers : List Reader) (place : ℕ) (pager : Paged) → AreReaders files opened plan readers → length readers ≤ place
    → IsReading files opened plan readers place pager
reading_none files opened plan readers place pager are past =
    record { all = are; last = λ reader at. absurd (omega (arith, past, slice_get_within readers place reader at)) }

-- ---- a piece of which no position is worked

module _ (told : Option (List FileText)) (plan : Plan) (now : Piece) (attempted : Option ℕ) (receipt : Receipt) (at : worked_to now attempted ≡ now.range.from)
    (empty : receipt ≡ record { arrivals = []; seen = now.seen; logged = None }) where
  pub nothing_given : receipt.seen ≤ℤ greatest_time → IsGiven told plan (job.Span now) attempted receipt
  nothing_given time = (by (is_known told plan now.node), ap (λ (r : Receipt). r.logged) empty, of_spent now.spent)
    where
      of_spent : (spent : Option FaultNote) → IsOfSpent spent now receipt
      of_spent None = tt
      of_spent (Some note) = (ap (λ (r : Receipt). r.arrivals) empty, ap (λ (r : Receipt). r.seen) empty)

      of_item : (found : Option SourceItem) → IsWorkOnItem plan now (worked_to now attempted) found receipt
      of_item None = (ap (λ (r : Receipt). r.arrivals) empty, ap (λ (r : Receipt). r.seen) empty)
      of_item (Some item) = record {
        arrivals = ap (λ (r : Receipt). map Arrives r.arrivals) empty ∙ sym (spread-empty (outputs_at plan item) now.range.from (worked_to now attempted) (omega (arith, at)));
        seen =
            ap (λ (r : Receipt). r.seen) empty
            ∙ sym (seen_over_quiet (estimator_of plan now.node) item now.seen now.range.from (worked_to now attempted) (λ q low high. absurd (omega (arith, at, low, high))));
      }

      by : (known : Bool) → IsWorkOnRange known told plan now (worked_to now attempted) receipt
      by false = fit_plausible plan now receipt (fit_none plan now receipt empty) time
      by true = of_item (item_at (items_told told plan) now.node now.item)

-- the range of a piece is empty, of which the start was claimed
pub none_claimed : (told : Option (List FileText)) (plan : Plan) (piece : Piece) (end : ℕ) (known : Option KnownJob) (claim : HasClaimedTo piece end known) → piece.range.from ≡ end
    → (receipt : Receipt) → receipt ≡ record { arrivals = []; seen = piece.seen; logged = None } → receipt.seen ≤ℤ greatest_time → IsGiven told plan (job.Span claim.now) (Some piece.range.from) receipt
none_claimed told plan piece end known claim empty receipt is time =
    let from : claim.now.range.from ≡ piece.range.from = ap (λ (p : Piece). p.range.from) claim.claimed.same in
    let seen : claim.now.seen ≡ piece.seen = ap (λ (p : Piece). p.seen) claim.claimed.same in
    nothing_given told plan claim.now (Some piece.range.from) receipt (omega (arith, from, claim.ends, empty)) (is ∙ ap (λ s. record { arrivals = []; seen = s; logged = None }) (sym seen)) time
