-- What a worker knows of each item of the sources, a reader for each, by node and item; and what it holds of the one that it read last.
use Rattle.std.specs.Prelude.{◌≡◌, ℕ, ◌+◌, ◌||◌, Bool, true, false, not, List, [], ◌∷◌, ◌++◌, length, map, take, drop, Option, Some, None, IsSomeAnd, ◌⊎◌, slice_get}
use Rattle.std.specs.List.{enumerate_from}
use Rattle.beam_values.specs.Checked.{reads_file}
use Rattle.beam_values.specs.Times.{least_time}
use Rattle.beam_values.specs.declared.file_text.FileText.{FileText}
use Rattle.beam_values.specs.declared.piece.FileLen.{FileLen}
use Rattle.beam_values.specs.declared.piece.Piece.{Piece}
use Rattle.beam_values.specs.declared.plan.Args.{Args}
use Rattle.beam_values.specs.declared.plan.Node.{Node}
use Rattle.beam_values.specs.declared.plan.NodeKind.{NodeKind}
use Rattle.beam_values.specs.declared.plan.NodeKind.TheVariants.{Source}
use Rattle.beam_values.specs.declared.plan.Plan.{Plan}
use Rattle.beam_values.specs.declared.plan.SourceKind.{SourceKind}
use Rattle.beam_values.specs.declared.plan.SourceKind.TheVariants.{Lines, TimedLines, Count, Made}
use Rattle.beam_model.specs.Functions.{first_arg}
use Rattle.beam_model.specs.Positions.{SourceItem, len_of}
use Rattle.beam_ports.specs.Files.{Opening}
use Rattle.beam_ports.specs.declared.store.Opened.{Opened}
use Rattle.book_core.specs.Work.{is_told, items_told}
use Rattle.chain_exec.specs.Sources.{IsText, source_at}
use Rattle.known_jobs.specs.Calls.{holds_end}
use Rattle.sdf_library.specs.Paging.{Paged}
use Rattle.bundle_work.specs.Bundles.{CanRead}
use Rattle.bundle_work.specs.Openings.{names_in}
use Rattle.bundle_work.specs.declared.reading.Reader.{Reader}
use Rattle.bundle_work.specs.declared.bundles.Worker.{Worker}

-- ---- the readers of a plan, before anything is read

abbrev pub file_reader : ℕ → (ℕ × Opened) → Reader
file_reader node (item, file) = record { node = node; item = item; file = file.file; len = file.len }

-- what is counted or made has a length and no file
abbrev pub counted_reader : ℕ → Args → Reader
counted_reader node args = record { node = node; item = 0; file = 0; len = first_arg args }

abbrev pub file_readers : ℕ → List Opened → List Reader
file_readers node opened = map (file_reader node) (enumerate_from 0 opened)

-- of a source with so many files, which are the first of those that were opened
abbrev pub readers_of_source : ℕ → SourceKind → Args → ℕ → List Opened → List Reader
readers_of_source node Lines args count opened = file_readers node (take count opened)
readers_of_source node TimedLines args count opened = file_readers node (take count opened)
readers_of_source node Count args count opened = counted_reader node args ∷ []
readers_of_source node Made args count opened = counted_reader node args ∷ []

abbrev pub readers_of_kind : ℕ → NodeKind → List Opened → List Reader
readers_of_kind node (Source work args files estimator) opened = readers_of_source node work args (length files) opened
readers_of_kind node _ opened = []

-- of nodes from this number on
abbrev pub readers_from : ℕ → List Node → List Opened → List Reader
readers_from number [] opened = []
readers_from number (node ∷ nodes) opened =
    readers_of_kind number node.kind opened ++ readers_from (number + 1) nodes (drop (length (names_in node.kind)) opened)

abbrev pub length_in : Reader → FileLen
length_in reader = record { node = reader.node; item = reader.item; len = reader.len }

-- the lengths of the items of a plan, as these files were opened
abbrev pub opened_lengths : Plan → List Opened → List FileLen
opened_lengths plan files = map length_in (readers_from 0 plan.nodes files)

-- ---- what readers are while a run goes on

-- A reader is of this item: its file is open; and where the item is known, that is its text.
pub record IsReaderOf (told : Option (List FileText)) (opened : ℕ → Option Opening) (plan : Plan) (item : SourceItem) (reader : Reader) : Type 0 where
  pub at_node : reader.node ≡ item.node
  pub at_item : reader.item ≡ item.item
  pub source : source_at plan item.node ≡ Some (record { work = item.work; args = item.args })
  pub whole : item.left_out ≡ []
  pub counted : reads_file item.work ≡ false → len_of item ≡ reader.len
  pub opened_so : reads_file item.work ≡ true → IsSomeAnd (opened reader.file) (λ o. o.len ≡ reader.len)
  pub text : (is_told told || not (reads_file item.work)) ≡ true → IsText item.work (opened reader.file) reader.len item.file

-- one reader for each item, in order
abbrev pub AreReadersOf : Option (List FileText) → (ℕ → Option Opening) → Plan → List SourceItem → List Reader → Type 0
AreReadersOf told opened plan [] [] = Unit {0}
AreReadersOf told opened plan (item ∷ items) (reader ∷ readers) = IsReaderOf told opened plan item reader × AreReadersOf told opened plan items readers
AreReadersOf told opened plan _ _ = ⊥

abbrev pub AreToldReaders : Option (List FileText) → (ℕ → Option Opening) → Plan → List Reader → Type 0
AreToldReaders told opened plan readers = AreReadersOf told opened plan (items_told told plan) readers

-- the readers of a plan over files that are told or not: they are so whether or not anything is said of the files
pub record AreReaders (files : Option (List FileText)) (opened : ℕ → Option Opening) (plan : Plan) (readers : List Reader) : Type 0 where
  pub untold : AreToldReaders None opened plan readers
  pub told : AreToldReaders files opened plan readers

-- a reader of the piece's item that reaches the piece's end
abbrev pub is_reader_for : Piece → Reader → Bool
is_reader_for piece reader = holds_end piece (length_in reader)

-- ---- the item that was read last

-- a pager of this reader's file, which holds nothing of it yet
abbrev pub fresh_pager : Reader → Paged
fresh_pager reader = record { file = reader.file; len = reader.len; base = 0; bytes = []; quiet = record { from = 0; to = 0 } }

-- the pager is of this reader's item, whose positions can be worked with it
pub record IsPagerFor (opened : ℕ → Option Opening) (plan : Plan) (reader : Reader) (pager : Paged) : Type 0 where
  pub file : pager.file ≡ reader.file
  pub len : pager.len ≡ reader.len
  pub able : CanRead plan reader.node (opened pager.file) pager

-- a worker's readers are those of the plan, and its pager is that of the reader at this place, if there is one
pub record IsReading (files : Option (List FileText)) (opened : ℕ → Option Opening) (plan : Plan) (readers : List Reader) (place : ℕ) (pager : Paged) : Type 0 where
  pub all : AreReaders files opened plan readers
  pub last : (reader : Reader) → slice_get readers place ≡ Some reader → IsPagerFor opened plan reader pager

-- The reader of a piece is at the new place. Where that is the old one the pager stays, and else it is a new one of the reader's file, which holds nothing yet.
pub record HasTurned (piece : Piece) (readers : List Reader) (place later : ℕ) (pager new : Paged) : Type 0 where
  pub reader : Reader
  pub at : slice_get readers later ≡ Some reader
  pub is_for : is_reader_for piece reader ≡ true
  pub held : ((later ≡ place) × (new ≡ pager)) ⊎ (new ≡ fresh_pager reader)

-- ---- a worker that gives up what it holds

-- Of the item that was read last nothing is held, and nothing is staged. Of the lists that are used again nothing is said; all else is as it was.
abbrev pub IsReleased : Worker → Worker → Type 0
IsReleased worker later =
    later ≡ record worker {
      bench = record worker.bench {
        pager = record worker.bench.pager { base = 0; bytes = [] };
        buffers = later.bench.buffers;
        staging = record { arrivals = []; seen = least_time; logged = None };
      };
    }

-- the worker has the same readers, and reads what it read, whatever that is
pub record StaysReading (worker later : Worker) : Type 0 where
  pub readers : later.readers.items ≡ worker.readers.items
  pub reading : (told : Option (List FileText)) (opened : ℕ → Option Opening) (plan : Plan)
      → IsReading told opened plan worker.readers.items worker.place worker.bench.pager → IsReading told opened plan later.readers.items later.place later.bench.pager
