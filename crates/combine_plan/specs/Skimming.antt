-- Pieces of a file that was read last.
use Rattle.std.specs.Prelude.{◌≡◌, ℕ, ◌<◌, true, List, length, Some}
use Rattle.std.specs.List.{slice_get}
use Rattle.beam_values.specs.Checked.{reads_file}
use Rattle.beam_values.specs.declared.piece.Piece.{Piece}
use Rattle.beam_values.specs.declared.plan.Args.{Args}
use Rattle.beam_values.specs.declared.plan.Plan.{Plan}
use Rattle.beam_values.specs.declared.plan.SourceKind.{SourceKind}
use Rattle.bundle_work.specs.Reading.{is_reader_for}
use Rattle.bundle_work.specs.declared.reading.Reader.{Reader}
use Rattle.chain_exec.specs.Sources.{source_at}

-- a node is a source that reads files so
pub record IsFileSource (plan : Plan) (node : ℕ) (work : SourceKind) : Type 0 where
  pub within : node < length plan.nodes
  pub args : Args
  pub source : source_at plan node ≡ Some (record { work = work; args = args })
  pub reads : reads_file work ≡ true

-- the reader at this place is of the piece's item, which is a file, and reaches the piece's end
pub record IsHeldItem (plan : Plan) (readers : List Reader) (place : ℕ) (piece : Piece) (work : SourceKind) : Type 0 where
  pub reader : Reader
  pub at : slice_get readers place ≡ Some reader
  pub is_for : is_reader_for piece reader ≡ true
  pub file : IsFileSource plan piece.node work
