use Rattle.std.proofs.Common.{◌≡◌, take}
use Rattle.book_core.specs.Runs.{pieces_of}
use Rattle.book_core.proofs.opening.cut_files.Given as goal

abbrev pub invariant-loop-file : goal.invariant-loop-file
invariant-loop-file l = l.pieces.pending ≡ pieces_of l.chunk (take l.file-index l.files)
