-- Each word is read as what it stands for, and those of side inputs as nothing.
use Rattle.std.proofs.Common.{◌≡◌, None, Some, refl}
use Rattle.std.specs.Prelude.{if◌then◌else◌}
use Rattle.beam_values.specs.declared.plan.FnKind.{FnKind}
use Rattle.beam_values.specs.declared.plan.FnKind.TheVariants.{KeyField, Words, Field, KeepPrefix, FieldInt, Swap, Shift, SumSeq, CountSeq, MaxSeq, Unseq, Values, Tag, JoinList, JoinSingle, JoinLookup}
use Rattle.beam_values.specs.declared.plan.Mode.{Mode}
use Rattle.beam_values.specs.declared.plan.Mode.TheVariants.{Discarding, Accumulating}
use Rattle.beam_values.specs.declared.plan.SourceKind.{SourceKind}
use Rattle.beam_values.specs.declared.plan.SourceKind.TheVariants.{Lines, TimedLines, Count, Made}
use Rattle.beam_values.specs.declared.plan.StateKind.{StateKind}
use Rattle.beam_values.specs.declared.plan.StateKind.TheVariants.{Dedupe, RunningSum, BatchUntil, LatestThenEmit}
use Rattle.plan_reader.specs.Words.{functions, meaning_in, modes, sources, stateful_functions}
use Rattle.plan_drawing.specs.Words.{function_word, is_of_side_input, mode_word, source_word, state_word}

pub sources_read : (work : SourceKind) → meaning_in sources (source_word work) ≡ Some work
sources_read Lines = refl
sources_read TimedLines = refl
sources_read Count = refl
sources_read Made = refl

pub functions_read : (work : FnKind) → meaning_in functions (function_word work) ≡ (if is_of_side_input work then None else Some work)
functions_read KeyField = refl
functions_read Words = refl
functions_read Field = refl
functions_read KeepPrefix = refl
functions_read FieldInt = refl
functions_read Swap = refl
functions_read Shift = refl
functions_read SumSeq = refl
functions_read CountSeq = refl
functions_read MaxSeq = refl
functions_read Unseq = refl
functions_read Values = refl
functions_read Tag = refl
functions_read JoinList = refl
functions_read JoinSingle = refl
functions_read JoinLookup = refl

pub stateful_read : (work : StateKind) → meaning_in stateful_functions (state_word work) ≡ Some work
stateful_read Dedupe = refl
stateful_read RunningSum = refl
stateful_read BatchUntil = refl
stateful_read LatestThenEmit = refl

pub modes_read : (mode : Mode) → meaning_in modes (mode_word mode) ≡ Some mode
modes_read Discarding = refl
modes_read Accumulating = refl
