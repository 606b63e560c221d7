-- The words of a plan document, each by what it stands for, and of the functions of side inputs, which no document names.
use Rattle.std.specs.Prelude.{ℕ, Bool, true, false, List, codes}
use Rattle.beam_values.specs.declared.plan.FnKind.{FnKind}
use Rattle.beam_values.specs.declared.plan.FnKind.TheVariants.{KeyField, Words, Field, KeepPrefix, FieldInt, Swap, Shift, SumSeq, CountSeq, MaxSeq, Unseq, Values, Tag, JoinList, JoinSingle, JoinLookup}
use Rattle.beam_values.specs.declared.plan.Mode.{Mode}
use Rattle.beam_values.specs.declared.plan.Mode.TheVariants.{Discarding, Accumulating}
use Rattle.beam_values.specs.declared.plan.SourceKind.{SourceKind}
use Rattle.beam_values.specs.declared.plan.SourceKind.TheVariants.{Lines, TimedLines, Count, Made}
use Rattle.beam_values.specs.declared.plan.StateKind.{StateKind}
use Rattle.beam_values.specs.declared.plan.StateKind.TheVariants.{Dedupe, RunningSum, BatchUntil, LatestThenEmit}

abbrev pub source_word : SourceKind → List ℕ
source_word Lines = codes "Lines"
source_word TimedLines = codes "TimedLines"
source_word Count = codes "Count"
source_word Made = codes "Made"

abbrev pub function_word : FnKind → List ℕ
function_word KeyField = codes "KeyField"
function_word Words = codes "Words"
function_word Field = codes "Field"
function_word KeepPrefix = codes "KeepPrefix"
function_word FieldInt = codes "FieldInt"
function_word Swap = codes "Swap"
function_word Shift = codes "Shift"
function_word SumSeq = codes "SumSeq"
function_word CountSeq = codes "CountSeq"
function_word MaxSeq = codes "MaxSeq"
function_word Unseq = codes "Unseq"
function_word Values = codes "Values"
function_word Tag = codes "Tag"
function_word JoinList = codes "JoinList"
function_word JoinSingle = codes "JoinSingle"
function_word JoinLookup = codes "JoinLookup"

abbrev pub is_of_side_input : FnKind → Bool
is_of_side_input Tag = true
is_of_side_input JoinList = true
is_of_side_input JoinSingle = true
is_of_side_input JoinLookup = true
is_of_side_input _ = false

abbrev pub state_word : StateKind → List ℕ
state_word Dedupe = codes "Dedupe"
state_word RunningSum = codes "RunningSum"
state_word BatchUntil = codes "BatchUntil"
state_word LatestThenEmit = codes "LatestThenEmit"

abbrev pub mode_word : Mode → List ℕ
mode_word Discarding = codes "discarding"
mode_word Accumulating = codes "accumulating"
