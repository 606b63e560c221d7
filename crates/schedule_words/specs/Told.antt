-- The line that is printed where a line of a schedule was worked.
use Rattle.std.specs.Prelude.{ℕ, Bool, if◌then◌else◌, List, [], ◌∷◌, ◌++◌, codes, decimal, Option, Some, None}
use Rattle.beam_values.specs.Intervals.{Offsets}
use Rattle.schedule_words.specs.declared.told.Claimed.{Claimed}
use Rattle.schedule_words.specs.declared.told.Claimed.TheVariants as claimed
use Rattle.schedule_words.specs.declared.told.Told.{Told}
use Rattle.schedule_words.specs.declared.told.Told.TheVariants as told
use Rattle.schedule_words.specs.declared.told.Took.{Took}
use Rattle.schedule_words.specs.declared.told.Took.TheVariants as took

-- a word with a space behind it, before these bytes
abbrev pub before : List ℕ → List ℕ → List ℕ
before word rest = word ++ 32 ∷ rest

-- the last word of a line
abbrev pub ended : List ℕ → List ℕ
ended word = word ++ 10 ∷ []

-- NODE ITEM FROM TO
abbrev pub range_text : ℕ → ℕ → Offsets → List ℕ
range_text node item range = before (decimal node) (before (decimal item) (before (decimal range.from) (ended (decimal range.to))))

-- NODE COUNT
abbrev pub count_text : ℕ → ℕ → List ℕ
count_text node count = before (decimal node) (ended (decimal count))

-- `panes` PANES `drops` DROPS
abbrev pub counts_text : ℕ → ℕ → List ℕ
counts_text panes drops = before (codes "panes") (before (decimal panes) (before (codes "drops") (ended (decimal drops))))

abbrev pub took_text : Took → List ℕ
took_text (took.Range node item range) = before (codes "range") (range_text node item range)
took_text (took.Batch node count) = before (codes "batch") (count_text node count)
took_text (took.Key node count) = before (codes "key") (count_text node count)
took_text took.Nothing = ended (codes "nothing")
took_text took.Finished = ended (codes "finished")
took_text took.Stopped = ended (codes "stopped")

abbrev pub claimed_text : Claimed → List ℕ
claimed_text claimed.Worked = codes "true"
claimed_text claimed.Refused = codes "false"
claimed_text claimed.Faulted = codes "faulted"

abbrev pub split_text : Option ℕ → List ℕ
split_text None = codes "none"
split_text (Some at) = decimal at

-- COMMAND SLOT, before these bytes
abbrev pub of_slot : List ℕ → ℕ → List ℕ → List ℕ
of_slot command slot rest = before command (before (decimal slot) rest)

-- What is printed of a line. A slot is printed as a number, so of `take 00` it is `take 0 range 0 0 0 27` where that was taken.
abbrev pub told_text : Told → List ℕ
told_text (told.Taken slot what) = of_slot (codes "take") slot (took_text what)
told_text (told.Claim slot p what) = of_slot (codes "claim") slot (before (decimal p) (ended (claimed_text what)))
told_text (told.Ran slot faulted) = of_slot (codes "run") slot (ended (if faulted then codes "faulted" else codes "ok"))
told_text (told.Split slot at) = of_slot (codes "split") slot (ended (split_text at))
told_text (told.Committed slot panes drops) = of_slot (codes "commit") slot (counts_text panes drops)
told_text (told.Failed slot spent) = of_slot (codes "fail") slot (ended (if spent then codes "spent" else codes "retry"))
told_text (told.Drained spent) = before (codes "drain") (ended (if spent then codes "spent" else codes "finished"))

-- the line of a range behind a word that says what it is: `done 0 0 0 27`
abbrev pub range_line : List ℕ → ℕ → ℕ → Offsets → List ℕ
range_line word node item range = before word (range_text node item range)

-- the line of a position behind such a word: `dead 0 0 9`
abbrev pub position_line : List ℕ → ℕ → ℕ → ℕ → List ℕ
position_line word node item at = before word (before (decimal node) (before (decimal item) (ended (decimal at))))
