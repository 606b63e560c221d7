-- Schedules computed.
use Rattle.std.specs.Prelude.{◌≡◌, ℕ, List, [], ◌∷◌, ◌++◌, Some, None, codes, refl}
use Rattle.schedule_words.specs.Schedules.{line_of, lines_of}
use Rattle.schedule_words.specs.declared.line.Line.TheVariants.{Take, Claim, RunJob, Split, Commit, Fail, Drain}

-- lines

no_line : lines_of [] ≡ []
no_line = refl

last_line_without_an_end : lines_of (codes "ab" ++ 10 ∷ codes "c") ≡ codes "ab" ∷ codes "c" ∷ []
last_line_without_an_end = refl

last_line_with_an_end : lines_of (codes "ab" ++ 10 ∷ []) ≡ codes "ab" ∷ []
last_line_with_an_end = refl

empty_lines : lines_of (10 ∷ 10 ∷ codes "a") ≡ [] ∷ [] ∷ codes "a" ∷ []
empty_lines = refl

-- what they ask for

slot_of_two_digits : line_of (codes "take 07") ≡ Some (Take 7)
slot_of_two_digits = refl

slot_of_three_digits : line_of (codes "take 007") ≡ None
slot_of_three_digits = refl

claim : line_of (codes "claim 3") ≡ Some (Claim 3)
claim = refl

run_job : line_of (codes "run 15") ≡ Some (RunJob 15)
run_job = refl

split : line_of (codes "split 0 1 0000002") ≡ Some (Split 0 1 2)
split = refl

denominator_of_eight_digits : line_of (codes "split 0 1 00000002") ≡ None
denominator_of_eight_digits = refl

split_above_one : line_of (codes "split 0 2 1") ≡ None
split_above_one = refl

split_by_zero : line_of (codes "split 0 0 0") ≡ None
split_by_zero = refl

split_by_a_million : line_of (codes "split 0 1000000 1000000") ≡ Some (Split 0 1000000 1000000)
split_by_a_million = refl

split_by_more : line_of (codes "split 0 1 1000001") ≡ None
split_by_more = refl

commit : line_of (codes "commit 0") ≡ Some (Commit 0)
commit = refl

fail : line_of (codes "fail 0") ≡ Some (Fail 0)
fail = refl

drain : line_of (codes "drain") ≡ Some Drain
drain = refl

drain_of_a_slot : line_of (codes "drain 0") ≡ None
drain_of_a_slot = refl

no_slot : line_of (codes "take") ≡ None
no_slot = refl

two_spaces : line_of (codes "take  0") ≡ None
two_spaces = refl

space_at_the_end : line_of (codes "take 0 ") ≡ None
space_at_the_end = refl

space_at_the_start : line_of (codes " take 0") ≡ None
space_at_the_start = refl

carriage_return : line_of (codes "drain" ++ 13 ∷ []) ≡ None
carriage_return = refl

empty : line_of [] ≡ None
empty = refl

capital : line_of (codes "Drain") ≡ None
capital = refl

plus : line_of (codes "take +1") ≡ None
plus = refl
