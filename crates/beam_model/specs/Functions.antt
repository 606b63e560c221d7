-- The functions of single elements (Beam Programming Guide, ParDo): what each gives of an element, or that the element is poison for it.
use Rattle.std.specs.Prelude.{ℕ, ℤ, pos, negsuc, ◌+ℤ◌, Bool, true, false, ◌&&◌, ◌||◌, if◌then◌else◌, int_le, bytes_eq, unwrap_or, List, [], ◌∷◌, length, map, fold, slice_get, Option, Some, None}
use Rattle.std.specs.Option.{option_map, option_and_then}
use Rattle.std.specs.Int.{int_min, int_max}
use Rattle.std.specs.List.{flat_map, list_all}
use Rattle.std.specs.Ordering.{is_lt, int_eq}
use Rattle.beam_values.specs.Orders.{value_cmp}
use Rattle.beam_values.specs.Spelling.{spelling}
use Rattle.beam_values.specs.Times.{greatest_time}
use Rattle.beam_values.specs.Windows.{or_zero}
use Rattle.beam_values.specs.Functions.{key_field}
use Rattle.beam_values.specs.declared.value.Value.{Value}
use Rattle.beam_values.specs.declared.element.Element.{Element}
use Rattle.beam_values.specs.declared.plan.Args.{Args}
use Rattle.beam_values.specs.declared.plan.Args.TheVariants.{Text, Number, Two}
use Rattle.beam_values.specs.declared.plan.FnKind.{FnKind}
use Rattle.beam_values.specs.declared.plan.FnKind.TheVariants.{KeyField, Words, Field, KeepPrefix, FieldInt, Swap, Shift, SumSeq, CountSeq, MaxSeq, Unseq, Values, Tag, JoinList, JoinSingle, JoinLookup}
use Rattle.beam_model.specs.Values.{KeyedValue, null, int, blob, pair, seq, as_blob, as_int, as_pair, as_seq, is_null, numbers_in}
use Rattle.beam_model.specs.Texts.{words, fields, begins_with, int_of}

-- the arguments by their forms; another form reads as nothing
abbrev pub text_arg : Args → List ℕ
text_arg (Text text) = text
text_arg _ = []

abbrev pub number_arg : Args → ℤ
number_arg (Number n) = n
number_arg _ = pos 0

abbrev pub first_arg : Args → ℕ
first_arg (Two first second) = first
first_arg _ = 0

abbrev pub second_arg : Args → ℕ
second_arg (Two first second) = second
second_arg _ = 0

-- a time that many milliseconds later, cut to the greatest time
abbrev pub later_by : ℤ → ℤ → ℤ
later_by delay time = int_min (time +ℤ delay) greatest_time

-- a number, where 64 bits hold it
abbrev pub in_word : ℤ → Option ℤ
in_word n = if int_le (negsuc 9223372036854775807) n && int_le n (pos 9223372036854775807) then Some n else None

abbrev pub sum_of : List ℤ → ℤ
sum_of numbers = fold (λ sum n. sum +ℤ n) (pos 0) numbers

-- the greatest of some numbers; of none it is Null
abbrev pub greatest_of : List ℤ → Value
greatest_of [] = null
greatest_of (n ∷ numbers) = int (fold int_max n numbers)

-- an element with another value; its time, its window and its pane's tag stay
abbrev pub valued : Element → Value → Element
valued e v = record e { value = v }

abbrev pub one : Element → Value → List Element
one e v = valued e v ∷ []

-- the text before the first TAB as the key of what is after it
abbrev pub keyed_text : List ℕ → Value
keyed_text text = pair (blob (key_field text).key) (blob (key_field text).part)

-- a function of the part of a pair; the key stays
abbrev pub on_part : (Value → Option Value) → KeyedValue → Option Value
on_part change keyed = option_map (pair keyed.key) (change keyed.part)

abbrev pub int_in : Value → Option Value
int_in part = option_map int (option_and_then int_of (as_blob part))

abbrev pub sum_in : Value → Option Value
sum_in part = option_map int (option_and_then (λ numbers. in_word (sum_of numbers)) (option_and_then numbers_in (as_seq part)))

abbrev pub count_in : Value → Option Value
count_in part = option_map (λ items. int (pos (length items))) (as_seq part)

abbrev pub greatest_in : Value → Option Value
greatest_in part = option_map greatest_of (option_and_then numbers_in (as_seq part))

-- a value put before the first one that it is less than or equal to
abbrev pub insert_value : Value → List Value → List Value
insert_value v [] = v ∷ []
insert_value v (w ∷ ws) = if is_lt (value_cmp w v) then w ∷ insert_value v ws else v ∷ w ∷ ws

-- values in ascending order
abbrev pub ascending : List Value → List Value
ascending [] = []
ascending (v ∷ vs) = insert_value v (ascending vs)

-- the elements that a value gives where it has the form that the function takes; poison is None
abbrev pub from_blob : Element → (List ℕ → Option (List Element)) → Option (List Element)
from_blob e give = option_and_then give (as_blob e.value)

abbrev pub from_pair : Element → (KeyedValue → Option (List Element)) → Option (List Element)
from_pair e give = option_and_then give (as_pair e.value)

-- a prefix is kept, and anything else left out
abbrev pub kept_prefix : List ℕ → Element → Option (List ℕ) → List Element
kept_prefix prefix e (Some text) = if begins_with prefix text then e ∷ [] else []
kept_prefix prefix e None = []

-- The fold of the parts of a key and window: what a function of sequences makes of a pane with these parts. None where such a pane is poison, and of other
-- functions.
abbrev pub fold_of : FnKind → List Value → Option Value
fold_of SumSeq parts = sum_in (seq parts)
fold_of CountSeq parts = count_in (seq parts)
fold_of MaxSeq parts = greatest_in (seq parts)
fold_of _ parts = None

-- the functions that fold a sequence
abbrev pub folds : FnKind → Bool
folds SumSeq = true
folds CountSeq = true
folds MaxSeq = true
folds _ = false

-- ---- side inputs (Beam Programming Guide, Side inputs): a part is tagged 1, of the main input, or 0, of the view

abbrev pub is_tagged : ℤ → Value → Bool
is_tagged mark key = unwrap_or (option_map (int_eq mark) (as_int key)) false

abbrev pub tagged_as : ℤ → KeyedValue → List Value
tagged_as mark keyed = if is_tagged mark keyed.key then keyed.part ∷ [] else []

-- the value of a part that has this tag; of another part none
abbrev pub value_tagged : ℤ → Value → List Value
value_tagged mark part = unwrap_or (option_map (tagged_as mark) (as_pair part)) []

abbrev pub is_of_side : KeyedValue → Bool
is_of_side keyed = is_tagged (pos 1) keyed.key || is_tagged (pos 0) keyed.key

-- a value with one of the two tags
abbrev pub is_side_part : Value → Bool
is_side_part part = unwrap_or (option_map is_of_side (as_pair part)) false

-- the values of the main input, and those of the view, in order
abbrev pub main_values : List Value → List Value
main_values parts = flat_map (value_tagged (pos 1)) parts

abbrev pub view_values : List Value → List Value
view_values parts = flat_map (value_tagged (pos 0)) parts

abbrev pub is_pair : Value → Bool
is_pair v = unwrap_or (option_map (λ keyed. true) (as_pair v)) false

-- what belongs to a key in a value of the view
abbrev pub found_as : Value → KeyedValue → List Value
found_as key keyed = if bytes_eq (spelling keyed.key) (spelling key) then keyed.part ∷ [] else []

abbrev pub found_in : Value → Value → List Value
found_in key view = unwrap_or (option_map (found_as key) (as_pair view)) []

-- the only one of some values
abbrev pub only_one : List Value → Option Value
only_one (v ∷ []) = Some v
only_one _ = None

-- What a main value is joined with: all values of the view, ascending; its only value; or, of its key, what belongs to that key in the view, ascending. None
-- where there is no only one, where the main value or one of the view has no key, and of other functions.
abbrev pub joined_with : FnKind → List Value → Value → Option Value
joined_with JoinList views main = Some (seq (ascending views))
joined_with JoinSingle views main = only_one views
joined_with JoinLookup views main =
    if list_all is_pair views then option_map (λ keyed. seq (ascending (flat_map (found_in keyed.key) views))) (as_pair main) else None
joined_with _ views main = None

abbrev pub joined_value : FnKind → List Value → Value → Option Value
joined_value work views main = option_map (pair main) (joined_with work views main)

-- A join by keys takes values of the view that have one, also where no main value asks.
abbrev pub takes_views : FnKind → List Value → Bool
takes_views JoinLookup views = list_all is_pair views
takes_views _ views = true

-- the values of a list where each is there
abbrev pub all_there : List (Option Value) → Option (List Value)
all_there [] = Some []
all_there (None ∷ values) = None
all_there (Some v ∷ values) = option_map (λ rest. v ∷ rest) (all_there values)

-- each main value joined, in order
abbrev pub joined_values : FnKind → List Value → Option (List Value)
joined_values work parts =
    if list_all is_side_part parts && takes_views work (view_values parts) then all_there (map (joined_value work (view_values parts)) (main_values parts)) else None

-- a pane of a side input has the key Null
abbrev pub side_parts : KeyedValue → Option (List Value)
side_parts keyed = if is_null keyed.key then as_seq keyed.part else None

abbrev pub joins : FnKind → Element → Option (List Element)
joins work e = from_pair e (λ keyed. option_map (map (valued e)) (option_and_then (joined_values work) (side_parts keyed)))

-- what an element gives, in order; None where it is poison
abbrev pub emits : FnKind → Args → Element → Option (List Element)
-- a byte string, split at its first TAB
emits KeyField args e = from_blob e (λ text. Some (one e (keyed_text text)))
-- each word of a byte string
emits Words args e = from_blob e (λ text. Some (map (λ word. valued e (blob word)) (words text)))
-- the field of this number, counted from 0; poison where there is none
emits Field args e = from_blob e (λ text. option_map (λ field. one e (blob field)) (slice_get (fields text) (or_zero (number_arg args))))
-- a byte string that begins so, as it is; nothing of any other value, and no poison
emits KeepPrefix args e = Some (kept_prefix (text_arg args) e (as_blob e.value))
-- the number that the part of a pair writes
emits FieldInt args e = from_pair e (λ keyed. option_map (one e) (on_part int_in keyed))
emits Swap args e = from_pair e (λ keyed. Some (one e (pair keyed.part keyed.key)))
-- any value, later
emits Shift args e = Some (record e { time = later_by (number_arg args) e.time } ∷ [])
-- of a pair with a sequence: the sum of its numbers, how many items it has, the greatest of its numbers, each item
emits SumSeq args e = from_pair e (λ keyed. option_map (one e) (on_part sum_in keyed))
emits CountSeq args e = from_pair e (λ keyed. option_map (one e) (on_part count_in keyed))
emits MaxSeq args e = from_pair e (λ keyed. option_map (one e) (on_part greatest_in keyed))
emits Unseq args e = from_pair e (λ keyed. option_map (map (λ item. valued e (pair keyed.key item))) (as_seq keyed.part))
-- the part of a pair
emits Values args e = from_pair e (λ keyed. Some (one e keyed.part))
-- any value, with a tag, below the key Null
emits Tag args e = Some (one e (pair null (pair (int (number_arg args)) e.value)))
-- of a pair of Null and a sequence of tagged values: each main value with what it is joined with
emits JoinList args e = joins JoinList e
emits JoinSingle args e = joins JoinSingle e
emits JoinLookup args e = joins JoinLookup e
