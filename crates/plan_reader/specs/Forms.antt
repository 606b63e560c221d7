-- The forms of the values that the keys of a document have. At one key a wrong form comes first, then a wrong word, name or length, then
-- a wrong number.
use Rattle.std.specs.Prelude.{ℕ, Bool, true, ◌&&◌, List, [], ◌∷◌, ◌++◌, length, nat_le, bytes_eq, if◌then◌else◌, Option, Some, None, ok_or, option_and_then, Ok, Err}
use Rattle.std.specs.List.{list_any}
use Rattle.std.specs.Option.{option_map_or}
use Rattle.serde_json.specs.Data.{Data, Num, Items, no_items, item, Members, no_members, member}
use Rattle.serde_json.specs.Find.{as_array, as_bool, as_number, as_object, as_str, as_u64, get}
use Rattle.plan_reader.specs.declared.refusal.Place.{Place}
use Rattle.plan_reader.specs.declared.refusal.PlanKey.{PlanKey}
use Rattle.plan_reader.specs.declared.refusal.PlanRefusal.TheVariants.{Field, Name, Number}
use Rattle.plan_reader.specs.Places.{key_word}
use Rattle.plan_reader.specs.Refusals.{Meaning}

-- What comes first, and then what follows of it. A refusal ends it.
infixl 10 ◌>>=◌
abbrev pub ◌>>=◌ : {A B : Type 0} → Meaning A → (A → Meaning B) → Meaning B
(Ok x) >>= f = f x
(Err e) >>= f = Err e

-- One after another, each by what was read before it: all of them, or the first refusal.
abbrev pub one_by_one : {A B : Type 0} → (List B → A → Meaning B) → List B → List A → Meaning (List B)
one_by_one meaning before [] = Ok before
one_by_one meaning before (x ∷ xs) = meaning before x >>= λ y. one_by_one meaning (before ++ y ∷ []) xs

-- ---- keys

-- the value of a key of an object
abbrev pub value_of : PlanKey → Data → Option Data
value_of key d = get (key_word key) d

-- the value of a key that has to be there
abbrev pub needed : Place → Data → Meaning Data
needed place d = ok_or (value_of place.key d) (Field place)

-- the value of a key that means `default` where it is absent
abbrev pub or_absent : {A : Type 0} → A → (Place → Data → Meaning A) → Place → Data → Meaning A
or_absent default form place d = option_map_or (form place) (value_of place.key d) (Ok default)

-- whether an object has only listed keys
abbrev pub is_listed : List PlanKey → List ℕ → Bool
is_listed keys word = list_any (λ key. bytes_eq word (key_word key)) keys

abbrev pub are_listed : List PlanKey → Members → Bool
are_listed keys no_members = true
are_listed keys (member word value others) = is_listed keys word && are_listed keys others

abbrev pub has_only : List PlanKey → Data → Bool
has_only keys d = option_map_or (are_listed keys) (as_object d) true

-- the key and the value of an object of one key
abbrev pub only_of : Members → Option (List ℕ × Data)
only_of (member word value no_members) = Some (word, value)
only_of _ = None

abbrev pub only_member : Data → Option (List ℕ × Data)
only_member d = option_and_then only_of (as_object d)

-- ---- strings

abbrev pub string_in : Place → Data → Meaning (List ℕ)
string_in place d = ok_or (as_str d) (Field place)

-- a string of so many bytes
abbrev pub text_in : ℕ → ℕ → Place → Data → Meaning (List ℕ)
text_in least most place d = do
  text ← string_in place d
  if nat_le least (length text) && nat_le (length text) most then Ok text else Err (Name place)

-- a string that is a word of this table
abbrev pub word_in : {A : Type 0} → (List ℕ → Option A) → Place → Data → Meaning A
word_in table place d = do
  word ← string_in place d
  ok_or (table word) (Name place)

-- ---- arrays

abbrev pub items_list : Items → List Data
items_list no_items = []
items_list (item d ds) = d ∷ items_list ds

-- an array of strings
abbrev pub strings_of : Place → Items → Meaning (List (List ℕ))
strings_of place items = one_by_one (λ _ string. string_in place string) [] (items_list items)

abbrev pub strings_in : Place → Data → Meaning (List (List ℕ))
strings_in place d = ok_or (as_array d) (Field place) >>= strings_of place

-- an array of two
abbrev pub pair_of : Items → Option (Data × Data)
pair_of (item first (item second no_items)) = Some (first, second)
pair_of _ = None

abbrev pub pair_in : Place → Data → Meaning (Data × Data)
pair_in place d = ok_or (option_and_then pair_of (as_array d)) (Field place)

-- ---- numbers

abbrev pub any_number_in : Place → Data → Meaning Num
any_number_in place d = ok_or (as_number d) (Field place)

-- A number is whole where the JSON text gives it as an integer of 64 bits; `-0` is a float. No limit is below 0, so a negative one is outside of all.
abbrev pub within : ℕ → ℕ → Place → Num → Meaning ℕ
within least most place number = do
  n ← ok_or (as_u64 number) (Number place)
  if nat_le least n && nat_le n most then Ok n else Err (Number place)

-- a whole number within these limits
abbrev pub number_in : ℕ → ℕ → Place → Data → Meaning ℕ
number_in least most place d = any_number_in place d >>= within least most place

-- ---- truth

abbrev pub bool_in : Place → Data → Meaning Bool
bool_in place d = ok_or (as_bool d) (Field place)
