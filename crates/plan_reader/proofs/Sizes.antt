-- A JSON value that is read has no more values than its text has bytes, and one.
use Rattle.std.proofs.Common.{◌≡◌, ℕ, zero, suc, ◌+◌, ◌≤◌, List, [], ◌∷◌, length, Bool, true, false, Option, Some, None, option_map, option_and_then, Ordering, Less, Equal, Greater, subst, arith}
use Rattle.std.specs.Prelude.{⊤}
use Rattle.std.specs.Ordering.{match_ordering}
use Rattle.json.specs.Token.{Token}
use Rattle.json.specs.Lex.{tokens, lex, lex_byte, Lexeme, token, comma, colon, Class, quote, backslash, operator, space, other, Mode, between, in_word, in_string, in_escape, Place, fresh, after_value, after_comma, after_key, begins_colon, may_begin, may_close, if_allowed, place_token, punctuate, class}
use Rattle.json.specs.Json as json
use Rattle.serde_json.specs.Data.{Data, number, array, object, Items, no_items, item, Members, no_members, member, put}
use Rattle.serde_json.specs.Read.{number_of, of_json, of_items, of_members, max_depth, read}

-- ---- tokens

byte_len : (m : Mode) (c : Class) (x : ℕ) (xs : List ℕ) (k : Mode → List Lexeme) (n : ℕ) → ((next : Mode) → length (k next) ≤ n) → length (lex_byte m c x xs k) ≤ n + 1
byte_len between quote x xs k n h = omega (arith, h in_string)
byte_len between backslash x xs k n h = omega (arith, h in_word)
byte_len between operator x xs k n h = omega (arith, h between)
byte_len between space x xs k n h = omega (arith, h between)
byte_len between other x xs k n h = omega (arith, h in_word)
byte_len in_word quote x xs k n h = omega (arith, h in_word)
byte_len in_word backslash x xs k n h = omega (arith, h in_word)
byte_len in_word operator x xs k n h = omega (arith, h between)
byte_len in_word space x xs k n h = omega (arith, h between)
byte_len in_word other x xs k n h = omega (arith, h in_word)
byte_len in_string quote x xs k n h = omega (arith, h between)
byte_len in_string backslash x xs k n h = omega (arith, h in_escape)
byte_len in_string operator x xs k n h = omega (arith, h in_string)
byte_len in_string space x xs k n h = omega (arith, h in_string)
byte_len in_string other x xs k n h = omega (arith, h in_string)
byte_len in_escape c x xs k n h = omega (arith, h in_string)

lex_len : (m : Mode) (xs : List ℕ) → length (lex m xs) ≤ length xs
unfolding lex
lex_len m [] = omega arith
lex_len m (x ∷ xs) = omega (arith, byte_len m (class x) x xs (λ next. lex next xs) (length xs) (λ next. lex_len next xs))

allowed_len : (b : Bool) (t : Token) (k : Place → List Token) (next : Place) (n : ℕ) → ((next : Place) → length (k next) ≤ n) → length (if_allowed b t k next) ≤ n + 1
allowed_len true t k next n h = omega (arith, h next)
allowed_len false t k next n h = omega arith

place_len : (p : Place) (t : Token) (b : Bool) (k : Place → List Token) (n : ℕ) → ((next : Place) → length (k next) ≤ n) → length (place_token p t b k) ≤ n + 1
place_len p Token.begin_object b k n h = allowed_len (may_begin p) Token.begin_object k fresh n h
place_len p Token.end_object b k n h = allowed_len (may_close p) Token.end_object k after_value n h
place_len p Token.begin_array b k n h = allowed_len (may_begin p) Token.begin_array k fresh n h
place_len p Token.end_array b k n h = allowed_len (may_close p) Token.end_array k after_value n h
place_len p (Token.key s) b k n h = omega arith
place_len p (Token.string s) true k n h = allowed_len (may_begin p) (Token.key s) k after_key n h
place_len p (Token.string s) false k n h = allowed_len (may_begin p) (Token.string s) k after_value n h
place_len p (Token.number s) b k n h = allowed_len (may_begin p) (Token.number s) k after_value n h
place_len p (Token.boolean c) b k n h = allowed_len (may_begin p) (Token.boolean c) k after_value n h
place_len p Token.null b k n h = allowed_len (may_begin p) Token.null k after_value n h
place_len p Token.bad b k n h = omega arith

punctuate_len : (ls : List Lexeme) (p : Place) → length (punctuate p ls) ≤ length ls + 1
unfolding punctuate
punctuate_len [] fresh = omega arith
punctuate_len [] after_value = omega arith
punctuate_len [] after_comma = omega arith
punctuate_len [] after_key = omega arith
punctuate_len (token t ∷ ls) fresh = omega (arith, place_len fresh t (begins_colon ls) (λ next. punctuate next ls) (length ls + 1) (punctuate_len ls))
punctuate_len (token t ∷ ls) after_value = omega (arith, place_len after_value t (begins_colon ls) (λ next. punctuate next ls) (length ls + 1) (punctuate_len ls))
punctuate_len (token t ∷ ls) after_comma = omega (arith, place_len after_comma t (begins_colon ls) (λ next. punctuate next ls) (length ls + 1) (punctuate_len ls))
punctuate_len (token t ∷ ls) after_key = omega (arith, place_len after_key t (begins_colon ls) (λ next. punctuate next ls) (length ls + 1) (punctuate_len ls))
punctuate_len (comma ∷ ls) fresh = omega arith
punctuate_len (comma ∷ ls) after_value = omega (arith, punctuate_len ls after_comma)
punctuate_len (comma ∷ ls) after_comma = omega arith
punctuate_len (comma ∷ ls) after_key = omega arith
punctuate_len (colon ∷ ls) fresh = omega arith
punctuate_len (colon ∷ ls) after_value = omega arith
punctuate_len (colon ∷ ls) after_comma = omega arith
punctuate_len (colon ∷ ls) after_key = omega (arith, punctuate_len ls fresh)

tokens_len : (text : List ℕ) → length (tokens text) ≤ length text + 1
tokens_len text = omega (arith, punctuate_len (lex between text) fresh, lex_len between text)

-- ---- values

abbrev mutual
  size : json.Json → ℕ
  size json.null = 1
  size (json.boolean b) = 1
  size (json.number s) = 1
  size (json.string s) = 1
  size (json.array js) = 1 + items_size js
  size (json.object ms) = 1 + members_size ms

  items_size : json.Items → ℕ
  items_size json.no_items = 0
  items_size (json.item j js) = size j + items_size js

  members_size : json.Members → ℕ
  members_size json.no_members = 0
  members_size (json.member k j ms) = size j + members_size ms

-- what is read and what is left are no more than n
abbrev AtMost : {A : Type 0} → (A → ℕ) → ℕ → Option (A × List Token) → Type 0
AtMost f n None = ⊤
AtMost f n (Some p) = f p.0 + length p.1 ≤ n

abbrev Eats : {A : Type 0} → (A → ℕ) → json.Parse A → Type 0
Eats f p = (ts : List Token) → AtMost f (length ts) (p ts)

mapped : {A B : Type 0} (f : A → ℕ) (g : B → ℕ) (m n c : ℕ) (h : A → B) → ((a : A) → g (h a) ≤ c + f a) → c + m ≤ n → (o : Option (A × List Token)) → AtMost f m o
    → AtMost g n (json.parse_map h o)
mapped f g m n c h k le None x = tt
mapped f g m n c h k le (Some p) x = omega (arith, k p.0)

looser : {A : Type 0} (f : A → ℕ) (m n : ℕ) → m ≤ n → (o : Option (A × List Token)) → AtMost f m o → AtMost f n o
looser f m n le None x = tt
looser f m n le (Some p) x = omega arith

and_more : {B : Type 0} (g : B → ℕ) (n : ℕ) (h : json.Json → B → B) → ((j : json.Json) (b : B) → g (h j b) ≤ size j + g b) → (more : json.Parse B) → Eats g more
    → (o : Option (json.Json × List Token)) → AtMost size n o → AtMost g n (option_and_then (λ q. json.parse_map (h q.0) (more q.1)) o)
and_more g n h is more eats None x = tt
and_more g n h is more eats (Some q) x = mapped g g (length q.1) n (size q.0) (h q.0) (is q.0) x (more q.1) (eats q.1)

abbrev Leaves : ℕ → Option (List Token) → Type 0
Leaves n None = ⊤
Leaves n (Some r) = length r ≤ n

leaves_after : (ts : List Token) → Leaves (length ts) (json.after_end_array ts)
leaves_after [] = tt
leaves_after (Token.begin_object ∷ ts) = tt
leaves_after (Token.end_object ∷ ts) = tt
leaves_after (Token.begin_array ∷ ts) = tt
leaves_after (Token.end_array ∷ ts) = omega arith
leaves_after (Token.key s ∷ ts) = tt
leaves_after (Token.string s ∷ ts) = tt
leaves_after (Token.number s ∷ ts) = tt
leaves_after (Token.boolean b ∷ ts) = tt
leaves_after (Token.null ∷ ts) = tt
leaves_after (Token.bad ∷ ts) = tt

eats_key : Eats (λ _. 0) json.read_key
eats_key [] = tt
eats_key (Token.begin_object ∷ ts) = tt
eats_key (Token.end_object ∷ ts) = omega arith
eats_key (Token.begin_array ∷ ts) = tt
eats_key (Token.end_array ∷ ts) = tt
eats_key (Token.key s ∷ ts) = omega arith
eats_key (Token.string s ∷ ts) = tt
eats_key (Token.number s ∷ ts) = tt
eats_key (Token.boolean b ∷ ts) = tt
eats_key (Token.null ∷ ts) = tt
eats_key (Token.bad ∷ ts) = tt

module _ (p : json.Parse json.Json) (eats : Eats size p) where
  item_turn : (more : json.Parse json.Items) → Eats items_size more → (ts : List Token) (o : Option (List Token)) → Leaves (length ts) o
      → AtMost items_size (length ts) (json.items_step p more ts o)
  item_turn more again ts (Some r) left = omega arith
  item_turn more again ts None left = and_more items_size (length ts) json.item (λ j b. omega arith) more again (p ts) (eats ts)

  eats_items : (n : ℕ) → Eats items_size (json.items p n)
  unfolding json.items
  eats_items zero ts = tt
  eats_items (suc n) ts = item_turn (json.items p n) (eats_items n) ts (json.after_end_array ts) (leaves_after ts)

  member_turn : (more : json.Parse json.Members) → Eats members_size more → (n : ℕ) (o : Option (Option (List ℕ) × List Token)) → AtMost (λ _. 0) n o
      → AtMost members_size n (option_and_then (λ q. json.members_step p more q.0 q.1) o)
  member_turn more again n None x = tt
  member_turn more again n (Some (None, s)) x = omega arith
  member_turn more again n (Some (Some k, s)) x =
      looser members_size (length s) n (omega arith) _ (and_more members_size (length s) (json.member k) (λ j b. omega arith) more again (p s) (eats s))

  eats_members : (n : ℕ) → Eats members_size (json.members p n)
  unfolding json.members
  eats_members zero ts = tt
  eats_members (suc n) ts = member_turn (json.members p n) (eats_members n) (length ts) (json.read_key ts) (eats_key ts)

one_level : (a : json.Parse json.Items) (o : json.Parse json.Members) → Eats items_size a → Eats members_size o → Eats size (json.value_with a o)
one_level a o p q [] = tt
one_level a o p q (Token.begin_object ∷ ts) = mapped members_size size (length ts) (suc (length ts)) 1 json.object (λ ms. omega arith) (omega arith) (o ts) (q ts)
one_level a o p q (Token.end_object ∷ ts) = tt
one_level a o p q (Token.begin_array ∷ ts) = mapped items_size size (length ts) (suc (length ts)) 1 json.array (λ js. omega arith) (omega arith) (a ts) (p ts)
one_level a o p q (Token.end_array ∷ ts) = tt
one_level a o p q (Token.key s ∷ ts) = tt
one_level a o p q (Token.string s ∷ ts) = omega arith
one_level a o p q (Token.number s ∷ ts) = omega arith
one_level a o p q (Token.boolean b ∷ ts) = omega arith
one_level a o p q (Token.null ∷ ts) = omega arith
one_level a o p q (Token.bad ∷ ts) = tt

eats_value : (d : ℕ) → Eats size (json.value d)
unfolding json.value
eats_value zero = one_level (λ ts. None) (λ ts. None) (λ ts. tt) (λ ts. tt)
eats_value (suc d) =
    one_level (λ ts. json.items (json.value d) (length ts) ts) (λ ts. json.members (json.value d) (length ts) ts)
    (λ ts. eats_items (json.value d) (eats_value d) (length ts) ts) (λ ts. eats_members (json.value d) (eats_value d) (length ts) ts)

-- ---- data

abbrev mutual
  pub data_size : Data → ℕ
  data_size Data.null = 1
  data_size (Data.boolean b) = 1
  data_size (number n) = 1
  data_size (Data.string s) = 1
  data_size (array ds) = 1 + data_items ds
  data_size (object ms) = 1 + data_members ms

  pub data_items : Items → ℕ
  data_items no_items = 0
  data_items (item d ds) = data_size d + data_items ds

  pub data_members : Members → ℕ
  data_members no_members = 0
  data_members (member k d ms) = data_size d + data_members ms

abbrev pub Most : {A : Type 0} → (A → ℕ) → ℕ → Option A → Type 0
Most f n None = ⊤
Most f n (Some a) = f a ≤ n

most_map : {A B : Type 0} (f : A → ℕ) (g : B → ℕ) (m n : ℕ) (h : A → B) → ((a : A) → f a ≤ m → g (h a) ≤ n) → (o : Option A) → Most f m o → Most g n (option_map h o)
most_map f g m n h k None x = tt
most_map f g m n h k (Some a) x = k a x

most_and_then : {A B : Type 0} (f : A → ℕ) (g : B → ℕ) (m n : ℕ) (h : A → Option B) → ((a : A) → f a ≤ m → Most g n (h a)) → (o : Option A) → Most f m o
    → Most g n (option_and_then h o)
most_and_then f g m n h k None x = tt
most_and_then f g m n h k (Some a) x = k a x

flat : {A : Type 0} (o : Option A) → Most (λ _. 0) 0 o
flat None = tt
flat (Some a) = omega arith

members_at : (o : Ordering) (a b c : Members) (n : ℕ) → data_members a ≤ n → data_members b ≤ n → data_members c ≤ n → data_members (match_ordering o a b c) ≤ n
members_at Less a b c n p q r = p
members_at Equal a b c n p q r = q
members_at Greater a b c n p q r = r

put_size : (k : List ℕ) (d : Data) (ms : Members) (n : ℕ) → data_size d + data_members ms ≤ n → data_members (put k d ms) ≤ n
put_size k d no_members n p = omega arith
put_size k d (member l e ms) n p =
    members_at _ (member k d (member l e ms)) (member l d ms) (member l e (put k d ms)) n (omega arith) (omega arith)
    (omega (arith, put_size k d ms (data_size d + data_members ms) (omega arith)))

mutual
  of_json_size : (j : json.Json) → Most data_size (size j) (of_json j)
  of_json_size json.null = omega arith
  of_json_size (json.boolean b) = omega arith
  of_json_size (json.number s) = most_map (λ _. 0) data_size 0 1 number (λ a x. omega arith) (number_of s) (flat _)
  of_json_size (json.string s) = omega arith
  of_json_size (json.array js) = most_map data_items data_size (items_size js) (1 + items_size js) array (λ a x. omega arith) (of_items js) (of_items_size js)
  of_json_size (json.object ms) =
      most_map data_members data_size (members_size ms) (1 + members_size ms) object (λ a x. omega arith) (of_members ms no_members) (of_members_size ms no_members _ (omega arith))

  of_items_size : (js : json.Items) → Most data_items (items_size js) (of_items js)
  of_items_size json.no_items = omega arith
  of_items_size (json.item j js) =
      most_and_then data_size data_items (size j) (size j + items_size js) _
      (λ d x. most_map data_items data_items (items_size js) (size j + items_size js) (item d) (λ ds y. omega arith) (of_items js) (of_items_size js)) (of_json j) (of_json_size j)

  of_members_size : (ms : json.Members) (found : Members) (n : ℕ) → members_size ms + data_members found ≤ n → Most data_members n (of_members ms found)
  of_members_size json.no_members found n h = omega arith
  of_members_size (json.member name j ms) found n h =
      most_and_then data_size data_members (size j) n _
      (λ d x. of_members_size ms (put name d found) n (omega (arith, put_size name d found (data_size d + data_members found) (omega arith)))) (of_json j) (of_json_size j)

last_size : (o : Option (json.Json × List Token)) (n : ℕ) → AtMost size n o → Most size n (option_and_then (λ p. json.if_last p.0 p.1) o)
last_size None n h = tt
last_size (Some (j, [])) n h = omega arith
last_size (Some (j, t ∷ r)) n h = tt

below : (o : Option Data) (m n : ℕ) → m ≤ n → Most data_size m o → Most data_size n o
below None m n le x = tt
below (Some d) m n le x = omega arith

read_most : (text : List ℕ) → Most data_size (length (tokens text)) (read text)
read_most text =
    most_and_then size data_size (length (tokens text)) (length (tokens text)) of_json
    (λ j x. below (of_json j) (size j) (length (tokens text)) x (of_json_size j)) _ (last_size _ (length (tokens text)) (eats_value max_depth (tokens text)))

pub read_size : (text : List ℕ) (d : Data) → read text ≡ Some d → data_size d ≤ length text + 1
read_size text d e =
    let h : data_size d ≤ length (tokens text) = subst (Most data_size (length (tokens text))) e (read_most text) in
    omega (arith, tokens_len text)
