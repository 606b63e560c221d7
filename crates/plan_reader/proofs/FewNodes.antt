-- A document within its length has few nodes.
use Rattle.std.proofs.Common.{◌≡◌, ℕ, ◌+◌, ◌≤◌, List, length, Bool, true, false, cond, Option, Some, None, Ok, Err, IfOk, ok_or, Ordering, Less, Equal, Greater, arith}
use Rattle.std.specs.Ordering.{match_ordering}
use Rattle.serde_json.specs.Data.{Data, null, boolean, number, string, array, object, Items, no_items, item, Members, no_members, member}
use Rattle.serde_json.specs.Find.{as_array, get, get_member}
use Rattle.serde_json.specs.Read.{read}
use Rattle.plan_reader.specs.declared.refusal.PlanRefusal.{PlanRefusal}
use Rattle.plan_reader.specs.Documents.{HasFewNodes, longest_document}
use Rattle.plan_reader.specs.Forms.{◌>>=◌, has_only, items_list, value_of}
use Rattle.plan_reader.specs.Keys.{document_keys}
use Rattle.plan_reader.specs.Places.{key_word}
use Rattle.plan_reader.specs.Refusals.{Meaning}
use Rattle.plan_reader.specs.declared.refusal.PlanKey.TheVariants as key
use Rattle.plan_reader.proofs.Sizes.{Most, data_size, data_items, data_members, read_size}

some_size : (d : Data) → 1 ≤ data_size d
some_size null = omega arith
some_size (boolean b) = omega arith
some_size (number n) = omega arith
some_size (string s) = omega arith
some_size (array ds) = omega arith
some_size (object ms) = omega arith

items_list_len : (ds : Items) → length (items_list ds) ≤ data_items ds
items_list_len no_items = omega arith
items_list_len (item d ds) = omega (arith, some_size d, items_list_len ds)

member_at : (o : Ordering) (n m : ℕ) (d : Data) (found : Option Data) → m ≤ n → data_size d ≤ n → Most data_size m found → Most data_size n (match_ordering o found (Some d) found)
member_at Equal n m d found le h more = h
member_at Less n m d None le h more = tt
member_at Less n m d (Some e) le h more = omega arith
member_at Greater n m d None le h more = tt
member_at Greater n m d (Some e) le h more = omega arith

member_size : (k : List ℕ) (ms : Members) → Most data_size (data_members ms) (get_member k ms)
member_size k no_members = tt
member_size k (member l d ms) = member_at _ (data_size d + data_members ms) (data_members ms) d (get_member k ms) (omega arith) (omega arith) (member_size k ms)

looser : (o : Option Data) (m n : ℕ) → m ≤ n → Most data_size m o → Most data_size n o
looser None m n le x = tt
looser (Some d) m n le x = omega arith

get_size : (k : List ℕ) (d : Data) → Most data_size (data_size d) (get k d)
get_size k null = tt
get_size k (boolean b) = tt
get_size k (number n) = tt
get_size k (string s) = tt
get_size k (array ds) = tt
get_size k (object ms) = looser (get_member k ms) (data_members ms) (1 + data_members ms) (omega arith) (member_size k ms)

abbrev listed : Bool → List Data → PlanRefusal → Meaning (List Data)
listed b nodes r = cond b (Ok nodes) (Err r)

few_listed : (b : Bool) (nodes : List Data) (r : PlanRefusal) → length nodes ≤ longest_document → IfOk (listed b nodes r) (λ nodes. length nodes ≤ longest_document)
few_listed true nodes r h = h
few_listed false nodes r h = tt

few_items : (value : Data) (b : Bool) (r s : PlanRefusal) → data_size value ≤ longest_document + 1
    → IfOk (ok_or (as_array value) r >>= λ nodes. listed b (items_list nodes) s) (λ nodes. length nodes ≤ longest_document)
few_items null b r s h = tt
few_items (boolean c) b r s h = tt
few_items (number n) b r s h = tt
few_items (string t) b r s h = tt
few_items (array ds) b r s h = few_listed b (items_list ds) s (omega (arith, items_list_len ds))
few_items (object ms) b r s h = tt

few_in : (o : Option Data) (n : ℕ) (b : Bool) (q r s : PlanRefusal) → n ≤ longest_document + 1 → Most data_size n o
    → IfOk (ok_or o q >>= λ value. ok_or (as_array value) r >>= λ nodes. listed b (items_list nodes) s) (λ nodes. length nodes ≤ longest_document)
few_in None n b q r s le h = tt
few_in (Some value) n b q r s le h = few_items value b r s (omega arith)

pub few_nodes : (bytes : List ℕ) (d : Data) → length bytes ≤ longest_document → read bytes ≡ Some d → HasFewNodes d
few_nodes bytes d le e = few_in (value_of key.Nodes d) (data_size d) (has_only document_keys d) _ _ _ (omega (arith, read_size bytes d e)) (get_size (key_word key.Nodes) d)
