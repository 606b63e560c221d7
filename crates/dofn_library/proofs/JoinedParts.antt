-- The values that parts of a side input have, one part more, and what a join gives of them.
use Rattle.std.proofs.Common.{◌≡◌, ℕ, zero, suc, ◌+◌, ◌<◌, Bool, true, false, ◌&&◌, ◌||◌, pos, ℤ, List, [], ◌∷◌, ◌++◌, length, map, take, drop, get_or, Option, Some, None, Result, Ok, Err, Bor, refl, ap, subst, ◌∙◌, sym, append_assoc, append-nil, arith, add-one, true≢false}
use Rattle.std.specs.Prelude.{if◌then◌else◌, nat_lt, unwrap_or, OnOk}
use Rattle.std.specs.List.{flat_map, list_all, list_any}
use Rattle.std.specs.Result.{IsErr, IsErrAnd}
use Rattle.std.specs.Option.{is_some, ok_or, option_and_then, option_copied, option_map}
use Rattle.std.proofs.lemmas.Bool.Decides.{nat_tests}
use Rattle.std.proofs.lemmas.Grind.{flat_map-append}
use Rattle.std.proofs.lemmas.List.{map-append}
use Rattle.std.proofs.lemmas.Simd.{map-map}
use Rattle.beam_values.specs.declared.element.Element.{Element}
use Rattle.beam_values.specs.declared.plan.FnKind.{FnKind}
use Rattle.beam_values.specs.declared.plan.FnKind.TheVariants.{JoinList, JoinSingle, JoinLookup}
use Rattle.beam_values.specs.declared.value.Value.{Value}
use Rattle.beam_values.specs.declared.value.Value.TheVariants.{Pair, rolls-Pair}
use Rattle.beam_model.specs.Functions.{all_there, ascending, found_in, is_pair, is_side_part, joined_value, joined_values, joins, main_values, one, only_one, side_parts, takes_views, value_tagged, valued, view_values}
use Rattle.beam_model.specs.Values.{KeyedValue, as_pair, pair, seq}
use Rattle.dofn_traits.specs.declared.calls.CallRefusal.{CallRefusal}
use Rattle.dofn_traits.specs.declared.calls.CallRefusal.TheVariants.{Failed, NoMemory}
use Rattle.dofn_library.specs.Answers.{Gives}
use Rattle.dofn_library.proofs.Lookups.{found_in_order}
use Rattle.dofn_library.proofs.Runs.{ascending_pairs}
use Rattle.dofn_library.specs.Sides.{at_most_one, looked_up, IsAllFound, sides_of, where_tagged}

-- one item more
flat_suc : {X A : Type 0} (f : X → List A) (xs : List X) (i : ℕ) (d : X) → i < length xs → flat_map f (take (suc i) xs) ≡ flat_map f (take i xs) ++ f (get_or xs i d)
flat_suc f [] i d within = absurd (omega arith)
flat_suc f (x ∷ xs) zero d within = append-nil (f x)
flat_suc f (x ∷ xs) (suc i) d within = ap (λ later. f x ++ later) (flat_suc f xs i d (omega arith)) ∙ sym (append_assoc (f x) (flat_map f (take i xs)) (f (get_or xs i d)))

pub flat_more : {X A : Type 0} (f : X → List A) (xs : List X) (i : ℕ) (d : X) → i < length xs → flat_map f (take (i + 1) xs) ≡ flat_map f (take i xs) ++ f (get_or xs i d)
flat_more f xs i d within = rw add-one (flat_suc f xs i d within)

-- all items, by way of one of them
pub flat_parted : {X A : Type 0} (f : X → List A) (xs : List X) (i : ℕ) (d : X) → i < length xs
    → flat_map f xs ≡ flat_map f (take i xs) ++ (f (get_or xs i d) ++ flat_map f (drop (suc i) xs))
flat_parted f [] i d within = absurd (omega arith)
flat_parted f (x ∷ xs) zero d within = refl
flat_parted f (x ∷ xs) (suc i) d within = ap (λ later. f x ++ later) (flat_parted f xs i d (omega arith)) ∙ sym (append_assoc (f x) (flat_map f (take i xs)) (f (get_or xs i d) ++ flat_map f (drop (suc i) xs)))

all_of_each : {X A : Type 0} (p : A → Bool) (f : X → List A) (xs : List X) → list_all p (flat_map f xs) ≡ list_all (λ x. list_all p (f x)) xs
all_of_each p f [] = refl
all_of_each {A = A} p f (x ∷ xs) = all_joined (f x) ∙ ap (λ later. list_all p (f x) && later) (all_of_each p f xs)
  where
    all_joined : (items : List A) → list_all p (items ++ flat_map f xs) ≡ (list_all p items && list_all p (flat_map f xs))
    all_joined [] = refl
    all_joined (item ∷ items) = by_test (p item) (all_joined items)
      where
        by_test : (first : Bool) → list_all p (items ++ flat_map f xs) ≡ (list_all p items && list_all p (flat_map f xs))
            → (first && list_all p (items ++ flat_map f xs)) ≡ ((first && list_all p items) && list_all p (flat_map f xs))
        by_test true rest = rest
        by_test false rest = refl

has_one : {A : Type 0} (items : List A) → nat_lt 0 (suc (length items)) ≡ true
has_one items = grind (arith, nat_tests)

some_of_any : {X A : Type 0} (f : X → List A) (xs : List X) → nat_lt 0 (length (flat_map f xs)) ≡ list_any (λ x. nat_lt 0 (length (f x))) xs
some_of_any f [] = refl
some_of_any {A = A} f (x ∷ xs) = by_first (f x) (some_of_any f xs)
  where
    by_first : (items : List A) → nat_lt 0 (length (flat_map f xs)) ≡ list_any (λ x. nat_lt 0 (length (f x))) xs
        → nat_lt 0 (length (items ++ flat_map f xs)) ≡ (nat_lt 0 (length items) || list_any (λ x. nat_lt 0 (length (f x))) xs)
    by_first [] rest = rest
    by_first (item ∷ items) rest = has_one (items ++ flat_map f xs) ∙ ap (λ first. first || list_any (λ x. nat_lt 0 (length (f x))) xs) (sym (has_one items))

-- a value of the view after another
pub another_view : (parts : List Value) (i : ℕ) (d w : Value) (only : Option (Bor Value)) → i < length parts → at_most_one (option_copied only) ≡ view_values (take i parts)
    → true ≡ is_some only → w ∷ [] ≡ value_tagged (pos 0) (get_or parts i d) → None ≡ only_one (view_values parts)
another_view parts i d w (Some v) within first some second =
    let later : List Value = flat_map (value_tagged (pos 0)) (drop (suc i) parts) in
    sym (ap only_one (flat_parted (value_tagged (pos 0)) parts i d within ∙ ap (λ views. views ++ (value_tagged (pos 0) (get_or parts i d) ++ later)) (sym first)
    ∙ ap (λ views. v.now ∷ (views ++ later)) (sym second)))
another_view parts i d w None within first some second = absurd (true≢false some)

-- ---- what a join gives of parts that are all tagged

-- the values joined, where the join takes the view
abbrev pub given : FnKind → List Value → Option (List Value)
given work parts = if takes_views work (view_values parts) then all_there (map (joined_value work (view_values parts)) (main_values parts)) else None

tagged_given : (work : FnKind) (parts : List Value) → list_all is_side_part parts ≡ true → joined_values work parts ≡ given work parts
tagged_given work parts all = ap (λ tagged. if tagged && takes_views work (view_values parts) then all_there (map (joined_value work (view_values parts)) (main_values parts)) else None) all

untagged : (work : FnKind) (parts : List Value) → list_all is_side_part parts ≡ false → joined_values work parts ≡ None
untagged work parts none = ap (λ tagged. if tagged && takes_views work (view_values parts) then all_there (map (joined_value work (view_values parts)) (main_values parts)) else None) none

of_parts : (work : FnKind) (found : Option (List Value)) → option_and_then (joined_values work) found ≡ option_and_then (given work) (option_and_then where_tagged found)
of_parts work None = refl
of_parts work (Some parts) = by_test (list_all is_side_part parts) refl
  where
    by_test : (all : Bool) → list_all is_side_part parts ≡ all → joined_values work parts ≡ option_and_then (given work) (where_tagged parts)
    by_test true e = tagged_given work parts e ∙ ap (λ tagged. option_and_then (given work) (if tagged then Some parts else None)) (sym e)
    by_test false e = untagged work parts e ∙ ap (λ tagged. option_and_then (given work) (if tagged then Some parts else None)) (sym e)

-- a join gives of a pane what it gives of its parts
pub of_sides : (work : FnKind) (e : Element) → joins work e ≡ option_map (map (valued e)) (option_and_then (given work) (sides_of e.value))
of_sides work e = by_pair (as_pair e.value)
  where
    by_pair : (pane : Option KeyedValue) → option_and_then (λ keyed. option_map (map (valued e)) (option_and_then (joined_values work) (side_parts keyed))) pane
        ≡ option_map (map (valued e)) (option_and_then (given work) (option_and_then where_tagged (option_and_then side_parts pane)))
    by_pair None = refl
    by_pair (Some keyed) = ap (option_map (map (valued e))) (of_parts work (side_parts keyed))

pub no_sides : (work : FnKind) (e : Element) → None ≡ sides_of e.value → joins work e ≡ None
no_sides work e none = of_sides work e ∙ ap (λ found. option_map (map (valued e)) (option_and_then (given work) found)) (sym none)

by_parts : (work : FnKind) (e : Element) (parts : List Value) (values : Option (List Value)) → Some parts ≡ sides_of e.value → given work parts ≡ values
    → joins work e ≡ option_map (map (valued e)) values
by_parts work e parts values found gives =
    of_sides work e ∙ ap (λ found. option_map (map (valued e)) (option_and_then (given work) found)) (sym found) ∙ ap (option_map (map (valued e))) gives

each_there : (f : Value → Option Value) (g : Value → Value) → ((v : Value) → f v ≡ Some (g v)) → (values : List Value) → all_there (map f values) ≡ Some (map g values)
each_there f g there [] = refl
each_there f g there (v ∷ values) =
    ap (λ first. all_there (first ∷ map f values)) (there v) ∙ ap (option_map (λ rest. g v ∷ rest)) (each_there f g there values)

with_part : Element → Value → List Value → List Element
with_part e part mains = map (λ main. valued e (pair main part)) mains

-- each main value with all values of the view
pub join_list_gives : (e : Element) (parts : List Value) → Some parts ≡ sides_of e.value
    → joins JoinList e ≡ Some (map (λ main. valued e (pair main (seq (ascending (view_values parts))))) (main_values parts))
join_list_gives e parts found =
    by_parts JoinList e parts _ found (each_there (joined_value JoinList (view_values parts)) (λ main. pair main (seq (ascending (view_values parts)))) (λ main. refl) (main_values parts))
    ∙ ap Some (map-map (valued e) (λ main. pair main (seq (ascending (view_values parts)))) (main_values parts))

-- with the only value of the view, if there is one
pub join_single_gives : (e : Element) (parts : List Value) (view : Value) → Some parts ≡ sides_of e.value → Some view ≡ only_one (view_values parts)
    → joins JoinSingle e ≡ Some (map (λ main. valued e (pair main view)) (main_values parts))
join_single_gives e parts view found only =
    by_parts JoinSingle e parts _ found (each_there (joined_value JoinSingle (view_values parts)) (λ main. pair main view) (λ main. ap (option_map (pair main)) (sym only)) (main_values parts))
    ∙ ap Some (map-map (valued e) (λ main. pair main view) (main_values parts))

pub no_single : (e : Element) (parts : List Value) → Some parts ≡ sides_of e.value → None ≡ only_one (view_values parts) → true ≡ list_any (λ part. nat_lt 0 (length (value_tagged (pos 1) part))) parts
    → joins JoinSingle e ≡ None
no_single e parts found none some = by_parts JoinSingle e parts None found (lacking (main_values parts) (some ∙ sym (some_of_any (value_tagged (pos 1)) parts)))
  where
    lacking : (mains : List Value) → true ≡ nat_lt 0 (length mains) → all_there (map (joined_value JoinSingle (view_values parts)) mains) ≡ None
    lacking [] some = absurd (true≢false some)
    lacking (main ∷ mains) some = ap (λ only. all_there (option_map (pair main) only ∷ map (joined_value JoinSingle (view_values parts)) mains)) (sym none)

pub nothing_to_join : (e : Element) (parts : List Value) → Some parts ≡ sides_of e.value → false ≡ list_any (λ part. nat_lt 0 (length (value_tagged (pos 1) part))) parts
    → joins JoinSingle e ≡ Some []
nothing_to_join e parts found none =
    by_parts JoinSingle e parts (Some []) found
    (ap (λ mains. all_there (map (joined_value JoinSingle (view_values parts)) mains)) (empty (main_values parts) (none ∙ sym (some_of_any (value_tagged (pos 1)) parts))))
  where
    empty : (mains : List Value) → false ≡ nat_lt 0 (length mains) → mains ≡ []
    empty [] none = refl
    empty (main ∷ mains) none = absurd (true≢false (sym (none ∙ has_one mains)))

-- ---- with what belongs to its key

-- a main value joined, where this is known of the view, and seen of it
abbrev joined_as : List Value → Value → Bool → Option KeyedValue → Option Value
joined_as views main all seen = option_map (pair main) (if all then option_map (λ keyed. seq (ascending (flat_map (found_in keyed.key) views))) seen else None)

abbrev seen_as : List Value → Value → Option KeyedValue → Option Value
seen_as views main seen = option_map (λ keyed. pair main (seq (ascending (flat_map (found_in keyed.key) views)))) seen

abbrev is_seen : Option KeyedValue → Bool
is_seen seen = unwrap_or (option_map (λ keyed. true) seen) false

all_keyed : (views mains : List Value) → true ≡ list_all is_pair views → true ≡ list_all is_pair mains
    → all_there (map (joined_value JoinLookup views) mains) ≡ Some (flat_map (looked_up views) mains)
all_keyed views [] takes all = refl
all_keyed views (main ∷ mains) takes all =
    ap (λ known. all_there (joined_as views main known (as_pair main) ∷ map (joined_value JoinLookup views) mains)) (sym takes) ∙ by_key (as_pair main) all (all_keyed views mains takes)
  where
    by_key : (seen : Option KeyedValue) → true ≡ (is_seen seen && list_all is_pair mains)
        → (true ≡ list_all is_pair mains → all_there (map (joined_value JoinLookup views) mains) ≡ Some (flat_map (looked_up views) mains))
        → all_there (joined_as views main true seen ∷ map (joined_value JoinLookup views) mains) ≡ Some (at_most_one (seen_as views main seen) ++ flat_map (looked_up views) mains)
    by_key None all rest = absurd (true≢false all)
    by_key (Some keyed) all rest = ap (option_map (λ later. pair main (seq (ascending (flat_map (found_in keyed.key) views))) ∷ later)) (rest all)

one_unkeyed : (views mains : List Value) → false ≡ list_all is_pair mains → all_there (map (joined_value JoinLookup views) mains) ≡ None
one_unkeyed views [] one = absurd (true≢false (sym one))
one_unkeyed views (main ∷ mains) one = by_key (list_all is_pair views) (as_pair main) one (one_unkeyed views mains)
  where
    by_key : (all : Bool) (seen : Option KeyedValue) → false ≡ (is_seen seen && list_all is_pair mains)
        → (false ≡ list_all is_pair mains → all_there (map (joined_value JoinLookup views) mains) ≡ None)
        → all_there (joined_as views main all seen ∷ map (joined_value JoinLookup views) mains) ≡ None
    by_key false seen one rest = refl
    by_key true None one rest = refl
    by_key true (Some keyed) one rest = ap (option_map (λ later. pair main (seq (ascending (flat_map (found_in keyed.key) views))) ∷ later)) (rest one)

abbrev are_pairs : ℤ → List Value → Bool
are_pairs tag parts = list_all (λ part. list_all is_pair (value_tagged tag part)) parts

of_each : (tag : ℤ) (parts : List Value) (all : Bool) → all ≡ are_pairs tag parts → all ≡ list_all is_pair (flat_map (value_tagged tag) parts)
of_each tag parts all is = is ∙ sym (all_of_each is_pair (value_tagged tag) parts)

-- the view of parts whose values of the view are pairs
pub sorted_pairs : (parts : List Value) → are_pairs (pos 0) parts ≡ true → list_all is_pair (ascending (view_values parts)) ≡ true
sorted_pairs parts pairs = ascending_pairs (view_values parts) ∙ sym (of_each (pos 0) parts true (sym pairs))

-- what is given where it is known whether all values of the view are pairs
abbrev taken_by : List Value → Bool → Option (List Value)
taken_by parts takes = if takes then all_there (map (joined_value JoinLookup (view_values parts)) (main_values parts)) else None

pub join_lookup_gives : (e : Element) (parts : List Value) → Some parts ≡ sides_of e.value → true ≡ are_pairs (pos 0) parts → true ≡ are_pairs (pos 1) parts
    → joins JoinLookup e ≡ Some (map (valued e) (flat_map (looked_up (view_values parts)) (main_values parts)))
join_lookup_gives e parts found views mains =
    by_parts JoinLookup e parts _ found (ap (taken_by parts) (sym (of_each (pos 0) parts true views))
    ∙ all_keyed (view_values parts) (main_values parts) (of_each (pos 0) parts true views) (of_each (pos 1) parts true mains))

pub no_lookup_of_views : (e : Element) (parts : List Value) → Some parts ≡ sides_of e.value → false ≡ are_pairs (pos 0) parts → joins JoinLookup e ≡ None
no_lookup_of_views e parts found one = by_parts JoinLookup e parts None found (ap (taken_by parts) (sym (of_each (pos 0) parts false one)))

pub no_lookup_of_mains : (e : Element) (parts : List Value) → Some parts ≡ sides_of e.value → false ≡ are_pairs (pos 1) parts → joins JoinLookup e ≡ None
no_lookup_of_mains e parts found one = by_parts JoinLookup e parts None found (by_test (list_all is_pair (view_values parts)))
  where
    by_test : (takes : Bool) → taken_by parts takes ≡ None
    by_test true = one_unkeyed (view_values parts) (main_values parts) (of_each (pos 1) parts false one)
    by_test false = refl

-- ---- one part more

-- a main value that has a key, with what was found for it; and one that has none
pub found_joined : (e : Element) (all : List Value) (main seen : Value) (keyed : KeyedValue) (views : List Value) (part own shared : Value) (old new : List Element)
    → Some keyed ≡ as_pair seen → seen ≡ main → IsAllFound views keyed.key part → views ≡ ascending all → own ≡ main → shared ≡ part → new ≡ old ++ one e (Pair own shared)
    → new ≡ old ++ map (valued e) (looked_up all main)
found_joined e all main seen keyed views part own shared old new is same finds sorted is_main is_part adds =
    adds
    ∙ ap (λ pair. old ++ one e pair) (sym (rolls-Pair own shared))
    ∙ ap (λ main. old ++ one e (pair main shared)) is_main
    ∙ ap (λ found. old ++ one e (pair main found)) (is_part ∙ finds)
    ∙ ap (λ parts. old ++ one e (pair main (seq parts))) (ap (flat_map (found_in keyed.key)) sorted ∙ found_in_order keyed.key all)
    ∙ ap (λ pair. old ++ map (valued e) (at_most_one (seen_as all main pair))) (is ∙ ap as_pair same)

pub unkeyed_joined : (e : Element) (all : List Value) (main seen : Value) (old : List Element) → None ≡ as_pair seen → seen ≡ main
    → old ≡ old ++ map (valued e) (looked_up all main)
unkeyed_joined e all main seen old is same =
    sym (append-nil old) ∙ ap (λ pair. old ++ map (valued e) (at_most_one (seen_as all main pair))) (is ∙ ap as_pair same)

pub joined_more : (e : Element) (parts : List Value) (i : ℕ) (d : Value) (old out new : List Element) → i < length parts
    → out ≡ old ++ map (valued e) (flat_map (looked_up (view_values parts)) (main_values (take i parts)))
    → new ≡ out ++ map (valued e) (flat_map (looked_up (view_values parts)) (value_tagged (pos 1) (get_or parts i d)))
    → new ≡ old ++ map (valued e) (flat_map (looked_up (view_values parts)) (main_values (take (i + 1) parts)))
joined_more e parts i d old out new within so_far adds =
    let views = view_values parts in
    let front = main_values (take i parts) in
    let own = value_tagged (pos 1) (get_or parts i d) in
    adds ∙ ap (λ it. it ++ map (valued e) (flat_map (looked_up views) own)) so_far
    ∙ append_assoc old (map (valued e) (flat_map (looked_up views) front)) (map (valued e) (flat_map (looked_up views) own))
    ∙ ap (λ it. old ++ it) (sym (map-append (valued e) (flat_map (looked_up views) front) (flat_map (looked_up views) own)))
    ∙ ap (λ it. old ++ map (valued e) it) (sym (flat_map-append (looked_up views) front own))
    ∙ ap (λ mains. old ++ map (valued e) (flat_map (looked_up views) mains)) (sym (flat_more (value_tagged (pos 1)) parts i d within))

-- ---- what the calls answer

-- the parts that were found, where there are any
pub parts_found : (found : Option (Bor (List Value))) (parts : Bor (List Value)) (sides : Option (List Value)) → Ok parts ≡ ok_or found Failed → option_copied found ≡ sides
    → Some parts.now ≡ sides
parts_found (Some own) parts sides is has = let same : own ≡ parts = cc in ap (λ (it : Bor (List Value)). Some it.now) (sym same) ∙ has
parts_found None parts sides is has = absurd cc

pub gives_all : (given : Option (List Element)) (outputs old new : List Element) → given ≡ Some outputs → new ≡ old ++ outputs → Gives given old new (Ok (tt {0}))
gives_all given outputs old new is adds = subst (λ it. Gives it old new (Ok (tt {0}))) (sym is) adds

pub lacks_memory : (given : Option (List Element)) (outputs old new : List Element) (answer : Result (Unit {0}) CallRefusal) → given ≡ Some outputs
    → IsErr answer × IsErrAnd answer (λ e. e ≡ NoMemory) → Gives given old new answer
lacks_memory given outputs old new (Ok done) is refused = absurd cc
lacks_memory given outputs old new (Err e) is refused = subst (λ it. Gives it old new (Err e)) (sym is) (subst (λ it. Gives (Some outputs) old new (Err it)) (sym refused.1) tt)

pub is_poison : (given : Option (List Element)) (old new : List Element) → given ≡ None → Gives given old new (Err Failed)
is_poison given old new is = subst (λ it. Gives it old new (Err Failed)) (sym is) tt

pub where_ok : {X E P Q : Type 0} (answer : Result X E) → (P → Q) → OnOk answer P → OnOk answer Q
where_ok (Ok x) follows is = follows is
where_ok (Err e) follows is = tt
