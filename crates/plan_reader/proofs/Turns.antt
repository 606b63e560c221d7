-- Reading one after another, as far as a loop has come.
use Rattle.std.proofs.Common.{◌≡◌, ℕ, suc, ◌+◌, ◌<◌, ◌≤◌, List, [], ◌∷◌, ◌++◌, length, drop, map, get_or, Ok, Err, refl, ap, ◌∙◌, drop-cons, add-one}
use Rattle.std.proofs.lemmas.List.{drop_all}
use Rattle.serde_json.specs.View.{view, items_view}
use Rattle.serde_json.specs.declared.value.Value.{Value}
use Rattle.plan_reader.specs.declared.refusal.PlanReadRefusal.{PlanReadRefusal}
use Rattle.plan_reader.specs.declared.refusal.PlanReadRefusal.TheVariants as read
use Rattle.plan_reader.specs.declared.refusal.PlanRefusal.{PlanRefusal}
use Rattle.plan_reader.specs.Forms.{one_by_one, items_list}
use Rattle.plan_reader.specs.Refusals.{IsFirst, Meaning}

pub items_list_of_view : (vs : List Value) → items_list (items_view vs) ≡ map view vs
items_list_of_view [] = refl
items_list_of_view (v ∷ vs) = ap (λ ds. view v ∷ ds) (items_list_of_view vs)

-- So many items, each seen by `f`, are read, and what they are read as.
pub record IsReadTo {X A B : Type 0} (f : X → A) (meaning : List B → A → Meaning B) (items : List X) (count : ℕ) (done : List B) : Type 0 where
  pub rest : one_by_one meaning [] (map f items) ≡ one_by_one meaning done (map f (drop count items))

turn : {X A B : Type 0} (f : X → A) (meaning : List B → A → Meaning B) (items rest : List X) (done : List B) (x : X) (y : B)
    → items ≡ x ∷ rest → meaning done (f x) ≡ Ok y → one_by_one meaning done (map f items) ≡ one_by_one meaning (done ++ y ∷ []) (map f rest)
turn f meaning items rest done x y e m = rw (e, m) refl

refused : {X A B : Type 0} (f : X → A) (meaning : List B → A → Meaning B) (items rest : List X) (done : List B) (x : X) (r : PlanRefusal)
    → items ≡ x ∷ rest → meaning done (f x) ≡ Err r → one_by_one meaning done (map f items) ≡ Err r
refused f meaning items rest done x r e m = rw (e, m) refl

pub begun : {X A B : Type 0} (f : X → A) (meaning : List B → A → Meaning B) (items : List X) → IsReadTo f meaning items 0 []
begun f meaning items = record { rest = refl }

-- the next item is read
pub one_more_at : {X A B : Type 0} (f : X → A) (meaning : List B → A → Meaning B) (items : List X) (count : ℕ) (done : List B) (d : X) (y : B)
    → count < length items → meaning done (f (get_or items count d)) ≡ Ok y → IsReadTo f meaning items count done
    → IsReadTo f meaning items (count + 1) (done ++ y ∷ [])
one_more_at f meaning items count done d y h m read =
    record { rest = read.rest ∙ (rw add-one (turn f meaning (drop count items) (drop (suc count) items) done (get_or items count d) y (drop-cons items count d h) m)) }

pub one_more : {X A B : Type 0} (f : X → A) (meaning : List B → A → Meaning B) (items : List X) (count : ℕ) (done : List B) (x : X) (y : B)
    → count < length items → get_or items count x ≡ x → meaning done (f x) ≡ Ok y → IsReadTo f meaning items count done
    → IsReadTo f meaning items (count + 1) (done ++ y ∷ [])
one_more f meaning items count done x y h at m read = one_more_at f meaning items count done x y h (rw at m) read

-- the next item is refused
pub one_refused_at : {X A B : Type 0} (f : X → A) (meaning : List B → A → Meaning B) (items : List X) (count : ℕ) (done : List B) (d : X) (r : PlanRefusal)
    → count < length items → meaning done (f (get_or items count d)) ≡ Err r → IsReadTo f meaning items count done
    → one_by_one meaning [] (map f items) ≡ Err r
one_refused_at f meaning items count done d r h m read =
    read.rest ∙ refused f meaning (drop count items) (drop (suc count) items) done (get_or items count d) r (drop-cons items count d h) m

pub one_refused : {X A B : Type 0} (f : X → A) (meaning : List B → A → Meaning B) (items : List X) (count : ℕ) (done : List B) (x : X) (r : PlanRefusal)
    → count < length items → get_or items count x ≡ x → meaning done (f x) ≡ Err r → IsReadTo f meaning items count done
    → one_by_one meaning [] (map f items) ≡ Err r
one_refused f meaning items count done x r h at m read = one_refused_at f meaning items count done x r h (rw at m) read

pub one_failed_at : {X A B : Type 0} (f : X → A) (meaning : List B → A → Meaning B) (items : List X) (count : ℕ) (done : List B) (d : X) (e : PlanReadRefusal)
    → count < length items → IsFirst (meaning done (f (get_or items count d))) e → IsReadTo f meaning items count done
    → IsFirst (one_by_one meaning [] (map f items)) e
one_failed_at f meaning items count done d (read.Bad r) h m so_far = one_refused_at f meaning items count done d r h m so_far
one_failed_at f meaning items count done d read.NoMemory h m so_far = tt

pub one_failed : {X A B : Type 0} (f : X → A) (meaning : List B → A → Meaning B) (items : List X) (count : ℕ) (done : List B) (x : X) (e : PlanReadRefusal)
    → count < length items → get_or items count x ≡ x → IsFirst (meaning done (f x)) e → IsReadTo f meaning items count done
    → IsFirst (one_by_one meaning [] (map f items)) e
one_failed f meaning items count done x e h at m read = one_failed_at f meaning items count done x e h (rw at m) read

-- all items are read
pub all_read : {X A B : Type 0} (f : X → A) (meaning : List B → A → Meaning B) (items : List X) (count : ℕ) (done : List B)
    → length items ≤ count → IsReadTo f meaning items count done → one_by_one meaning [] (map f items) ≡ Ok done
all_read f meaning items count done h read = read.rest ∙ ap (λ xs. one_by_one meaning done (map f xs)) (drop_all count items h)

pub ruleset turns = (begun, one_more, one_refused, one_failed, all_read, items_list_of_view)

-- the same at items that hold a reference
pub ruleset turns_at = (begun, one_more_at, one_refused_at, one_failed_at, all_read)
