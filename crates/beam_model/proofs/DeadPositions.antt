-- Items without their dead positions: where ranges and dead positions together cover the items, the ranges bring what the items bring without these.
use Rattle.std.proofs.Common.{◌≡◌, ℕ, zero, suc, ◌+◌, ◌-◌, ◌*◌, ◌<◌, ◌≤◌, min, ◌==◌, Bool, true, false, ◌&&◌, ◌||◌, cond, ◌⊎◌, inl, inr, List, [], ◌∷◌, ◌++◌, map, Option, Some, None, refl, sym, ap, ap₂, subst, ◌∙◌, append-nil, zero-add, arith}
use Rattle.std.proofs.lemmas.Bool.{cases_lt, and_parts, and_from, eqb-true, eq-eqb}
use Rattle.std.proofs.lemmas.Bool.Decides.{nat_tests}
use Rattle.std.proofs.lemmas.List.Sums.{sum_by-cons, sum_by-append}
use Rattle.std.proofs.lemmas.List.Folds.{list_any-append}
use Rattle.std.proofs.lemmas.List.Concat.{flat_map-append}
use Rattle.std.proofs.lemmas.List.Elements.{All-nil, All-cons, All-head, All-tail, All-weaker}
use Rattle.std.specs.List.{All, sum_by, filter, flat_map, list_any, find}
use Rattle.std.specs.Option.{option_map}
use Rattle.beam_values.specs.Bags.{IsSameBag}
use Rattle.beam_values.specs.Cover.{Place, single, times_at, times_dead, times_done, times_listed}
use Rattle.beam_values.specs.Intervals.{Offsets, times_in}
use Rattle.beam_values.specs.Lines.{offsets, spread}
use Rattle.beam_values.specs.declared.piece.Dead.{Dead}
use Rattle.beam_values.specs.declared.piece.Done.{Done}
use Rattle.beam_values.specs.declared.piece.FileLen.{FileLen}
use Rattle.beam_values.specs.declared.plan.Plan.{Plan}
use Rattle.beam_values.proofs.Bags.{bag_sym, bag_trans, sum_by-map, sum_by-flat_map}
use Rattle.beam_values.proofs.Spreads.{spread-empty, spread-join, spread-single}
use Rattle.beam_model.specs.Chains.{Output}
use Rattle.beam_model.specs.Coverings.{is_item, item_at, spread_of, spread_done, spread_dones, AreDistinct}
use Rattle.beam_model.specs.Positions.{SourceItem, emission, item_len, len_of}
use Rattle.beam_model.specs.Spread.{emission_outputs, is_left_out, outputs_at, spread_all, spread_range}
use Rattle.beam_model.proofs.Coverings.{covering_items}
use Rattle.beam_model.specs.Dead.{dead_positions, is_dead_in, item_without, items_without}

-- ---- items without dead positions are items as before

module _ (dead : List Dead) where
  pub lengths_same : (items : List SourceItem) → map item_len (items_without dead items) ≡ map item_len items
  lengths_same [] = refl
  lengths_same (item ∷ items) = ap (λ l. item_len item ∷ l) (lengths_same items)

  pub found_without : (items : List SourceItem) (node number : ℕ) → item_at (items_without dead items) node number ≡ option_map (item_without dead) (item_at items node number)
  found_without [] node number = refl
  found_without (item ∷ items) node number = by (is_item node number item) (found_without items node number)
    where
      by : (t : Bool) → item_at (items_without dead items) node number ≡ option_map (item_without dead) (item_at items node number)
          → cond t (Some (item_without dead item)) (item_at (items_without dead items) node number) ≡ option_map (item_without dead) (cond t (Some item) (item_at items node number))
      by true h = refl
      by false h = h

  pub distinct_without : (items : List SourceItem) → AreDistinct items → AreDistinct (items_without dead items)
  distinct_without [] h = tt
  distinct_without (item ∷ items) h = (found_without items item.node item.item ∙ ap (option_map (item_without dead)) h.0, distinct_without items h.1)

-- where nothing is dead, the items are as they were
pub without_none : (items : List SourceItem) → items_without [] items ≡ items
without_none [] = refl
without_none (item ∷ items) = ap (λ l. item ∷ l) (without_none items)

-- ---- spreads

module _ {X : Type 0} (at other : ℕ → List X) where
  same_along : (from n : ℕ) → ((q : ℕ) → from ≤ q → q < from + n → at q ≡ other q) → flat_map at (offsets from n) ≡ flat_map other (offsets from n)
  unfolding offsets
  same_along from zero same = refl
  same_along from (suc n) same = ap₂ (λ s t. s ++ t) (same from (omega arith) (omega arith)) (same_along (suc from) n (λ q low high. same q (omega (arith, low)) (omega (arith, high))))

  pub spread-same : (from to : ℕ) → ((q : ℕ) → from ≤ q → q < to → at q ≡ other q) → spread at from to ≡ spread other from to
  spread-same from to same = same_along from (to - from) (λ q low high. same q low (omega (arith, high, low)))

-- ---- which positions are left out

abbrev place_of : SourceItem → ℕ → Place
place_of item p = record { node = item.node; item = item.item; offset = p }

abbrev dead_at : Place → Dead → ℕ
dead_at place d = times_at d.node d.item (single d.at) place

-- a position that isn't dead is left out where it was before
not_dead : (dead : List Dead) (item : SourceItem) (p : ℕ) → times_dead dead (place_of item p) ≡ 0 → list_any (λ q. q == p) (dead_positions dead item) ≡ false
not_dead [] item p none = refl
not_dead (d ∷ dead) item p none =
    by (is_dead_in item d) refl (sum_by-cons (dead_at (place_of item p)) d dead) (not_dead dead item p)
  where
    by : (t : Bool) → is_dead_in item d ≡ t → times_dead (d ∷ dead) (place_of item p) ≡ dead_at (place_of item p) d + times_dead dead (place_of item p)
        → (times_dead dead (place_of item p) ≡ 0 → list_any (λ q. q == p) (dead_positions dead item) ≡ false)
        → list_any (λ q. q == p) (map (λ (x : Dead). x.at) (cond t (d ∷ filter (is_dead_in item) dead) (filter (is_dead_in item) dead))) ≡ false
    by true e sum onward =
        let here : dead_at (place_of item p) d ≡ times_in (single d.at) p = ap (λ t. cond t (times_in (single d.at) p) 0) e in
        let off : (d.at == p) ≡ false = apart d.at p (omega (arith, none, sum, here)) in
        let rest = onward (omega (arith, none, sum)) in
        ap₂ (λ s t. s || t) off rest
      where
        apart : (a p : ℕ) → times_in (single a) p ≡ 0 → (a == p) ≡ false
        apart a p e = grind (arith, nat_tests)
    by false e sum onward = onward (omega (arith, none, sum))

-- a dead position of an item is left out of it
is_dead : (dead : List Dead) (d : Dead) (item : SourceItem) → item.node ≡ d.node → item.item ≡ d.item → 1 ≤ sum_by (λ (x : Dead). dead_at (place_of item d.at) x) dead
    → list_any (λ q. q == d.at) (dead_positions dead item) ≡ true
is_dead [] d item node number some = absurd (omega (arith, some))
is_dead (x ∷ dead) d item node number some =
    by (is_dead_in item x) refl (sum_by-cons (dead_at (place_of item d.at)) x dead) (is_dead dead d item node number)
  where
    by : (t : Bool) → is_dead_in item x ≡ t → times_dead (x ∷ dead) (place_of item d.at) ≡ dead_at (place_of item d.at) x + times_dead dead (place_of item d.at)
        → (1 ≤ times_dead dead (place_of item d.at) → list_any (λ q. q == d.at) (dead_positions dead item) ≡ true)
        → list_any (λ q. q == d.at) (map (λ (y : Dead). y.at) (cond t (x ∷ filter (is_dead_in item) dead) (filter (is_dead_in item) dead))) ≡ true
    by true e sum onward = in_case (x.at == d.at) refl
      where
        in_case : (same : Bool) → (x.at == d.at) ≡ same → ((x.at == d.at) || list_any (λ q. q == d.at) (dead_positions dead item)) ≡ true
        in_case true is = ap (λ t. t || list_any (λ q. q == d.at) (dead_positions dead item)) is
        in_case false is =
            let here : dead_at (place_of item d.at) x ≡ times_in (single x.at) d.at = ap (λ t. cond t (times_in (single x.at) d.at) 0) e in
            let none : times_in (single x.at) d.at ≡ 0 = apart x.at d.at is in
            ap (λ t. t || list_any (λ q. q == d.at) (dead_positions dead item)) is ∙ onward (omega (arith, some, sum, here, none))
          where
            apart : (a p : ℕ) → (a == p) ≡ false → times_in (single a) p ≡ 0
            apart a p e = grind (arith, nat_tests)
    by false e sum onward =
        let here : dead_at (place_of item d.at) x ≡ 0 = ap {B = ℕ} (λ t. cond t (times_in (single x.at) d.at) 0) e in
        onward (omega (arith, some, sum, here))

-- ---- members of lists

place_of_dead : Dead → Place
place_of_dead d = record { node = d.node; item = d.item; offset = d.at }

-- each dead position is one of those that are dead
own_dead : (dead : List Dead) → All (λ (d : Dead). 1 ≤ times_dead dead (record { node = d.node; item = d.item; offset = d.at })) dead
own_dead [] = All-nil (λ (d : Dead). 1 ≤ times_dead [] (record { node = d.node; item = d.item; offset = d.at }))
own_dead (x ∷ dead) =
    All-cons (λ (d : Dead). 1 ≤ times_dead (x ∷ dead) (record { node = d.node; item = d.item; offset = d.at })) x dead
    (omega (arith, sum_by-cons (dead_at (record { node = x.node; item = x.item; offset = x.at })) x dead, here))
    (All-weaker (λ (d : Dead). 1 ≤ times_dead dead (record { node = d.node; item = d.item; offset = d.at }))
    (λ (d : Dead). 1 ≤ times_dead (x ∷ dead) (record { node = d.node; item = d.item; offset = d.at }))
    (λ d h. omega (arith, h, sum_by-cons (dead_at (record { node = d.node; item = d.item; offset = d.at })) x dead)) dead (own_dead dead))
  where
    here : dead_at (record { node = x.node; item = x.item; offset = x.at }) x ≡ 1
    here = ap (λ t. cond t (times_in (single x.at) x.at) 0) (and_from _ _ (eq-eqb x.node x.node refl) (eq-eqb x.item x.item refl)) ∙ one x.at
      where
        one : (p : ℕ) → times_in (single p) p ≡ 1
        one p = grind (arith, nat_tests)

done_at : Place → Done → ℕ
done_at place d = times_at d.node d.item d.range place

-- what a done range holds is done
own_done : (done : List Done) → All (λ (r : Done). (place : Place) → times_at r.node r.item r.range place ≤ times_done done place) done
own_done [] = All-nil (λ (r : Done). (place : Place) → times_at r.node r.item r.range place ≤ times_done [] place)
own_done (x ∷ done) =
    All-cons (λ (r : Done). (place : Place) → times_at r.node r.item r.range place ≤ times_done (x ∷ done) place) x done
    (λ place. omega (arith, sum_by-cons (λ (d : Done). times_at d.node d.item d.range place) x done))
    (All-weaker (λ (r : Done). (place : Place) → times_at r.node r.item r.range place ≤ times_done done place)
    (λ (r : Done). (place : Place) → times_at r.node r.item r.range place ≤ times_done (x ∷ done) place)
    (λ r h place. omega (arith, h place, sum_by-cons (λ (d : Done). times_at d.node d.item d.range place) x done)) done (own_done done))

-- what is found has that node and that number
pub found_is : (items : List SourceItem) (node number : ℕ) (item : SourceItem) → item_at items node number ≡ Some item → (item.node ≡ node) × (item.item ≡ number)
found_is [] node number item e = absurd (cc)
found_is (x ∷ items) node number item e = by (is_item node number x) refl e (found_is items node number item)
  where
    by : (t : Bool) → is_item node number x ≡ t → cond t (Some x) (item_at items node number) ≡ Some item
        → (item_at items node number ≡ Some item → (item.node ≡ node) × (item.item ≡ number)) → (item.node ≡ node) × (item.item ≡ number)
    by true here is onward =
        let parts = and_parts (x.node == node) (x.item == number) here in
        let same : x ≡ item = cc in
        subst (λ (y : SourceItem). (y.node ≡ node) × (y.item ≡ number)) same (eqb-true x.node node parts.0, eqb-true x.item number parts.1)
    by false away is onward = onward is

-- a dead position as the range that it is by itself
abbrev dead_done : Dead → Done
dead_done d = record { node = d.node; item = d.item; range = single d.at }

-- ---- the law

module _ (plan : Plan) (items : List SourceItem) (done : List Done) (dead : List Dead) (distinct : AreDistinct items)
    (covers : (place : Place) → times_done done place + times_dead dead place ≡ min 1 (times_listed (map item_len items) place)) where
  left_out_same : (item : SourceItem) (p : ℕ) → list_any (λ q. q == p) (dead_positions dead item) ≡ false → is_left_out (item_without dead item) p ≡ is_left_out item p
  left_out_same item p e =
      list_any-append (λ q. q == p) (dead_positions dead item) item.left_out ∙ ap (λ t. t || list_any (λ q. q == p) item.left_out) e

  outputs_same : (item : SourceItem) (p : ℕ) → list_any (λ q. q == p) (dead_positions dead item) ≡ false → outputs_at plan (item_without dead item) p ≡ outputs_at plan item p
  outputs_same item p e = ap (λ t. cond t [] (emission_outputs plan item.node (emission item.work item.args item.file p))) (left_out_same item p e)

  -- where a range is done, nothing is dead
  apart : (r : Done) → ((place : Place) → times_at r.node r.item r.range place ≤ times_done done place) → (item : SourceItem) → (item.node ≡ r.node) × (item.item ≡ r.item)
      → (q : ℕ) → r.range.from ≤ q → q < r.range.to → times_dead dead (place_of item q) ≡ 0
  apart r own item same q low high =
      let here : times_at r.node r.item r.range (place_of item q) ≡ 1 =
      ap (λ t. cond t (times_in r.range q) 0) (and_from _ _ (eq-eqb r.node item.node (sym same.0)) (eq-eqb r.item item.item (sym same.1))) ∙ inside r.range q low high in
      omega (arith, own (place_of item q), covers (place_of item q), here)
    where
      inside : (o : Offsets) (q : ℕ) → o.from ≤ q → q < o.to → times_in o q ≡ 1
      inside o q low high = grind (arith, nat_tests)

  done_same : (r : Done) → ((place : Place) → times_at r.node r.item r.range place ≤ times_done done place) → spread_done plan (items_without dead items) r ≡ spread_done plan items r
  done_same r own = ap (spread_of plan r.range) (found_without dead items r.node r.item) ∙ by (item_at items r.node r.item) refl
    where
      by : (found : Option SourceItem) → item_at items r.node r.item ≡ found → spread_of plan r.range (option_map (item_without dead) found) ≡ spread_of plan r.range found
      by None e = refl
      by (Some item) e =
          spread-same (outputs_at plan (item_without dead item)) (outputs_at plan item) r.range.from r.range.to
          (λ q low high. outputs_same item q (not_dead dead item q (apart r own item (found_is items r.node r.item item e) q low high)))

  dead_nothing : (d : Dead) → 1 ≤ times_dead dead (record { node = d.node; item = d.item; offset = d.at }) → spread_done plan (items_without dead items) (dead_done d) ≡ []
  dead_nothing d own = ap (spread_of plan (single d.at)) (found_without dead items d.node d.item) ∙ by (item_at items d.node d.item) refl
    where
      by : (found : Option SourceItem) → item_at items d.node d.item ≡ found → spread_of plan (single d.at) (option_map (item_without dead) found) ≡ []
      by None e = refl
      by (Some item) e =
          let same = found_is items d.node d.item item e in
          let here : 1 ≤ times_dead dead (place_of item d.at) = subst (λ (p : Place). 1 ≤ times_dead dead p) (λ i. record { node = sym same.0 i; item = sym same.1 i; offset = d.at }) own in
          let out : is_left_out (item_without dead item) d.at ≡ true =
          list_any-append (λ q. q == d.at) (dead_positions dead item) item.left_out
          ∙ ap (λ t. t || list_any (λ q. q == d.at) item.left_out) (is_dead dead d item same.0 same.1 here) in
          spread-single (outputs_at plan (item_without dead item)) d.at ∙ ap (λ t. cond t [] (emission_outputs plan item.node (emission item.work item.args item.file d.at))) out

  dones_same : (rs : List Done) → All (λ (r : Done). (place : Place) → times_at r.node r.item r.range place ≤ times_done done place) rs
      → spread_dones plan (items_without dead items) rs ≡ spread_dones plan items rs
  dones_same [] own = refl
  dones_same (r ∷ rs) own =
      ap₂ (λ s t. s ++ t) (done_same r (All-head (λ (x : Done). (place : Place) → times_at x.node x.item x.range place ≤ times_done done place) r rs own))
      (dones_same rs (All-tail (λ (x : Done). (place : Place) → times_at x.node x.item x.range place ≤ times_done done place) r rs own))

  deads_nothing : (ds : List Dead) → All (λ (d : Dead). 1 ≤ times_dead dead (record { node = d.node; item = d.item; offset = d.at })) ds
      → spread_dones plan (items_without dead items) (map dead_done ds) ≡ []
  deads_nothing [] own = refl
  deads_nothing (d ∷ ds) own =
      ap₂ (λ s t. s ++ t) (dead_nothing d (All-head (λ (x : Dead). 1 ≤ times_dead dead (record { node = x.node; item = x.item; offset = x.at })) d ds own))
      (deads_nothing ds (All-tail (λ (x : Dead). 1 ≤ times_dead dead (record { node = x.node; item = x.item; offset = x.at })) d ds own))

  both_cover : (place : Place) → times_done (done ++ map dead_done dead) place ≡ min 1 (times_listed (map item_len (items_without dead items)) place)
  both_cover place =
      sum_by-append (λ (d : Done). times_at d.node d.item d.range place) done (map dead_done dead)
      ∙ ap (λ n. times_done done place + n) (sum_by-map (λ (d : Done). times_at d.node d.item d.range place) dead_done dead)
      ∙ covers place
      ∙ ap (λ (l : List FileLen). min 1 (times_listed l place)) (sym (lengths_same dead items))

  -- the done ranges bring what the items bring without their dead positions
  pub covering_without : IsSameBag (spread_dones plan items done) (spread_all plan (items_without dead items))
  covering_without =
      let all = covering_items plan (items_without dead items) (done ++ map dead_done dead) (distinct_without dead items distinct) both_cover in
      record {
        weighs = λ w.
            let split = sum_by-append w (spread_dones plan (items_without dead items) done) (spread_dones plan (items_without dead items) (map dead_done dead)) in
            let joined : spread_dones plan (items_without dead items) (done ++ map dead_done dead)
            ≡ spread_dones plan (items_without dead items) done ++ spread_dones plan (items_without dead items) (map dead_done dead) =
            flat_map-append (spread_done plan (items_without dead items)) done (map dead_done dead) in
            omega (
              arith,
              all.weighs w,
              ap (sum_by w) joined,
              split,
              ap (sum_by w) (dones_same done (own_done done)),
              ap (sum_by w) (deads_nothing dead (own_dead dead)),
            );
      }
