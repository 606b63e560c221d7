-- Coverings: ranges that hold each offset as often as a whole does bring together what the whole brings. A weight is followed from one offset to the
-- next, and no order of the ranges is ever looked at.
use Rattle.std.proofs.Common.{◌≡◌, ℕ, zero, suc, ◌+◌, ◌*◌, ◌<◌, ◌≤◌, min, ◌==◌, Bool, true, false, ◌&&◌, if◌then◌else◌, ◌⊎◌, inl, inr, List, [], ◌∷◌, ◌++◌, map, Option, Some, None, refl, sym, ap, ap₂, subst, ◌∙◌, append-nil, add-zero, zero-add, arith}
use Rattle.std.proofs.lemmas.Bool.{cases_lt, eqb-true, eq-eqb, ne_eqb, and_parts, and_from, and_left, and_right}
use Rattle.std.proofs.lemmas.Bool.Decides.{nat_tests}
use Rattle.std.proofs.lemmas.List.Sums.{sum_by-cons, sum_by-append}
use Rattle.std.proofs.lemmas.List.Elements.{All-nil, All-cons, All-head, All-tail, All-weaker, All-map}
use Rattle.std.proofs.lemmas.List.Folds.{find-append}
use Rattle.std.specs.List.{All, sum_by, filter, flat_map, enumerate_from}
use Rattle.std.specs.Option.{option_or}
use Rattle.beam_values.specs.Bags.{IsSameBag}
use Rattle.beam_values.specs.Cover.{Place, times_at, times_done, whole, times_listed}
use Rattle.beam_values.specs.Intervals.{Offsets, times_in}
use Rattle.beam_values.specs.Lines.{spread}
use Rattle.beam_values.specs.declared.piece.Done.{Done}
use Rattle.beam_values.specs.declared.file_text.FileText.{FileText}
use Rattle.beam_values.specs.declared.plan.Args.{Args}
use Rattle.beam_values.specs.declared.plan.Node.{Node}
use Rattle.beam_values.specs.declared.plan.NodeKind.{NodeKind}
use Rattle.beam_values.specs.declared.plan.NodeKind.TheVariants.{Source}
use Rattle.beam_values.specs.declared.plan.Plan.{Plan}
use Rattle.beam_values.specs.declared.plan.SourceKind.{SourceKind}
use Rattle.beam_values.specs.declared.plan.SourceKind.TheVariants.{Lines, TimedLines, Count, Made}
use Rattle.beam_values.proofs.Bags.{sum_by-map, sum_by-flat_map, sum_by-filter}
use Rattle.beam_values.proofs.Spreads.{spread-empty, spread-join, spread-single}
use Rattle.beam_model.specs.Chains.{Output}
use Rattle.beam_model.specs.Coverings.{is_item, item_at, spread_of, spread_done, spread_dones, AreDistinct}
use Rattle.beam_model.specs.Positions.{SourceItem, file_item, file_items, made_item, items_of_source, items_of_kind, items_of_node, items, len_of, item_len}
use Rattle.beam_model.specs.Spread.{outputs_at, spread_range, spread_all}

times_in-inside : (r : Offsets) (p : ℕ) → r.from ≤ p → p < r.to → times_in r p ≡ 1
times_in-inside r p low high = grind (arith, nat_tests)

times_in-before : (r : Offsets) (p : ℕ) → p < r.from → times_in r p ≡ 0
times_in-before r p before = grind (arith, nat_tests)

times_in-behind : (r : Offsets) (p : ℕ) → r.to ≤ p → times_in r p ≡ 0
times_in-behind r p behind = grind (arith, nat_tests)

times_in-once : (r : Offsets) (p : ℕ) → min 1 (times_in r p) ≡ times_in r p
times_in-once r p = grind (arith, nat_tests)

-- where two weights are the same at whatever P holds of, and P holds of each element, the list weighs the same
sum_by-same : {X : Type 0} (P : X → Type 0) (f g : X → ℕ) → ((x : X) → P x → f x ≡ g x) → (xs : List X) → All P xs → sum_by f xs ≡ sum_by g xs
sum_by-same P f g same [] all = refl
sum_by-same P f g same (x ∷ xs) all =
    sum_by-cons f x xs ∙ ap₂ (λ s t. s + t) (same x (All-head P x xs all)) (sum_by-same P f g same xs (All-tail P x xs all)) ∙ sym (sum_by-cons g x xs)

sum_by-nothing : {X : Type 0} (f : X → ℕ) → ((x : X) → f x ≡ 0) → (xs : List X) → sum_by f xs ≡ 0
sum_by-nothing f none [] = refl
sum_by-nothing f none (x ∷ xs) = omega (arith, sum_by-cons f x xs, none x, sum_by-nothing f none xs)

regroup : (a k b m v : ℕ) → (a + k * v) + (b + m * v) ≡ (a + b) + (k + m) * v
regroup a k b m v = omega arith

module _ {X : Type 0} (at : ℕ → List X) (w : X → ℕ) where
  abbrev weight : ℕ → ℕ → ℕ
  weight from to = sum_by w (spread at from to)

  weight-empty : (from to : ℕ) → to ≤ from → weight from to ≡ 0
  weight-empty from to empty = ap (sum_by w) (spread-empty at from to empty)

  weight-suc : (from n : ℕ) → from ≤ n → weight from (suc n) ≡ weight from n + sum_by w (at n)
  weight-suc from n low =
      let next : suc n ≡ n + 1 = omega arith in
      ap (weight from) next
      ∙ ap (sum_by w) (spread-join at from n (n + 1) low (omega arith) ∙ ap (λ t. spread at from n ++ t) (spread-single at n))
      ∙ sum_by-append w (spread at from n) (at n)

  -- what the part of a range below an offset weighs
  abbrev below : ℕ → Offsets → ℕ
  below n r = weight r.from (min r.to n)

  below-zero : (r : Offsets) → below 0 r ≡ 0
  below-zero r = weight-empty r.from (min r.to 0) (omega arith)

  below-suc : (n : ℕ) (r : Offsets) → below (suc n) r ≡ below n r + times_in r n * sum_by w (at n)
  below-suc n r = in_case (cases_lt n r.from) (cases_lt n r.to)
    where
      rest : ℕ
      rest = sum_by w (at n)

      unheld : times_in r n ≡ 0 → below (suc n) r ≡ below n r → below (suc n) r ≡ below n r + times_in r n * rest
      unheld none same = same ∙ (omega arith) ∙ ap (λ k. below n r + k * rest) (sym none)

      held : times_in r n ≡ 1 → below (suc n) r ≡ below n r + rest → below (suc n) r ≡ below n r + times_in r n * rest
      held one more = more ∙ (omega arith) ∙ ap (λ k. below n r + k * rest) (sym one)

      in_case : (n < r.from) ⊎ (r.from ≤ n) → (n < r.to) ⊎ (r.to ≤ n) → below (suc n) r ≡ below n r + times_in r n * rest
      in_case (inl before) _ =
          unheld (times_in-before r n before) (weight-empty r.from (min r.to (suc n)) (omega arith) ∙ sym (weight-empty r.from (min r.to n) (omega arith)))
      in_case (inr low) (inl high) =
          held (times_in-inside r n low high) (ap (weight r.from) (omega arith) ∙ weight-suc r.from n low ∙ ap (λ to. weight r.from to + rest) (omega arith))
      in_case (inr low) (inr behind) = unheld (times_in-behind r n behind) (ap (weight r.from) (omega arith))

  below-beyond : (n : ℕ) (r : Offsets) → r.to ≤ n → below n r ≡ weight r.from r.to
  below-beyond n r beyond = ap (weight r.from) (omega arith)

  -- with one offset more, ranges weigh more by its weight as often as they hold it
  all_below-suc : (n : ℕ) (ranges : List Offsets) → sum_by (below (suc n)) ranges ≡ sum_by (below n) ranges + sum_by (λ r. times_in r n) ranges * sum_by w (at n)
  all_below-suc n [] = omega arith
  all_below-suc n (r ∷ ranges) =
      sum_by-cons (below (suc n)) r ranges ∙ ap₂ (λ s t. s + t) (below-suc n r) (all_below-suc n ranges)
      ∙ regroup _ _ _ _ (sum_by w (at n)) ∙ ap₂ (λ s k. s + k * sum_by w (at n)) (sym (sum_by-cons (below n) r ranges)) (sym (sum_by-cons (λ x. times_in x n) r ranges))

  all_below-beyond : (n : ℕ) (ranges : List Offsets) → sum_by (λ r. r.to) ranges ≤ n → sum_by (below n) ranges ≡ sum_by (λ r. weight r.from r.to) ranges
  all_below-beyond n [] beyond = refl
  all_below-beyond n (r ∷ ranges) beyond =
      let total : r.to + sum_by (λ x. x.to) ranges ≤ n = subst (λ k. k ≤ n) (sum_by-cons (λ x. x.to) r ranges) beyond in
      sum_by-cons (below n) r ranges ∙ ap₂ (λ s t. s + t) (below-beyond n r (omega arith)) (all_below-beyond n ranges (omega arith))
      ∙ sym (sum_by-cons (λ x. weight x.from x.to) r ranges)

  module _ (ranges : List Offsets) (whole : Offsets) (covers : (p : ℕ) → sum_by (λ r. times_in r p) ranges ≡ times_in whole p) where
    all_below : (n : ℕ) → sum_by (below n) ranges ≡ below n whole
    all_below zero = sum_by-nothing (below 0) below-zero ranges ∙ sym (below-zero whole)
    all_below (suc n) = all_below-suc n ranges ∙ ap (λ t. t + sum_by (λ r. times_in r n) ranges * sum_by w (at n)) (all_below n)
        ∙ ap (λ k. below n whole + k * sum_by w (at n)) (covers n) ∙ sym (below-suc n whole)

    covering_weight : sum_by (λ r. weight r.from r.to) ranges ≡ weight whole.from whole.to
    covering_weight =
        let n : ℕ = whole.to + sum_by (λ r. r.to) ranges in
        sym (all_below-beyond n ranges (omega arith)) ∙ all_below n ∙ below-beyond n whole (omega arith)

-- ranges that hold each offset below a length once, and no other, bring what all the offsets below it bring
pub covering_spreads : {X : Type 0} (at : ℕ → List X) (ranges : List Offsets) (len : ℕ)
    → ((p : ℕ) → sum_by (λ r. times_in r p) ranges ≡ times_in (record { from = 0; to = len }) p)
    → IsSameBag (flat_map (λ r. spread at r.from r.to) ranges) (spread at 0 len)
covering_spreads at ranges len covers = record {
  weighs = λ w. sum_by-flat_map w (λ r. spread at r.from r.to) ranges ∙ covering_weight at w ranges (record { from = 0; to = len }) covers;
}

-- Of one item.

abbrev place : SourceItem → ℕ → Place
place item p = record { node = item.node; item = item.item; offset = p }

abbrev is_of : SourceItem → Done → Bool
is_of item d = d.node == item.node && d.item == item.item

abbrev IsOf : SourceItem → Done → Type 0
IsOf item d = (d.node ≡ item.node) × (d.item ≡ item.item)

is_of-true : (item : SourceItem) (d : Done) → IsOf item d → is_of item d ≡ true
is_of-true item d of = and_from _ _ (eq-eqb d.node item.node of.0) (eq-eqb d.item item.item of.1)

times_at-own : (item : SourceItem) (r : Offsets) (p : ℕ) → times_at item.node item.item r (place item p) ≡ times_in r p
times_at-own item r p = ap (λ own. if own then times_in r p else 0) (and_from _ _ (eq-eqb item.node item.node refl) (eq-eqb item.item item.item refl))

abbrev ranges_of : SourceItem → List Done → List Offsets
ranges_of item dones = map (λ d. d.range) (filter (is_of item) dones)

module _ (plan : Plan) (w : Output → ℕ) where
  -- what a range of an item weighs
  abbrev worked : SourceItem → Offsets → ℕ
  worked item r = sum_by w (spread_range plan item r.from r.to)

  -- an item weighs what the ranges of it do, where they hold each of its offsets once
  item_covered : (item : SourceItem) (dones : List Done) → ((p : ℕ) → times_done dones (place item p) ≡ times_in (whole (len_of item)) p)
      → sum_by (λ d. if is_of item d then worked item d.range else 0) dones ≡ worked item (whole (len_of item))
  item_covered item dones covers =
      sym (over_ranges (worked item)) ∙ covering_weight (outputs_at plan item) w (ranges_of item dones) (whole (len_of item)) (λ p. over_ranges (λ r. times_in r p) ∙ covers p)
    where
      over_ranges : (f : Offsets → ℕ) → sum_by f (ranges_of item dones) ≡ sum_by (λ d. if is_of item d then f d.range else 0) dones
      over_ranges f = sum_by-map f (λ d. d.range) (filter (is_of item) dones) ∙ sum_by-filter (λ d. f d.range) (is_of item) dones

-- ranges of one item that cover it bring what it brings
pub covering_one : (plan : Plan) (item : SourceItem) (dones : List Done)
    → All (λ d. (d.node ≡ item.node) × (d.item ≡ item.item)) dones
    → ((place : Place) → times_done dones place ≡ times_listed (item_len item ∷ []) place)
    → IsSameBag (flat_map (λ d. spread_range plan item d.range.from d.range.to) dones) (spread_all plan (item ∷ []))
covering_one plan item dones of covers = record { weighs = weighs }
  where
    covers_item : (p : ℕ) → times_done dones (place item p) ≡ times_in (whole (len_of item)) p
    covers_item p = covers (place item p) ∙ zero-add _ ∙ times_at-own item (whole (len_of item)) p

    weighs : (w : Output → ℕ) → sum_by w (flat_map (λ d. spread_range plan item d.range.from d.range.to) dones) ≡ sum_by w (spread_all plan (item ∷ []))
    weighs w =
        sum_by-flat_map w (λ d. spread_range plan item d.range.from d.range.to) dones
        ∙ sum_by-same (IsOf item) (λ d. worked plan w item d.range) (λ d. if is_of item d then worked plan w item d.range else 0)
        (λ d own. ap (λ b. if b then worked plan w item d.range else 0) (sym (is_of-true item d own))) dones of
        ∙ item_covered plan w item dones covers_item
        ∙ ap (sum_by w) (sym (append-nil (spread_range plan item 0 (len_of item))))

-- Of many items.

eqb-either_way : (a b : ℕ) → (a == b) ≡ (b == a)
eqb-either_way a b = grind (arith, nat_tests)

is_item-is_of : (item : SourceItem) (d : Done) → is_item d.node d.item item ≡ is_of item d
is_item-is_of item d = ap₂ (λ a b. a && b) (eqb-either_way item.node d.node) (eqb-either_way item.item d.item)

is_item-own : (item : SourceItem) → is_item item.node item.item item ≡ true
is_item-own item = and_from _ _ (eq-eqb item.node item.node refl) (eq-eqb item.item item.item refl)

-- an item that passes the test has that node and that number
is_item-same : (node number : ℕ) (item : SourceItem) → is_item node number item ≡ true → (item.node ≡ node) × (item.item ≡ number)
is_item-same node number item is =
    let parts : ((item.node == node) ≡ true) × ((item.item == number) ≡ true) = and_parts _ _ is in
    (eqb-true item.node node parts.0, eqb-true item.item number parts.1)

sum_by-each : {X : Type 0} (f g : X → ℕ) → ((x : X) → f x ≡ g x) → (xs : List X) → sum_by f xs ≡ sum_by g xs
sum_by-each f g same xs = λ i. sum_by (λ x. same x i) xs

sum_by-plus : {X : Type 0} (f g : X → ℕ) (xs : List X) → sum_by (λ x. f x + g x) xs ≡ sum_by f xs + sum_by g xs
sum_by-plus f g [] = refl
sum_by-plus f g (x ∷ xs) = omega (arith, sum_by-cons f x xs, sum_by-cons g x xs, sum_by-cons (λ y. f y + g y) x xs, sum_by-plus f g xs)

-- sums over two lists may be taken in either order
sum_by-exchange : {X Y : Type 0} (f : X → Y → ℕ) (xs : List X) (ys : List Y) → sum_by (λ y. sum_by (λ x. f x y) xs) ys ≡ sum_by (λ x. sum_by (f x) ys) xs
sum_by-exchange f xs [] = sym (sum_by-nothing (λ x. 0) (λ x. refl) xs)
sum_by-exchange f xs (y ∷ ys) =
    sum_by-cons (λ z. sum_by (λ x. f x z) xs) y ys
    ∙ ap (λ t. sum_by (λ x. f x y) xs + t) (sum_by-exchange f xs ys)
    ∙ sym (sum_by-plus (λ x. f x y) (λ x. sum_by (f x) ys) xs)
    ∙ sum_by-each (λ x. f x y + sum_by (f x) ys) (λ x. sum_by (f x) (y ∷ ys)) (λ x. sym (sum_by-cons (f x) y ys)) xs

-- what is found weighs; where nothing is, nothing does
abbrev weight_of : (SourceItem → ℕ) → Option SourceItem → ℕ
weight_of f None = 0
weight_of f (Some item) = f item

module _ (node number : ℕ) (f : SourceItem → ℕ) where
  abbrev where_found : SourceItem → ℕ
  where_found item = if is_item node number item then f item else 0

  none_found : (items : List SourceItem) → item_at items node number ≡ None → sum_by where_found items ≡ 0
  none_found [] none = refl
  none_found (x ∷ xs) none = by (is_item node number x) refl none (none_found xs)
    where
      by : (b : Bool) → is_item node number x ≡ b → (if b then Some x else item_at xs node number) ≡ None → (item_at xs node number ≡ None → sum_by where_found xs ≡ 0)
          → sum_by where_found (x ∷ xs) ≡ 0
      by true here never onward = absurd (cc)
      by false away rest onward = sum_by-cons where_found x xs ∙ ap₂ (λ b t. (if b then f x else 0) + t) away (onward rest)

  -- of distinct items at most one is found, so the sum is what that one weighs
  one_found : (items : List SourceItem) → AreDistinct items → sum_by where_found items ≡ weight_of f (item_at items node number)
  one_found [] distinct = refl
  one_found (x ∷ xs) distinct = by (is_item node number x) refl (one_found xs distinct.1)
    where
      by : (b : Bool) → is_item node number x ≡ b → sum_by where_found xs ≡ weight_of f (item_at xs node number)
          → sum_by where_found (x ∷ xs) ≡ weight_of f (if b then Some x else item_at xs node number)
      by true here onward =
          let same : (x.node ≡ node) × (x.item ≡ number) = is_item-same node number x here in
          let none : item_at xs node number ≡ None = sym (ap₂ (item_at xs) same.0 same.1) ∙ distinct.0 in
          sum_by-cons where_found x xs ∙ ap₂ (λ b t. (if b then f x else 0) + t) here (none_found xs none) ∙ add-zero (f x)
      by false away onward = sum_by-cons where_found x xs ∙ ap (λ b. (if b then f x else 0) + sum_by where_found xs) away ∙ zero-add _ ∙ onward

-- an item is found
abbrev IsFound : List SourceItem → SourceItem → Type 0
IsFound items item = item_at items item.node item.item ≡ Some item

found_behind : (x : SourceItem) (xs : List SourceItem) → item_at xs x.node x.item ≡ None → (y : SourceItem) → IsFound xs y → IsFound (x ∷ xs) y
found_behind x xs none y found = by (is_item y.node y.item x) refl
  where
    by : (b : Bool) → is_item y.node y.item x ≡ b → (if b then Some x else item_at xs y.node y.item) ≡ Some y
    by true here =
        let same : (x.node ≡ y.node) × (x.item ≡ y.item) = is_item-same y.node y.item x here in
        let never : None ≡ Some y = sym none ∙ ap₂ (item_at xs) same.0 same.1 ∙ found in
        absurd (cc)
    by false away = found

all_found : (items : List SourceItem) → AreDistinct items → All (IsFound items) items
all_found [] distinct = All-nil (IsFound [])
all_found (x ∷ xs) distinct =
    All-cons (IsFound (x ∷ xs)) x xs (ap (λ b. if b then Some x else item_at xs x.node x.item) (is_item-own x))
    (All-weaker (IsFound xs) (IsFound (x ∷ xs)) (found_behind x xs distinct.0) xs (all_found xs distinct.1))

-- the listed items hold a place of one of them as often as its own offsets do
listed_own : (items : List SourceItem) → AreDistinct items → (item : SourceItem) → IsFound items item → (p : ℕ)
    → times_listed (map item_len items) (place item p) ≡ times_in (whole (len_of item)) p
listed_own items distinct item found p =
    sum_by-map (λ file. times_at file.node file.item (whole file.len) (place item p)) item_len items
    ∙ one_found item.node item.item (λ x. times_in (whole (len_of x)) p) items distinct
    ∙ ap (weight_of (λ x. times_in (whole (len_of x)) p)) found

-- an item holds an offset once or not at all, so a bound by 1 changes nothing
listed_once : (items : List SourceItem) → AreDistinct items → (item : SourceItem) → IsFound items item → (p : ℕ)
    → min 1 (times_listed (map item_len items) (place item p)) ≡ times_in (whole (len_of item)) p
listed_once items distinct item found p = ap (min 1) (listed_own items distinct item found p) ∙ times_in-once (whole (len_of item)) p

module _ (plan : Plan) (items : List SourceItem) (dones : List Done) (distinct : AreDistinct items) where
  done_weight : (w : Output → ℕ) (d : Done) → sum_by w (spread_done plan items d) ≡ sum_by (λ item. if is_of item d then worked plan w item d.range else 0) items
  done_weight w d =
      of_what (item_at items d.node d.item)
      ∙ sym (one_found d.node d.item (λ item. worked plan w item d.range) items distinct)
      ∙ sum_by-each (λ item. if is_item d.node d.item item then worked plan w item d.range else 0) (λ item. if is_of item d then worked plan w item d.range else 0)
      (λ item. ap (λ b. if b then worked plan w item d.range else 0) (is_item-is_of item d)) items
    where
      of_what : (found : Option SourceItem) → sum_by w (spread_of plan d.range found) ≡ weight_of (λ item. worked plan w item d.range) found
      of_what None = refl
      of_what (Some item) = refl

  -- ranges that cover distinct items bring what these bring
  pub covering_items : ((place : Place) → times_done dones place ≡ min 1 (times_listed (map item_len items) place))
      → IsSameBag (spread_dones plan items dones) (spread_all plan items)
  covering_items covers = record {
    weighs = λ w.
        sum_by-flat_map w (spread_done plan items) dones
        ∙ sum_by-each (λ d. sum_by w (spread_done plan items d)) (λ d. sum_by (λ item. if is_of item d then worked plan w item d.range else 0) items) (done_weight w) dones
        ∙ sum_by-exchange (λ item d. if is_of item d then worked plan w item d.range else 0) items dones
        ∙ sum_by-same (IsFound items) (λ item. sum_by (λ d. if is_of item d then worked plan w item d.range else 0) dones) (λ item. worked plan w item (whole (len_of item)))
        (λ item found. item_covered plan w item dones (λ p. covers (place item p) ∙ listed_once items distinct item found p)) items (all_found items distinct)
        ∙ sym (sum_by-flat_map w (λ item. spread_range plan item 0 (len_of item)) items);
  }

-- Of the items of a plan.

item_at-append : (xs ys : List SourceItem) (node number : ℕ) → item_at xs node number ≡ None → item_at ys node number ≡ None → item_at (xs ++ ys) node number ≡ None
item_at-append xs ys node number none also = find-append (is_item node number) xs ys ∙ ap₂ option_or none also

abbrev IsAtNode : ℕ → SourceItem → Type 0
IsAtNode node item = item.node ≡ node

none_at_other_node : (n node number : ℕ) → node < n → (xs : List SourceItem) → All (IsAtNode n) xs → item_at xs node number ≡ None
none_at_other_node n node number other [] all = refl
none_at_other_node n node number other (x ∷ xs) all =
    let own : x.node ≡ n = All-head (IsAtNode n) x xs all in
    ap (λ b. if b then Some x else item_at xs node number) (and_left _ _ (ne_eqb x.node node (λ same. omega arith)))
    ∙ none_at_other_node n node number other xs (All-tail (IsAtNode n) x xs all)

-- distinct items of one node, and then distinct items of other nodes, are distinct
distinct_append : (n : ℕ) (xs ys : List SourceItem) → All (IsAtNode n) xs → AreDistinct xs → AreDistinct ys → ((number : ℕ) → item_at ys n number ≡ None)
    → AreDistinct (xs ++ ys)
distinct_append n [] ys all first second none = second
distinct_append n (x ∷ xs) ys all first second none = (
  item_at-append xs ys x.node x.item first.0 (ap (λ node. item_at ys node x.item) (All-head (IsAtNode n) x xs all) ∙ none x.item),
  distinct_append n xs ys (All-tail (IsAtNode n) x xs all) first.1 second none,
)

module _ (told : List FileText) (node : ℕ) (work : SourceKind) (args : Args) where
  abbrev files_from : ℕ → List (List ℕ) → List SourceItem
  files_from k names = map (file_item told node work args) (enumerate_from k names)

  files_before : (number k : ℕ) → number < k → (names : List (List ℕ)) → item_at (files_from k names) node number ≡ None
  files_before number k before [] = refl
  files_before number k before (name ∷ names) =
      ap (λ b. if b then Some (file_item told node work args (k, name)) else item_at (files_from (k + 1) names) node number)
      (and_right _ _ (ne_eqb k number (λ same. omega arith)))
      ∙ files_before number (k + 1) (omega arith) names

  files_distinct : (k : ℕ) (names : List (List ℕ)) → AreDistinct (files_from k names)
  files_distinct k [] = tt
  files_distinct k (name ∷ names) = (files_before k (k + 1) (omega arith) names, files_distinct (k + 1) names)

  files_at_node : (names : List (List ℕ)) → All (IsAtNode node) (file_items told node work args names)
  files_at_node names = All-map (IsAtNode node) (file_item told node work args) (enumerate_from 0 names) (λ k d low. refl)

module _ (told : List FileText) where
  source_at_node : (node : ℕ) (work : SourceKind) (args : Args) (names : List (List ℕ)) → All (IsAtNode node) (items_of_source told node work args names)
  source_at_node node Lines args names = files_at_node told node Lines args names
  source_at_node node TimedLines args names = files_at_node told node TimedLines args names
  source_at_node node Count args names = All-cons (IsAtNode node) (made_item node Count args) [] refl (All-nil (IsAtNode node))
  source_at_node node Made args names = All-cons (IsAtNode node) (made_item node Made args) [] refl (All-nil (IsAtNode node))

  source_distinct : (node : ℕ) (work : SourceKind) (args : Args) (names : List (List ℕ)) → AreDistinct (items_of_source told node work args names)
  source_distinct node Lines args names = files_distinct told node Lines args 0 names
  source_distinct node TimedLines args names = files_distinct told node TimedLines args 0 names
  source_distinct node Count args names = (refl, tt)
  source_distinct node Made args names = (refl, tt)

  kind_at_node : (node : ℕ) (kind : NodeKind) → All (IsAtNode node) (items_of_kind told node kind)
  kind_at_node node (Source work args files estimator) = source_at_node node work args files
  kind_at_node node _ = All-nil (IsAtNode node)

  kind_distinct : (node : ℕ) (kind : NodeKind) → AreDistinct (items_of_kind told node kind)
  kind_distinct node (Source work args files estimator) = source_distinct node work args files
  kind_distinct node _ = tt

  abbrev items_from : ℕ → List Node → List SourceItem
  items_from k nodes = flat_map (items_of_node told) (enumerate_from k nodes)

  items_before : (node k number : ℕ) → node < k → (nodes : List Node) → item_at (items_from k nodes) node number ≡ None
  items_before node k number before [] = refl
  items_before node k number before (n ∷ nodes) =
      item_at-append (items_of_kind told k n.kind) (items_from (k + 1) nodes) node number
      (none_at_other_node k node number before (items_of_kind told k n.kind) (kind_at_node k n.kind))
      (items_before node (k + 1) number (omega arith) nodes)

  items_distinct : (k : ℕ) (nodes : List Node) → AreDistinct (items_from k nodes)
  items_distinct k [] = tt
  items_distinct k (n ∷ nodes) =
      distinct_append k (items_of_kind told k n.kind) (items_from (k + 1) nodes) (kind_at_node k n.kind) (kind_distinct k n.kind) (items_distinct (k + 1) nodes)
      (λ number. items_before k (k + 1) number (omega arith) nodes)

-- no two items of a plan have one node and one item number
pub plan_distinct : (told : List FileText) (plan : Plan) → AreDistinct (items told plan)
plan_distinct told plan = items_distinct told 0 plan.nodes
