-- What partitions the items of a plan brings what all positions do, and who can work it.
use Rattle.std.proofs.Common.{◌≡◌, ◌⊎◌, inl, inr, ℕ, ◌+◌, ◌≤◌, min, ◌==◌, ◌&&◌, ◌||◌, Bool, true, false, cond, if◌then◌else◌, List, [], ◌∷◌, length, map, refl, sym, ap, ap₂, ◌∙◌, subst, arith}
use Rattle.std.specs.Prelude.{Option, Some, None, nat_le, nat_lt, slice_get}
use Rattle.std.specs.List.{All, AllByRecursion, list_any}
use Rattle.std.proofs.lemmas.Bool.{and_parts, eqb-true, or_left, or_right}
use Rattle.std.proofs.lemmas.Bool.Decides.{nat_tests}
use Rattle.std.proofs.lemmas.List.Elements.{All-head, All-tail}
use Rattle.std.proofs.lemmas.List.Sums.{sum_by-cons}
use Rattle.beam_values.specs.Cover.{Place, times_at, times_done, times_listed, whole}
use Rattle.beam_values.specs.Intervals.{Offsets, times_in}
use Rattle.beam_values.specs.declared.file_text.FileText.{FileText}
use Rattle.beam_values.specs.declared.piece.Done.{Done}
use Rattle.beam_values.specs.declared.piece.FileLen.{FileLen}
use Rattle.beam_values.specs.declared.piece.Piece.{Piece}
use Rattle.beam_values.specs.declared.plan.Plan.{Plan}
use Rattle.beam_values.specs.declared.value.Value.{Value}
use Rattle.beam_model.specs.Coverings.{AreDistinct, is_item, item_at}
use Rattle.beam_model.specs.Positions.{SourceItem, item_len, items, len_of}
use Rattle.beam_model.proofs.Coverings.{covering_items, plan_distinct}
use Rattle.beam_ports.specs.Files.{Opening}
use Rattle.beam_ports.specs.Observed.{ObservedStore}
use Rattle.book_core.specs.Runs.{AreLengthsOf}
use Rattle.bundle_work.specs.Openings.{AreOpened, file_names}
use Rattle.bundle_work.specs.Pairs.{AreBoth}
use Rattle.bundle_work.specs.Reading.{opened_lengths}
use Rattle.bundle_work.specs.declared.kit.Kit.{Kit}
use Rattle.chain_exec.specs.Causes.{ObservedShelf}
use Rattle.split_core.specs.Partition.{IsListed, IsPartition}
use Rattle.combine_plan.specs.Combined.{known_of}
use Rattle.combine_plan.specs.Dealing.{IsWithin}
use Rattle.combine_plan.specs.Folding.{IsFoldRefused}
use Rattle.combine_plan.specs.Hands.{CanFold}
use Rattle.combine_plan.specs.Lifting.{AreAllRanges, AreAllRefused, AreLengths}
use Rattle.combine_plan.specs.declared.refusal.CombineRefusal.{CombineRefusal}
use Rattle.combine_plan.specs.declared.refusal.CombineRefusal.TheVariants.{Lift, Fault, NoMemory}

-- ---- each offset is listed once

held_once : (range : Offsets) (p : ℕ) → times_in range p ≤ 1
held_once range p = by (nat_le range.from p && nat_lt p range.to)
  where
    by : (t : Bool) → cond {A = ℕ} t 1 0 ≤ 1
    by true = omega arith
    by false = omega arith

module _ (place : Place) where
  abbrev is_here : SourceItem → Bool
  is_here = is_item place.node place.item

  abbrev listed : List SourceItem → ℕ
  listed items = times_listed (map item_len items) place

  listed_first : (x : SourceItem) (xs : List SourceItem) → listed (x ∷ xs) ≡ cond (is_here x) (times_in (whole (len_of x)) place.offset) 0 + listed xs
  listed_first x xs = sum_by-cons (λ (file : FileLen). times_at file.node file.item (whole file.len) place) (item_len x) (map item_len xs)

  away : (x : SourceItem) (n : ℕ) → is_here x ≡ false → cond (is_here x) n 0 ≡ 0
  away x n is = ap (λ (t : Bool). cond t n 0) is

  none_listed : (items : List SourceItem) → item_at items place.node place.item ≡ None → listed items ≡ 0
  none_listed [] none = refl
  none_listed (x ∷ xs) none = by (is_here x) refl none (none_listed xs)
    where
      by : (t : Bool) → is_here x ≡ t → (if t then Some x else item_at xs place.node place.item) ≡ None → (item_at xs place.node place.item ≡ None → listed xs ≡ 0) → listed (x ∷ xs) ≡ 0
      by true here never later = absurd (cc)
      by false is rest later = omega (arith, listed_first x xs, away x (times_in (whole (len_of x)) place.offset) is, later rest)

  listed_once : (items : List SourceItem) → AreDistinct items → listed items ≤ 1
  listed_once [] distinct = omega arith
  listed_once (x ∷ xs) distinct = by (is_here x) refl (listed_once xs distinct.1)
    where
      bounded : (t : Bool) → cond t (times_in (whole (len_of x)) place.offset) 0 ≤ 1
      bounded true = held_once (whole (len_of x)) place.offset
      bounded false = omega arith

      by : (t : Bool) → is_here x ≡ t → listed xs ≤ 1 → listed (x ∷ xs) ≤ 1
      by true here later =
          let parts = and_parts (x.node == place.node) (x.item == place.item) here in
          let none : item_at xs place.node place.item ≡ None = sym (ap₂ (item_at xs) (eqb-true x.node place.node parts.0) (eqb-true x.item place.item parts.1)) ∙ distinct.0 in
          omega (arith, listed_first x xs, bounded (is_here x), none_listed xs none)
      by false is later = omega (arith, listed_first x xs, away x (times_in (whole (len_of x)) place.offset) is, later)

least_one : (n : ℕ) → n ≤ 1 → n ≡ min 1 n
least_one n low = grind (arith, nat_tests)

-- ---- of which items ranges are

module _ (node item : ℕ) where
  abbrev at_file : FileLen → Bool
  at_file file = file.node == node && file.item == item

  abbrev at_range : Done → Bool
  at_range range = range.node == node && range.item == item

  abbrev at_source : SourceItem → Bool
  at_source source = source.node == node && source.item == item

  ranges_listed : (lengths : List FileLen) (ranges : List Done) → All (λ range. IsListed lengths range.node range.item) ranges → list_any at_range ranges ≡ true → IsListed lengths node item
  ranges_listed lengths [] all any = absurd (cc)
  ranges_listed lengths (range ∷ ranges) all any =
      by (at_range range) refl any (ranges_listed lengths ranges (All-tail (λ (r : Done). IsListed lengths r.node r.item) range ranges all))
    where
      by : (t : Bool) → at_range range ≡ t → (t || list_any at_range ranges) ≡ true → (list_any at_range ranges ≡ true → IsListed lengths node item) → IsListed lengths node item
      by true here some later =
          let parts = and_parts (range.node == node) (range.item == item) here in
          subst (λ i. IsListed lengths node i) (eqb-true range.item item parts.1)
          (subst (λ n. IsListed lengths n range.item) (eqb-true range.node node parts.0) (All-head (λ (r : Done). IsListed lengths r.node r.item) range ranges all))
      by false is some later = later some

  sources_listed : (sources : List SourceItem) (lengths : List FileLen) → AreLengthsOf sources lengths → IsListed lengths node item → list_any at_source sources ≡ true
  sources_listed [] [] are some = absurd (omega (arith, some))
  sources_listed [] (file ∷ lengths) are some = absurd are
  sources_listed (source ∷ sources) [] are some = absurd are
  sources_listed (source ∷ sources) (file ∷ lengths) are some = by (at_source source) refl (sources_listed sources lengths are.1)
    where
      same : at_file file ≡ at_source source
      same = ap₂ (λ n i. n == node && i == item) are.0.0 are.0.1

      by : (t : Bool) → at_source source ≡ t → (IsListed lengths node item → list_any at_source sources ≡ true) → list_any at_source (source ∷ sources) ≡ true
      by true here later = or_left (at_source source) (list_any at_source sources) here
      by false is later =
          or_right (at_source source) (list_any at_source sources)
          (later (omega (arith, some, sum_by-cons (λ (f : FileLen). cond (at_file f) 1 0) file lengths, ap (λ (t : Bool). cond {A = ℕ} t 1 0) (same ∙ is))))

pub all_ranges : (told : Option (List FileText)) (plan : Plan) (lengths : List FileLen) (ranges : List Done) → AreLengths told plan lengths → IsPartition lengths [] ranges → AreAllRanges told plan ranges
all_ranges told plan lengths ranges are parts = record {
  brings = λ files is.
      let sources = items files plan in
      let distinct = plan_distinct files plan in
      covering_items plan sources ranges distinct (λ place.
      let all = ap (λ (l : List FileLen). times_listed l place) (are.told_are files is) in
      let held : times_done ranges place ≡ times_listed (map item_len sources) place = omega (arith, parts.times place, all) in
      held ∙ least_one (times_listed (map item_len sources) place) (listed_once place sources distinct));
  of_items = λ node item any. sources_listed node item (items [] plan) lengths are.each (ranges_listed node item lengths ranges parts.out_listed any);
}

-- ---- what is known of lengths

pub lengths_of_all : (known told : Option (List FileText)) (plan : Plan) (lengths : List FileLen) → (known ≡ None) ⊎ (known ≡ told) → AreLengths told plan lengths → AreLengths known plan lengths
lengths_of_all known told plan lengths (inl none) are = record { each = are.each; told_are = λ files is. absurd (cc) }
lengths_of_all known told plan lengths (inr same) are = record { each = are.each; told_are = λ files is. are.told_are files (sym same ∙ is) }

pub of_first : {A : Type 0} (P : A → Type 0) (xs : List A) (x : A) → slice_get xs 0 ≡ Some x → AllByRecursion P xs → P x
of_first P [] x is all = absurd (cc)
of_first P (y ∷ xs) x is all = let same : y ≡ x = cc in subst P same all.0

-- ---- which kits can work hands

module _ {F S : Type 0} (files_of : S → Option (List FileText)) (opened_by : S → ℕ → Option Opening) (plan : Plan) (lengths : List FileLen) where
  pub can_fold : (kits : List (Kit F S)) (hands : List (List Piece)) → length hands ≡ length kits
      → AllByRecursion (λ kit. AreOpened (files_of kit.store) (opened_by kit.store) (file_names plan) kit.files) kits → AllByRecursion (λ kit. opened_lengths plan kit.files ≡ lengths) kits
      → AllByRecursion (All (IsWithin lengths)) hands → AreBoth (CanFold files_of opened_by plan) kits hands
  can_fold [] [] n opened met within = tt
  can_fold (kit ∷ kits) (hand ∷ hands) n opened met within = (
    record { opened = opened.0; within = subst (λ (l : List FileLen). All (IsWithin l) hand) (sym met.0) within.0 },
    can_fold kits hands (omega (arith, n)) opened.1 met.1 within.1,
  )
  can_fold [] (hand ∷ hands) n opened met within = absurd (omega (arith, n))
  can_fold (kit ∷ kits) [] n opened met within = absurd (omega (arith, n))

-- ---- refusals

pub all_refused : (takes : Value → Bool) (shelf : ObservedShelf) (store : ObservedStore) (plan : Plan) (attempts : ℕ) (ranges : List Done) → AreAllRanges store.files plan ranges → (refusal : CombineRefusal)
    → IsFoldRefused takes (known_of shelf store) shelf store plan attempts ranges 0 refusal → AreAllRefused takes shelf store plan attempts refusal
all_refused takes shelf store plan attempts ranges all (Lift cause) refused = (ranges, all, refused)
all_refused takes shelf store plan attempts ranges all (Fault note) refused = (ranges, all, refused)
all_refused takes shelf store plan attempts ranges all NoMemory refused = tt
