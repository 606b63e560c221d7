-- A search by halving finds an item exactly where it is listed.
use Rattle.std.proofs.Common.{◌≡◌, ℕ, zero, suc, ◌+◌, ◌≤◌, ◌↔◌, Bool, true, false, ◌&&◌, ◌==◌, nat_lt, List, [], ◌∷◌, length, get_or, Result, Ok, Err, is_ok, count_by, refl, sym, subst, arith, ltb-true, ltb-false}
use Rattle.std.specs.Cmp.{IsTotalOrder}
use Rattle.std.specs.List.{All}
use Rattle.std.specs.List.Sorted.{IsBinarySearchResult, IsPartitionPoint, IsSearchInRange, IsSorted}
use Rattle.std.specs.Ordering.{is_lt}
use Rattle.std.specs.declared.cmp.Ordering.TheVariants.{Less, Equal, Greater}
use Rattle.std.proofs.lemmas.Bool.{false≢true}
use Rattle.std.proofs.lemmas.Bool.Decides.{nat_tests}
use Rattle.std.proofs.lemmas.Cmp.{nat_cmp_total, on_total, then_total}
use Rattle.std.proofs.lemmas.List.Sorted.{searchable_from_sorted}
use Rattle.beam_values.proofs.Counts.{count_member, count_none}
use Rattle.beam_values.specs.declared.piece.FileLen.{FileLen}
use Rattle.split_core.specs.Partition.{IsListed}
use Rattle.piece_checks.specs.Orders.{item_cmp}
use Rattle.piece_checks.specs.Tiles.{AreItemsAscending, IsItemBelow}

item_total : IsTotalOrder item_cmp
item_total = then_total (on_total (λ (f : FileLen). f.node) nat_cmp_total) (on_total (λ (f : FileLen). f.item) nat_cmp_total)

below_not_lower : (a b : FileLen) → IsItemBelow a b → is_lt (item_cmp b a) ≡ false
below_not_lower a b below = grind (arith, nat_tests)

one_more : (k : ℕ) → suc k + 1 ≡ suc (k + 1)
one_more k = omega arith

items_sorted : (files : List FileLen) → AreItemsAscending files → IsSorted item_cmp files
items_sorted [] asc k d low within = absurd (omega (arith, within))
items_sorted (file ∷ files) asc zero d low within = below_not_lower file (get_or files 0 d) (asc.0 0 d (omega (arith, within)))
items_sorted (file ∷ files) asc (suc k) d low within =
    subst (λ n. is_lt (item_cmp (get_or (file ∷ files) n d) (get_or files k d)) ≡ false) (sym (one_more k))
    (items_sorted files asc.1 k d (omega arith) (omega arith))

module _ (node item : ℕ) where
  abbrev pub wanted : FileLen
  wanted = record { node = node; item = item; len = 0 }

  abbrev is_wanted : FileLen → Bool
  is_wanted file = file.node == node && file.item == item

  tied : (file : FileLen) → item_cmp file wanted ≡ Equal → is_wanted file ≡ true
  tied file e = grind (arith, nat_tests)

  lower : (file : FileLen) → item_cmp file wanted ≡ Less → is_wanted file ≡ false
  lower file e = grind (arith, nat_tests)

  higher : (file : FileLen) → item_cmp file wanted ≡ Greater → is_wanted file ≡ false
  higher file e = grind (arith, nat_tests)

  pub searched : (files : List FileLen) (r : Result ℕ ℕ) → AreItemsAscending files → IsSearchInRange r (length files)
      → IsBinarySearchResult (λ file. item_cmp file wanted) files r → (is_ok r ≡ true) ↔ IsListed files node item
  searched files (Ok k) asc within found =
      let one : 1 ≤ count_by is_wanted files = count_member is_wanted files k wanted within (tied (get_or files k wanted) (found wanted)) in
      (λ yes. omega (arith, one), λ listed. refl)
  searched files (Err i) asc within found = (λ yes. absurd (false≢true yes), λ listed. absurd (omega (arith, listed, count_none is_wanted files none)))
    where
      none : All (λ file. is_wanted file ≡ false) files
      none k d below = by (nat_lt k i) refl
        where
          parted : IsPartitionPoint (λ y. item_cmp y wanted ≡ Less) (λ y. item_cmp y wanted ≡ Greater) files i
          parted = found (searchable_from_sorted item_total (λ (f : FileLen). f) files wanted (items_sorted files asc))

          by : (before : Bool) → nat_lt k i ≡ before → is_wanted (get_or files k d) ≡ false
          by true e = lower (get_or files k d) (parted.0 k d (omega arith) (ltb-true k i e))
          by false e = higher (get_or files k d) (parted.1 k d (ltb-false k i e) below)
