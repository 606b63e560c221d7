-- Tests of the elements of a list with their numbers.
use Rattle.std.proofs.Common.{◌≡◌, ℕ, ◌+◌, ◌<◌, Bool, true, false, ◌||◌, List, length, get_or, take, sym, ap, ◌∙◌, zero-add, arith}
use Rattle.std.specs.List.{enumerate_from, list_any}
use Rattle.std.proofs.lemmas.List.Folds.{list_any_at, list_any_more}
use Rattle.std.proofs.lemmas.List.FromFn.{get_or-enumerate_from, length-enumerate_from}

module _ {X : Type 0} (f : ℕ × X → Bool) (xs : List X) (i : ℕ) (x : X) (within : i < length xs) (is : x ≡ get_or xs i x) where
  at_number : f (get_or (enumerate_from 0 xs) i (0, x)) ≡ f (i, x)
  at_number =
      ap f (get_or-enumerate_from 0 xs i (0, x) within) ∙ ap (λ n. f (n, get_or xs i x)) (zero-add i) ∙ ap (λ y. f (i, y)) (sym is)

  pub passes_here : f (i, x) ≡ true → list_any f (enumerate_from 0 xs) ≡ true
  passes_here here =
      list_any_at f (enumerate_from 0 xs) i (0, x) (omega (arith, within, length-enumerate_from 0 xs)) (at_number ∙ here)

  pub none_up_to : list_any f (take i (enumerate_from 0 xs)) ≡ false → f (i, x) ≡ false → list_any f (take (i + 1) (enumerate_from 0 xs)) ≡ false
  none_up_to before here =
      list_any_more f (enumerate_from 0 xs) i (0, x) (omega (arith, within, length-enumerate_from 0 xs))
      ∙ ap (λ b. b || f (get_or (enumerate_from 0 xs) i (0, x))) before ∙ at_number ∙ here
