-- What sorts leave, seen through the references that were sorted.
use Rattle.std.proofs.Common.{◌≡◌, ℕ, ◌+◌, ◌<◌, true, false, List, [], ◌∷◌, ◌++◌, map, length, get_or, ap, refl, subst, ◌∙◌, arith}
use Rattle.std.specs.Borrow.{Bor}
use Rattle.std.specs.declared.cmp.Ordering.{Ordering}
use Rattle.std.specs.declared.cmp.Ordering.TheVariants.{Less, Equal, Greater}
use Rattle.std.specs.Ordering.{is_le, is_lt, ordering_reverse}
use Rattle.std.specs.Cmp.{IsTotalOrder}
use Rattle.std.specs.List.{flat_map, filter}
use Rattle.std.specs.List.Sorted.{IsSorted, IsPermutation}
use Rattle.std.proofs.lemmas.Cmp.{int_cmp_total, nat_cmp_total, nat_list_cmp_total, on_total, then_total}
use Rattle.std.proofs.lemmas.List.{get_or-map, length-map}
use Rattle.std.proofs.lemmas.List.Sorted.{IsPermutation-map}
use Rattle.beam_values.specs.Bags.{IsSameBag}
use Rattle.beam_values.specs.Elements.{element_cmp}
use Rattle.beam_values.specs.Spelling.{spelling}
use Rattle.beam_values.specs.Texts.{element_line}
use Rattle.beam_values.specs.Timings.{timing_number}
use Rattle.beam_values.specs.declared.element.Element.{Element}
use Rattle.beam_values.specs.declared.log.KeyLog.{KeyLog}
use Rattle.beam_values.specs.declared.plan.Plan.{Plan}
use Rattle.beam_values.proofs.Bags.{bag_from_permutation, bag_sym}
use Rattle.beam_model.specs.Rendering.{IsLines, IsLogged, is_printed, log_cmp, log_lines}
use Rattle.beam_text.specs.Parts.{AppendsText, elements_in, logs_in}

pub sorted_map : {A B : Type 0} (f : A → B) (R : B → B → Ordering) (xs : List A) → IsSorted (λ x y. R (f x) (f y)) xs → IsSorted R (map f xs)
sorted_map f R [] up k d z l = absurd (omega arith)
sorted_map f R (x ∷ xs) up k d z l =
    let within : k + 1 < length (x ∷ xs) = omega (arith, length-map (x ∷ xs) f) in
    ap (λ y. is_lt (R y (get_or (map f (x ∷ xs)) k d))) (get_or-map f (x ∷ xs) (k + 1) x d within)
    ∙ ap (λ y. is_lt (R (f (get_or (x ∷ xs) (k + 1) x)) y)) (get_or-map f (x ∷ xs) k x d (omega arith))
    ∙ up k x z within

pub same_bag : {A B : Type 0} (f : A → B) (xs ys : List A) → IsPermutation xs ys → IsSameBag (map f ys) (map f xs)
same_bag f xs ys h = bag_sym (map f xs) (map f ys) (bag_from_permutation (map f xs) (map f ys) (IsPermutation-map f xs ys h))

pub log_total : IsTotalOrder log_cmp
log_total =
    then_total (on_total (λ (log : KeyLog). log.node) nat_cmp_total)
    (then_total (on_total (λ (log : KeyLog). spelling log.key) nat_list_cmp_total)
    (then_total (on_total (λ (log : KeyLog). log.span.start) int_cmp_total) (on_total (λ (log : KeyLog). log.span.end) int_cmp_total)))

element_total : IsTotalOrder element_cmp
element_total =
    then_total
    (then_total (on_total (λ (e : Element). e.span.start) int_cmp_total)
    (then_total (on_total (λ (e : Element). e.span.end) int_cmp_total)
    (then_total (on_total (λ (e : Element). e.pane.index) nat_cmp_total)
    (then_total (on_total (λ (e : Element). timing_number e.pane.timing) nat_cmp_total) (on_total (λ (e : Element). e.time) int_cmp_total)))))
    (on_total (λ (e : Element). spelling e.value) nat_list_cmp_total)

not_above : (order : Ordering) → is_le order ≡ true → is_lt (ordering_reverse order) ≡ false
not_above Less h = refl
not_above Equal h = refl
not_above Greater h = absurd cc

-- elements of which none is above the next one
pub ascending_by_neighbours : (elements : List (Bor Element))
    → ((k : ℕ) (d : Bor Element) → k + 1 < length elements → is_le (element_cmp (get_or elements k d).now (get_or elements (k + 1) d).now) ≡ true)
    → IsSorted (λ x y. element_cmp x.now y.now) elements
ascending_by_neighbours elements each k d from within =
    let one : Element = (get_or elements k d).now in
    let next : Element = (get_or elements (k + 1) d).now in
    ap is_lt (element_total.antisymm next one) ∙ not_above (element_cmp one next) (each k d within)

-- sorted references to elements, printed in their order
pub adds_lines : (elements sorted printed : List (Bor Element)) (before after : List ℕ) → IsPermutation elements sorted
    → IsSorted (λ x y. element_cmp x.now y.now) sorted → printed ≡ sorted → after ≡ before ++ flat_map element_line (elements_in printed)
    → AppendsText (IsLines (elements_in elements)) before after
adds_lines elements sorted printed before after moved up same added = (
  flat_map element_line (elements_in sorted),
  record {
    sorted = elements_in sorted;
    all = same_bag (λ element. element.now) elements sorted moved;
    ascending = sorted_map (λ element. element.now) element_cmp sorted up;
    printed = refl;
  },
  added ∙ ap (λ l. before ++ flat_map element_line (elements_in l)) same,
)

-- sorted references to logs, printed in their order
pub adds_logs : (plan : Plan) (logs : List KeyLog) (chosen sorted printed : List (Bor KeyLog)) (before after : List ℕ)
    → logs_in chosen ≡ filter (is_printed plan) logs → IsPermutation chosen sorted → IsSorted (λ x y. log_cmp x.now y.now) sorted → printed ≡ sorted
    → after ≡ before ++ flat_map log_lines (logs_in printed)
    → AppendsText (IsLogged plan logs) before after
adds_logs plan logs chosen sorted printed before after filtered moved up same added = (
  flat_map log_lines (logs_in sorted),
  record {
    sorted = logs_in sorted;
    all = subst (λ (l : List KeyLog). IsSameBag (logs_in sorted) l) filtered (same_bag (λ log. log.now) chosen sorted moved);
    ascending = sorted_map (λ log. log.now) log_cmp sorted up;
    printed = refl;
  },
  added ∙ ap (λ l. before ++ flat_map log_lines (logs_in l)) same,
)
