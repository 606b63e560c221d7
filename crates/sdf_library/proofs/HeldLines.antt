-- Lines of what a pager holds: what is left of a long one, and what comes to one that goes on.
use Rattle.std.proofs.Common.{◌≡◌, ℕ, zero, suc, ◌+◌, ◌-◌, ◌<◌, ◌≤◌, inl, inr, Bool, true, false, cond, not, nat_lt, nat_le, ◌&&◌, ◌||◌, if◌then◌else◌, List, [], ◌∷◌, ◌++◌, length, take, drop, min, ◌⊎◌, Option, Some, None, refl, sym, ap, subst, ◌∙◌, arith}
use Rattle.std.specs.Prelude.{◌*◌, IfNone, OnSome, is_some}
use Rattle.std.specs.List.{list_any}
use Rattle.std.proofs.lemmas.Bool.{and_parts, cases_lt, cond-true, false≢true, ltb-true}
use Rattle.std.proofs.lemmas.Bool.Decides.{nat_tests}
use Rattle.std.proofs.lemmas.List.{drop-append-le, drop-drop, drop-take, length-drop, length-take, take-append-drop, take_all}
use Rattle.std.proofs.lemmas.List.Folds.{list_any-append, prefix_len-append}
use Rattle.std.proofs.lemmas.List.Sums.{prefix_len-le-length}
use Rattle.beam_values.specs.Lines.{is_line_feed, line_len, next_start}
use Rattle.beam_values.specs.declared.plan.Args.TheVariants.{Nothing}
use Rattle.beam_values.specs.declared.plan.SourceKind.TheVariants.{Lines}
use Rattle.sdf_library.specs.Paging.{Paged, Serves, HoldsLine, IsLean, block, held_from, is_line_cut, page_at}
use Rattle.sdf_library.proofs.Pages.{held_end, served_from, serves_here, serves_page}
use Rattle.sdf_library.proofs.Views.{feed_ends}

-- the first LF stands in the front of a text
line_len-take : (n : ℕ) (text : List ℕ) → line_len text < n → line_len (take n text) ≡ line_len text
line_len-take zero text found = absurd (omega arith)
line_len-take (suc n) [] found = refl
line_len-take (suc n) (byte ∷ bytes) found = by_test (is_line_feed byte) found (line_len-take n bytes)
  where
    by_test : (feed : Bool) → cond (not feed) (1 + line_len bytes) 0 < suc n → (line_len bytes < n → line_len (take n bytes) ≡ line_len bytes)
        → cond (not feed) (1 + line_len (take n bytes)) 0 ≡ cond (not feed) (1 + line_len bytes) 0
    by_test true within rest = refl
    by_test false within rest = ap (λ k. 1 + k) (rest (omega arith))

-- where there is no LF, the line goes on with what comes
quiet_len : (text : List ℕ) → list_any is_line_feed text ≡ false → line_len text ≡ length text
quiet_len text none = grind (arith, nat_tests, none, feed_ends text, prefix_len-le-length (λ byte. not (is_line_feed byte)) text)

line_len-quiet : (front behind : List ℕ) → list_any is_line_feed front ≡ false → line_len (front ++ behind) ≡ length front + line_len behind
line_len-quiet front behind none =
    let whole = quiet_len front none in
    prefix_len-append (λ byte. not (is_line_feed byte)) front behind
    ∙ cond-true _ (length front + line_len behind) (line_len front) (grind (arith, nat_tests, whole))

-- what is left of the line at a position where what stands before it is given up
pub rest_kept : (held : Paged) (p : ℕ) → Serves held p → drop (p - (p - 1)) (held_from (p - 1) held).bytes ≡ drop (p - held.base) held.bytes
rest_kept held p serves = by_test (nat_le held.base (p - 1)) (grind (arith, nat_tests, served_from held p serves))
  where
    by_test : (within : Bool) → (within ≡ true) → drop (p - (p - 1)) (if within then drop (p - 1 - held.base) held.bytes else []) ≡ drop (p - held.base) held.bytes
    by_test true from =
        drop-drop (p - (p - 1)) (p - 1 - held.base) held.bytes ∙ ap (λ n. drop n held.bytes) (omega (arith, served_from held p serves))
    by_test false from = absurd (false≢true from)

drop_of-take : (k m : ℕ) (text : List ℕ) → k ≤ m → drop k (take m text) ≡ take (m - k) (drop k text)
drop_of-take k m text within = ap (λ n. drop k (take n text)) (omega (arith, within)) ∙ drop-take k (m - k) text

-- The front of what goes on from a position has the line there, where it has as many bytes as there are up to the next one; `ends` says whether the item ends with these bytes.
line_in_front : (rest : List ℕ) (n step : ℕ) (on : Bool) → (on && not (list_any is_line_feed rest)) ≡ false → step ≡ min (line_len rest + 1) (length rest) → step ≤ n
    → (line_len (take n rest) ≡ line_len rest) × ((list_any is_line_feed (take n rest) ≡ true) ⊎ ((on ≡ false) × (length rest ≤ n)))
line_in_front rest n step on whole at within =
    elim (cases_lt (line_len rest) (length rest)) [
      | inl found ↦
          let same = line_len-take n rest (omega (arith, at, within, found)) in
          let feed : list_any is_line_feed (take n rest) ≡ true = grind (arith, nat_tests, feed_ends (take n rest), same, length-take n rest, at, within, found) in
          (same, inl feed)
      | inr past ↦
          let all : length rest ≤ n = omega (arith, at, within, past) in
          let none : list_any is_line_feed rest ≡ false = grind (arith, nat_tests, feed_ends rest, past) in
          (ap line_len (take_all n rest all), inr (on_of on (list_any is_line_feed rest) whole none, all))
    ]
  where
    on_of : (on feed : Bool) → (on && not feed) ≡ false → feed ≡ false → on ≡ false
    on_of true feed is none = absurd (false≢true (sym is ∙ ap not none))
    on_of false feed is none = refl

no_cut : (on feed : Bool) → (feed ≡ true) ⊎ (on ≡ false) → (on && not feed) ≡ false
no_cut true feed (inl is) = ap not is
no_cut true feed (inr off) = absurd (false≢true (sym off))
no_cut false feed is = refl

-- so many bytes from the byte before the position on have the line there
pub trimmed : (held : Paged) (p next most : ℕ) → HoldsLine held p → next ≡ held.base + next_start held.bytes (p - held.base)
    → next ≤ (p - 1) + most → most ≤ (next - p) + block → HoldsLine (page_at p most held) p × IsLean p (page_at p most held)
trimmed held p next most line at enough few =
    let rest : List ℕ = drop (p - held.base) held.bytes in
    let from = served_from held p line.0 in
    let reached = line.0.reached in
    let whole : held.base + length held.bytes ≤ held.len = (line.0.view Lines Nothing refl).within in
    let left = (held_from (p - 1) held).bytes in
    let end : p - 1 + length left ≡ held.base + length held.bytes = held_end held p line.0 in
    let long : length rest ≡ length held.bytes - (p - held.base) = length-drop (p - held.base) held.bytes in
    let step : next - p ≡ min (line_len rest + 1) (length rest) = omega (arith, at, from, long, reached) in
    let taken = length-take most left in
    let n : ℕ = most - (p - (p - 1)) in
    let some : next - p ≤ n = omega (arith, enough, at, from, reached) in
    let above : p < next = omega (arith, step, long, from, reached) in
    let kept : drop (p - (p - 1)) (take most left) ≡ take n rest =
    drop_of-take (p - (p - 1)) most left (omega (arith, enough, above)) ∙ ap (take n) (rest_kept held p line.0) in
    let front = line_in_front rest n (next - p) (nat_lt (held.base + length held.bytes) held.len) line.1 step some in
    let serves = serves_page held p most (omega (arith, enough, above)) line.0 in
    let on : (list_any is_line_feed (take n rest) ≡ true) ⊎ (nat_lt (p - 1 + length (take most left)) held.len ≡ false) =
    elim front.1 [
      | inl feed ↦ inl feed
      | inr ends ↦ inr (grind (arith, nat_tests, ends.0, ends.1, taken, end, long, from, reached, whole))
    ] in
    let uncut : is_line_cut p (page_at p most held) ≡ false =
    subst (λ (text : List ℕ). (nat_lt (p - 1 + length (take most left)) held.len && not (list_any is_line_feed text)) ≡ false) (sym kept)
    (no_cut (nat_lt (p - 1 + length (take most left)) held.len) (list_any is_line_feed (take n rest)) on) in
    let lean : length (take most left) ≤ 2 * block + line_len (take n rest) = omega (arith, few, step, taken, front.0) in
    ((serves, uncut), subst (λ (text : List ℕ). length (take most left) ≤ 2 * block + line_len text) (sym kept) lean)

-- ---- a block came to a line that goes on past what was held

pub record GoesOn (old mid new : Paged) (p : ℕ) : Type 0 where
  pub left : mid ≡ held_from (p - 1) old
  pub base : new.base ≡ mid.base
  pub len : new.len ≡ mid.len
  pub front : take (length mid.bytes) new.bytes ≡ mid.bytes
  pub size : length new.bytes ≡ length mid.bytes + min block (mid.len - (mid.base + length mid.bytes))

cut_parts : (p : ℕ) (held : Paged) → is_line_cut p held ≡ true
    → (held.base + length held.bytes < held.len) × (list_any is_line_feed (drop (p - held.base) held.bytes) ≡ false)
cut_parts p held cut =
    let parts = and_parts (nat_lt (held.base + length held.bytes) held.len) (not (list_any is_line_feed (drop (p - held.base) held.bytes))) cut in
    (ltb-true (held.base + length held.bytes) held.len parts.0, quiet (list_any is_line_feed (drop (p - held.base) held.bytes)) parts.1)
  where
    quiet : (feed : Bool) → not feed ≡ true → feed ≡ false
    quiet true is = absurd (false≢true is)
    quiet false is = refl

module _ (old mid new : Paged) (p : ℕ) (goes : GoesOn old mid new p) (serves : Serves old p) (cut : is_line_cut p old ≡ true) where
  at_left : mid.base ≡ p - 1
  at_left = ap (λ (q : Paged). q.base) goes.left

  len_left : mid.len ≡ old.len
  len_left = ap (λ (q : Paged). q.len) goes.left

  end_left : p - 1 + length mid.bytes ≡ old.base + length old.bytes
  end_left = ap (λ (q : Paged). p - 1 + length q.bytes) goes.left ∙ held_end old p serves

  text_left : drop (p - (p - 1)) mid.bytes ≡ drop (p - old.base) old.bytes
  text_left = ap (λ (q : Paged). drop (p - (p - 1)) q.bytes) goes.left ∙ rest_kept old p serves

  -- what goes on from the position is what did, and then what was read
  text_now : drop (p - (p - 1)) new.bytes ≡ drop (p - old.base) old.bytes ++ drop (length mid.bytes) new.bytes
  text_now =
      ap (λ (bytes : List ℕ). drop (p - (p - 1)) bytes) (sym (take-append-drop (length mid.bytes) new.bytes) ∙ ap (λ (bytes : List ℕ). bytes ++ drop (length mid.bytes) new.bytes) goes.front)
      ∙ drop-append-le (p - (p - 1)) mid.bytes (drop (length mid.bytes) new.bytes) (omega (arith, end_left, serves.reached))
      ∙ ap (λ (bytes : List ℕ). bytes ++ drop (length mid.bytes) new.bytes) text_left

  text_here : drop (p - new.base) new.bytes ≡ drop (p - old.base) old.bytes ++ drop (length mid.bytes) new.bytes
  text_here = ap (λ (b : ℕ). drop (p - b) new.bytes) (goes.base ∙ at_left) ∙ text_now

  quiet_left : list_any is_line_feed (drop (p - old.base) old.bytes) ≡ false
  quiet_left = (cut_parts p old cut).1

  pub goes_further : old.base + length old.bytes < new.base + length new.bytes
  goes_further =
      let some = (cut_parts p old cut).0 in
      omega (arith, some, end_left, at_left, len_left, goes.base, goes.size)

  pub goes_serving : new.base + length new.bytes ≤ new.len → Serves new p
  goes_serving whole =
      serves_here new p (omega (arith, at_left, goes.base)) (omega (arith, goes_further, serves.reached)) whole

  -- it ends in the block, or goes on past that one
  pub goes_on_as : is_line_cut p new ≡ is_line_cut (old.base + length old.bytes) new
  goes_on_as =
      let on : Bool = nat_lt (new.base + length new.bytes) new.len in
      let there : old.base + length old.bytes - new.base ≡ length mid.bytes = omega (arith, end_left, at_left, goes.base) in
      ap (λ (text : List ℕ). on && not (list_any is_line_feed text)) text_here
      ∙ ap (λ (feed : Bool). on && not feed) (list_any-append is_line_feed (drop (p - old.base) old.bytes) (drop (length mid.bytes) new.bytes)
      ∙ ap (λ (feed : Bool). feed || list_any is_line_feed (drop (length mid.bytes) new.bytes)) quiet_left)
      ∙ ap (λ (n : ℕ). on && not (list_any is_line_feed (drop n new.bytes))) (sym there)

  pub goes_lean : IsLean p new
  goes_lean =
      let long = length-drop (p - old.base) old.bytes in
      let line : line_len (drop (p - new.base) new.bytes) ≡ length (drop (p - old.base) old.bytes) + line_len (drop (length mid.bytes) new.bytes) =
      ap line_len text_here ∙ line_len-quiet (drop (p - old.base) old.bytes) (drop (length mid.bytes) new.bytes) quiet_left in
      omega (arith, line, long, goes.size, end_left, served_from old p serves, serves.reached)

-- an answer that says whether the line ends
pub ended_is : (end : Option ℕ) (cut : Bool) → IfNone end (cut ≡ true) → OnSome end (cut ≡ false) → cut ≡ not (is_some end)
ended_is None cut none some = none
ended_is (Some next) cut none some = some
