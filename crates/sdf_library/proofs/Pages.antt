-- What a pager holds of a file stays bytes of it where some are given up or more are read.
use Rattle.std.proofs.Common.{◌≡◌, ℕ, zero, suc, ◌+◌, ◌-◌, ◌<◌, ◌≤◌, inl, inr, Bool, true, false, if◌then◌else◌, nat_le, List, [], ◌++◌, length, take, drop, Option, Some, None, Result, Ok, Err, OnErr, IsSomeAnd, refl, sym, ap, ◌∙◌, arith}
use Rattle.std.proofs.Math.ListN.{drop_of_length-le}
use Rattle.std.proofs.Math.Seq.{take-add}
use Rattle.std.proofs.lemmas.Bool.{cases_lt, false≢true}
use Rattle.std.proofs.lemmas.Bool.Decides.{nat_tests}
use Rattle.std.proofs.lemmas.List.{drop-drop, drop-take, length-drop, length-take, length-take-le, take-append-drop, take-take, take_all}
use Rattle.beam_values.specs.declared.plan.Args.TheVariants.{Nothing}
use Rattle.beam_values.specs.declared.plan.SourceKind.TheVariants.{Lines}
use Rattle.beam_ports.specs.Files.{Opening}
use Rattle.sdf_library.specs.Paging.{Paged, HoldsFile, Serves, block, block_at, cut_where, held_from, page_at}

-- more was read behind what was held
pub held_more : (old new text : List ℕ) (base k n : ℕ) → take k new ≡ old → length new ≡ k + n → drop k new ≡ take n (drop (base + k) text)
    → old ≡ take k (drop base text) → new ≡ take (length new) (drop base text)
held_more old new text base k n front size read held =
    sym (take-append-drop k new) ∙ ap (λ f. f ++ drop k new) (front ∙ held)
    ∙ ap (λ r. take k (drop base text) ++ r) (read ∙ ap (λ t. take n t) (sym (drop-drop k base text)))
    ∙ sym (take-add k n (drop base text)) ∙ ap (λ m. take m (drop base text)) (sym size)

-- the first bytes were given up
pub held_later : (bytes text : List ℕ) (base k : ℕ) → bytes ≡ take (length bytes) (drop base text)
    → drop k bytes ≡ take (length (drop k bytes)) (drop (base + k) text)
held_later bytes text base k held =
    elim (cases_lt k (length bytes)) [
      | inl within ↦
          let split : length bytes ≡ k + (length bytes - k) = omega (arith, within) in
          ap (drop k) (held ∙ ap (λ n. take n (drop base text)) split) ∙ drop-take k (length bytes - k) (drop base text)
          ∙ ap (λ t. take (length bytes - k) t) (drop-drop k base text) ∙ ap (λ n. take n (drop (base + k) text)) (sym (length-drop k bytes))
      | inr past ↦
          let none = drop_of_length-le bytes past in
          none ∙ ap (λ b. take (length b) (drop (base + k) text)) (sym none)
    ]

-- the last bytes were given up
pub held_front : (bytes text : List ℕ) (base k : ℕ) → bytes ≡ take (length bytes) (drop base text)
    → take k bytes ≡ take (length (take k bytes)) (drop base text)
held_front bytes text base k held =
    elim (cases_lt k (length bytes)) [
      | inl within ↦
          let short : k ≤ length bytes = omega (arith, within) in
          ap (take k) held ∙ take-take k (length bytes) (drop base text) short
          ∙ ap (λ n. take n (drop base text)) (sym (length-take-le k bytes short))
      | inr past ↦
          let all = take_all k bytes past in
          all ∙ held ∙ ap (λ b. take (length b) (drop base text)) (sym all)
    ]

pub holds_from : (opening : Option Opening) (held : Paged) (first : ℕ) → HoldsFile opening held → HoldsFile opening (held_from first held)
holds_from opening held first holds text is whole = by_test (nat_le held.base first) (λ within. grind (arith, nat_tests, within))
  where
    by_test : (within : Bool) → (within ≡ true → held.base + (first - held.base) ≡ first)
        → (if within then drop (first - held.base) held.bytes else [])
        ≡ take (length (if within then drop (first - held.base) held.bytes else [])) (drop first text)
    by_test true at =
        held_later held.bytes text held.base (first - held.base) (holds text is whole)
        ∙ ap (λ n. take (length (drop (first - held.base) held.bytes)) (drop n text)) (at refl)
    by_test false at = refl

-- no more is held then
pub held_less : (held : Paged) (first : ℕ) → length (held_from first held).bytes ≤ length held.bytes
held_less held first = by_test (nat_le held.base first)
  where
    by_test : (within : Bool) → length (if within then drop (first - held.base) held.bytes else []) ≤ length held.bytes
    by_test true = omega (arith, length-drop (first - held.base) held.bytes)
    by_test false = omega arith

pub serves_here : (held : Paged) (p : ℕ) → held.base ≤ p - 1 → p < held.base + length held.bytes → held.base + length held.bytes ≤ held.len
    → Serves held p
serves_here held p from reached within = record {
  reached = reached;
  view = λ kind args reads. record {
    inside = omega (arith, reached, within);
    within = within;
    from_base = λ _. omega (arith, from);
    from_before = λ _ some. omega (arith, from, some);
    reached = λ _. omega (arith, reached);
    counted = λ not_file. absurd (false≢true (sym not_file ∙ reads));
  };
}

-- where a position isn't served, at most the byte before it is left
pub held_behind : (held : Paged) (p : ℕ) → held.base + length held.bytes ≤ held.len → (Serves held p → ⊥) → length (held_from (p - 1) held).bytes ≤ 1
held_behind held p whole not_served = by_test (nat_le held.base (p - 1)) (λ within. grind (arith, nat_tests, within))
  where
    by_test : (within : Bool) → (within ≡ true → held.base ≤ p - 1) → length (if within then drop (p - 1 - held.base) held.bytes else []) ≤ 1
    by_test true from =
        elim (cases_lt p (held.base + length held.bytes)) [
          | inl reached ↦ absurd (not_served (serves_here held p (from refl) reached whole))
          | inr past ↦ omega (arith, length-drop (p - 1 - held.base) held.bytes, from refl, past)
        ]
    by_test false from = omega arith

pub served_from : (held : Paged) (p : ℕ) → Serves held p → held.base ≤ p - 1
served_from held zero serves = (serves.view Lines Nothing refl).from_base refl
served_from held (suc q) serves = omega (arith, (serves.view Lines Nothing refl).from_before refl (omega arith))

-- where a position is served, what is left ends where all did
pub held_end : (held : Paged) (p : ℕ) → Serves held p → p - 1 + length (held_from (p - 1) held).bytes ≡ held.base + length held.bytes
held_end held p serves = by_test (nat_le held.base (p - 1)) (grind (arith, nat_tests, served_from held p serves))
  where
    by_test : (within : Bool) → (within ≡ true) → p - 1 + length (if within then drop (p - 1 - held.base) held.bytes else []) ≡ held.base + length held.bytes
    by_test true from = omega (arith, length-drop (p - 1 - held.base) held.bytes, serves.reached, served_from held p serves)
    by_test false from = absurd (false≢true from)

-- so much of it serves, too, if it goes past the position
pub serves_page : (held : Paged) (p most : ℕ) → p < (p - 1) + most → Serves held p → Serves (page_at p most held) p
serves_page held p most some serves =
    let end = held_end held p serves in
    let cut = length-take most (held_from (p - 1) held).bytes in
    let whole : held.base + length held.bytes ≤ held.len = (serves.view Lines Nothing refl).within in
    serves_here (page_at p most held) p (omega arith) (omega (arith, end, cut, some, serves.reached)) (omega (arith, end, cut, whole, served_from held p serves))

pub holds_page : (opening : Option Opening) (held : Paged) (p most : ℕ) → HoldsFile opening held → HoldsFile opening (page_at p most held)
holds_page opening held p most holds text is whole =
    held_front (held_from (p - 1) held).bytes text (p - 1) most (holds_from opening held (p - 1) holds text is whole)

pub holds_cut_to : (opening : Option Opening) (held : Paged) (most : ℕ) → HoldsFile opening held → HoldsFile opening (record held { bytes = take most held.bytes })
holds_cut_to opening held most holds text is whole = held_front held.bytes text held.base most (holds text is whole)

-- what a cut leaves
pub serves_cut : (more : Bool) (held : Paged) (p : ℕ) → Serves held p → Serves (cut_where more p held) p
serves_cut true held p serves = serves
serves_cut false held p serves = by_test (nat_le (length held.bytes) block)
  where
    by_test : (small : Bool) → Serves (if small then held else block_at p held) p
    by_test true = serves
    by_test false = serves_page held p block (omega arith) serves

pub holds_cut : (more : Bool) (opening : Option Opening) (held : Paged) (p : ℕ) → HoldsFile opening held → HoldsFile opening (cut_where more p held)
holds_cut true opening held p holds = holds
holds_cut false opening held p holds = by_test (nat_le (length held.bytes) block)
  where
    by_test : (small : Bool) → HoldsFile opening (if small then held else block_at p held)
    by_test true = holds
    by_test false = holds_page opening held p block holds

pub cut_less : (more : Bool) (held : Paged) (p : ℕ) → length (cut_where more p held).bytes ≤ length held.bytes
cut_less true held p = omega arith
cut_less false held p = by_test (nat_le (length held.bytes) block)
  where
    by_test : (small : Bool) → length (if small then held else block_at p held).bytes ≤ length held.bytes
    by_test true = omega arith
    by_test false = omega (arith, length-take block (held_from (p - 1) held).bytes, held_less held (p - 1))

-- what is told of a file after a call was told of it before
pub told_before : (old new : Option Opening) (len : ℕ) (text : List ℕ) → IsSomeAnd old (λ opening. opening.len ≡ len)
    → ((opening : Opening) → old ≡ Some opening → new ≡ Some opening) → new ≡ Some (record { len = len; text = Some text })
    → old ≡ Some (record { len = len; text = Some text })
told_before None new len text opened kept is = absurd opened
told_before (Some opening) new len text opened kept is = sym (kept opening refl) ∙ is

pub on_err : {T E P : Type 0} (r : Result T E) → P → OnErr r P
on_err (Ok value) p = tt
on_err (Err refusal) p = p
