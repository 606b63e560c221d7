-- A look at a file tells of a position what the whole file does.
use Rattle.std.proofs.Common.{◌≡◌, ℕ, zero, suc, ◌+◌, ◌-◌, ◌<◌, ◌≤◌, inl, inr, Bool, true, false, cond, not, nat_lt, ◌||◌, ◌&&◌, if◌then◌else◌, List, [], ◌∷◌, ◌++◌, length, take, drop, get_or, min, refl, sym, ap, ◌∙◌, arith}
use Rattle.std.specs.List.{list_any}
use Rattle.std.proofs.lemmas.Bool.{cases_lt, cond-true, lt-ltb, le-ltb, not-true}
use Rattle.std.proofs.lemmas.Bool.Decides.{nat_tests}
use Rattle.std.proofs.lemmas.List.{append-nil, drop-drop, drop-append-le, drop_all, get_or-drop, get_or-take, length-append, length-drop, take-append-drop, take-append-le}
use Rattle.std.proofs.lemmas.List.Sums.{passes_at_first, prefix_len-le-length, prefix_len_passes}
use Rattle.beam_values.specs.Functions.{timed_line}
use Rattle.beam_values.specs.Lines.{is_line_feed, starts_line, line_len, without_return, first_line, line_at, next_start}
use Rattle.beam_values.specs.Times.{least_time}
use Rattle.beam_values.specs.declared.plan.Args.{Args}
use Rattle.beam_values.specs.declared.plan.SourceKind.{SourceKind}
use Rattle.beam_values.specs.declared.plan.SourceKind.TheVariants.{Lines, TimedLines, Count, Made}
use Rattle.beam_model.specs.Positions.{nothing, emits_one, line_emission, positions_in, emission_within, emission, next_position}
use Rattle.beam_model.specs.Values.{blob}
use Rattle.dofn_traits.specs.Calls.{is_cut_short, IsView, IsViewOf}
use Rattle.sdf_library.specs.Sources.{emission_seen, next_seen}

-- a text has an LF where its first line is ended by one
pub feed_ends : (rest : List ℕ) → list_any is_line_feed rest ≡ nat_lt (line_len rest) (length rest)
feed_ends [] = refl
feed_ends (byte ∷ bytes) = by_test (is_line_feed byte) (feed_ends bytes)
  where
    by_test : (feed : Bool) → list_any is_line_feed bytes ≡ nat_lt (line_len bytes) (length bytes)
        → (feed || list_any is_line_feed bytes) ≡ nat_lt (cond (not feed) (1 + line_len bytes) 0) (suc (length bytes))
    by_test true rest = sym (lt-ltb 0 (suc (length bytes)) (omega arith))
    by_test false rest = grind (arith, nat_tests)

-- an LF stands before the place where the next line would start, or there is none
pub ended_at_next : (rest : List ℕ) (next : ℕ) → next ≡ min (line_len rest + 1) (length rest) → 0 < next → starts_line rest next ≡ list_any is_line_feed rest
ended_at_next rest zero is some = absurd (omega arith)
ended_at_next rest (suc k) is some =
    elim (cases_lt (line_len rest) (length rest)) [
      | inl found ↦
          let at : k ≡ line_len rest = omega arith in
          ap (λ i. is_line_feed (get_or rest i 0)) at ∙ passes_at_first is_line_feed rest 0 found ∙ sym (feed_ends rest ∙ lt-ltb (line_len rest) (length rest) found)
      | inr past ↦
          not-true _ (prefix_len_passes (λ byte. not (is_line_feed byte)) rest k 0 (omega arith)) ∙ sym (feed_ends rest ∙ le-ltb (line_len rest) (length rest) past)
    ]

-- what stands behind the LF that ends a line doesn't change it
line_len-front : (rest behind : List ℕ) → line_len rest < length rest → line_len (rest ++ behind) ≡ line_len rest
line_len-front [] behind found = absurd (omega arith)
line_len-front (byte ∷ bytes) behind found = by_test (is_line_feed byte) found (λ within. line_len-front bytes behind within)
  where
    by_test : (feed : Bool) → cond (not feed) (1 + line_len bytes) 0 < suc (length bytes)
        → (line_len bytes < length bytes → line_len (bytes ++ behind) ≡ line_len bytes)
        → cond (not feed) (1 + line_len (bytes ++ behind)) 0 ≡ cond (not feed) (1 + line_len bytes) 0
    by_test true within front = refl
    by_test false within front = ap (λ n. 1 + n) (front (omega arith))

first_line-front : (rest behind : List ℕ) → line_len rest < length rest → first_line (rest ++ behind) ≡ first_line rest
first_line-front rest behind found =
    let len = line_len-front rest behind found in
    let within : line_len (rest ++ behind) < length (rest ++ behind) = omega (arith, length-append rest behind, len) in
    cond-true _ (without_return (take (line_len (rest ++ behind)) (rest ++ behind))) (rest ++ behind) (lt-ltb (line_len (rest ++ behind)) (length (rest ++ behind)) within)
    ∙ ap (λ n. without_return (take n (rest ++ behind))) len
    ∙ ap without_return (take-append-le (line_len rest) rest behind (omega arith))
    ∙ sym (cond-true _ (without_return (take (line_len rest) rest)) rest (lt-ltb (line_len rest) (length rest) found))

-- where a line starts is seen from the byte before
starts_seen : (file bytes : List ℕ) (base p : ℕ) → bytes ≡ take (length bytes) (drop base file) → base ≤ p → (0 < p → base < p) → p ≤ base + length bytes
    → starts_line file p ≡ starts_line bytes (p - base)
starts_seen file bytes base zero shown from_base from_before reached =
    let at : zero - base ≡ zero = omega arith in sym (ap (starts_line bytes) at)
starts_seen file bytes base (suc q) shown from_base from_before reached =
    let before : base < suc q = from_before (omega arith) in
    let at : suc q - base ≡ suc (q - base) = omega arith in
    let there : base + (q - base) ≡ q = omega arith in
    let byte : get_or bytes (q - base) 0 ≡ get_or file q 0 =
    ap (λ text. get_or text (q - base) 0) shown ∙ get_or-take (length bytes) (drop base file) (q - base) 0 (omega arith)
    ∙ get_or-drop base file (q - base) 0 ∙ ap (λ i. get_or file i 0) there in
    sym (ap (starts_line bytes) at ∙ ap is_line_feed byte)

module _ (file bytes : List ℕ) (base p : ℕ) (shown : bytes ≡ take (length bytes) (drop base file)) (from_base : base ≤ p) (reached : p ≤ base + length bytes) where
  rest_of_file : drop p file ≡ drop (p - base) bytes ++ drop (base + length bytes) file
  rest_of_file =
      let there : p ≡ base + (p - base) = omega arith in
      ap (λ i. drop i file) there ∙ sym (drop-drop (p - base) base file)
      ∙ ap (drop (p - base)) (sym (take-append-drop (length bytes) (drop base file)) ∙ ap (λ text. text ++ drop (length bytes) (drop base file)) (sym shown) ∙ ap (λ text. bytes ++ text) (drop-drop (length bytes) base file))
      ∙ drop-append-le (p - base) bytes (drop (base + length bytes) file) (omega arith)

  -- a line that is ended by an LF is seen whole
  ended_seen : line_len (drop (p - base) bytes) < length (drop (p - base) bytes)
      → (line_at file p ≡ line_at bytes (p - base)) × (line_len (drop p file) ≡ line_len (drop (p - base) bytes))
  ended_seen found =
      (ap first_line rest_of_file ∙ first_line-front (drop (p - base) bytes) (drop (base + length bytes) file) found, ap line_len rest_of_file ∙ line_len-front (drop (p - base) bytes) (drop (base + length bytes) file) found)

  -- so is one that goes up to the end
  last_seen : base + length bytes ≡ length file → (line_at file p ≡ line_at bytes (p - base)) × (line_len (drop p file) ≡ line_len (drop (p - base) bytes))
  last_seen whole =
      let same : drop p file ≡ drop (p - base) bytes =
      rest_of_file ∙ ap (λ text. drop (p - base) bytes ++ text) (drop_all (base + length bytes) file (omega arith)) ∙ append-nil (drop (p - base) bytes) in
      (ap first_line same, ap line_len same)

-- the line at a position, and the position after it
pub record SeesLine (file bytes : List ℕ) (base p : ℕ) : Type 0 where
  pub starts : starts_line file p ≡ starts_line bytes (p - base)
  pub line : line_at file p ≡ line_at bytes (p - base)
  pub next : next_start file p ≡ base + next_start bytes (p - base)

sees_line : (file bytes : List ℕ) (base len p : ℕ) → length file ≡ len → bytes ≡ take (length bytes) (drop base file)
    → base ≤ p → (0 < p → base < p) → p ≤ base + length bytes → base + length bytes ≤ len
    → nat_lt (base + length bytes) len && not (list_any is_line_feed (drop (p - base) bytes)) ≡ false → SeesLine file bytes base p
sees_line file bytes base len p long shown from_base from_before reached within whole =
    elim (cases_lt (line_len (drop (p - base) bytes)) (length (drop (p - base) bytes))) [
      | inl found ↦
          let same = ended_seen file bytes base p shown from_base reached found in
          record {
            starts = starts_seen file bytes base p shown from_base from_before reached;
            line = same.0;
            next = omega (arith, same.1, length-drop (p - base) bytes);
          }
      | inr past ↦
          let none : list_any is_line_feed (drop (p - base) bytes) ≡ false = feed_ends (drop (p - base) bytes) ∙ le-ltb _ _ past in
          let ends : base + length bytes ≡ length file = grind (arith, nat_tests) in
          let same = last_seen file bytes base p shown from_base reached ends in
          record {
            starts = starts_seen file bytes base p shown from_base from_before reached;
            line = same.0;
            next = omega (arith, same.1, length-drop (p - base) bytes, prefix_len-le-length (λ byte. not (is_line_feed byte)) (drop (p - base) bytes));
          }
    ]

-- ---- of any source

emission_inside : (kind : SourceKind) (args : Args) (file : List ℕ) (len p : ℕ) → positions_in kind args file ≡ len → p < len
    → emission kind args file p ≡ emission_within kind args file p
emission_inside kind args file len p long inside =
    cond-true _ (emission_within kind args file p) nothing (lt-ltb p (positions_in kind args file) (omega arith))

within_seen : (kind : SourceKind) (args : Args) (file bytes : List ℕ) (base len p : ℕ) → IsView kind args bytes base len p → IsViewOf file kind args bytes base len
    → is_cut_short kind bytes base len p ≡ false
    → (emission_within kind args file p ≡ emission_seen kind args bytes base p) × (next_position kind file p ≡ next_seen kind bytes base p)
within_seen Lines args file bytes base len p view of whole =
    let sees = sees_line file bytes base len p of.positions of.shown (view.from_base refl) (view.from_before refl) (view.reached refl) view.within whole in (
      ap (λ starts. if starts then emits_one (blob (line_at file p)) least_time else nothing) sees.starts
          ∙ ap (λ line. if starts_line bytes (p - base) then emits_one (blob line) least_time else nothing) sees.line,
      sees.next,
    )
within_seen TimedLines args file bytes base len p view of whole =
    let sees = sees_line file bytes base len p of.positions of.shown (view.from_base refl) (view.from_before refl) (view.reached refl) view.within whole in (
      ap (λ starts. if starts then line_emission (timed_line (line_at file p)) else nothing) sees.starts
          ∙ ap (λ line. if starts_line bytes (p - base) then line_emission (timed_line line) else nothing) sees.line,
      sees.next,
    )
within_seen Count args file bytes base len p view of whole = (refl, refl)
within_seen Made args file bytes base len p view of whole = (refl, refl)

-- a view of a position shows the emission that the model gives it
pub emission_is_seen : (kind : SourceKind) (args : Args) (file bytes : List ℕ) (base len p : ℕ) → IsView kind args bytes base len p → IsViewOf file kind args bytes base len
    → is_cut_short kind bytes base len p ≡ false → emission kind args file p ≡ emission_seen kind args bytes base p
emission_is_seen kind args file bytes base len p view of whole =
    emission_inside kind args file len p of.positions view.inside ∙ (within_seen kind args file bytes base len p view of whole).0

pub next_is_seen : (kind : SourceKind) (args : Args) (file bytes : List ℕ) (base len p : ℕ) → IsView kind args bytes base len p → IsViewOf file kind args bytes base len
    → is_cut_short kind bytes base len p ≡ false → next_position kind file p ≡ next_seen kind bytes base p
next_is_seen kind args file bytes base len p view of whole = (within_seen kind args file bytes base len p view of whole).1

-- the position after it lies above it, and within the item
next_line_within : (bytes : List ℕ) (base len p : ℕ) → p < len → base ≤ p → p ≤ base + length bytes → base + length bytes ≤ len
    → nat_lt (base + length bytes) len && not (list_any is_line_feed (drop (p - base) bytes)) ≡ false
    → (p < base + next_start bytes (p - base)) × (base + next_start bytes (p - base) ≤ len)
next_line_within bytes base len p inside from_base reached within whole =
    let long = length-drop (p - base) bytes in
    let more : p - base < length bytes =
    elim (cases_lt (p - base) (length bytes)) [
      | inl before ↦ before
      | inr past ↦
          let none : drop (p - base) bytes ≡ [] = drop_all (p - base) bytes past in
          let quiet : list_any is_line_feed (drop (p - base) bytes) ≡ false = ap (list_any is_line_feed) none in
          let ends : base + length bytes ≡ len = grind (arith, nat_tests) in
          absurd (omega arith)
    ] in
    (omega arith, omega arith)

pub next_seen_within : (kind : SourceKind) (args : Args) (bytes : List ℕ) (base len p : ℕ) → IsView kind args bytes base len p
    → is_cut_short kind bytes base len p ≡ false → (p < next_seen kind bytes base p) × (next_seen kind bytes base p ≤ len)
next_seen_within Lines args bytes base len p view whole =
    next_line_within bytes base len p view.inside (view.from_base refl) (view.reached refl) view.within whole
next_seen_within TimedLines args bytes base len p view whole =
    next_line_within bytes base len p view.inside (view.from_base refl) (view.reached refl) view.within whole
next_seen_within Count args bytes base len p view whole = let inside = view.inside in (omega arith, omega arith)
next_seen_within Made args bytes base len p view whole = let inside = view.inside in (omega arith, omega arith)
