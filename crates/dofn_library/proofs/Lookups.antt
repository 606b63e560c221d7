-- What belongs to a key in a view that is in order is in order.
use Rattle.std.proofs.Common.{◌≡◌, ◌⊎◌, inl, inr, Bool, true, false, List, [], ◌∷◌, ◌++◌, Option, Some, None, refl, ap, ◌∙◌, sym, arith}
use Rattle.std.specs.Prelude.{if◌then◌else◌, bytes_eq, unwrap_or}
use Rattle.std.specs.List.{flat_map}
use Rattle.std.specs.List.Sorted.{IsSortedBy}
use Rattle.std.specs.Option.{option_map}
use Rattle.std.specs.Ordering.{is_lt, nat_cmp}
use Rattle.std.specs.Cmp.Lexicographic.{slice_cmp}
use Rattle.std.specs.declared.cmp.Ordering.TheVariants.{Equal}
use Rattle.std.proofs.lemmas.Slice.Eq.{bytes_eq-Decides}
use Rattle.beam_values.specs.Spelling.{spelling}
use Rattle.beam_values.specs.declared.value.Value.{Value}
use Rattle.beam_values.specs.declared.value.Value.TheOpen as layer
use Rattle.beam_values.specs.declared.value.Value.TheVariants.{Null, Int, Blob, Pair, Seq, rolls-Null, rolls-Int, rolls-Blob, rolls-Pair, rolls-Seq}
use Rattle.beam_values.specs.declared.value.Value.TheViews.{roll-Value, out-roll-Value}
use Rattle.beam_values.proofs.Induction.{value_ind}
use Rattle.beam_values.proofs.Lexicographic.{tied}
use Rattle.beam_values.proofs.Spellings.{pairs_tie}
use Rattle.beam_model.specs.Functions.{ascending, insert_value, found_as, found_in}
use Rattle.beam_model.specs.Values.{KeyedValue, as_pair, keyed_of}
use Rattle.beam_model.proofs.Ascending.{ascending_sorted}
use Rattle.dofn_library.proofs.StableSorts.{less, less_order, sorted_rest}

-- ---- a value of a view is a pair, or nothing belongs to a key in it

abbrev IsPairWhere : Value → Type 0
IsPairWhere v = (keyed : KeyedValue) → as_pair v ≡ Some keyed → v ≡ Pair keyed.key keyed.part

rolled : (x : layer.Value-F Value) (v : Value) → roll-Value x ≡ v → as_pair v ≡ keyed_of x
rolled x v is = ap as_pair (sym is) ∙ ap keyed_of (out-roll-Value x)

no_pair : (v : Value) → as_pair v ≡ None → IsPairWhere v
no_pair v none keyed is = let impossible : None ≡ Some keyed = sym none ∙ is in absurd cc

pub pair_where : (v : Value) → IsPairWhere v
pair_where = value_ind IsPairWhere
    (no_pair Null (rolled layer.Null Null rolls-Null))
    (λ n. no_pair (Int n) (rolled (layer.Int n) (Int n) (rolls-Int n)))
    (λ bytes. no_pair (Blob bytes) (rolled (layer.Blob bytes) (Blob bytes) (rolls-Blob bytes)))
    (λ key part h k keyed is.
    let own : Some (record { key = key; part = part }) ≡ Some keyed = sym (rolled (layer.Pair key part) (Pair key part) (rolls-Pair key part)) ∙ is in
    let same : record { key = key; part = part } ≡ keyed = cc in
    ap (λ (it : KeyedValue). Pair it.key it.part) same)
    (λ items h. no_pair (Seq items) (rolled (layer.Seq items) (Seq items) (rolls-Seq items)))

module _ (key : Value) where
  -- the part that belongs to the key in a value, which is a pair with that key
  pub record Finds (v part : Value) : Type 0 where
    pub own : Value
    pub found : found_in key v ≡ part ∷ []
    pub paired : v ≡ Pair own part
    pub spelled : spelling own ≡ spelling key

  pub finds : (v : Value) → (found_in key v ≡ []) ⊎ ((part : Value) × Finds v part)
  finds v = by_pair (as_pair v) refl
    where
      by_key : (keyed : KeyedValue) → as_pair v ≡ Some keyed → (own : Bool) → bytes_eq (spelling keyed.key) (spelling key) ≡ own
          → (found_in key v ≡ []) ⊎ ((part : Value) × Finds v part)
      by_key keyed is true e = inr (
        keyed.part,
        record {
          own = keyed.key;
          found = ap (λ pair. unwrap_or (option_map (found_as key) pair) []) is ∙ ap (λ own. if own then keyed.part ∷ [] else []) e;
          paired = pair_where v keyed is;
          spelled = (bytes_eq-Decides (spelling keyed.key) (spelling key)).0 e;
        },
      )
      by_key keyed is false e = inl (ap (λ pair. unwrap_or (option_map (found_as key) pair) []) is ∙ ap (λ own. if own then keyed.part ∷ [] else []) e)

      by_pair : (pair : Option KeyedValue) → as_pair v ≡ pair → (found_in key v ≡ []) ⊎ ((part : Value) × Finds v part)
      by_pair None is = inl (ap (λ pair. unwrap_or (option_map (found_as key) pair) []) is)
      by_pair (Some keyed) is = by_key keyed is (bytes_eq (spelling keyed.key) (spelling key)) refl

  -- pairs with the key are ordered as their parts
  pub parts_decide : (v w p q : Value) → Finds v p → Finds w q → less v w ≡ less p q
  parts_decide v w p q f g =
      let same : spelling f.own ≡ spelling g.own = f.spelled ∙ sym g.spelled in
      let tie : slice_cmp nat_cmp (spelling f.own) (spelling g.own) ≡ Equal = ap (slice_cmp nat_cmp (spelling f.own)) (sym same) ∙ tied (spelling f.own) in
      ap (λ it. less it w) f.paired ∙ ap (λ it. less (Pair f.own p) it) g.paired ∙ ap is_lt (pairs_tie f.own p g.own q tie)

  abbrev found_all : List Value → List Value
  found_all views = flat_map (found_in key) views

  -- a value in which nothing belongs to the key
  none_inserted : (v : Value) (ws : List Value) → found_in key v ≡ [] → found_all (insert_value v ws) ≡ found_all ws
  none_inserted v [] none = ap (λ found. found ++ []) none
  none_inserted v (w ∷ ws) none = by_test (less w v) (none_inserted v ws none)
    where
      by_test : (first : Bool) → found_all (insert_value v ws) ≡ found_all ws → found_all (if first then w ∷ insert_value v ws else v ∷ w ∷ ws) ≡ found_all (w ∷ ws)
      by_test true rest = ap (λ later. found_in key w ++ later) rest
      by_test false rest = ap (λ found. found ++ found_all (w ∷ ws)) none

  -- all are at or above a value
  abbrev AreFrom : Value → List Value → Type 0
  AreFrom v [] = Unit {0}
  AreFrom v (u ∷ us) = (less u v ≡ false) × AreFrom v us

  from_sorted : (v w : Value) (ws : List Value) → IsSortedBy less (w ∷ ws) → less w v ≡ false → AreFrom v (w ∷ ws)
  from_sorted v w [] up e = (e, tt)
  from_sorted v w (u ∷ us) up e = (e, from_sorted v u us (sorted_rest less less_order w (u ∷ us) up) (less_order.chain u w v (up 0 u (omega arith) (omega arith)) e))

  goes_first : (v q : Value) (us : List Value) → Finds v q → AreFrom v us → insert_value q (found_all us) ≡ q ∷ found_all us
  goes_first v q [] f from = refl
  goes_first v q (u ∷ us) f from = elim (finds u) [
    | inl none ↦
        let same : found_all (u ∷ us) ≡ found_all us = ap (λ found. found ++ found_all us) none in
        ap (insert_value q) same ∙ goes_first v q us f from.1 ∙ ap (λ later. q ∷ later) (sym same)
    | inr some ↦
        let same : found_all (u ∷ us) ≡ some.0 ∷ found_all us = ap (λ found. found ++ found_all us) some.1.found in
        let above : less some.0 q ≡ false = sym (parts_decide u v some.0 q some.1 f) ∙ from.0 in
        ap (insert_value q) same ∙ ap (λ first. if first then some.0 ∷ insert_value q (found_all us) else q ∷ some.0 ∷ found_all us) above ∙ ap (λ later. q ∷ later) (sym same)
  ]

  part_inserted : (v q : Value) (ws : List Value) → Finds v q → IsSortedBy less ws → found_all (insert_value v ws) ≡ insert_value q (found_all ws)
  part_inserted v q [] f up = ap (λ found. found ++ []) f.found
  part_inserted v q (w ∷ ws) f up = by_test (less w v) refl (part_inserted v q ws f (sorted_rest less less_order w ws up))
    where
      walks_past : less w v ≡ true → found_in key w ++ insert_value q (found_all ws) ≡ insert_value q (found_all (w ∷ ws))
      walks_past e = elim (finds w) [
        | inl none ↦ ap (λ found. found ++ insert_value q (found_all ws)) none ∙ ap (λ found. insert_value q (found ++ found_all ws)) (sym none)
        | inr some ↦
            let below : less some.0 q ≡ true = sym (parts_decide w v some.0 q some.1 f) ∙ e in
            ap (λ found. found ++ insert_value q (found_all ws)) some.1.found
            ∙ ap (λ first. if first then some.0 ∷ insert_value q (found_all ws) else q ∷ some.0 ∷ found_all ws) (sym below)
            ∙ ap (λ found. insert_value q (found ++ found_all ws)) (sym some.1.found)
      ]

      by_test : (first : Bool) → less w v ≡ first → found_all (insert_value v ws) ≡ insert_value q (found_all ws)
          → found_all (if first then w ∷ insert_value v ws else v ∷ w ∷ ws) ≡ insert_value q (found_all (w ∷ ws))
      by_test true e rest = ap (λ later. found_in key w ++ later) rest ∙ walks_past e
      by_test false e rest = ap (λ found. found ++ found_all (w ∷ ws)) f.found ∙ sym (goes_first v q (w ∷ ws) f (from_sorted v w ws up e))

  pub found_in_order : (views : List Value) → found_all (ascending views) ≡ ascending (found_all views)
  found_in_order [] = refl
  found_in_order (v ∷ vs) = elim (finds v) [
    | inl none ↦ none_inserted v (ascending vs) none ∙ found_in_order vs ∙ ap (λ found. ascending (found ++ found_all vs)) (sym none)
    | inr some ↦
        part_inserted v some.0 (ascending vs) some.1 (ascending_sorted vs) ∙ ap (insert_value some.0) (found_in_order vs)
        ∙ ap (λ found. ascending (found ++ found_all vs)) (sym some.1.found)
  ]
