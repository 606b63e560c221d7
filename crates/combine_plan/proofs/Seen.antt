-- What one kit saw is seen by all kits together, and what is so of some ranges is so of more.
use Rattle.std.proofs.Common.{◌≡◌, ◌⊎◌, inl, inr, ℕ, ◌+◌, ◌<◌, ◌≤◌, ◌==◌, ◌&&◌, Bool, true, cond, List, [], ◌∷◌, ◌++◌, length, map, refl, sym, ap, ◌∙◌, subst, arith}
use Rattle.std.specs.Prelude.{Option, Some, None}
use Rattle.std.specs.List.{count_by, list_any}
use Rattle.std.proofs.lemmas.Bool.{or_left, or_right}
use Rattle.std.proofs.lemmas.List.{length-map, map-append}
use Rattle.std.proofs.lemmas.List.Concat.{flat_map-append}
use Rattle.std.proofs.lemmas.List.Folds.{list_any-append}
use Rattle.std.proofs.lemmas.List.Sums.{sum_by-append, sum_by-cons}
use Rattle.beam_values.specs.declared.arrival.Arrival.{Arrival}
use Rattle.beam_values.specs.declared.fault.Cause.{Cause}
use Rattle.beam_values.specs.declared.fault.Cause.TheVariants.{Call, Read}
use Rattle.beam_values.specs.declared.file_text.FileText.{FileText}
use Rattle.beam_values.specs.declared.piece.Done.{Done}
use Rattle.beam_values.specs.declared.plan.Plan.{Plan}
use Rattle.beam_values.specs.declared.value.Value.{Value}
use Rattle.beam_model.specs.Chains.{Output, Arrives}
use Rattle.beam_model.specs.Coverings.{spread_done, spread_dones}
use Rattle.beam_model.specs.Positions.{SourceItem, items}
use Rattle.beam_model.specs.Spread.{is_poison}
use Rattle.beam_ports.specs.Counts.{rise}
use Rattle.beam_ports.specs.Observed.{ObservedStore, WhereTold}
use Rattle.book_core.specs.Work.{Surroundings}
use Rattle.bundle_work.specs.Bundles.{IsCountedAs}
use Rattle.chain_exec.specs.Causes.{ObservedShelf}
use Rattle.combine_lift.specs.Tables.{Added, Table, StandsFor}
use Rattle.combine_lift.specs.declared.refusal.LiftRefusal.TheVariants as lift
use Rattle.combine_laws.specs.Brought.{added_by, added_of, is_arrival, is_untaken}
use Rattle.combine_laws.specs.Combined.{most_parts}
use Rattle.combine_plan.specs.Combined.{known_of}
use Rattle.combine_plan.specs.Folding.{IsFold, IsFoldRefused, IsJoinRefused, IsPoisonItem}
use Rattle.combine_plan.specs.declared.refusal.CombineRefusal.{CombineRefusal}
use Rattle.combine_plan.specs.declared.refusal.CombineRefusal.TheVariants.{Lift, Fault, NoMemory}

-- ---- what was seen

-- all are strict only where this one is, they tell what it does or nothing, and their counts rose as far as its own
pub record IsSeenIn (shelf : ObservedShelf) (store : ObservedStore) (all : ObservedShelf) (every : ObservedStore) : Type 0 where
  pub strict : all.strict ≡ true → shelf.strict ≡ true
  pub told : (every.files ≡ None) ⊎ (every.files ≡ store.files)
  pub calls : rise shelf.before shelf.after ≤ rise all.before all.after
  pub reads : rise store.before store.after ≤ rise every.before every.after

pub seen_same : (shelf : ObservedShelf) (store : ObservedStore) → IsSeenIn shelf store shelf store
seen_same shelf store = record { strict = λ is. is; told = inr refl; calls = omega arith; reads = omega arith }

where_told : (P Q : List FileText → Type 0) (own all : Option (List FileText)) → (all ≡ None) ⊎ (all ≡ own) → ((files : List FileText) → P files → Q files) → WhereTold own P → WhereTold all Q
where_told P Q own all (inl none) onward told files is = absurd (cc)
where_told P Q own all (inr same) onward told files is = onward files (told files (sym same ∙ is))

-- ---- ranges among others

any_within : {A : Type 0} (test : A → Bool) (xs ys zs all : List A) → all ≡ xs ++ (ys ++ zs) → list_any test ys ≡ true → list_any test all ≡ true
any_within test xs ys zs all split is =
    ap (list_any test) split ∙ list_any-append test xs (ys ++ zs) ∙ or_right (list_any test xs) (list_any test (ys ++ zs)) (list_any-append test ys zs ∙ or_left (list_any test ys) (list_any test zs) is)

count_within : {A : Type 0} (test : A → Bool) (xs ys zs all : List A) → all ≡ xs ++ (ys ++ zs) → count_by test ys ≤ count_by test all
count_within {A = A} test xs ys zs all split =
    let one : A → ℕ = λ x. cond (test x) 1 0 in
    omega (arith, ap (count_by test) split, sum_by-append one xs (ys ++ zs), sum_by-append one ys zs)

spread_split : (plan : Plan) (items : List SourceItem) (before ranges after more : List Done) → more ≡ before ++ (ranges ++ after)
    → spread_dones plan items more ≡ spread_dones plan items before ++ (spread_dones plan items ranges ++ spread_dones plan items after)
spread_split plan items before ranges after more split =
    ap (spread_dones plan items) split ∙ flat_map-append (spread_done plan items) before (ranges ++ after)
    ∙ ap (λ l. spread_dones plan items before ++ l) (flat_map-append (spread_done plan items) ranges after)

-- ---- refusals

counted_in : (shelf all : ObservedShelf) (store every : ObservedStore) → IsSeenIn shelf store all every → (cause : Cause) → IsCountedAs shelf store cause → IsCountedAs all every cause
counted_in shelf all store every seen Call counted = omega (arith, seen.calls, counted)
counted_in shelf all store every seen Read counted = omega (arith, seen.reads, counted)

-- why some ranges were not folded is why more are not, of which they are a part
module _ (takes : Value → Bool) (shelf all : ObservedShelf) (store every : ObservedStore) (plan : Plan) (attempts : ℕ) (seen : IsSeenIn shelf store all every)
    (before ranges after more : List Done) (split : more ≡ before ++ (ranges ++ after)) where
  abbrev spread : List Done → List FileText → List Output
  spread dones files = spread_dones plan (items files plan) dones

  any_told : (test : Output → Bool) → WhereTold store.files (λ files. list_any test (spread ranges files) ≡ true) → WhereTold every.files (λ files. list_any test (spread more files) ≡ true)
  any_told test = where_told (λ files. list_any test (spread ranges files) ≡ true) (λ files. list_any test (spread more files) ≡ true) store.files every.files seen.told
      (λ files. any_within test (spread before files) (spread ranges files) (spread after files) (spread more files) (spread_split plan (items files plan) before ranges after more split))

  pub refused_in : (refusal : CombineRefusal) → IsFoldRefused takes (known_of shelf store) shelf store plan attempts ranges 0 refusal
      → IsFoldRefused takes (known_of all every) all every plan attempts more 0 refusal
  refused_in (Fault note) spent =
      let tries = spent.tries in record {
        listed = any_within (λ range. range.node == note.node && range.item == note.item) before ranges after more split spent.listed;
        attempt = spent.attempt;
        tries = record {
          calls = tries.calls;
          reads = tries.reads;
          all = tries.all;
          calls_counted = omega (arith, tries.calls_counted, seen.calls);
          reads_counted = omega (arith, tries.reads_counted, seen.reads);
          poison = λ some strict. any_told is_poison (tries.poison some (seen.strict strict));
        };
        cause = counted_in shelf all store every seen note.cause spent.cause;
        call = λ is strict. where_told (λ files. IsPoisonItem plan (items files plan) note) (λ files. IsPoisonItem plan (items files plan) note) store.files every.files seen.told (λ files poison. poison)
            (spent.call is (seen.strict strict));
        read = spent.read;
      }
  refused_in (Lift lift.Part) meets = any_told (is_untaken takes) meets
  refused_in (Lift lift.Many) meets =
      where_told (λ files. most_parts < 0 + count_by is_arrival (spread ranges files)) (λ files. most_parts < 0 + count_by is_arrival (spread more files)) store.files every.files seen.told
      (λ files many.
      let within = count_within is_arrival (spread before files) (spread ranges files) (spread after files) (spread more files) (spread_split plan (items files plan) before ranges after more split) in
      omega (arith, many, within))
      meets
  refused_in (Lift lift.Shape) never = absurd never
  refused_in (Lift lift.Sum) never = absurd never
  refused_in NoMemory none = tt

-- ---- tables

module _ {A : Type 0} (stands : A → List Value → Type 0) where
  pub fold_in : (shelf all : ObservedShelf) (store every : ObservedStore) (plan : Plan) → IsSeenIn shelf store all every → (ranges : List Done) (table : Table A)
      → IsFold stands (known_of shelf store) plan ranges table → IsFold stands (known_of all every) plan ranges table
  fold_in shelf all store every plan seen ranges table fold = record {
    arrivals = fold.arrivals;
    told = where_told (λ files. map Arrives fold.arrivals ≡ spread_dones plan (items files plan) ranges) (λ files. map Arrives fold.arrivals ≡ spread_dones plan (items files plan) ranges) store.files
        every.files seen.told (λ files brings. brings) fold.told;
    standing = fold.standing;
  }

  module _ (known : Surroundings) (plan : Plan) where
    pub fold_none : (table : Table A) → StandsFor stands table [] → IsFold stands known plan [] table
    fold_none table standing = record { arrivals = []; told = λ files is. refl; standing = standing }

    pub fold_both : (ranges more : List Done) (old others new : Table A) → IsFold stands known plan ranges old → IsFold stands known plan more others
        → ((added later : List Added) → StandsFor stands old added → StandsFor stands others later → StandsFor stands new (added ++ later)) → IsFold stands known plan (ranges ++ more) new
    fold_both ranges more old others new one two joins = record {
      arrivals = one.arrivals ++ two.arrivals;
      told = λ files is.
          map-append Arrives one.arrivals two.arrivals ∙ ap (λ l. l ++ map Arrives two.arrivals) (one.told files is)
          ∙ ap (λ l. spread_dones plan (items files plan) ranges ++ l) (two.told files is) ∙ sym (flat_map-append (spread_done plan (items files plan)) ranges more);
      standing =
          subst (StandsFor stands new) (sym (map-append (λ (arrival : Arrival). added_of arrival.element) one.arrivals two.arrivals))
          (joins (added_by one.arrivals) (added_by two.arrivals) one.standing two.standing);
    }

    count_arrivals : (arrivals : List Arrival) → count_by is_arrival (map Arrives arrivals) ≡ length arrivals
    count_arrivals [] = refl
    count_arrivals (arrival ∷ arrivals) = omega (arith, count_arrivals arrivals, sum_by-cons (λ output. cond (is_arrival output) 1 0) (Arrives arrival) (map Arrives arrivals))

    folded_count : (ranges : List Done) (table : Table A) (fold : IsFold stands known plan ranges table) (files : List FileText) → known.told ≡ Some files
        → count_by is_arrival (spread_dones plan (items files plan) ranges) ≡ table.parts
    folded_count ranges table fold files is =
        ap (count_by is_arrival) (sym (fold.told files is)) ∙ count_arrivals fold.arrivals
        ∙ sym (fold.standing.parts ∙ length-map fold.arrivals (λ (arrival : Arrival). added_of arrival.element))

    -- two tables that were not joined
    pub join_refused : (takes : Value → Bool) (shelf : ObservedShelf) (store : ObservedStore) (attempts : ℕ) (ranges more : List Done) (old others : Table A) → IsFold stands known plan ranges old
        → IsFold stands known plan more others → (refusal : CombineRefusal) → IsJoinRefused (old.parts + others.parts) refusal
        → IsFoldRefused takes known shelf store plan attempts (ranges ++ more) 0 refusal
    join_refused takes shelf store attempts ranges more old others one two (Lift lift.Many) many = λ files is.
        let spreads = ap (count_by is_arrival) (flat_map-append (spread_done plan (items files plan)) ranges more) in
        omega (
          arith,
          many,
          spreads,
          sum_by-append (λ output. cond (is_arrival output) 1 0) (spread_dones plan (items files plan) ranges) (spread_dones plan (items files plan) more),
          folded_count ranges old one files is,
          folded_count more others two files is,
        )
    join_refused takes shelf store attempts ranges more old others one two (Lift lift.Part) never = absurd never
    join_refused takes shelf store attempts ranges more old others one two (Lift lift.Shape) never = absurd never
    join_refused takes shelf store attempts ranges more old others one two (Lift lift.Sum) never = absurd never
    join_refused takes shelf store attempts ranges more old others one two (Fault note) never = absurd never
    join_refused takes shelf store attempts ranges more old others one two NoMemory none = tt
