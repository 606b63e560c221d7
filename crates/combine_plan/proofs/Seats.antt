-- Kits at their seats: what each saw and folded, and what all of them did.
use Rattle.std.proofs.Common.{◌≡◌, ◌⊎◌, ℕ, ◌+◌, ◌<◌, ◌≤◌, Bool, true, List, [], ◌∷◌, ◌++◌, length, get_or, map, take, drop, refl, sym, ap, ◌∙◌, subst, append_assoc, arith}
use Rattle.std.specs.Prelude.{Option, None, Result, Ok, Err, IfErr, IfOk, IsOk}
use Rattle.std.specs.List.{All, AllByRecursion, list_all}
use Rattle.std.proofs.lemmas.Bool.{and_parts}
use Rattle.std.proofs.lemmas.Bool.Decides.{nat_tests}
use Rattle.std.proofs.lemmas.List.{append-nil, drop_more, map-append, take-append-drop, take_more}
use Rattle.std.proofs.lemmas.List.Concat.{flat_map-append}
use Rattle.std.proofs.lemmas.List.Elements.{All-push}
use Rattle.beam_values.specs.declared.file_text.FileText.{FileText}
use Rattle.beam_values.specs.declared.piece.Done.{Done}
use Rattle.beam_values.specs.declared.piece.Piece.{Piece}
use Rattle.beam_values.specs.declared.plan.Plan.{Plan}
use Rattle.beam_values.specs.declared.value.Value.{Value}
use Rattle.beam_ports.specs.Counts.{rise}
use Rattle.beam_ports.specs.Files.{Opening}
use Rattle.beam_ports.specs.Observed.{ObservedStore}
use Rattle.bundle_work.specs.Kits.{EachBecomes, observed_shelves, observed_stores, sum_rises, told_by}
use Rattle.bundle_work.specs.Outside.{IsKitKept}
use Rattle.bundle_work.specs.Pairs.{AreBoth, EachPairBecomes}
use Rattle.bundle_work.specs.declared.kit.Kit.{Kit}
use Rattle.bundle_work.proofs.Answered.{if_err, if_ok}
use Rattle.bundle_work.proofs.Told.{told_by_each}
use Rattle.chain_exec.specs.Causes.{ObservedShelf}
use Rattle.split_core.specs.Partition.{range_of}
use Rattle.combine_lift.specs.Tables.{Table}
use Rattle.combine_plan.specs.Combined.{known_of}
use Rattle.combine_plan.specs.Dealing.{ranges_in}
use Rattle.combine_plan.specs.Folding.{IsFold, IsFoldRefused}
use Rattle.combine_plan.specs.Hands.{AreJoined, AreUnjoined, HasSat, IsFirstRefused, IsHandFolded, IsSeatFolded, Scene, hands_of}
use Rattle.combine_plan.specs.declared.crew.Seat.{Seat}
use Rattle.combine_plan.specs.declared.refusal.CombineRefusal.{CombineRefusal}
use Rattle.combine_plan.proofs.Seen.{IsSeenIn, fold_in, refused_in, seen_same}

-- ---- place by place

pub each_same : {A : Type 0} (P : A → A → Type 0) → ((a : A) → P a a) → (xs : List A) → EachBecomes xs xs P
each_same P same [] = tt
each_same P same (x ∷ xs) = (same x, each_same P same xs)

pub both_of : {K T U : Type 0} (P : K → T → Type 0) (Q : K → U → Type 0) (f : U → T) → ((k : K) (u : U) → P k (f u) → Q k u) → (ks : List K) (us : List U) → AreBoth P ks (map f us) → AreBoth Q ks us
both_of P Q f each [] [] h = tt
both_of P Q f each (k ∷ ks) (u ∷ us) h = (each k u h.0, both_of P Q f each ks us h.1)
both_of P Q f each [] (u ∷ us) h = absurd h
both_of P Q f each (k ∷ ks) [] h = absurd h

-- what is so of four empty lists, and of one place more where it is so of the others, is so of all
module _ {K T : Type 0} (P : K → K → T → T → Type 0) (Q : List K → List K → List T → List T → Type 0) (none : Q [] [] [] [])
    (more : (k k' : K) (s t : T) (ks ks' : List K) (ss ts : List T) → P k k' s t → Q ks ks' ss ts → Q (k ∷ ks) (k' ∷ ks') (s ∷ ss) (t ∷ ts)) where
  pub each_pair_so : (ks ks' : List K) (ss ts : List T) → EachPairBecomes P ks ks' ss ts → Q ks ks' ss ts
  each_pair_so [] [] [] [] h = none
  each_pair_so (k ∷ ks) (k' ∷ ks') (s ∷ ss) (t ∷ ts) h = more k k' s t ks ks' ss ts h.0 (each_pair_so ks ks' ss ts h.1)
  each_pair_so [] [] [] (t ∷ ts) h = absurd h
  each_pair_so [] [] (s ∷ ss) ts h = absurd h
  each_pair_so [] (k' ∷ ks') ss ts h = absurd h
  each_pair_so (k ∷ ks) [] ss ts h = absurd h
  each_pair_so (k ∷ ks) (k' ∷ ks') [] ts h = absurd h
  each_pair_so (k ∷ ks) (k' ∷ ks') (s ∷ ss) [] h = absurd h

pub pairs_length : {K T : Type 0} (P : K → K → T → T → Type 0) (ks ks' : List K) (ss ts : List T) → EachPairBecomes P ks ks' ss ts → length ts ≡ length ss
pairs_length P = each_pair_so P (λ ks ks' ss ts. length ts ≡ length ss) refl (λ k k' s t ks ks' ss ts h later. omega (arith, later))

-- ---- at their seats

-- a count that is at most what all rose by rose at most as far as all
rise_within : (before now n : ℕ) → rise before now ≤ n → rise before now ≤ rise 0 n
rise_within before now n below = grind (arith, nat_tests, below)

abbrev pub seen_by_all : Plan → ℕ → Bool → Option (List FileText) → ℕ → ℕ → Scene
seen_by_all plan attempts strict told calls reads = record {
  shelf = record { strict = strict; before = 0; after = calls };
  store = record { files = told; before = 0; after = reads };
  plan = plan;
  attempts = attempts;
}

hand_in : {A : Type 0} (stands : A → List Value → Type 0) (takes : Value → Bool) (shelf all : ObservedShelf) (store every : ObservedStore) (plan : Plan) (attempts : ℕ) → IsSeenIn shelf store all every
    → (seat left : Seat (Table A)) → left.hand ≡ seat.hand → IsHandFolded stands takes (record { shelf = shelf; store = store; plan = plan; attempts = attempts }) seat.hand left.folded
    → IsSeatFolded stands takes (record { shelf = all; store = every; plan = plan; attempts = attempts }) left
hand_in stands takes shelf all store every plan attempts seen seat left same folded =
    let ranges = map range_of seat.hand in
    subst (λ (hand : List Piece). IsHandFolded stands takes (record { shelf = all; store = every; plan = plan; attempts = attempts }) hand left.folded) (sym same) (record {
      folded = if_ok left.folded (λ table fold. fold_in stands shelf all store every plan seen ranges table fold) folded.folded;
      refused = if_err left.folded (λ refusal is. refused_in takes shelf all store every plan attempts seen [] ranges [] ranges (sym (append-nil ranges)) refusal is) folded.refused;
    })

module _ {F S A : Type 0} (is_strict : F → Bool) (faults_of : F → ℕ) (files_of : S → Option (List FileText)) (fails_of : S → ℕ) (opened_by : S → ℕ → Option Opening) (stands : A → List Value → Type 0)
    (takes : Value → Bool) (plan : Plan) (attempts : ℕ) where
  abbrev pub Sits : Kit F S → Kit F S → Seat (Table A) → Seat (Table A) → Type 0
  Sits = HasSat is_strict faults_of files_of fails_of opened_by stands takes plan attempts

  -- a kit whose shelf is strict where all are, and whose store tells what all tell, if they tell anything
  abbrev pub IsKnownOf : Bool → Option (List FileText) → Kit F S → Type 0
  IsKnownOf strict told kit = (strict ≡ true → is_strict kit.shelf ≡ true) × ((told ≡ None) ⊎ (told ≡ files_of kit.store))

  pub sits_as : (k kit k' kit' : Kit F S) (s seat t left : Seat (Table A)) → k ≡ kit → k' ≡ kit' → s ≡ seat → t ≡ left → Sits k k' s t → Sits kit kit' seat left
  sits_as k kit k' kit' s seat t left at after from to sits =
      subst (λ (x : Kit F S). Sits x kit' seat left) at
      (subst (λ (x : Kit F S). Sits k x seat left) after
      (subst (λ (x : Seat (Table A)). Sits k k' x left) from
      (subst (λ (x : Seat (Table A)). Sits k k' s x) to sits)))

  pub kits_kept : (ks ks' : List (Kit F S)) (ss ts : List (Seat (Table A))) → EachPairBecomes Sits ks ks' ss ts
      → EachBecomes ks ks' (λ old new. (new.files ≡ old.files) × IsKitKept faults_of is_strict fails_of files_of opened_by old.shelf new.shelf old.store new.store)
  kits_kept =
      each_pair_so Sits (λ ks ks' ss ts. EachBecomes ks ks' (λ old new. (new.files ≡ old.files) × IsKitKept faults_of is_strict fails_of files_of opened_by old.shelf new.shelf old.store new.store)) tt
      (λ k k' s t ks ks' ss ts sits later. ((sits.files, sits.kept), later))

  pub hands_kept : (ks ks' : List (Kit F S)) (ss ts : List (Seat (Table A))) → EachPairBecomes Sits ks ks' ss ts → hands_of ts ≡ hands_of ss
  hands_kept =
      each_pair_so Sits (λ ks ks' ss ts. hands_of ts ≡ hands_of ss) refl
      (λ k k' s t ks ks' ss ts sits later. ap (λ (hand : List Piece). hand ∷ hands_of ts) sits.hand ∙ ap (λ (hands : List (List Piece)). s.hand ∷ hands) later)

  pub seats_folded : (strict : Bool) (told : Option (List FileText)) (calls reads : ℕ) (ks ks' : List (Kit F S)) (ss ts : List (Seat (Table A))) → EachPairBecomes Sits ks ks' ss ts
      → AllByRecursion (IsKnownOf strict told) ks → sum_rises (λ kit. faults_of kit.shelf) ks ks' ≤ calls → sum_rises (λ kit. fails_of kit.store) ks ks' ≤ reads
      → AllByRecursion (IsSeatFolded stands takes (seen_by_all plan attempts strict told calls reads)) ts
  seats_folded strict told calls reads =
      each_pair_so Sits
      (λ ks ks' ss ts. AllByRecursion (IsKnownOf strict told) ks → sum_rises (λ kit. faults_of kit.shelf) ks ks' ≤ calls → sum_rises (λ kit. fails_of kit.store) ks ks' ≤ reads
      → AllByRecursion (IsSeatFolded stands takes (seen_by_all plan attempts strict told calls reads)) ts)
      (λ known called read. tt)
      (λ k k' s t ks ks' ss ts sits later known called read. (
        hand_in stands takes _ _ _ _ plan attempts (record {
          strict = known.0.0;
          told = known.0.1;
          calls = rise_within (faults_of k.shelf) (faults_of k'.shelf) calls (omega (arith, called));
          reads = rise_within (fails_of k.store) (fails_of k'.store) reads (omega (arith, read));
        }) s t sits.hand sits.folded,
        later known.1 (omega (arith, called)) (omega (arith, read)),
      ))

-- ---- one seat among others

module _ {P : Type 0} where
  pub hands_split : (before : List (Seat P)) (seat : Seat P) (after : List (Seat P)) → ranges_in (hands_of (before ++ seat ∷ after)) ≡ ranges_in (hands_of before) ++ (map range_of seat.hand ++ ranges_in (hands_of after))
  hands_split before seat after =
      ap ranges_in (map-append (λ (s : Seat P). s.hand) before (seat ∷ after)) ∙ flat_map-append (λ (hand : List Piece). map range_of hand) (hands_of before) (seat.hand ∷ hands_of after)

  pub hands_push : (before : List (Seat P)) (seat : Seat P) → ranges_in (hands_of (before ++ seat ∷ [])) ≡ ranges_in (hands_of before) ++ map range_of seat.hand
  hands_push before seat = hands_split before seat [] ∙ ap (λ l. ranges_in (hands_of before) ++ l) (append-nil (map range_of seat.hand))

  -- the first that was refused, where all before it were not
  pub first_at : (seats : List (Seat P)) (i : ℕ) (seat : Seat P) (refusal : CombineRefusal) → i < length seats → seat ≡ get_or seats i seat → seat.folded ≡ Err refusal → All (λ other. IsOk other.folded) (take i seats)
      → IsFirstRefused seats refusal
  first_at seats i seat refusal within is refused earlier = record {
    before = take i seats;
    seat = seat;
    after = drop (i + 1) seats;
    split = sym (take-append-drop i seats) ∙ ap (λ l. take i seats ++ l) (drop_more seats i seat within) ∙ ap (λ (s : Seat P). take i seats ++ s ∷ drop (i + 1) seats) (sym is);
    earlier = earlier;
    refused = refused;
  }

  pub none_more : (seats : List (Seat P)) (i : ℕ) (seat : Seat P) → i < length seats → seat ≡ get_or seats i seat → IsOk seat.folded → All (λ other. IsOk other.folded) (take i seats)
      → All (λ other. IsOk other.folded) (take (i + 1) seats)
  none_more seats i seat within is folded earlier =
      subst (λ (l : List (Seat P)). All (λ other. IsOk other.folded) l) (ap (λ (s : Seat P). take i seats ++ s ∷ []) is ∙ sym (take_more seats i seat within))
      (All-push (λ (other : Seat P). IsOk other.folded) (take i seats) seat earlier folded)

all_middle : {A : Type 0} (P : A → Type 0) (xs : List A) (y : A) (zs : List A) → AllByRecursion P (xs ++ y ∷ zs) → P y
all_middle P [] y zs all = all.0
all_middle P (x ∷ xs) y zs all = all_middle P xs y zs all.1

pub take_front : {A : Type 0} (xs ys : List A) (n : ℕ) → n ≡ length xs → take n (xs ++ ys) ≡ xs
take_front xs ys n e = ap (λ (k : ℕ). take k (xs ++ ys)) e ∙ exact xs
  where
    exact : (xs : List _) → take (length xs) (xs ++ ys) ≡ xs
    exact [] = refl
    exact (x ∷ xs) = ap (λ l. x ∷ l) (exact xs)

module _ {A : Type 0} (stands : A → List Value → Type 0) (takes : Value → Bool) (scene : Scene) where
  abbrev pub RefusedAll : List Done → CombineRefusal → Type 0
  RefusedAll = λ ranges refusal. IsFoldRefused takes (known_of scene.shelf scene.store) scene.shelf scene.store scene.plan scene.attempts ranges 0 refusal

  -- a seat that stands there was folded
  pub seat_at : (before : List (Seat (Table A))) (seat : Seat (Table A)) (after seats : List (Seat (Table A))) → seats ≡ before ++ seat ∷ after → AllByRecursion (IsSeatFolded stands takes scene) seats
      → IsSeatFolded stands takes scene seat
  seat_at before seat after seats split all = all_middle (IsSeatFolded stands takes scene) before seat after (subst (AllByRecursion (IsSeatFolded stands takes scene)) split all)

  pub table_at : (seat : Seat (Table A)) → IsSeatFolded stands takes scene seat → (table : Table A) → seat.folded ≡ Ok table → IsFold stands (known_of scene.shelf scene.store) scene.plan (map range_of seat.hand) table
  table_at seat folded table is =
      subst (λ (r : Result (Table A) CombineRefusal). IfOk r (IsFold stands (known_of scene.shelf scene.store) scene.plan (map range_of seat.hand))) is folded.folded

  pub refused_at : (before : List (Seat (Table A))) (seat : Seat (Table A)) (after seats : List (Seat (Table A))) → seats ≡ before ++ seat ∷ after → IsSeatFolded stands takes scene seat
      → (refusal : CombineRefusal) → seat.folded ≡ Err refusal → RefusedAll (ranges_in (hands_of seats)) refusal
  refused_at before seat after seats split folded refusal is =
      refused_in takes scene.shelf scene.shelf scene.store scene.store scene.plan scene.attempts (seen_same scene.shelf scene.store) (ranges_in (hands_of before)) (map range_of seat.hand)
      (ranges_in (hands_of after)) (ranges_in (hands_of seats)) (ap (λ (l : List (Seat (Table A))). ranges_in (hands_of l)) split ∙ hands_split before seat after) refusal
      (subst (λ (r : Result (Table A) CombineRefusal). IfErr r (RefusedAll (map range_of seat.hand))) is folded.refused)

  pub first_refused : (seats : List (Seat (Table A))) → AllByRecursion (IsSeatFolded stands takes scene) seats → (refusal : CombineRefusal) → IsFirstRefused seats refusal
      → RefusedAll (ranges_in (hands_of seats)) refusal
  first_refused seats all refusal first =
      refused_at first.before first.seat first.after seats first.split
      (seat_at first.before first.seat first.after seats first.split all) refusal first.refused

  -- tables of the seats before this one and of it were not joined
  pub unjoined_at : (before : List (Seat (Table A))) (seat : Seat (Table A)) (after seats : List (Seat (Table A))) → seats ≡ before ++ seat ∷ after → (refusal : CombineRefusal)
      → RefusedAll (ranges_in (hands_of before) ++ map range_of seat.hand) refusal → RefusedAll (ranges_in (hands_of seats)) refusal
  unjoined_at before seat after seats split refusal refused =
      refused_in takes scene.shelf scene.shelf scene.store scene.store scene.plan scene.attempts (seen_same scene.shelf scene.store) [] (ranges_in (hands_of before) ++ map range_of seat.hand)
      (ranges_in (hands_of after)) (ranges_in (hands_of seats))
      (ap (λ (l : List (Seat (Table A))). ranges_in (hands_of l)) split ∙ hands_split before seat after ∙ sym (append_assoc (ranges_in (hands_of before)) (map range_of seat.hand) (ranges_in (hands_of after))))
      refusal refused

-- ---- all kits

all_both : {A : Type 0} (P Q : A → Type 0) (xs : List A) → AllByRecursion P xs → AllByRecursion Q xs → AllByRecursion (λ x. P x × Q x) xs
all_both P Q [] p q = tt
all_both P Q (x ∷ xs) p q = ((p.0, q.0), all_both P Q xs p.1 q.1)

all_mapped : {A B : Type 0} (f : A → B) (P : B → Type 0) (xs : List A) → AllByRecursion P (map f xs) → AllByRecursion (λ x. P (f x)) xs
all_mapped f P [] h = tt
all_mapped f P (x ∷ xs) h = (h.0, all_mapped f P xs h.1)

-- what is so of all is so of each
all_each : {A : Type 0} (test : A → Bool) (P : Type 0) (xs : List A) → (P → list_all test xs ≡ true) → AllByRecursion (λ x. P → test x ≡ true) xs
all_each test P [] h = tt
all_each test P (x ∷ xs) h = (λ p. (and_parts (test x) (list_all test xs) (h p)).0, all_each test P xs (λ p. (and_parts (test x) (list_all test xs) (h p)).1))

-- what all kits tell is nothing, or what each tells
pub told_each : {F S : Type 0} (files_of : S → Option (List FileText)) (kits : List (Kit F S))
    → AllByRecursion (λ kit. (told_by (map (λ k. files_of k.store) kits) ≡ None) ⊎ (told_by (map (λ k. files_of k.store) kits) ≡ files_of kit.store)) kits
told_each {F = F} {S = S} files_of kits =
    let told = told_by (map (λ (kit : Kit F S). files_of kit.store) kits) in
    all_mapped (λ (kit : Kit F S). files_of kit.store) (λ own. (told ≡ None) ⊎ (told ≡ own)) kits (told_by_each (map (λ (kit : Kit F S). files_of kit.store) kits))

pub both_length : {K T : Type 0} (P : K → T → Type 0) (ks : List K) (ts : List T) → AreBoth P ks ts → length ts ≡ length ks
both_length P [] [] h = refl
both_length P (k ∷ ks) (t ∷ ts) h = let later = both_length P ks ts h.1 in omega arith
both_length P [] (t ∷ ts) h = absurd h
both_length P (k ∷ ks) [] h = absurd h

module _ {F S A : Type 0} (is_strict : F → Bool) (faults_of : F → ℕ) (files_of : S → Option (List FileText)) (fails_of : S → ℕ) (opened_by : S → ℕ → Option Opening) (stands : A → List Value → Type 0)
    (takes : Value → Bool) (plan : Plan) (attempts : ℕ) (ks ks' : List (Kit F S)) (ss ts : List (Seat (Table A)))
    (sat : EachPairBecomes (HasSat is_strict faults_of files_of fails_of opened_by stands takes plan attempts) ks ks' ss ts) where
  abbrev pub seen : Scene
  seen = record { shelf = observed_shelves is_strict faults_of ks ks'; store = observed_stores files_of fails_of ks ks'; plan = plan; attempts = attempts }

  known_to_each : AllByRecursion (IsKnownOf is_strict faults_of files_of fails_of opened_by stands takes plan attempts (list_all (λ kit. is_strict kit.shelf) ks) (told_by (map (λ kit. files_of kit.store) ks))) ks
  known_to_each =
      let strict = list_all (λ (kit : Kit F S). is_strict kit.shelf) ks in
      let told = told_by (map (λ (kit : Kit F S). files_of kit.store) ks) in
      all_both (λ kit. strict ≡ true → is_strict kit.shelf ≡ true) (λ kit. (told ≡ None) ⊎ (told ≡ files_of kit.store)) ks
      (all_each (λ (kit : Kit F S). is_strict kit.shelf) (strict ≡ true) ks (λ is. is))
      (told_each files_of ks)

  pub all_folded : AllByRecursion (IsSeatFolded stands takes seen) ts
  all_folded =
      seats_folded is_strict faults_of files_of fails_of opened_by stands takes plan attempts (list_all (λ kit. is_strict kit.shelf) ks) (told_by (map (λ kit. files_of kit.store) ks))
      (sum_rises (λ kit. faults_of kit.shelf) ks ks') (sum_rises (λ kit. fails_of kit.store) ks ks') ks ks' ss ts sat known_to_each (omega arith) (omega arith)

  module _ (hands : List (List Piece)) (dealt : hands_of ss ≡ hands) (taken : List (Seat (Table A))) (same : taken ≡ ts) where
    taken_folded : AllByRecursion (IsSeatFolded stands takes seen) taken
    taken_folded = subst (AllByRecursion (IsSeatFolded stands takes seen)) (sym same) all_folded

    taken_hands : ranges_in (hands_of taken) ≡ ranges_in hands
    taken_hands =
        ap (λ (l : List (Seat (Table A))). ranges_in (hands_of l)) same
        ∙ ap ranges_in (hands_kept is_strict faults_of files_of fails_of opened_by stands takes plan attempts ks ks' ss ts sat ∙ dealt)

    pub crew_folded : (table : Table A) → AreJoined stands takes taken table → IsFold stands (known_of seen.shelf seen.store) plan (ranges_in hands) table
    crew_folded table joined = subst (λ (ranges : List Done). IsFold stands (known_of seen.shelf seen.store) plan ranges table) taken_hands (joined seen taken_folded)

    pub crew_unjoined : (refusal : CombineRefusal) → AreUnjoined stands takes taken refusal
        → IsFoldRefused takes (known_of seen.shelf seen.store) seen.shelf seen.store plan attempts (ranges_in hands) 0 refusal
    crew_unjoined refusal unjoined =
        subst (λ (ranges : List Done). IsFoldRefused takes (known_of seen.shelf seen.store) seen.shelf seen.store plan attempts ranges 0 refusal) taken_hands (unjoined seen taken_folded)

    pub crew_refused : (refusal : CombineRefusal) → IsFirstRefused taken refusal
        → IsFoldRefused takes (known_of seen.shelf seen.store) seen.shelf seen.store plan attempts (ranges_in hands) 0 refusal
    crew_refused refusal first = crew_unjoined refusal (λ scene all. first_refused stands takes scene taken all refusal first)
