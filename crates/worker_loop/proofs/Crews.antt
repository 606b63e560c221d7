-- Over all workers: what is so at each place is so of the sums and of the lists.
use Rattle.std.proofs.Common.{◌≡◌, ℕ, ◌+◌, ◌≤◌, List, [], ◌∷◌, ◌++◌, length, map, take, refl, subst, ap, ◌∙◌, arith}
use Rattle.std.specs.List.{AllByRecursion, sum_by}
use Rattle.std.proofs.lemmas.List.Sums.{sum_by-cons}
use Rattle.std.specs.Prelude.{Bool, Option}
use Rattle.beam_values.specs.declared.file_text.FileText.{FileText}
use Rattle.beam_ports.specs.Counts.{rise}
use Rattle.beam_ports.specs.Files.{Opening}
use Rattle.retry_core.specs.Shares.{risen}
use Rattle.worker_table.specs.Notes.{Entry}
use Rattle.worker_table.specs.Passes.{entry_of, setting_of}
use Rattle.worker_table.specs.Turns.{entry_in}
use Rattle.worker_table.specs.declared.pass.Table.{Table}
use Rattle.bundle_work.specs.Kits.{EachBecomes, sum_rises}
use Rattle.bundle_work.specs.Pairs.{AreBoth, EachPairBecomes}
use Rattle.worker_loop.specs.Workers.{EachEndsAs, HasSat, IsKitDone, no_faults, share_with}
use Rattle.bundle_work.specs.declared.kit.Kit.{Kit}
use Rattle.worker_loop.specs.declared.crew.Seat.{Seat}

-- ---- places

pub all_snoc : {A : Type 0} (P : A → Type 0) (xs : List A) (x : A) → AllByRecursion P xs → P x → AllByRecursion P (xs ++ x ∷ [])
all_snoc P [] x h p = (p, tt)
all_snoc P (y ∷ xs) x h p = (h.0, all_snoc P xs x h.1 p)

pub both_of : {K T : Type 0} (P : K → Type 0) (Q : T → Type 0) (R : K → T → Type 0) → ((k : K) (t : T) → P k → Q t → R k t) → (ks : List K) (ts : List T) → length ts ≡ length ks
    → AllByRecursion P ks → AllByRecursion Q ts → AreBoth R ks ts
both_of P Q R each [] [] e h q = tt
both_of P Q R each (k ∷ ks) (t ∷ ts) e h q = (each k t h.0 q.0, both_of P Q R each ks ts (omega arith) h.1 q.1)
both_of P Q R each [] (t ∷ ts) e h q = absurd (omega arith)
both_of P Q R each (k ∷ ks) [] e h q = absurd (omega arith)

module _ {K T : Type 0} (P : K → K → T → T → Type 0) where
  pub all_after : (Q : T → Type 0) → ((k k' : K) (s t : T) → P k k' s t → Q t) → (ks ks' : List K) (ss ts : List T) → EachPairBecomes P ks ks' ss ts → AllByRecursion Q ts
  all_after Q each [] [] [] [] h = tt
  all_after Q each (k ∷ ks) (k' ∷ ks') (s ∷ ss) (t ∷ ts) h = (each k k' s t h.0, all_after Q each ks ks' ss ts h.1)
  all_after Q each [] [] [] (t ∷ ts) h = absurd h
  all_after Q each [] [] (s ∷ ss) ts h = absurd h
  all_after Q each [] (k' ∷ ks') ss ts h = absurd h
  all_after Q each (k ∷ ks) [] ss ts h = absurd h
  all_after Q each (k ∷ ks) (k' ∷ ks') [] ts h = absurd h
  all_after Q each (k ∷ ks) (k' ∷ ks') (s ∷ ss) [] h = absurd h

  pub kits_after : (Q : K → K → Type 0) → ((k k' : K) (s t : T) → P k k' s t → Q k k') → (ks ks' : List K) (ss ts : List T) → EachPairBecomes P ks ks' ss ts → EachBecomes ks ks' Q
  kits_after Q each [] [] [] [] h = tt
  kits_after Q each (k ∷ ks) (k' ∷ ks') (s ∷ ss) (t ∷ ts) h = (each k k' s t h.0, kits_after Q each ks ks' ss ts h.1)
  kits_after Q each [] [] [] (t ∷ ts) h = absurd h
  kits_after Q each [] [] (s ∷ ss) ts h = absurd h
  kits_after Q each [] (k' ∷ ks') ss ts h = absurd h
  kits_after Q each (k ∷ ks) [] ss ts h = absurd h
  kits_after Q each (k ∷ ks) (k' ∷ ks') [] ts h = absurd h
  kits_after Q each (k ∷ ks) (k' ∷ ks') (s ∷ ss) [] h = absurd h

  pub sum_below : (f : K → ℕ) (g : T → ℕ) → ((k k' : K) (s t : T) → P k k' s t → g t ≤ rise (f k) (f k')) → (ks ks' : List K) (ss ts : List T) → EachPairBecomes P ks ks' ss ts
      → sum_by g ts ≤ sum_rises f ks ks'
  sum_below f g each [] [] [] [] h = omega arith
  sum_below f g each (k ∷ ks) (k' ∷ ks') (s ∷ ss) (t ∷ ts) h = let a = each k k' s t h.0 in let b = sum_below f g each ks ks' ss ts h.1 in omega (arith, sum_by-cons g t ts)
  sum_below f g each [] [] [] (t ∷ ts) h = absurd h
  sum_below f g each [] [] (s ∷ ss) ts h = absurd h
  sum_below f g each [] (k' ∷ ks') ss ts h = absurd h
  sum_below f g each (k ∷ ks) [] ss ts h = absurd h
  sum_below f g each (k ∷ ks) (k' ∷ ks') [] ts h = absurd h
  sum_below f g each (k ∷ ks) (k' ∷ ks') (s ∷ ss) [] h = absurd h

  pub seats_length : (ks ks' : List K) (ss ts : List T) → EachPairBecomes P ks ks' ss ts → length ts ≡ length ss
  seats_length [] [] [] [] h = refl
  seats_length (k ∷ ks) (k' ∷ ks') (s ∷ ss) (t ∷ ts) h = let r = seats_length ks ks' ss ts h.1 in omega arith
  seats_length [] [] [] (t ∷ ts) h = absurd h
  seats_length [] [] (s ∷ ss) ts h = absurd h
  seats_length [] (k' ∷ ks') ss ts h = absurd h
  seats_length (k ∷ ks) [] ss ts h = absurd h
  seats_length (k ∷ ks) (k' ∷ ks') [] ts h = absurd h
  seats_length (k ∷ ks) (k' ∷ ks') (s ∷ ss) [] h = absurd h

pub each_same : {A : Type 0} (P : A → A → Type 0) → ((a : A) → P a a) → (xs : List A) → EachBecomes xs xs P
each_same P same [] = tt
each_same P same (x ∷ xs) = (same x, each_same P same xs)

take_exact : {A : Type 0} (xs ys : List A) → take (length xs) (xs ++ ys) ≡ xs
take_exact [] ys = refl
take_exact (x ∷ xs) ys = ap (λ l. x ∷ l) (take_exact xs ys)

pub take_front : {A : Type 0} (xs ys : List A) (n : ℕ) → n ≡ length xs → take n (xs ++ ys) ≡ xs
take_front xs ys n e = ap (λ (k : ℕ). take k (xs ++ ys)) e ∙ take_exact xs ys

-- ---- notes and shares

-- a note of one entry
pub one_entry : (es : List Entry) → length es ≡ 1 → es ≡ entry_in es ∷ []
one_entry [] one = absurd (omega arith)
one_entry (e ∷ []) one = refl
one_entry (e ∷ f ∷ es) one = absurd (omega arith)

pub ends_of : (table : Table) (seats : List Seat) → AllByRecursion (HasSat table) seats → EachEndsAs (setting_of table) (map (λ seat. seat.end) seats) (map (λ seat. entry_of seat.pass) seats)
ends_of table [] all = tt
ends_of table (seat ∷ seats) all = (all.0.ended, ends_of table seats all.1)

pub sum_mapped : {A B : Type 0} (f : A → B) (g : B → ℕ) (xs : List A) → sum_by g (map f xs) ≡ sum_by (λ x. g (f x)) xs
sum_mapped f g [] = refl
sum_mapped f g (x ∷ xs) = omega (arith, sum_by-cons g (f x) (map f xs), sum_by-cons (λ y. g (f y)) x xs, sum_mapped f g xs)

risen_sum : (n m : ℕ) → risen (risen 0 n) (risen 0 m) ≡ risen 0 (n + m)
risen_sum n m = omega arith

pub share_sum : (calls reads more_calls more_reads : ℕ) → record { calls = risen (risen 0 calls) (risen 0 more_calls); reads = risen (risen 0 reads) (risen 0 more_reads) }
    ≡ share_with no_faults (calls + more_calls) (reads + more_reads)
share_sum calls reads more_calls more_reads =
    ap (λ (n : ℕ). record { calls = n; reads = risen (risen 0 reads) (risen 0 more_reads) }) (risen_sum calls more_calls)
    ∙ ap (λ (n : ℕ). record { calls = risen 0 (calls + more_calls); reads = n }) (risen_sum reads more_reads)

pub done_as : {F S : Type 0} (is_strict : F → Bool) (faults_of : F → ℕ) (files_of : S → Option (List FileText)) (fails_of : S → ℕ) (opened_by : S → ℕ → Option Opening)
    (k kit k' kit' : Kit F S) (entry later : Entry) → k ≡ kit → k' ≡ kit' → entry ≡ later → IsKitDone is_strict faults_of files_of fails_of opened_by k k' entry
    → IsKitDone is_strict faults_of files_of fails_of opened_by kit kit' later
done_as {F = F} {S = S} is_strict faults_of files_of fails_of opened_by k kit k' kit' entry later at after same done =
    subst (λ (x : Kit F S). IsKitDone is_strict faults_of files_of fails_of opened_by x kit' later) at
    (subst (λ (x : Kit F S). IsKitDone is_strict faults_of files_of fails_of opened_by k x later) after
    (subst (λ (x : Entry). IsKitDone is_strict faults_of files_of fails_of opened_by k k' x) same done))
