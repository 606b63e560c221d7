-- A run by several workers: what they all know of its files and functions, and how it ends.
use Rattle.std.proofs.Common.{◌≡◌, ◌⊎◌, inl, inr, ℕ, ◌<◌, ◌≤◌, Bool, true, List, [], ◌∷◌, map, length, refl, sym, ap, subst, ◌∙◌, arith}
use Rattle.std.specs.Prelude.{Option, Some, None, Result, Ok, Err, IfOk, IfSome, get_or}
use Rattle.std.specs.List.{AllByRecursion, list_all}
use Rattle.std.proofs.lemmas.Bool.{and_parts}
use Rattle.std.proofs.lemmas.Bool.Decides.{nat_tests}
use Rattle.beam_ports.specs.Counts.{greatest_count, rise}
use Rattle.beam_ports.specs.Files.{Opening}
use Rattle.beam_ports.specs.Observed.{WhereTold}
use Rattle.beam_ports.specs.declared.store.Opened.{Opened}
use Rattle.beam_values.specs.declared.fault.Cause.{Cause}
use Rattle.beam_values.specs.declared.fault.Cause.TheVariants.{Call, Read}
use Rattle.beam_values.specs.declared.fault.FaultNote.{FaultNote}
use Rattle.beam_values.specs.declared.file_text.FileText.{FileText}
use Rattle.beam_values.specs.declared.options.Options.{Options}
use Rattle.beam_values.specs.declared.outcome.Outcome.{Outcome}
use Rattle.beam_values.specs.declared.outcome.StopCause.{StopCause}
use Rattle.beam_values.specs.declared.outcome.StopCause.TheVariants as stop
use Rattle.beam_values.specs.declared.piece.FileLen.{FileLen}
use Rattle.beam_values.specs.declared.plan.Plan.{Plan}
use Rattle.beam_model.specs.Positions.{item_len, items}
use Rattle.book_core.specs.Book.{SeenBook}
use Rattle.book_core.specs.Facts.{IsStopNoted}
use Rattle.book_core.specs.Runs.{HonestlyReached, IsEnded, IsOpening, Reached}
use Rattle.book_core.specs.Work.{Surroundings}
use Rattle.worker_table.specs.Ends.{IsEnded as IsPassEnded}
use Rattle.worker_table.specs.Fits.{IsBookOf}
use Rattle.worker_table.specs.Notes.{Entry, IsStopped}
use Rattle.known_jobs.specs.Jobs.{Setting}
use Rattle.bundle_work.specs.Bundles.{IsCountedAs}
use Rattle.bundle_work.specs.Kits.{IsKitFor, told_by}
use Rattle.bundle_work.specs.Openings.{AreOpened, file_names}
use Rattle.worker_loop.specs.Workers.{EachEndsAs, EndsAs}
use Rattle.bundle_work.specs.declared.kit.Kit.{Kit}
use Rattle.worker_loop.specs.declared.workers.WorkerEnd.{WorkerEnd}
use Rattle.worker_loop.specs.declared.workers.WorkerEnd.TheVariants as end
use Rattle.bundle_work.proofs.Told.{told_by_each}
use Rattle.run_engine.specs.Kits.{ObservedKits}
use Rattle.run_engine.specs.Openings.{AreOpenedByAll}
use Rattle.run_engine.specs.PlanRun.{AreFirstLengths, lengths_of_first, IsEndedBy, IsEndOfBook, IsOutcomeWhere, IsPlanEnd, IsSpent, IsStatusAfter, IsStoppedBy, surroundings_of}
use Rattle.bundle_work.specs.Reading.{opened_lengths}
use Rattle.run_engine.specs.declared.run_end.RunEnd.{RunEnd}
use Rattle.command_ends.specs.declared.status.Status.{Status}
use Rattle.run_engine.proofs.SameLengths.{all_same}
use Rattle.run_engine.proofs.Stopped.{count_by, counts_low, stop_counted}

-- ---- what is known of a result

pub if_ok : {A E : Type 0} {P Q : A → Type 0} (r : Result A E) → ((a : A) → P a → Q a) → IfOk r P → IfOk r Q
if_ok (Ok a) f h = f a h
if_ok (Err e) f h = tt

pub if_outcome : {A : Type 0} (P : A → Type 0) (o : Option A) (a : A) → o ≡ Some a → P a → IfSome o P
if_outcome P None a is h = absurd (cc)
if_outcome P (Some b) a is h = let same : b ≡ a = cc in subst P (sym same) h

-- ---- lists

all_mapped : {A B : Type 0} (f : A → B) (P : B → Type 0) (xs : List A) → AllByRecursion P (map f xs) → AllByRecursion (λ x. P (f x)) xs
all_mapped f P [] h = tt
all_mapped f P (x ∷ xs) h = (h.0, all_mapped f P xs h.1)

all_four : {A : Type 0} (P Q R S T : A → Type 0) → ((x : A) → P x → Q x → R x → S x → T x) → (xs : List A) → AllByRecursion P xs → AllByRecursion Q xs → AllByRecursion R xs → AllByRecursion S xs
    → AllByRecursion T xs
all_four P Q R S T each [] p q r s = tt
all_four P Q R S T each (x ∷ xs) p q r s = (each x p.0 q.0 r.0 s.0, all_four P Q R S T each xs p.1 q.1 r.1 s.1)

-- what is so of all is so of each
all_each : {A : Type 0} (test : A → Bool) (P : Type 0) (xs : List A) → (P → list_all test xs ≡ true) → AllByRecursion (λ x. P → test x ≡ true) xs
all_each test P [] h = tt
all_each test P (x ∷ xs) h = (λ p. (and_parts (test x) (list_all test xs) (h p)).0, all_each test P xs (λ p. (and_parts (test x) (list_all test xs) (h p)).1))

pub of_first : {A : Type 0} (P : A → Type 0) (xs : List A) (d x : A) → 0 < length xs → x ≡ get_or xs 0 d → AllByRecursion P xs → P x
of_first P [] d x some is h = absurd (omega arith)
of_first P (y ∷ xs) d x some is h = subst P (sym is) h.0

pub some_ended : {A B : Type 0} (xs : List A) (ys : List B) → length xs ≡ length ys → 0 < length ys → 0 < length xs
some_ended xs ys same some = omega (arith, same, some)

pub first_is : {F S : Type 0} (plan : Plan) (kits : List (Kit F S)) (first : Kit F S) → 0 < length kits → first ≡ get_or kits 0 first → opened_lengths plan first.files ≡ lengths_of_first plan kits
first_is plan [] first some is = absurd (omega arith)
first_is plan (kit ∷ kits) first some is = ap (λ (k : Kit _ _). opened_lengths plan k.files) is

-- ---- what is known of all kits

module _ {F S : Type 0} (is_strict : F → Bool) (files_of : S → Option (List FileText)) (opened_by : S → ℕ → Option Opening) where
  abbrev pub told_of : List (Kit F S) → Option (List FileText)
  told_of kits = told_by (map (λ kit. files_of kit.store) kits)

  -- what all kits tell is nothing, or what each tells
  pub told_each : (kits : List (Kit F S)) → AllByRecursion (λ kit. (told_of kits ≡ None) ⊎ (told_of kits ≡ files_of kit.store)) kits
  told_each kits =
      all_mapped (λ (kit : Kit F S). files_of kit.store) (λ told. (told_of kits ≡ None) ⊎ (told_of kits ≡ told)) kits (told_by_each (map (λ kit. files_of kit.store) kits))

  pub kits_fit : (setting : Setting) (kits : List (Kit F S)) → setting.known ≡ record { told = told_of kits; strict = list_all (λ kit. is_strict kit.shelf) kits }
      → AreOpenedByAll files_of opened_by setting.plan kits → lengths_of_first setting.plan kits ≡ setting.files → AllByRecursion (IsKitFor is_strict files_of opened_by setting) kits
  kits_fit setting kits known opened lengths =
      let told : setting.known.told ≡ told_of kits = ap (λ (s : Surroundings). s.told) known in
      let strict : setting.known.strict ≡ list_all (λ (kit : Kit F S). is_strict kit.shelf) kits = ap (λ (s : Surroundings). s.strict) known in
      all_four (λ kit. AreOpened (files_of kit.store) (opened_by kit.store) (file_names setting.plan) kit.files) (λ kit. opened_lengths setting.plan kit.files ≡ lengths_of_first setting.plan kits)
      (λ kit. (told_of kits ≡ None) ⊎ (told_of kits ≡ files_of kit.store)) (λ kit. setting.known.strict ≡ true → is_strict kit.shelf ≡ true) (IsKitFor is_strict files_of opened_by setting)
      (λ kit are met tells is. record {
        opened = are;
        lengths = met ∙ lengths;
        told = inr (elim tells as (λ _. (setting.known.told ≡ None) ⊎ (setting.known.told ≡ files_of kit.store)) [ inl none ↦ inl (told ∙ none) | inr same ↦ inr (told ∙ same) ]);
        strict = is;
      })
      kits opened.each (all_same files_of opened_by setting.plan kits opened) (told_each kits)
      (all_each (λ (kit : Kit F S). is_strict kit.shelf) (setting.known.strict ≡ true) kits (λ is. sym strict ∙ is))

-- lengths of files that one store tells are those of the files that all tell
pub lengths_of_all : (known told : Option (List FileText)) (plan : Plan) (lengths : List FileLen) → (known ≡ None) ⊎ (known ≡ told) → AreFirstLengths told plan lengths → AreFirstLengths known plan lengths
lengths_of_all known told plan lengths (inl none) are = record { each = are.each; told_are = λ files is. absurd (cc) }
lengths_of_all known told plan lengths (inr same) are = record { each = are.each; told_are = λ files is. are.told_are files (sym same ∙ is) }

-- what is so of lengths whatever opened the files is so where this store has opened them
pub first_lengths_are : (told : Option (List FileText)) (opened : ℕ → Option Opening) (plan : Plan) (files shown : List Opened) (lengths : List FileLen) → shown ≡ files
    → ((t : Option (List FileText)) (o : ℕ → Option Opening) → AreOpened t o (file_names plan) shown → AreFirstLengths t plan lengths) → AreOpened told opened (file_names plan) files
    → AreFirstLengths told plan lengths
first_lengths_are told opened plan files shown lengths same known are = known told opened (subst (AreOpened told opened (file_names plan)) (sym same) are)

-- a book is reached where it is opened
pub opening_reached : (told : Option (List FileText)) (plan : Plan) (files : List FileLen) (options : Options) (b : SeenBook) → IsOpening plan files options b → Reached told b
opening_reached told plan files options b opening = record {
  first = b;
  opening =
      subst (λ (p : Plan). IsOpening p b.files b.options b) (sym (ap (λ (x : SeenBook). x.plan) opening.is))
      (subst (λ (f : List FileLen). IsOpening plan f b.options b) (sym (ap (λ (x : SeenBook). x.files) opening.is))
      (subst (λ (o : Options). IsOpening plan files o b) (sym (ap (λ (x : SeenBook). x.options) opening.is)) opening));
  steps = [];
  run = refl;
}

-- ---- how workers ended

-- in a book that runs on, the first worker found no job left
finished : (setting : Setting) (b : SeenBook) → b.stopped ≡ None → (ends : List WorkerEnd) (entries : List Entry) → 0 < length ends → EachEndsAs setting ends entries
    → AllByRecursion (λ entry. IsPassEnded b entry.ending) entries → IsEnded b
finished setting b running [] entries some ended books = absurd (omega arith)
finished setting b running (e ∷ ends) [] some ended books = absurd ended
finished setting b running (e ∷ ends) (entry ∷ entries) some ended books = by e ended.0
  where
    never : entry.ending ≡ IsStopped → IsEnded b
    never is = absurd (subst (IsPassEnded b) is books.0 running)

    by : (e : WorkerEnd) → EndsAs setting e entry → IsEnded b
    by end.Finished h = record { running = running; through = (subst (IsPassEnded b) h.0 books.0).1 }
    by end.Spent h = never h.0
    by end.Stopped h = never h.0
    by end.NoMemory h = never h.0

-- ---- the end

module _ (seen : ObservedKits) (none_before : seen.shelf.before ≡ 0) (none_before' : seen.store.before ≡ 0) (plan : Plan) (options : Options) (setting : Setting)
    (known : setting.known ≡ surroundings_of seen) (of_plan : setting.plan ≡ plan) (with_options : setting.options ≡ options)
    (lengths : WhereTold seen.store.files (λ told. setting.files ≡ map item_len (items told plan))) (b : SeenBook) (book : IsBookOf setting b) where
  reached : HonestlyReached (surroundings_of seen) b
  reached = subst (λ (k : Surroundings). HonestlyReached k b) known book.reached

  outcome_where : (P : SeenBook → Type 0) → P b → (o : Outcome) → (e : RunEnd) → (is : IsEndOfBook b e) → o ≡ is.outcome → IsOutcomeWhere (surroundings_of seen) plan options P o
  outcome_where P holds o e is same = subst (IsOutcomeWhere (surroundings_of seen) plan options P) (sym same) (record {
    book = b;
    reached = reached;
    of_plan = book.plan ∙ of_plan;
    with_options = book.options ∙ with_options;
    lengths = λ told tells. book.files ∙ lengths told tells ∙ ap (λ (p : Plan). map item_len (items told p)) (sym (book.plan ∙ of_plan));
    is = holds;
    of_book = is.of_book;
    storable = is.storable;
  })

  -- a count that is at most what rose is at most how far it rose
  rose_by : (before after count : ℕ) → before ≡ 0 → count ≤ greatest_count → count ≤ after → count ≤ rise before after
  rose_by before after count none low under = grind (arith, nat_tests, none, low, under)

  module _ (honest_runs_are_runs : (k : Surroundings) (x : SeenBook) → HonestlyReached k x → Reached k.told x)
      (noted : (told : Option (List FileText)) (x : SeenBook) → Reached told x → IsStopNoted x x.stopped) (calls : b.calls ≤ seen.shelf.after) (reads : b.reads ≤ seen.store.after) (few : options.attempts ≤ 1000) where
    is_reached : Reached seen.store.files b
    is_reached = honest_runs_are_runs (surroundings_of seen) b reached

    low : (b.calls ≤ greatest_count) × (b.reads ≤ greatest_count)
    low = counts_low seen.store.files b is_reached

    less_calls : b.calls ≤ rise seen.shelf.before seen.shelf.after
    less_calls = rose_by seen.shelf.before seen.shelf.after b.calls none_before low.0 calls

    less_reads : b.reads ≤ rise seen.store.before seen.store.after
    less_reads = rose_by seen.store.before seen.store.after b.reads none_before' low.1 reads

    stop_noted : (note : FaultNote) → b.stopped ≡ Some (stop.Spent note) → IsStopNoted b (Some (stop.Spent note))
    stop_noted note is = subst (IsStopNoted b) is (noted seen.store.files b is_reached)

    stopped_by : (note : FaultNote) → b.stopped ≡ Some (stop.Spent note) → IsStoppedBy seen note b
    stopped_by note is = record { noted = is; beside = (stop_noted note is).1; calls = less_calls; reads = less_reads }

    spent : (note : FaultNote) → b.stopped ≡ Some (stop.Spent note) → IsSpent seen options.attempts note
    spent note is =
        let attempt : note.attempt ≡ options.attempts = (stop_noted note is).0 ∙ ap (λ (o : Options). o.attempts) (book.options ∙ with_options) in
        let counts = stop_counted seen.store.files b is_reached note is in
        record { attempt = attempt; counted = omega (arith, sym attempt, counts.0, less_calls, less_reads); cause = by note.cause counts.1 }
      where
        by : (cause : Cause) → 0 < count_by cause b.calls b.reads → IsCountedAs seen.shelf seen.store cause
        by Call some = omega (arith, some, less_calls)
        by Read some = omega (arith, some, less_reads)

    pub plan_ends : (ends : List WorkerEnd) (entries : List Entry) → 0 < length ends → EachEndsAs setting ends entries → AllByRecursion (λ entry. IsPassEnded b entry.ending) entries
        → (e : RunEnd) → IsEndOfBook b e → IsPlanEnd seen plan options e.status e.outcome
    plan_ends ends entries some ended books e is = by b.stopped refl is.tells
      where
        by : (was : Option StopCause) → b.stopped ≡ was → IsStatusAfter was e.status → IsPlanEnd seen plan options e.status e.outcome
        by None running tells =
            subst (λ (s : Status). IsPlanEnd seen plan options s e.outcome) (sym tells)
            (is.outcome, is.some, outcome_where (IsEndedBy seen) (record { ended = finished setting b running ends entries some ended books; calls = less_calls; reads = less_reads }) is.outcome e is refl)
        by (Some (stop.Spent note)) stopped tells =
            subst (λ (s : Status). IsPlanEnd seen plan options s e.outcome) (sym tells) (
              (is.outcome, is.some, outcome_where (IsStoppedBy seen note) (stopped_by note stopped) is.outcome e is refl),
              spent note stopped,
            )
        by (Some stop.NoMemory) stopped tells = absurd tells
