-- Files that are opened one after another, and kits that open them one after another.
use Rattle.std.proofs.Common.{◌≡◌, ◌⊎◌, inl, inr, ℕ, zero, suc, ◌+◌, ◌-◌, ◌<◌, ◌≤◌, List, [], ◌∷◌, ◌++◌, length, get_or, get_or-set_same, take, drop, set, refl, sym, ap, subst, ◌∙◌, append_assoc, length-set, arith}
use Rattle.std.specs.Prelude.{true, Option, Some, None, IsSome, IsSomeAnd, slice_get, Result, Ok, Err, IfErr, OnOk}
use Rattle.std.specs.List.{All, AllByRecursion, flat_map}
use Rattle.std.proofs.lemmas.List.{append-nil, take_more}
use Rattle.std.proofs.lemmas.Grind.{flat_map-append}
use Rattle.std.proofs.lemmas.List.Elements.{All-nil, All-cons}
use Rattle.std.proofs.lemmas.Option.{same_Some, slice_get-get_or}
use Rattle.beam_values.specs.Files.{first_named}
use Rattle.beam_values.specs.declared.file_text.FileText.{FileText}
use Rattle.beam_values.specs.declared.plan.Node.{Node}
use Rattle.beam_values.specs.declared.plan.Plan.{Plan}
use Rattle.beam_ports.specs.Files.{KeepsOpenings, Opening}
use Rattle.beam_ports.specs.Observed.{ObservedStore, WhereTold, observed_store}
use Rattle.beam_ports.specs.declared.store.Opened.{Opened}
use Rattle.beam_ports.specs.declared.store.Store.{Ghosts as StoreGhosts}
use Rattle.bundle_work.specs.Kits.{EachBecomes}
use Rattle.bundle_work.specs.Openings.{AreOpened, IsOpenedAs, file_names, names_in}
use Rattle.bundle_work.specs.Outside.{IsStoreKept}
use Rattle.bundle_work.specs.declared.kit.Kit.{Kit}
use Rattle.run_engine.specs.Kits.{observed_each}
use Rattle.run_engine.specs.Openings.{AgreeInLength, AreNamesRefused, HasFailed, HasLength, HasSameLength, IsChanged, IsFaultCounted, IsFileRefused, IsNameRefused, IsOpeningRefused, IsOtherRefused, TriesKits, TriesOthers, failed_before}
use Rattle.command_ends.specs.Retrying.{GivesUpExactly, IsPatient, RoseByFewer, TriesStore}
use Rattle.command_ends.specs.declared.retrying.RetryingStore.{RetryingStore}
use Rattle.command_ends.proofs.Tries.{store_fewer, store_same as store_uncalled}
use Rattle.command_ends.specs.declared.status.Status.{Status}
use Rattle.command_ends.specs.declared.status.Status.TheVariants as status

-- ---- what stays opened

module _ (files : Option (List FileText)) (opened later : ℕ → Option Opening) (kept : KeepsOpenings opened later) where
  pub opened_as_later : (name : List ℕ) (file : Opened) → IsOpenedAs files opened name file → IsOpenedAs files later name file
  opened_as_later name file is = by (opened file.file) refl is.len
    where
      by : (o : Option Opening) → opened file.file ≡ o → IsSomeAnd o (λ opening. opening.len ≡ file.len) → IsOpenedAs files later name file
      by None at len = absurd len
      by (Some o) at len =
          let same : later file.file ≡ opened file.file = kept file.file o at ∙ sym at in
          record {
            len = subst (λ (x : Option Opening). IsSomeAnd x (λ opening. opening.len ≡ file.len)) (sym same) is.len;
            told = λ told tells. let t = is.told told tells in (t.0, t.1, t.2, same ∙ t.3);
          }

  pub opened_later : (names : List (List ℕ)) (opens : List Opened) → AreOpened files opened names opens → AreOpened files later names opens
  opened_later [] [] are = tt
  opened_later [] (file ∷ opens) are = absurd are
  opened_later (name ∷ names) [] are = absurd are
  opened_later (name ∷ names) (file ∷ opens) are = (opened_as_later name file are.0, opened_later names opens are.1)

pub opened_length : (files : Option (List FileText)) (opened : ℕ → Option Opening) (names : List (List ℕ)) (opens : List Opened) → AreOpened files opened names opens → length opens ≡ length names
opened_length files opened [] [] are = refl
opened_length files opened [] (file ∷ opens) are = absurd are
opened_length files opened (name ∷ names) [] are = absurd are
opened_length files opened (name ∷ names) (file ∷ opens) are = ap suc (opened_length files opened names opens are.1)

module _ (files : Option (List FileText)) (opened : ℕ → Option Opening) where
  -- one more file
  pub opened_more : (names : List (List ℕ)) (opens : List Opened) (name : List ℕ) (file : Opened) → AreOpened files opened names opens → IsOpenedAs files opened name file
      → AreOpened files opened (names ++ name ∷ []) (opens ++ file ∷ [])
  opened_more [] [] name file are is = (is, tt)
  opened_more [] (other ∷ opens) name file are is = absurd are
  opened_more (first ∷ names) [] name file are is = absurd are
  opened_more (first ∷ names) (other ∷ opens) name file are is = (are.0, opened_more names opens name file are.1 is)

  -- what is opened is there
  pub opened_found : (names : List (List ℕ)) (opens : List Opened) → AreOpened files opened names opens
      → WhereTold files (λ told. All (λ name. IsSome (first_named name told)) names)
  opened_found [] [] are = λ told tells. All-nil (λ name. IsSome (first_named name told))
  opened_found [] (file ∷ opens) are = absurd are
  opened_found (name ∷ names) [] are = absurd are
  opened_found (name ∷ names) (file ∷ opens) are = λ told tells.
      let found = are.0.told told tells in
      All-cons (λ name. IsSome (first_named name told)) name names (subst IsSome (sym found.1) refl) (opened_found names opens are.1 told tells)

  -- and has the length that it was opened with
  pub opened_has_length : (name : List ℕ) (file : Opened) → IsOpenedAs files opened name file → HasLength files name file.len
  opened_has_length name file is = λ told tells. let t = is.told told tells in (t.0, t.1, t.2)

  pub nth_has_length : (before after : List (List ℕ)) (name : List ℕ) (opens : List Opened) (file : Opened) → AreOpened files opened (before ++ name ∷ after) opens
      → slice_get opens (length before) ≡ Some file → HasLength files name file.len
  nth_has_length [] after name [] file are at = absurd are
  nth_has_length [] after name (first ∷ opens) file are at =
      subst (λ (f : Opened). HasLength files name f.len) (same_Some first file at) (opened_has_length name first are.0)
  nth_has_length (other ∷ before) after name [] file are at = absurd are
  nth_has_length (other ∷ before) after name (first ∷ opens) file are at = nth_has_length before after name opens file are.1 at

  module _ (first : List Opened) (before after : List (List ℕ)) (name : List ℕ) (kit : ℕ) where
    -- a name that is refused, behind those that are opened
    pub name_refused : (opens : List Opened) → AreOpened files opened before opens → (refusal : Status) → IsNameRefused files name kit refusal
        → AreNamesRefused files first (before ++ name ∷ after) kit refusal
    name_refused opens are (status.NoSource absent) is = (
      before,
      after,
      ap (λ (n : List ℕ). before ++ n ∷ after) (sym is.0),
      λ told tells. (opened_found before opens are told tells, ap (λ (n : List ℕ). first_named n told) is.0 ∙ is.1 told tells),
    )
    name_refused opens are (status.SourceFault at) is = is
    name_refused opens are status.NoMemory is = tt
    name_refused opens are _ is = absurd is

    -- and a file that is not taken
    pub file_refused : (at : ℕ) (file : Opened) → at ≡ length before → IsOpenedAs files opened name file → (refusal : Status) → IsFileRefused first at name file.len refusal
        → AreNamesRefused files first (before ++ name ∷ after) kit refusal
    file_refused at file place one (status.FileChanged changed met other) is = (
      before,
      after,
      ap (λ (n : List ℕ). before ++ n ∷ after) (sym is.0),
      subst (λ (len : ℕ). IsChanged first (length before) met len) (sym is.1) (subst (λ (n : ℕ). IsChanged first n met file.len) place is.2),
      subst (λ (len : ℕ). HasLength files changed len) (sym is.1) (subst (λ (n : List ℕ). HasLength files n file.len) (sym is.0) (opened_has_length name file one)),
    )
    file_refused at file place one status.NoMemory is = tt
    file_refused at file place one _ is = absurd is

-- ---- lengths

pub agree_none : (first : List Opened) → AgreeInLength first []
agree_none [] = tt
agree_none (met ∷ first) = tt

-- one more file that has the length of the first kit's, if that has one there
pub agree_more : (first files : List Opened) (file : Opened) → AgreeInLength first files → HasSameLength first (length files) file.len → AgreeInLength first (files ++ file ∷ [])
agree_more [] [] file agree same = tt
agree_more [] (other ∷ files) file agree same = tt
agree_more (met ∷ first) [] file agree same = (same met refl, agree_none first)
agree_more (met ∷ first) (other ∷ files) file agree same = (agree.0, agree_more first files file agree.1 same)

-- ---- names in a list

split_item : {X : Type 0} (xs : List X) (i : ℕ) (x : X) → i < length xs → x ≡ get_or xs i x → xs ≡ take i xs ++ x ∷ drop (suc i) xs
split_item [] i x inside is = absurd (omega arith)
split_item (y ∷ ys) zero x inside is = ap (λ z. z ∷ ys) (sym is)
split_item (y ∷ ys) (suc i) x inside is = ap (λ t. y ∷ t) (split_item ys i x (omega arith) is)

pub item_split : {X : Type 0} (xs : List X) (i : ℕ) (x : X) → i < length xs → x ≡ get_or xs i x → xs ≡ take i xs ++ x ∷ drop (i + 1) xs
item_split xs i x inside is = let next : suc i ≡ i + 1 = omega arith in split_item xs i x inside is ∙ ap (λ n. take i xs ++ x ∷ drop n xs) next

-- a name among others, those before it and those after it
name_within : (before names after : List (List ℕ)) (i : ℕ) (name : List ℕ) → i < length names → name ≡ get_or names i name
    → (before ++ take i names) ++ name ∷ (drop (i + 1) names ++ after) ≡ before ++ (names ++ after)
name_within before names after i name inside is =
    append_assoc before (take i names) (name ∷ (drop (i + 1) names ++ after))
    ∙ ap (λ t. before ++ t) (sym (append_assoc (take i names) (name ∷ drop (i + 1) names) after))
    ∙ ap (λ t. before ++ (t ++ after)) (sym (item_split names i name inside is))

module _ (files later : Option (List FileText)) (same : later ≡ files) (before names after : List (List ℕ)) (i : ℕ) (name shown : List ℕ) (inside : i < length names) (is : name ≡ get_or names i name)
    (seen : shown ≡ name) (first : List Opened) (kit : ℕ) where
  whole : (refusal : Status) → AreNamesRefused later first ((before ++ take i names) ++ shown ∷ (drop (i + 1) names ++ after)) kit refusal
      → AreNamesRefused files first (before ++ (names ++ after)) kit refusal
  whole refusal refused =
      subst (λ (f : Option (List FileText)). AreNamesRefused f first (before ++ (names ++ after)) kit refusal) same
      (subst (λ (l : List (List ℕ)). AreNamesRefused later first l kit refusal)
      (ap (λ (n : List ℕ). (before ++ take i names) ++ n ∷ (drop (i + 1) names ++ after)) seen ∙ name_within before names after i name inside is) refused)

  pub names_refused : (opened : ℕ → Option Opening) (opens : List Opened) → AreOpened later opened (before ++ take i names) opens → (refusal : Status)
      → IsNameRefused later shown kit refusal → AreNamesRefused files first (before ++ (names ++ after)) kit refusal
  names_refused opened opens are refusal refused =
      whole refusal (name_refused later opened first (before ++ take i names) (drop (i + 1) names ++ after) shown kit opens are refusal refused)

  pub files_refused : (told : Option (List FileText)) (was opened : ℕ → Option Opening) (opens : List Opened) (at : ℕ) (file : Opened) → AreOpened told was (before ++ take i names) opens
      → at ≡ length opens → IsOpenedAs later opened shown file → (refusal : Status) → IsFileRefused first at shown file.len refusal
      → AreNamesRefused files first (before ++ (names ++ after)) kit refusal
  files_refused told was opened opens at file are place one refusal refused =
      whole refusal (file_refused later opened first (before ++ take i names) (drop (i + 1) names ++ after) shown kit at file
      (place ∙ opened_length told was (before ++ take i names) opens are) one refusal refused)

pub names_opened : (files later : Option (List FileText)) → later ≡ files → (opened onward : ℕ → Option Opening) → KeepsOpenings onward opened → (before names : List (List ℕ)) (i : ℕ)
    (name shown : List ℕ) (opens more : List Opened) (file : Opened) → i < length names → name ≡ get_or names i name → shown ≡ name → AreOpened files onward (before ++ take i names) opens
    → IsOpenedAs later opened shown file → more ≡ opens ++ file ∷ [] → AreOpened later opened (before ++ take (i + 1) names) more
names_opened files later same opened onward kept before names i name shown opens more file inside is seen are one pushed =
    let front = opened_later files onward opened kept (before ++ take i names) opens are in
    let all = opened_more later opened (before ++ take i names) opens name file (subst (λ (f : Option (List FileText)). AreOpened f opened (before ++ take i names) opens) (sym same) front)
    (subst (λ (n : List ℕ). IsOpenedAs later opened n file) seen one) in
    let whole : (before ++ take i names) ++ name ∷ [] ≡ before ++ take (i + 1) names =
    append_assoc before (take i names) (name ∷ []) ∙ ap (λ t. before ++ t) (sym (take_more names i name inside ∙ ap (λ n. take i names ++ n ∷ []) (sym is))) in
    subst (λ (o : List Opened). AreOpened later opened (before ++ take (i + 1) names) o) (sym pushed)
    (subst (λ (l : List (List ℕ)). AreOpened later opened l (opens ++ file ∷ [])) whole all)

-- ---- nodes in a list

abbrev pub names_of : List Node → List (List ℕ)
names_of nodes = flat_map (λ node. names_in node.kind) nodes

pub names_more : (nodes : List Node) (i : ℕ) (node : Node) → i < length nodes → node ≡ get_or nodes i node → names_of (take i nodes) ++ names_in node.kind ≡ names_of (take (i + 1) nodes)
names_more nodes i node inside is =
    sym (ap names_of (take_more nodes i node inside ∙ ap (λ n. take i nodes ++ n ∷ []) (sym is)) ∙ flat_map-append (λ (n : Node). names_in n.kind) (take i nodes) (node ∷ [])
    ∙ ap (λ t. names_of (take i nodes) ++ t) (append-nil (names_in node.kind)))

pub names_whole : (nodes : List Node) (i : ℕ) (node : Node) → i < length nodes → node ≡ get_or nodes i node
    → names_of (take i nodes) ++ (names_in node.kind ++ names_of (drop (i + 1) nodes)) ≡ names_of nodes
names_whole nodes i node inside is =
    sym (ap names_of (item_split nodes i node inside is) ∙ flat_map-append (λ (n : Node). names_in n.kind) (take i nodes) (node ∷ drop (i + 1) nodes))

-- ---- what stays of a store

module _ {S : Type 0} (faults : S → ℕ) (files : S → Option (List FileText)) (opened : S → ℕ → Option Opening) where
  pub store_same : (store : S) → IsStoreKept faults files opened store store
  store_same store = record { counts = omega arith; files = refl; openings = λ file opening is. is }

  pub store_onward : (store mid later : S) → IsStoreKept faults files opened store mid → IsStoreKept faults files opened mid later → IsStoreKept faults files opened store later
  store_onward store mid later one two = record {
    counts = omega (arith, one.counts, two.counts);
    files = two.files ∙ one.files;
    openings = λ file opening is. two.openings file opening (one.openings file opening is);
  }

-- ---- one kit after another

pub same_become : {A : Type 0} (Q : A → A → Type 0) → ((x : A) → Q x x) → (xs : List A) → EachBecomes xs xs Q
same_become Q stays [] = tt
same_become Q stays (x ∷ xs) = (stays x, same_become Q stays xs)

-- the first n of them have become so, and the others are as they were
abbrev pub BecomesUpTo : {A : Type 0} → ℕ → List A → List A → (A → A → Type 0) → Type 0
BecomesUpTo zero olds news P = news ≡ olds
BecomesUpTo (suc n) (old ∷ olds) (new ∷ news) P = P old new × BecomesUpTo n olds news P
BecomesUpTo (suc n) _ _ P = ⊥

module _ {A : Type 0} (P : A → A → Type 0) where
  one_becomes : (news : List A) (d new : A) → 0 < length news → P (get_or news 0 d) new → BecomesUpTo 1 news (set news 0 new) P
  one_becomes [] d new inside holds = absurd (omega arith)
  one_becomes (y ∷ news) d new inside holds = (holds, refl)

  suc_becomes : (n : ℕ) (olds news : List A) (d new : A) → BecomesUpTo n olds news P → n < length news → P (get_or news n d) new → BecomesUpTo (suc n) olds (set news n new) P
  suc_becomes zero olds news d new done inside holds = subst (λ (o : List A). BecomesUpTo 1 o (set news 0 new) P) done (one_becomes news d new inside holds)
  suc_becomes (suc n) (old ∷ olds) (y ∷ news) d new done inside holds = (done.0, suc_becomes n olds news d new done.1 (omega arith) holds)
  suc_becomes (suc n) [] news d new done inside holds = absurd done
  suc_becomes (suc n) (old ∷ olds) [] d new done inside holds = absurd done

  pub more_become : (n : ℕ) (olds news : List A) (d new : A) → BecomesUpTo n olds news P → n < length news → P (get_or news n d) new → BecomesUpTo (n + 1) olds (set news n new) P
  more_become n olds news d new done inside holds =
      let next : suc n ≡ n + 1 = omega arith in
      subst (λ (m : ℕ). BecomesUpTo m olds (set news n new) P) next (suc_becomes n olds news d new done inside holds)

  -- the next one is as it was
  pub next_is : (n : ℕ) (olds news : List A) (d : A) → BecomesUpTo n olds news P → n < length news → slice_get olds n ≡ Some (get_or news n d)
  next_is zero olds [] d done inside = absurd (omega arith)
  next_is zero olds (y ∷ news) d done inside = subst (λ (o : List A). slice_get o 0 ≡ Some y) done refl
  next_is (suc n) (old ∷ olds) (y ∷ news) d done inside = next_is n olds news d done.1 (omega arith)
  next_is (suc n) [] news d done inside = absurd done
  next_is (suc n) (old ∷ olds) [] d done inside = absurd done

  -- all have become so
  pub whole_becomes : (n : ℕ) (olds news : List A) → BecomesUpTo n olds news P → length news ≤ n → EachBecomes olds news P
  whole_becomes zero olds [] done all = subst (λ (o : List A). EachBecomes o [] P) done tt
  whole_becomes zero olds (new ∷ news) done all = absurd (omega arith)
  whole_becomes (suc n) [] news done all = absurd done
  whole_becomes (suc n) (old ∷ olds) [] done all = absurd done
  whole_becomes (suc n) (old ∷ olds) (new ∷ news) done all = (done.0, whole_becomes n olds news done.1 (omega arith))

  module _ (Q : A → A → Type 0) (holds : (old new : A) → P old new → Q old new) (stays : (x : A) → Q x x) where
    -- with those that are as they were
    pub each_becomes : (n : ℕ) (olds news : List A) → BecomesUpTo n olds news P → EachBecomes olds news Q
    each_becomes zero olds news done = subst (λ (o : List A). EachBecomes o news Q) done (same_become Q stays news)
    each_becomes (suc n) [] news done = absurd done
    each_becomes (suc n) (old ∷ olds) [] done = absurd done
    each_becomes (suc n) (old ∷ olds) (new ∷ news) done = (holds old new done.0, each_becomes n olds news done.1)

    one_other : (news : List A) (d new : A) → 0 < length news → Q (get_or news 0 d) new → EachBecomes news (set news 0 new) Q
    one_other [] d new inside one = absurd (omega arith)
    one_other (y ∷ news) d new inside one = (one, same_become Q stays news)

    -- with one more, that became so only
    pub each_and_one : (n : ℕ) (olds news : List A) (d new : A) → BecomesUpTo n olds news P → n < length news → Q (get_or news n d) new → EachBecomes olds (set news n new) Q
    each_and_one zero olds news d new done inside one = subst (λ (o : List A). EachBecomes o (set news 0 new) Q) done (one_other news d new inside one)
    each_and_one (suc n) [] news d new done inside one = absurd done
    each_and_one (suc n) (old ∷ olds) [] d new done inside one = absurd done
    each_and_one (suc n) (old ∷ olds) (y ∷ news) d new done inside one = (holds old y done.0, each_and_one n olds news d new done.1 (omega arith) one)

-- ---- what becomes of kits

module _ {A : Type 0} (P R Q : A → A → Type 0) (both : (old mid new : A) → P old mid → R mid new → Q old new) where
  pub become_onward : (olds mids news : List A) → EachBecomes olds mids P → EachBecomes mids news R → EachBecomes olds news Q
  become_onward [] [] [] one two = tt
  become_onward [] [] (new ∷ news) one two = absurd two
  become_onward [] (mid ∷ mids) news one two = absurd one
  become_onward (old ∷ olds) [] news one two = absurd one
  become_onward (old ∷ olds) (mid ∷ mids) [] one two = absurd two
  become_onward (old ∷ olds) (mid ∷ mids) (new ∷ news) one two = (both old mid new one.0 two.0, become_onward olds mids news one.1 two.1)

pub become_all : {A : Type 0} (P : A → A → Type 0) (R : A → Type 0) → ((old new : A) → P old new → R new) → (olds news : List A) → EachBecomes olds news P → AllByRecursion R news
become_all P R holds [] [] become = tt
become_all P R holds [] (new ∷ news) become = absurd become
become_all P R holds (old ∷ olds) [] become = absurd become
become_all P R holds (old ∷ olds) (new ∷ news) become = (holds old new become.0, become_all P R holds olds news become.1)

-- it has no files any more
abbrev pub IsClosed : {F S : Type 0} → Kit F S → Kit F S → Type 0
IsClosed old new = new ≡ record old { files = [] }

pub closed_more : {F S : Type 0} (n : ℕ) (olds news : List (Kit F S)) (d : Kit F S) (files : List Opened) → BecomesUpTo n olds news IsClosed → n < length news → files ≡ []
    → BecomesUpTo (n + 1) olds (set news n (record (get_or news n d) { files = files })) IsClosed
closed_more n olds news d files done inside none =
    more_become IsClosed n olds news d (record (get_or news n d) { files = files }) done inside (ap (λ (fs : List Opened). record (get_or news n d) { files = fs }) none)

pub closed_none : {F S : Type 0} (olds news : List (Kit F S)) → EachBecomes olds news IsClosed → AllByRecursion (λ kit. kit.files ≡ []) news
closed_none {F} {S} olds news closed = become_all IsClosed (λ kit. kit.files ≡ []) (λ old new is. ap (λ (kit : Kit F S). kit.files) is) olds news closed

module _ {F S : Type 0} (files : S → Option (List FileText)) (faults : S → ℕ) where
  observed_at : (olds news : List (Kit F S)) (n : ℕ) (x new : Kit F S) → slice_get olds n ≡ Some x → slice_get news n ≡ Some new
      → slice_get (observed_each files faults olds news) n ≡ Some (observed_store files faults x.store new.store)
  observed_at [] news n x new was is = absurd cc
  observed_at (old ∷ olds) [] n x new was is = absurd cc
  observed_at (old ∷ olds) (y ∷ news) zero x new was is =
      ap (λ (k : Kit F S). Some (observed_store files faults k.store y.store)) (same_Some old x was) ∙ ap (λ (k : Kit F S). Some (observed_store files faults x.store k.store)) (same_Some y new is)
  observed_at (old ∷ olds) (y ∷ news) (suc n) x new was is = observed_at olds news n x new was is

  pub observed_set : (olds news : List (Kit F S)) (n : ℕ) (x new : Kit F S) → slice_get olds n ≡ Some x → n < length news
      → slice_get (observed_each files faults olds (set news n new)) n ≡ Some (observed_store files faults x.store new.store)
  observed_set olds news n x new was inside =
      observed_at olds (set news n new) n x new was
      (slice_get-get_or (set news n new) n new (omega (arith, length-set news n new)) ∙ ap Some (get_or-set_same news n new new inside))

  -- what is observed of stores stays, where only files are dropped
  pub observed_closed : (olds mids news : List (Kit F S)) → EachBecomes mids news IsClosed
      → observed_each files faults olds mids ≡ observed_each files faults olds news
  observed_closed [] mids news closed = refl
  observed_closed (old ∷ olds) [] [] closed = refl
  observed_closed (old ∷ olds) [] (new ∷ news) closed = absurd closed
  observed_closed (old ∷ olds) (mid ∷ mids) [] closed = absurd closed
  observed_closed (old ∷ olds) (mid ∷ mids) (new ∷ news) closed =
      ap (λ (k : Kit F S). observed_store files faults old.store k.store ∷ observed_each files faults olds mids) (sym closed.0)
      ∙ ap (λ t. observed_store files faults old.store new.store ∷ t) (observed_closed olds mids news closed.1)

module _ {F S : Type 0} (faults : S → ℕ) (files : S → Option (List FileText)) (opened : S → ℕ → Option Opening) where
  -- what a call leaves of a kit, whatever it answers
  abbrev pub IsOnward : Kit F S → Kit F S → Type 0
  IsOnward old new = (new.shelf ≡ old.shelf) × IsStoreKept faults files opened old.store new.store

  pub onward_same : (kit : Kit F S) → IsOnward kit kit
  onward_same kit = (refl, store_same faults files opened kit.store)

  pub closed_onward : (olds mids news : List (Kit F S)) → EachBecomes olds mids IsOnward → EachBecomes mids news IsClosed → EachBecomes olds news IsOnward
  closed_onward olds mids news = become_onward IsOnward IsClosed IsOnward (λ old mid new one two. subst (λ (kit : Kit F S). IsOnward old kit) (sym two) one) olds mids news

  pub one_onward : (kits others : List (Kit F S)) (first new : Kit F S) → kits ≡ first ∷ others → IsOnward first new → EachBecomes kits (new ∷ others) IsOnward
  one_onward kits others first new are one = subst (λ (ks : List (Kit F S)). EachBecomes ks (new ∷ others) IsOnward) (sym are) (one, same_become IsOnward onward_same others)

-- It has opened the files of these names, which have the lengths that the first kit met; and its store, where it counts exactly, failed less often than it may.
pub record HasOpened {F S : Type 0} (s : StoreGhosts S) (attempts : ℕ) (names : List (List ℕ)) (first : List Opened) (old new : Kit F S) : Type 0 where
  pub onward : IsOnward s.faults s.files s.opened old new
  pub opens : AreOpened (s.files new.store) (s.opened new.store) names new.files
  pub agree : AgreeInLength first new.files
  pub fewer : s.counts_exactly ≡ true → RoseByFewer (s.faults old.store) (s.faults new.store) attempts

-- ---- how often each store failed

-- an opening was refused with this number alone
pub only_kit : (files : Option (List FileText)) (first : List Opened) (names : List (List ℕ)) (kit : ℕ) (end : Status) → AreNamesRefused files first names kit end
    → (at : ℕ) → end ≡ status.SourceFault at → at ≡ kit
only_kit files first names kit end refused at is = subst (λ (e : Status). AreNamesRefused files first names kit e) is refused

-- no failure was before
pub none_before : {S : Type 0} (s : StoreGhosts S) (attempts kit : ℕ) (old new : S) (end : Status) → TriesStore s (attempts - 0) kit old new end → TriesStore s attempts kit old new end
none_before s attempts kit old new end told =
    let all : attempts - 0 ≡ attempts = omega arith in
    subst (λ (most : ℕ). TriesStore s most kit old new end) all told

module _ {F S : Type 0} (s : StoreGhosts S) (attempts : ℕ) (some : 1 ≤ attempts) where
  module _ (P : Kit F S → Kit F S → Type 0) (holds : (old new : Kit F S) → P old new → s.counts_exactly ≡ true → RoseByFewer (s.faults old.store) (s.faults new.store) attempts) where
    each_fewer : (olds news : List (Kit F S)) → EachBecomes olds news P → (kit : ℕ) (old new : Kit F S) → slice_get olds kit ≡ Some old → slice_get news kit ≡ Some new
        → s.counts_exactly ≡ true → RoseByFewer (s.faults old.store) (s.faults new.store) attempts
    each_fewer [] news each kit old new was is = absurd cc
    each_fewer (x ∷ olds) [] each kit old new was is = absurd cc
    each_fewer (x ∷ olds) (y ∷ news) each zero old new was is =
        subst (λ (k : Kit F S). s.counts_exactly ≡ true → RoseByFewer (s.faults k.store) (s.faults new.store) attempts) (same_Some x old was)
        (subst (λ (k : Kit F S). s.counts_exactly ≡ true → RoseByFewer (s.faults x.store) (s.faults k.store) attempts) (same_Some y new is) (holds x y each.0))
    each_fewer (x ∷ olds) (y ∷ news) each (suc kit) old new was is = each_fewer olds news each.1 kit old new was is

    -- all kits after the first opened their files
    pub others_fewer : (olds news : List (Kit F S)) → EachBecomes olds news P → TriesOthers s attempts olds news status.Ok
    others_fewer olds news each = λ kit old new was is.
        store_fewer s attempts (suc kit) old.store new.store status.Ok (each_fewer olds news each kit old new was is) (λ no. cc)

    one_or_fewer : (n : ℕ) (olds news : List (Kit F S)) (d last : Kit F S) → BecomesUpTo n olds news P → n < length news → (kit : ℕ) (old new : Kit F S)
        → slice_get olds kit ≡ Some old → slice_get (set news n last) kit ≡ Some new
        → ((kit ≡ n) × (get_or news n d ≡ old) × (last ≡ new)) ⊎ ((kit ≡ n → ⊥) × (s.counts_exactly ≡ true → RoseByFewer (s.faults old.store) (s.faults new.store) attempts))
    one_or_fewer zero olds [] d last done inside kit old new was is = absurd (omega arith)
    one_or_fewer zero olds (y ∷ news) d last done inside zero old new was is =
        let first : slice_get (y ∷ news) 0 ≡ Some old = subst (λ (os : List (Kit F S)). slice_get os 0 ≡ Some old) (sym done) was in
        inl (refl, same_Some y old first, same_Some last new is)
    one_or_fewer zero olds (y ∷ news) d last done inside (suc kit) old new was is =
        let before : slice_get news kit ≡ Some old = subst (λ (os : List (Kit F S)). slice_get os (suc kit) ≡ Some old) (sym done) was in
        let same = same_Some old new (sym before ∙ is) in
        inr (
          λ no. omega (arith, no),
          λ exactly. subst (λ (k : Kit F S). RoseByFewer (s.faults old.store) (s.faults k.store) attempts) same (omega arith),
        )
    one_or_fewer (suc n) [] news d last done inside kit old new was is = absurd done
    one_or_fewer (suc n) (x ∷ olds) [] d last done inside kit old new was is = absurd done
    one_or_fewer (suc n) (x ∷ olds) (y ∷ news) d last done inside zero old new was is =
        inr (
          λ no. omega (arith, no),
          subst (λ (k : Kit F S). s.counts_exactly ≡ true → RoseByFewer (s.faults k.store) (s.faults new.store) attempts) (same_Some x old was)
              (subst (λ (k : Kit F S). s.counts_exactly ≡ true → RoseByFewer (s.faults x.store) (s.faults k.store) attempts) (same_Some y new is) (holds x y done.0)),
        )
    one_or_fewer (suc n) (x ∷ olds) (y ∷ news) d last done inside (suc kit) old new was is =
        elim (one_or_fewer n olds news d last done.1 (omega arith) kit old new was is) [
          | inl one ↦ inl (ap suc one.0, one.1, one.2)
          | inr other ↦ inr ((λ no. other.0 (omega (arith, no))), other.1)
        ]

    -- or one of them didn't: one store failed as it did, and each other one less often than it may
    pub others_told : (n : ℕ) (olds news : List (Kit F S)) (d last : Kit F S) → BecomesUpTo n olds news P → n < length news → (end : Status)
        → TriesStore s attempts (n + 1) (get_or news n d).store last.store end → ((at : ℕ) → end ≡ status.SourceFault at → at ≡ n + 1)
        → TriesOthers s attempts olds (set news n last) end
    others_told n olds news d last done inside end own only = λ kit old new was is.
        elim (one_or_fewer n olds news d last done inside kit old new was is) [
          | inl one ↦
              let number : n + 1 ≡ suc kit = omega (arith, one.0) in
              subst (λ (k : Kit F S). TriesStore s attempts (suc kit) k.store new.store end) one.1
              (subst (λ (k : Kit F S). TriesStore s attempts (suc kit) (get_or news n d).store k.store end) one.2
              (subst (λ (k : ℕ). TriesStore s attempts k (get_or news n d).store last.store end) number own))
          | inr other ↦
              store_fewer s attempts (suc kit) old.store new.store end other.1 (λ no. let same : suc kit ≡ n + 1 = only (suc kit) no in other.0 (omega (arith, same)))
        ]

  -- the first kit's store, and the others
  pub each_told : (kits others news : List (Kit F S)) (first last : Kit F S) → kits ≡ first ∷ others → (failed : ℕ) (end : Status)
      → TriesStore s (attempts - failed) 0 first.store last.store end → TriesOthers s attempts others news end → TriesKits s attempts failed kits (last ∷ news) end
  each_told kits others news first last are failed end own rest =
      subst (λ (ks : List (Kit F S)). TriesKits s attempts failed ks (last ∷ news) end) (sym are) by
    where
      by : TriesKits s attempts failed (first ∷ others) (last ∷ news) end
      by zero old new was is =
          subst (λ (k : Kit F S). TriesStore s (attempts - failed) 0 k.store new.store end) (same_Some first old was)
          (subst (λ (k : Kit F S). TriesStore s (attempts - failed) 0 first.store k.store end) (same_Some last new is) own)
      by (suc kit) old new was is =
          let all : attempts ≡ attempts - 0 = omega arith in
          subst (λ (most : ℕ). TriesStore s most (suc kit) old.store new.store end) all (rest kit old new was is)

  -- the first kit opened its files, and one of the others didn't
  pub later_told : (kits others news : List (Kit F S)) (first last : Kit F S) → kits ≡ first ∷ others → (failed : ℕ) (names : List (List ℕ)) (opens : List Opened) (end : Status)
      → TriesStore s (attempts - failed) 0 first.store last.store status.Ok → IsOtherRefused (observed_each s.files s.faults others news) opens names attempts end
      → TriesOthers s attempts others news end → TriesKits s attempts failed kits (last ∷ news) end
  later_told kits others news first last are failed names opens end own refused rest =
      each_told kits others news first last are failed end
      (store_fewer s (attempts - failed) 0 first.store last.store end (λ exactly. (own exactly).patient (λ is. cc))
      (λ is. let at : 0 ≡ refused.kit + 1 = only_kit refused.store.files opens names (refused.kit + 1) end refused.refused 0 is in omega (arith, at))) rest

  -- the first kit refused, and the others did nothing
  pub first_told : (kits others : List (Kit F S)) (first last : Kit F S) → kits ≡ first ∷ others → (failed : ℕ) (end : Status)
      → TriesStore s (attempts - failed) 0 first.store last.store end → ((at : ℕ) → end ≡ status.SourceFault at → at ≡ 0) → TriesKits s attempts failed kits (last ∷ others) end
  first_told kits others first last are failed end own only =
      each_told kits others others first last are failed end own
      (λ kit old new was is. store_uncalled s attempts (suc kit) old.store new.store end (ap (λ (k : Kit F S). k.store) (same_Some old new (sym was ∙ is))) some
      (λ no. let never : suc kit ≡ 0 = only (suc kit) no in omega (arith, never)))

  -- where only files are dropped
  open_before : (mids news : List (Kit F S)) → EachBecomes mids news IsClosed → (kit : ℕ) (new : Kit F S) → slice_get news kit ≡ Some new
      → (mid : Kit F S) × (slice_get mids kit ≡ Some mid) × (mid.store ≡ new.store)
  open_before [] [] closed kit new is = absurd cc
  open_before [] (y ∷ news) closed kit new is = absurd closed
  open_before (x ∷ mids) [] closed kit new is = absurd closed
  open_before (x ∷ mids) (y ∷ news) closed zero new is = (x, refl, sym (ap (λ (k : Kit F S). k.store) closed.0) ∙ ap (λ (k : Kit F S). k.store) (same_Some y new is))
  open_before (x ∷ mids) (y ∷ news) closed (suc kit) new is = open_before mids news closed.1 kit new is

  pub closed_told : (olds mids news : List (Kit F S)) → EachBecomes mids news IsClosed → (failed : ℕ) (end : Status) → TriesKits s attempts failed olds mids end
      → TriesKits s attempts failed olds news end
  closed_told olds mids news closed failed end told = λ kit old new was is.
      let before = open_before mids news closed kit new is in
      subst (λ (store : S). TriesStore s (attempts - failed_before failed kit) kit old.store store end) before.2 (told kit old before.0 was before.1)

-- a file that is not taken is no fault of the store
pub file_exact : {S : Type 0} (store : RetryingStore S) → IsPatient store → (first : List Opened) (at : ℕ) (name : List ℕ) (len : ℕ) (refusal : Status)
    → IsFileRefused first at name len refusal → GivesUpExactly store refusal
file_exact store patient first at name len (status.FileChanged changed met other) is = patient
file_exact store patient first at name len status.NoMemory is = patient
file_exact store patient first at name len _ is = absurd is

-- ---- why not every kit opened the files

module _ (plan : Plan) (attempts failed : ℕ) (store : ObservedStore) (stores : List ObservedStore) where
  pub first_refused : (refusal : Status) → IsFaultCounted store attempts failed refusal → AreNamesRefused store.files [] (file_names plan) 0 refusal
      → IsOpeningRefused (store ∷ stores) plan attempts failed refusal
  first_refused (status.NoSource name) counted is = record { kit = 0; store = store; at = refl; before = is.0; after = is.1; names_are = is.2; absent = is.3 }
  first_refused (status.SourceFault at) counted is =
      subst (λ (k : ℕ). HasFailed (store ∷ stores) attempts failed k) (sym is) (record { store = store; at = refl; counted = counted })
  first_refused (status.FileChanged name len other) counted is = let met : None ≡ Some is.3.file = is.3.met in absurd cc
  first_refused status.NoMemory counted is = tt
  first_refused _ counted is = absurd is

  pub other_refused : (opened : ℕ → Option Opening) (opens : List Opened) → AreOpened store.files opened (file_names plan) opens → (refusal : Status)
      → IsOtherRefused stores opens (file_names plan) attempts refusal → IsOpeningRefused (store ∷ stores) plan attempts failed refusal
  other_refused opened opens are (status.NoSource name) is =
      let r = is.refused in
      record { kit = suc is.kit; store = is.store; at = is.at; before = r.0; after = r.1; names_are = r.2; absent = r.3 }
  other_refused opened opens are (status.SourceFault at) is =
      let next : suc is.kit ≡ is.kit + 1 = omega arith in
      subst (λ (k : ℕ). HasFailed (store ∷ stores) attempts failed k) (next ∙ sym is.refused) (record { store = is.store; at = is.at; counted = is.counted })
  other_refused opened opens are (status.FileChanged name len other) is =
      let r = is.refused in
      record {
        first = store;
        at_first = refl;
        kit = is.kit;
        store = is.store;
        at = is.at;
        before = r.0;
        after = r.1;
        names_are = r.2;
        differ = r.3.differ;
        len_at_first = subst (λ (l : ℕ). HasLength store.files name l) r.3.len_is
            (nth_has_length store.files opened r.0 r.1 name opens r.3.file (subst (λ (l : List (List ℕ)). AreOpened store.files opened l opens) r.2 are) r.3.met);
        len_at = r.4;
      }
  other_refused opened opens are status.NoMemory is = tt
  other_refused opened opens are _ is = absurd is.refused

module _ {F S : Type 0} (faults : S → ℕ) (files : S → Option (List FileText)) (opened : S → ℕ → Option Opening) (plan : Plan) (attempts failed : ℕ) (kits others news : List (Kit F S))
    (first new : Kit F S) (are : kits ≡ first ∷ others) where
  seen : (refusal : Status) → IsOpeningRefused (observed_store files faults first.store new.store ∷ observed_each files faults others news) plan attempts failed refusal
      → IsOpeningRefused (observed_each files faults kits (new ∷ news)) plan attempts failed refusal
  seen refusal is = subst (λ (ks : List (Kit F S)). IsOpeningRefused (observed_each files faults ks (new ∷ news)) plan attempts failed refusal) (sym are) is

  pub each_first_refused : (refusal : Status) → IsFaultCounted (observed_store files faults first.store new.store) attempts failed refusal
      → AreNamesRefused (files first.store) [] (file_names plan) 0 refusal → IsOpeningRefused (observed_each files faults kits (new ∷ news)) plan attempts failed refusal
  each_first_refused refusal counted is =
      seen refusal (first_refused plan attempts failed (observed_store files faults first.store new.store) (observed_each files faults others news) refusal counted is)

  pub each_other_refused : (opens : List Opened) → IsStoreKept faults files opened first.store new.store → AreOpened (files new.store) (opened new.store) (file_names plan) new.files
      → opens ≡ new.files → (refusal : Status) → IsOtherRefused (observed_each files faults others news) opens (file_names plan) attempts refusal
      → IsOpeningRefused (observed_each files faults kits (new ∷ news)) plan attempts failed refusal
  each_other_refused opens kept opened_all same refusal is =
      let told = subst (λ (f : Option (List FileText)). AreOpened f (opened new.store) (file_names plan) new.files) kept.files opened_all in
      seen refusal (other_refused plan attempts failed (observed_store files faults first.store new.store) (observed_each files faults others news) (opened new.store) opens
      (subst (λ (o : List Opened). AreOpened (files first.store) (opened new.store) (file_names plan) o) (sym same) told) refusal is)

pub if_err : {A E : Type 0} {P Q : E → Type 0} (r : Result A E) → ((e : E) → P e → Q e) → IfErr r P → IfErr r Q
if_err (Ok a) f h = tt
if_err (Err e) f h = f e h

pub if_err_both : {A E : Type 0} {P Q R : E → Type 0} (r : Result A E) → ((e : E) → P e → Q e → R e) → IfErr r P → IfErr r Q → IfErr r R
if_err_both (Ok a) f p q = tt
if_err_both (Err e) f p q = f e p q

pub on_ok : {A E : Type 0} {P Q : Type 0} (r : Result A E) → (P → Q) → OnOk r P → OnOk r Q
on_ok (Ok a) f p = f p
on_ok (Err e) f p = tt
