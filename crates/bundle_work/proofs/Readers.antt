-- The readers of a plan: one for each source item, whose lengths are those of the items; and what stays of them from call to call.
use Rattle.std.proofs.Common.{◌≡◌, ℕ, zero, suc, ◌+◌, ◌<◌, ◌≤◌, Bool, true, false, ◌||◌, List, [], ◌∷◌, ◌++◌, length, get_or, map, take, drop, refl, sym, ap, subst, ◌∙◌, append_assoc, length-append, arith}
use Rattle.std.specs.Prelude.{Option, Some, None, not, slice_get, unwrap_or}
use Rattle.std.specs.List.{enumerate_from, flat_map}
use Rattle.std.specs.Option.{option_and_then}
use Rattle.std.proofs.lemmas.Bool.{false≢true}
use Rattle.std.proofs.lemmas.List.{length-take-le, map-append, take_more}
use Rattle.beam_values.specs.Checked.{file_count, files_of_kind, reads_file}
use Rattle.beam_values.specs.Files.{first_named}
use Rattle.beam_values.specs.declared.file_text.FileText.{FileText}
use Rattle.beam_values.specs.declared.piece.FileLen.{FileLen}
use Rattle.beam_values.specs.declared.plan.Args.{Args}
use Rattle.beam_values.specs.declared.plan.Estimator.{Estimator}
use Rattle.beam_values.specs.declared.plan.Node.{Node}
use Rattle.beam_values.specs.declared.plan.NodeKind.{NodeKind}
use Rattle.beam_values.specs.declared.plan.NodeKind.TheVariants.{Source, ParDo, Flatten, WindowInto, Group, Stateful, Write}
use Rattle.beam_values.specs.declared.plan.Plan.{Plan}
use Rattle.beam_values.specs.declared.plan.SourceKind.{SourceKind}
use Rattle.beam_values.specs.declared.plan.SourceKind.TheVariants.{Lines, TimedLines, Count, Made}
use Rattle.beam_model.specs.Positions.{SourceItem, file_item, item_len, items, items_of_kind, items_of_node, len_of, made_item, positions_in}
use Rattle.beam_ports.specs.Files.{Opening}
use Rattle.beam_ports.specs.declared.store.Opened.{Opened}
use Rattle.pipeline_graph.specs.Rules.{HasFiles, HasSettings}
use Rattle.book_core.specs.Runs.{AreLengthsOf}
use Rattle.book_core.specs.Work.{is_told}
use Rattle.book_core.proofs.HeldOnce.{get_at_end}
use Rattle.chain_exec.specs.Sources.{IsText, source_at, source_in}
use Rattle.bundle_work.specs.Openings.{AreOpened, IsOpenedAs, names_in}
use Rattle.bundle_work.specs.Reading.{AreReaders, AreReadersOf, AreToldReaders, IsReaderOf, counted_reader, file_reader, file_readers, length_in, readers_from, readers_of_kind}
use Rattle.bundle_work.specs.declared.reading.Reader.{Reader}
use Rattle.bundle_work.proofs.Told.{opened_untold}

-- ---- the files of a node are few

pub few_files : (nodes : List Node) (n : ℕ) (node : Node) → slice_get nodes n ≡ Some node → length (names_in node.kind) ≤ file_count nodes
few_files [] n node here = absurd (cc)
few_files (first ∷ nodes) zero node here = let same : first ≡ node = cc in omega (arith, of_kind node.kind, ap (λ (x : Node). files_of_kind x.kind) same)
  where
    of_kind : (kind : NodeKind) → length (names_in kind) ≡ files_of_kind kind
    of_kind (Source work args files estimator) = refl
    of_kind (ParDo work args) = refl
    of_kind Flatten = refl
    of_kind (WindowInto strategy) = refl
    of_kind (Group trigger) = refl
    of_kind (Stateful work args log) = refl
    of_kind (Write label) = refl
few_files (first ∷ nodes) (suc n) node here = omega (arith, few_files nodes n node here)

-- ---- files, numbered

enumerate_more : {X : Type 0} (k : ℕ) (xs : List X) (y : X) → enumerate_from k (xs ++ y ∷ []) ≡ enumerate_from k xs ++ (k + length xs, y) ∷ []
enumerate_more {X} k [] y = let here : k ≡ k + 0 = omega arith in ap (λ (n : ℕ). (n, y) ∷ []) here
enumerate_more {X} k (x ∷ xs) y =
    let there : (k + 1) + length xs ≡ k + length (x ∷ xs) = omega arith in
    ap (λ (t : List (ℕ × X)). (k, x) ∷ t) (enumerate_more (k + 1) xs y ∙ ap (λ (n : ℕ). enumerate_from (k + 1) xs ++ (n, y) ∷ []) there)

pub readers_more : (node : ℕ) (opened : List Opened) (i : ℕ) (d : Opened) → i < length opened
    → file_readers node (take (i + 1) opened) ≡ file_readers node (take i opened) ++ file_reader node (i, get_or opened i d) ∷ []
readers_more node opened i d inside =
    let count : 0 + length (take i opened) ≡ i = omega (arith, length-take-le i opened (omega arith)) in
    ap (file_readers node) (take_more opened i d inside)
    ∙ ap (map (file_reader node)) (enumerate_more 0 (take i opened) (get_or opened i d) ∙ ap (λ (n : ℕ). enumerate_from 0 (take i opened) ++ (n, get_or opened i d) ∷ []) count)
    ∙ map-append (file_reader node) (enumerate_from 0 (take i opened)) ((i, get_or opened i d) ∷ [])

-- one more reader is put behind those so far
pub readers_pushed : (node : ℕ) (opened : List Opened) (i : ℕ) (d : Opened) (old now new : List Reader) (reader : Reader) → i < length opened → now ≡ old ++ file_readers node (take i opened)
    → new ≡ now ++ reader ∷ [] → reader ≡ file_reader node (i, get_or opened i d) → new ≡ old ++ file_readers node (take (i + 1) opened)
readers_pushed node opened i d old now new reader inside so_far pushed is =
    let front = file_readers node (take i opened) in
    pushed
    ∙ ap (λ (l : List Reader). l ++ reader ∷ []) so_far
    ∙ append_assoc old front (reader ∷ [])
    ∙ ap (λ (r : Reader). old ++ (front ++ r ∷ [])) is
    ∙ ap (λ (l : List Reader). old ++ l) (sym (readers_more node opened i d inside))

-- ---- readers of opened files are of the items

module _ (told : Option (List FileText)) (opened : ℕ → Option Opening) (plan : Plan) where
  readers_join : (items : List SourceItem) (readers : List Reader) (others : List SourceItem) (later : List Reader) → AreReadersOf told opened plan items readers
      → AreReadersOf told opened plan others later → AreReadersOf told opened plan (items ++ others) (readers ++ later)
  readers_join [] [] others later one two = two
  readers_join [] (reader ∷ readers) others later one two = absurd one
  readers_join (item ∷ items) [] others later one two = absurd one
  readers_join (item ∷ items) (reader ∷ readers) others later one two = (one.0, readers_join items readers others later one.1 two)

  module _ (node : ℕ) (work : SourceKind) (args : Args) (here : source_at plan node ≡ Some (record { work = work; args = args })) where
    file_text : (item : ℕ) (name : List ℕ) (file : Opened) → IsOpenedAs told opened name file → reads_file work ≡ true → (t : Option (List FileText)) → told ≡ t
        → (is_told t || not (reads_file work)) ≡ true → IsText work (opened file.file) file.len (file_item (unwrap_or t []) node work args (item, name)).file
    file_text item name file is reads None same known = absurd (false≢true (ap not (sym reads) ∙ known))
    file_text item name file is reads (Some files) same known =
        let found = is.told files same in
        let bytes : unwrap_or (first_named name files) [] ≡ found.0 = ap (λ (o : Option (List ℕ)). unwrap_or o []) found.1 in
        subst (λ (text : List ℕ). IsText work (opened file.file) file.len text) (sym bytes) (record {
          told = λ r. found.3;
          whole = λ r. found.2;
          none = λ r. absurd (false≢true (sym r ∙ reads));
        })

    one_file : (item : ℕ) (name : List ℕ) (file : Opened) → reads_file work ≡ true → IsOpenedAs told opened name file
        → IsReaderOf told opened plan (file_item (unwrap_or told []) node work args (item, name)) (file_reader node (item, file))
    one_file item name file reads is = record {
      at_node = refl;
      at_item = refl;
      source = here;
      whole = refl;
      counted = λ r. absurd (false≢true (sym r ∙ reads));
      opened_so = λ r. is.len;
      text = file_text item name file is reads told refl;
    }

    files_read : reads_file work ≡ true → (k : ℕ) (names later : List (List ℕ)) (opens : List Opened) → AreOpened told opened (names ++ later) opens
        → AreReadersOf told opened plan (map (file_item (unwrap_or told []) node work args) (enumerate_from k names)) (map (file_reader node) (enumerate_from k (take (length names) opens)))
        × AreOpened told opened later (drop (length names) opens)
    files_read reads k [] later opens are = (tt, are)
    files_read reads k (name ∷ names) later [] are = absurd are
    files_read reads k (name ∷ names) later (file ∷ opens) are =
        let onward = files_read reads (k + 1) names later opens are.1 in
        ((one_file k name file reads are.0, onward.0), onward.1)

    one_counted : reads_file work ≡ false → len_of (made_item node work args) ≡ (counted_reader node args).len → IsReaderOf told opened plan (made_item node work args) (counted_reader node args)
    one_counted reads long = record {
      at_node = refl;
      at_item = refl;
      source = here;
      whole = refl;
      counted = λ r. long;
      opened_so = λ r. absurd (false≢true (sym reads ∙ r));
      text = λ known. record { told = λ r. absurd (false≢true (sym reads ∙ r)); whole = λ r. absurd (false≢true (sym reads ∙ r)); none = λ r. refl };
    }

  abbrev Reads : ℕ → NodeKind → List (List ℕ) → List Opened → Type 0
  Reads node kind later opens =
      AreReadersOf told opened plan (items_of_kind (unwrap_or told []) node kind) (readers_of_kind node kind opens)
      × AreOpened told opened later (drop (length (names_in kind)) opens)

  source_reads : (node : ℕ) (work : SourceKind) (args : Args) (names later : List (List ℕ)) (estimator : Estimator) (opens : List Opened)
      → source_at plan node ≡ Some (record { work = work; args = args }) → HasFiles work names → AreOpened told opened (names ++ later) opens
      → Reads node (Source work args names estimator) later opens
  source_reads node Lines args names later estimator opens here files are = files_read node Lines args here refl 0 names later opens are
  source_reads node TimedLines args names later estimator opens here files are = files_read node TimedLines args here refl 0 names later opens are
  source_reads node Count args names later estimator opens here files are = (
    (one_counted node Count args here refl refl, tt),
    subst (λ (l : List (List ℕ)). AreOpened told opened later (drop (length l) opens)) (sym files) (subst (λ (l : List (List ℕ)). AreOpened told opened (l ++ later) opens) files are),
  )
  source_reads node Made args names later estimator opens here files are = (
    (one_counted node Made args here refl refl, tt),
    subst (λ (l : List (List ℕ)). AreOpened told opened later (drop (length l) opens)) (sym files) (subst (λ (l : List (List ℕ)). AreOpened told opened (l ++ later) opens) files are),
  )

  kind_reads : (node : ℕ) (kind : NodeKind) (later : List (List ℕ)) (opens : List Opened) → ((work : SourceKind) (args : Args) → source_in kind ≡ Some (record { work = work; args = args })
      → source_at plan node ≡ Some (record { work = work; args = args })) → HasSettings kind → AreOpened told opened (names_in kind ++ later) opens → Reads node kind later opens
  kind_reads node (Source work args names estimator) later opens here set are = source_reads node work args names later estimator opens (here work args refl) set.1 are
  kind_reads node (ParDo work args) later opens here set are = (tt, are)
  kind_reads node Flatten later opens here set are = (tt, are)
  kind_reads node (WindowInto strategy) later opens here set are = (tt, are)
  kind_reads node (Group trigger) later opens here set are = (tt, are)
  kind_reads node (Stateful work args log) later opens here set are = (tt, are)
  kind_reads node (Write label) later opens here set are = (tt, are)

  module _ (settings : (n : ℕ) (node : Node) → slice_get plan.nodes n ≡ Some node → HasSettings node.kind) where
    nodes_read : (front nodes : List Node) (n : ℕ) (opens : List Opened) → plan.nodes ≡ front ++ nodes → n ≡ length front
        → AreOpened told opened (flat_map (λ node. names_in node.kind) nodes) opens
        → AreReadersOf told opened plan (flat_map (items_of_node (unwrap_or told [])) (enumerate_from n nodes)) (readers_from n nodes opens)
    nodes_read front [] n opens same at are = tt
    nodes_read front (node ∷ nodes) n opens same at are =
        let here : slice_get plan.nodes n ≡ Some node = ap (slice_get plan.nodes) at ∙ ap (λ (l : List Node). slice_get l (length front)) same ∙ get_at_end front node nodes in
        let reads = kind_reads n node.kind (flat_map (λ (x : Node). names_in x.kind) nodes) opens (λ work args is. source_of work args here is) (settings n node here) are in
        readers_join (items_of_kind (unwrap_or told []) n node.kind) (readers_of_kind n node.kind opens) _ _ reads.0
        (nodes_read (front ++ node ∷ []) nodes (n + 1) (drop (length (names_in node.kind)) opens) (same ∙ sym (append_assoc front (node ∷ []) nodes))
        (omega (arith, at, length-append front (node ∷ []))) reads.1)
      where
        source_of : (work : SourceKind) (args : Args) → slice_get plan.nodes n ≡ Some node → source_in node.kind ≡ Some (record { work = work; args = args })
            → source_at plan n ≡ Some (record { work = work; args = args })
        source_of work args at is = by (slice_get plan.nodes n) at
          where
            by : (found : Option Node) → found ≡ Some node → option_and_then (λ x. source_in x.kind) found ≡ Some (record { work = work; args = args })
            by None at = absurd (cc)
            by (Some other) at = let same : other ≡ node = cc in ap (λ (x : Node). source_in x.kind) same ∙ is

    pub plan_read : (opens : List Opened) → AreOpened told opened (flat_map (λ node. names_in node.kind) plan.nodes) opens → AreToldReaders told opened plan (readers_from 0 plan.nodes opens)
    plan_read opens are = nodes_read [] plan.nodes 0 opens refl refl are

pub plan_readers : (files : Option (List FileText)) (opened : ℕ → Option Opening) (plan : Plan) (opens : List Opened)
    → ((n : ℕ) (node : Node) → slice_get plan.nodes n ≡ Some node → HasSettings node.kind)
    → AreOpened files opened (flat_map (λ node. names_in node.kind) plan.nodes) opens → AreReaders files opened plan (readers_from 0 plan.nodes opens)
plan_readers files opened plan opens settings are = record {
  untold = plan_read None opened plan settings opens (opened_untold files opened (flat_map (λ (node : Node). names_in node.kind) plan.nodes) opens are);
  told = plan_read files opened plan settings opens are;
}

-- ---- lengths

abbrev file_len_of : ℕ → ℕ → ℕ → FileLen
file_len_of node item len = record { node = node; item = item; len = len }

module _ (opened : ℕ → Option Opening) (plan : Plan) where
  -- lengths of readers are lengths of the items
  pub lengths_of_items : (items : List SourceItem) (readers : List Reader) → AreReadersOf None opened plan items readers → AreLengthsOf items (map length_in readers)
  lengths_of_items [] [] are = tt
  lengths_of_items [] (reader ∷ readers) are = absurd are
  lengths_of_items (item ∷ items) [] are = absurd are
  lengths_of_items (item ∷ items) (reader ∷ readers) are =
      ((are.0.at_node, are.0.at_item, λ reads. sym (are.0.counted reads)), lengths_of_items items readers are.1)

  -- where the files are told, just theirs
  pub lengths_told : (told : List FileText) (items : List SourceItem) (readers : List Reader) → AreReadersOf (Some told) opened plan items readers → map length_in readers ≡ map item_len items
  lengths_told told [] [] are = refl
  lengths_told told [] (reader ∷ readers) are = absurd are
  lengths_told told (item ∷ items) [] are = absurd are
  lengths_told told (item ∷ items) (reader ∷ readers) are = ap₂' _ _ _ _ (one item reader are.0) (lengths_told told items readers are.1)
    where
      ap₂' : (x y : FileLen) (xs ys : List FileLen) → x ≡ y → xs ≡ ys → x ∷ xs ≡ y ∷ ys
      ap₂' x y xs ys a b = ap (λ t. t ∷ xs) a ∙ ap (λ t. y ∷ t) b

      positions : (work : SourceKind) (args : Args) (file : List ℕ) → reads_file work ≡ true → positions_in work args file ≡ length file
      positions Lines args file reads = refl
      positions TimedLines args file reads = refl
      positions Count args file reads = absurd (false≢true reads)
      positions Made args file reads = absurd (false≢true reads)

      long : (item : SourceItem) (reader : Reader) → IsReaderOf (Some told) opened plan item reader → (b : Bool) → reads_file item.work ≡ b → reader.len ≡ len_of item
      long item reader is true reads = sym ((is.text refl).whole reads) ∙ sym (positions item.work item.args item.file reads)
      long item reader is false reads = sym (is.counted reads)

      length_same : (node item len node' item' len' : ℕ) → node ≡ node' → item ≡ item' → len ≡ len' → file_len_of node item len ≡ file_len_of node' item' len'
      length_same node item len node' item' len' a b c =
          ap (λ n. file_len_of n item len) a ∙ ap (λ i. file_len_of node' i len) b ∙ ap (λ l. file_len_of node' item' l) c

      one : (item : SourceItem) (reader : Reader) → IsReaderOf (Some told) opened plan item reader → length_in reader ≡ item_len item
      one item reader is = length_same reader.node reader.item reader.len item.node item.item (len_of item) is.at_node is.at_item (long item reader is (reads_file item.work) refl)
