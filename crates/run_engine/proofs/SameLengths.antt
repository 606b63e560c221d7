-- Kits that opened files of the same lengths met the same lengths of a plan's items.
use Rattle.std.proofs.Common.{◌≡◌, ℕ, zero, suc, ◌+◌, List, [], ◌∷◌, ◌++◌, length, map, take, drop, refl, sym, ap, ◌∙◌, arith}
use Rattle.std.specs.Prelude.{Option}
use Rattle.std.specs.List.{AllByRecursion, enumerate_from}
use Rattle.std.proofs.lemmas.List.{map-append}
use Rattle.beam_values.specs.declared.file_text.FileText.{FileText}
use Rattle.beam_values.specs.declared.plan.Args.{Args}
use Rattle.beam_values.specs.declared.plan.Node.{Node}
use Rattle.beam_values.specs.declared.plan.NodeKind.{NodeKind}
use Rattle.beam_values.specs.declared.plan.NodeKind.TheVariants.{Source, ParDo, Flatten, WindowInto, Group, Stateful, Write}
use Rattle.beam_values.specs.declared.plan.Plan.{Plan}
use Rattle.beam_values.specs.declared.plan.SourceKind.{SourceKind}
use Rattle.beam_values.specs.declared.plan.SourceKind.TheVariants.{Lines, TimedLines, Count, Made}
use Rattle.beam_ports.specs.Files.{Opening}
use Rattle.beam_ports.specs.declared.store.Opened.{Opened}
use Rattle.bundle_work.specs.Openings.{AreOpened, file_names, names_in}
use Rattle.bundle_work.specs.Reading.{file_reader, length_in, opened_lengths, readers_from, readers_of_kind, readers_of_source}
use Rattle.bundle_work.specs.declared.kit.Kit.{Kit}
use Rattle.run_engine.specs.Openings.{AgreeInLength, AreOpenedByAll}
use Rattle.run_engine.specs.PlanRun.{lengths_of_first}

-- as many files, of the same lengths
abbrev HaveSame : List Opened → List Opened → Type 0
HaveSame [] [] = Unit {0}
HaveSame (file ∷ files) (other ∷ others) = (other.len ≡ file.len) × HaveSame files others
HaveSame files others = ⊥

same_taken : (n : ℕ) (files others : List Opened) → HaveSame files others → HaveSame (take n files) (take n others)
same_taken zero files others same = tt
same_taken (suc n) [] [] same = tt
same_taken (suc n) [] (other ∷ others) same = absurd same
same_taken (suc n) (file ∷ files) [] same = absurd same
same_taken (suc n) (file ∷ files) (other ∷ others) same = (same.0, same_taken n files others same.1)

same_dropped : (n : ℕ) (files others : List Opened) → HaveSame files others → HaveSame (drop n files) (drop n others)
same_dropped zero files others same = same
same_dropped (suc n) [] [] same = tt
same_dropped (suc n) [] (other ∷ others) same = absurd same
same_dropped (suc n) (file ∷ files) [] same = absurd same
same_dropped (suc n) (file ∷ files) (other ∷ others) same = same_dropped n files others same.1

-- ---- readers of such files

same_files : (node k : ℕ) (files others : List Opened) → HaveSame files others
    → map length_in (map (file_reader node) (enumerate_from k others)) ≡ map length_in (map (file_reader node) (enumerate_from k files))
same_files node k [] [] same = refl
same_files node k [] (other ∷ others) same = absurd same
same_files node k (file ∷ files) [] same = absurd same
same_files node k (file ∷ files) (other ∷ others) same = λ j. record { node = node; item = k; len = same.0 j } ∷ same_files node (k + 1) files others same.1 j

same_source : (node : ℕ) (work : SourceKind) (args : Args) (count : ℕ) (files others : List Opened) → HaveSame files others
    → map length_in (readers_of_source node work args count others) ≡ map length_in (readers_of_source node work args count files)
same_source node Lines args count files others same = same_files node 0 (take count files) (take count others) (same_taken count files others same)
same_source node TimedLines args count files others same = same_files node 0 (take count files) (take count others) (same_taken count files others same)
same_source node Count args count files others same = refl
same_source node Made args count files others same = refl

same_kind : (node : ℕ) (kind : NodeKind) (files others : List Opened) → HaveSame files others
    → map length_in (readers_of_kind node kind others) ≡ map length_in (readers_of_kind node kind files)
same_kind node (Source work args names estimator) files others same = same_source node work args (length names) files others same
same_kind node (ParDo work args) files others same = refl
same_kind node Flatten files others same = refl
same_kind node (WindowInto strategy) files others same = refl
same_kind node (Group trigger) files others same = refl
same_kind node (Stateful work args log) files others same = refl
same_kind node (Write label) files others same = refl

same_from : (n : ℕ) (nodes : List Node) (files others : List Opened) → HaveSame files others → map length_in (readers_from n nodes others) ≡ map length_in (readers_from n nodes files)
same_from n [] files others same = refl
same_from n (node ∷ nodes) files others same =
    let count = length (names_in node.kind) in
    map-append length_in (readers_of_kind n node.kind others) (readers_from (n + 1) nodes (drop count others))
    ∙ (λ j. same_kind n node.kind files others same j ++ same_from (n + 1) nodes (drop count files) (drop count others) (same_dropped count files others same) j)
    ∙ sym (map-append length_in (readers_of_kind n node.kind files) (readers_from (n + 1) nodes (drop count files)))

-- ---- kits

have_itself : (files : List Opened) → HaveSame files files
have_itself [] = tt
have_itself (file ∷ files) = (refl, have_itself files)

have_same : (files others : List Opened) → length others ≡ length files → AgreeInLength files others → HaveSame files others
have_same [] [] count agree = tt
have_same [] (other ∷ others) count agree = absurd (omega arith)
have_same (file ∷ files) [] count agree = absurd (omega arith)
have_same (file ∷ files) (other ∷ others) count agree = (agree.0, have_same files others (omega arith) agree.1)

-- as many as names
opened_count : (told : Option (List FileText)) (opened : ℕ → Option Opening) (names : List (List ℕ)) (files : List Opened) → AreOpened told opened names files → length files ≡ length names
opened_count told opened [] [] are = refl
opened_count told opened [] (file ∷ files) are = absurd are
opened_count told opened (name ∷ names) [] are = absurd are
opened_count told opened (name ∷ names) (file ∷ files) are = ap suc (opened_count told opened names files are.1)

module _ {F S : Type 0} (files_of : S → Option (List FileText)) (opened_by : S → ℕ → Option Opening) (plan : Plan) where
  others_same : (first : Kit F S) → AreOpened (files_of first.store) (opened_by first.store) (file_names plan) first.files → (kits : List (Kit F S))
      → AllByRecursion (λ kit. AreOpened (files_of kit.store) (opened_by kit.store) (file_names plan) kit.files) kits → AllByRecursion (λ kit. AgreeInLength first.files kit.files) kits
      → AllByRecursion (λ kit. opened_lengths plan kit.files ≡ opened_lengths plan first.files) kits
  others_same first own [] each agree = tt
  others_same first own (kit ∷ kits) each agree =
      let count : length kit.files ≡ length first.files =
      opened_count (files_of kit.store) (opened_by kit.store) (file_names plan) kit.files each.0 ∙ sym (opened_count (files_of first.store) (opened_by first.store) (file_names plan) first.files own) in
      (same_from 0 plan.nodes first.files kit.files (have_same first.files kit.files count agree.0), others_same first own kits each.1 agree.1)

  -- all met what the first one did
  pub all_same : (kits : List (Kit F S)) → AreOpenedByAll files_of opened_by plan kits → AllByRecursion (λ kit. opened_lengths plan kit.files ≡ lengths_of_first plan kits) kits
  all_same [] are = tt
  all_same (first ∷ others) are = (refl, others_same first are.each.0 others are.each.1 are.lengths)
