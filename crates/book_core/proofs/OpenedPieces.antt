-- What holds of each first piece holds of all pieces of an opening, and all items and pieces are of nodes of the plan; and a new slot works nothing.
use Rattle.std.proofs.Common.{◌≡◌, ℕ, ◌+◌, ◌≤◌, ◌<◌, List, [], ◌∷◌, ◌++◌, map, length, ap, ◌∙◌, append-nil, arith}
use Rattle.std.specs.Prelude.{Option, None, fold}
use Rattle.std.specs.List.{All, flat_map, enumerate_from}
use Rattle.std.proofs.lemmas.List.Concat.{flat_map-append}
use Rattle.std.proofs.lemmas.List.Elements.{All-nil, All-cons, All-head, All-tail, All-append, All-map, All-weaker}
use Rattle.beam_values.specs.Lines.{offsets}
use Rattle.beam_values.specs.declared.file_text.FileText.{FileText}
use Rattle.beam_values.specs.declared.piece.FileLen.{FileLen}
use Rattle.beam_values.specs.declared.piece.Piece.{Piece}
use Rattle.beam_values.specs.declared.plan.Args.{Args}
use Rattle.beam_values.specs.declared.plan.Node.{Node}
use Rattle.beam_values.specs.declared.plan.NodeKind.{NodeKind}
use Rattle.beam_values.specs.declared.plan.NodeKind.TheVariants.{Source, ParDo, Flatten, WindowInto, Group, Stateful, Write}
use Rattle.beam_values.specs.declared.plan.Plan.{Plan}
use Rattle.beam_values.specs.declared.plan.SourceKind.{SourceKind}
use Rattle.beam_values.specs.declared.plan.SourceKind.TheVariants.{Lines, TimedLines, Count, Made}
use Rattle.beam_model.specs.Positions.{SourceItem, items, items_of_node, items_of_kind, items_of_source, file_item, made_item}
use Rattle.split_core.specs.Order.{with_piece, with_pieces, first_pieces, first_piece}
use Rattle.split_core.proofs.Ordered.{All-with_piece}
use Rattle.book_core.specs.Runs.{AreLengthsOf, pieces_of}
use Rattle.book_core.specs.declared.live.Live.{Live}

module _ (P : Piece → Type 0) (first : (node item chunk len i : ℕ) → P (first_piece node item chunk len i)) where
  all_with : (pieces pending : List Piece) → All P pieces → All P pending → All P (with_pieces pieces pending)
  all_with [] pending h k = k
  all_with (p ∷ ps) pending h k = all_with ps (with_piece p pending) (All-tail P p ps h) (All-with_piece P p pending (All-head P p ps h) k)

  all_first : (node item len chunk : ℕ) (is : List ℕ) → All P (map (first_piece node item chunk len) is)
  all_first node item len chunk [] = All-nil P
  all_first node item len chunk (i ∷ is) =
      All-cons P (first_piece node item chunk len i) (map (first_piece node item chunk len) is) (first node item chunk len i) (all_first node item len chunk is)

  pub all_pieces : (chunk : ℕ) (files : List FileLen) (pending : List Piece) → All P pending
      → All P (fold (λ pieces file. with_pieces (first_pieces file.node file.item file.len chunk) pieces) pending files)
  all_pieces chunk [] pending h = h
  all_pieces chunk (file ∷ files) pending h =
      all_pieces chunk files (with_pieces (first_pieces file.node file.item file.len chunk) pending)
      (all_with (first_pieces file.node file.item file.len chunk) pending (all_first file.node file.item file.len chunk _) h)

pub enrolled_of : {X : Type 0} (f : Option Live → List X) (slots : List (Option Live)) → f None ≡ [] → flat_map f (slots ++ None ∷ []) ≡ flat_map f slots
enrolled_of f slots none = flat_map-append f slots (None ∷ []) ∙ ap (λ (l : List _). flat_map f slots ++ (l ++ [])) none ∙ append-nil (flat_map f slots)

-- what holds of the first pieces of each file
module _ (P : Piece → Type 0) where
  first_with : (node item chunk len : ℕ) → ((i : ℕ) → P (first_piece node item chunk len i)) → (places : List ℕ) (pending : List Piece) → All P pending
      → All P (with_pieces (map (first_piece node item chunk len) places) pending)
  first_with node item chunk len each [] pending h = h
  first_with node item chunk len each (i ∷ places) pending h =
      first_with node item chunk len each places (with_piece (first_piece node item chunk len i) pending) (All-with_piece P (first_piece node item chunk len i) pending (each i) h)

  pub pieces_of_files : (chunk : ℕ) (files : List FileLen) (pending : List Piece) → All (λ file. (i : ℕ) → P (first_piece file.node file.item chunk file.len i)) files → All P pending
      → All P (fold (λ pieces file. with_pieces (first_pieces file.node file.item file.len chunk) pieces) pending files)
  pieces_of_files chunk [] pending each h = h
  pieces_of_files chunk (file ∷ files) pending each h =
      pieces_of_files chunk files (with_pieces (first_pieces file.node file.item file.len chunk) pending) (All-tail (λ (f : FileLen). (i : ℕ) → P (first_piece f.node f.item chunk f.len i)) file files each)
      (first_with file.node file.item chunk file.len (All-head (λ (f : FileLen). (i : ℕ) → P (first_piece f.node f.item chunk f.len i)) file files each) (offsets 0 _) pending h)

-- ---- the nodes of items and pieces

abbrev IsItemBelow : ℕ → SourceItem → Type 0
IsItemBelow limit item = item.node < limit

source_below : (told : List FileText) (limit node : ℕ) (work : SourceKind) (args : Args) (names : List (List ℕ)) → node < limit
    → All (IsItemBelow limit) (items_of_source told node work args names)
source_below told limit node Lines args names h =
    All-map (IsItemBelow limit) (file_item told node Lines args) (enumerate_from 0 names) (λ k d less. h)
source_below told limit node TimedLines args names h =
    All-map (IsItemBelow limit) (file_item told node TimedLines args) (enumerate_from 0 names) (λ k d less. h)
source_below told limit node Count args names h = All-cons (IsItemBelow limit) (made_item node Count args) [] h (All-nil (IsItemBelow limit))
source_below told limit node Made args names h = All-cons (IsItemBelow limit) (made_item node Made args) [] h (All-nil (IsItemBelow limit))

kind_below : (told : List FileText) (limit node : ℕ) (kind : NodeKind) → node < limit → All (IsItemBelow limit) (items_of_kind told node kind)
kind_below told limit node (Source work args files e) h = source_below told limit node work args files h
kind_below told limit node (ParDo work args) h = All-nil (IsItemBelow limit)
kind_below told limit node Flatten h = All-nil (IsItemBelow limit)
kind_below told limit node (WindowInto strategy) h = All-nil (IsItemBelow limit)
kind_below told limit node (Group trigger) h = All-nil (IsItemBelow limit)
kind_below told limit node (Stateful work args log) h = All-nil (IsItemBelow limit)
kind_below told limit node (Write label) h = All-nil (IsItemBelow limit)

nodes_below : (told : List FileText) (limit start : ℕ) (nodes : List Node) → start + length nodes ≤ limit
    → All (IsItemBelow limit) (flat_map (items_of_node told) (enumerate_from start nodes))
nodes_below told limit start [] h = All-nil (IsItemBelow limit)
nodes_below told limit start (node ∷ nodes) h =
    All-append (IsItemBelow limit) (items_of_kind told start node.kind) (flat_map (items_of_node told) (enumerate_from (start + 1) nodes))
    (kind_below told limit start node.kind (omega (arith, h))) (nodes_below told limit (start + 1) nodes (omega (arith, h)))

abbrev pub IsFileBelow : ℕ → FileLen → Type 0
IsFileBelow limit file = file.node < limit

files_below : (limit : ℕ) (sources : List SourceItem) (files : List FileLen) → AreLengthsOf sources files → All (IsItemBelow limit) sources → All (IsFileBelow limit) files
files_below limit [] [] h k = All-nil (IsFileBelow limit)
files_below limit [] (file ∷ files) h k = absurd h
files_below limit (source ∷ sources) [] h k = absurd h
files_below limit (source ∷ sources) (file ∷ files) h k =
    All-cons (IsFileBelow limit) file files (omega (arith, h.0.0, All-head (IsItemBelow limit) source sources k))
    (files_below limit sources files h.1 (All-tail (IsItemBelow limit) source sources k))

abbrev pub IsPieceOf : ℕ → Piece → Type 0
IsPieceOf limit piece = piece.node < limit

pub all_files_below : (plan : Plan) (files : List FileLen) → AreLengthsOf (items [] plan) files → All (IsFileBelow (length plan.nodes)) files
all_files_below plan files lengths = files_below (length plan.nodes) (items [] plan) files lengths (nodes_below [] (length plan.nodes) 0 plan.nodes (omega arith))

pub all_pieces_below : (plan : Plan) (files : List FileLen) (chunk : ℕ) → AreLengthsOf (items [] plan) files → All (IsPieceOf (length plan.nodes)) (pieces_of chunk files)
all_pieces_below plan files chunk lengths =
    pieces_of_files (IsPieceOf (length plan.nodes)) chunk files []
    (All-weaker (IsFileBelow (length plan.nodes)) (λ file. (i : ℕ) → IsPieceOf (length plan.nodes) (first_piece file.node file.item chunk file.len i)) (λ file less i. less) files (all_files_below plan files lengths))
    (All-nil (IsPieceOf (length plan.nodes)))
