-- Lengths, node by node.
use Rattle.std.proofs.Common.{◌≡◌, ℕ, zero, suc, ◌+◌, ◌<◌, ◌≤◌, true, false, List, [], ◌∷◌, ◌++◌, length}
use Rattle.std.proofs.Common.{map, drop, get_or, ◌↔◌, Option, Some, None, slice_get, refl, sym, ap, subst, ◌∙◌, arith, drop-drop}
use Rattle.std.proofs.lemmas.Bool.{false≢true}
use Rattle.std.proofs.lemmas.List.{drop_all, drop_more, length-drop}
use Rattle.std.proofs.lemmas.Option.{get_or_from_slice_get, slice_get_within}
use Rattle.std.specs.List.{All, enumerate_from, flat_map}
use Rattle.std.proofs.lemmas.List.Elements.{All-cons, All-nil, All-weaker}
use Rattle.piece_checks.specs.Tiles.{AreItemsAscending, IsItemBelow}
use Rattle.beam_values.specs.Checked.{reads_file}
use Rattle.beam_values.specs.declared.piece.FileLen.{FileLen}
use Rattle.beam_values.specs.declared.plan.Args.{Args}
use Rattle.beam_values.specs.declared.plan.Node.{Node}
use Rattle.beam_values.specs.declared.plan.NodeKind.{NodeKind}
use Rattle.beam_values.specs.declared.plan.NodeKind.TheVariants.{Source, ParDo, Flatten, WindowInto, Group, Stateful, Write}
use Rattle.beam_values.specs.declared.plan.Plan.{Plan}
use Rattle.beam_values.specs.declared.plan.SourceKind.{SourceKind}
use Rattle.beam_values.specs.declared.plan.SourceKind.TheVariants.{Lines, TimedLines, Count, Made}
use Rattle.beam_model.specs.Positions.{SourceItem, file_item, file_items, items, items_of_kind, items_of_node, items_of_source, made_item}
use Rattle.stored_books.specs.Lengths.{GoOn, IsItemAt}
use Rattle.book_core.specs.Runs.{AreLengthsOf}

-- the items of files, from this one on
abbrev pub files_from : ℕ → SourceKind → Args → ℕ → List (List ℕ) → List SourceItem
files_from number work args item names = map (file_item [] number work args) (enumerate_from item names)

abbrev GoesOn : ℕ → ℕ → List (List ℕ) → List (List ℕ) → List FileLen → List FileLen → Type 0
GoesOn number item names left files after =
    (work : SourceKind) (args : Args) (others : List SourceItem) → reads_file work ≡ true
    → AreLengthsOf (files_from number work args 0 names ++ others) files ↔ AreLengthsOf (files_from number work args item left ++ others) after

-- the first lengths are those of the first files
pub record AreSoFar (number item : ℕ) (names : List (List ℕ)) (files : List FileLen) : Type 0 where
  pub within : item ≤ length files
  pub left : GoesOn number item names (drop item names) files (drop item files)

pub none_yet : (number : ℕ) (names : List (List ℕ)) (files : List FileLen) → AreSoFar number 0 names files
none_yet number names files = record { within = omega arith; left = λ work args others reads. (λ h. h, λ h. h) }

-- an item is there, or no length is left
abbrev IsLeft : List FileLen → ℕ → Option FileLen → Type 0
IsLeft files item (Some file) = (item < length files) × (drop item files ≡ file ∷ drop (item + 1) files)
IsLeft files item None = drop item files ≡ []

none_behind : (files : List FileLen) (item : ℕ) → slice_get files item ≡ None → drop item files ≡ []
none_behind [] zero e = refl
none_behind [] (suc item) e = refl
none_behind (file ∷ files) zero e = absurd (cc)
none_behind (file ∷ files) (suc item) e = none_behind files item e

what_is_left : (files : List FileLen) (item : ℕ) → IsLeft files item (slice_get files item)
what_is_left files item = by (slice_get files item) refl
  where
    by : (o : Option FileLen) → slice_get files item ≡ o → IsLeft files item o
    by (Some file) e =
        let within = slice_get_within files item file e in
        (within, drop_more files item file within ∙ ap (λ (f : FileLen). f ∷ drop (item + 1) files) (get_or_from_slice_get files item file file e))
    by None e = none_behind files item e

module _ (number item : ℕ) (names : List (List ℕ)) (files : List FileLen) (within : item < length names) (far : AreSoFar number item names files) where
  name : List ℕ
  name = get_or names item []

  names_left : drop item names ≡ name ∷ drop (item + 1) names
  unfolding name
  names_left = drop_more names item [] within

  pub one_more : IsItemAt number item (slice_get files item) → AreSoFar number (item + 1) names files
  one_more is = by (slice_get files item) is (what_is_left files item)
    where
      by : (o : Option FileLen) → IsItemAt number item o → IsLeft files item o → AreSoFar number (item + 1) names files
      by None is left = absurd is
      by (Some file) is left = record {
        within = omega (arith, left.0);
        left = λ work args others reads. (
          λ h. (subst (AreLengthsOf (files_from number work args item (name ∷ drop (item + 1) names) ++ others)) left.1
              (subst (λ (ns : List (List ℕ)). AreLengthsOf (files_from number work args item ns ++ others) (drop item files)) names_left
              ((far.left work args others reads).0 h))).1,
          λ h. (far.left work args others reads).1
              (subst (λ (ns : List (List ℕ)). AreLengthsOf (files_from number work args item ns ++ others) (drop item files)) (sym names_left)
              (subst (AreLengthsOf (files_from number work args item (name ∷ drop (item + 1) names) ++ others)) (sym left.1)
              ((is.0, is.1, λ no. absurd (false≢true (sym no ∙ reads))), h))),
        );
      }

  pub is_missing : (work : SourceKind) (args : Args) (others : List SourceItem) → reads_file work ≡ true
      → AreLengthsOf (files_from number work args 0 names ++ others) files → IsItemAt number item (slice_get files item)
  is_missing work args others reads h =
      by (slice_get files item) (what_is_left files item)
      (subst (λ (ns : List (List ℕ)). AreLengthsOf (files_from number work args item ns ++ others) (drop item files)) names_left
      ((far.left work args others reads).0 h))
    where
      by : (o : Option FileLen) → IsLeft files item o
          → AreLengthsOf (files_from number work args item (name ∷ drop (item + 1) names) ++ others) (drop item files) → IsItemAt number item o
      by None left h = subst (AreLengthsOf (files_from number work args item (name ∷ drop (item + 1) names) ++ others)) left h
      by (Some file) left h =
          let is = subst (AreLengthsOf (files_from number work args item (name ∷ drop (item + 1) names) ++ others)) left.1 h in
          (is.0.0, is.0.1)

pub no_more : (number item : ℕ) (names : List (List ℕ)) (files : List FileLen) → item ≡ length names → AreSoFar number item names files
    → (work : SourceKind) (args : Args) (others : List SourceItem)
    → reads_file work ≡ true → AreLengthsOf (files_from number work args 0 names ++ others) files ↔ AreLengthsOf others (drop (length names) files)
no_more number item names files all far work args others reads =
    subst (λ (left : List (List ℕ)). AreLengthsOf (files_from number work args 0 names ++ others) files ↔ AreLengthsOf
    (files_from number work args item left ++ others) (drop (length names) files))
    (drop_all item names (omega arith))
    (subst (λ (k : ℕ). AreLengthsOf (files_from number work args 0 names ++ others) files ↔ AreLengthsOf
    (files_from number work args item (drop item names) ++ others) (drop k files)) all (far.left work args others reads))

-- ---- the items of a source

files_read : (number : ℕ) (work : SourceKind) (args : Args) (names : List (List ℕ)) → reads_file work ≡ true
    → items_of_source [] number work args names ≡ file_items [] number work args names
files_read number Lines args names e = refl
files_read number TimedLines args names e = refl
files_read number Count args names e = absurd (false≢true e)
files_read number Made args names e = absurd (false≢true e)

one_made : (number : ℕ) (work : SourceKind) (args : Args) (names : List (List ℕ)) → reads_file work ≡ false → items_of_source [] number work args names
    ≡ made_item number work args ∷ []
one_made number Lines args names e = absurd (false≢true (sym e))
one_made number TimedLines args names e = absurd (false≢true (sym e))
one_made number Count args names e = refl
one_made number Made args names e = refl

module _ (number : ℕ) (work : SourceKind) (args : Args) (names : List (List ℕ)) (files : List FileLen) (own : Option ℕ) where
  abbrev Owns : List SourceItem → Type 0
  Owns mine = (others : List SourceItem) → AreLengthsOf (mine ++ others) files ↔ GoOn own others files

  pub of_files : reads_file work ≡ true → Owns (file_items [] number work args names) → Owns (items_of_source [] number work args names)
  of_files e h = subst Owns (sym (files_read number work args names e)) h

  pub of_made : reads_file work ≡ false → Owns (made_item number work args ∷ []) → Owns (items_of_source [] number work args names)
  of_made e h = subst Owns (sym (one_made number work args names e)) h

-- ---- node by node

abbrev pub items_from : ℕ → List Node → List SourceItem
items_from number nodes = flat_map (items_of_node []) (enumerate_from number nodes)

-- the first lengths are those of the items of the first nodes
pub record AreOfNodes (nodes : List Node) (files : List FileLen) (number at : ℕ) : Type 0 where
  pub within : at ≤ length files
  pub left : AreLengthsOf (items_from 0 nodes) files ↔ AreLengthsOf (items_from number (drop number nodes)) (drop at files)

pub no_node_yet : (nodes : List Node) (files : List FileLen) → AreOfNodes nodes files 0 0
no_node_yet nodes files = record { within = omega arith; left = (λ h. h, λ h. h) }

module _ (nodes : List Node) (files : List FileLen) (number at : ℕ) (node : Node) (within : number < length nodes)
    (is : node ≡ get_or nodes number node) (far : AreOfNodes nodes files number at) where
  node_left : drop number nodes ≡ node ∷ drop (number + 1) nodes
  node_left = drop_more nodes number node within ∙ ap (λ (n : Node). n ∷ drop (number + 1) nodes) (sym is)

  here : AreLengthsOf (items_from 0 nodes) files
      ↔ AreLengthsOf (items_of_node [] (number, node) ++ items_from (number + 1) (drop (number + 1) nodes)) (drop at files)
  here = subst (λ (left : List Node). AreLengthsOf (items_from 0 nodes) files ↔ AreLengthsOf (items_from number left) (drop at files)) node_left far.left

  pub node_more : (own : ℕ) → own ≤ length (drop at files)
      → ((others : List SourceItem) → AreLengthsOf (items_of_node [] (number, node) ++ others) (drop at files) ↔ AreLengthsOf others (drop own (drop at files)))
      → AreOfNodes nodes files (number + 1) (at + own)
  node_more own few goes =
      let others = items_from (number + 1) (drop (number + 1) nodes) in
      let behind : drop own (drop at files) ≡ drop (at + own) files = drop-drop own at files in
      record {
        within = omega (arith, far.within, simp length-drop at few);
        left = (
          λ h. subst (AreLengthsOf others) behind ((goes others).0 (here.0 h)),
          λ h. here.1 ((goes others).1 (subst (AreLengthsOf others) (sym behind) h)),
        );
      }

  pub node_fails : ((others : List SourceItem) → AreLengthsOf (items_of_node [] (number, node) ++ others) (drop at files) → ⊥)
      → AreLengthsOf (items_from 0 nodes) files → ⊥
  node_fails fails h = fails (items_from (number + 1) (drop (number + 1) nodes)) (here.0 h)

pub nodes_all : (nodes : List Node) (files : List FileLen) (number at : ℕ) → length nodes ≤ number → AreOfNodes nodes files number at
    → AreLengthsOf (items_from 0 nodes) files ↔ (at ≡ length files)
nodes_all nodes files number at all far = (λ h. whole (here.0 h), λ e. here.1 (subst (AreLengthsOf []) (sym (drop_all at files (omega (arith, e)))) tt))
  where
    here : AreLengthsOf (items_from 0 nodes) files ↔ AreLengthsOf [] (drop at files)
    here = subst (λ (left : List Node). AreLengthsOf (items_from 0 nodes) files ↔ AreLengthsOf (items_from number left) (drop at files))
        (drop_all number nodes all) far.left

    none : (left : List FileLen) → AreLengthsOf [] left → length left ≡ 0
    none [] h = refl
    none (file ∷ left) h = absurd h

    whole : AreLengthsOf [] (drop at files) → at ≡ length files
    whole h = omega (arith, far.within, sym (length-drop at files) ∙ none (drop at files) h)

-- ---- in order

abbrev IsFrom : ℕ → FileLen → Type 0
IsFrom number file = number ≤ file.node

record IsFromItem (number place : ℕ) (file : FileLen) : Type 0 where
  pub at_node : number ≤ file.node
  pub at_item : file.node ≡ number → place ≤ file.item

abbrev AreUp : (FileLen → Type 0) → List FileLen → Type 0
AreUp P files = AreItemsAscending files × All P files

later_items : (number place : ℕ) (files : List FileLen) → All (IsFrom (number + 1)) files → All (IsFromItem number place) files
later_items number place files all =
    All-weaker (IsFrom (number + 1)) (IsFromItem number place)
    (λ f up. record { at_node = omega (arith, up); at_item = λ e. absurd (omega (arith, up, e)) }) files all

names_up : (number : ℕ) (work : SourceKind) (args : Args) (place : ℕ) (names : List (List ℕ)) (others : List SourceItem) (files : List FileLen)
    → ((left : List FileLen) → AreLengthsOf others left → AreUp (IsFrom (number + 1)) left)
    → AreLengthsOf (files_from number work args place names ++ others) files → AreUp (IsFromItem number place) files
names_up number work args place [] others files rest h = let r = rest files h in (r.0, later_items number place files r.1)
names_up number work args place (name ∷ names) others [] rest h = absurd h
names_up number work args place (name ∷ names) others (file ∷ files) rest h =
    let r = names_up number work args (place + 1) names others files rest h.1 in
    let at_node : file.node ≡ number = h.0.0 in
    let at_item : file.item ≡ place = h.0.1 in (
      (
        All-weaker (IsFromItem number (place + 1)) (IsItemBelow file)
            (λ f up. record { node = omega (arith, up.at_node, at_node); item = λ e. omega (arith, at_item, up.at_item (sym e ∙ at_node)) }) files r.1,
        r.0,
      ),
      All-cons (IsFromItem number place) file files (record { at_node = omega (arith, at_node); at_item = λ e. omega (arith, at_item) })
          (All-weaker (IsFromItem number (place + 1)) (IsFromItem number place)
          (λ f up. record { at_node = up.at_node; at_item = λ e. omega (arith, up.at_item e) }) files r.1),
    )

from_items : (number : ℕ) (files : List FileLen) → AreUp (IsFromItem number 0) files → AreUp (IsFrom number) files
from_items number files r = (r.0, All-weaker (IsFromItem number 0) (IsFrom number) (λ f up. up.at_node) files r.1)

made_up : (number : ℕ) (work : SourceKind) (args : Args) (others : List SourceItem) (files : List FileLen)
    → ((left : List FileLen) → AreLengthsOf others left → AreUp (IsFrom (number + 1)) left)
    → AreLengthsOf (made_item number work args ∷ others) files → AreUp (IsFrom number) files
made_up number work args others [] rest h = absurd h
made_up number work args others (file ∷ files) rest h =
    let r = rest files h.1 in
    let at_node : file.node ≡ number = h.0.0 in (
      (
        All-weaker (IsFrom (number + 1)) (IsItemBelow file)
            (λ f up. record { node = omega (arith, up, at_node); item = λ e. absurd (omega (arith, up, at_node, e)) }) files r.1,
        r.0,
      ),
      All-cons (IsFrom number) file files (omega (arith, at_node)) (All-weaker (IsFrom (number + 1)) (IsFrom number) (λ f up. omega (arith, up)) files r.1),
    )

more_up : (number : ℕ) (files : List FileLen) → AreUp (IsFrom (number + 1)) files → AreUp (IsFrom number) files
more_up number files r = (r.0, All-weaker (IsFrom (number + 1)) (IsFrom number) (λ f up. omega (arith, up)) files r.1)

kind_up : (number : ℕ) (kind : NodeKind) (others : List SourceItem) (files : List FileLen)
    → ((left : List FileLen) → AreLengthsOf others left → AreUp (IsFrom (number + 1)) left)
    → AreLengthsOf (items_of_kind [] number kind ++ others) files → AreUp (IsFrom number) files
kind_up number (Source Lines args names estimator) others files rest h = from_items number files (names_up number Lines args 0 names others files rest h)
kind_up number (Source TimedLines args names estimator) others files rest h = from_items number files
    (names_up number TimedLines args 0 names others files rest h)
kind_up number (Source Count args names estimator) others files rest h = made_up number Count args others files rest h
kind_up number (Source Made args names estimator) others files rest h = made_up number Made args others files rest h
kind_up number (ParDo work args) others files rest h = more_up number files (rest files h)
kind_up number Flatten others files rest h = more_up number files (rest files h)
kind_up number (WindowInto strategy) others files rest h = more_up number files (rest files h)
kind_up number (Group trigger) others files rest h = more_up number files (rest files h)
kind_up number (Stateful work args log) others files rest h = more_up number files (rest files h)
kind_up number (Write label) others files rest h = more_up number files (rest files h)

nodes_up : (number : ℕ) (nodes : List Node) (files : List FileLen) → AreLengthsOf (items_from number nodes) files → AreUp (IsFrom number) files
nodes_up number [] [] h = (tt, All-nil (IsFrom number))
nodes_up number [] (file ∷ files) h = absurd h
nodes_up number (node ∷ nodes) files h = kind_up number node.kind (items_from (number + 1) nodes) files (λ left l. nodes_up (number + 1) nodes left l) h

-- items are listed by node and number, so their lengths are
pub items_ascend : (plan : Plan) (files : List FileLen) → AreLengthsOf (items [] plan) files → AreItemsAscending files
items_ascend plan files h = (nodes_up 0 plan.nodes files h).0
